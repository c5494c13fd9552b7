-- What rows say of the parities.
use Rattle.std.proofs.Common.{◌≡◌, ℕ, ◌+◌, ◌-◌, ◌<◌, ◌≤◌, zero, suc, Bool, true, false, not, ◌&&◌, eqb, List, [], ◌∷◌, map, length, get_or, set, Option, Some, None, unwrap_or, inl, inr, ◌⊎◌, refl, sym, ap, ◌∙◌, subst, arith, true≢false}
use Rattle.std.specs.List.{list_all, AllByRecursion, range_with_len}
use Rattle.std.specs.FinSet as set
use Rattle.std.proofs.lemmas.List.{length-map, get_or-set_same, get_or-set_other}
use Rattle.std.proofs.Math.ListN.{get_or-map, length-set, get_or-eq_default}
use Rattle.std.proofs.lemmas.List.FromFn.{get_or-map-range_with_len, length-map-range_with_len}
use Rattle.std.proofs.lemmas.Bool.{cases_eq, cases_lt, ne_eqb}
use Rattle.cx_base.specs.Literals.{Literal, differ, value_of}
use Rattle.cx_base.specs.Problem.{AreWithin, parity_met}
use Rattle.cx_base.specs.Parity.{NormalForm, normal_form, odd_sum}
use Rattle.cx_base.proofs.ParityLaws.{Sums, differ_false}
use Rattle.cx_base.proofs.Differences.{differ_itself, differ_again, own_sign}
use Rattle.cx_semantics.specs.Chain.{has_literal}
use Rattle.cx_semantics.specs.Forced.{Solves, Forced}
use Rattle.parity_engine.specs.Equations.{Equation, has_term, form_of, sum_of_numbers, parity_number}
use Rattle.gf2_matrix.specs.Totals.{total, MeetsEquation}
use Rattle.gf2_matrix.proofs.Products.{products_turned, products_same}
use Rattle.parity_engine.proofs.Forms.{contains-form, contains-form_zero}
use Rattle.gf2_matrix.proofs.FormSums.{contains-sum_of_numbers, AreNumbers, every-at, sum_below-same, sum_met, meets_from_Sums}
use Rattle.parity_engine.proofs.Literals.{contains_parity}
use Rattle.gauss_jordan.specs.Rows.{IsFinished, Agrees}
use Rattle.parity_engine.specs.declared.state.Held.{Held}
use Rattle.parity_engine.specs.State.{State, known, held_at, is_unassigned, IsImplied, IsBroken, AgreesWith}
use Rattle.parity_engine.specs.Written.{AreRising}
use Rattle.gauss_jordan.specs.System.{just_value, part, has_at, equation_at, has_term_at, total_at, right_at, IsSystemOf, filled, IsWhole, IsOneOpen, SilentFromQuiet, ImpliedFromUnit, BrokenFromWhole}
use Rattle.gauss_jordan.proofs.Quiet.{IsLinear, open_from_quiet}
use Rattle.parity_engine.proofs.Known.{sign_from, known_true, agrees_known, has_known}
use Rattle.gauss_jordan.proofs.Resized.{resized, length-resized, resized-at, all_met-resized, form_met, form_missed}

-- ---- the part
pub part-at : (s : State) (x : ℕ) → get_or (part s) x None ≡ just_value (get_or s.values x None)
part-at s x = get_or-map just_value s.values x None

pub none_from : (o : Option Held) → is_unassigned o ≡ true → just_value o ≡ None
none_from None h = refl
none_from (Some h') h = cc

some_from : (o : Option Held) → is_unassigned o ≡ false → (b : Bool) × (just_value o ≡ Some b)
some_from None h = cc
some_from (Some h') h = (h'.value, refl)

length-part : (s : State) → length (part s) ≡ length s.values
length-part s = length-map s.values just_value

pub length-filled : (s : State) → length (filled s) ≡ length s.values
length-filled s = length-map (part s) (λ o. unwrap_or o false) ∙ length-part s

pub filled-at : (s : State) (x : ℕ) → get_or (filled s) x false ≡ unwrap_or (get_or (part s) x None) false
filled-at s x = get_or-map (λ o. unwrap_or o false) (part s) x None

pub filled_agrees : (s : State) → Agrees (part s) (filled s)
filled_agrees s x b is = filled-at s x ∙ ap (λ o. unwrap_or o false) is

-- values that agree with the part are the filled ones where the part has a value
same_where_assigned : (s : State) (v : List Bool) (x : ℕ) → Agrees (part s) v → is_unassigned (get_or s.values x None) ≡ false → get_or v x false ≡ get_or (filled s) x false
same_where_assigned s v x agrees h =
    let some = some_from (get_or s.values x None) h in
    let is : get_or (part s) x None ≡ Some some.0 = part-at s x ∙ some.1 in
    agrees x some.0 is ∙ sym (filled_agrees s x some.0 is)

-- ---- values of any length that agree with what is known
value-some : (o : Option Held) (b : Bool) → just_value o ≡ Some b → (h : Held) × (o ≡ Some h) × (h.value ≡ b)
value-some None b is = cc
value-some (Some h) b is = (h, refl, cc)

pub agrees_resized : (s : State) (v : List Bool) → length s.values ≡ s.vars → AgreesWith (known s) v → Agrees (part s) (resized s.vars v)
agrees_resized s v wide agree x b is =
    let some = value-some (get_or s.values x None) b (sym (part-at s x) ∙ is) in
    let at : 1 + x - 1 ≡ x = omega arith in
    let inside : x < s.vars =
    elim (cases_lt x s.vars) [
      | inl lt ↦ lt
      | inr ge ↦ absurd (let clash : None ≡ Some some.0 = sym (get_or-eq_default s.values None (omega arith)) ∙ some.1 in cc)
    ] in
    resized-at s.vars v x inside ∙ ap (λ i. get_or v i false) (sym at) ∙ agrees_known 1 s.values v (omega arith) agree x some.0 some.1 ∙ some.2

pub known_agrees : (s : State) (v : List Bool) → Agrees (part s) v → AgreesWith (known s) v
known_agrees s v agrees =
    known_true 1 s.values v (omega arith)
    (λ x h is. let at : 1 + x - 1 ≡ x = omega arith in ap (λ i. get_or v i false) at ∙ agrees x h.value (part-at s x ∙ ap just_value is))

-- ---- laws
module _ (s : State) (rows : List Equation) (within : AllByRecursion (AreWithin s.vars) s.parities) (wide : length s.values ≡ s.vars) (system : IsSystemOf s rows) where
  pub whole_total : (i : ℕ) → i < length rows → IsWhole s (has_term (equation_at rows i)) → (v : List Bool) → length v ≡ s.vars → Agrees (part s) v
      → total_at rows i v ≡ total_at rows i (filled s)
  whole_total i lt whole v long agrees =
      products_same (equation_at rows i).terms v (filled s) (system.long i lt ∙ sym long) (system.long i lt ∙ sym wide ∙ sym (length-filled s))
      (λ x in' has. same_where_assigned s v x agrees (whole x has))

  pub finished_from_whole : (i : ℕ) → i < length rows → IsWhole s (has_term (equation_at rows i)) → total_at rows i (filled s) ≡ right_at rows i
      → IsFinished s.vars (total_at rows) (right_at rows) (part s) i
  finished_from_whole i lt whole met v long agrees = whole_total i lt whole v long agrees ∙ met

  pub broken : (i : ℕ) → i < length rows → IsWhole s (has_term (equation_at rows i)) → (total_at rows i (filled s) ≡ right_at rows i → ⊥) → IsBroken s (form_of (equation_at rows i))
  broken i lt whole unmet =
      let e : Equation = equation_at rows i in
      let misses : (v : List Bool) → AgreesWith (known s) v → MeetsEquation (resized s.vars v) e → ⊥ =
      λ v agree met. unmet (sym (whole_total i lt whole (resized s.vars v) (length-resized s.vars v) (agrees_resized s v wide agree)) ∙ met) in
      record {
        none = λ c.
            misses c.0 c.1.agrees (system.sound (resized s.vars c.0) (length-resized s.vars c.0) (all_met-resized s.vars c.0 s.parities within ∙ c.1.meets) i lt);
        whole = λ v has. whole_at v has;
        unmet = λ v agree lits is. form_missed s.vars v e lits (system.long i lt) is (misses v agree);
      }
    where
      whole_at : (v : ℕ) → set.contains (form_of (equation_at rows i)).variables v ≡ true → is_unassigned (held_at s.values v) ≡ false
      whole_at zero has = absurd (true≢false (sym has ∙ contains-form_zero (equation_at rows i)))
      whole_at (suc x) has =
          let q : suc x ≡ x + 1 = omega arith in
          let r : suc x - 1 ≡ x = omega arith in
          ap (λ y. is_unassigned (get_or s.values y None)) r
          ∙ whole x (sym (contains-form (equation_at rows i) x) ∙ ap (set.contains (form_of (equation_at rows i)).variables) (sym q) ∙ has)

-- a row whose one unassigned value is y
unit_met : (known y right : Bool) → differ known y ≡ right → differ (not (differ known right)) y ≡ true
unit_met known y right is = ap (λ d. differ (not d) y) (ap (differ known) (sym is) ∙ differ_again known y) ∙ own_sign y

unit_back : (known y right : Bool) → differ (not (differ known right)) y ≡ true → differ known y ≡ right
unit_back known y right h = ap (differ known) (sign_from (differ known right) y h) ∙ differ_again known right

module _ (s : State) (e : Equation) (wide : length s.values ≡ s.vars) (long_e : length e.terms ≡ s.vars)
    (within : AllByRecursion (AreWithin s.vars) s.parities)
    (sound : (v : List Bool) → length v ≡ s.vars → list_all (parity_met v) s.parities ≡ true → MeetsEquation v e) (x : ℕ) (unit : IsOneOpen s (has_term e) x) where
  -- the sum of the row is what is known and the value at x
  unit_total : (v : List Bool) → length v ≡ s.vars → Agrees (part s) v → total e v ≡ differ (total e (filled s)) (get_or v x false)
  unit_total v long agrees =
      let f : List Bool = filled s in
      let longf : length f ≡ s.vars = length-filled s ∙ wide in
      let open_x : get_or f x false ≡ false =
      filled-at s x ∙ ap (λ o. unwrap_or o false) (part-at s x ∙ none_from (get_or s.values x None) unit.unassigned) in
      let cases : (b : Bool) → get_or v x false ≡ b → total e v ≡ differ (total e f) b =
      elim [
        | true ↦ λ is.
            products_same e.terms v (set f x (not (get_or f x false))) (long_e ∙ sym long)
            (long_e ∙ sym longf ∙ sym (length-set f x (not (get_or f x false))))
            (λ y in' has.
            elim (cases_eq y x) [
              | inl q ↦
                  subst (λ z. get_or v z false ≡ get_or (set f x (not (get_or f x false))) z false) (sym q)
                  (is ∙ sym (get_or-set_same f x (not (get_or f x false)) false (omega (arith, unit.within)) ∙ ap not open_x))
              | inr ne ↦ same_where_assigned s v y agrees (unit.others y ne has) ∙ sym (get_or-set_other f x y (not (get_or f x false)) false ne)
            ])
            ∙ products_turned e.terms f x (long_e ∙ sym longf) (omega (arith, unit.within))
            ∙ ap (differ (total e f)) unit.has_it
        | false ↦ λ is.
            products_same e.terms v f (long_e ∙ sym long) (long_e ∙ sym longf)
            (λ y in' has.
            elim (cases_eq y x) [
              | inl q ↦ subst (λ z. get_or v z false ≡ get_or f z false) (sym q) (is ∙ sym open_x)
              | inr ne ↦ same_where_assigned s v y agrees (unit.others y ne has)
            ])
            ∙ sym (differ_false (total e f))
      ] in
      cases (get_or v x false) refl

  at_x : x + 1 - 1 ≡ x
  at_x = omega arith

  -- the values at x, for values of any length
  own_value : (v : List Bool) → get_or (resized s.vars v) x false ≡ get_or v (x + 1 - 1) false
  own_value v = resized-at s.vars v x unit.within ∙ ap (λ i. get_or v i false) (sym at_x)

  others_at : (v : ℕ) → (v ≡ x + 1 → ⊥) → set.contains (form_of e).variables v ≡ true → is_unassigned (held_at s.values v) ≡ false
  others_at zero ne has = absurd (true≢false (sym has ∙ contains-form_zero e))
  others_at (suc y) ne has =
      let q : suc y ≡ y + 1 = omega arith in
      let r : suc y - 1 ≡ y = omega arith in
      ap (λ z. is_unassigned (get_or s.values z None)) r
      ∙ unit.others y (λ h. ne (omega arith)) (sym (contains-form e y) ∙ ap (set.contains (form_of e).variables) (sym q) ∙ has)

  pub implied : IsImplied s (record { variable = x + 1; negative = not (differ (total e (filled s)) (e.right)) }) (form_of e)
  implied = record {
    low = omega arith;
    high = omega (arith, unit.within);
    unassigned = ap (λ i. is_unassigned (get_or s.values i None)) at_x ∙ unit.unassigned;
    forced = λ v is.
        let w : List Bool = resized s.vars v in
        let long : length w ≡ s.vars = length-resized s.vars v in
        ap (differ (not (differ (total e (filled s)) e.right))) (sym (own_value v))
        ∙ unit_met (total e (filled s)) (get_or w x false) (e.right)
        (sym (unit_total w long (agrees_resized s v wide is.agrees)) ∙ sound w long (all_met-resized s.vars v s.parities within ∙ is.meets));
    has = contains-form e x ∙ unit.has_it;
    others = others_at;
    met = λ v agree true' lits is.
        let w : List Bool = resized s.vars v in
        let long : length w ≡ s.vars = length-resized s.vars v in
        form_met s.vars v e lits long_e is
        (unit_total w long (agrees_resized s v wide agree)
        ∙ unit_back (total e (filled s)) (get_or w x false) (e.right) (ap (differ (not (differ (total e (filled s)) e.right))) (own_value v) ∙ true'));
  }

held_cases : (b h : Bool) → (h ≡ not b) ⊎ (h ≡ b)
held_cases true true = inr refl
held_cases true false = inl refl
held_cases false true = inl refl
held_cases false false = inr refl

sign-back : (h b : Bool) → h ≡ not b → b ≡ not h
sign-back true true e = cc
sign-back true false e = refl
sign-back false true e = refl
sign-back false false e = cc

pub silent_from_quiet : SilentFromQuiet
silent_from_quiet s rows basic other wide system quiet =
    let linear : IsLinear (length rows) s.vars (has_term_at rows) (total_at rows) =
    λ i x v lt long in'. products_turned (equation_at rows i).terms v x (system.long i lt ∙ sym long) (omega arith) in
    let opened = open_from_quiet (length rows) s.vars (has_term_at rows) (total_at rows) (right_at rows) linear (part s) basic other quiet (length-part s ∙ wide) in
    let solves : (v : List Bool) → length v ≡ s.vars → Agrees (part s) v → ((i : ℕ) → i < length rows → total_at rows i v ≡ right_at rows i) → Solves s.parities (known s) v =
    λ v long agrees meets. record { agrees = known_agrees s v agrees; meets = system.complete v long meets } in
    let first = solves opened.0.0 opened.0.1.long opened.0.1.agrees opened.0.1.meets in
    record {
      consistent = (opened.0.0, first);
      forced = λ l low high f.
          held_or_open s l low (get_or s.values (l.variable - 1) None) refl
          (λ h is same.
          let v : List Bool = opened.0.0 in
          let at : get_or v (l.variable - 1) false ≡ l.negative = opened.0.1.agrees (l.variable - 1) h.value (part-at s (l.variable - 1) ∙ ap just_value is) ∙ same in
          true≢false (sym (f v first) ∙ ap (differ l.negative) at ∙ differ_itself l.negative))
          (λ is.
          let one = opened.1 (l.variable - 1) l.negative (omega arith) (part-at s (l.variable - 1) ∙ ap just_value is) in
          true≢false (sym (f one.0 (solves one.0 one.1.long one.1.agrees one.1.meets)) ∙ ap (differ l.negative) one.2 ∙ differ_itself l.negative));
    }
  where
    held_or_open : (s : State) (l : Literal) → 1 ≤ l.variable → (o : Option Held) → get_or s.values (l.variable - 1) None ≡ o
        → ((h : Held) → get_or s.values (l.variable - 1) None ≡ Some h → h.value ≡ l.negative → ⊥) → (get_or s.values (l.variable - 1) None ≡ None → ⊥)
        → has_literal (known s) l ≡ true
    held_or_open s l low None is wrong free = absurd (free is)
    held_or_open s l low (Some h) is wrong free =
        elim (held_cases l.negative h.value) [
          | inl right ↦ has_known 1 s.values (l.variable - 1) h l is (omega arith) (sign-back h.value l.negative right)
          | inr same ↦ absurd (wrong h is same)
        ]

pub implied_from_unit : ImpliedFromUnit
implied_from_unit s rows i x within wide system lt unit =
    implied s (equation_at rows i) wide (system.long i lt) within (λ v long met. system.sound v long met i lt) x unit

pub broken_from_whole : BrokenFromWhole
broken_from_whole s rows i within wide system lt whole unmet = broken s rows within wide system i lt whole unmet

-- ---- sums of the given parities
rising_numbers : (least count : ℕ) (ks : List ℕ) → 1 ≤ least → AreRising least count ks → AreNumbers count ks
rising_numbers least count [] low rise = tt
rising_numbers least count (k ∷ ks) low rise = let a = rise.0 in ((omega arith, rise.1), rising_numbers (k + 1) count ks (omega arith) rise.2)

-- a form as an equation over the variables
dense : ℕ → NormalForm → Equation
dense vars f = record { terms = map (λ x. set.contains f.variables (x + 1)) (range_with_len 0 vars); right = f.right_side }

term-dense : (vars : ℕ) (f : NormalForm) (x : ℕ) → x < vars → has_term (dense vars f) x ≡ has_at f x
unfolding dense
term-dense vars f x lt = get_or-map-range_with_len (λ y. set.contains f.variables (y + 1)) 0 vars x x false lt (omega arith)

long-dense : (vars : ℕ) (f : NormalForm) → length (dense vars f).terms ≡ vars
unfolding dense
long-dense vars f = length-map-range_with_len (λ y. set.contains f.variables (y + 1)) 0 vars

right-dense : (vars : ℕ) (f : NormalForm) → (dense vars f).right ≡ f.right_side
unfolding dense
right-dense vars f = refl

no_zero : (vars : ℕ) (lits : List Literal) → AreWithin vars lits → odd_sum (map (λ (l : Literal). eqb l.variable 0) lits) ≡ false
no_zero vars [] within = refl
no_zero vars (l ∷ lits) within = (λ i. differ (ne_eqb l.variable 0 (λ e. let h = within.0.0 in omega arith) i) (no_zero vars lits within.1 i))

sum_zero : (vars : ℕ) (given : List (List Literal)) (numbers : List ℕ) → AllByRecursion (AreWithin vars) given → AreNumbers (length given) numbers
    → odd_sum (map (λ k. set.contains (normal_form (parity_number given k)).variables 0) numbers) ≡ false
sum_zero vars given [] within are = refl
sum_zero vars given (k ∷ numbers) within are =
    let lt : k - 1 < length given = let h = are.0 in omega arith in
    (λ i. differ
    ((contains_parity (parity_number given k) 0 ∙ no_zero vars (parity_number given k) (every-at (AreWithin vars) given (k - 1) [] within lt)) i)
    (sum_zero vars given numbers within are.1 i))

-- the values sum over the equation as over the form
dense_sums : (vars : ℕ) (v : List Bool) (f : NormalForm) → set.contains f.variables 0 ≡ false → Sums (suc vars) v f → Sums (suc vars) v (form_of (dense vars f))
dense_sums vars v f zero_out sums =
    sum_below-same (suc vars) (λ x. set.contains (form_of (dense vars f)).variables x && value_of v x) (λ x. set.contains f.variables x && value_of v x)
    (λ x lt. ap (λ b. b && value_of v x) (alike x lt))
    ∙ sums ∙ sym (right-dense vars f)
  where
    alike : (x : ℕ) → x < suc vars → set.contains (form_of (dense vars f)).variables x ≡ set.contains f.variables x
    alike zero lt = contains-form_zero (dense vars f) ∙ sym zero_out
    alike (suc x) lt =
        let q : suc x ≡ x + 1 = omega arith in
        ap (set.contains (form_of (dense vars f)).variables) q ∙ contains-form (dense vars f) x ∙ term-dense vars f x (omega arith)
        ∙ ap (set.contains f.variables) (sym q)

-- a sum of the parities with one unassigned variable implies its literal
pub implied_by_sum : (s : State) (f : NormalForm) (numbers : List ℕ) (x : ℕ) → AllByRecursion (AreWithin s.vars) s.parities → length s.values ≡ s.vars
    → AreRising 1 (length s.parities) numbers → f ≡ sum_of_numbers s.parities numbers → IsOneOpen s (has_at f) x
    → (l : Literal) × (l.variable ≡ x + 1) × Forced s.parities (known s) l
implied_by_sum s f numbers x within wide rise is unit =
    let e : Equation = dense s.vars f in
    let are = rising_numbers 1 (length s.parities) numbers (omega arith) rise in
    let zero_out : set.contains f.variables 0 ≡ false =
    ap (λ (g : NormalForm). set.contains g.variables 0) is ∙ contains-sum_of_numbers s.parities numbers 0 ∙ sum_zero s.vars s.parities numbers within are in
    let sound : (v : List Bool) → length v ≡ s.vars → list_all (parity_met v) s.parities ≡ true → MeetsEquation v e =
    λ v long met.
    meets_from_Sums s.vars v e (long-dense s.vars f ∙ sym long) (omega arith)
    (dense_sums s.vars v f zero_out (subst (Sums (suc s.vars) v) (sym is) (sum_met s.vars s.vars v s.parities numbers (omega arith) within met are))) in
    let dense_unit : IsOneOpen s (has_term e) x = record {
      within = unit.within;
      has_it = term-dense s.vars f x unit.within ∙ unit.has_it;
      unassigned = unit.unassigned;
      others = λ y ne has.
          elim (cases_lt y s.vars) [
            | inl lt ↦ unit.others y ne (sym (term-dense s.vars f y lt) ∙ has)
            | inr ge ↦ absurd (true≢false (sym has ∙ get_or-eq_default e.terms false (omega (arith, long-dense s.vars f))))
          ];
    } in
    let made = implied s e wide (long-dense s.vars f) within sound x dense_unit in
    (record { variable = x + 1; negative = not (differ (total e (filled s)) e.right) }, refl, made.forced)

-- an equation that is such a sum implies its literal
pub implied_by_equation : (s : State) (e : Equation) (numbers : List ℕ) (x : ℕ) → AllByRecursion (AreWithin s.vars) s.parities → length s.values ≡ s.vars
    → length e.terms ≡ s.vars → AreRising 1 (length s.parities) numbers → form_of e ≡ sum_of_numbers s.parities numbers → IsOneOpen s (has_at (form_of e)) x
    → IsImplied s (record { variable = x + 1; negative = not (differ (total e (filled s)) e.right) }) (form_of e)
implied_by_equation s e numbers x within wide long_e rise is unit =
    implied s e wide long_e within
    (λ v long met.
    meets_from_Sums s.vars v e (long_e ∙ sym long) (omega arith)
    (subst (Sums (suc s.vars) v) (sym is) (sum_met s.vars s.vars v s.parities numbers (omega arith) within met (rising_numbers 1 (length s.parities) numbers (omega arith) rise))))
    x
    (record {
      within = unit.within;
      has_it = sym (contains-form e x) ∙ unit.has_it;
      unassigned = unit.unassigned;
      others = λ y ne has. unit.others y ne (contains-form e y ∙ has);
    })

-- what an implied literal's row has, from 0
pub at_column : (s : State) (l : Literal) (f : NormalForm) (x : ℕ) → IsImplied s l f → l.variable ≡ x + 1
    → (has_at f x ≡ true) × (is_unassigned (get_or s.values x None) ≡ true)
    × ((y : ℕ) → (y ≡ x → ⊥) → has_at f y ≡ true → is_unassigned (get_or s.values y None) ≡ false)
at_column s l f x is at = (
  ap (set.contains f.variables) (sym at) ∙ is.has,
  ap (λ i. is_unassigned (get_or s.values i None)) (let e : x ≡ l.variable - 1 = omega arith in e) ∙ is.unassigned,
  λ y ne has.
      ap (λ i. is_unassigned (get_or s.values i None)) (let e : y ≡ y + 1 - 1 = omega arith in e) ∙ is.others (y + 1) (λ e. ne (omega arith)) has,
)
