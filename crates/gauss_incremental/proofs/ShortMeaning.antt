-- What a short parity says, it says rightly.
use Rattle.std.proofs.Common.{◌≡◌, ◌⊎◌, ℕ, ◌+◌, ◌-◌, ◌<◌, ◌≤◌, zero, suc, Bool, true, false, not, ◌||◌, eqb-true, eq-eqb, nat_eq, List, [], ◌∷◌, map, length, get_or, Option, Some, None, refl, sym, ap, ◌∙◌, subst, arith, inl, inr, true≢false}
use Rattle.std.specs.List.{list_all, list_any}
use Rattle.std.specs.FinSet as set
use Rattle.std.proofs.lemmas.Bool.{and_parts, or_right}
use Rattle.cx_base.specs.Literals.{Literal, differ, literal_true}
use Rattle.cx_base.specs.Problem.{AreWithin, parity_met}
use Rattle.cx_base.specs.Parity.{NormalForm, normal_form, occurs_odd}
use Rattle.cx_base.proofs.Odd.{is_odd-count, parity_met-cons}
use Rattle.cx_base.proofs.ParityLaws.{AreBelow, Sums, Sums-from_met, contains-normal_form, differ_false, met-from_Sums}
use Rattle.cx_base.proofs.Differences.{differ_assoc, differ_move}
use Rattle.cx_semantics.proofs.RecoveredLaws.{or_apart}
use Rattle.cx_semantics.specs.Forced.{Solves}
use Rattle.parity_engine.specs.declared.state.Held.{Held}
use Rattle.parity_engine.specs.Equations.{parity_number, sum_of_numbers}
use Rattle.parity_engine.specs.Written.{Rises}
use Rattle.parity_engine.specs.State.{AgreesWith, IsBroken, IsImplied, State, held_at, is_unassigned, known}
use Rattle.parity_engine.proofs.Forms.{same_form}
use Rattle.parity_engine.proofs.Known.{agrees_known}
use Rattle.parity_engine.proofs.Rising.{none_below}
use Rattle.gf2_matrix.proofs.FormSums.{contains-sum_of_numbers, right-sum_of_numbers}
use Rattle.gauss_incremental.specs.declared.shorts.Short.{Short}
use Rattle.gauss_incremental.specs.declared.shorts.ShortKind.{ShortKind}
use Rattle.gauss_incremental.specs.declared.shorts.ShortKind.TheVariants.{Open, Met, Unmet, Implies}
use Rattle.gauss_incremental.specs.ShortFirst.{IsShort, kind_after, kind_step, kind_under, kind_with, short_form}

-- ---- the sum of the literals
abbrev free_true : List Bool → Option Literal → Bool
free_true v None = false
free_true v (Some l) = literal_true v l

-- what is said of whether an odd number of literals is true
abbrev KindSays : List Bool → ShortKind → Bool → Type 0
KindSays v Open b = Unit {0}
KindSays v Met b = b ≡ true
KindSays v Unmet b = b ≡ false
KindSays v (Implies m) b = b ≡ literal_true v m

turned : (n b : Bool) → not (differ (differ n b) false) ≡ differ (not n) b
turned true true = refl
turned true false = refl
turned false true = refl
turned false false = refl

with_says : (v : List Bool) (sum : Bool) (free : Option Literal) → KindSays v (kind_with sum free) (differ sum (differ (free_true v free) false))
with_says v true None = refl
with_says v false None = refl
with_says v true (Some l) = turned l.negative (get_or v (l.variable - 1) false)
with_says v false (Some l) = differ_false (literal_true v l)

swapped : (sum a f p : Bool) → differ (differ sum a) (differ f p) ≡ differ sum (differ f (differ a p))
swapped sum a f p = differ_assoc sum a (differ f p) ∙ ap (differ sum) (differ_move a f p)

abbrev Agree : List (Option Held) → List Bool → Type 0
Agree values v = (x : ℕ) (h : Held) → get_or values x None ≡ Some h → get_or v x false ≡ h.value

says_step : (values : List (Option Held)) (v : List Bool) → Agree values v → (sum : Bool) (l : Literal) (lits : List Literal)
    → ((s : Bool) (f : Option Literal) → KindSays v (kind_after values s f lits) (differ s (differ (free_true v f) (parity_met v lits))))
    → (o : Option Held) → held_at values l.variable ≡ o → (free : Option Literal)
    → KindSays v (kind_step o sum free l (λ s f. kind_after values s f lits)) (differ sum (differ (free_true v free) (parity_met v (l ∷ lits))))
says_step values v agree sum l lits rest None e None =
    subst (KindSays v (kind_after values sum (Some l) lits)) (ap (differ sum) (sym (parity_met-cons v l lits))) (rest sum (Some l))
says_step values v agree sum l lits rest None e (Some m) = tt
says_step values v agree sum l lits rest (Some h) e free =
    let value : differ l.negative h.value ≡ literal_true v l = ap (differ l.negative) (sym (agree (l.variable - 1) h e)) in
    subst (KindSays v (kind_after values (differ sum (differ l.negative h.value)) free lits))
    (swapped sum (differ l.negative h.value) (free_true v free) (parity_met v lits)
    ∙ ap (λ b. differ sum (differ (free_true v free) b)) (ap (λ a. differ a (parity_met v lits)) value ∙ sym (parity_met-cons v l lits)))
    (rest (differ sum (differ l.negative h.value)) free)

says : (values : List (Option Held)) (v : List Bool) → Agree values v → (sum : Bool) (free : Option Literal) (lits : List Literal)
    → KindSays v (kind_after values sum free lits) (differ sum (differ (free_true v free) (parity_met v lits)))
says values v agree sum free [] = with_says v sum free
says values v agree sum free (l ∷ lits) = says_step values v agree sum l lits (λ s f. says values v agree s f lits) (held_at values l.variable) refl free

-- ---- the variable that is not assigned
-- it stays where one was seen
abbrev KindKeeps : Literal → ShortKind → Type 0
KindKeeps l Open = Unit {0}
KindKeeps l Met = ⊥
KindKeeps l Unmet = ⊥
KindKeeps l (Implies m) = m.variable ≡ l.variable

keeps_step : (values : List (Option Held)) (sum : Bool) (l m : Literal) (lits : List Literal) → ((s : Bool) → KindKeeps l (kind_after values s (Some l) lits)) → (o : Option Held)
    → KindKeeps l (kind_step o sum (Some l) m (λ s f. kind_after values s f lits))
keeps_step values sum l m lits rest None = tt
keeps_step values sum l m lits rest (Some h) = rest (differ sum (differ m.negative h.value))

keeps : (values : List (Option Held)) (sum : Bool) (l : Literal) (lits : List Literal) → KindKeeps l (kind_after values sum (Some l) lits)
keeps values true l [] = refl
keeps values false l [] = refl
keeps values sum l (m ∷ lits) = keeps_step values sum l m lits (λ s. keeps values s l lits) (held_at values m.variable)

-- it is among the literals
abbrev KindIn : List (Option Held) → List ℕ → ShortKind → Type 0
KindIn values vs Open = Unit {0}
KindIn values vs Met = Unit {0}
KindIn values vs Unmet = Unit {0}
KindIn values vs (Implies m) = (is_unassigned (held_at values m.variable) ≡ true) × (list_any (λ z. nat_eq z m.variable) vs ≡ true)

kept_in : (values : List (Option Held)) (l : Literal) (vs : List ℕ) (k : ShortKind) → is_unassigned (held_at values l.variable) ≡ true → KindKeeps l k → KindIn values (l.variable ∷ vs) k
kept_in values l vs Open off keep = tt
kept_in values l vs Met off keep = tt
kept_in values l vs Unmet off keep = tt
kept_in values l vs (Implies m) off keep = (
  ap (λ x. is_unassigned (held_at values x)) keep ∙ off,
  ap (λ b. b || list_any (λ z. nat_eq z m.variable) vs) (eq-eqb l.variable m.variable (sym keep)),
)

more_in : (values : List (Option Held)) (l : Literal) (vs : List ℕ) (k : ShortKind) → KindIn values vs k → KindIn values (l.variable ∷ vs) k
more_in values l vs Open h = tt
more_in values l vs Met h = tt
more_in values l vs Unmet h = tt
more_in values l vs (Implies m) h = (h.0, or_right (nat_eq l.variable m.variable) (list_any (λ z. nat_eq z m.variable) vs) h.1)

in_step : (values : List (Option Held)) (sum : Bool) (l : Literal) (lits : List Literal)
    → ((s : Bool) → KindIn values (map (λ (m : Literal). m.variable) lits) (kind_after values s None lits)) → (o : Option Held) → held_at values l.variable ≡ o
    → KindIn values (l.variable ∷ map (λ (m : Literal). m.variable) lits) (kind_step o sum None l (λ s f. kind_after values s f lits))
in_step values sum l lits rest None e =
    kept_in values l (map (λ (m : Literal). m.variable) lits) (kind_after values sum (Some l) lits) (ap is_unassigned e) (keeps values sum l lits)
in_step values sum l lits rest (Some h) e =
    more_in values l (map (λ (m : Literal). m.variable) lits) (kind_after values (differ sum (differ l.negative h.value)) None lits) (rest (differ sum (differ l.negative h.value)))

is_in : (values : List (Option Held)) (sum : Bool) (lits : List Literal) → KindIn values (map (λ (m : Literal). m.variable) lits) (kind_after values sum None lits)
is_in values true [] = tt
is_in values false [] = tt
is_in values sum (l ∷ lits) = in_step values sum l lits (λ s. is_in values s lits) (held_at values l.variable) refl

-- ---- the other variables
abbrev KindCovers : List (Option Held) → ℕ → ShortKind → Type 0
KindCovers values x Open = Unit {0}
KindCovers values x Met = is_unassigned (held_at values x) ≡ false
KindCovers values x Unmet = is_unassigned (held_at values x) ≡ false
KindCovers values x (Implies m) = (m.variable ≡ x) ⊎ (is_unassigned (held_at values x) ≡ false)

held_covers : (values : List (Option Held)) (x : ℕ) (k : ShortKind) → is_unassigned (held_at values x) ≡ false → KindCovers values x k
held_covers values x Open h = tt
held_covers values x Met h = h
held_covers values x Unmet h = h
held_covers values x (Implies m) h = inr h

kept_covers : (values : List (Option Held)) (l : Literal) (x : ℕ) (k : ShortKind) → l.variable ≡ x → KindKeeps l k → KindCovers values x k
kept_covers values l x Open e keep = tt
kept_covers values l x Met e keep = absurd keep
kept_covers values l x Unmet e keep = absurd keep
kept_covers values l x (Implies m) e keep = inl (keep ∙ e)

here_step : (values : List (Option Held)) (sum : Bool) (l : Literal) (lits : List Literal) (x : ℕ) → l.variable ≡ x → (o : Option Held) → held_at values l.variable ≡ o → (free : Option Literal)
    → KindCovers values x (kind_step o sum free l (λ s f. kind_after values s f lits))
here_step values sum l lits x is None e None = kept_covers values l x (kind_after values sum (Some l) lits) is (keeps values sum l lits)
here_step values sum l lits x is None e (Some m) = tt
here_step values sum l lits x is (Some h) e free =
    held_covers values x (kind_after values (differ sum (differ l.negative h.value)) free lits) (ap (λ y. is_unassigned (held_at values y)) (sym is) ∙ ap is_unassigned e)

there_step : (values : List (Option Held)) (sum : Bool) (l : Literal) (lits : List Literal) (x : ℕ) → ((s : Bool) (f : Option Literal) → KindCovers values x (kind_after values s f lits)) → (o : Option Held)
    → (free : Option Literal) → KindCovers values x (kind_step o sum free l (λ s f. kind_after values s f lits))
there_step values sum l lits x rest None None = rest sum (Some l)
there_step values sum l lits x rest None (Some m) = tt
there_step values sum l lits x rest (Some h) free = rest (differ sum (differ l.negative h.value)) free

covers : (values : List (Option Held)) (sum : Bool) (free : Option Literal) (lits : List Literal) (x : ℕ) → occurs_odd lits x ≡ true → KindCovers values x (kind_after values sum free lits)
covers values sum free [] x h = absurd (true≢false (sym h))
covers values sum free (l ∷ lits) x h = cases (nat_eq l.variable x) refl (sym (is_odd-count (λ (m : Literal). nat_eq m.variable x) l lits) ∙ h) (λ odd s f. covers values s f lits x odd)
  where
    cases : (b : Bool) → nat_eq l.variable x ≡ b → differ (nat_eq l.variable x) (occurs_odd lits x) ≡ true
        → (occurs_odd lits x ≡ true → (s : Bool) (f : Option Literal) → KindCovers values x (kind_after values s f lits))
        → KindCovers values x (kind_step (held_at values l.variable) sum free l (λ s f. kind_after values s f lits))
    cases true is odd rest = here_step values sum l lits x (eqb-true l.variable x is) (held_at values l.variable) refl free
    cases false is odd rest =
        there_step values sum l lits x (rest (ap (λ b. differ b (occurs_odd lits x)) (sym is) ∙ odd)) (held_at values l.variable) free

-- ---- written parities
pub occurs_rising : (least : ℕ) (lits : List Literal) (y : ℕ) → Rises least (map (λ (m : Literal). m.variable) lits) → occurs_odd lits y ≡ list_any (λ z. nat_eq z y) (map (λ (m : Literal). m.variable) lits)
occurs_rising least [] y rise = refl
occurs_rising least (l ∷ lits) y rise =
    is_odd-count (λ (m : Literal). nat_eq m.variable y) l lits
    ∙ ap (differ (nat_eq l.variable y)) (occurs_rising (l.variable + 1) lits y rise.1)
    ∙ sym (or_apart (nat_eq l.variable y) (list_any (λ z. nat_eq z y) (map (λ (m : Literal). m.variable) lits))
    (λ e. none_below (l.variable + 1) (map (λ (m : Literal). m.variable) lits) y rise.1 (let q : l.variable ≡ y = eqb-true l.variable y e in omega arith)))

within_any : (n : ℕ) (lits : List Literal) (x : ℕ) → AreWithin n lits → list_any (λ z. nat_eq z x) (map (λ (m : Literal). m.variable) lits) ≡ true → (1 ≤ x) × (x ≤ n)
within_any n [] x within h = absurd (true≢false (sym h))
within_any n (l ∷ lits) x within h = cases (nat_eq l.variable x) refl h (within_any n lits x within.1)
  where
    cases : (b : Bool) → nat_eq l.variable x ≡ b → (nat_eq l.variable x || list_any (λ z. nat_eq z x) (map (λ (m : Literal). m.variable) lits)) ≡ true
        → (list_any (λ z. nat_eq z x) (map (λ (m : Literal). m.variable) lits) ≡ true → (1 ≤ x) × (x ≤ n)) → (1 ≤ x) × (x ≤ n)
    cases true is any rest = let e : l.variable ≡ x = eqb-true l.variable x is in let low = within.0.0 in let high = within.0.1 in (omega arith, omega arith)
    cases false is any rest = rest (ap (λ b. b || list_any (λ z. nat_eq z x) (map (λ (m : Literal). m.variable) lits)) (sym is) ∙ any)

-- ---- parities of one normal form
abbrev roof : List Literal → ℕ
roof [] = 0
roof (l ∷ lits) = l.variable + 1 + roof lits

below_roof : (n : ℕ) (lits : List Literal) → roof lits ≤ n → AreBelow n lits
below_roof n [] le = tt
below_roof n (l ∷ lits) le = (omega arith, below_roof n lits (omega arith))

met_alike : (v : List Bool) (p lits : List Literal) → normal_form p ≡ normal_form lits → parity_met v p ≡ true → parity_met v lits ≡ true
met_alike v p lits e h =
    let n : ℕ = roof p + roof lits in
    met-from_Sums n v lits (below_roof n lits (omega arith)) (subst (Sums n v) e (Sums-from_met n v p (below_roof n p (omega arith)) h))

unmet_alike : (v : List Bool) (p lits : List Literal) → normal_form p ≡ normal_form lits → parity_met v p ≡ false → parity_met v lits ≡ false
unmet_alike v p lits e h = cases (parity_met v lits) refl
  where
    cases : (b : Bool) → parity_met v lits ≡ b → b ≡ false
    cases true is = absurd (true≢false (sym (met_alike v lits p (sym e) is) ∙ h))
    cases false is = refl

met_number : (v : List Bool) (parities : List (List Literal)) (k : ℕ) → k < length parities → list_all (parity_met v) parities ≡ true → parity_met v (get_or parities k []) ≡ true
met_number v [] k lt all = absurd (omega arith)
met_number v (p ∷ parities) zero lt all = (and_parts (parity_met v p) _ all).0
met_number v (p ∷ parities) (suc k) lt all = met_number v parities k (omega arith) (and_parts (parity_met v p) _ all).1

-- the sum of one parity is itself
pub one_sum : (parities : List (List Literal)) (k : ℕ) → normal_form (parity_number parities k) ≡ sum_of_numbers parities (k ∷ [])
one_sum parities k =
    same_form (normal_form (parity_number parities k)) (sum_of_numbers parities (k ∷ []))
    (λ y. sym (contains-sum_of_numbers parities (k ∷ []) y ∙ differ_false (set.contains (normal_form (parity_number parities k)).variables y)))
    (sym (right-sum_of_numbers parities (k ∷ []) ∙ differ_false (normal_form (parity_number parities k)).right_side))

-- ---- what a short parity says is so
module _ (s : State) (short : Short) (is : IsShort s.vars s.parities short) where
  agree : (v : List Bool) → AgreesWith (known s) v → Agree s.values v
  agree v agrees x h at = let e : x ≡ 1 + x - 1 = omega arith in ap (λ i. get_or v i false) e ∙ agrees_known 1 s.values v (omega arith) agrees x h at

  -- the sum that is found is that of the parity under all values that agree
  sum_is : (v : List Bool) → AgreesWith (known s) v → KindSays v (kind_under s.values short.lits) (parity_met v short.lits)
  sum_is v agrees = says s.values v (agree v agrees) false None short.lits

  solved : (v : List Bool) → Solves s.parities (known s) v → parity_met v short.lits ≡ true
  solved v solves =
      let w = is.written in
      let low = is.low in
      let high = is.high in
      met_alike v (parity_number s.parities short.number) short.lits (sym w.normal) (met_number v s.parities (short.number - 1) (omega arith) solves.meets)

  contains : (x : ℕ) → set.contains (short_form s.parities short).variables x ≡ occurs_odd short.lits x
  contains x = let w = is.written in ap (λ (f : NormalForm). set.contains f.variables x) (sym w.normal) ∙ contains-normal_form short.lits x

  pub short_implied : (m : Literal) → kind_under s.values short.lits ≡ Implies m → IsImplied s m (short_form s.parities short)
  short_implied m kind =
      let w = is.written in
      let inside = subst (KindIn s.values (map (λ (l : Literal). l.variable) short.lits)) kind (is_in s.values false short.lits) in
      let ends = within_any s.vars short.lits m.variable is.within inside.1 in
      let says_so : (v : List Bool) → AgreesWith (known s) v → parity_met v short.lits ≡ literal_true v m = λ v agrees. subst (λ k. KindSays v k (parity_met v short.lits)) kind (sum_is v agrees) in
      record {
        low = ends.0;
        high = ends.1;
        unassigned = inside.0;
        forced = λ v solves. sym (says_so v solves.agrees) ∙ solved v solves;
        has = contains m.variable ∙ occurs_rising 1 short.lits m.variable w.rises ∙ inside.1;
        others = λ x ne has_x.
            elim (subst (KindCovers s.values x) kind (covers s.values false None short.lits x (sym (contains x) ∙ has_x))) [
              | inl same ↦ absurd (ne (sym same))
              | inr held ↦ held
            ];
        met = λ v agrees holds lits form_is. met_alike v short.lits lits (w.normal ∙ sym form_is) (says_so v agrees ∙ holds);
      }

  pub short_broken : kind_under s.values short.lits ≡ Unmet → IsBroken s (short_form s.parities short)
  short_broken kind =
      let w = is.written in
      let says_so : (v : List Bool) → AgreesWith (known s) v → parity_met v short.lits ≡ false = λ v agrees. subst (λ k. KindSays v k (parity_met v short.lits)) kind (sum_is v agrees) in
      record {
        none = λ some. true≢false (sym (solved some.0 some.1) ∙ says_so some.0 some.1.agrees);
        whole = λ x has_x. subst (KindCovers s.values x) kind (covers s.values false None short.lits x (sym (contains x) ∙ has_x));
        unmet = λ v agrees lits form_is. unmet_alike v short.lits lits (w.normal ∙ sym form_is) (says_so v agrees);
      }
