-- The events of an engine with copies of its named rows.
use Rattle.std.proofs.Common.{◌≡◌, ◌≢◌, ℕ, ◌+◌, ◌-◌, ◌<◌, ◌≤◌, zero, suc, Bool, true, false, not, ◌&&◌, List, [], ◌∷◌, ◌++◌, map, length, length-append, get_or, set, Option, Some, None, unwrap_or, inl, inr, refl, sym, ap, ◌∙◌, subst, arith}
use Rattle.std.specs.Prelude.{replicate, ◌^◌}
use Rattle.std.proofs.Math.ListN.{length-set, get_or-eq_default}
use Rattle.std.proofs.Math.Seq.{get_or-append_seam}
use Rattle.std.specs.List.{AllByRecursion, range_with_len}
use Rattle.std.proofs.lemmas.List.{length-map, get_or-set_same, get_or-set_other, get_or-map, get_or_append_left}
use Rattle.std.proofs.lemmas.List.FromFn.{length-map-range_with_len}
use Rattle.std.proofs.lemmas.Bool.{cases_eq, cases_lt}
use Rattle.cx_base.specs.Literals.{Literal, differ}
use Rattle.cx_base.specs.declared.literal.TheConstants.{MAX_VARIABLE}
use Rattle.cx_base.specs.Problem.{AreWithin}
use Rattle.gf2_rows.specs.Bits.{bit_of}
use Rattle.parity_engine.specs.Equations.{Equation, form_of, sum_of_numbers}
use Rattle.gf2_matrix.specs.Totals.{total}
use Rattle.gf2_rows.proofs.Words.{range_same}
use Rattle.gf2_matrix.specs.Content.{Content, SourcedRow, IsOfGiven, IsSameShape, row_at, equation, form, source_numbers}
use Rattle.gf2_matrix.specs.Views.{words_for}
use Rattle.gf2_matrix.proofs.Products.{total-over}
use Rattle.cx_base.specs.Parity.{odd_sum}
use Rattle.gauss_jordan.specs.declared.slot.RowSlot.{RowSlot}
use Rattle.parity_engine.specs.declared.state.Naming.{Naming}
use Rattle.parity_engine.specs.declared.state.Held.{Held}
use Rattle.parity_engine.specs.declared.state.Mood.{Mood}
use Rattle.parity_engine.specs.declared.state.Mood.TheVariants.{Busy, Calm, Broken}
use Rattle.parity_engine.specs.State.{State, Named, is_unassigned, IsSilent, IsImplied, IsBroken, IsNamedNow, IsSameNamed, fresh, names, named_at}
use Rattle.parity_engine.specs.Written.{AreRising}
use Rattle.parity_engine.proofs.Known.{none_is}
use Rattle.parity_engine.proofs.Rising.{numbers_rise}
use Rattle.gauss_jordan.specs.System.{just_value, has_at, filled, IsOneOpen}
use Rattle.gauss_jordan.specs.declared.found.FoundRow.TheVariants as found
use Rattle.gauss_jordan.specs.Found.{IsMasked, Shows}
use Rattle.gauss_jordan.specs.Right.{IsRightState, column_at}
use Rattle.gauss_jordan.specs.Slots.{row_of, named_as, named_of, state_of, value_or_false, AreMasks, IsSlotOf, IsEmptySlot, IsCopy, IsNamedSlot, IsSlotSum, IsScratch}
use Rattle.gauss_jordan.proofs.Events.{at_column, filled-at, part-at, length-filled, implied_by_equation}
use Rattle.gauss_jordan.proofs.Kept.{summed, right_fresh, right_quiet, right_implied, right_broken}

pub same_shape : (c d : Content) → IsSameShape c d → d ≡ record c { rows = d.rows }
same_shape c d shape =
    ap (λ (v : ℕ). let q : Content = record { vars = v; given = d.given; columns = d.columns; rows = d.rows } in q) shape.vars
    ∙ ap (λ g. let q : Content = record { vars = c.vars; given = g; columns = d.columns; rows = d.rows } in q) shape.given
    ∙ ap (λ k. let q : Content = record { vars = c.vars; given = c.given; columns = k; rows = d.rows } in q) shape.columns

map-set : {A B : Type 0} (f : A → B) (xs : List A) (k : ℕ) (a : A) → map f (set xs k a) ≡ set (map f xs) k (f a)
map-set f [] k a = refl
map-set f (x ∷ xs) zero a = refl
map-set f (x ∷ xs) (suc k) a = ap (λ ys. f x ∷ ys) (map-set f xs k a)

pub value-is : (o : Option Held) → value_or_false o ≡ unwrap_or (just_value o) false
value-is None = refl
value-is (Some h) = refl

refit : (c d : Content) (slot : RowSlot) → c.vars ≡ d.vars → c.given ≡ d.given → IsSlotOf c slot → IsSlotOf d slot
refit c d slot ev eg f = record {
  terms = f.terms ∙ ap words_for ev;
  sources = f.sources ∙ ap (λ gs. words_for (length gs)) eg;
  padded = λ k ge. f.padded k (subst (λ n. n ≤ k) (sym ev) ge);
}

-- what the copy of a row is named for
pub copy_named : (c : Content) (row : ℕ) (m : Naming) (slot : RowSlot) → IsCopy c row m slot
    → named_of c slot ≡ Some (record { level = m.level; in_conflict = m.in_conflict; form = form (row_at c.rows row); sources = source_numbers (row_at c.rows row) })
copy_named c row m slot copy =
    ap (named_as c slot) copy.naming_is
    ∙ ap (λ (r : SourcedRow). let o : Option Named = Some (record { level = m.level; in_conflict = m.in_conflict; form = form r; sources = source_numbers r }) in o) copy.row_is

module _ (c : Content) (level : ℕ) (held : List (Option Held)) (on ts : List ℕ) (slots : List RowSlot) (mood : Mood)
    (is : IsScratch c level held on ts slots mood) (whole : mood ≢ Broken) (filled_in : AreMasks c.columns held on ts (length c.columns)) where
  pub masked : IsMasked (state_of c level held slots mood) c on ts
  masked = record {
    vars = refl;
    parities = refl;
    wide = let r = is.right in r.wide;
    masks = filled_in.0;
    holds = λ k lt.
        let s : State = state_of c level held slots mood in
        let x : ℕ = get_or c.columns k 0 - 1 in
        filled_in.1 k lt ∙ value-is (get_or held x None) ∙ sym (filled-at s x ∙ ap (λ o. unwrap_or o false) (part-at s x));
  }

  pub quiet : IsSilent (state_of c level held slots mood) → IsScratch c level held on ts slots Calm
  quiet silent = record {
    of_given = is.of_given;
    few = is.few;
    few_given = is.few_given;
    right = right_quiet c.columns (state_of c level held slots mood) is.right whole silent;
    assigned_long = is.assigned_long;
    truths_long = is.truths_long;
    fits = is.fits;
  }

  set_fits : (k : ℕ) (slot : RowSlot) → IsSlotOf c slot → (j : ℕ) (d : RowSlot) → j < length (set slots k slot) → IsSlotOf c (get_or (set slots k slot) j d)
  set_fits k slot fits j d lt =
      let inside : j < length slots = omega (arith, length-set slots k slot) in
      elim (cases_eq j k) [
        | inl e ↦ subst (λ i. IsSlotOf c (get_or (set slots k slot) i d)) (sym e) (rw (get_or-set_same slots k slot d (omega arith)) fits)
        | inr ne ↦ rw (get_or-set_other slots k j slot d ne) (is.fits j d inside)
      ]

  -- the state with a row named
  pub state_named : (k : ℕ) (slot : RowSlot) (n : Named) (index : ℕ) (m : Mood) → named_of c slot ≡ Some n → index ≡ k
      → state_of c level held (set slots k slot) m ≡ names (state_of c level held slots mood) index n m
  state_named k slot n index m named at =
      ap (λ (ns : List (Option Named)). let s : State = record { vars = c.vars; parities = c.given; level = level; values = held; named = ns; mood = m } in s)
      (map-set (named_of c) slots k slot ∙ ap (set (map (named_of c) slots) k) named ∙ ap (λ i. set (map (named_of c) slots) i (Some n)) (sym at))

  pub named_now : (row : ℕ) (lt : row < length c.rows) (b : Bool)
      → IsNamedNow (state_of c level held slots mood) (record { level = level; in_conflict = b; form = form (row_at c.rows row); sources = source_numbers (row_at c.rows row) }) b
  named_now row lt b = record {
    level_is = refl;
    kind_is = refl;
    numbers = numbers_rise 1 (length c.given) (row_at c.rows row).sources (let h = (is.of_given.long row lt).1 in omega arith);
    sums = is.of_given.sums row lt;
  }

  pub contradiction : (row : ℕ) (slot : RowSlot) (index : ℕ) → row < length c.rows → index ≡ length c.columns
      → IsCopy c row (record { level = level; in_conflict = true }) slot
      → IsBroken (state_of c level held slots mood) (form (row_at c.rows row))
      → IsScratch c level held on ts (set slots (length c.columns) slot) Broken
  contradiction row slot index lt at copy broken =
      let n : Named = record { level = level; in_conflict = true; form = form (row_at c.rows row); sources = source_numbers (row_at c.rows row) } in
      record {
        of_given = is.of_given;
        few = is.few;
        few_given = is.few_given;
        right = subst (IsRightState c.columns) (sym (state_named (length c.columns) slot n index Broken (copy_named c row (record { level = level; in_conflict = true }) slot copy) at))
            (right_broken c.columns (state_of c level held slots mood) index n is.right at (named_now row lt true) broken);
        assigned_long = is.assigned_long;
        truths_long = is.truths_long;
        fits = set_fits (length c.columns) slot copy.fits;
      }

  pub not_named : (n : Named) (index : ℕ) → index ≡ length c.columns → IsSameNamed (named_at (state_of c level held slots mood) index) n
  not_named n index at =
      let r = is.right in
      let cases : (o : Option Named) → get_or (map (named_of c) slots) index None ≡ o → IsSameNamed o n =
      elim [
        | None ↦ λ e. tt
        | Some m ↦ λ e. absurd (whole (r.clash m (ap (λ i. get_or (map (named_of c) slots) i None) (sym at) ∙ e)))
      ] in
      cases (get_or (map (named_of c) slots) index None) refl

  -- what is known of a row that is named for the variable of column k
  pub record IsFit (k : ℕ) (slot : RowSlot) (n : Named) : Type 0 where
    pub named : named_of c slot ≡ Some n
    pub fits : IsSlotOf c slot
    pub same : (index : ℕ) → index ≡ k → IsSameNamed (named_at (state_of c level held slots mood) index) n
    pub now : IsNamedNow (state_of c level held slots mood) n false
    pub has : has_at n.form (column_at c.columns k) ≡ true
    pub others : (y : ℕ) → y ≢ column_at c.columns k → has_at n.form y ≡ true → is_unassigned (get_or held y None) ≡ false
    pub kept_is : n.form ≡ form (row_of c slot)

  named-at : (k : ℕ) (d : RowSlot) → k < length slots → get_or (map (named_of c) slots) k None ≡ named_of c (get_or slots k d)
  named-at k d lt = get_or-map (named_of c) slots k d None lt

  pub fit_copy : (k row : ℕ) (slot d : RowSlot) → k < length slots → row < length c.rows → IsCopy c row (record { level = level; in_conflict = false }) slot
      → (let e : RowSlot = get_or slots k d in e.naming) ≡ None
      → has_at (form (row_at c.rows row)) (column_at c.columns k) ≡ true
      → ((y : ℕ) → y ≢ column_at c.columns k → has_at (form (row_at c.rows row)) y ≡ true → is_unassigned (get_or held y None) ≡ false)
      → (n : Named) × IsFit k slot n
  fit_copy k row slot d in' lt copy none has_x others =
      let n : Named = record { level = level; in_conflict = false; form = form (row_at c.rows row); sources = source_numbers (row_at c.rows row) } in (
        n,
        record {
          named = copy_named c row (record { level = level; in_conflict = false }) slot copy;
          fits = copy.fits;
          same = λ index at.
              subst (λ o. IsSameNamed o n)
              (sym (ap (λ i. get_or (map (named_of c) slots) i None) at ∙ named-at k d in' ∙ ap (named_as c (get_or slots k d)) none)) tt;
          now = named_now row lt false;
          has = has_x;
          others = others;
          kept_is = ap form (sym copy.row_is);
        },
      )

  -- a slot that is still named for an unassigned variable
  pub fit_old : (k : ℕ) (d : RowSlot) (m : Naming) → k < length c.columns → k < length slots → (let e : RowSlot = get_or slots k d in e.naming) ≡ Some m
      → get_or held (column_at c.columns k) None ≡ None → (n : Named) × IsFit k (get_or slots k d) n
  fit_old k d m k_in in' naming free =
      let slot : RowSlot = get_or slots k d in
      let n : Named = record { level = m.level; in_conflict = m.in_conflict; form = form (row_of c slot); sources = source_numbers (row_of c slot) } in
      let made : named_of c slot ≡ Some n = ap (named_as c slot) naming in
      let at : get_or (map (named_of c) slots) k None ≡ Some n = named-at k d in' ∙ made in
      let ri = is.right in
      let r = ri.reasons k n k_in at in
      elim r.stands [
        | inl held' ↦ absurd (let clash : None ≡ Some held'.0 = sym free ∙ held'.1 in cc)
        | inr pending ↦ (
          n,
          record {
            named = made;
            fits = is.fits k d in';
            same = λ index is_k.
                subst (λ o. IsSameNamed o n) (sym (ap (λ i. get_or (map (named_of c) slots) i None) is_k ∙ at)) (refl, refl, refl);
            now = record { level_is = pending.0; kind_is = r.in_conflict; numbers = let u = r.summed in u.0; sums = let u = r.summed in u.1 };
            has = r.has;
            others = pending.2;
            kept_is = refl;
          },
        )
      ]

  -- a slot that was named now or before
  fit_named : (k row : ℕ) (old new d : RowSlot) → k < length c.columns → k < length slots → row < length c.rows → old ≡ get_or slots k d
      → IsNamedSlot c row (record { level = level; in_conflict = false }) old new old.naming
      → get_or held (column_at c.columns k) None ≡ None
      → has_at (form (row_at c.rows row)) (column_at c.columns k) ≡ true
      → ((y : ℕ) → y ≢ column_at c.columns k → has_at (form (row_at c.rows row)) y ≡ true → is_unassigned (get_or held y None) ≡ false)
      → (n : Named) × IsFit k new n
  fit_named k row old new d k_in in' lt read named free has_x others =
      let cases : (o : Option Naming) → old.naming ≡ o → IsNamedSlot c row (record { level = level; in_conflict = false }) old new o → (n : Named) × IsFit k new n =
      elim [
        | None ↦ λ e copy. fit_copy k row new d in' lt copy (ap (λ (s : RowSlot). s.naming) (sym read) ∙ e) has_x others
        | Some m ↦ λ e same. subst (λ (s : RowSlot). (n : Named) × IsFit k s n) (sym (same ∙ read)) (fit_old k d m k_in in' (ap (λ (s : RowSlot). s.naming) (sym read) ∙ e) free)
      ] in
      cases old.naming refl named

  -- what is known once the row of the literal that the rows say is named in slot k
  pub record IsTold (k : ℕ) (slot : RowSlot) (n : Named) : Type 0 where
    pub column_in : k < length c.columns
    pub slot_in : k < length slots
    pub fit : IsFit k slot n
    pub low : 1 ≤ get_or c.columns k 0
    pub high : get_or c.columns k 0 ≤ c.vars
    pub free : get_or held (column_at c.columns k) None ≡ None

  pub literal_told : (k row : ℕ) (b : Bool) (old new d : RowSlot) → Shows c on ts (found.Literal row k b) → old ≡ get_or slots k d
      → IsNamedSlot c row (record { level = level; in_conflict = false }) old new old.naming → (n : Named) × IsTold k new n
  literal_told k row b old new d says read named =
      let ri = is.right in
      let in' : k < length slots = let q = ri.rows in let g = says.1 in omega (arith, length-map slots (named_of c)) in
      let implied = says.2 (state_of c level held slots mood) masked in
      let low = implied.low in
      let col = at_column _ _ _ (column_at c.columns k) implied (omega arith) in
      let free : get_or held (column_at c.columns k) None ≡ None = none_is (get_or held (column_at c.columns k) None) col.1 in
      let made = fit_named k row old new d says.1 in' says.0 read named free col.0 col.2 in
      (made.0, record { column_in = says.1; slot_in = in'; fit = made.1; low = implied.low; high = implied.high; free = free })

  -- what the named row implies, and the engine that keeps it
  module _ (k : ℕ) (slot : RowSlot) (n : Named) (told : IsTold k slot n) where
    pub fit_implied : (b : Bool) → IsSlotSum slot held (length held) b
        → IsImplied (state_of c level held slots mood) (record { variable = get_or c.columns k 0; negative = not b }) n.form
    fit_implied b sums =
        let s : State = state_of c level held slots mood in
        let e : Equation = equation (row_of c slot) in
        let ri = is.right in
        let x : ℕ = column_at c.columns k in
        let fit = told.fit in
        let low = told.low in
        let high = told.high in
        let back : x + 1 ≡ get_or c.columns k 0 = omega arith in
        let unit : IsOneOpen s (has_at n.form) x = record { within = omega arith; has_it = fit.has; unassigned = ap is_unassigned told.free; others = fit.others } in
        let long : length (filled s) ≡ c.vars = length-filled s ∙ ri.wide in
        let value : differ (total e (filled s)) e.right ≡ b =
        ap (λ q. differ q slot.right)
        (total-over (filled s) c.vars (bit_of slot.terms.items) long
        ∙ ap odd_sum (range_same (λ y. bit_of slot.terms.items y && get_or (filled s) y false) (λ y. bit_of slot.terms.items y && value_or_false (get_or held y None)) 0 c.vars
        (λ y low' high'. ap (λ q. bit_of slot.terms.items y && q) (filled-at s y ∙ ap (λ o. unwrap_or o false) (part-at s y) ∙ sym (value-is (get_or held y None)))))
        ∙ ap (λ n. odd_sum (map (λ y. bit_of slot.terms.items y && value_or_false (get_or held y None)) (range_with_len 0 n))) (sym ri.wide))
        ∙ sums in
        let nw = fit.now in
        let long_e : length e.terms ≡ c.vars = length-map-range_with_len (bit_of slot.terms.items) 0 c.vars in
        subst (λ g. IsImplied s (record { variable = get_or c.columns k 0; negative = not b }) g) (sym fit.kept_is)
        (subst (λ v. IsImplied s (record { variable = v; negative = not b }) (form_of e)) back
        (subst (λ q. IsImplied s (record { variable = x + 1; negative = not q }) (form_of e)) value
        (implied_by_equation s e n.sources x ri.within ri.wide long_e nw.numbers (sym fit.kept_is ∙ nw.sums)
        (subst (λ g. IsOneOpen s (has_at g) x) fit.kept_is unit))))

    pub fit_kept : (index : ℕ) → index ≡ k → IsScratch c level held on ts (set slots k slot) Busy
    fit_kept index at =
        let s : State = state_of c level held slots mood in
        let fit = told.fit in
        let low = told.low in
        let high = told.high in
        record {
          of_given = is.of_given;
          few = is.few;
          few_given = is.few_given;
          right = subst (IsRightState c.columns) (sym (state_named k slot n index Busy fit.named at))
              (right_implied c.columns s index n is.right whole (subst (λ i. i < length c.columns) (sym at) told.column_in) fit.now
              (subst (λ i. column_at c.columns i < c.vars) (sym at) (omega arith))
              (subst (λ i. has_at n.form (column_at c.columns i) ≡ true) (sym at) fit.has)
              (subst (λ i. get_or held (column_at c.columns i) None ≡ None) (sym at) told.free)
              (subst (λ i. (y : ℕ) → y ≢ column_at c.columns i → has_at n.form y ≡ true → is_unassigned (get_or held y None) ≡ false) (sym at) fit.others));
          assigned_long = is.assigned_long;
          truths_long = is.truths_long;
          fits = set_fits k slot fit.fits;
        }

-- ---- the matrix reduced, the masks filled
-- the state rests on no row of the matrix
pub state_shape : (c d : Content) (level : ℕ) (held : List (Option Held)) (slots : List RowSlot) (mood : Mood) → IsSameShape c d
    → state_of d level held slots mood ≡ state_of c level held slots mood
state_shape c d level held slots mood shape = ap (λ (q : Content). state_of q level held slots mood) (same_shape c d shape)

pub refreshed : (c d : Content) (level : ℕ) (held : List (Option Held)) (masks truths on ts : List ℕ) (slots : List RowSlot) (mood : Mood)
    → IsScratch c level held masks truths slots mood → IsSameShape c d → IsOfGiven d → length on ≡ words_for (length c.columns) → length ts ≡ words_for (length c.columns)
    → IsScratch d level held on ts slots mood
refreshed c d level held masks truths on ts slots mood is shape of_given on_long ts_long =
    let same = same_shape c d shape in
    let e : Content = record c { rows = d.rows } in
    let of_e : IsOfGiven e = subst IsOfGiven same of_given in
    subst (λ (q : Content). IsScratch q level held on ts slots mood) (sym same)
    (record {
      of_given = of_e;
      few = is.few;
      few_given = is.few_given;
      right = is.right;
      assigned_long = on_long;
      truths_long = ts_long;
      fits = λ k x lt. refit c e (get_or slots k x) refl refl (is.fits k x lt);
    })

-- ---- lists of sources
named-sources : (c : Content) (slot : RowSlot) (o : Option Naming) (n : Named) → named_as c slot o ≡ Some n → source_numbers (row_of c slot) ≡ n.sources
named-sources c slot None n is = cc
named-sources c slot (Some m) n is = ap (λ (p : Option Named). (unwrap_or p n).sources) is

sources-are : (c : Content) (slot : RowSlot) (n : Named) → named_of c slot ≡ Some n → source_numbers (row_of c slot) ≡ n.sources
sources-are c slot n is = named-sources c slot slot.naming n is

pub sources_listed : (c : Content) (level : ℕ) (held : List (Option Held)) (masks truths : List ℕ) (slots : List RowSlot) (mood : Mood)
    → IsScratch c level held masks truths slots mood → (index : ℕ) (d : RowSlot) (numbers : List ℕ)
    → numbers ≡ source_numbers (row_of c (get_or slots index d)) → (n : Named)
    → named_at (state_of c level held slots mood) index ≡ Some n
    → (numbers ≡ n.sources) × AreRising 1 (length c.given) numbers × (n.form ≡ sum_of_numbers c.given numbers)
sources_listed c level held masks truths slots mood is index d numbers listed n named =
    let k : ℕ = index in
    let s : State = state_of c level held slots mood in
    let sum = summed c.columns s k n is.right named in
    let inside : k < length slots =
    elim (cases_lt k (length slots)) [
      | inl lt ↦ lt
      | inr ge ↦ absurd (let clash : None ≡ Some n = sym (get_or-eq_default (map (named_of c) slots) None (omega (arith, length-map slots (named_of c)))) ∙ named in cc)
    ] in
    let at : named_of c (get_or slots k d) ≡ Some n = sym (get_or-map (named_of c) slots k d None inside) ∙ named in
    let same : numbers ≡ n.sources = listed ∙ sources-are c (get_or slots k d) n at in
    (same, subst (AreRising 1 (length c.given)) (sym same) sum.0, sum.1 ∙ ap (sum_of_numbers c.given) (sym same))

-- ---- a look at a named row
named-form : (c : Content) (slot : RowSlot) (o : Option Naming) (n : Named) → named_as c slot o ≡ Some n → form (row_of c slot) ≡ n.form
named-form c slot None n is = cc
named-form c slot (Some m) n is = ap (λ (p : Option Named). (unwrap_or p n).form) is

pub slot_seen : (c : Content) (level : ℕ) (held : List (Option Held)) (masks truths : List ℕ) (slots : List RowSlot) (mood : Mood)
    → IsScratch c level held masks truths slots mood → (index : ℕ) (d : RowSlot) (n : Named) → named_at (state_of c level held slots mood) index ≡ Some n
    → IsSlotOf c (get_or slots index d) × (form (row_of c (get_or slots index d)) ≡ n.form)
slot_seen c level held masks truths slots mood is index d n named =
    let inside : index < length slots =
    elim (cases_lt index (length slots)) [
      | inl lt ↦ lt
      | inr ge ↦ absurd (let clash : None ≡ Some n = sym (get_or-eq_default (map (named_of c) slots) None (omega (arith, length-map slots (named_of c)))) ∙ named in cc)
    ] in
    (is.fits index d inside, named-form c (get_or slots index d) (let e : RowSlot = get_or slots index d in e.naming) n (sym (get_or-map (named_of c) slots index d None inside) ∙ named))

-- ---- an event after a contradiction
pub set_same : {A : Type 0} (xs : List A) (k : ℕ) (a d : A) → k < length xs → get_or xs k d ≡ a → set xs k a ≡ xs
set_same [] k a d lt is = absurd (omega arith)
set_same (x ∷ xs) zero a d lt is = ap (λ y. y ∷ xs) (sym is)
set_same (x ∷ xs) (suc k) a d lt is = ap (λ ys. x ∷ ys) (set_same xs k a d (omega arith) is)

-- that contradiction is answered again
pub broken_again : (columns : List ℕ) (s : State) (row : ℕ) → IsRightState columns s → s.mood ≡ Broken → row ≡ length columns
    → (n : Named) × (row < length s.named) × (s ≡ names s row n Broken) × IsSameNamed (named_at s row) n × IsNamedNow s n true × IsBroken s n.form
broken_again columns s row right is at =
    let b = right.broken is in
    let n : Named = b.0 in
    let inside : row < length s.named = let r = right.rows in omega arith in
    let read : named_at s row ≡ Some n = ap (λ i. get_or s.named i None) at ∙ b.1 in
    let same : set s.named row (Some n) ≡ s.named = set_same s.named row (Some n) None inside read in (
      n,
      inside,
      ap (λ m. record s { mood = m }) is ∙ ap (λ ns. record s { named = ns; mood = Broken }) (sym same),
      subst (λ o. IsSameNamed o n) (sym read) (refl, refl, refl),
      record { level_is = b.3; kind_is = b.2; numbers = let u = b.4 in u.0; sums = let u = b.4 in u.1 },
      b.5,
    )

-- ---- slots at the start
pub record AreEmpty (vars count : ℕ) (slots : List RowSlot) (n : ℕ) : Type 0 where
  pub long : length slots ≡ n
  pub each : (k : ℕ) (d : RowSlot) → k < n → IsEmptySlot vars count (get_or slots k d)

pub empty_none : (vars count : ℕ) → AreEmpty vars count [] 0
empty_none vars count = record { long = refl; each = λ k d lt. absurd (omega arith) }

pub empty_more : (vars count : ℕ) (slots more : List RowSlot) (n : ℕ) (slot : RowSlot) → AreEmpty vars count slots n → more ≡ slots ++ slot ∷ [] → IsEmptySlot vars count slot
    → AreEmpty vars count more (n + 1)
empty_more vars count slots more n slot before is one =
    let long = before.long in
    subst (λ (ss : List RowSlot). AreEmpty vars count ss (n + 1)) (sym is)
    (record {
      long = omega (arith, length-append slots (slot ∷ []));
      each = λ k d lt.
          elim (cases_eq k n) [
            | inl e ↦ rw (ap (λ j. get_or (slots ++ slot ∷ []) j d) (e ∙ sym long) ∙ get_or-append_seam slots slot [] d) one
            | inr ne ↦ rw (get_or_append_left slots (slot ∷ []) d k (omega arith)) (before.each k d (omega arith))
          ];
    })

none_named : (c : Content) (vars count : ℕ) (slots : List RowSlot) → ((k : ℕ) (d : RowSlot) → k < length slots → IsEmptySlot vars count (get_or slots k d))
    → map (named_of c) slots ≡ replicate (length slots) None
none_named c vars count [] empty = refl
none_named c vars count (slot ∷ slots) empty =
    (λ i. named_as c slot ((empty 0 slot (omega arith)).unnamed i) ∷ none_named c vars count slots (λ k d lt. empty (suc k) d (omega arith)) i)

-- the engine as it is made
pub state_fresh : (c : Content) (vars columns : ℕ) (parities : List (List Literal)) (held : List (Option Held)) (slots : List RowSlot) → c.vars ≡ vars → c.given ≡ parities
    → held ≡ replicate vars None → AreEmpty c.vars (length c.given) slots (columns + 1)
    → state_of c 0 held slots Busy ≡ fresh vars parities (columns + 1)
state_fresh c vars columns parities held slots vars_is given_is held_is empty =
    let named : map (named_of c) slots ≡ replicate (columns + 1) None =
    none_named c c.vars (length c.given) slots (λ k d lt. empty.each k d (let h = empty.long in omega arith)) ∙ ap (λ n. replicate n (let o : Option Named = None in o)) empty.long in
    λ i. record { vars = vars_is i; parities = given_is i; level = 0; values = held_is i; named = named i; mood = Busy }

pub scratch_fresh : (c : Content) (vars : ℕ) (parities : List (List Literal)) (held : List (Option Held)) (on ts : List ℕ) (slots : List RowSlot) → IsOfGiven c → c.vars ≡ vars → c.given ≡ parities
    → c.vars ≤ MAX_VARIABLE → length c.given < 2 ^ 32 → held ≡ replicate vars None → AreEmpty c.vars (length c.given) slots (length c.columns + 1)
    → length on ≡ words_for (length c.columns) → length ts ≡ words_for (length c.columns) → IsScratch c 0 held on ts slots Busy
scratch_fresh c vars parities held on ts slots of_given vars_is given_is few few_given held_is empty on_long ts_long = record {
  of_given = of_given;
  few = few;
  few_given = few_given;
  right =
      subst (IsRightState c.columns) (sym (state_fresh c vars (length c.columns) parities held slots vars_is given_is held_is empty))
      (right_fresh c.columns vars parities
      (subst (λ n. AllByRecursion (AreWithin n) parities) vars_is (subst (λ ps. AllByRecursion (AreWithin c.vars) ps) given_is of_given.within)));
  assigned_long = on_long;
  truths_long = ts_long;
  fits = λ k d lt.
      let e = empty.each k d (let h = empty.long in omega arith) in
      record { terms = e.terms; sources = e.sources; padded = λ j ge. e.clear j };
}

pub made_empty : (n m k vars count columns : ℕ) (slots : List RowSlot) → n ≡ vars → m ≡ count → k ≡ columns → length slots ≡ k + 1
    → ((j : ℕ) (d : RowSlot) → j < k + 1 → IsEmptySlot n m (get_or slots j d)) → AreEmpty vars count slots (columns + 1)
made_empty n m k vars count columns slots e f g long each =
    subst (λ j. AreEmpty vars count slots (j + 1)) g
    (subst (λ v. AreEmpty v count slots (k + 1)) e (subst (λ j. AreEmpty n j slots (k + 1)) f (record { long = long; each = each })))
