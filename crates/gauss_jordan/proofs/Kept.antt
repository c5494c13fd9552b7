-- Assignments, levels and backjumps keep what an engine keeps.
use Rattle.std.proofs.Common.{◌≡◌, ◌≢◌, ℕ, ◌-◌, ◌<◌, ◌≤◌, Bool, true, false, cond, not, ◌&&◌, nat_le, List, length, get_or, set, Option, Some, None, inl, inr, true≢false, refl, sym, ap, ◌∙◌, subst, arith}
use Rattle.std.proofs.Math.ListN.{get_or-map, length-set, get_or-eq_default}
use Rattle.std.proofs.lemmas.List.{length-map, get_or-set_same, get_or-set_other}
use Rattle.std.proofs.lemmas.Option.{same_Some}
use Rattle.std.proofs.lemmas.Bool.{cases_eq, cases_lt, le-leb, leb-true, not-true, and_parts}
use Rattle.std.specs.Prelude.{◌+◌}
use Rattle.std.proofs.lemmas.Simd.{length-replicate}
use Rattle.std.specs.List.{AllByRecursion}
use Rattle.cx_base.specs.Literals.{Literal}
use Rattle.cx_base.specs.Problem.{AreWithin}
use Rattle.parity_engine.specs.State.{fresh}
use Rattle.parity_engine.specs.declared.state.Held.{Held}
use Rattle.parity_engine.specs.declared.state.Mood.{Mood}
use Rattle.parity_engine.specs.declared.state.Mood.TheVariants.{Busy, Calm, Broken}
use Rattle.parity_engine.specs.State.{State, Named, keep, keep_named, is_unassigned, IsSilent, IsBroken, IsNamedNow, assigned, pushed, back, names}
use Rattle.gauss_jordan.specs.System.{has_at, IsOneOpen}
use Rattle.parity_engine.proofs.Known.{known_value}
use Rattle.gauss_jordan.proofs.Events.{implied_by_sum}
use Rattle.parity_engine.specs.Settled.{at_level}
use Rattle.parity_engine.proofs.Settled.{kept-set, kept-twice, kept-values, kept_held, nothing_at, silent_same}
use Rattle.gauss_jordan.specs.Right.{IsSummed}
use Rattle.gauss_jordan.specs.Right.{column_at, IsPending, IsReason, IsRightState}

-- where nothing follows no row is pending
no_pending : (columns : List ℕ) (s : State) → IsRightState columns s → IsSilent s → (k : ℕ) (n : Named) → k < length columns → get_or s.named k None ≡ Some n
    → IsReason s n (column_at columns k) → IsPending s n (column_at columns k) → ⊥
no_pending columns s right silent k n lt is r pending =
    let x : ℕ = column_at columns k in
    let free : is_unassigned (get_or s.values x None) ≡ true = ap is_unassigned pending.1 in
    let inside : x < s.vars = r.within_vars in
    let unit : IsOneOpen s (has_at n.form) x = record { within = inside; has_it = r.has; unassigned = free; others = pending.2 } in
    let implied = implied_by_sum s n.form n.sources x right.within right.wide r.summed.0 r.summed.1 unit in
    let l : Literal = implied.0 in
    let at = implied.1 in
    let held = known_value 1 s.values l (silent.forced l (omega arith) (omega arith) implied.2) in
    let place : l.variable - 1 ≡ x = omega arith in
    true≢false (sym free ∙ ap (λ i. is_unassigned (get_or s.values i None)) (sym place) ∙ held.1)

-- ---- a new level
pub right_pushed : (columns : List ℕ) (s : State) → IsRightState columns s → s.mood ≡ Calm → IsRightState columns (pushed s)
right_pushed columns s right calm =
    let silent = right.calm calm in
    record {
      within = right.within;
      wide = right.wide;
      rows = right.rows;
      levels = λ x h is. let low = right.levels x h is in omega arith;
      settled = λ p lt.
          elim (cases_lt p s.level) [
            | inl below ↦ let old = right.settled p below in record { consistent = old.consistent; forced = old.forced }
            | inr ge ↦ silent_same s (at_level p (pushed s)) refl refl (sym (kept-values p s (λ x h is. let low = right.levels x h is in omega arith))) silent
          ];
      reasons = λ k n lt is.
          let r = right.reasons k n lt is in
          record {
            in_conflict = r.in_conflict;
            level = let low = r.level in omega arith;
            within_vars = r.within_vars;
            has = r.has;
            summed = r.summed;
            stands = elim r.stands [
              | inl held ↦ inl held
              | inr pending ↦ absurd (no_pending columns s right silent k n lt is r pending)
            ];
          };
      clash = right.clash;
      broken = λ is. absurd (let e : Calm ≡ Broken = sym calm ∙ is in cc);
      calm = λ is. record { consistent = silent.consistent; forced = silent.forced };
    }

-- ---- an assignment
pub right_assigned : (columns : List ℕ) (s : State) (v : ℕ) (b : Bool) → IsRightState columns s → 1 ≤ v → v ≤ s.vars → get_or s.values (v - 1) None ≡ None → s.mood ≢ Broken
    → IsRightState columns (assigned s v b)
right_assigned columns s v b right low high free whole =
    let x : ℕ = v - 1 in
    let h : Held = record { value = b; level = s.level } in
    let inside : x < length s.values = let w = right.wide in omega arith in
    let at : get_or (set s.values x (Some h)) x None ≡ Some h = get_or-set_same s.values x (Some h) None inside in
    let values : (y : ℕ) → y ≢ x → get_or (set s.values x (Some h)) y None ≡ get_or s.values y None = λ y ne. get_or-set_other s.values x y (Some h) None ne in
    record {
      within = right.within;
      wide = length-set s.values x (Some h) ∙ right.wide;
      rows = right.rows;
      levels = λ y g is.
          elim (cases_eq y x) [
            | inl e ↦
                let same : Some h ≡ Some g = sym at ∙ ap (λ z. get_or (set s.values x (Some h)) z None) (sym e) ∙ is in
                let hg : h ≡ g = same_Some h g same in
                subst (λ (q : Held). q.level ≤ s.level) hg (omega arith)
            | inr ne ↦ right.levels y g (sym (values y ne) ∙ is)
          ];
      settled = λ p lt.
          silent_same (at_level p s) (at_level p (assigned s v b)) refl refl (sym (kept-set p x h s.values lt free)) (right.settled p lt);
      reasons = λ k n lt is.
          let r = right.reasons k n lt is in
          let y : ℕ = column_at columns k in
          record {
            in_conflict = r.in_conflict;
            level = r.level;
            within_vars = r.within_vars;
            has = r.has;
            summed = r.summed;
            stands = elim r.stands [
              | inl held ↦
                  let ne : y ≡ x → ⊥ = λ e. let clash : None ≡ Some held.0 = sym free ∙ ap (λ z. get_or s.values z None) (sym e) ∙ held.1 in cc in
                  inl (held.0, values y ne ∙ held.1, held.2)
              | inr pending ↦
                  elim (cases_eq y x) [
                    | inl e ↦ inl (h, ap (λ z. get_or (set s.values x (Some h)) z None) e ∙ at, let l = pending.0 in omega arith)
                    | inr ne ↦
                        inr (
                          pending.0,
                          values y ne ∙ pending.1,
                          λ z nz has_z.
                              elim (cases_eq z x) [
                                | inl e ↦ ap is_unassigned (ap (λ w. get_or (set s.values x (Some h)) w None) e ∙ at)
                                | inr nx ↦ ap is_unassigned (values z nx) ∙ pending.2 z nz has_z
                              ],
                        )
                  ]
            ];
          };
      clash = λ n is. absurd (whole (right.clash n is));
      broken = λ is. absurd (let e : Busy ≡ Broken = is in cc);
      calm = λ is. absurd (let e : Busy ≡ Calm = is in cc);
    }

-- ---- a level taken back
chosen : {A : Type 0} (b : Bool) (m n : A) → (cond b (Some m) None ≡ Some n) → (b ≡ true) × (m ≡ n)
chosen true m n is = (refl, cc)
chosen false m n is = cc

kept_some : (l : ℕ) (o : Option Named) (n : Named) → keep_named l o ≡ Some n → (o ≡ Some n) × (n.in_conflict ≡ false) × (n.level ≤ l)
kept_some l None n is = cc
kept_some l (Some m) n is =
    let pick = chosen (not m.in_conflict && nat_le m.level l) m n is in
    let parts = and_parts (not m.in_conflict) (nat_le m.level l) pick.0 in (
      ap (λ (q : Named). let o : Option Named = Some q in o) pick.1,
      subst (λ (q : Named). q.in_conflict ≡ false) pick.1 (not-true m.in_conflict parts.0),
      subst (λ (q : Named). q.level ≤ l) pick.1 (leb-true m.level l parts.1),
    )

pub right_back : (columns : List ℕ) (s : State) (l : ℕ) → IsRightState columns s → l < s.level → IsRightState columns (back l s)
right_back columns s l right lt = record {
  within = right.within;
  wide = length-map s.values (keep l) ∙ right.wide;
  rows = length-map s.named (keep_named l) ∙ right.rows;
  levels = λ x h is. kept_held l (get_or s.values x None) h (sym (get_or-map (keep l) s.values x None) ∙ is);
  settled = λ p below.
      silent_same (at_level p s) (at_level p (back l s)) refl refl (sym (kept-twice l p s.values (omega arith))) (right.settled p (omega arith));
  reasons = λ k n in' is.
      let old = kept_some l (get_or s.named k None) n (sym (get_or-map (keep_named l) s.named k None) ∙ is) in
      let r = right.reasons k n in' old.0 in
      record {
        in_conflict = r.in_conflict;
        level = old.2;
        within_vars = r.within_vars;
        has = r.has;
        summed = r.summed;
        stands = elim r.stands [
          | inl held ↦
              let low : held.0.level ≤ l = let a = held.2 in let b = old.2 in omega arith in
              inl (
                held.0,
                get_or-map (keep l) s.values (column_at columns k) None ∙ ap (keep l) held.1 ∙ ap (λ b. cond b (Some held.0) None) (le-leb held.0.level l low),
                held.2,
              )
          | inr pending ↦ absurd (let a = pending.0 in let b = old.2 in omega arith)
        ];
      };
  clash = λ n is.
      let old = kept_some l (get_or s.named (length columns) None) n (sym (get_or-map (keep_named l) s.named (length columns) None) ∙ is) in
      let b = right.broken (right.clash n old.0) in
      let same : b.0 ≡ n = same_Some b.0 n (sym b.1 ∙ old.0) in
      let yes : n.in_conflict ≡ true = subst (λ (q : Named). q.in_conflict ≡ true) same b.2 in
      absurd (let e : true ≡ false = sym yes ∙ old.1 in cc);
  broken = λ is. absurd (let e : Calm ≡ Broken = is in cc);
  calm = λ is. let silent = right.settled l lt in record { consistent = silent.consistent; forced = silent.forced };
}

-- ---- events
pub right_quiet : (columns : List ℕ) (s : State) → IsRightState columns s → s.mood ≢ Broken → IsSilent s → IsRightState columns (record s { mood = Calm })
right_quiet columns s right whole silent = record {
  within = right.within;
  wide = right.wide;
  rows = right.rows;
  levels = right.levels;
  settled = λ p lt. let old = right.settled p lt in record { consistent = old.consistent; forced = old.forced };
  reasons = λ k n lt is.
      let r = right.reasons k n lt is in
      record { in_conflict = r.in_conflict; level = r.level; within_vars = r.within_vars; has = r.has; summed = r.summed; stands = r.stands };
  clash = λ n is. absurd (whole (right.clash n is));
  broken = λ is. absurd (let e : Calm ≡ Broken = is in cc);
  calm = λ is. record { consistent = silent.consistent; forced = silent.forced };
}

-- a row that is named, where the event leaves what its kind asks for
right_named : (columns : List ℕ) (s : State) (row : ℕ) (n : Named) (mood : Mood) → IsRightState columns s → row ≤ length columns
    → (row < length columns → IsReason (names s row n mood) n (column_at columns row))
    → ((m : Named) → get_or (set s.named row (Some n)) (length columns) None ≡ Some m → mood ≡ Broken)
    → (mood ≡ Broken
    → (m : Named) × (get_or (set s.named row (Some n)) (length columns) None ≡ Some m) × (m.in_conflict ≡ true) × (m.level ≡ s.level) × IsSummed s m × IsBroken (names s row n mood) m.form)
    → (mood ≡ Calm → ⊥) → IsRightState columns (names s row n mood)
right_named columns s row n mood right low own clash broken restless =
    let inside : row < length s.named = let r = right.rows in omega arith in
    record {
      within = right.within;
      wide = right.wide;
      rows = length-set s.named row (Some n) ∙ right.rows;
      levels = right.levels;
      settled = λ p lt. let old = right.settled p lt in record { consistent = old.consistent; forced = old.forced };
      reasons = λ j m lt is.
          elim (cases_eq j row) [
            | inl e ↦
                let same : n ≡ m = same_Some n m (sym (get_or-set_same s.named row (Some n) None inside) ∙ ap (λ i. get_or (set s.named row (Some n)) i None) (sym e) ∙ is) in
                subst (λ (q : Named). IsReason (names s row n mood) q (column_at columns j)) same
                (subst (λ i. IsReason (names s row n mood) n (column_at columns i)) (sym e) (own (omega arith)))
            | inr ne ↦
                let r = right.reasons j m lt (sym (get_or-set_other s.named row j (Some n) None ne) ∙ is) in
                record { in_conflict = r.in_conflict; level = r.level; within_vars = r.within_vars; has = r.has; summed = r.summed; stands = r.stands }
          ];
      clash = clash;
      broken = broken;
      calm = λ is. absurd (restless is);
    }

-- a row that is named for its one unassigned variable
pub right_implied : (columns : List ℕ) (s : State) (row : ℕ) (n : Named) → IsRightState columns s → s.mood ≢ Broken → row < length columns
    → IsNamedNow s n false → column_at columns row < s.vars → has_at n.form (column_at columns row) ≡ true
    → get_or s.values (column_at columns row) None ≡ None
    → ((y : ℕ) → y ≢ column_at columns row → has_at n.form y ≡ true → is_unassigned (get_or s.values y None) ≡ false)
    → IsRightState columns (names s row n Busy)
right_implied columns s row n right whole in' now within has_x free others =
    right_named columns s row n Busy right (omega arith)
    (λ _. record {
      in_conflict = now.kind_is;
      level = let l = now.level_is in omega arith;
      within_vars = within;
      has = has_x;
      summed = (now.numbers, now.sums);
      stands = inr (now.level_is, free, others);
    })
    (λ m is. absurd (whole (right.clash m (sym (get_or-set_other s.named row (length columns) (Some n) None (λ e. omega arith)) ∙ is))))
    (λ is. absurd (let e : Busy ≡ Broken = is in cc))
    (λ is. let e : Busy ≡ Calm = is in cc)

-- a row that is named for a contradiction, in the last place
pub right_broken : (columns : List ℕ) (s : State) (row : ℕ) (n : Named) → IsRightState columns s → row ≡ length columns
    → IsNamedNow s n true → IsBroken s n.form → IsRightState columns (names s row n Broken)
right_broken columns s row n right at now clashes =
    let inside : row < length s.named = let r = right.rows in omega arith in
    right_named columns s row n Broken right (omega arith) (λ lt. absurd (omega arith)) (λ m is. refl)
    (λ is. (
      n,
      ap (λ i. get_or (set s.named row (Some n)) i None) (sym at) ∙ get_or-set_same s.named row (Some n) None inside,
      now.kind_is,
      now.level_is,
      (now.numbers, now.sums),
      record { none = clashes.none; whole = clashes.whole; unmet = clashes.unmet },
    ))
    (λ is. let e : Broken ≡ Calm = is in cc)

-- each named row is the sum of its sources
pub summed : (columns : List ℕ) (s : State) (k : ℕ) (n : Named) → IsRightState columns s → get_or s.named k None ≡ Some n → IsSummed s n
summed columns s k n right is =
    elim (cases_lt k (length columns)) [
      | inl lt ↦ let r = right.reasons k n lt is in r.summed
      | inr ge ↦
          elim (cases_eq k (length columns)) [
            | inl e ↦
                let at : get_or s.named (length columns) None ≡ Some n = ap (λ i. get_or s.named i None) (sym e) ∙ is in
                let b = right.broken (right.clash n at) in
                subst (IsSummed s) (same_Some b.0 n (sym b.1 ∙ at)) b.4
            | inr ne ↦
                let out : length s.named ≤ k = let r = right.rows in omega arith in
                absurd (let clash : None ≡ Some n = sym (get_or-eq_default s.named None out) ∙ is in cc)
          ]
    ]

-- ---- the start
pub right_fresh : (columns : List ℕ) (vars : ℕ) (parities : List (List Literal)) → AllByRecursion (AreWithin vars) parities → IsRightState columns (fresh vars parities (length columns + 1))
right_fresh columns vars parities within = record {
  within = within;
  wide = length-replicate vars (let o : Option Held = None in o);
  rows = length-replicate (length columns + 1) (let o : Option Named = None in o);
  levels = λ x h is. absurd (let clash : None ≡ Some h = sym (nothing_at {A = Held} vars x) ∙ is in cc);
  settled = λ p lt. absurd (omega arith);
  reasons = λ k n lt is. absurd (let clash : None ≡ Some n = sym (nothing_at {A = Named} (length columns + 1) k) ∙ is in cc);
  clash = λ n is. absurd (let clash : None ≡ Some n = sym (nothing_at {A = Named} (length columns + 1) (length columns)) ∙ is in cc);
  broken = λ is. absurd (let e : Busy ≡ Broken = is in cc);
  calm = λ is. absurd (let e : Busy ≡ Calm = is in cc);
}
