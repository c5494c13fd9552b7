-- Assignments, events, levels and backjumps leave the lower levels as they were.
use Rattle.std.proofs.Common.{zero, suc, ◌≡◌, ℕ, ◌-◌, ◌<◌, ◌≤◌, cond, List, map, length, get_or, set, Option, Some, None, inl, inr, refl, sym, ap, ◌∙◌, subst, arith}
use Rattle.std.specs.Prelude.{replicate}
use Rattle.std.proofs.Math.ListN.{get_or-map, length-set, get_or-eq_default}
use Rattle.std.proofs.lemmas.List.{length-map, get_or-set_same, get_or-set_other, ext_get_or}
use Rattle.std.proofs.lemmas.Option.{same_Some}
use Rattle.std.proofs.lemmas.Bool.{cases_eq, cases_lt, le-leb, lt-leb}
use Rattle.parity_engine.specs.declared.state.Held.{Held}
use Rattle.parity_engine.specs.declared.state.Mood.{Mood}
use Rattle.parity_engine.specs.declared.state.Mood.TheVariants.{Busy, Calm, Broken}
use Rattle.parity_engine.specs.declared.event.ParityEvent.TheVariants.{Quiet, Implied, Conflict}
use Rattle.parity_engine.specs.State.{IsSilent, Named, State, assigned, back, keep, pushed}
use Rattle.parity_engine.specs.Settled.{AssignedIsSettled, BackIsSettled, BackIsSilent, FreshIsSettled, IsSettled, LowerLevelsStay, PushedIsSettled, ReportedIsSettled, at_level}
use Rattle.parity_engine.proofs.Known.{none_is}

-- ---- values by level
keep-twice : (l p : ℕ) (o : Option Held) → p ≤ l → keep p (keep l o) ≡ keep p o
keep-twice l p None le = refl
keep-twice l p (Some h) le =
    elim (cases_lt l h.level) [
      | inl above ↦ ap (λ b. keep p (cond b (Some h) None)) (lt-leb h.level l above) ∙ sym (ap (λ b. cond b (Some h) None) (lt-leb h.level p (omega arith)))
      | inr below ↦ ap (λ b. keep p (cond b (Some h) None)) (le-leb h.level l below)
    ]

keep-low : (l : ℕ) (o : Option Held) → ((h : Held) → o ≡ Some h → h.level ≤ l) → keep l o ≡ o
keep-low l None low = refl
keep-low l (Some h) low = ap (λ b. cond b (Some h) None) (le-leb h.level l (low h refl))

pub kept-values : (l : ℕ) (s : State) → ((x : ℕ) (h : Held) → get_or s.values x None ≡ Some h → h.level ≤ l) → map (keep l) s.values ≡ s.values
kept-values l s low =
    ext_get_or None (map (keep l) s.values) s.values (length-map s.values (keep l))
    (λ x lt. get_or-map (keep l) s.values x None ∙ keep-low l (get_or s.values x None) (low x))

pub kept-twice : (l p : ℕ) (values : List (Option Held)) → p ≤ l → map (keep p) (map (keep l) values) ≡ map (keep p) values
kept-twice l p values le =
    ext_get_or None (map (keep p) (map (keep l) values)) (map (keep p) values)
    (length-map (map (keep l) values) (keep p) ∙ length-map values (keep l) ∙ sym (length-map values (keep p)))
    (λ x lt.
    get_or-map (keep p) (map (keep l) values) x None ∙ ap (keep p) (get_or-map (keep l) values x None)
    ∙ keep-twice l p (get_or values x None) le ∙ sym (get_or-map (keep p) values x None))

-- a value of a higher level is not seen from below
pub kept-set : (p x : ℕ) (h : Held) (values : List (Option Held)) → p < h.level → get_or values x None ≡ None → map (keep p) (set values x (Some h)) ≡ map (keep p) values
kept-set p x h values lt free =
    ext_get_or None (map (keep p) (set values x (Some h))) (map (keep p) values)
    (length-map (set values x (Some h)) (keep p) ∙ length-set values x (Some h) ∙ sym (length-map values (keep p)))
    (λ y in'.
    get_or-map (keep p) (set values x (Some h)) y None
    ∙ elim (cases_eq y x) [
      | inl e ↦
          let inside : x < length values =
          omega (arith, length-map (set values x (Some h)) (keep p), length-set values x (Some h)) in
          ap (λ z. keep p (get_or (set values x (Some h)) z None)) e ∙ ap (keep p) (get_or-set_same values x (Some h) None inside)
          ∙ ap (λ b. cond b (Some h) None) (lt-leb h.level p lt)
          ∙ sym (ap (keep p) free) ∙ ap (λ z. keep p (get_or values z None)) (sym e)
      | inr ne ↦ ap (keep p) (get_or-set_other values x y (Some h) None ne)
    ]
    ∙ sym (get_or-map (keep p) values y None))

-- a value that is kept is of a level at most this one
pub kept_held : (l : ℕ) (o : Option Held) (h : Held) → keep l o ≡ Some h → h.level ≤ l
kept_held l None h is = let clash : None ≡ Some h = is in cc
kept_held l (Some g) h is =
    elim (cases_lt l g.level) [
      | inl above ↦ let clash : None ≡ Some h = sym (ap (λ b. let o : Option Held = cond b (Some g) None in o) (lt-leb g.level l above)) ∙ is in cc
      | inr low ↦ subst (λ (q : Held). q.level ≤ l) (same_Some g h (sym (ap (λ b. let o : Option Held = cond b (Some g) None in o) (le-leb g.level l low)) ∙ is)) low
    ]

-- silence rests on the values alone
pub silent_same : (s t : State) → s.vars ≡ t.vars → s.parities ≡ t.parities → s.values ≡ t.values → IsSilent s → IsSilent t
silent_same s t ev ep es silent =
    let made : (v : ℕ) → s.vars ≡ v → IsSilent (record s { vars = v }) = λ v e. subst (λ w. IsSilent (record s { vars = w })) e silent in
    let made2 : IsSilent (record s { vars = t.vars; parities = t.parities }) = subst (λ q. IsSilent (record s { vars = t.vars; parities = q })) ep (made t.vars ev) in
    let made3 : IsSilent (record s { vars = t.vars; parities = t.parities; values = t.values }) = subst (λ q. IsSilent (record s { vars = t.vars; parities = t.parities; values = q })) es made2 in
    record { consistent = made3.consistent; forced = made3.forced }

pub lower_levels_stay : LowerLevelsStay
lower_levels_stay s p = (
  λ v b lt free. kept-set p (v - 1) (record { value = b; level = s.level }) s.values lt free,
  refl,
  λ l le. kept-twice l p s.values le,
  λ low. kept-values p s low,
)

-- ---- what each call keeps
pub nothing_at : {A : Type 0} (n k : ℕ) → get_or (replicate n (let o : Option A = None in o)) k None ≡ None
nothing_at zero k = refl
nothing_at (suc n) zero = refl
nothing_at {A = A} (suc n) (suc k) = nothing_at {A = A} n k

pub fresh_is_settled : FreshIsSettled
fresh_is_settled vars parities rows = record {
  levels = λ x h is. absurd (let clash : None ≡ Some h = sym (nothing_at {A = Held} vars x) ∙ is in cc);
  below = λ p lt. absurd (omega arith);
  calm = λ is. absurd (let e : Busy ≡ Calm = is in cc);
}

pub assigned_is_settled : AssignedIsSettled
assigned_is_settled s v b settled free =
    let x : ℕ = v - 1 in
    let h : Held = record { value = b; level = s.level } in
    let none : get_or s.values x None ≡ None = none_is (get_or s.values x None) free in
    record {
      levels = λ y g is.
          elim (cases_eq y x) [
            | inr ne ↦ settled.levels y g (sym (get_or-set_other s.values x y (Some h) None ne) ∙ is)
            | inl e ↦
                elim (cases_lt x (length s.values)) [
                  | inl inside ↦
                      let same : h ≡ g = same_Some h g (sym (get_or-set_same s.values x (Some h) None inside) ∙ ap (λ z. get_or (set s.values x (Some h)) z None) (sym e) ∙ is) in
                      subst (λ (q : Held). q.level ≤ s.level) same (omega arith)
                  | inr out ↦
                      absurd (let clash : None ≡ Some g = sym (get_or-eq_default (set s.values x (Some h)) None (omega (arith, length-set s.values x (Some h)))) ∙ is in cc)
                ]
          ];
      below = λ p lt. silent_same (at_level p s) (at_level p (assigned s v b)) refl refl (sym (kept-set p x h s.values lt none)) (settled.below p lt);
      calm = λ is. absurd (let e : Busy ≡ Calm = is in cc);
    }

-- another mood and other names
remembered : (s : State) (ns : List (Option Named)) (m : Mood) → IsSettled s → (m ≡ Calm → IsSilent s) → IsSettled (record s { named = ns; mood = m })
remembered s ns m settled calm = record {
  levels = settled.levels;
  below = λ p lt. let old = settled.below p lt in record { consistent = old.consistent; forced = old.forced };
  calm = λ is. let silent = calm is in record { consistent = silent.consistent; forced = silent.forced };
}

pub reported_is_settled : ReportedIsSettled
reported_is_settled s t Quiet settled (is, silent) = subst IsSettled (sym is) (remembered s s.named Calm settled (λ _. silent))
reported_is_settled s t (Implied l row) settled (n, lt, is, same, now, says) =
    subst IsSettled (sym is) (remembered s (set s.named row (Some n)) Busy settled (λ e. absurd (let clash : Busy ≡ Calm = e in cc)))
reported_is_settled s t (Conflict row) settled (n, lt, is, same, now, says) =
    subst IsSettled (sym is) (remembered s (set s.named row (Some n)) Broken settled (λ e. absurd (let clash : Broken ≡ Calm = e in cc)))

pub pushed_is_settled : PushedIsSettled
pushed_is_settled s settled calm =
    let silent = settled.calm calm in
    record {
      levels = λ x h is. let low = settled.levels x h is in omega arith;
      below = λ p lt.
          elim (cases_lt p s.level) [
            | inl small ↦ let old = settled.below p small in record { consistent = old.consistent; forced = old.forced }
            | inr ge ↦ silent_same s (at_level p (pushed s)) refl refl (sym (kept-values p s (λ x h is. let low = settled.levels x h is in omega arith))) silent
          ];
      calm = λ is. record { consistent = silent.consistent; forced = silent.forced };
    }

pub back_is_silent : BackIsSilent
back_is_silent s level settled lt = let old = settled.below level lt in record { consistent = old.consistent; forced = old.forced }

pub back_is_settled : BackIsSettled
back_is_settled s level settled lt = record {
  levels = λ x h is. kept_held level (get_or s.values x None) h (sym (get_or-map (keep level) s.values x None) ∙ is);
  below = λ p small. silent_same (at_level p s) (at_level p (back level s)) refl refl (sym (kept-twice level p s.values (omega arith))) (settled.below p (omega arith));
  calm = λ is. back_is_silent s level settled lt;
}
