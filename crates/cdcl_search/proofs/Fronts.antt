-- A prefix of a longer trail of the same level is a trail.
use Rattle.std.proofs.Common.{◌≡◌, sym, ap, ◌∙◌, subst, ℕ, ◌-◌, ◌<◌, ◌≤◌, nat_le, length, take, arith}
use Rattle.std.proofs.lemmas.Bool.{leb-true, leb-false}
use Rattle.std.proofs.lemmas.List.{length-take-le}
use Rattle.cx_trail.specs.Sequence.{TrailState, IsTrail, entry_at}
use Rattle.cx_trail.proofs.CellLaws.{at_take}
use Rattle.conflict_learn.proofs.ChainOfResolutions.{by_cases}

abbrev pub front : TrailState → ℕ → TrailState
front u n = record u { entries = take n u.entries }

module _ (t u : TrailState) (ok_t : IsTrail t) (ok_u : IsTrail u) (level : u.level ≡ t.level) (same : (i : ℕ) → i < length t.entries → entry_at u.entries i ≡ entry_at t.entries i) where
  -- what comes after the shorter trail is of the current level
  pub late_level : (i : ℕ) → length t.entries ≤ i → i < length u.entries → (entry_at u.entries i).level ≡ u.level
  late_level i past less =
      let high = ok_u.levels i less in
      by_cases (nat_le (length t.entries) 0)
      (λ e. let none = leb-true (length t.entries) 0 e in let deep = ok_t.deep in omega (arith, none, deep, high, level))
      (λ e.
      let some = leb-false (length t.entries) 0 e in
      let last : length t.entries - 1 < length t.entries = omega (arith, some) in
      let newest : (entry_at u.entries (length t.entries - 1)).level ≡ t.level = ap (λ x. x.level) (same (length t.entries - 1) last) ∙ ok_t.newest in
      let up = ok_u.rising (length t.entries - 1) i (omega (arith, last, past)) less in
      omega (arith, newest, up, high, level))

  module _ (n : ℕ) (from : length t.entries ≤ n) (to : n ≤ length u.entries) where
    long : length (take n u.entries) ≡ n
    long = length-take-le n u.entries to

    at : (i : ℕ) → i < n → entry_at (take n u.entries) i ≡ entry_at u.entries i
    at i less = at_take n i u.entries less

    below : (i : ℕ) → i < length (take n u.entries) → i < n
    below i less = let e = long in omega (arith, less, e)

    inside : (i : ℕ) → i < length (take n u.entries) → i < length u.entries
    inside i less = let e = long in omega (arith, less, e, to)

    newest_is : (entry_at (take n u.entries) (length (take n u.entries) - 1)).level ≡ u.level
    newest_is = ap (λ m. (entry_at (take n u.entries) (m - 1)).level) long ∙ by_cases (nat_le n 0)
        (λ e. let none = leb-true n 0 e in
        let zero_is : n ≡ 0 = omega (arith, none) in
        let deep = ok_t.deep in
        let bottom : u.level ≡ 0 = omega (arith, none, deep, level, from) in
        ap (λ m. (entry_at (take m u.entries) (m - 1)).level) zero_is ∙ sym bottom)
        (λ e. let some = leb-false n 0 e in
        let last : n - 1 < n = omega (arith, some) in
        ap (λ x. x.level) (at (n - 1) last) ∙ by_cases (nat_le (length t.entries) (n - 1))
        (λ f. late_level (n - 1) (leb-true (length t.entries) (n - 1) f) (omega (arith, last, to)))
        (λ f.
        let short = leb-false (length t.entries) (n - 1) f in
        let is : n ≡ length t.entries = omega (arith, short, from) in
        let within : n - 1 < length t.entries = omega (arith, is, last) in
        ap (λ x. x.level) (same (n - 1) within) ∙ ap (λ m. (entry_at t.entries (m - 1)).level) is ∙ ok_t.newest ∙ sym level))

    pub front_is_trail : IsTrail (front u n)
    front_is_trail = record {
      few = ok_u.few;
      short = let e = long in let most = ok_u.short in omega (arith, e, to, most);
      distinct = λ i j h g e. ok_u.distinct i j (inside i h) (inside j g) (ap (λ x. x.literal.variable) (sym (at i (below i h))) ∙ e ∙ ap (λ x. x.literal.variable) (at j (below j g)));
      low = λ i h. subst (λ x. 1 ≤ x.literal.variable) (sym (at i (below i h))) (ok_u.low i (inside i h));
      high = λ i h. subst (λ x. x.literal.variable ≤ u.variables) (sym (at i (below i h))) (ok_u.high i (inside i h));
      levels = λ i h. subst (λ x. x.level ≤ u.level) (sym (at i (below i h))) (ok_u.levels i (inside i h));
      rising = λ i j up h.
          let less = below j h in
          subst (λ x. x.level ≤ (entry_at (take n u.entries) j).level) (sym (at i (omega (arith, less, up))))
          (subst (λ x. (entry_at u.entries i).level ≤ x.level) (sym (at j less)) (ok_u.rising i j up (inside j h)));
      deep = let e = long in let deep = ok_t.deep in omega (arith, e, from, deep, level);
      newest = newest_is;
      opens = λ i j up h above is.
          let less = below j h in
          let e = at j less in
          subst (λ x. x.level < (entry_at (take n u.entries) j).level) (sym (at i (omega (arith, less, up))))
          (subst (λ x. (entry_at u.entries i).level < x.level) (sym e)
          (ok_u.opens i j up (inside j h) (subst (λ x. 0 < x.level) e above) (ap (λ x. x.reason) (sym e) ∙ is)));
      decided = λ k low high.
          let d = ok_t.decided k low (omega (arith, high, level)) in
          let first = d.1 in
          let e = same d.0 first in
          let f = at d.0 (omega (arith, first, from)) in
          let m = long in
          (d.0, omega (arith, first, from, m), ap (λ x. x.level) (f ∙ e) ∙ d.2, ap (λ x. x.reason) (f ∙ e) ∙ d.3);
    }
