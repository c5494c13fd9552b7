-- Units that are taken out, one after another.
use Rattle.std.proofs.Common.{◌≡◌, ◌≢◌, ◌⊎◌, inl, inr, ⊎_elim, refl, sym, ap, ◌∙◌, subst, ℕ, ◌+◌, ◌-◌, ◌<◌, ◌≤◌, List, [], ◌∷◌, ◌++◌, length, get_or, set, Option, None, arith}
use Rattle.std.proofs.lemmas.Bool.{cases_eq, cases_lt}
use Rattle.std.proofs.lemmas.List.{get_or_append_left, get_or-append_right, length-append}
use Rattle.cx_base.specs.Literals.{Literal}
use Rattle.clause_arena.specs.Clauses.{ArenaState, Stored, clause_at, IsLive, literals_in, id_in}
use Rattle.clause_arena.proofs.PackingLaws.{live_within}
use Rattle.clause_tidy.specs.Tautologies.{IsLeft}
use Rattle.clause_tidy.specs.Taking.{Lists, IsUnitAt, Takes, IsWide}
use Rattle.clause_tidy.proofs.LeftLaws.{all_left, left_on, was_there, removed_left}
use Rattle.clause_tidy.proofs.Removing.{none_lives, gone, lives_on}

pub nothing_taken : (a : ArenaState) → Takes a a [] []
nothing_taken a = record { left = all_left a; each = refl; taken = λ r l. inl l; there = λ l n w. absurd (omega (arith, w.1)) }

-- ---- one more in the lists
at_last : {X : Type 0} (xs : List X) (x d : X) (i : ℕ) → i ≡ length xs → get_or (xs ++ x ∷ []) i d ≡ x
at_last xs x d i e = let first : i - length xs ≡ 0 = omega arith in get_or-append_right xs (x ∷ []) (length xs) i d refl (omega (arith, e)) ∙ ap (λ k. get_or (x ∷ []) k d) first

long : {X : Type 0} (xs : List X) (x : X) → length (xs ++ x ∷ []) ≡ length xs + 1
long xs x = length-append xs (x ∷ [])

module _ (units : List Literal) (ids : List ℕ) (x : Literal) (k : ℕ) (each : length ids ≡ length units) where
  lists_more : (l : Literal) (n : ℕ) → Lists units ids l n → Lists (units ++ x ∷ []) (ids ++ k ∷ []) l n
  lists_more l n (i, less, e, f) = (
    i,
    omega (arith, less, long units x),
    get_or_append_left units (x ∷ []) l i less ∙ e,
    get_or_append_left ids (k ∷ []) n i (omega (arith, less, each)) ∙ f,
  )

  lists_last : Lists (units ++ x ∷ []) (ids ++ k ∷ []) x k
  lists_last = (length units, omega (arith, long units x), at_last units x x (length units) refl, at_last ids k k (length units) (sym each))

  lists_cases : (l : Literal) (n : ℕ) → Lists (units ++ x ∷ []) (ids ++ k ∷ []) l n → Lists units ids l n ⊎ ((x ≡ l) × (k ≡ n))
  lists_cases l n (i, less, e, f) = ⊎_elim
      (λ (h : i < length units). inl (i, h, sym (get_or_append_left units (x ∷ []) l i h) ∙ e, sym (get_or_append_left ids (k ∷ []) n i (omega (arith, h, each))) ∙ f))
      (λ (h : length units ≤ i).
      let last : i ≡ length units = omega (arith, h, less, long units x) in
      inr (sym (at_last units x l i last) ∙ e, sym (at_last ids k n i (last ∙ sym each)) ∙ f)) (cases_lt i (length units))

-- ---- one more clause
module _ (a b c : ArenaState) (units : List Literal) (ids : List ℕ) (r : ℕ) (x : Literal) (k : ℕ) (h : Takes a b units ids) (u : IsUnitAt b r x k) (is : c.clauses ≡ set b.clauses r None) where
  there_before : IsUnitAt a r x k
  there_before = (was_there a b h.left r u.0, sym (ap literals_in (h.left.same r u.0)) ∙ u.1, sym (ap id_in (h.left.same r u.0)) ∙ u.2)

  still : (q : ℕ) → IsLive b q → IsLive c q ⊎ (q ≡ r)
  still q l = ⊎_elim (λ (e : q ≡ r). inr e) (λ (ne : q ≢ r). inl (lives_on b c r u.0 is q ne l)) (cases_eq q r)

  pub takes_more : Takes a c (units ++ x ∷ []) (ids ++ k ∷ [])
  takes_more = record {
    left = left_on a b c h.left (removed_left b c r u.0 is);
    each = omega (arith, long units x, long ids k, h.each);
    taken = λ q l. elim (h.taken q l) [
      | inl stays ↦ elim (still q stays) [
        | inl on ↦ inl on
        | inr e ↦ inr (x, k, lists_last units ids x k h.each, subst (λ y. IsUnitAt a y x k) (sym e) there_before)
      ]
      | inr w ↦ inr (w.0, w.1, lists_more units ids x k h.each w.0 w.1 w.2, w.3)
    ];
    there = λ l n w. elim (lists_cases units ids x k h.each l n w) [
      | inl old ↦ let t = h.there l n old in (t.0, t.1, λ lives. t.2 (was_there b c (removed_left b c r u.0 is) t.0 lives))
      | inr new ↦ (r, subst (λ y. IsUnitAt a r y n) new.0 (subst (λ y. IsUnitAt a r x y) new.1 there_before), λ lives. none_lives (clause_at c r) (gone b c r u.0 is) lives)
    ];
  }

-- ---- none is left from a place on
pub wide_more : (b c : ArenaState) (first i r : ℕ) → r ≡ i → IsLeft b c → ((q : ℕ) → first ≤ q → q < i → IsWide b q) → IsWide c r → (q : ℕ) → first ≤ q → q < i + 1 → IsWide c q
wide_more b c first i r is h before here q low less = ⊎_elim
    (λ (e : q ≡ r). subst (IsWide c) (sym e) here)
    (λ (ne : q ≢ r). λ l one. before q low (omega (arith, less, is, ne)) (was_there b c h q l) (sym (ap (λ (o : Option Stored). length (literals_in o)) (h.same q l)) ∙ one)) (cases_eq q r)

pub wide_all : (b : ArenaState) (first i : ℕ) → length b.clauses ≤ i → ((q : ℕ) → first ≤ q → q < i → IsWide b q) → (q : ℕ) → first ≤ q → IsWide b q
wide_all b first i all h q low l one = h q low (omega (arith, all, live_within b q l)) l one
