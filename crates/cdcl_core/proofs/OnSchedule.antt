-- Counting conflicts up to the next restart.
use Rattle.std.proofs.Common.{◌≡◌, refl, sym, ap, ◌∙◌, subst, ℕ, zero, suc, ◌+◌, ◌*◌, ◌/◌, ◌≤◌, ◌<◌, List, [], ◌∷◌, ◌++◌, length, length-append, get_or, ◌⊎◌, inl, inr, arith}
use Rattle.std.specs.List.{sum}
use Rattle.std.proofs.lemmas.List.{get_or_append_left, get_or-append-add}
use Rattle.std.proofs.lemmas.List.Sums.{sum_by-append}
use Rattle.search_policy.specs.Restarts.{IsLuby, IsDue}
use Rattle.search_steps.specs.Schedule.{AreLuby, IsRestartAt}
use Rattle.search_steps.proofs.ScheduleLaws.{luby_is_some, sum_is_long}
use Rattle.cdcl_core.specs.declared.schedule.Schedule.{Schedule}
use Rattle.cdcl_core.specs.Scheduling.{IsOnSchedule}

-- ---- Luby's numbers
sum_push : (xs : List ℕ) (v : ℕ) → sum (xs ++ v ∷ []) ≡ sum xs + v
sum_push xs v = let e = sum_by-append (λ (x : ℕ). x) xs (v ∷ []) in omega (arith, e)

luby_push : (numbers : List ℕ) (v : ℕ) → AreLuby numbers → IsLuby (length numbers + 1) v → AreLuby (numbers ++ v ∷ [])
luby_push numbers v are next = record { each = λ i less. at i less (below i less) }
  where
    below : (i : ℕ) → i < length (numbers ++ v ∷ []) → (i < length numbers) ⊎ (i ≡ length numbers)
    below i less = cases i (length numbers) (let long = length-append numbers (v ∷ []) in omega (arith, less, long))
      where
        cases : (i n : ℕ) → i ≤ n → (i < n) ⊎ (i ≡ n)
        cases zero zero h = inr refl
        cases zero (suc n) h = inl (omega arith)
        cases (suc i) zero h = absurd (omega (arith, h))
        cases (suc i) (suc n) h = elim (cases i n (omega (arith, h))) [ inl l ↦ inl (omega (arith, l)) | inr e ↦ inr (ap suc e) ]

    at : (i : ℕ) → i < length (numbers ++ v ∷ []) → (i < length numbers) ⊎ (i ≡ length numbers) → IsLuby (i + 1) (get_or (numbers ++ v ∷ []) i 0)
    at i less (inl inside) = subst (IsLuby (i + 1)) (sym (get_or_append_left numbers (v ∷ []) 0 i inside)) (are.each i inside)
    at i less (inr last) =
        let place : length numbers + 0 ≡ i = omega (arith, last) in
        let is : get_or (numbers ++ v ∷ []) i 0 ≡ v = ap (λ k. get_or (numbers ++ v ∷ []) k 0) (sym place) ∙ get_or-append-add numbers (v ∷ []) 0 0 in
        subst (IsLuby (i + 1)) (sym is) (subst (λ k. IsLuby (k + 1) v) (sym last) next)

-- ---- the schedule
-- as many restarts as conflicts at most
pub few_restarts : (s : Schedule) (conflicts : ℕ) → IsOnSchedule s conflicts → s.restarts ≤ conflicts
few_restarts s conflicts on =
    let long = sum_is_long on.numbers (λ i less. luby_is_some (on.are.each i less)) in
    let counted = on.counted in
    let restarts = on.restarts in
    omega (arith, long, counted, restarts)

pub few_since : (s : Schedule) (conflicts : ℕ) → IsOnSchedule s conflicts → s.since ≤ conflicts
few_since s conflicts on = let counted = on.counted in omega (arith, counted)

pub begins_on_schedule : (s : Schedule) (conflicts : ℕ) → s.since ≡ 0 → s.restarts ≡ 0 → conflicts ≡ 0 → IsOnSchedule s conflicts
begins_on_schedule s conflicts since restarts none = record {
  numbers = [];
  are = record { each = λ i less. absurd (omega (arith, less)) };
  restarts = sym restarts;
  counted = omega (arith, since, none);
  not_due = λ due. let some = luby_is_some due.1 in let few = due.2 in omega (arith, some, few, since);
}

pub one_more_on_schedule : (old new : Schedule) (count : ℕ) → IsOnSchedule old count → new.since ≡ old.since + 1 → new.restarts ≡ old.restarts → ¬ IsDue new.since (new.restarts + 1) → IsOnSchedule new (count + 1)
one_more_on_schedule old new count on since restarts not_due = record {
  numbers = on.numbers;
  are = on.are;
  restarts = on.restarts ∙ sym restarts;
  counted = let counted = on.counted in omega (arith, counted, since);
  not_due = not_due;
}

-- a restart is due only just now
exact : (since v : ℕ) → since / 100 < v → v ≤ (since + 1) / 100 → since + 1 ≡ 100 * v
exact since v before now = omega (arith, before, now)

module _ (old now new : Schedule) (count : ℕ) (on : IsOnSchedule old count) (since : now.since ≡ old.since + 1) (restarts : now.restarts ≡ old.restarts) (due : IsDue now.since (now.restarts + 1)) where
  abbrev v : ℕ
  v = due.0

  next_is : IsLuby (old.restarts + 1) v
  next_is = subst (λ k. IsLuby (k + 1) v) restarts due.1

  just_now : old.since + 1 ≡ 100 * v
  just_now = exact old.since v
      (let no = λ (h : v ≤ old.since / 100). on.not_due (v, next_is, h) in omega (arith, no))
      (subst (λ k. v ≤ k / 100) since due.2)

  numbers_are : AreLuby (on.numbers ++ v ∷ [])
  numbers_are = luby_push on.numbers v on.are (subst (λ k. IsLuby (k + 1) v) (sym on.restarts) next_is)

  all_counted : count + 1 ≡ 100 * sum (on.numbers ++ v ∷ [])
  all_counted = let counted = on.counted in let total = sum_push on.numbers v in let now_is = just_now in omega (arith, counted, total, now_is)

  pub is_restart_at : (r : ℕ) → r ≡ old.restarts + 1 → IsRestartAt r (count + 1)
  is_restart_at r is = (on.numbers ++ v ∷ [], numbers_are, (let long = length-append on.numbers (v ∷ []) in let was = on.restarts in omega (arith, long, was, is)), all_counted)

  pub restarts_on_schedule : new.since ≡ 0 → new.restarts ≡ now.restarts + 1 → IsOnSchedule new (count + 1)
  restarts_on_schedule none one_more = record {
    numbers = on.numbers ++ v ∷ [];
    are = numbers_are;
    restarts = let long = length-append on.numbers (v ∷ []) in let was = on.restarts in omega (arith, long, was, restarts, one_more);
    counted = let counted = all_counted in omega (arith, counted, none);
    not_due = λ next. let some = luby_is_some next.1 in let few = next.2 in omega (arith, some, few, none);
  }
