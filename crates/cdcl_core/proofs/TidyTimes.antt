-- When the tidy line of a restart is missing.
use Rattle.std.proofs.Common.{◌≡◌, sym, ◌∙◌, subst, ℕ, suc, ◌+◌, ◌*◌, ◌/◌, ◌≤◌, ◌<◌, inl, inr, List, [], ◌∷◌, length, get_or, arith}
use Rattle.std.specs.List.{sum}
use Rattle.std.proofs.lemmas.Bool.{cases_lt}
use Rattle.std.proofs.lemmas.List.Sums.{sum_by-cons}
use Rattle.cx_base.specs.Lines.{Line}
use Rattle.cx_base.specs.declared.steps.LogEvent.{LogEvent}
use Rattle.search_policy.specs.Restarts.{IsLuby}
use Rattle.search_policy.proofs.LubyLaws.{one_number}
use Rattle.search_steps.specs.Schedule.{AreLuby, IsRestartAt}
use Rattle.search_steps.specs.TidyLines.{marks_in, tidy_lines_in, NoneIsMissing}
use Rattle.cdcl_core.specs.declared.schedule.Schedule.{Schedule}
use Rattle.cdcl_core.specs.Scheduling.{IsOnSchedule}

-- ---- sums of Luby's numbers
abbrev AreLubyFrom : ℕ → List ℕ → Type 0
AreLubyFrom k numbers = (i : ℕ) → i < length numbers → IsLuby (k + i + 1) (get_or numbers i 0)

from_first : (numbers : List ℕ) → AreLuby numbers → AreLubyFrom 0 numbers
from_first numbers are i less = let place : i + 1 ≡ 0 + i + 1 = omega arith in subst (λ n. IsLuby n (get_or numbers i 0)) place (are.each i less)

from_next : (k x : ℕ) (numbers : List ℕ) → AreLubyFrom k (x ∷ numbers) → AreLubyFrom (k + 1) numbers
from_next k x numbers are i less = let place : k + suc i + 1 ≡ k + 1 + i + 1 = omega arith in subst (λ n. IsLuby n (get_or numbers i 0)) place (are (suc i) (omega (arith, less)))

-- the sum of more of them is greater by the next one at least
longer_sum : (k : ℕ) (few many : List ℕ) → AreLubyFrom k few → AreLubyFrom k many → length few < length many → (v : ℕ) × IsLuby (k + length few + 1) v × (sum few + v ≤ sum many)
longer_sum k few [] are those more = absurd (omega (arith, more))
longer_sum k [] (y ∷ many) are those more = (y, those 0 (omega arith), (let total = sum_by-cons (λ (x : ℕ). x) y many in omega (arith, total)))
longer_sum k (x ∷ few) (y ∷ many) are those more =
    let rest = longer_sum (k + 1) few many (from_next k x few are) (from_next k y many those) (omega (arith, more)) in
    let same : x ≡ y = one_number (are 0 (omega arith)) (those 0 (omega arith)) in
    let place : k + 1 + length few + 1 ≡ k + suc (length few) + 1 = omega arith in
    let one = sum_by-cons (λ (n : ℕ). n) x few in
    let other = sum_by-cons (λ (n : ℕ). n) y many in
    let less = rest.2 in
    (rest.0, subst (λ n. IsLuby n rest.0) place rest.1, omega (arith, one, other, less, same))

-- ---- a search on schedule
too_many : (schedule : Schedule) (conflicts r m : ℕ) → IsOnSchedule schedule conflicts → IsRestartAt r m → m ≤ conflicts → schedule.restarts < r → ⊥
too_many schedule conflicts r m on (numbers, are, count, is) early more =
    let restarts = on.restarts in
    let counted = on.counted in
    let next = longer_sum 0 on.numbers numbers (from_first on.numbers on.are) (from_first numbers are) (omega (arith, restarts, count, more)) in
    let place : 0 + length on.numbers + 1 ≡ schedule.restarts + 1 = omega (arith, restarts) in
    let less = next.2 in
    let due : next.0 ≤ schedule.since / 100 = omega (arith, counted, is, early, less) in
    on.not_due (next.0, subst (λ n. IsLuby n next.0) place next.1, due)

-- no tidy line is missing where there are as many as restarts, and as many marks as conflicts
pub none_is_missing : (schedule : Schedule) (conflicts : ℕ) (lines : List (Line LogEvent)) → IsOnSchedule schedule conflicts → tidy_lines_in lines ≡ schedule.restarts → marks_in lines ≡ conflicts → NoneIsMissing lines
none_is_missing schedule conflicts lines on tidied marked r m restart early = elim (cases_lt schedule.restarts r) [
  | inl more ↦ absurd (too_many schedule conflicts r m on restart (omega arith) more)
  | inr few ↦ omega arith
]
