-- Marks by variable, and the variables that have one.
use Rattle.std.specs.Prelude.{◌≡◌, ℕ, Bool, true, false, nat_eq, List, get_or, filter, IsTrue}
use Rattle.std.specs.List.{list_any}
use Rattle.proof_rules.specs.Assignments.{AreDistinct}
use Rattle.proof_rules.specs.declared.parity_sum.Mark.{Mark}
use Rattle.proof_rules.specs.declared.parity_sum.Mark.TheVariants as mark

-- a variable past the end was not met
abbrev pub mark_at : List Mark → ℕ → Mark
mark_at marks x = get_or marks x mark.Unmet

abbrev pub is_met : Mark → Bool
is_met mark.Unmet = false
is_met mark.Even = true
is_met mark.Odd = true

abbrev pub is_odd : Mark → Bool
is_odd mark.Unmet = false
is_odd mark.Even = false
is_odd mark.Odd = true

-- the variables that were met an odd number of times
abbrev pub left_over : List Mark → List ℕ → List ℕ
left_over marks met = filter (λ x. is_odd (mark_at marks x)) met

abbrev pub has_variable : List ℕ → ℕ → Bool
has_variable xs x = list_any (λ y. nat_eq y x) xs

-- the list has each variable that was met once, and no other
pub record AreMarked (marks : List Mark) (met : List ℕ) : Type 0 where
  pub listed : (x : ℕ) → is_met (mark_at marks x) ≡ has_variable met x
  pub once : AreDistinct met

-- a variable that was met is one of these
abbrev pub AreMetOnly : List Mark → List ℕ → Type 0
AreMetOnly marks xs = (x : ℕ) → IsTrue (is_met (mark_at marks x)) → IsTrue (has_variable xs x)
