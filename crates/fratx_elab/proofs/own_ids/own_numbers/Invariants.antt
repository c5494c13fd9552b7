use Rattle.std.proofs.Common.{◌≡◌, ℕ, cond, nat_cmp, take, Some, None}
use Rattle.std.specs.FinMap as map
use Rattle.std.specs.List.{list_any}
use Rattle.std.specs.Ordering.{eq_by_cmp}
use Rattle.fratx_elab.proofs.own_ids.own_numbers.Given as goal

-- each id of the list so far stands for itself
abbrev pub invariant-loop-id : goal.invariant-loop-id
invariant-loop-id l = (q : ℕ) → map.get l.numbers q ≡ cond (list_any (eq_by_cmp nat_cmp q) (take l.id-index l.id-items)) (Some q) None
