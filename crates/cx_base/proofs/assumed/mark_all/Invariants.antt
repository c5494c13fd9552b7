use Rattle.std.proofs.Common.{◌≡◌, ◌||◌, drop, length}
use Rattle.std.specs.List.{list_any}
use Rattle.cx_base.specs.Literals.{Literal, same_literal}
use Rattle.cx_base.specs.Assumed.{is_marked}
use Rattle.cx_base.proofs.assumed.mark_all.Given as goal

abbrev pub invariant-loop-lit : goal.invariant-loop-lit
invariant-loop-lit l = record {
  marked : (x : Literal) → (is_marked l.marks.items x || list_any (same_literal x) (drop l.lit-index l.lits)) ≡ (is_marked l.initial.marks.items x || list_any (same_literal x) l.lits);
  len : length l.marks.items ≡ length l.initial.marks.items;
}
