use Rattle.std.proofs.Common.{◌≡◌, ℕ, ◌-◌, ◌<◌, false, List, Option, Some, None, length, get_or, subst}
use Rattle.std.specs.Option.{IfNone, IfSome}
use Rattle.gf2_rows.specs.Bits.{bit_of}
use Rattle.gf2_matrix.specs.Content.{Content, IsOutside, IsRarestOutside, has, row_at}
use Rattle.gauss_jordan.specs.Found.{IsClosed}
use Rattle.gauss_incremental.proofs.basics.rarest_basic.Goals as goal

closed : (c : Content) (mask : List ℕ) (r : ℕ) (found : Option ℕ)
    → IfNone found ((k : ℕ) → k < length c.columns → bit_of mask k ≡ false → has (row_at c.rows r) (get_or c.columns k 0 - 1) ≡ false) → IfNone found (IsClosed c mask r)
closed c mask r None none = λ x free. subst (λ y. has (row_at c.rows r) y ≡ false) free.3 (none free.0 free.1 free.2)
closed c mask r (Some k) none = tt

outside : (c : Content) (mask : List ℕ) (r : ℕ) (found : Option ℕ) → IfSome found (IsRarestOutside c mask r) → IfSome found (IsOutside c mask r)
outside c mask r None rarest = tt
outside c mask r (Some k) rarest = rarest.0

pub returns-clause-none : goal.returns-clause-none
returns-clause-none c = closed c.args.matrix.now c.args.assigned.now c.args.row c.rarest_outside.result c.rarest_outside.ensures.none

pub returns-clause-some : goal.returns-clause-some
returns-clause-some c = outside c.args.matrix.now c.args.assigned.now c.args.row c.rarest_outside.result c.rarest_outside.ensures.rarest
