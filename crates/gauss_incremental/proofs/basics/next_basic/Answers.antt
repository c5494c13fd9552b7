use Rattle.std.proofs.Common.{◌≡◌, ℕ, ◌-◌, ◌<◌, ◌≤◌, sym, true, false, List, Option, Some, None, length, get_or, refl, subst}
use Rattle.std.specs.Option.{IfNone, IfSome, MatchOption}
use Rattle.gf2_rows.specs.Bits.{bit_of, is_skipped}
use Rattle.gf2_matrix.specs.Content.{Content, IsOutside, has, row_at}
use Rattle.gf2_matrix.specs.Bits.{reach}
use Rattle.gf2_matrix.proofs.BitLaws.{outside_of}
use Rattle.gauss_jordan.specs.Found.{IsClosed}
use Rattle.gauss_incremental.proofs.basics.next_basic.Goals as goal

closed : (c : Content) (mask : List ℕ) (r : ℕ) (found : Option ℕ)
    → MatchOption found ((k : ℕ) → k < length c.columns → bit_of mask k ≡ false → is_skipped None k ≡ false → has (row_at c.rows r) (get_or c.columns k 0 - 1) ≡ false)
    (λ k. (k < length c.columns) × (bit_of mask k ≡ false) × (is_skipped None k ≡ false) × (has (row_at c.rows r) (get_or c.columns k 0 - 1) ≡ true)) → IfNone found (IsClosed c mask r)
closed c mask r None none = λ x free. subst (λ y. has (row_at c.rows r) y ≡ false) free.3 (none free.0 free.1 free.2 refl)
closed c mask r (Some k) found = tt

open_column : (c : Content) (mask : List ℕ) (r : ℕ) (found : Option ℕ)
    → MatchOption found ((k : ℕ) → k < length c.columns → bit_of mask k ≡ false → is_skipped None k ≡ false → has (row_at c.rows r) (get_or c.columns k 0 - 1) ≡ false)
    (λ k. (k < length c.columns) × (bit_of mask k ≡ false) × (is_skipped None k ≡ false) × (has (row_at c.rows r) (get_or c.columns k 0 - 1) ≡ true)) → IfSome found (IsOutside c mask r)
open_column c mask r None none = tt
open_column c mask r (Some k) found = (found.0, found.1, found.3)

pub returns-clause-none : goal.returns-clause-none
returns-clause-none c = closed c.args.matrix.now c.args.assigned.now c.args.row c.outside_near-found.result
    (outside_of c.row_bits-bits.ensures c.args.assigned.now None c.outside_near-found.result c.outside_near-found.ensures)

pub returns-clause-some : goal.returns-clause-some
returns-clause-some c = open_column c.args.matrix.now c.args.assigned.now c.args.row c.outside_near-found.result
    (outside_of c.row_bits-bits.ensures c.args.assigned.now None c.outside_near-found.result c.outside_near-found.ensures)

pub outside_near-found-requires : goal.outside_near-found-requires
outside_near-found-requires c = subst (λ n. reach c.row_bits-bits.result ≤ n) (sym c.requires.long) c.row_bits-bits.ensures.room
