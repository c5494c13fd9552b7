use Rattle.std.proofs.Common.{◌≡◌, ◌/◌, ◌*◌, ◌+◌, length, arith, count_by}
use Rattle.std.proofs.lemmas.List.Sums.{count_by-le-length}
use Rattle.gf2_rows.specs.Bits.{bits_of}
use Rattle.gf2_rows.proofs.Words.{length-bits, ones_in_two}
use Rattle.gf2_rows.proofs.lanes.ones.Goals as goal

total : (c : goal.After-ones) → c.ones_of_blocks.result + c.ones.result ≡ count_by (λ b. b) (bits_of c.args.row.now)
total c =
    let parts = c.split_at.ensures in
    let first = rw parts.front at c.ones_of_blocks.ensures in
    let rest = rw parts.back at c.ones.ensures in
    rw (first, rest) (ones_in_two (length c.args.row.now / 8 * 8) c.args.row.now)

pub overflow_add-result : goal.overflow_add-result
overflow_add-result c = record { fits = omega (arith, total c, count_by-le-length (λ b. b) (bits_of c.args.row.now), length-bits c.args.row.now, c.requires) }

pub returns : goal.returns
returns c = total c
