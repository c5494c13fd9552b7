use Rattle.std.proofs.Common.{◌≡◌, ◌+◌, ◌-◌, ◌≤◌, ◌∙◌, List, ℕ, sym, ap, subst, arith, length}
use borrow.Rule.Slice.PartMut.{put_mid}
use Rattle.gf2_rows.specs.Few.{AddsPart}
use Rattle.gf2_rows.proofs.Laying.{length-part}
use Rattle.gf2_rows.proofs.Parts.{part_summed, vec_write}
use Rattle.gf2_rows.proofs.pool.add_part.Goals as goal

pub returns-clause-part : goal.returns-clause-part
returns-clause-part c =
    let pool = c.args.pool.now in
    let now = c.deref_mut.result.now in
    let words = c.args.words.now in
    let start = c.args.start in
    let n : ℕ = start + length words - start in
    let value : now ≡ pool.items = c.deref_mut.ensures.value in
    let ok = pool.ok.0 in
    let same = ap length value in
    let room : start + n ≤ length now = omega arith in
    let sub = c.add_into.new.row in
    let written : List ℕ = put_mid start n now sub in
    let sums : AddsPart now start words written = part_summed now words sub start n (omega arith) room (c.add_into.auto.row ∙ length-part now n start room) c.add_into.ensures in
    let long = sums.len in
    let first : AddsPart pool.items start words written = subst (λ l. AddsPart l start words written) value sums in
    subst (AddsPart pool.items start words) (sym (vec_write pool.items written pool.len (omega arith))) first
