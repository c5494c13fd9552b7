use Rattle.std.proofs.Common.{sym, subst, ap, ◌∙◌, ◌≡◌, ◌<◌, length, get_or, arith}
use Rattle.std.proofs.lemmas.List.{get_or_read}
use Rattle.cx_semantics.specs.Chain.{has_literal}
use Rattle.cx_semantics.proofs.Members.{has_by_index}
use Rattle.cx_trail.specs.Sequence.{IsAssignedIn}
use Rattle.xor_reason.proofs.ClauseLaws.{one_turned}
use Rattle.xor_reason.proofs.literals.turned_literals.Goals as goal

pub literal_for-requires-clause-assigned : goal.literal_for-requires-clause-assigned
literal_for-requires-clause-assigned c =
    let lits = c.args.lits in
    let turned = c.loop-place.clause.items in
    let place = c.loop-place.place in
    let l = c.index.result.now in
    let less : place < length turned = omega (arith, c.loop-place-test.true, c.loop-place.invariant.long, c.len-place-end.ensures, ap length c.into_vec-clause.ensures) in
    let inside : place < length lits = omega (arith, less, c.loop-place.invariant.long) in
    let read : l ≡ get_or lits place l = get_or_read turned place l less c.index.ensures l ∙ c.loop-place.invariant.above place l (omega arith) in
    subst (λ v. IsAssignedIn c.args.trail.now.entries v) (sym c.var.ensures) (c.requires.assigned l (ap (has_literal lits) read ∙ has_by_index lits place l inside))

pub loop-place-preserved : goal.loop-place-preserved
loop-place-preserved c =
    let turned = c.loop-place.clause.items in
    let place = c.loop-place.place in
    let l = c.index.result.now in
    let less : place < length turned = omega (arith, c.loop-place-test.true, c.loop-place.invariant.long, c.len-place-end.ensures, ap length c.into_vec-clause.ensures) in
    one_turned c.args.trail.now c.args.implied.now c.args.lits turned place c.var.result l c.literal_for.result c.loop-place.invariant less (get_or_read turned place l less c.index.ensures l) c.var.ensures c.literal_for.ensures
