use Rattle.std.proofs.Common.{sym, subst, ap, ◌∙◌}
use Rattle.std.proofs.lemmas.List.{take_all}
use Rattle.cx_semantics.specs.Chain.{has_literal}
use Rattle.cx_semantics.proofs.Members.{has_by_index}
use Rattle.cx_trail.specs.Sequence.{IsAssignedIn}
use Rattle.xor_reason.specs.LiteralChoice.{AreLiteralsFor}
use Rattle.xor_reason.proofs.ClauseLaws.{choice_more}
use Rattle.xor_reason.proofs.literals.literals_for.Goals as goal

pub literal_for-requires-clause-assigned : goal.literal_for-requires-clause-assigned
literal_for-requires-clause-assigned c =
    let lits = c.args.lits.now in
    let l = c.lit-item.result in
    subst (λ v. IsAssignedIn c.args.trail.now.entries v) (sym c.var.ensures)
    (c.requires.assigned l (ap (has_literal lits) c.lit-item.is ∙ has_by_index lits c.loop-lit.lit-index l c.loop-lit-test.true))

pub loop-lit-preserved : goal.loop-lit-preserved
loop-lit-preserved c =
    choice_more c.args.trail.now c.args.implied.now c.args.lits.now c.loop-lit.clause.items c.push.new.self.items c.loop-lit.lit-index c.var.result c.lit-item.result c.literal_for.result
    c.loop-lit.invariant c.loop-lit-test.true c.lit-item.is c.var.ensures c.literal_for.ensures c.in_ok-push.ensures.items

pub returns-clause-literals : goal.returns-clause-literals
returns-clause-literals c =
    let lits = c.args.lits.now in
    subst (λ ms. AreLiteralsFor c.args.trail.now c.args.implied.now lits ms) (sym c.from_vec.ensures)
    (subst (λ ls. AreLiteralsFor c.args.trail.now c.args.implied.now ls c.loop-lit.clause.items) (take_all c.loop-lit.lit-index lits c.loop-lit-test.false) c.loop-lit.invariant)
