use Rattle.std.proofs.Common.{sym, subst}
use Rattle.cx_semantics.specs.Chain.{is_inside}
use Rattle.proof_rules.specs.Kinds.{ListsLive}
use Rattle.plain_tests.proofs.MarkingLaws.{some_live_by}
use Rattle.plain_tests.proofs.covering.some_lies_inside.Goals as goal

pub returns : goal.returns
returns c =
    let table = c.args.live.now.clauses in
    some_live_by table c.as_slice.result.now (λ clause. is_inside clause c.args.lits.now) c.one_lies_inside.result (subst (ListsLive table) (sym c.as_slice.ensures) c.in_ok-ids.ensures) c.one_lies_inside.ensures
