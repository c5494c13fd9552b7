use Rattle.std.proofs.Common.{sym, subst}
use Rattle.proof_rules.specs.Kinds.{ListsLive}
use Rattle.plain_tests.specs.Marking.{is_part_of}
use Rattle.plain_tests.proofs.MarkingLaws.{some_live_by}
use Rattle.plain_tests.proofs.covering.is_part.Goals as goal

pub returns : goal.returns
returns c =
    let table = c.args.live.now.clauses in
    some_live_by table c.as_slice.result.now (is_part_of c.args.lits.now) c.is_part_under.result (subst (ListsLive table) (sym c.as_slice.ensures) c.in_ok-ids.ensures) c.is_part_under.ensures
