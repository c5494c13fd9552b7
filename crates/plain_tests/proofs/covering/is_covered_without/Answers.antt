use Rattle.std.proofs.Common.{◌∙◌, sym, subst, not, ◌&&◌, nat_eq}
use Rattle.cx_semantics.specs.Chain.{is_inside}
use Rattle.cx_semantics.specs.Marked.{clause_at}
use Rattle.proof_rules.specs.Kinds.{ListsLive}
use Rattle.plain_tests.proofs.MarkingLaws.{any_live}
use Rattle.plain_tests.proofs.covering.is_covered_without.Goals as goal

pub returns : goal.returns
returns c =
    let table = c.args.live.now.clauses in
    c.others_cover.ensures
    ∙ any_live table c.as_slice.result.now (λ k. not (nat_eq k c.args.id) && is_inside (clause_at table k) c.args.lits.now) (subst (ListsLive table) (sym c.as_slice.ensures) c.in_ok-ids.ensures)
