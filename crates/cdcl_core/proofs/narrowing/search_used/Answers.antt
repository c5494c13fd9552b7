use Rattle.std.proofs.lemmas.Result.{err_from_is_err_and}
use Rattle.cdcl_core.proofs.LogLineLaws.{keeps_in}
use Rattle.cdcl_core.proofs.NarrowAnswers.{nothing_searched}
use Rattle.cdcl_core.proofs.narrowing.search_used.Goals as goal

pub returns-in_err-narrow : goal.returns-in_err-narrow
returns-in_err-narrow g c =
    let fault = err_from_is_err_and c.from_residual.result c.from_residual.ensures.1 in
    rw (fault.1, fault.2) (nothing_searched c.args.effort.tidies g.L.Sink c.args.formula.now c.args.effort.budget c.args.sink.now (keeps_in g.L.Sink g.met.L.Sink.items_keep_else c.args.effort.tidies c.args.sink.now c.args.sink.now (g.met.L.Sink.keeps_itself c.args.sink.now)) c.requires.fresh)
