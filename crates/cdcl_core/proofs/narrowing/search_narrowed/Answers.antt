use Rattle.std.proofs.Common.{ap, ◌∙◌}
use Rattle.std.proofs.lemmas.Result.{err_from_is_err_and}
use Rattle.cdcl_core.specs.Narrowing.{padded_answer}
use Rattle.cdcl_core.proofs.NarrowAnswers.{narrowed_answer, narrowed_fault, narrowed_no_room}
use Rattle.cdcl_core.proofs.narrowing.search_narrowed.Goals as goal

pub returns-in_err-answer : goal.returns-in_err-answer
returns-in_err-answer g c =
    let fault = err_from_is_err_and c.from_residual.result c.from_residual.ensures.1 in
    rw (fault.1, fault.2) (narrowed_fault c.args.effort.tidies g.L.Sink c.args.formula.now c.args.narrow.now c.requires.narrow c.vars-vars.ensures.within c.vars-narrow_vars.ensures.within c.args.effort.budget c.args.sink.now c.search_formula.new.sink _ c.in_err-answer.ensures)

pub returns-in_err-padded_answer : goal.returns-in_err-padded_answer
returns-in_err-padded_answer g c =
    let fault = err_from_is_err_and c.from_residual-in_err-padded_answer.result c.from_residual-in_err-padded_answer.ensures.1 in
    rw (fault.1, fault.2) (narrowed_no_room c.args.effort.tidies g.L.Sink c.args.formula.now c.args.narrow.now c.requires.narrow c.vars-vars.ensures.within c.vars-narrow_vars.ensures.within c.args.effort.budget c.args.sink.now c.search_formula.new.sink c.in_ok-answer.answer c.in_ok-answer.ensures)

pub returns : goal.returns
returns g c =
    narrowed_answer c.args.effort.tidies g.L.Sink c.args.formula.now c.args.narrow.now c.requires.narrow c.vars-vars.ensures.within c.vars-narrow_vars.ensures.within c.args.effort.budget c.args.sink.now c.search_formula.new.sink c.in_ok-answer.answer c.in_ok-padded_answer.field-0
    (c.in_ok-padded_answer.ensures ∙ ap (λ n. padded_answer n c.in_ok-answer.answer) c.vars-vars.ensures.variables) c.in_ok-answer.ensures
