use Rattle.std.proofs.Common.{subst, false, [], Some}
use Rattle.cx_base.specs.Events.{steps_of}
use Rattle.cx_texts.specs.Printed.{printed_log}
use Rattle.fratx_elab.specs.declared.outcome.Elab.{Elab}
use Rattle.solve_cli.proofs.Demonstrating.{Elaborates, proof_of_log, refutation_stands, not_read_from}
use Rattle.solve_cli.proofs.demo.prove.Goals as goal

pub unreachable-requires : goal.unreachable-requires
unreachable-requires c =
    let f = c.args.formula.now in
    let proof = c.elaborate.new.ends.sink in
    refutation_stands f (printed_log c.args.log) (steps_of c.args.log) c.into_steps.result c.in-Ok-Refused.field-0-0 c.in-Ok-Refused.field-0-1 c.make.result proof
    c.into_steps.ensures.steps c.into_steps.ensures.printed c.requires
    (subst (λ (r : Elab). Elaborates f c.into_steps.result c.make.result proof r) c.in-Ok-Refused.field-0-is (c.in-Ok-Refused.ensures.judged [] tt))

pub returns-in-Ok-Done-clause-proof : goal.returns-in-Ok-Done-clause-proof
returns-in-Ok-Done-clause-proof c =
    let f = c.args.formula.now in
    let proof = c.elaborate.new.ends.sink in
    proof_of_log f (steps_of c.args.log) c.into_steps.result c.in-Ok-Done.field-0-0 c.make.result proof c.into_steps.ensures.steps c.make.ensures
    (subst (λ (r : Elab). Elaborates f c.into_steps.result c.make.result proof r) c.in-Ok-Done.field-0-is (c.in-Ok-Done.ensures.judged [] tt))

pub unreachable-requires-in-Err-Read : goal.unreachable-requires-in-Err-Read
unreachable-requires-in-Err-Read c = not_read_from c.in-Err-Read.field-0 (Some false) 0 0 c.in-Err-Read.field-0-is (c.in-Err-Read.ensures.ends.cause [] tt)
