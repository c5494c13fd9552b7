use Rattle.std.proofs.Common.{ap, ◌∙◌, []}
use Rattle.cx_base.specs.declared.steps.LogStep.TheVariants.{Delete}
use Rattle.clause_arena.specs.Clauses.{ArenaState}
use Rattle.clause_tidy.specs.Tidying.{Tidies}
use Rattle.clause_tidy.proofs.WeightLaws.{less_without}
use Rattle.clause_tidy.proofs.Dropping.{drop_failed, drop_told}
use Rattle.clause_tidy.proofs.changes.drop_clause.Goals as goal

pub returns-in-Err-clause-tidies : goal.returns-in-Err-clause-tidies
returns-in-Err-clause-tidies g c = λ formula spare.
    drop_failed c.args.arena.now c.args.clause c.requires.live c.requires.why c.deletion-step.result (c.deletion-step.ensures.is ∙ ap (λ n. Delete n []) c.id.ensures) g.L.Sink c.in-Err.fault c.args.log.now c.tell_one.new.log
    (λ _. Tidies formula spare c.args.arena.now c.args.arena.now) formula spare c.in-Err.ensures

pub returns-in-Ok-clause-tidies : goal.returns-in-Ok-clause-tidies
returns-in-Ok-clause-tidies g c = λ formula spare.
    drop_told c.args.arena.now c.args.clause c.requires.live c.requires.why c.deletion-step.result (c.deletion-step.ensures.is ∙ ap (λ n. Delete n []) c.id.ensures) g.L.Sink tt c.remove.new.self c.args.log.now c.tell_one.new.log
    formula spare (ap (λ (x : ArenaState). x.clauses) c.remove.ensures) c.in-Ok.ensures

pub returns-in-Ok-clause-less : goal.returns-in-Ok-clause-less
returns-in-Ok-clause-less g c = less_without c.args.arena.now c.remove.new.self c.args.clause c.requires.live (ap (λ (x : ArenaState). x.clauses) c.remove.ensures)
