use Rattle.std.proofs.Common.{◌∙◌, sym, subst, ℤ, List}
use Rattle.cx_base.specs.declared.steps.LogStep.{LogStep}
use Rattle.cx_base.specs.declared.steps.LogStep.TheVariants as step
use Rattle.fratx_elab.specs.Takes.{TakesLogStep}
use Rattle.fratx_elab.proofs.Taking.{taken_without_hints}
use Rattle.fratx_elab.proofs.elaboration.Elaboration.take_step.Goals as goal

pub returns-in-Clause-clause-taken : goal.returns-in-Clause-clause-taken
returns-in-Clause-clause-taken c =
    let formula = c.args.self.now.formula.now in
    let old = c.args.state.now in
    let new = c.take_clause.new.state in
    let result = c.take_clause.result in
    let id = c.in-Clause.id in
    let lits = c.in-Clause.lits in
    let none = c.from_vec-none.ensures ∙ c.new.ensures.items in
    let taken = subst (λ (hints : List ℤ). TakesLogStep formula old (step.ClauseWithHints id lits hints) result new) none c.take_clause.ensures.taken in
    subst (λ (s : LogStep). TakesLogStep formula old s result new) (sym c.in-Clause.is) (taken_without_hints formula old new id lits result taken)
