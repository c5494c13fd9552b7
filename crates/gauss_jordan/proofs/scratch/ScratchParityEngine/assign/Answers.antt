use Rattle.std.proofs.Common.{◌≡◌, ◌≢◌, ◌≤◌, true, sym, subst, arith}
use Rattle.parity_engine.specs.declared.state.Mood.TheVariants.{Broken}
use Rattle.parity_engine.specs.State.{State, held_at, is_unassigned}
use Rattle.gauss_jordan.proofs.ScratchSteps.{scratch_assigned}
use Rattle.gauss_jordan.proofs.scratch.ScratchParityEngine.assign.Goals as goal

pub invariant_of-self : goal.invariant_of-self
invariant_of-self c =
    let m = c.self.inside in
    rw c.number.ensures.number
    (record {
      is =
          scratch_assigned m.matrix m.level m.held.items m.assigned.items m.truths.items m.slots.items m.mood c.self.invariant.is c.args.var c.args.value
          (let a = c.number.ensures.number in let b = c.number.ensures.low in omega arith)
          (subst (λ (s : State). c.args.var ≤ s.vars) (sym c.self.view_is) c.requires.within)
          (subst (λ (s : State). is_unassigned (held_at s.values c.args.var) ≡ true) (sym c.self.view_is) c.requires.unassigned)
          (subst (λ (s : State). s.mood ≢ Broken) (sym c.self.view_is) c.requires.no_conflict);
      variables_are = c.self.invariant.variables_are;
    })
