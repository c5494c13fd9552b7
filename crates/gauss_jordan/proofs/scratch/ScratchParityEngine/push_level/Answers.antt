use Rattle.std.proofs.Common.{◌≡◌, sym, subst}
use Rattle.parity_engine.specs.declared.state.Mood.TheVariants.{Calm}
use Rattle.parity_engine.specs.State.{State}
use Rattle.gauss_jordan.proofs.ScratchSteps.{scratch_pushed}
use Rattle.gauss_jordan.proofs.scratch.ScratchParityEngine.push_level.Goals as goal

pub invariant_of-self : goal.invariant_of-self
invariant_of-self c =
    let m = c.self.inside in
    record {
      is =
          scratch_pushed m.matrix m.level m.held.items m.assigned.items m.truths.items m.slots.items m.mood c.self.invariant.is
          (subst (λ (s : State). s.mood ≡ Calm) (sym c.self.view_is) c.requires.quiet);
      variables_are = c.self.invariant.variables_are;
    }
