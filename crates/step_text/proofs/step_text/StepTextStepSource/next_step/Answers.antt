use Rattle.std.proofs.Common.{◌<◌, ◌≤◌, refl, ap, subst, arith}
use Rattle.step_text.specs.Texts.{TextState}
use Rattle.step_text.proofs.Places.{step_in_order}
use Rattle.step_text.proofs.step_text.StepTextStepSource.next_step.Goals as goal

pub invariant_of-self : goal.invariant_of-self
invariant_of-self g c =
    let t = c.self.inside in
    let r = step_in_order g.G.StepGrammar.steps g.met.G.StepGrammar.forms t.size t.place c.place-self-inside.result c.in-Ok.step t.tokens c.read_step.new.tokens t.refused c.in_default.is c.self.invariant.0 c.in-Ok.ensures c.place-self-inside.ensures in
    (r.2, (r.1, c.self.invariant.1.1))

pub returns-in-Ok-clause-place : goal.returns-in-Ok-clause-place
returns-in-Ok-clause-place g c =
    let t = c.self.inside in
    let r = step_in_order g.G.StepGrammar.steps g.met.G.StepGrammar.forms t.size t.place c.place-self-inside.result c.in-Ok.step t.tokens c.read_step.new.tokens t.refused c.in_default.is c.self.invariant.0 c.in-Ok.ensures c.place-self-inside.ensures in
    let within : c.place-self-inside.result ≤ t.size = r.1 in
    let few : t.size ≤ 4294967295 = c.self.invariant.1.1 in
    record {
      rises = subst (λ n. n < c.place-self-inside.result) (ap (λ (s : TextState). s.place) c.self.view_is) r.0;
      within = omega arith;
      far = omega arith;
      bound = refl;
    }
