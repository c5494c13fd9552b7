use Rattle.std.proofs.Common.{◌≡◌, ap, ◌∙◌, map}
use Rattle.cx_base.specs.Drafts.{Draft}
use Rattle.cx_base.specs.Problem.{Problem, greatest_variable}
use Rattle.cx_base.specs.Heads.{stored}
use Rattle.cx_base.proofs.Drafting.{finished, finished_greatest}
use Rattle.cx_base.proofs.builder.FormulaBuilder.finish.Goals as goal

pub invariant_of-result : goal.invariant_of-result
invariant_of-result c =
    let done = finished _ _ _ _ _ c.self.invariant.0 (ap (λ (d : Draft). d.unfinished) c.self.view_is ∙ c.requires.ended) c.requires.bound in
    rw c.max.ensures (done.0, done.1, c.self.invariant.1, c.self.invariant.2)

pub returns : goal.returns
returns c =
    let e : c.max.result ≡ _ = c.max.ensures ∙ finished_greatest _ _ c.args.at_least _ _ c.self.invariant.0 (ap (λ (d : Draft). d.unfinished) c.self.view_is ∙ c.requires.ended) in
    ap {B = Problem} (λ n. record { variables = n; constraints = map (stored c.self.inside.lits.items) c.self.inside.heads.items }) e
    ∙ ap {B = Problem} (λ (d : Draft). record { variables = greatest_variable c.args.at_least d.constraints; constraints = d.constraints }) c.self.view_is
