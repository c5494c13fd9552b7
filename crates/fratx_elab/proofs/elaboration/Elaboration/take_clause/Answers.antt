use Rattle.std.proofs.Common.{refl, ap, ◌∙◌, subst, ℕ, ℤ, List}
use Rattle.cx_base.specs.Literals.{Literal}
use Rattle.cx_base.specs.Integers.{literals}
use Rattle.cx_semantics.specs.Chain.{IsChain}
use Rattle.cx_semantics.specs.Tables.{Tables, named, put_clause}
use Rattle.cx_base.specs.declared.steps.ProofStep.TheVariants as step
use Rattle.fratx_elab.specs.Elaborates.{KeepsHints}
use Rattle.fratx_elab.proofs.Taking.{takes_clause}
use Rattle.fratx_elab.proofs.elaboration.Elaboration.take_clause.Goals as goal

pub returns-clause-taken : goal.returns-clause-taken
returns-clause-taken c =
    let formula = c.args.self.now.formula.now in
    let state = c.args.state.now in
    let lits = c.args.lits in
    let added = c.in_ok-target.ensures.0 in
    let target = c.in_ok-target.ensures.1 in
    let found = c.in_ok-settle_hints.ensures.chain in
    let ids : List ℕ = found.0 in
    let chain = subst (λ (l : List Literal). IsChain l (named state.live.clauses ids)) target found.2 in
    let kept_target = subst (λ (l : List Literal). KeepsHints state.clauses state.live.clauses l c.args.hints c.settle_hints.new.hints) target c.in_ok-settle_hints.ensures.kept in
    let kept = subst (λ (hs : List ℤ). KeepsHints state.clauses state.live.clauses (literals lits) c.args.hints hs) found.3 kept_target in
    takes_clause formula state (record { live = _; clauses = _; parities = _; marks = c.args.state.now.marks; spare = c.args.state.now.spare }) c.args.id lits c.args.hints ids c.clause_step.result added found.1 chain kept
    (c.in_ok-put_live.ensures ∙ ap (λ (t : Tables). put_clause t c.args.id c.in_ok-target.target) c.settle_hints.ensures.same ∙ ap (put_clause state.live c.args.id) target) c.in_ok-next.ensures.named refl
    (c.clause_step.ensures.step ∙ (λ i. step.Clause (c.in_ok-next.ensures.next i) lits (found.3 i)))
