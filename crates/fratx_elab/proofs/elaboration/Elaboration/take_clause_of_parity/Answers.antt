use Rattle.std.proofs.Common.{refl, sym, ap, ◌∙◌, subst, ℕ, pos, List, [], ◌∷◌, ◌++◌}
use Rattle.cx_base.specs.Literals.{Literal}
use Rattle.cx_semantics.specs.Judging.{AllHold}
use Rattle.cx_semantics.specs.LogRules.{naming}
use Rattle.cx_semantics.specs.ProofRules.{clause_of_parity}
use Rattle.cx_semantics.specs.Tables.{Tables, named, put_clause}
use Rattle.cx_base.specs.declared.steps.ProofStep.TheVariants as step
use Rattle.fratx_elab.proofs.Taking.{takes_clause_of_parity}
use Rattle.fratx_elab.proofs.elaboration.Elaboration.take_clause_of_parity.Goals as goal

pub returns-clause-taken : goal.returns-clause-taken
returns-clause-taken c =
    let formula = c.args.self.now.formula.now in
    let state = c.args.state.now in
    let lits = c.args.lits in
    let ids = c.args.source ∷ [] in
    let p : ℕ = c.in-Some.named in
    let added = c.in_ok-target.ensures.0 in
    let target = c.in_ok-target.ensures.1 in
    let judged = subst (λ (l : List Literal). AllHold (naming state.live.parities ids ++ clause_of_parity l (named state.live.parities ids))) target
    (subst (λ (t : Tables). AllHold (naming t.parities ids ++ clause_of_parity c.in_ok-target.target (named t.parities ids))) c.live.ensures c.in_ok-judge_clause_of_named_parity.ensures) in
    takes_clause_of_parity formula state (record { live = _; clauses = _; parities = _; marks = c.args.state.now.marks; spare = c.args.state.now.spare }) c.args.id lits c.args.source p c.clause_of_parity_step.result added judged (sym (sym c.in-Some.is ∙ c.get.ensures))
    (c.in_ok-put_live.ensures ∙ ap (put_clause state.live c.args.id) target) c.in_ok-next.ensures.named refl
    (c.clause_of_parity_step.ensures.step ∙ (λ i. step.ClauseOfParity (c.in_ok-next.ensures.next i) lits (pos p)))
