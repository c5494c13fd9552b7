use Rattle.std.proofs.Common.{◌≡◌, refl, ap, ◌∙◌, subst, ℕ, List, ◌++◌}
use Rattle.cx_base.specs.Integers.{literals}
use Rattle.cx_base.specs.Literals.{Literal}
use Rattle.cx_semantics.specs.Judging.{AllHold}
use Rattle.cx_semantics.specs.LogRules.{naming}
use Rattle.cx_semantics.specs.ProofRules.{parity_of_clauses}
use Rattle.cx_semantics.specs.Tables.{Tables, named, put_parity}
use Rattle.cx_base.specs.declared.steps.ProofStep.TheVariants as step
use Rattle.fratx_elab.specs.Names.{hints_for}
use Rattle.fratx_elab.proofs.NameLaws.{named_as_live}
use Rattle.fratx_elab.proofs.Taking.{names_live, takes_parity_of_clauses}
use Rattle.fratx_elab.proofs.elaboration.Elaboration.take_parity_of_clauses.Goals as goal

pub hints_of-requires : goal.hints_of-requires
hints_of-requires c =
    let state = c.args.state.now in
    let ids : List ℕ = c.as_slice-ids.result.now in
    let target : List Literal = c.in_ok-target.target in
    let judged = subst (λ (t : Tables). AllHold (naming t.clauses ids ++ parity_of_clauses target (named t.clauses ids))) c.live.ensures c.in-Ok.ensures in
    named_as_live state.live.clauses state.clauses c.requires.tied.1.clauses.keyed ids (names_live state.live.clauses ids (judged.0, tt))

pub returns-clause-taken : goal.returns-clause-taken
returns-clause-taken c =
    let formula = c.args.self.now.formula.now in
    let state = c.args.state.now in
    let lits = c.args.lits in
    let ids : List ℕ = c.as_slice-ids.result.now in
    let given : ids ≡ c.args.sources = c.as_slice-ids.ensures in
    let added = c.in_ok-target.ensures.0 in
    let target = c.in_ok-target.ensures.1 in
    let judged = subst (λ (ns : List ℕ). AllHold (naming state.live.clauses ns ++ parity_of_clauses (literals lits) (named state.live.clauses ns))) given
    (subst (λ (l : List Literal). AllHold (naming state.live.clauses ids ++ parity_of_clauses l (named state.live.clauses ids))) target
    (subst (λ (t : Tables). AllHold (naming t.clauses ids ++ parity_of_clauses c.in_ok-target.target (named t.clauses ids))) c.live.ensures c.in-Ok.ensures)) in
    takes_parity_of_clauses formula state (record { live = _; clauses = _; parities = _; marks = c.args.state.now.marks; spare = c.args.state.now.spare }) c.args.id lits c.args.sources c.parity_of_clauses_step.result added judged
    (c.in_ok-put_live.ensures ∙ ap (put_parity state.live c.args.id) target) refl c.in_ok-next.ensures.named
    (c.parity_of_clauses_step.ensures.step ∙ (λ i. step.ParityOfClauses (c.in_ok-next.ensures.next i) lits ((c.in_ok-hints.ensures ∙ ap (hints_for state.clauses) given) i)))
