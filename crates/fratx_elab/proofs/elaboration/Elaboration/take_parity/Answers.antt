use Rattle.std.proofs.Common.{◌≡◌, refl, ap, ◌∙◌, subst, ℕ, List, ◌++◌}
use Rattle.cx_base.specs.Integers.{literals}
use Rattle.cx_base.specs.Literals.{Literal}
use Rattle.cx_semantics.specs.Judging.{AllHold}
use Rattle.cx_semantics.specs.LogRules.{naming}
use Rattle.cx_semantics.specs.ProofRules.{summing}
use Rattle.cx_semantics.specs.Tables.{Tables, named, put_parity}
use Rattle.cx_base.specs.declared.steps.ProofStep.TheVariants as step
use Rattle.fratx_elab.specs.Names.{hints_for}
use Rattle.fratx_elab.proofs.NameLaws.{named_as_live}
use Rattle.fratx_elab.proofs.Taking.{names_live, takes_parity}
use Rattle.fratx_elab.proofs.elaboration.Elaboration.take_parity.Goals as goal

pub hints_of-requires : goal.hints_of-requires
hints_of-requires c =
    let state = c.args.state.now in
    let ids : List ℕ = c.as_slice-ids.result.now in
    let target : List Literal = c.in_ok-target.target in
    let judged = subst (λ (t : Tables). AllHold (naming t.parities ids ++ summing target (named t.parities ids))) c.live.ensures c.in_ok-judge_named_sum.ensures in
    named_as_live state.live.parities state.parities c.requires.tied.1.parities.keyed ids (names_live state.live.parities ids (judged.0, tt))

pub returns-clause-taken : goal.returns-clause-taken
returns-clause-taken c =
    let formula = c.args.self.now.formula.now in
    let state = c.args.state.now in
    let lits = c.args.lits in
    let ids : List ℕ = c.as_slice-ids.result.now in
    let given : ids ≡ c.args.sources = c.as_slice-ids.ensures in
    let added = c.in_ok-target.ensures.0 in
    let target = c.in_ok-target.ensures.1 in
    let judged = subst (λ (ns : List ℕ). AllHold (naming state.live.parities ns ++ summing (literals lits) (named state.live.parities ns))) given
    (subst (λ (l : List Literal). AllHold (naming state.live.parities ids ++ summing l (named state.live.parities ids))) target
    (subst (λ (t : Tables). AllHold (naming t.parities ids ++ summing c.in_ok-target.target (named t.parities ids))) c.live.ensures c.in_ok-judge_named_sum.ensures)) in
    takes_parity formula state (record { live = _; clauses = _; parities = _; marks = c.args.state.now.marks; spare = c.args.state.now.spare }) c.args.id lits c.args.sources c.parity_step.result added judged
    (c.in_ok-put_live.ensures ∙ ap (put_parity state.live c.args.id) target) refl c.in_ok-next.ensures.named
    (c.parity_step.ensures.step ∙ (λ i. step.Parity (c.in_ok-next.ensures.next i) lits ((c.in_ok-hints.ensures ∙ ap (hints_for state.parities) given) i)))
