use Rattle.std.proofs.Common.{◌≡◌, ◌∙◌, ap, subst, not, true, get_or, pos, w64, rules, Option, Some, None, MatchOption, is_some}
use Rattle.std.proofs.lemmas.Int.{to_z-of_z}
use mir.Val.{SFits}
use Rattle.proof_rules.specs.Kinds.{names_live}
use Rattle.proof_rules.proofs.LoopSteps.{all_passed, all_ended}
use Rattle.proof_rules.proofs.chain.are_named.Goals as goal

at_some : {A Q : Type 0} (P : Type 0) (R : A → Type 0) (r : Option A) → MatchOption r P (λ x. Q × R x) → is_some r ≡ true → Q
at_some P R (Some x) h e = h.0
at_some P R None h e = cc

pub loop-hint-preserved : goal.loop-hint-preserved
loop-hint-preserved c =
    let table = c.args.live.now.clauses in
    let hints = c.args.hints.now in
    let here = get_or hints c.loop-hint.hint-index (pos 0) in
    let fits : SFits w64 here = search rules in
    let named = at_some _ _ c.hinted_clause.result c.hinted_clause.ensures (c.is_none.ensures ∙ ap not c.if-is_none.false) in
    all_passed (names_live table) hints _ (pos 0) c.loop-hint-test.true (subst (λ z. names_live table z ≡ true) (to_z-of_z w64 here fits) named) ∙ c.loop-hint.invariant

pub returns : goal.returns
returns c = all_ended (names_live c.args.live.now.clauses) c.args.hints.now _ c.loop-hint-test.false ∙ c.loop-hint.invariant
