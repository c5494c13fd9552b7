use Rattle.std.proofs.Common.{◌∙◌, sym, subst, List, IfOk, MatchBool}
use Rattle.std.specs.List.{AllByRecursion}
use Rattle.cx_base.specs.Literals.{Literal}
use Rattle.cx_base.specs.Problem.{AreWithin}
use Rattle.cx_semantics.specs.Settled.{SettledBy}
use Rattle.plain_tests.proofs.SettlingLaws.{parities_inside}
use Rattle.plain_tests.proofs.settled.is_settled.Goals as goal

pub is_settled_by-requires : goal.is_settled_by-requires
is_settled_by-requires c =
    let formula = c.args.formula.now in
    subst (λ (ps : List (List Literal)). AllByRecursion (AreWithin formula.variables) ps) (sym (c.deref.ensures.value ∙ c.in_ok-parities.ensures)) (parities_inside formula.variables formula.constraints c.vars-vars.ensures.within)

pub returns : goal.returns
returns c =
    let formula = c.args.formula.now in
    subst (λ (ps : List (List Literal)). IfOk c.is_settled_by.result (λ b. MatchBool b (SettledBy formula ps) (¬ SettledBy formula ps))) (c.deref.ensures.value ∙ c.in_ok-parities.ensures) c.is_settled_by.ensures
