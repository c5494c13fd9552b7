use Rattle.std.proofs.Common.{◌∙◌, subst, List}
use Rattle.std.specs.Prelude.{MatchOption}
use Rattle.cx_base.specs.Literals.{Literal}
use Rattle.cx_semantics.specs.Chain.{negations}
use Rattle.cx_semantics.specs.Fresh.{others}
use Rattle.plain_tests.specs.Propagating.{Clash, IsSaturation}
use Rattle.plain_tests.proofs.Saturating.{told}
use Rattle.plain_tests.proofs.fresh.is_not_reached.Goals as goal

pub returns-in-Some : goal.returns-in-Some
returns-in-Some c =
    let table = c.args.live.now.clauses in
    let lit = c.args.lit in
    let known = c.in-Some.known in
    let lits = c.deref.result.now in
    let raw = subst (λ o. MatchOption o (Clash table (negations lits)) (IsSaturation table (negations lits))) c.in-Some.is c.in_ok-known.ensures in
    let right = subst (λ (xs : List Literal). IsSaturation table (negations xs) known) (c.deref.ensures.value ∙ c.in_ok-others.ensures) raw in
    told table (negations (others c.args.lits.now lit)) known lit c.contains.result right c.contains.ensures
