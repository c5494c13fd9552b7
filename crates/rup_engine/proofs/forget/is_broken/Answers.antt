use Rattle.std.proofs.Common.{◌≡◌, ◌∙◌, sym, true≢false, eq-eqb}
use Rattle.std.proofs.lemmas.Option.{none-some, same_Some}
use Rattle.rup_engine.proofs.forget.is_broken.Goals as goal

pub returns-in-Some : goal.returns-in-Some
returns-in-Some c differs is =
    let same : c.in-Some.found ≡ c.args.reference = same_Some c.in-Some.found c.args.reference (sym c.in-Some.is ∙ is) in
    true≢false (sym (eq-eqb c.in-Some.found c.args.reference same) ∙ sym c.eq.ensures ∙ differs)

pub returns-in-None : goal.returns-in-None
returns-in-None c differs is = none-some c.args.reference (sym c.in-None.is ∙ is)
