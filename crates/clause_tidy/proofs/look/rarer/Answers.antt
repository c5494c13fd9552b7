use Rattle.std.proofs.Common.{◌≡◌, ◌∙◌, true, refl, sym, ap, subst, inr}
use Rattle.std.proofs.lemmas.List.{get_or_default}
use Rattle.cx_base.specs.Literals.{Literal}
use Rattle.clause_tidy.specs.Listing.{is_chosen}
use Rattle.clause_tidy.proofs.look.rarer.Goals as goal

pub returns-then-is_shorter : goal.returns-then-is_shorter
returns-then-is_shorter c =
    let chosen = c.args.chosen.now in
    let lits = c.args.lits.now in
    let lit = c.index-lits-place.result in
    inr (
      refl,
      λ d. subst (λ (l : Literal). is_chosen chosen l.variable ≡ true) (c.index-lits-place.is ∙ sym (get_or_default lits c.args.place d lit c.requires))
          (ap (is_chosen chosen) (sym c.var.ensures) ∙ sym c.is_chosen.ensures ∙ c.if-not-is_chosen.false),
    )
