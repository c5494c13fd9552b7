use Rattle.std.proofs.Common.{◌∙◌, ap, None, is_some, eqb, get_or}
use Rattle.std.proofs.lemmas.Nat.Bits.{shr_and_one}
use Rattle.proof_rules.proofs.PageLaws.{bit-tells}
use Rattle.proof_rules.proofs.page.Page.holds.Goals as goal

pub returns : goal.returns
returns g c =
    let places = c.self.inside.places.items in
    let taken = c.self.inside.taken in
    ap (λ d. eqb d 1) (shr_and_one taken c.args.place)
    ∙ bit-tells taken places c.args.place c.requires c.self.invariant.0 c.self.invariant.1
    ∙ ap (λ xs. is_some (get_or xs c.args.place None)) c.self.view_is
