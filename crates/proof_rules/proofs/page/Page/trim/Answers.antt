use Rattle.std.proofs.Common.{◌∙◌, ap}
use Rattle.proof_rules.specs.Places.{all_places, held_in}
use Rattle.proof_rules.proofs.PageLaws.{all_places-vacant}
use Rattle.proof_rules.proofs.page.Page.trim.Goals as goal

pub returns-then-self-eq0 : goal.returns-then-self-eq0
returns-then-self-eq0 g c =
    ap (λ xs. all_places (held_in c.self.inside.taken xs)) c.new.ensures.items
    ∙ all_places-vacant c.self.inside.taken c.self.inside.places.items c.self.invariant.0 c.if-self-eq0.true
    ∙ ap all_places c.self.view_is
