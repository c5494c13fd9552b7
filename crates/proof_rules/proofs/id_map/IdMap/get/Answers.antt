use Rattle.std.proofs.Common.{◌≡◌, ◌∙◌, ap, sym, get_or, Option, None, Some, MatchOption, Bor}
use Rattle.std.specs.FinMap as map
use Rattle.std.specs.Option.{option_or, option_copied}
use Rattle.cx_semantics.proofs.MapEntries.{look}
use Rattle.proof_rules.specs.Places.{places_of}
use Rattle.proof_rules.proofs.PlaceLaws.{get-places}
use Rattle.proof_rules.proofs.id_map.IdMap.get.Goals as goal

pub returns-in-Some : goal.returns-in-Some
returns-in-Some g c =
    let found = ap (λ pages. get_or (places_of pages) c.args.id None) (sym c.deref.ensures.value) ∙ c.in-Some.ensures in
    sym (ap (λ t. map.get t c.args.id) c.self.view_is) ∙ get-places c.args.id (places_of c.self.inside.near.items) c.self.inside.far.entries
    ∙ ap (λ o. option_or o (look c.args.id c.self.inside.far.entries)) found

lent : {V : Type 0} (found : Option (Bor V)) (o : Option V) → option_copied found ≡ o → MatchOption found (o ≡ None) (λ v. o ≡ Some v.now)
lent None o h = sym h
lent (Some v) o h = sym h

pub returns-in-None : goal.returns-in-None
returns-in-None g c =
    let nothing = ap (λ pages. get_or (places_of pages) c.args.id None) (sym c.deref.ensures.value) ∙ c.in-None.ensures in
    lent c.get.result _ (c.get.ensures.value ∙ sym (ap (λ o. option_or o (look c.args.id c.self.inside.far.entries)) nothing)
    ∙ sym (get-places c.args.id (places_of c.self.inside.near.items) c.self.inside.far.entries) ∙ ap (λ t. map.get t c.args.id) c.self.view_is)
