use Rattle.std.proofs.Common.{◌≡◌, ◌∙◌, sym, ap, Option, Some, None, Bor, MatchOption, is_some}
use Rattle.std.specs.FinMap as map
use Rattle.proof_rules.proofs.KeptLaws.{has-kept_in}
use Rattle.proof_rules.proofs.kept.KeptLists.has.Goals as goal

same_some : {V : Type 0} (r : Option (Bor V)) (o : Option V) → MatchOption r (o ≡ None) (λ v. o ≡ Some v.now) → is_some r ≡ is_some o
same_some None o h = ap is_some (sym h)
same_some (Some v) o h = ap is_some (sym h)

pub returns : goal.returns
returns c =
    let spans = c.self.inside.spans in
    c.is_some.ensures ∙ same_some c.get.result (map.get spans c.args.id) c.get.ensures
    ∙ sym (has-kept_in c.self.inside.lits.items spans c.args.id) ∙ ap (λ t. map.contains_key t c.args.id) c.self.view_is
