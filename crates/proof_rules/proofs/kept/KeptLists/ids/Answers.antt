use Rattle.std.proofs.Common.{◌∙◌, sym, ap}
use Rattle.std.specs.FinMap as map
use Rattle.std.proofs.lemmas.Result.{IfOk-weaker}
use Rattle.proof_rules.proofs.KeptLaws.{has-kept_in}
use Rattle.proof_rules.proofs.kept.KeptLists.ids.Goals as goal

pub returns : goal.returns
returns c =
    IfOk-weaker c.ids.result _ _
    (λ ids keys n. keys n ∙ sym (has-kept_in c.self.inside.lits.items c.self.inside.spans n) ∙ ap (λ t. map.contains_key t n) c.self.view_is)
    c.ids.ensures
