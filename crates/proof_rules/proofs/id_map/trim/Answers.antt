use Rattle.std.proofs.Common.{◌∙◌, ap, [], arith}
use Rattle.std.proofs.lemmas.List.{get_or_default}
use Rattle.proof_rules.specs.Places.{all_places}
use Rattle.proof_rules.proofs.PageLaws.{set-same_places}
use Rattle.proof_rules.proofs.id_map.trim.Goals as goal

pub returns-then-page-len : goal.returns-then-page-len
returns-then-page-len g c =
    let pages = c.args.near.now.items in
    let page = c.index_mut.ensures.value ∙ get_or_default pages c.args.page _ [] (omega arith) in
    set-same_places pages c.args.page c.trim.new.self (c.trim.ensures ∙ ap all_places page)
