use Rattle.std.proofs.Common.{◌∙◌, ap, [], ◌∷◌, true, false, None, replicate}
use Rattle.proof_rules.specs.FirstLists.{lists_of, remaining}
use Rattle.proof_rules.proofs.FirstLaws.{all_left}
use Rattle.proof_rules.proofs.first.FirstLists.all.Goals as goal

pub returns : goal.returns
returns c =
    let lists = lists_of c.args.lists in
    ap (λ gone. remaining gone ([] ∷ lists)) (c.in_ok-gone.ensures ∙ ap (λ n. true ∷ replicate n false) c.count.ensures.count)
    ∙ ap (λ places. None ∷ places) (all_left lists)
