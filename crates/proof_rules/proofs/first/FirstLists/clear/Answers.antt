use Rattle.std.proofs.Common.{◌∙◌, ap, sym, [], ◌∷◌, set, None, length, arith}
use Rattle.std.proofs.lemmas.List.{set_past}
use Rattle.proof_rules.specs.FirstLists.{lists_of}
use Rattle.proof_rules.proofs.FirstLaws.{left_without, length-left}
use Rattle.proof_rules.proofs.first.FirstLists.clear.Goals as goal

pub returns-then-id-len : goal.returns-then-id-len
returns-then-id-len c =
    left_without c.self.inside.gone.items ([] ∷ lists_of c.self.inside.lists) c.args.id ∙ ap (λ places. set places c.args.id None) c.self.view_is

pub returns-else-id-len : goal.returns-else-id-len
returns-else-id-len c =
    let counted = ap length (sym c.self.view_is) ∙ length-left c.self.inside.gone.items ([] ∷ lists_of c.self.inside.lists) (omega arith) in
    let past = c.if-id-len.false in
    let ended = c.len.ensures in
    sym (set_past c.args.self.now c.args.id None (grind (arith, past, ended, counted)))
