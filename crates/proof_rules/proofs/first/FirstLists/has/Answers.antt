use Rattle.std.proofs.Common.{◌∙◌, ap, sym, not, [], ◌∷◌, None, true, get_or, is_some, arith}
use Rattle.std.proofs.lemmas.Bool.{le-ltb}
use Rattle.std.proofs.lemmas.List.{get_or_default, get_or_past}
use Rattle.proof_rules.specs.FirstLists.{lists_of}
use Rattle.proof_rules.proofs.FirstLaws.{has_left}
use Rattle.proof_rules.proofs.first.FirstLists.has.Goals as goal

pub returns-then-id-len : goal.returns-then-id-len
returns-then-id-len c =
    let gone = c.self.inside.gone.items in
    let less = c.if-id-len.true in
    let ended = c.len.ensures in
    ap not (c.index.ensures ∙ get_or_default gone c.args.id _ true (grind (arith, less, ended)))
    ∙ sym (has_left gone ([] ∷ lists_of c.self.inside.lists) c.args.id (omega arith))
    ∙ ap (λ places. is_some (get_or places c.args.id None)) c.self.view_is

pub returns-else-id-len : goal.returns-else-id-len
returns-else-id-len c =
    let gone = c.self.inside.gone.items in
    let past = c.if-id-len.false in
    let ended = c.len.ensures in
    le-ltb c.args.id c.len.result past
    ∙ ap not (sym (get_or_past gone c.args.id true (grind (arith, past, ended))))
    ∙ sym (has_left gone ([] ∷ lists_of c.self.inside.lists) c.args.id (omega arith))
    ∙ ap (λ places. is_some (get_or places c.args.id None)) c.self.view_is
