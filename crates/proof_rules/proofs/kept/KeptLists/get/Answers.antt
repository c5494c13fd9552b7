use Rattle.std.proofs.Common.{◌∙◌, ◌+◌, ◌≤◌, ap, sym, subst, length, Some}
use Rattle.std.specs.FinMap as map
use Rattle.std.specs.Option.{option_map}
use Rattle.proof_rules.specs.KeptLists.{literals_at}
use Rattle.proof_rules.proofs.KeptLaws.{get-kept_in}
use Rattle.proof_rules.proofs.kept.KeptLists.get.Goals as goal

pub part-requires : goal.part-requires
part-requires c =
    let span = c.in-Some.span.now in
    subst (λ lits. span.start + span.len ≤ length lits) (sym c.deref.ensures.value) (c.self.invariant c.args.id span c.in-Some.ensures)

pub returns-in-Some : goal.returns-in-Some
returns-in-Some c =
    let lits = c.self.inside.lits.items in
    let span = c.in-Some.span.now in
    sym (ap (λ t. map.get t c.args.id) c.self.view_is) ∙ get-kept_in lits c.self.inside.spans c.args.id
    ∙ ap (option_map (literals_at lits)) c.in-Some.ensures
    ∙ ap Some (sym (c.part.ensures ∙ ap (λ all. literals_at all span) c.deref.ensures.value))

pub returns-in-None : goal.returns-in-None
returns-in-None c =
    let lits = c.self.inside.lits.items in
    sym (ap (λ t. map.get t c.args.id) c.self.view_is) ∙ get-kept_in lits c.self.inside.spans c.args.id
    ∙ ap (option_map (literals_at lits)) c.in-None.ensures
