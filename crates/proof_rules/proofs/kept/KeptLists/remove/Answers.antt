use Rattle.std.proofs.Common.{◌∙◌, ap, sym, subst}
use Rattle.std.specs.FinMap as map
use Rattle.proof_rules.specs.KeptLists.{AreWithin, kept_in}
use Rattle.proof_rules.proofs.KeptLaws.{AreWithin-remove, kept_in-remove}
use Rattle.proof_rules.proofs.kept.KeptLists.remove.Goals as goal

pub invariant_of-self : goal.invariant_of-self
invariant_of-self c =
    let lits = c.self.inside.lits.items in
    subst (AreWithin lits) (sym c.take_span-len.ensures) (AreWithin-remove lits c.self.inside.spans c.args.id c.self.invariant)

pub returns : goal.returns
returns c =
    let lits = c.self.inside.lits.items in
    ap (kept_in lits) c.take_span-len.ensures ∙ kept_in-remove lits c.self.inside.spans c.args.id ∙ ap (λ t. map.remove t c.args.id) c.self.view_is
