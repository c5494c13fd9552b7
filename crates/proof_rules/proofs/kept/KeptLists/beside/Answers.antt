use Rattle.std.proofs.Common.{◌∙◌, ap, sym, subst}
use Rattle.proof_rules.specs.KeptLists.{AreWithin, kept_in}
use Rattle.proof_rules.proofs.KeptLaws.{AreWithin-empty, kept_in-empty}
use Rattle.proof_rules.proofs.kept.KeptLists.beside.Goals as goal

pub invariant_of-result : goal.invariant_of-result
invariant_of-result c =
    let lits = c.new.result.items in
    subst (AreWithin lits) (sym c.beside.ensures) (AreWithin-empty lits)

pub returns : goal.returns
returns c =
    let lits = c.new.result.items in
    ap (kept_in lits) c.beside.ensures ∙ kept_in-empty lits
