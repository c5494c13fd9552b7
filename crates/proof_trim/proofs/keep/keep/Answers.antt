use Rattle.std.proofs.Common.{ap, add-one}
use Rattle.cx_semantics.specs.Tables.{first_tables}
use Rattle.proof_trim.specs.Marking.{marked}
use Rattle.proof_trim.proofs.PassLaws.{all_marked}
use Rattle.proof_trim.proofs.keep.keep.Goals as goal

pub returns-else-deletes-clause-kept : goal.returns-else-deletes-clause-kept
returns-else-deletes-clause-kept c =
    let marks = c.args.marks.items in
    all_marked (marked marks) 1 (first_tables c.args.formula.now) marks c.args.proof.now c.requires.long (c.deletes.ensures c.if-deletes.false) (λ k. ap (marked marks) (add-one k))
