use Rattle.cx_base.specs.Parity.{normal_form}
use Rattle.xor_reason.proofs.ClauseLaws.{has_written, low_written, is_reason_clause}
use Rattle.xor_reason.proofs.reason.clause_in_place.Goals as goal

pub turned_literals-requires : goal.turned_literals-requires
turned_literals-requires c = record {
  assigned = λ l h.
      let lits = c.args.parity in
      c.requires.assigned l.variable (low_written (normal_form lits) lits c.requires.written l h) (has_written (normal_form lits) lits c.requires.written l h);
}

pub returns : goal.returns
returns c =
    is_reason_clause c.args.trail.now c.args.implied (normal_form c.args.parity) c.args.parity c.turned_literals.result c.turned_literals.ensures.sound c.requires.written c.requires.kind c.turned_literals.ensures.literals
