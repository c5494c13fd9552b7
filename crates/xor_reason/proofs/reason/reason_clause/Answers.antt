use Rattle.std.proofs.Common.{sym, subst, ap, ◌∙◌}
use Rattle.cx_semantics.specs.Chain.{has_literal}
use Rattle.parity_engine.proofs.Named.{named_row}
use Rattle.xor_reason.specs.LiteralChoice.{AreLiteralsFor}
use Rattle.xor_reason.proofs.ClauseLaws.{has_written, low_written, is_reason_clause}
use Rattle.xor_reason.proofs.reason.reason_clause.Goals as goal

pub literals_for-requires : goal.literals_for-requires
literals_for-requires g c = record {
  assigned = λ l h.
      let some = named_row (g.P.ParityEngine.state c.args.engine.now) c.args.row c.requires.named in
      let lits = c.in_ok-parity.parity in
      let written = c.in_ok-parity.ensures some.0 some.1 in
      let here = ap (λ ls. has_literal ls l) (sym c.as_slice.ensures) ∙ h in
      c.requires.assigned some.0 some.1 l.variable (low_written some.0.form lits written l here) (has_written some.0.form lits written l here);
}

pub returns-clause-clause : goal.returns-clause-clause
returns-clause-clause g c n is =
    let lits = c.in_ok-parity.parity in
    is_reason_clause c.args.trail.now c.args.implied n.form lits c.in_ok-clause.clause c.in_ok-clause.ensures.sound (c.in_ok-parity.ensures n is) (c.requires.kind n is)
    (subst (λ ls. AreLiteralsFor c.args.trail.now c.args.implied ls c.in_ok-clause.clause) c.as_slice.ensures c.in_ok-clause.ensures.literals)
