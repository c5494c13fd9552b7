use Rattle.std.proofs.Common.{◌≡◌, sym, ap, ◌∙◌, subst, false, length, arith}
use Rattle.cx_base.specs.Literals.{negate}
use Rattle.cx_base.specs.Problem.{Problem}
use Rattle.cx_base.specs.Assumptions.{assumes}
use Rattle.std.proofs.lemmas.Result.{err_from_is_err_and}
use Rattle.cx_trail.specs.Sequence.{TrailState, entry_at}
use Rattle.cdcl_search.specs.GoingOn.{log_rests, log_then}
use Rattle.cdcl_search.proofs.UnitLaws.{others_rest, others_then}
use Rattle.cdcl_search.proofs.units.tell_units.Goals as goal

pub returns-then-level-gt0-clause-stands_on : goal.returns-then-level-gt0-clause-stands_on
returns-then-level-gt0-clause-stands_on g c = record { stands = c.requires.stands; log = log_rests g.L.Sink g.met.L.Sink.keeps_itself c.args.log.now }

pub returns-then-level-gt0-clause-units : goal.returns-then-level-gt0-clause-units
returns-then-level-gt0-clause-units g c zero = let above = c.if-level-gt0.true in let level = c.level.ensures.level in absurd (omega (arith, above, level, zero))

pub returns-then-level-gt0-clause-same : goal.returns-then-level-gt0-clause-same
returns-then-level-gt0-clause-same g c = others_rest c.args.state.now

pub loop-log-init : goal.loop-log-init
loop-log-init g c = record {
  level = let low = c.if-level-gt0.false in let level = c.level.ensures.level in omega (arith, low, level);
  stands = c.requires.stands;
  few = c.requires.stands.3.units.few;
  same = others_rest c.args.state.now;
  log = log_rests g.L.Sink g.met.L.Sink.keeps_itself c.args.log.now;
}

pub tell_next_unit-requires-clause-stands : goal.tell_next_unit-requires-clause-stands
tell_next_unit-requires-clause-stands g c = c.loop-log.invariant.stands

pub tell_next_unit-requires-clause-going : goal.tell_next_unit-requires-clause-going
tell_next_unit-requires-clause-going g c = c.loop-log.invariant.log.failed ∙ c.requires.going

pub tell_next_unit-requires-clause-level : goal.tell_next_unit-requires-clause-level
tell_next_unit-requires-clause-level g c = c.loop-log.invariant.level

pub tell_next_unit-requires-clause-more : goal.tell_next_unit-requires-clause-more
tell_next_unit-requires-clause-more g c =
    let less = c.loop-log-test.true in
    let n = c.len.ensures in
    let checked = c.requires.keeps.checked in
    let same = ap (λ (t : TrailState). length t.entries) c.loop-log.invariant.same.trail in
    let long = c.loop-log.state.units.ok in
    omega (arith, less, n, checked, same, long)

pub tell_next_unit-requires-clause-apart : goal.tell_next_unit-requires-clause-apart
tell_next_unit-requires-clause-apart g c =
    let less = c.loop-log-test.true in
    let n = c.len.ensures in
    let long = c.loop-log.state.units.ok in
    subst (λ (f : Problem). assumes f.constraints (negate (entry_at c.loop-log.state.trail.entries (length c.loop-log.state.units.items)).literal) ≡ false) (sym c.loop-log.invariant.log.formula)
    (subst (λ (t : TrailState). assumes c.args.log.now.formula.now.constraints (negate (entry_at t.entries (length c.loop-log.state.units.items)).literal) ≡ false) (sym c.loop-log.invariant.same.trail)
    (c.requires.keeps.apart (length c.loop-log.state.units.items) (omega (arith, less, n, long))))

pub loop-log-preserved : goal.loop-log-preserved
loop-log-preserved g c =
    let i = c.loop-log.invariant in
    let same = c.tell_next_unit.ensures.same in
    record {
      level = ap (λ (t : TrailState). t.level) same.trail ∙ i.level;
      stands = c.in_ok-tell_next_unit.ensures.stands_on.stands;
      few = c.in_ok-tell_next_unit.ensures.stands_on.stands.3.units.few;
      same = others_then c.args.state.now c.loop-log.state c.tell_next_unit.new.state i.same same;
      log = log_then g.L.Sink g.met.L.Sink.keeps_on _ _ _ _ i.log c.in_ok-tell_next_unit.ensures.stands_on.log;
    }

pub returns-in_err-tell_next_unit-clause-stands_on : goal.returns-in_err-tell_next_unit-clause-stands_on
returns-in_err-tell_next_unit-clause-stands_on g c =
    let fault = err_from_is_err_and c.from_residual.result c.from_residual.ensures.1 in
    rw (fault.1, fault.2) (record { stands = tt; log = log_then g.L.Sink g.met.L.Sink.keeps_on _ _ _ _ c.loop-log.invariant.log c.in_err-tell_next_unit.ensures.stands_on.log })

pub returns-in_err-tell_next_unit-clause-same : goal.returns-in_err-tell_next_unit-clause-same
returns-in_err-tell_next_unit-clause-same g c = others_then c.args.state.now c.loop-log.state c.tell_next_unit.new.state c.loop-log.invariant.same c.tell_next_unit.ensures.same

pub returns-clause-stands_on : goal.returns-clause-stands_on
returns-clause-stands_on g c = record { stands = c.loop-log.invariant.stands; log = c.loop-log.invariant.log }

pub returns-clause-same : goal.returns-clause-same
returns-clause-same g c = c.loop-log.invariant.same
