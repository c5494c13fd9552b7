use Rattle.std.proofs.Common.{◌+◌, refl, ◌∙◌, subst, true≢false, sym, ap, length, arith}
use Rattle.std.proofs.lemmas.List.{length_push}
use Rattle.cx_trail.specs.Sequence.{TrailState}
use Rattle.cx_trail.specs.declared.entry.Reason.TheVariants.{Decision}
use Rattle.cdcl_search.specs.Searching.{SettlesAt}
use Rattle.cdcl_search.proofs.searching.turn.Goals as goal

pub decide-requires : goal.decide-requires
decide-requires g c =
    let quiet = c.is_quiet.ensures.quiet c.if-not-is_quiet.false in
    let at = subst (SettlesAt c.settle.new.log.formula.now.constraints c.settle.new.state (g.P.ParityEngine.state c.settle.new.engine) c.settle.new.assumptions) quiet c.in_ok-reached.ensures.settles in
    record { stands = (_, c.in_ok-reached.ensures.searches_on.stands); quiet = at.0; units = c.in_ok-reached.ensures.units; keeps = c.in_ok-reached.ensures.keeps; checked = at.1 }

pub returns-then-decide-clause-searches_on : goal.returns-then-decide-clause-searches_on
returns-then-decide-clause-searches_on g c = record {
  stands = c.decide.ensures.stays.stands (g.L.Sink.items c.settle.new.log.sink.now) c.in_ok-reached.ensures.searches_on.stands;
  conflicts = c.decide.ensures.same.1 ∙ c.in_ok-reached.ensures.searches_on.conflicts;
  tidies = c.decide.ensures.stays.tidies ∙ c.in_ok-reached.ensures.searches_on.tidies;
  log = c.in_ok-reached.ensures.searches_on.log;
}

pub returns-clause-searches_on : goal.returns-clause-searches_on
returns-clause-searches_on g c = record {
  stands = c.decide.ensures.stays.stands (g.L.Sink.items c.settle.new.log.sink.now) c.in_ok-reached.ensures.searches_on.stands;
  conflicts = c.decide.ensures.same.1 ∙ c.in_ok-reached.ensures.searches_on.conflicts;
  tidies = c.decide.ensures.stays.tidies ∙ c.in_ok-reached.ensures.searches_on.tidies;
  log = c.in_ok-reached.ensures.searches_on.log;
}

pub returns-then-decide-clause-reaches : goal.returns-then-decide-clause-reaches
returns-then-decide-clause-reaches g c =
    let grows = c.settle.ensures.grows in
    let opens = (c.decide.ensures.decided c.if-decide.true) in
    let t = c.settle.new.state.trail in
    let longer = ap (λ (x : TrailState). length x.entries) opens.opens in
    let one = length_push t.entries (record { literal = opens.literal; level = t.level + 1; reason = Decision }) in
    record { longer = omega (arith, grows, longer, one); unbroken = c.decide.ensures.stays.unbroken }

pub returns-then-decide-clause-settled : goal.returns-then-decide-clause-settled
returns-then-decide-clause-settled g c s = absurd (true≢false (sym c.if-decide.true ∙ c.decide.ensures.settled s))

pub returns-clause-reaches : goal.returns-clause-reaches
returns-clause-reaches g c =
    let full = c.decide.ensures.full c.if-decide.false in
    let quiet = c.is_quiet.ensures.quiet c.if-not-is_quiet.false in
    let at = subst (SettlesAt c.settle.new.log.formula.now.constraints c.settle.new.state (g.P.ParityEngine.state c.settle.new.engine) c.settle.new.assumptions) quiet c.in_ok-reached.ensures.settles in
    let trail = full.0 in
    record {
      settles = subst (SettlesAt c.settle.new.log.formula.now.constraints c.decide.new.state (g.P.ParityEngine.state c.decide.new.engine) c.decide.new.assumptions) (sym quiet)
          (full.2, c.decide.ensures.checked ∙ at.1 ∙ ap (λ (t : TrailState). length t.entries) (sym trail));
      full = λ is. full.1;
      units = λ zero.
          let many = c.in_ok-reached.ensures.units (ap (λ (t : TrailState). t.level) (sym trail) ∙ zero) in
          let same = ap length c.decide.ensures.same.0 in
          let checked = c.decide.ensures.checked in
          omega (arith, many, same, checked);
      keeps = c.decide.ensures.keeps;
    }

pub returns-clause-settled : goal.returns-clause-settled
returns-clause-settled g c s = (refl, ap (λ (t : TrailState). t.level) (c.decide.ensures.full c.if-decide.false).0 ∙ c.in_ok-reached.ensures.level)

pub returns-then-not-is_quiet-clause-reaches : goal.returns-then-not-is_quiet-clause-reaches
returns-then-not-is_quiet-clause-reaches g c = record {
  settles = c.in_ok-reached.ensures.settles;
  full = λ is. absurd (c.is_quiet.ensures.other c.if-not-is_quiet.true is);
  units = c.in_ok-reached.ensures.units;
  keeps = c.in_ok-reached.ensures.keeps;
}
