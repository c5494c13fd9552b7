use Rattle.std.proofs.Common.{◌≡◌, sym, ap, ◌∙◌, subst, ◌+◌, ◌≤◌, length, []}
use Rattle.std.specs.List.{AllByRecursion}
use Rattle.cx_base.specs.Problem.{Problem, AreWithin}
use Rattle.parity_engine.specs.State.{fresh}
use Rattle.cdcl_core.specs.Filling.{IsFilled}
use Rattle.cdcl_core.specs.Given.{AreEngines}
use Rattle.cdcl_core.specs.Results.{RefutesIn}
use Rattle.cdcl_core.specs.Waiting.{SearchStandsBut, PutsUnits}
use Rattle.cdcl_core.proofs.CalmLines.{refutes_either}
use Rattle.cdcl_core.proofs.WaitingLaws.{no_ids, empty_is_id, filled_stands, empty_is_refutable, begun_stands, begun_is_calm}
use Rattle.cdcl_core.proofs.beginning.start.Goals as goal

pub refute-requires-clause-shown : goal.refute-requires-clause-shown
refute-requires-clause-shown g c =
    empty_is_refutable c.args.log.now.formula.now c.requires.few c.vars-vars.ensures.within c.args.parities.now c.requires.engines.few (g.L.Sink.items c.args.log.now.sink.now) c.requires.given c.args.filled.now.state c.args.filled.now.units.items c.in-Some.number
    (subst (IsFilled c.args.log.now.formula.now c.args.filled.now.state c.args.filled.now.units.items) c.in-Some.is c.requires.filled)

pub refute-requires-clause-units : goal.refute-requires-clause-units
refute-requires-clause-units g c = no_ids c.args.filled.now.state.units.items c.requires.filled.no_units

pub refute-requires-clause-id : goal.refute-requires-clause-id
refute-requires-clause-id g c = empty_is_id c.args.log.now.formula.now c.requires.few c.args.filled.now.state c.args.filled.now.units.items c.in-Some.number
    (subst (IsFilled c.args.log.now.formula.now c.args.filled.now.state c.args.filled.now.units.items) c.in-Some.is c.requires.filled)

pub put_units-requires-clause-stands : goal.put_units-requires-clause-stands
put_units-requires-clause-stands g c = (
  c.args.parities.now,
  subst (λ us. SearchStandsBut c.args.log.now.formula.now c.args.parities.now c.args.filled.now.state us (g.L.Sink.items c.args.log.now.sink.now)) (sym c.deref.ensures.value)
      (filled_stands c.args.log.now.formula.now c.requires.few c.vars-vars.ensures.within c.args.parities.now c.requires.engines.few (g.L.Sink.items c.args.log.now.sink.now) c.requires.given c.args.filled.now.state c.args.filled.now.units.items
      (subst (IsFilled c.args.log.now.formula.now c.args.filled.now.state c.args.filled.now.units.items) c.in_default.is c.requires.filled)),
)

pub make-requires-clause-within : goal.make-requires-clause-within
make-requires-clause-within g c = subst (λ n. AllByRecursion (AreWithin n) c.args.parities.now) (sym c.vars-vars.ensures.variables) c.requires.engines.within

pub settle_tidying-requires-clause-few : goal.settle_tidying-requires-clause-few
settle_tidying-requires-clause-few g c = subst (λ (f : Problem). length f.constraints ≤ 4294967295) (sym c.in_ok-put_units.ensures.log.formula) c.requires.few

pub settle_tidying-requires-clause-plain : goal.settle_tidying-requires-clause-plain
settle_tidying-requires-clause-plain g c = c.put_units.ensures.tidies ∙ c.requires.filled.never_tidies

pub settle_tidying-requires-clause-stands : goal.settle_tidying-requires-clause-stands
settle_tidying-requires-clause-stands g c =
    let engines = c.args.parities.now in
    let before : SearchStandsBut c.args.log.now.formula.now engines c.args.filled.now.state c.deref.result.now (g.L.Sink.items c.args.log.now.sink.now) =
    subst (λ us. SearchStandsBut c.args.log.now.formula.now engines c.args.filled.now.state us (g.L.Sink.items c.args.log.now.sink.now)) (sym c.deref.ensures.value)
    (filled_stands c.args.log.now.formula.now c.requires.few c.vars-vars.ensures.within engines c.requires.engines.few (g.L.Sink.items c.args.log.now.sink.now) c.requires.given c.args.filled.now.state c.args.filled.now.units.items
    (subst (IsFilled c.args.log.now.formula.now c.args.filled.now.state c.args.filled.now.units.items) c.in_default.is c.requires.filled)) in (
      engines,
      g.L.Sink.items c.put_units.new.log.sink.now,
      subst (PutsUnits c.put_units.new.log.formula.now engines c.put_units.new.state [] (g.L.Sink.items c.put_units.new.log.sink.now)) c.if-not-branch.false (c.in_ok-put_units.ensures.puts engines before),
    )

pub returns-clause-begins : goal.returns-clause-begins
returns-clause-begins g c =
    let engines = c.args.parities.now in
    let rows = c.in_ok-engine.ensures.0 in
    let same : c.put_units.new.log.formula.now ≡ c.args.log.now.formula.now = c.in_ok-put_units.ensures.log.formula in
    let made : g.P.ParityEngine.state c.in_ok-engine.engine ≡ fresh c.put_units.new.log.formula.now.variables engines rows =
    c.in_ok-engine.ensures.1 ∙ ap (λ n. fresh n engines rows) (c.vars-vars.ensures.variables ∙ sym (ap (λ (f : Problem). f.variables) same)) in
    let before : SearchStandsBut c.args.log.now.formula.now engines c.args.filled.now.state c.deref.result.now (g.L.Sink.items c.args.log.now.sink.now) =
    subst (λ us. SearchStandsBut c.args.log.now.formula.now engines c.args.filled.now.state us (g.L.Sink.items c.args.log.now.sink.now)) (sym c.deref.ensures.value)
    (filled_stands c.args.log.now.formula.now c.requires.few c.vars-vars.ensures.within engines c.requires.engines.few (g.L.Sink.items c.args.log.now.sink.now) c.requires.given c.args.filled.now.state c.args.filled.now.units.items
    (subst (IsFilled c.args.log.now.formula.now c.args.filled.now.state c.args.filled.now.units.items) c.in_default.is c.requires.filled)) in
    let put = subst (PutsUnits c.put_units.new.log.formula.now engines c.put_units.new.state [] (g.L.Sink.items c.put_units.new.log.sink.now)) c.if-not-branch.false (c.in_ok-put_units.ensures.puts engines before) in
    let stands = c.in_ok-settle_tidying.ensures.stands engines (g.L.Sink.items c.put_units.new.log.sink.now) put in (
      record {
        stands = begun_stands c.put_units.new.log.formula.now engines c.settle_tidying.new.state (g.L.Sink.items c.put_units.new.log.sink.now) stands (g.P.ParityEngine.state c.in_ok-engine.engine) rows made
            (subst (λ (f : Problem). length f.constraints ≤ 4294967295) (sym same) c.requires.few) (subst (λ f. AreEngines f engines) (sym same) c.requires.engines);
        unbroken = begun_is_calm c.put_units.new.log.formula.now engines c.settle_tidying.new.state (g.L.Sink.items c.put_units.new.log.sink.now) stands (g.P.ParityEngine.state c.in_ok-engine.engine) rows made;
        level = stands.3.level;
        none = stands.3.conflicts;
      },
      c.in_ok-settle_tidying.ensures.tidies,
    )

pub returns-then-not-branch-clause-begins : goal.returns-then-not-branch-clause-begins
returns-then-not-branch-clause-begins g c =
    let engines = c.args.parities.now in
    let told = g.L.Sink.items c.put_units.new.log.sink.now in
    let before : SearchStandsBut c.args.log.now.formula.now engines c.args.filled.now.state c.deref.result.now (g.L.Sink.items c.args.log.now.sink.now) =
    subst (λ us. SearchStandsBut c.args.log.now.formula.now engines c.args.filled.now.state us (g.L.Sink.items c.args.log.now.sink.now)) (sym c.deref.ensures.value)
    (filled_stands c.args.log.now.formula.now c.requires.few c.vars-vars.ensures.within engines c.requires.engines.few (g.L.Sink.items c.args.log.now.sink.now) c.requires.given c.args.filled.now.state c.args.filled.now.units.items
    (subst (IsFilled c.args.log.now.formula.now c.args.filled.now.state c.args.filled.now.units.items) c.in_default.is c.requires.filled)) in
    let ends : RefutesIn c.put_units.new.state.tidies c.put_units.new.log.formula.now 1 told [] = subst (PutsUnits c.put_units.new.log.formula.now engines c.put_units.new.state [] told) c.if-not-branch.true (c.in_ok-put_units.ensures.puts engines before) in
    refutes_either c.args.tidies c.put_units.new.log.formula.now 1 told [] (subst (λ b. RefutesIn b c.put_units.new.log.formula.now 1 told []) (c.put_units.ensures.tidies ∙ c.requires.filled.never_tidies) ends)

pub returns-in-Some-clause-begins : goal.returns-in-Some-clause-begins
returns-in-Some-clause-begins g c =
    let told = g.L.Sink.items c.refute.new.log.sink.now in
    let formula = c.refute.new.log.formula.now in
    refutes_either c.args.tidies formula 1 told [] (subst (λ b. RefutesIn b formula 1 told []) c.requires.filled.never_tidies (subst (λ n. RefutesIn c.args.filled.now.state.tidies formula (n + 1) told []) c.requires.filled.conflicts c.in_ok-refute.ensures.refutes))

pub refute-requires-clause-going : goal.refute-requires-clause-going
refute-requires-clause-going g c = c.requires.going

pub put_units-requires-clause-going : goal.put_units-requires-clause-going
put_units-requires-clause-going g c = c.requires.going
