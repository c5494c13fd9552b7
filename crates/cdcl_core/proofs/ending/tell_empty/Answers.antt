use Rattle.std.proofs.Common.{◌+◌, ◌∷◌, []}
use Rattle.cx_base.specs.declared.steps.LogEvent.TheVariants.{Step}
use Rattle.cx_base.specs.declared.steps.LogStep.TheVariants.{ClauseWithHints}
use Rattle.cdcl_search.proofs.Tellings.{holds_where}
use Rattle.cdcl_core.specs.Results.{RefutesIn}
use Rattle.cdcl_core.proofs.EndingLaws.{ends_refute, ended_is_left, shown_ends, shown_fails, shown_is_apart, shown_is_unmet}
use Rattle.cdcl_core.proofs.ending.tell_empty.Goals as goal

pub tell_chained-requires-clause-right : goal.tell_chained-requires-clause-right
tell_chained-requires-clause-right g c =
    ended_is_left c.args.state.now.tidies c.args.log.now.formula.now c.args.state.now.conflicts [] _ (shown_ends c.args.log.now.formula.now c.args.state.now c.args.hints (g.L.Sink.items c.args.log.now.sink.now) c.requires.shown)

pub returns : goal.returns
returns g c = record {
  refutes = holds_where (λ formula told. RefutesIn c.args.state.now.tidies formula (c.args.state.now.conflicts + 1) told []) (Step (ClauseWithHints c.args.state.now.next [] c.args.hints) ∷ []) g.L.Sink c.args.log.now _ c.tell_chained.result c.tell_chained.new.log
      c.tell_chained.ensures.log c.tell_chained.ensures.told
      (ends_refute c.args.state.now.tidies c.args.log.now.formula.now c.args.state.now.conflicts [] _ (shown_is_unmet c.args.log.now.formula.now c.args.state.now c.args.hints (g.L.Sink.items c.args.log.now.sink.now) c.requires.shown)
      (shown_fails c.args.log.now.formula.now c.args.state.now c.args.hints (g.L.Sink.items c.args.log.now.sink.now) c.requires.shown)
      (shown_is_apart c.args.log.now.formula.now c.args.state.now c.args.hints (g.L.Sink.items c.args.log.now.sink.now) c.requires.shown)
      (shown_ends c.args.log.now.formula.now c.args.state.now c.args.hints (g.L.Sink.items c.args.log.now.sink.now) c.requires.shown));
  log = c.tell_chained.ensures.log;
}
