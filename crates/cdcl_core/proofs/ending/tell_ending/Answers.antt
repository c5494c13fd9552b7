use Rattle.std.proofs.Common.{◌+◌, Ok}
use Rattle.cdcl_search.specs.Tells.{as_events}
use Rattle.cdcl_search.proofs.Tellings.{holds_where}
use Rattle.cdcl_core.specs.Results.{RefutesIn}
use Rattle.cdcl_core.proofs.EndingLaws.{ends_refute, ended_is_left}
use Rattle.cdcl_core.proofs.ending.tell_ending.Goals as goal

pub tell_steps-requires-clause-right : goal.tell_steps-requires-clause-right
tell_steps-requires-clause-right g c = ended_is_left c.args.state.now.tidies c.args.log.now.formula.now c.args.state.now.conflicts c.args.ending.failed _ c.requires.ends.log

pub returns-clause-ends : goal.returns-clause-ends
returns-clause-ends g c = record {
  refutes = holds_where (λ formula told. RefutesIn c.args.state.now.tidies formula (c.args.state.now.conflicts + 1) told c.args.ending.failed) (as_events c.args.ending.steps.items) g.L.Sink c.args.log.now _ (let u : Unit {0} = tt in Ok u) c.tell_steps.new.log c.in_ok-tell_steps.ensures.log c.in_ok-tell_steps.ensures.told
      (ends_refute c.args.state.now.tidies c.args.log.now.formula.now c.args.state.now.conflicts c.args.ending.failed _ c.requires.ends.unmet c.requires.ends.fails c.requires.ends.apart c.requires.ends.log);
  log = c.in_ok-tell_steps.ensures.log;
}
