use Rattle.std.proofs.Common.{sym, subst}
use Rattle.rup_finder.specs.Recent.{IsRecent}
use Rattle.rup_finder.proofs.RecentLaws.{part_for, recent_behind, chain_behind}
use Rattle.rup_finder.proofs.recent.Recent.find.Goals as goal

pub ask-requires : goal.ask-requires
ask-requires c =
    let table = c.args.live.now.clauses in
    part_for table c.args.target.now c.keep_unless_full.new.self.engine c.keep_within.new.engine c.keep_within.ensures (c.keep_unless_full.ensures table c.requires)

pub returns-in_err-ids-clause-recent : goal.returns-in_err-ids-clause-recent
returns-in_err-ids-clause-recent c =
    let table = c.args.live.now.clauses in
    recent_behind table c.args.target.now c.keep_unless_full.new.self.engine c.keep_within.new.engine c.keep_within.ensures (c.keep_unless_full.ensures table c.requires) c.ask.new.engine c.ask.ensures.ready

pub returns-in_err-note-in-Chain-clause-recent : goal.returns-in_err-note-in-Chain-clause-recent
returns-in_err-note-in-Chain-clause-recent c =
    let table = c.args.live.now.clauses in
    subst (IsRecent table) (sym c.note.ensures)
    (recent_behind table c.args.target.now c.keep_unless_full.new.self.engine c.keep_within.new.engine c.keep_within.ensures (c.keep_unless_full.ensures table c.requires) c.ask.new.engine c.ask.ensures.ready)

pub returns-in_ok-note-in-Chain-clause-recent : goal.returns-in_ok-note-in-Chain-clause-recent
returns-in_ok-note-in-Chain-clause-recent c =
    let table = c.args.live.now.clauses in
    subst (IsRecent table) (sym c.note.ensures)
    (recent_behind table c.args.target.now c.keep_unless_full.new.self.engine c.keep_within.new.engine c.keep_within.ensures (c.keep_unless_full.ensures table c.requires) c.ask.new.engine c.ask.ensures.ready)

pub returns-in_ok-note-in-Chain-clause-found : goal.returns-in_ok-note-in-Chain-clause-found
returns-in_ok-note-in-Chain-clause-found c =
    let table = c.args.live.now.clauses in
    chain_behind table c.args.target.now c.keep_unless_full.new.self.engine c.keep_within.new.engine c.keep_within.ensures (c.keep_unless_full.ensures table c.requires) c.in_ok-ids.field-0 c.in_ok-ids.ensures.answers c.in-Chain.ids c.in-Chain.is

pub returns-in-NoChain-clause-recent : goal.returns-in-NoChain-clause-recent
returns-in-NoChain-clause-recent c =
    let table = c.args.live.now.clauses in
    recent_behind table c.args.target.now c.keep_unless_full.new.self.engine c.keep_within.new.engine c.keep_within.ensures (c.keep_unless_full.ensures table c.requires) c.ask.new.engine c.ask.ensures.ready

pub returns-in-Untold-clause-recent : goal.returns-in-Untold-clause-recent
returns-in-Untold-clause-recent c =
    let table = c.args.live.now.clauses in
    recent_behind table c.args.target.now c.keep_unless_full.new.self.engine c.keep_within.new.engine c.keep_within.ensures (c.keep_unless_full.ensures table c.requires) c.ask.new.engine c.ask.ensures.ready
