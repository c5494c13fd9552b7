use Rattle.std.proofs.Common.{false, sym, subst}
use Rattle.clause_arena.specs.Clauses.{Stored}
use Rattle.watch_lists.specs.Attaching.{CanBeWatched}
use Rattle.watch_lists.proofs.EventLaws.{fits_arena}
use Rattle.cdcl_core.proofs.AddedClauses.{added_is_live, added_literals}
use Rattle.cdcl_core.proofs.filling.attach.Goals as goal

pub attach-requires-clause-fits : goal.attach-requires-clause-fits
attach-requires-clause-fits c = fits_arena c.args.state.now.watches c.args.state.now.arena c.add.new.self c.args.state.now.trail _ c.in_ok-reference.ensures.added c.requires.fits

pub attach-requires-clause-live : goal.attach-requires-clause-live
attach-requires-clause-live c =
    let k : Stored = record { literals = c.args.lits.now; id = c.args.number; lbd = 0; learned = false } in
    added_is_live c.args.state.now.arena c.add.new.self k c.in_ok-reference.reference c.in_ok-reference.ensures.added c.in_ok-reference.ensures.ok

pub attach-requires-clause-watched : goal.attach-requires-clause-watched
attach-requires-clause-watched c =
    let k : Stored = record { literals = c.args.lits.now; id = c.args.number; lbd = 0; learned = false } in
    subst (CanBeWatched c.args.state.now.watches.variables c.args.state.now.trail)
    (sym (added_literals c.args.state.now.arena c.add.new.self k c.in_ok-reference.reference c.in_ok-reference.ensures.added c.in_ok-reference.ensures.ok)) c.requires.watched
