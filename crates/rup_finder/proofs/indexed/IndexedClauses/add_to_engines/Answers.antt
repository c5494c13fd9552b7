use Rattle.std.proofs.Common.{sym, subst}
use Rattle.cx_semantics.specs.Tables.{Tables}
use Rattle.rup_finder.specs.Ready.{IsReady}
use Rattle.rup_finder.specs.Recent.{IsRecent}
use Rattle.rup_finder.proofs.RecentLaws.{some_part, recent_put}
use Rattle.rup_finder.proofs.indexed.IndexedClauses.add_to_engines.Goals as goal

pub put_in-requires-2 : goal.put_in-requires-2
put_in-requires-2 c = some_part c.self.inside.live.clauses c.self.inside.recent.engine c.self.invariant.1

pub invariant_of-self-2 : goal.invariant_of-self-2
invariant_of-self-2 c =
    let table = c.self.inside.live.clauses in
    let id = c.args.id in
    let lits = c.args.lits.now in
    let after = c.put_in.ensures table c.self.invariant.0 in
    let recent = recent_put table id lits c.self.inside.recent.engine c.put_in-2.new.engine c.put_in-2.ensures c.self.invariant.1 in
    subst (λ (t : Tables). IsReady t.clauses c.put_in.new.engine × IsRecent t.clauses c.put_in-2.new.engine) (sym c.in_ok-add_copy.ensures.ok) (after, recent)
