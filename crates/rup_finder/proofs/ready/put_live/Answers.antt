use Rattle.std.proofs.Common.{sym, subst, List, Option, MatchOption}
use Rattle.std.specs.FinMap as map
use Rattle.cx_base.specs.Literals.{Literal}
use Rattle.rup_finder.specs.Ready.{IsReady}
use Rattle.rup_finder.proofs.ready.put_live.Goals as goal

pub returns-in-Some : goal.returns-in-Some
returns-in-Some c part is_ready =
    let new = c.put_in.new.engine in
    subst (λ (o : Option (List Literal)). MatchOption o (IsReady part new) (λ lits. IsReady (map.insert part c.args.id lits) new)) (sym c.in-Some.ensures) (c.put_in.ensures part is_ready)
