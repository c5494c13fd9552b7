use Rattle.std.specs.FinMap as map
use Rattle.rup_finder.proofs.ReadyLaws.{holds_by_get, put_over}
use Rattle.rup_finder.proofs.ready.enter.Goals as goal

pub returns : goal.returns
returns c entered = (
  c.in_ok-enter.ensures.rest,
  λ table holds.
      let id = c.args.id in
      let lits = c.args.lits.now in
      holds_by_get (map.insert (map.remove table id) id lits) (map.insert table id lits) c.enter.new.self (put_over table id lits) (c.in_ok-enter.ensures.holds (map.remove table id) (c.forget.ensures.holds table holds)),
)
