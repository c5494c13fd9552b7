use Rattle.clause_tidy.proofs.ListingLaws.{put_keeps, put_has, put_long}
use Rattle.clause_tidy.proofs.Shrinkings.{on_ok}
use Rattle.clause_tidy.proofs.lists.put_chosen.Goals as goal

pub returns-clause-count : goal.returns-clause-count
returns-clause-count c = on_ok c.put.result _ _ (put_long c.args.lists.now c.args.variable c.args.clause c.requires c.put.new.self) c.put.ensures

pub returns-clause-kept : goal.returns-clause-kept
returns-clause-kept c = on_ok c.put.result _ _ (put_keeps c.args.lists.now c.args.variable c.args.clause c.requires c.put.new.self) c.put.ensures

pub returns-clause-has : goal.returns-clause-has
returns-clause-has c = on_ok c.put.result _ _ (λ is _. put_has c.args.lists.now c.args.variable c.args.clause c.requires c.put.new.self is) c.put.ensures
