use Rattle.std.proofs.Common.{arith}
use Rattle.watch_lists.proofs.DetachLaws.{all_alone}
use Rattle.watch_lists.proofs.linking.link_all.Goals as goal

pub link_one-requires-clause-linked : goal.link_one-requires-clause-linked
link_one-requires-clause-linked c = let i = c.all.invariant in rw i.held (record { listed = i.listed; alone = i.alone })

pub returns-clause-alone : goal.returns-clause-alone
returns-clause-alone c = all_alone _ _ _ (omega (arith, c.all-test.false, c.len-count.ensures)) c.all.invariant.alone
