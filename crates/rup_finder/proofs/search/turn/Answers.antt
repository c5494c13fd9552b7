use Rattle.std.proofs.Common.{sym, ap, ◌∙◌, inr}
use Rattle.proof_rules.specs.Ends.{left_seen}
use Rattle.rup_finder.proofs.Propagation.{ends, gives}
use Rattle.rup_finder.proofs.search.turn.Goals as goal

pub returns-in_ok-push-in-Nothing : goal.returns-in_ok-push-in-Nothing
returns-in_ok-push-in-Nothing c target come =
    ends c.args.live.now.clauses c.args.id c.in-Some.clause.now c.in-Some.ensures c.args.reached.now (record { assumed = c.args.reached.now.assumed; hints = c.push.new.self }) c.in_ok-push-in-Nothing.ensures.items (sym (ap left_seen c.in-Nothing.is) ∙ c.left_of.ensures) target come

pub returns-in_ok-assume-in-One : goal.returns-in_ok-assume-in-One
returns-in_ok-assume-in-One c =
    inr (gives c.args.live.now.clauses c.args.id c.in-Some.clause.now c.in-Some.ensures c.args.reached.now c.assume.new.reached c.in_ok-assume-in-One.ensures.hints
    c.in-One.lit (sym (ap left_seen c.in-One.is) ∙ c.left_of.ensures) c.in_ok-assume-in-One.ensures.assumed c.args.later.now.items)
