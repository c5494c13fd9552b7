use Rattle.std.proofs.Common.{◌∙◌, sym, refl, inl}
use Rattle.plain_tests.proofs.JudgedLaws.{chain_is, chain_is_not}
use Rattle.plain_tests.proofs.log_rules.judge_chained.Goals as goal

pub returns-then-is_some : goal.returns-then-is_some
returns-then-is_some c = inl (chain_is_not c.args.live.now.clauses c.args.target.now c.in_ok-closed.closed c.in_ok-closed.ensures (sym c.is_some.ensures ∙ c.if-is_some.true), refl)

pub returns : goal.returns
returns c = (chain_is c.args.live.now.clauses c.args.target.now c.in_ok-closed.closed c.in_ok-closed.ensures (sym c.is_some.ensures ∙ c.if-is_some.false), tt)
