use Rattle.std.proofs.Common.{◌≡◌, ◌∙◌, sym}
use Rattle.plain_tests.proofs.judged.judge.Goals as goal

pub judge_from-requires-clause-no_clash : goal.judge_from-requires-clause-no_clash
judge_from-requires-clause-no_clash c = sym c.clash.ensures.some ∙ sym c.is_some.ensures ∙ c.if-is_some.false
