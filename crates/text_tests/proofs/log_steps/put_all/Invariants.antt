use Rattle.std.proofs.Common.{◌≡◌, false}
use Rattle.step_text.specs.Texts.{is_spent_by}
use Rattle.text_tests.proofs.log_steps.put_all.Given as goal

abbrev pub invariant-loop-k : goal.invariant-loop-k
invariant-loop-k l = is_spent_by l.source.refused ≡ false
