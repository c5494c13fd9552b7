use Rattle.std.proofs.Common.{◌≡◌, false}
use Rattle.step_text.specs.Texts.{is_spent_by}
use Rattle.plain_runs.proofs.log_lines.steps_of.Given as goal

abbrev pub invariant-loop : goal.invariant-loop
invariant-loop l = is_spent_by l.source.refused ≡ false
