use Rattle.std.proofs.Common.{take}
use Rattle.cx_semantics.specs.Judging.{Runs}
use Rattle.cx_semantics.specs.LogRules.{log_calculus}
use Rattle.cx_semantics.specs.Tables.{no_tables}
use Rattle.plain_tests.proofs.judged.judge_from.Given as goal

-- the first ones are right, and none of them ends the log
abbrev pub invariant-loop-place : goal.invariant-loop-place
invariant-loop-place l = Runs (log_calculus l.formula) no_tables (take l.place l.steps) l.live
