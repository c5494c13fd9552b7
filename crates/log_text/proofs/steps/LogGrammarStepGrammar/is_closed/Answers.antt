use Rattle.std.proofs.Common.{sym, ap, ◌∙◌, true≢false, not}
use Rattle.cx_texts.proofs.LogSteps.{closed}
use Rattle.log_text.proofs.steps.LogGrammarStepGrammar.is_closed.Goals as goal
use Rattle.log_text.proofs.steps.LogGrammarStepGrammar.is_closed.Goals.{in-Clause, in_default}

pub returns : goal.returns
returns c is ws next step =
    elim c.match-matches.branch [ in-Clause w ↦ absurd (true≢false (sym is ∙ ap not w.matches-is)) | in_default w ↦ closed c.args.step.now w.in_default.not-Clause ws next step ]
