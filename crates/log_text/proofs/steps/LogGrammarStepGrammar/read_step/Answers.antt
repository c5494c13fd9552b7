use Rattle.step_text.proofs.ReadingLaws.{some_words}
use Rattle.log_text.proofs.StepLaws.{taken_is_read}
use Rattle.log_text.proofs.steps.LogGrammarStepGrammar.read_step.Goals as goal

pub returns : goal.returns
returns c = taken_is_read c.args.size c.take_step.result _ _ (some_words c.args.tokens.now c.requires.some) c.take_step.ensures
