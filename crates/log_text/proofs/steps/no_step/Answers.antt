use Rattle.std.proofs.Common.{sym, ◌∙◌}
use Rattle.cx_texts.specs.Words.{placed_words}
use Rattle.step_text.specs.declared.source.TextRefusal.TheVariants.{BadToken, Unterminated}
use Rattle.log_text.proofs.StepLaws.{no_start, other_letter, no_letter}
use Rattle.log_text.proofs.steps.no_step.Goals as goal

pub returns-in-None : goal.returns-in-None
returns-in-None c =
    let a = placed_words c.args.tokens.now in
    no_start c.args.size (Unterminated c.args.size) a c.requires.original c.requires.added c.requires.implied c.requires.deleted c.requires.finally c.requires.moved (no_letter 111 c.args.size a (sym c.in-None.is ∙ c.word.ensures))

pub returns-in-Some : goal.returns-in-Some
returns-in-Some c =
    let a = placed_words c.args.tokens.now in
    no_start c.args.size (BadToken c.in-Some.seen.place) a c.requires.original c.requires.added c.requires.implied c.requires.deleted c.requires.finally c.requires.moved
    (other_letter 111 c.args.size a c.in-Some.seen c.requires.original (sym c.in-Some.is ∙ c.word.ensures))
