use Rattle.std.proofs.Common.{◌∙◌, sym}
use Rattle.std.proofs.lemmas.List.{take_all}
use Rattle.std.proofs.lemmas.List.Sums.{fold_more}
use Rattle.cx_words.proofs.commands.with_plain.Goals as goal

pub loop-name-preserved : goal.loop-name-preserved
loop-name-preserved c =
    c.in_ok-command.ensures _ _ c.loop-name.invariant c.taking.ensures ∙ sym (fold_more _ _ c.args.plain.now c.loop-name.name-index _ c.loop-name-test.true)

pub returns : goal.returns
returns c = λ a is.
    let all = take_all c.loop-name.name-index c.args.plain.now c.loop-name-test.false in
    rw (is, all) at c.loop-name.invariant
