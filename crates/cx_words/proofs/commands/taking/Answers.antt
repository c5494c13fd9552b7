use Rattle.std.proofs.Common.{sym, subst}
use Rattle.std.proofs.lemmas.List.{take_all}
use Rattle.std.proofs.lemmas.List.Folds.{fold-map}
use Rattle.std.proofs.lemmas.List.Sums.{fold_more}
use Rattle.clap.specs.Words.{new_app, with_rule}
use Rattle.cx_words.specs.CommandLine as line
use Rattle.cx_words.proofs.Builds.{IsMade, takes}
use Rattle.cx_words.proofs.commands.taking.Goals as goal

pub loop-id-init : goal.loop-id-init
loop-id-init c = (c.new-command.ensures.app, c.new-command.ensures.local)

pub loop-id-preserved : goal.loop-id-preserved
loop-id-preserved c =
    let step = takes _ _ _ _ _ c.in_ok-command.ensures c.loop-id.invariant c.needed.ensures.rule c.needed.ensures.local in
    subst (IsMade c.in_ok-command.command) (sym (fold_more (λ a id. with_rule a (line.needed id.now)) (new_app c.args.name.now) c.args.ids.now c.loop-id.id-index _ c.loop-id-test.true)) step

pub returns : goal.returns
returns c =
    let ids = c.args.ids.now in
    let all = take_all c.loop-id.id-index ids c.loop-id-test.false in
    let made = rw all at c.loop-id.invariant in
    rw (fold-map with_rule (λ id. line.needed id.now) (new_app c.args.name.now) ids) made
