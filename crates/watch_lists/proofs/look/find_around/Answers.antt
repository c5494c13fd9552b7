use Rattle.std.proofs.Common.{List, subst}
use Rattle.std.proofs.lemmas.List.{take_rest}
use Rattle.cx_base.specs.Literals.{Literal}
use Rattle.watch_lists.specs.Truths.{AreOthersFalse}
use Rattle.watch_lists.proofs.LookLaws.{found_in_front}
use Rattle.watch_lists.proofs.look.find_around.Goals as goal

pub returns-in-None : goal.returns-in-None
returns-in-None c =
    let entries = c.args.trail.now.entries in
    let lits = c.args.lits.now in
    let back = subst (λ (xs : List Literal). AreOthersFalse entries xs c.args.other) (take_rest lits c.args.start) c.in-None.ensures in
    found_in_front entries lits c.args.other c.args.start c.find-in-None.result c.requires.start back c.find-in-None.ensures
