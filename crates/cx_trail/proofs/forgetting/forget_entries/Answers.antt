use Rattle.std.proofs.Common.{◌<◌, length, set, ap, ◌∙◌, arith}
use Rattle.std.proofs.lemmas.List.Edits.{map_over_more}
use Rattle.cx_trail.specs.Forgetting.{forgotten}
use Rattle.cx_trail.proofs.forgetting.forget_entries.Goals as goal

pub loop-place-preserved : goal.loop-place-preserved
loop-place-preserved c =
    let old = c.args.entries.now.items in
    let inside : c.loop-place.place < length old = omega (arith, c.loop-place-test.true, c.requires) in
    ap (set c.loop-place.entries.items c.loop-place.place) c.forget_entry.ensures
    ∙ map_over_more forgotten old c.loop-place.entries.items c.loop-place.place _ inside c.loop-place.invariant c.index.ensures
