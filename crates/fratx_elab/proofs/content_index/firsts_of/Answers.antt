use Rattle.std.proofs.Common.{◌≡◌, ◌∙◌, ◌+◌, ap, get_or, arith}
use Rattle.std.proofs.lemmas.List.{get_or_default, length-set}
use Rattle.fratx_elab.specs.declared.content_index.ContentEntry.{ContentEntry}
use Rattle.fratx_elab.proofs.EntryOrder.{least_more}
use Rattle.fratx_elab.proofs.content_index.firsts_of.Goals as goal

pub loop-place-preserved : goal.loop-place-preserved
loop-place-preserved c =
    let entries = c.args.entries.now in
    let place = c.loop-place.place in
    let count = c.loop-place.invariant.count in
    let within = c.loop-place-test.true in
    let next = c.index.ensures in
    let own : (d : ContentEntry) → c.index.result + 1 ≡ (get_or entries place d).number = λ d. next ∙ ap (λ (e : ContentEntry). e.number) (get_or_default entries place c.index-entries-place.result d within) in
    let high = (c.requires.within place c.index-entries-place.result within).1 in
    record {
      count = length-set c.loop-place.firsts.items c.index.result c.first_at-first.result ∙ count;
      least = least_more entries c.loop-place.firsts.items place c.index.result c.first_at-first.result c.requires.once within (omega (arith, high, next, count)) own c.first_at-first.ensures c.requires.within c.loop-place.invariant.least;
    }
