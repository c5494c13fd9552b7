use Rattle.std.proofs.Common.{◌∙◌, Some, sym, ap, length}
use Rattle.std.specs.Vec.{with_items}
use Rattle.std.proofs.lemmas.List.{with_items_is}
use Rattle.gauss_jordan.specs.declared.slot.RowSlot.{RowSlot}
use Rattle.gauss_jordan.proofs.Copies.{copied}
use Rattle.gauss_jordan.proofs.slot.copy_row.Goals as goal

pub returns : goal.returns
returns c =
    let m = c.args.matrix.now in
    let old = c.args.slot.now in
    let terms_is = with_items_is old.terms c.copy_terms.new.terms (c.copy_terms.auto.terms ∙ ap length c.deref_mut.ensures.value ∙ sym old.terms.ok.0) in
    let long = c.copy_sources.auto.sources ∙ ap length c.deref_mut-2.ensures.value in
    let sources_is = with_items_is old.sources c.copy_sources.new.sources (long ∙ sym old.sources.ok.0) in
    let new : RowSlot = record { terms = with_items old.terms c.copy_terms.new.terms; right = c.row_right-slot.result; sources = with_items old.sources c.copy_sources.new.sources; naming = Some c.args.naming } in
    copied m c.args.row c.args.naming old new c.rows-rows.ensures.of_given c.requires.row_in c.requires.sized
    (rw (terms_is, sym c.deref_mut.ensures.value) c.copy_terms.ensures)
    (rw sources_is c.copy_sources.ensures)
    (ap length sources_is ∙ long)
    c.row_right-slot.ensures (λ i. Some c.args.naming)
