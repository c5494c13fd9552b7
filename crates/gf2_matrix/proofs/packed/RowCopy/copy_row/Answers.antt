use Rattle.std.proofs.Common.{◌≡◌, ◌∙◌, ◌+◌, ◌-◌, ◌++◌, length, take, drop, refl, sym, ap, arith}
use Rattle.std.proofs.lemmas.List.{length-append}
use Rattle.gf2_matrix.specs.declared.packed.PackedRow.{PackedRow}
use Rattle.gf2_matrix.specs.Stretches.{sources_in}
use Rattle.gf2_matrix.proofs.Stretches.{length_of_bits, length_of_sources, none_apart, vec_write, written_joined, written_apart}
use Rattle.gf2_matrix.proofs.packed.RowCopy.copy_row.Goals as goal

pub returns-then-split-len : goal.returns-then-split-len
returns-then-split-len c =
    let m = c.self.inside in
    let row = c.args.row.now in
    let long : length row.bits ≡ m.split = c.requires.0 ∙ sym (ap (λ (r : PackedRow). length r.bits) c.self.view_is) ∙ length_of_bits m.split m.words.items c.self.invariant.within in
    let sources_long : length row.sources ≡ (length m.words.items - m.split) + length m.apart.items =
    c.requires.1 ∙ sym (ap (λ (r : PackedRow). length r.sources) c.self.view_is) ∙ length_of_sources m.split m.words.items m.apart.items in
    let more = c.if-split-len.true in
    let count = c.len.ensures in
    let all = m.words.ok.0 in
    let none = ap length (none_apart m.split m.words.items m.apart.items c.self.invariant (omega arith)) in
    let both = length-append row.bits row.sources in
    let new = c.write_parts.new.words in
    let written : length new ≡ length (row.bits ++ row.sources) = ap length c.write_parts.ensures in
    let items : take m.words.len (new ++ drop (length new) m.words.items) ≡ new = vec_write m.words.items new m.words.len (omega arith) in
    let parts = written_joined m.split m.words.items m.apart.items row.bits row.sources c.self.invariant (omega arith) long in
    record {
      part = refl;
      bits = ap (take m.split) (items ∙ c.write_parts.ensures) ∙ parts.0;
      right = refl;
      sources = ap (λ ws. sources_in m.split ws m.apart.items) (items ∙ c.write_parts.ensures) ∙ parts.1;
    }

pub returns-else-split-len : goal.returns-else-split-len
returns-else-split-len c =
    let m = c.self.inside in
    let row = c.args.row.now in
    let long : length row.bits ≡ m.split = c.requires.0 ∙ sym (ap (λ (r : PackedRow). length r.bits) c.self.view_is) ∙ length_of_bits m.split m.words.items c.self.invariant.within in
    let sources_long : length row.sources ≡ (length m.words.items - m.split) + length m.apart.items =
    c.requires.1 ∙ sym (ap (λ (r : PackedRow). length r.sources) c.self.view_is) ∙ length_of_sources m.split m.words.items m.apart.items in
    let no_more = c.if-split-len.false in
    let count = c.len.ensures in
    let all = m.words.ok.0 in
    let all_apart = m.apart.ok.0 in
    let within = c.self.invariant.within in
    let new = c.copy_to.new.into in
    let new_apart = c.copy_to-else-split-len.new.into in
    let written : length new ≡ length row.bits = ap length c.copy_to.ensures in
    let written_sources : length new_apart ≡ length row.sources = ap length c.copy_to-else-split-len.ensures in
    let items : take m.words.len (new ++ drop (length new) m.words.items) ≡ new = vec_write m.words.items new m.words.len (omega arith) in
    let items_apart : take m.apart.len (new_apart ++ drop (length new_apart) m.apart.items) ≡ new_apart = vec_write m.apart.items new_apart m.apart.len (omega arith) in
    let parts = written_apart m.split row.bits row.sources long in
    record {
      part = refl;
      bits = ap (take m.split) (items ∙ c.copy_to.ensures) ∙ parts.0;
      right = refl;
      sources = (λ i. sources_in m.split ((items ∙ c.copy_to.ensures) i) ((items_apart ∙ c.copy_to-else-split-len.ensures) i)) ∙ parts.1;
    }
