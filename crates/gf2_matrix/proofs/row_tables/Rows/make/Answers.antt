use Rattle.std.proofs.Common.{◌≡◌, ℕ, ◌∙◌, ◌<◌, List, map, length, get_or, sym, ap, subst, arith}
use Rattle.std.proofs.lemmas.List.{length-map}
use Rattle.gf2_matrix.specs.Packed.{Window, window}
use Rattle.gf2_matrix.proofs.Stretches.{joined_small, vec_write}
use Rattle.gf2_matrix.proofs.RowTables.{bits_width, sources_width, zero_table, made_rows, widths_small}
use Rattle.gf2_matrix.proofs.row_tables.Rows.make.Goals as goal

pub join_widths-requires-clause-few_bits : goal.join_widths-requires-clause-few_bits
join_widths-requires-clause-few_bits c =
    let windows : List Window = map window c.args.parts.now in
    let homes : List ℕ = c.args.homes.now in
    let bits : c.deref_mut.result.now ≡ map (bits_width windows) homes = c.deref_mut.ensures.value ∙ c.in_ok-widths.ensures in
    let sources : c.deref_mut-2.result.now ≡ map (sources_width windows) homes = c.deref_mut-2.ensures.value ∙ c.in_ok-source_widths.ensures in
    widths_small homes (bits_width windows) c.deref_mut.result.now bits (λ k lt. let few = c.requires.few_columns (get_or homes k 0) (c.requires.homes k lt) in omega arith)

pub join_widths-requires-clause-few_sources : goal.join_widths-requires-clause-few_sources
join_widths-requires-clause-few_sources c =
    let windows : List Window = map window c.args.parts.now in
    let homes : List ℕ = c.args.homes.now in
    let bits : c.deref_mut.result.now ≡ map (bits_width windows) homes = c.deref_mut.ensures.value ∙ c.in_ok-widths.ensures in
    let sources : c.deref_mut-2.result.now ≡ map (sources_width windows) homes = c.deref_mut-2.ensures.value ∙ c.in_ok-source_widths.ensures in
    widths_small homes (sources_width windows) c.deref_mut-2.result.now sources (λ k lt. let few = c.requires.few_numbers (get_or homes k 0) (c.requires.homes k lt) in omega arith)

pub make-requires : goal.make-requires
make-requires c =
    let windows : List Window = map window c.args.parts.now in
    let homes : List ℕ = c.args.homes.now in
    let bits : c.deref_mut.result.now ≡ map (bits_width windows) homes = c.deref_mut.ensures.value ∙ c.in_ok-widths.ensures in
    let sources : c.deref_mut-2.result.now ≡ map (sources_width windows) homes = c.deref_mut-2.ensures.value ∙ c.in_ok-source_widths.ensures in
    let same : length c.deref_mut-2.result.now ≡ length c.deref_mut.result.now = ap length sources ∙ length-map homes (sources_width windows) ∙ sym (length-map homes (bits_width windows)) ∙ sym (ap length bits) in
    let small = joined_small c.deref_mut.result.now c.deref_mut-2.result.now c.join_widths.new.bits c.join_widths.new.sources c.join_widths.ensures same
    (widths_small homes (bits_width windows) c.deref_mut.result.now bits (λ k lt. let few = c.requires.few_columns (get_or homes k 0) (c.requires.homes k lt) in omega arith))
    (widths_small homes (sources_width windows) c.deref_mut-2.result.now sources (λ k lt. let few = c.requires.few_numbers (get_or homes k 0) (c.requires.homes k lt) in omega arith)) in
    let now : c.deref.result.now ≡ c.join_widths.new.bits =
    c.deref.ensures.value
    ∙ vec_write c.in_ok-widths.widths.items c.join_widths.new.bits c.in_ok-widths.widths.len (c.in_ok-widths.widths.ok.0 ∙ sym (c.join_widths.ensures.long ∙ ap length c.deref_mut.ensures.value)) in
    record { few = subst (λ (ws : List ℕ). (k : ℕ) → k < length ws → get_or ws k 0 < 4294967296) (sym now) small.0 }

pub make-requires-2 : goal.make-requires-2
make-requires-2 c =
    let windows : List Window = map window c.args.parts.now in
    let homes : List ℕ = c.args.homes.now in
    let bits : c.deref_mut.result.now ≡ map (bits_width windows) homes = c.deref_mut.ensures.value ∙ c.in_ok-widths.ensures in
    let sources : c.deref_mut-2.result.now ≡ map (sources_width windows) homes = c.deref_mut-2.ensures.value ∙ c.in_ok-source_widths.ensures in
    let same : length c.deref_mut-2.result.now ≡ length c.deref_mut.result.now = ap length sources ∙ length-map homes (sources_width windows) ∙ sym (length-map homes (bits_width windows)) ∙ sym (ap length bits) in
    let small = joined_small c.deref_mut.result.now c.deref_mut-2.result.now c.join_widths.new.bits c.join_widths.new.sources c.join_widths.ensures same
    (widths_small homes (bits_width windows) c.deref_mut.result.now bits (λ k lt. let few = c.requires.few_columns (get_or homes k 0) (c.requires.homes k lt) in omega arith))
    (widths_small homes (sources_width windows) c.deref_mut-2.result.now sources (λ k lt. let few = c.requires.few_numbers (get_or homes k 0) (c.requires.homes k lt) in omega arith)) in
    let apart_now : c.deref-2.result.now ≡ c.join_widths.new.sources =
    c.deref-2.ensures.value
    ∙ vec_write c.in_ok-source_widths.source_widths.items c.join_widths.new.sources c.in_ok-source_widths.source_widths.len
    (c.in_ok-source_widths.source_widths.ok.0 ∙ sym (c.join_widths.ensures.sources_long ∙ ap length c.deref_mut-2.ensures.value)) in
    record { few = subst (λ (ws : List ℕ). (k : ℕ) → k < length ws → get_or ws k 0 < 4294967296) (sym apart_now) small.1 }

pub invariant_of-result : goal.invariant_of-result
invariant_of-result c =
    let windows : List Window = map window c.args.parts.now in
    let homes : List ℕ = c.args.homes.now in
    let bits : c.deref_mut.result.now ≡ map (bits_width windows) homes = c.deref_mut.ensures.value ∙ c.in_ok-widths.ensures in
    let sources : c.deref_mut-2.result.now ≡ map (sources_width windows) homes = c.deref_mut-2.ensures.value ∙ c.in_ok-source_widths.ensures in
    let now : c.deref.result.now ≡ c.join_widths.new.bits =
    c.deref.ensures.value
    ∙ vec_write c.in_ok-widths.widths.items c.join_widths.new.bits c.in_ok-widths.widths.len (c.in_ok-widths.widths.ok.0 ∙ sym (c.join_widths.ensures.long ∙ ap length c.deref_mut.ensures.value)) in
    let apart_now : c.deref-2.result.now ≡ c.join_widths.new.sources =
    c.deref-2.ensures.value
    ∙ vec_write c.in_ok-source_widths.source_widths.items c.join_widths.new.sources c.in_ok-source_widths.source_widths.len
    (c.in_ok-source_widths.source_widths.ok.0 ∙ sym (c.join_widths.ensures.sources_long ∙ ap length c.deref_mut-2.ensures.value)) in
    (made_rows windows homes c.deref_mut.result.now c.deref_mut-2.result.now c.join_widths.new.bits c.join_widths.new.sources bits sources c.join_widths.ensures
    c.in_ok-heads.heads.items c.in_ok-words.words c.in_ok-apart.apart c.in_ok-heads.ensures (c.in_ok-words.ensures ∙ ap zero_table now) (c.in_ok-apart.ensures ∙ ap zero_table apart_now)).0

pub returns : goal.returns
returns c =
    let windows : List Window = map window c.args.parts.now in
    let homes : List ℕ = c.args.homes.now in
    let bits : c.deref_mut.result.now ≡ map (bits_width windows) homes = c.deref_mut.ensures.value ∙ c.in_ok-widths.ensures in
    let sources : c.deref_mut-2.result.now ≡ map (sources_width windows) homes = c.deref_mut-2.ensures.value ∙ c.in_ok-source_widths.ensures in
    let now : c.deref.result.now ≡ c.join_widths.new.bits =
    c.deref.ensures.value
    ∙ vec_write c.in_ok-widths.widths.items c.join_widths.new.bits c.in_ok-widths.widths.len (c.in_ok-widths.widths.ok.0 ∙ sym (c.join_widths.ensures.long ∙ ap length c.deref_mut.ensures.value)) in
    let apart_now : c.deref-2.result.now ≡ c.join_widths.new.sources =
    c.deref-2.ensures.value
    ∙ vec_write c.in_ok-source_widths.source_widths.items c.join_widths.new.sources c.in_ok-source_widths.source_widths.len
    (c.in_ok-source_widths.source_widths.ok.0 ∙ sym (c.join_widths.ensures.sources_long ∙ ap length c.deref_mut-2.ensures.value)) in
    (made_rows windows homes c.deref_mut.result.now c.deref_mut-2.result.now c.join_widths.new.bits c.join_widths.new.sources bits sources c.join_widths.ensures
    c.in_ok-heads.heads.items c.in_ok-words.words c.in_ok-apart.apart c.in_ok-heads.ensures (c.in_ok-words.ensures ∙ ap zero_table now) (c.in_ok-apart.ensures ∙ ap zero_table apart_now)).1
