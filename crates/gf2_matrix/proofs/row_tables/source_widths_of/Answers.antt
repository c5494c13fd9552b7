use Rattle.std.proofs.Common.{◌≡◌, ℕ, ◌∙◌, ◌+◌, ◌++◌, ◌∷◌, [], map, length, get_or, sym, ap, arith}
use Rattle.std.proofs.lemmas.List.{take_all}
use Rattle.gf2_matrix.specs.Packed.{Window, window, window_at}
use Rattle.gf2_matrix.specs.Views.{words_for}
use Rattle.gf2_matrix.proofs.Rows.{part_here}
use Rattle.gf2_matrix.proofs.RowTables.{mapped_more}
use Rattle.gf2_matrix.proofs.row_tables.source_widths_of.Goals as goal

pub bounds-parts-home : goal.bounds-parts-home
bounds-parts-home c = c.requires.homes c.loop-home.home-index c.loop-home-test.true

pub loop-home-preserved : goal.loop-home-preserved
loop-home-preserved c =
    let p = get_or c.args.homes.now c.loop-home.home-index 0 in
    let p_in = c.requires.homes c.loop-home.home-index c.loop-home-test.true in
    let width : ℕ → ℕ = λ p. words_for (length (window_at (map window c.args.parts.now) p).numbers) in
    let is : c.source_words.result ≡ width p = c.source_words.ensures ∙ ap (λ (w : Window). words_for (length w.numbers)) (sym (part_here c.args.parts.now p c.index-parts-home.result p_in c.index-parts-home.is)) in
    c.in_ok-push.ensures.items ∙ ap (λ v. c.loop-home.widths.items ++ v ∷ []) is ∙ ap (λ ws. ws ++ width p ∷ []) c.loop-home.invariant
    ∙ sym (mapped_more width c.args.homes.now c.loop-home.home-index 0 c.loop-home-test.true)

pub returns : goal.returns
returns c = c.loop-home.invariant ∙ ap (map (λ p. words_for (length (window_at (map window c.args.parts.now) p).numbers))) (take_all c.loop-home.home-index c.args.homes.now (let t = c.loop-home-test.false in omega arith))
