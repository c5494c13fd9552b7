use Rattle.std.proofs.Common.{◌≡◌, ℕ, ◌∙◌, ◌+◌, ◌++◌, ◌∷◌, ◌≤◌, [], map, length, get_or, sym, ap, subst, arith}
use Rattle.std.proofs.lemmas.List.{take_all}
use Rattle.cx_base.specs.declared.literal.TheConstants.{MAX_VARIABLE}
use Rattle.gf2_matrix.specs.Packed.{Window, window, window_at, start}
use Rattle.gf2_matrix.specs.declared.row_tables.RowHead.{RowHead}
use Rattle.gf2_matrix.specs.Rows.{empty_head}
use Rattle.gf2_matrix.specs.Views.{words_for}
use Rattle.gf2_matrix.proofs.Rows.{part_here}
use Rattle.gf2_matrix.proofs.RowTables.{mapped_more}
use Rattle.gf2_matrix.proofs.row_tables.heads_of.Goals as goal

pub bounds-parts-home : goal.bounds-parts-home
bounds-parts-home c = c.requires.homes c.loop-home.home-index c.loop-home-test.true

pub words-requires : goal.words-requires
words-requires c =
    let p = get_or c.args.homes.now c.loop-home.home-index 0 in
    let p_in = c.requires.homes c.loop-home.home-index c.loop-home-test.true in
    subst (λ (w : Window). length w.columns ≤ MAX_VARIABLE) (part_here c.args.parts.now p c.index-parts-home.result p_in c.index-parts-home.is) (c.requires.few p p_in)

pub loop-home-preserved : goal.loop-home-preserved
loop-home-preserved c =
    let p = get_or c.args.homes.now c.loop-home.home-index 0 in
    let p_in = c.requires.homes c.loop-home.home-index c.loop-home-test.true in
    let width : ℕ → ℕ = λ p. words_for (start (window_at (map window c.args.parts.now) p) + length (window_at (map window c.args.parts.now) p).columns) in
    let head : ℕ → RowHead = λ p. empty_head (width p) p in
    let is : c.words.result ≡ width p = c.words.ensures ∙ ap (λ (w : Window). words_for (start w + length w.columns)) (sym (part_here c.args.parts.now p c.index-parts-home.result p_in c.index-parts-home.is)) in
    c.in_ok-push.ensures.items ∙ ap (λ v. c.loop-home.heads.items ++ empty_head v p ∷ []) is ∙ ap (λ hs. hs ++ head p ∷ []) c.loop-home.invariant
    ∙ sym (mapped_more head c.args.homes.now c.loop-home.home-index 0 c.loop-home-test.true)

pub returns : goal.returns
returns c = c.loop-home.invariant ∙ ap (map (λ p. empty_head (words_for (start (window_at (map window c.args.parts.now) p) + length (window_at (map window c.args.parts.now) p).columns)) p)) (take_all c.loop-home.home-index c.args.homes.now (let t = c.loop-home-test.false in omega arith))
