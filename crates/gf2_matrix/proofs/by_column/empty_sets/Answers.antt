use Rattle.std.proofs.Common.{◌≡◌, ◌∙◌, ℕ, List, map, length, ap, subst}
use Rattle.std.proofs.Math.ListN.{replicate}
use Rattle.std.proofs.lemmas.Result.{IfOk-weaker}
use Rattle.gf2_matrix.specs.ByColumn.{AreSized, AreClear}
use Rattle.gf2_matrix.specs.Views.{words_for}
use Rattle.gf2_matrix.proofs.RowTables.{zero_sized, zero_clear}
use Rattle.gf2_matrix.proofs.by_column.empty_sets.Goals as goal

pub returns-clause-sized : goal.returns-clause-sized
returns-clause-sized c =
    let zeros : ℕ → List ℕ = λ w. replicate w 0 in
    let all = ap (map zeros) (c.deref.ensures.value ∙ c.in_ok-widths.ensures.items_if_clones_equal (λ y e. e)) in
    IfOk-weaker c.make.result (λ t. t ≡ map (λ w. replicate w 0) c.deref.result.now) (AreSized (words_for (length c.args.part.now.numbers.items)))
    (λ t is. subst (λ n. AreSized n t) c.source_words.ensures (zero_sized c.len.result c.source_words.result t (is ∙ all))) c.make.ensures

pub returns-clause-clear : goal.returns-clause-clear
returns-clause-clear c =
    let zeros : ℕ → List ℕ = λ w. replicate w 0 in
    let all = ap (map zeros) (c.deref.ensures.value ∙ c.in_ok-widths.ensures.items_if_clones_equal (λ y e. e)) in
    IfOk-weaker c.make.result (λ t. t ≡ map (λ w. replicate w 0) c.deref.result.now) AreClear (λ t is. zero_clear c.len.result c.source_words.result t (is ∙ all)) c.make.ensures
