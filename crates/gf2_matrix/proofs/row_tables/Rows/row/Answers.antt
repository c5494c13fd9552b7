use Rattle.std.proofs.Common.{◌≡◌, ◌∙◌, ◌<◌, ◌≤◌, ◌⊎◌, ℕ, List, [], length, get_or, take, drop, sym, ap, subst, inl, inr}
use Rattle.gf2_rows.specs.declared.few.TheConstants.{FEW}
use Rattle.gf2_rows.specs.Tables.{words_at}
use Rattle.gf2_matrix.specs.declared.row_tables.RowHead.{RowHead}
use Rattle.gf2_matrix.specs.Rows.{no_head, split_at}
use Rattle.gf2_matrix.specs.Stretches.{sources_in}
use Rattle.gf2_matrix.proofs.Stretches.{none_apart, none_after, joined_sources, apart_sources, all_bits}
use Rattle.gf2_matrix.proofs.Updates.{same_read}
use Rattle.gf2_matrix.proofs.RowTables.{head_within, row_read}
use Rattle.gf2_matrix.proofs.row_tables.Rows.row.Goals as goal
use Rattle.gf2_matrix.proofs.row_tables.Rows.row.Goals.{After-index-head}

row_in : (c : After-index-head) → c.args.row < length c.self.inside.heads.items
row_in c = let m = c.self.inside in head_within m.heads.items m.words m.apart c.args.self.now c.self.view_is c.args.row c.requires

pub returns-in-Some : goal.returns-in-Some
returns-in-Some c = λ d.
    let m = c.self.inside in
    let row = c.args.row in
    let lt = row_in (goal.at.returns-in-Some c).After-index-head in
    let head : c.index-head.result.now ≡ get_or m.heads.items row no_head = c.index-head.ensures ∙ same_read m.heads.items row c.index-head.result.now no_head lt in
    let n : ℕ = split_at m.heads.items row in
    let its : List ℕ = words_at m.words row in
    let apart : List ℕ = words_at m.apart row in
    let at : c.index-head.result.now.split ≡ n = ap (λ (h : RowHead). h.split) head in
    let none : apart ≡ [] = none_apart n its apart (c.self.invariant.split row lt) (subst (λ s. s < length its) at c.in-Some.ensures.0) in
    let bits : c.whole.result ≡ take n its = c.whole.ensures ∙ c.in-Some.ensures.1 ∙ ap (λ s. take s its) at in
    let sources : c.whole-in-Some.result ≡ sources_in n its apart = c.whole-in-Some.ensures ∙ c.in-Some.ensures.2 ∙ ap (λ s. drop s its) at ∙ sym (joined_sources n its apart none) in
    (λ i. record { part = (head i).part; bits = bits i; right = (head i).right; sources = sources i })
    ∙ sym (row_read m.heads.items m.words m.apart row d lt) ∙ ap (λ rs. get_or rs row d) c.self.view_is

pub returns-in-None : goal.returns-in-None
returns-in-None c = λ d.
    let m = c.self.inside in
    let row = c.args.row in
    let lt = row_in (goal.at.returns-in-None c).After-index-head in
    let head : c.index-head.result.now ≡ get_or m.heads.items row no_head = c.index-head.ensures ∙ same_read m.heads.items row c.index-head.result.now no_head lt in
    let n : ℕ = split_at m.heads.items row in
    let its : List ℕ = words_at m.words row in
    let apart : List ℕ = words_at m.apart row in
    let at : c.index-head.result.now.split ≡ n = ap (λ (h : RowHead). h.split) head in
    let either : (FEW < length its) ⊎ (length its ≤ c.index-head.result.now.split) = c.in-None.ensures in
    let all : length its ≤ n =
    elim either as (λ _. length its ≤ n) [
      | inl many ↦ none_after n its apart (c.self.invariant.split row lt) many
      | inr le ↦ subst (λ s. length its ≤ s) at le
    ] in
    let bits : c.row.result ≡ take n its = c.row.ensures ∙ sym (all_bits n its all) in
    let sources : c.row-in-None.result ≡ sources_in n its apart = c.row-in-None.ensures ∙ sym (apart_sources n its apart all) in
    (λ i. record { part = (head i).part; bits = bits i; right = (head i).right; sources = sources i })
    ∙ sym (row_read m.heads.items m.words m.apart row d lt) ∙ ap (λ rs. get_or rs row d) c.self.view_is

pub index-head-requires : goal.index-head-requires
index-head-requires c =
    let m = c.self.inside in
    subst (λ n. c.args.row < n) (sym m.heads.ok.0) (head_within m.heads.items m.words m.apart c.args.self.now c.self.view_is c.args.row c.requires)

pub split_row-requires : goal.split_row-requires
split_row-requires c = subst (λ n. c.args.row < n) (sym c.self.invariant.words_count) (row_in (goal.at.split_row-requires c).After-index-head)

pub row-requires : goal.row-requires
row-requires c = subst (λ n. c.args.row < n) (sym c.self.invariant.words_count) (row_in (goal.at.row-requires c).After-index-head)

pub row-requires-in-None : goal.row-requires-in-None
row-requires-in-None c = subst (λ n. c.args.row < n) (sym c.self.invariant.apart_count) (row_in (goal.at.row-requires-in-None c).After-index-head)
