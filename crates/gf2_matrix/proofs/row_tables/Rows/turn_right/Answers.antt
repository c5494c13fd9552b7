use Rattle.std.proofs.Common.{◌≡◌, ◌∙◌, ◌<◌, Bool, false, not, get_or, refl, set, sym, ap, subst}
use Rattle.std.proofs.lemmas.List.{length-set}
use mathlib.Core.Bool.{beq}
use Rattle.cx_base.specs.Literals.{differ}
use Rattle.gf2_rows.proofs.Words.{differ-beq}
use Rattle.gf2_matrix.specs.declared.row_tables.RowHead.{RowHead}
use Rattle.gf2_matrix.specs.Rows.{no_head, rows_of, IsOnlyChange, IsTurnedRow}
use Rattle.gf2_matrix.proofs.Updates.{same_read}
use Rattle.gf2_matrix.proofs.RowTables.{head_within, right_only, right_row, splits_kept, tables_kept}
use Rattle.gf2_matrix.proofs.row_tables.Rows.turn_right.Goals as goal

pub index_mut-requires : goal.index_mut-requires
index_mut-requires c =
    let m = c.self.inside in
    subst (λ n. c.args.row < n) (sym m.heads.ok.0) (head_within m.heads.items m.words m.apart c.args.self.now c.self.view_is c.args.row c.requires)

-- the head with the right side turned
turned : RowHead → Bool → RowHead
turned h t = record { part = h.part; split = h.split; right = not (beq h.right t) }

pub returns-clause-others : goal.returns-clause-others
unfolding turned
returns-clause-others c =
    let m = c.self.inside in
    let h : RowHead = turned c.index_mut.result.now c.args.turned in
    subst (λ rs. IsOnlyChange c.args.row rs (rows_of (set m.heads.items c.args.row h) m.words m.apart)) c.self.view_is (right_only m.heads.items m.words m.apart c.args.row h)

pub returns-clause-row : goal.returns-clause-row
unfolding turned
returns-clause-row c = λ d.
    let m = c.self.inside in
    let h : RowHead = turned c.index_mut.result.now c.args.turned in
    let lt = head_within m.heads.items m.words m.apart c.args.self.now c.self.view_is c.args.row c.requires in
    let head : c.index_mut.result.now ≡ get_or m.heads.items c.args.row no_head = c.index_mut.ensures.value ∙ same_read m.heads.items c.args.row c.index_mut.result.now no_head lt in
    subst (λ rs. IsTurnedRow (λ j. false) c.args.turned (get_or rs c.args.row d) (get_or (rows_of (set m.heads.items c.args.row h) m.words m.apart) c.args.row d)) c.self.view_is
    (right_row m.heads.items m.words m.apart c.args.row h c.args.turned lt (
      ap (λ (r : RowHead). r.part) head,
      ap (λ (r : RowHead). r.split) head,
      differ-beq c.index_mut.result.now.right c.args.turned ∙ ap (λ (r : RowHead). differ r.right c.args.turned) head,
    ) d)

pub invariant_of-self : goal.invariant_of-self
unfolding turned
invariant_of-self c =
    let m = c.self.inside in
    let h : RowHead = turned c.index_mut.result.now c.args.turned in
    let lt = head_within m.heads.items m.words m.apart c.args.self.now c.self.view_is c.args.row c.requires in
    let head : c.index_mut.result.now ≡ get_or m.heads.items c.args.row no_head = c.index_mut.ensures.value ∙ same_read m.heads.items c.args.row c.index_mut.result.now no_head lt in
    tables_kept m.heads.items (set m.heads.items c.args.row h) m.words m.words m.apart m.apart c.self.invariant (length-set m.heads.items c.args.row h)
    (splits_kept m.heads.items c.args.row h lt (ap (λ (r : RowHead). r.split) head)) refl (λ i. refl) refl (λ i. refl)
