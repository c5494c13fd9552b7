use Rattle.std.proofs.Common.{◌≡◌, ℕ, ◌-◌, ◌<◌, Bool, true, false, List, length, get_or, set, ap, ◌∙◌, arith, inl, inr}
use Rattle.std.proofs.lemmas.List.{get_or-set_same, get_or-set_other, length-set}
use Rattle.std.proofs.lemmas.Bool.{cases_eq}
use Rattle.parity_engine.proofs.Rising.{column-low, column-high}
use Rattle.gf2_lists.proofs.columns.mark_list.Goals as goal

pub overflow_sub-marks : goal.overflow_sub-marks
overflow_sub-marks c = column-low 1 (length c.args.marks.now) c.args.vars.now c.loop-var.var-index c.requires c.loop-var-test.true

pub bounds-marks-var : goal.bounds-marks-var
bounds-marks-var c =
    let low = column-low 1 (length c.args.marks.now) c.args.vars.now c.loop-var.var-index c.requires c.loop-var-test.true in
    let high = column-high 1 (length c.args.marks.now) c.args.vars.now c.loop-var.var-index c.requires c.loop-var-test.true in
    let long = c.loop-var.invariant.0 in
    omega arith

stays : (marks : List Bool) (at x : ℕ) → at < length marks → get_or marks x false ≡ true → get_or (set marks at true) x false ≡ true
stays marks at x lt on =
    elim (cases_eq x at) [
      | inl same ↦ ap (λ (j : ℕ). get_or (set marks at true) j false) same ∙ get_or-set_same marks at true false lt
      | inr other ↦ get_or-set_other marks at x true false other ∙ on
    ]

pub loop-var-preserved : goal.loop-var-preserved
loop-var-preserved c =
    let vars = c.args.vars.now in
    let i = c.loop-var.var-index in
    let marks = c.loop-var.marks in
    let low = column-low 1 (length c.args.marks.now) vars i c.requires c.loop-var-test.true in
    let high = column-high 1 (length c.args.marks.now) vars i c.requires c.loop-var-test.true in
    let long = c.loop-var.invariant.0 in
    let lt : get_or vars i 0 - 1 < length marks = omega arith in (
      length-set marks (get_or vars i 0 - 1) true ∙ long,
      λ x on. stays marks (get_or vars i 0 - 1) x lt (c.loop-var.invariant.1 x on),
      λ j j_lt.
          elim (cases_eq j i) [
            | inl same ↦ ap (λ (k : ℕ). get_or (set marks (get_or vars i 0 - 1) true) (get_or vars k 0 - 1) false) same ∙ get_or-set_same marks (get_or vars i 0 - 1) true false lt
            | inr other ↦ stays marks (get_or vars i 0 - 1) (get_or vars j 0 - 1) lt (c.loop-var.invariant.2 j (omega arith))
          ],
    )
