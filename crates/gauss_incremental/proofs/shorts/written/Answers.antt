use Rattle.std.proofs.Common.{◌∙◌, get_or, sym, ap, List, set}
use Rattle.cx_base.specs.Literals.{Literal, negate}
use Rattle.gauss_incremental.proofs.ShortMaking.{negative_written, positive_written}
use Rattle.gauss_incremental.proofs.shorts.written.Goals as goal
use Rattle.gauss_incremental.proofs.shorts.written.Goals.{then-is_odd, else-is_odd}

pub returns : goal.returns
returns c =
    let ordered = c.args.ordered.now in
    elim c.if-is_odd.branch [
      | then-is_odd w ↦
          negative_written ordered c.from_vec.result w.index.result.now c.requires (sym c.is_odd.ensures ∙ w.if-is_odd.true)
          (w.index.ensures ∙ ap (λ (ls : List Literal). get_or ls 0 w.index.result.now) c.in_ok-lits.ensures)
          (c.from_vec.ensures ∙ ap (λ v. v.items) w.lits-is ∙ ap (set c.in_ok-lits.lits.items 0) w.negate.ensures
          ∙ ap (λ (ls : List Literal). set ls 0 (negate w.index.result.now)) c.in_ok-lits.ensures)
      | else-is_odd w ↦ positive_written ordered c.from_vec.result c.requires (sym c.is_odd.ensures ∙ w.if-is_odd.false) (c.from_vec.ensures ∙ ap (λ v. v.items) w.lits-is ∙ c.in_ok-lits.ensures)
    ]
