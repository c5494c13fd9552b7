use Rattle.std.proofs.Common.{refl}
use Rattle.fratx_elab.proofs.TakingMoves.{takes_lent_parity_moves}
use Rattle.fratx_elab.proofs.moving.move_parities.Goals as goal

pub returns-clause-taken : goal.returns-clause-taken
returns-clause-taken c = λ formula.
    let state = c.args.state.now in
    takes_lent_parity_moves formula state (record { live = _; clauses = _; parities = _; marks = state.marks; spare = state.spare }) c.args.moves _ _ c.as_slice.ensures c.as_slice-2.ensures
    c.in_ok-judge_and_move.ensures.right c.in_ok-judge_and_move.ensures.moved refl c.in_ok-move_all.ensures
