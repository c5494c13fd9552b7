use Rattle.std.proofs.Common.{◌∙◌, ap, subst}
use Rattle.cx_semantics.specs.LogRules.{moving}
use Rattle.cx_semantics.specs.Moves.{moved}
use Rattle.cx_semantics.specs.Tables.{Table}
use Rattle.proof_rules.specs.FirstLists.{behind}
use Rattle.proof_rules.specs.Judges.{JudgesBy}
use Rattle.proof_rules.proofs.MovingLaws.{on_ok}
use Rattle.proof_rules.proofs.TableLaws.{moved_behind, judged_behind}
use Rattle.proof_rules.proofs.table.LiveTable.judge_and_move.Goals as goal

pub returns-clause-judged : goal.returns-clause-judged
returns-clause-judged c =
    let moves = c.args.moves.now in
    let result = c.judge_and_move.result in
    let judged = judged_behind c.copy_moved.new.first c.copy_moved.new.lists moves result c.in_ok-copy_moved.ensures.none c.judge_and_move.ensures.judged in
    subst (λ (t : Table). JudgesBy (moving t moves) result) (c.in_ok-copy_moved.ensures.same ∙ c.self.view_is) judged

pub returns-clause-moved : goal.returns-clause-moved
returns-clause-moved c =
    let moves = c.args.moves.now in
    on_ok c.judge_and_move.result (λ done.
    ap (behind c.copy_moved.new.first) done ∙ moved_behind c.copy_moved.new.first c.copy_moved.new.lists moves c.in_ok-copy_moved.ensures.none
    ∙ ap (λ (t : Table). moved t moves) (c.in_ok-copy_moved.ensures.same ∙ c.self.view_is)) c.judge_and_move.ensures.moved
