use Rattle.std.proofs.Common.{◌∙◌, ap, sym, subst}
use Rattle.cx_semantics.specs.LogRules.{moving}
use Rattle.cx_semantics.specs.Moves.{moved}
use Rattle.cx_semantics.specs.Tables.{Table}
use Rattle.proof_rules.specs.Judges.{JudgesBy}
use Rattle.proof_rules.specs.KeptLists.{AreWithin, kept_in}
use Rattle.proof_rules.specs.Moving.{moving_in}
use Rattle.proof_rules.proofs.KeptLaws.{Spans, AreWithin-empty, AreWithin-moved, kept_in-moved, judged-kept_in}
use Rattle.proof_rules.proofs.MovingLaws.{of_ok, on_ok, by_err}
use Rattle.proof_rules.proofs.kept.KeptLists.judge_and_move.Goals.{then-is_ok, else-is_ok}
use Rattle.proof_rules.proofs.kept.KeptLists.judge_and_move.Goals as goal

pub invariant_of-self : goal.invariant_of-self
invariant_of-self c =
    let lits = c.self.inside.lits.items in
    let moves = c.args.moves.now in
    let done = of_ok c.judge_and_move-judged.result (sym c.is_ok.ensures.value ∙ c.if-is_ok.true) c.judge_and_move-judged.ensures.moved in
    let is = done ∙ ap (λ (t : Spans). moved t moves) c.replace-spans.ensures.value in
    subst (AreWithin lits) (sym is) (AreWithin-moved lits c.self.inside.spans moves c.self.invariant)

pub invariant_of-self-else-is_ok : goal.invariant_of-self-else-is_ok
invariant_of-self-else-is_ok c =
    let lits = c.self.inside.lits.items in
    subst (AreWithin lits) (sym (c.replace-spans.ensures.after ∙ c.new.ensures)) (AreWithin-empty lits)

pub returns-clause-judged : goal.returns-clause-judged
returns-clause-judged c =
    let lits = c.self.inside.lits.items in
    let moves = c.args.moves.now in
    let result = c.judge_and_move-judged.result in
    let judged = subst (λ (t : Spans). JudgesBy (moving_in t moves) result) c.replace-spans.ensures.value c.judge_and_move-judged.ensures.judged in
    subst (λ (t : Table). JudgesBy (moving t moves) result) c.self.view_is (judged-kept_in lits c.self.inside.spans moves result judged)

pub returns-clause-moved : goal.returns-clause-moved
returns-clause-moved c =
    let lits = c.self.inside.lits.items in
    let moves = c.args.moves.now in
    elim c.if-is_ok.branch [
      | then-is_ok w ↦
          on_ok c.judge_and_move-judged.result (λ done.
          w.self-is ∙ ap (kept_in lits) (done ∙ ap (λ (t : Spans). moved t moves) c.replace-spans.ensures.value)
          ∙ kept_in-moved lits c.self.inside.spans moves ∙ ap (λ (t : Table). moved t moves) c.self.view_is) c.judge_and_move-judged.ensures.moved
      | else-is_ok w ↦ by_err _ c.judge_and_move-judged.result (sym c.is_ok.ensures.value ∙ w.if-is_ok.false)
    ]
