use Rattle.std.proofs.Common.{◌≡◌, refl, subst, inl, inr}
use Rattle.std.specs.Prelude.{IfOk}
use Rattle.cdcl_core.specs.Concluding.{IsByClause}
use Rattle.cdcl_core.specs.Shortening.{AreShort}
use Rattle.cdcl_core.proofs.FailLaws.{fails_by}
use Rattle.cdcl_core.proofs.RefutedLaws.{on_answer}
use Rattle.cdcl_core.proofs.ShortLaws.{none_left_true}
use Rattle.cdcl_core.proofs.rounds.Run.end.Goals as goal

pub fail-requires-clause-fails : goal.fail-requires-clause-fails
fail-requires-clause-fails g c =
    let k = rw c.in-Clause.is at c.requires.concludes in
    fails_by c.args.self.now.log.now.formula.now.constraints c.args.self.now.state.now c.in-Clause.conflict.lits c.in-Clause.conflict.id c.args.kept c.args.below c.in-Clause.conflict.rows k.1 c.requires.at

pub returns-in-Clause-clause-none : goal.returns-in-Clause-clause-none
returns-in-Clause-clause-none g c = λ by kept level. c.fail.ensures.none kept level

pub returns-in-Ending-clause-none : goal.returns-in-Ending-clause-none
returns-in-Ending-clause-none g c = λ by kept level. elim by [
  | inl of ↦ absurd (subst IsByClause c.in-Ending.is of)
  | inr all ↦ subst (λ none. IfOk c.tell_ending.result (λ failed. failed ≡ none))
      (none_left_true c.args.self.now.state.now c.in-Ending.ending.failed all (subst (λ k. AreShort c.args.self.now.state.now k c.in-Ending.ending.failed) kept (rw c.in-Ending.is at c.requires.concludes).2)) c.tell_ending.ensures.failed
]

pub fail-requires-clause-ready : goal.fail-requires-clause-ready
fail-requires-clause-ready g c = record { stands = (rw c.in-Clause.is at c.requires.concludes).0; clear = c.requires.clear; going = c.requires.going }

pub returns-in-Clause-clause-ends : goal.returns-in-Clause-clause-ends
returns-in-Clause-clause-ends g c = record { ends = c.fail.ensures.ends; clear = c.fail.ensures.clear; same = record { log = refl; state = refl; engine = refl; budget = refl } }

pub returns-in-Ending-clause-ends : goal.returns-in-Ending-clause-ends
returns-in-Ending-clause-ends g c = record { ends = c.tell_ending.ensures.ends; clear = on_answer c.tell_ending.result c.requires.clear; same = record { log = refl; state = refl; engine = refl; budget = refl } }
