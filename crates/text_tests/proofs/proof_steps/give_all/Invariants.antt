use Rattle.std.proofs.Common.{◌≡◌, false}
use Rattle.step_text.specs.Texts.{is_spent_by}
use Rattle.text_tests.proofs.proof_steps.give_all.Given as goal

abbrev pub invariant-loop-taken : goal.invariant-loop-taken
invariant-loop-taken g l = record {
  fresh : is_spent_by l.source.refused ≡ false;
  going : g.S.Sink.has_failed l.sink ≡ false;
}
