use Rattle.std.proofs.Common.{◌∙◌, ◌<◌, refl, sym, ap, subst, Option, Some, Err}
use Rattle.cx_desk.specs.SlotBytes.{taken_by}
use Rattle.step_text.specs.Texts.{is_spent_by}
use Rattle.step_text.specs.Slots.{SlotState, IsPossible}
use Rattle.step_text.specs.SlotAnswers.{Narrows}
use Rattle.step_text.proofs.AnswerLaws.{stuck_gives, stuck_counts, stuck_long, took_of, refused_gives}
use Rattle.step_text.proofs.SlotLaws.{kept_itself}
use Rattle.step_text.proofs.slot_reader.SlotReader.next_from.Goals as goal

pub returns-in-Some-clause-texts : goal.returns-in-Some-clause-texts
returns-in-Some-clause-texts g c = λ text may. record {
  step = stuck_gives g.G.StepGrammar.steps c.args.self.now (g.D.Desk.outside c.args.desk.now) text may c.in-Some.refusal (sym (ap (λ (s : SlotState). s.refused) c.self.view_is) ∙ c.in-Some.is);
  narrows = (
    may,
    refl,
    stuck_long g.G.StepGrammar.steps c.args.self.now (g.D.Desk.outside c.args.desk.now) text c.in-Some.refusal
        (λ is. subst (λ (s : SlotState). s.bytes.limit < taken_by s.bytes) c.self.view_is (c.self.invariant.4 (c.in-Some.is ∙ ap Some is))),
  );
}

pub returns-in-Some-clause-reads : goal.returns-in-Some-clause-reads
returns-in-Some-clause-reads g c =
    let refused = sym (ap (λ (s : SlotState). s.refused) c.self.view_is) ∙ c.in-Some.is in
    let o = g.D.Desk.outside c.args.desk.now in
    let s = c.args.self.now.bytes in
    let counted = stuck_counts g.G.StepGrammar.steps s o c.in-Some.refusal (ap is_spent_by (sym refused) ∙ c.requires.fresh) in
    record {
      kept = kept_itself s o;
      took = took_of {T = Option g.row.G-Step.Denot} s o (Err c.in-Some.refusal) s o counted;
      counted = counted;
    }

pub returns-in-Ok-clause-texts : goal.returns-in-Ok-clause-texts
returns-in-Ok-clause-texts g c = λ text may. record { step = c.in-Ok.ensures.gives text may; narrows = c.in-Ok.ensures.narrows text may }

pub returns-in-Err-clause-texts : goal.returns-in-Err-clause-texts
returns-in-Err-clause-texts g c = λ text may.
    let old = g.D.Desk.outside c.args.desk.now in
    let new = g.D.Desk.outside c.find.new.desk in
    let found = subst (λ (x : SlotState). IsPossible x.bytes new text) c.self-2.view_is may in
    record {
      step = refused_gives g.G.StepGrammar.steps c.args.self.now old c.find.new.self new text c.in-Err.refusal _ (c.in-Err.ensures.gives text found) may refl;
      narrows = subst (λ (x : SlotState). Narrows {S = g.row.G-Step.Denot} c.args.self.now.bytes old (Err c.in-Err.refusal) x.bytes new text) (sym c.self-2.view_is) (c.in-Err.ensures.narrows text found);
    }
