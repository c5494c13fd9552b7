-- The forms of the grammars of formulas, proofs and logs.
use Rattle.std.proofs.Common.{◌≡◌, ◌≢◌, refl, sym, ap, ◌∙◌, ℕ, zero, suc, ℤ, pos, negsuc, neg_ℤ, Bool, true, false, cond, eqb, List, [], ◌∷◌, arith, inl, inr}
use Rattle.std.specs.List.{AllByRecursion}
use Rattle.cx_base.specs.declared.id_moves.IdMove.{IdMove}
use Rattle.cx_base.specs.Literals.{Literal}
use Rattle.cx_base.specs.declared.constraint.Constraint.{Constraint}
use Rattle.cx_base.specs.declared.constraint.Constraint.TheVariants as constraint
use Rattle.cx_base.specs.declared.steps.ProofStep.{ProofStep}
use Rattle.cx_base.specs.declared.steps.ProofStep.TheVariants as proof
use Rattle.cx_base.specs.declared.steps.LogStep.{LogStep}
use Rattle.cx_base.specs.declared.steps.LogStep.TheVariants as log
use Rattle.cx_base.specs.declared.steps.LogEvent.{LogEvent}
use Rattle.cx_base.specs.declared.steps.LogEvent.TheVariants as events
use Rattle.cx_base.specs.Integers.{integer_of, integers_of, literal, literals}
use Rattle.cx_texts.specs.Words.{number, letter, conflict as conflict_word}
use Rattle.cx_texts.specs.Grammar.{Field, mark, conflict_line, id, integer, end, ids, integers, pairs, IsProper, Grammar}
use Rattle.cx_texts.specs.FormulaText.{constraints, constraint_fields}
use Rattle.cx_texts.specs.ProofText.{proof_steps, proof_fields}
use Rattle.cx_texts.specs.LogText.{log_steps, log_fields, log_events, event_fields}
use Rattle.cx_texts.proofs.Shapes.{a_mark, a_conflict, an_id, an_integer, an_end, some_ids, some_integers, some_pairs}
use Rattle.cx_texts.proofs.Forms.{Form, Forms}

-- ---- formulas

integer_of-literal : (z : ℤ) → integer_of (literal z) ≡ z
integer_of-literal (pos n) = refl
integer_of-literal (negsuc n) = refl

pub integers_of-literals : (zs : List ℤ) → integers_of (literals zs) ≡ zs
integers_of-literals [] = refl
integers_of-literals (z ∷ zs) = ap (λ y. y ∷ integers_of (literals zs)) (integer_of-literal z) ∙ ap (λ ys. z ∷ ys) (integers_of-literals zs)

literal_by : (x : ℕ) (b : Bool) → cond b (neg_ℤ (pos x)) (pos x) ≢ pos 0 → literal (cond b (neg_ℤ (pos x)) (pos x)) ≡ record { variable = x; negative = b }
literal_by zero true h = absurd (h refl)
literal_by zero false h = absurd (h refl)
literal_by (suc x) true h = refl
literal_by (suc x) false h = refl

pub literal-integer_of : (l : Literal) → integer_of l ≢ pos 0 → literal (integer_of l) ≡ l
literal-integer_of l h = literal_by l.variable l.negative h

pub literals-integers_of : (lits : List Literal) → AllByRecursion (λ z. z ≢ pos 0) (integers_of lits) → literals (integers_of lits) ≡ lits
literals-integers_of [] h = refl
literals-integers_of (l ∷ lits) h = ap (λ m. m ∷ literals (integers_of lits)) (literal-integer_of l h.0) ∙ ap (λ ms. l ∷ ms) (literals-integers_of lits h.1)

unfoldable clause_form : Form constraints
clause_form = record { kinds = some_integers ∷ []; make = λ v. constraint.Clause (literals v.0); is = λ v. ap (λ zs. integers zs ∷ []) (integers_of-literals v.0) }

unfoldable parity_form : Form constraints
parity_form = record { kinds = a_mark 120 ∷ some_integers ∷ []; make = λ v. constraint.Parity (literals v.1.0); is = λ v. ap (λ zs. mark 120 ∷ integers zs ∷ []) (integers_of-literals v.1.0) }

unfoldable assumption_form : Form constraints
assumption_form = record { kinds = a_mark 97 ∷ some_integers ∷ []; make = λ v. constraint.Assume (literals v.1.0); is = λ v. ap (λ zs. mark 97 ∷ integers zs ∷ []) (integers_of-literals v.1.0) }

pub constraint_from : List Field → Constraint
constraint_from (integers zs ∷ []) = constraint.Clause (literals zs)
constraint_from (mark c ∷ integers zs ∷ []) = cond (eqb c 120) (constraint.Parity (literals zs)) (constraint.Assume (literals zs))
constraint_from _ = constraint.Clause []

pub from_constraint : (s : Constraint) → AllByRecursion IsProper (constraint_fields s) → constraint_from (constraint_fields s) ≡ s
unfolding constraint_from
from_constraint (constraint.Clause lits) h = ap constraint.Clause (literals-integers_of lits h.0)
from_constraint (constraint.Parity lits) h = ap constraint.Parity (literals-integers_of lits h.1.0)
from_constraint (constraint.Assume lits) h = ap constraint.Assume (literals-integers_of lits h.1.0)

unfoldable pub constraint_forms : Forms constraints
unfolding clause_form parity_form assumption_form
constraint_forms = record {
  forms = clause_form ∷ parity_form ∷ assumption_form ∷ [];
  covers = elim [ constraint.Clause lits ↦ inl refl | constraint.Parity lits ↦ inr (inl refl) | constraint.Assume lits ↦ inr (inr (inl refl)) ];
  apart = refl;
  one_step = λ s t h k e. sym (from_constraint s h) ∙ ap constraint_from e ∙ from_constraint t k;
  begins = (constraint.Clause [], number (pos 0) ∷ [], ((tt, tt), refl));
  some_field = elim [ constraint.Clause lits ↦ λ e. cc | constraint.Parity lits ↦ λ e. cc | constraint.Assume lits ↦ λ e. cc ];
}

-- ---- proofs

unfoldable form_1 : Form proof_steps
form_1 = record { kinds = an_id ∷ some_integers ∷ some_integers ∷ []; make = λ v. proof.Clause v.0 v.1.0 v.1.1.0; is = λ v. refl }

unfoldable form_2 : Form proof_steps
form_2 = record { kinds = an_id ∷ a_mark 100 ∷ some_ids ∷ []; make = λ v. proof.DeleteClauses v.0 v.1.1.0; is = λ v. refl }

unfoldable form_3 : Form proof_steps
form_3 = record { kinds = a_mark 120 ∷ an_id ∷ some_integers ∷ some_integers ∷ []; make = λ v. proof.Parity v.1.0 v.1.1.0 v.1.1.1.0; is = λ v. refl }

unfoldable form_4 : Form proof_steps
form_4 = record { kinds = a_mark 120 ∷ a_mark 100 ∷ some_ids ∷ []; make = λ v. proof.DeleteParities v.1.1.0; is = λ v. refl }

unfoldable form_5 : Form proof_steps
form_5 = record { kinds = a_mark 105 ∷ an_id ∷ some_integers ∷ an_integer ∷ an_end ∷ []; make = λ v. proof.ClauseOfParity v.1.0 v.1.1.0 v.1.1.1.0; is = λ v. refl }

unfoldable form_6 : Form proof_steps
form_6 = record { kinds = a_mark 105 ∷ a_mark 120 ∷ an_id ∷ some_integers ∷ some_integers ∷ []; make = λ v. proof.ParityOfClauses v.1.1.0 v.1.1.1.0 v.1.1.1.1.0; is = λ v. refl }

pub step_from : List Field → ProofStep
step_from (id n ∷ integers lits ∷ integers hints ∷ []) = proof.Clause n lits hints
step_from (id n ∷ mark c ∷ ids names ∷ []) = proof.DeleteClauses n names
step_from (mark c ∷ id n ∷ integers lits ∷ integers hints ∷ []) = proof.Parity n lits hints
step_from (mark c ∷ mark d ∷ ids names ∷ []) = proof.DeleteParities names
step_from (mark c ∷ id n ∷ integers lits ∷ integer hint ∷ end ∷ []) = proof.ClauseOfParity n lits hint
step_from (mark c ∷ mark d ∷ id n ∷ integers lits ∷ integers hints ∷ []) = proof.ParityOfClauses n lits hints
step_from _ = proof.DeleteParities []

pub from_step : (s : ProofStep) → step_from (proof_fields s) ≡ s
unfolding step_from
from_step (proof.Clause n lits hints) = refl
from_step (proof.DeleteClauses n names) = refl
from_step (proof.Parity n lits hints) = refl
from_step (proof.DeleteParities names) = refl
from_step (proof.ClauseOfParity n lits hint) = refl
from_step (proof.ParityOfClauses n lits hints) = refl

unfoldable pub proof_forms : Forms proof_steps
unfolding form_1 form_2 form_3 form_4 form_5 form_6
proof_forms = record {
  forms = form_1 ∷ form_2 ∷ form_3 ∷ form_4 ∷ form_5 ∷ form_6 ∷ [];
  covers = elim [
    | proof.Clause n lits hints ↦ inl refl
    | proof.DeleteClauses n names ↦ inr (inl refl)
    | proof.Parity n lits hints ↦ inr (inr (inl refl))
    | proof.DeleteParities names ↦ inr (inr (inr (inl refl)))
    | proof.ClauseOfParity n lits hint ↦ inr (inr (inr (inr (inl refl))))
    | proof.ParityOfClauses n lits hints ↦ inr (inr (inr (inr (inr (inl refl)))))
  ];
  apart = refl;
  one_step = λ s t h k e. sym (from_step s) ∙ ap step_from e ∙ from_step t;
  begins = (proof.DeleteParities [], letter 120 ∷ letter 100 ∷ number (pos 0) ∷ [], ((tt, (tt, (tt, tt))), refl));
  some_field = elim [
    | proof.Clause n lits hints ↦ λ e. cc
    | proof.DeleteClauses n names ↦ λ e. cc
    | proof.Parity n lits hints ↦ λ e. cc
    | proof.DeleteParities names ↦ λ e. cc
    | proof.ClauseOfParity n lits hint ↦ λ e. cc
    | proof.ParityOfClauses n lits hints ↦ λ e. cc
  ];
}

-- ---- logs and their events

module _ {S : Type 0} (g : Grammar S) (of : LogStep → S) (same : (s : LogStep) → g.fields (of s) ≡ log_fields s) where
  unfoldable plain : (c : ℕ) (make : ℕ → List ℤ → LogStep) → ((n : ℕ) (lits : List ℤ) → log_fields (make n lits) ≡ mark c ∷ id n ∷ integers lits ∷ []) → Form g
  plain c make is = record { kinds = a_mark c ∷ an_id ∷ some_integers ∷ []; make = λ v. of (make v.1.0 v.1.1.0); is = λ v. same _ ∙ is v.1.0 v.1.1.0 }

  unfoldable of_parity : (c : ℕ) (make : ℕ → List ℤ → LogStep) → ((n : ℕ) (lits : List ℤ) → log_fields (make n lits) ≡ mark c ∷ mark 120 ∷ id n ∷ integers lits ∷ []) → Form g
  of_parity c make is = record { kinds = a_mark c ∷ a_mark 120 ∷ an_id ∷ some_integers ∷ []; make = λ v. of (make v.1.1.0 v.1.1.1.0); is = λ v. same _ ∙ is v.1.1.0 v.1.1.1.0 }

  unfoldable with_sources : (c : ℕ) (make : ℕ → List ℤ → List ℕ → LogStep) → ((n : ℕ) (lits : List ℤ) (ns : List ℕ) → log_fields (make n lits ns) ≡ mark c ∷ mark 120 ∷ id n ∷ integers lits ∷ mark 108 ∷ ids ns ∷ []) → Form g
  with_sources c make is = record { kinds = a_mark c ∷ a_mark 120 ∷ an_id ∷ some_integers ∷ a_mark 108 ∷ some_ids ∷ []; make = λ v. of (make v.1.1.0 v.1.1.1.0 v.1.1.1.1.1.0); is = λ v. same _ ∙ is _ _ _ }

  unfoldable with_hints : Form g
  with_hints = record { kinds = a_mark 97 ∷ an_id ∷ some_integers ∷ a_mark 108 ∷ some_integers ∷ []; make = λ v. of (log.ClauseWithHints v.1.0 v.1.1.0 v.1.1.1.1.0); is = λ v. same _ }

  unfoldable with_source : Form g
  with_source = record { kinds = a_mark 105 ∷ an_id ∷ some_integers ∷ a_mark 108 ∷ an_id ∷ an_end ∷ []; make = λ v. of (log.ClauseOfParity v.1.0 v.1.1.0 v.1.1.1.1.0); is = λ v. same _ }

  unfoldable clause_moves : Form g
  clause_moves = record { kinds = a_mark 114 ∷ some_pairs ∷ []; make = λ v. of (log.MoveClauses v.1.0); is = λ v. same _ }

  unfoldable parity_moves : Form g
  parity_moves = record { kinds = a_mark 114 ∷ a_mark 120 ∷ some_pairs ∷ []; make = λ v. of (log.MoveParities v.1.1.0); is = λ v. same _ }

  unfoldable forms_of_log : List (Form g)
  unfolding plain of_parity with_sources with_hints with_source clause_moves parity_moves
  forms_of_log =
      plain 111 log.Original (λ n lits. refl)
      ∷ of_parity 111 log.OriginalParity (λ n lits. refl)
      ∷ plain 97 log.Clause (λ n lits. refl)
      ∷ with_hints
      ∷ with_sources 97 log.Parity (λ n lits ns. refl)
      ∷ with_source
      ∷ with_sources 105 log.ParityOfClauses (λ n lits ns. refl)
      ∷ plain 100 log.Delete (λ n lits. refl)
      ∷ of_parity 100 log.DeleteParity (λ n lits. refl)
      ∷ plain 102 log.Final (λ n lits. refl)
      ∷ of_parity 102 log.FinalParity (λ n lits. refl)
      ∷ clause_moves
      ∷ parity_moves
      ∷ []

plain_from : ℕ → ℕ → List ℤ → LogStep
plain_from c n lits = cond (eqb c 111) (log.Original n lits) (cond (eqb c 97) (log.Clause n lits) (cond (eqb c 100) (log.Delete n lits) (log.Final n lits)))

parity_from : ℕ → ℕ → List ℤ → LogStep
parity_from c n lits = cond (eqb c 111) (log.OriginalParity n lits) (cond (eqb c 100) (log.DeleteParity n lits) (log.FinalParity n lits))

sources_from : ℕ → ℕ → List ℤ → List ℕ → LogStep
sources_from c n lits ns = cond (eqb c 97) (log.Parity n lits ns) (log.ParityOfClauses n lits ns)

pub log_from : List Field → LogStep
log_from (mark c ∷ id n ∷ integers lits ∷ []) = plain_from c n lits
log_from (mark c ∷ mark d ∷ id n ∷ integers lits ∷ []) = parity_from c n lits
log_from (mark c ∷ id n ∷ integers lits ∷ mark e ∷ integers hints ∷ []) = log.ClauseWithHints n lits hints
log_from (mark c ∷ mark d ∷ id n ∷ integers lits ∷ mark e ∷ ids ns ∷ []) = sources_from c n lits ns
log_from (mark c ∷ id n ∷ integers lits ∷ mark e ∷ id m ∷ end ∷ []) = log.ClauseOfParity n lits m
log_from (mark c ∷ pairs ms ∷ []) = log.MoveClauses ms
log_from (mark c ∷ mark d ∷ pairs ms ∷ []) = log.MoveParities ms
log_from _ = log.Final 0 []

pub from_log : (s : LogStep) → log_from (log_fields s) ≡ s
unfolding log_from plain_from parity_from sources_from
from_log (log.Original n lits) = refl
from_log (log.OriginalParity n lits) = refl
from_log (log.Clause n lits) = refl
from_log (log.ClauseWithHints n lits hints) = refl
from_log (log.Parity n lits sources) = refl
from_log (log.ClauseOfParity n lits source) = refl
from_log (log.ParityOfClauses n lits sources) = refl
from_log (log.Delete n lits) = refl
from_log (log.DeleteParity n lits) = refl
from_log (log.Final n lits) = refl
from_log (log.FinalParity n lits) = refl
from_log (log.MoveClauses ms) = refl
from_log (log.MoveParities ms) = refl

pub some_log_field : (s : LogStep) → log_fields s ≢ []
some_log_field (log.Original n lits) e = cc
some_log_field (log.OriginalParity n lits) e = cc
some_log_field (log.Clause n lits) e = cc
some_log_field (log.ClauseWithHints n lits hints) e = cc
some_log_field (log.Parity n lits sources) e = cc
some_log_field (log.ClauseOfParity n lits source) e = cc
some_log_field (log.ParityOfClauses n lits sources) e = cc
some_log_field (log.Delete n lits) e = cc
some_log_field (log.DeleteParity n lits) e = cc
some_log_field (log.Final n lits) e = cc
some_log_field (log.FinalParity n lits) e = cc
some_log_field (log.MoveClauses ms) e = cc
some_log_field (log.MoveParities ms) e = cc

unfoldable pub log_forms : Forms log_steps
unfolding forms_of_log
log_forms = record {
  forms = forms_of_log log_steps (λ s. s) (λ s. refl);
  covers = elim [
    | log.Original n lits ↦ inl refl
    | log.OriginalParity n lits ↦ inr (inl refl)
    | log.Clause n lits ↦ inr (inr (inl refl))
    | log.ClauseWithHints n lits hints ↦ inr (inr (inr (inl refl)))
    | log.Parity n lits sources ↦ inr (inr (inr (inr (inl refl))))
    | log.ClauseOfParity n lits source ↦ inr (inr (inr (inr (inr (inl refl)))))
    | log.ParityOfClauses n lits sources ↦ inr (inr (inr (inr (inr (inr (inl refl))))))
    | log.Delete n lits ↦ inr (inr (inr (inr (inr (inr (inr (inl refl)))))))
    | log.DeleteParity n lits ↦ inr (inr (inr (inr (inr (inr (inr (inr (inl refl))))))))
    | log.Final n lits ↦ inr (inr (inr (inr (inr (inr (inr (inr (inr (inl refl)))))))))
    | log.FinalParity n lits ↦ inr (inr (inr (inr (inr (inr (inr (inr (inr (inr (inl refl))))))))))
    | log.MoveClauses ms ↦ inr (inr (inr (inr (inr (inr (inr (inr (inr (inr (inr (inl refl)))))))))))
    | log.MoveParities ms ↦ inr (inr (inr (inr (inr (inr (inr (inr (inr (inr (inr (inr (inl refl))))))))))))
  ];
  apart = refl;
  one_step = λ s t h k e. sym (from_log s) ∙ ap log_from e ∙ from_log t;
  begins = (log.Delete 1 [], letter 100 ∷ number (pos 1) ∷ number (pos 0) ∷ [], ((tt, (omega arith, (tt, tt))), refl));
  some_field = some_log_field;
}

unfoldable conflict_form : Form log_events
conflict_form = record { kinds = a_conflict ∷ []; make = λ v. events.Conflict v.0; is = λ v. refl }

pub event_from : List Field → LogEvent
event_from (conflict_line k ∷ []) = events.Conflict k
event_from (mark c ∷ fs) = events.Step (log_from (mark c ∷ fs))
event_from _ = events.Conflict 0

pub from_event : (e : LogEvent) → event_from (event_fields e) ≡ e
unfolding event_from
from_event (events.Conflict k) = refl
from_event (events.Step (log.Original n lits)) = ap events.Step (from_log (log.Original n lits))
from_event (events.Step (log.OriginalParity n lits)) = ap events.Step (from_log (log.OriginalParity n lits))
from_event (events.Step (log.Clause n lits)) = ap events.Step (from_log (log.Clause n lits))
from_event (events.Step (log.ClauseWithHints n lits hints)) = ap events.Step (from_log (log.ClauseWithHints n lits hints))
from_event (events.Step (log.Parity n lits sources)) = ap events.Step (from_log (log.Parity n lits sources))
from_event (events.Step (log.ClauseOfParity n lits source)) = ap events.Step (from_log (log.ClauseOfParity n lits source))
from_event (events.Step (log.ParityOfClauses n lits sources)) = ap events.Step (from_log (log.ParityOfClauses n lits sources))
from_event (events.Step (log.Delete n lits)) = ap events.Step (from_log (log.Delete n lits))
from_event (events.Step (log.DeleteParity n lits)) = ap events.Step (from_log (log.DeleteParity n lits))
from_event (events.Step (log.Final n lits)) = ap events.Step (from_log (log.Final n lits))
from_event (events.Step (log.FinalParity n lits)) = ap events.Step (from_log (log.FinalParity n lits))
from_event (events.Step (log.MoveClauses ms)) = ap events.Step (from_log (log.MoveClauses ms))
from_event (events.Step (log.MoveParities ms)) = ap events.Step (from_log (log.MoveParities ms))

unfoldable pub event_forms : Forms log_events
unfolding forms_of_log conflict_form
event_forms = record {
  forms = conflict_form ∷ forms_of_log log_events events.Step (λ s. refl);
  covers = elim [
    | events.Conflict k ↦ inl refl
    | events.Step (log.Original n lits) ↦ inr (inl refl)
    | events.Step (log.OriginalParity n lits) ↦ inr (inr (inl refl))
    | events.Step (log.Clause n lits) ↦ inr (inr (inr (inl refl)))
    | events.Step (log.ClauseWithHints n lits hints) ↦ inr (inr (inr (inr (inl refl))))
    | events.Step (log.Parity n lits sources) ↦ inr (inr (inr (inr (inr (inl refl)))))
    | events.Step (log.ClauseOfParity n lits source) ↦ inr (inr (inr (inr (inr (inr (inl refl))))))
    | events.Step (log.ParityOfClauses n lits sources) ↦ inr (inr (inr (inr (inr (inr (inr (inl refl)))))))
    | events.Step (log.Delete n lits) ↦ inr (inr (inr (inr (inr (inr (inr (inr (inl refl))))))))
    | events.Step (log.DeleteParity n lits) ↦ inr (inr (inr (inr (inr (inr (inr (inr (inr (inl refl)))))))))
    | events.Step (log.Final n lits) ↦ inr (inr (inr (inr (inr (inr (inr (inr (inr (inr (inl refl))))))))))
    | events.Step (log.FinalParity n lits) ↦ inr (inr (inr (inr (inr (inr (inr (inr (inr (inr (inr (inl refl)))))))))))
    | events.Step (log.MoveClauses ms) ↦ inr (inr (inr (inr (inr (inr (inr (inr (inr (inr (inr (inr (inl refl))))))))))))
    | events.Step (log.MoveParities ms) ↦ inr (inr (inr (inr (inr (inr (inr (inr (inr (inr (inr (inr (inr (inl refl)))))))))))))
  ];
  apart = refl;
  one_step = λ s t h k e. sym (from_event s) ∙ ap event_from e ∙ from_event t;
  begins = (events.Conflict 1, conflict_word 1 ∷ [], ((tt, tt), refl));
  some_field = elim [ events.Conflict k ↦ λ e. cc | events.Step s ↦ some_log_field s ];
}
