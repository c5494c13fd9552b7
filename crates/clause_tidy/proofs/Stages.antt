-- Stages of a tidying.
use Rattle.std.proofs.Common.{refl, sym, ap, ◌∙◌, subst, ℕ, List, [], ◌∷◌, ◌++◌, Option, Some, None, Result, Ok, append_assoc, length-append, arith}
use Rattle.cx_base.specs.Literals.{Literal}
use Rattle.cx_base.specs.Problem.{Problem}
use Rattle.cx_base.specs.declared.steps.LogEvent.{LogEvent}
use Rattle.cx_base.specs.declared.steps.LogStep.{LogStep}
use Rattle.clause_arena.specs.Clauses.{ArenaState, literals_at}
use Rattle.step_text.specs.declared.sink.Sink as sink
use Rattle.step_text.specs.declared.sink.SinkFault.{SinkFault}
use Rattle.clause_tidy.specs.Agreeing.{AreProper, IsStepId}
use Rattle.clause_tidy.specs.Answers.{TidiesOn, MendsTo, EndsFrom, HasNoTautology}
use Rattle.clause_tidy.specs.Derived.{IsDerived}
use Rattle.clause_tidy.specs.Tidying.{IsClauseOf, Tidies}
use Rattle.clause_tidy.proofs.Composing.{derived_through, nothing_tidied, tidied_on}
use Rattle.clause_tidy.proofs.Events.{no_more}
use Rattle.tidy_rules.proofs.InsideLaws.{no_tautology_inside}
use Rattle.clause_tidy.proofs.RunLaws.{run_on}
use Rattle.clause_tidy.proofs.Spelling.{within_part}
use Rattle.clause_tidy.proofs.Tellings.{goes_on}

-- ---- what stays
pub free_on : (formula : Problem) (spare : ℕ) (a b : ArenaState) (ss : List LogStep) → Tidies formula spare a b ss → HasNoTautology a → HasNoTautology b
free_on formula spare a b ss h none q l = let p = h.parts q l in no_tautology_inside (literals_at b q) (literals_at a p.r) p.inside (none p.r p.live)

pub proper_on : (formula : Problem) (spare : ℕ) (a b : ArenaState) (ss : List LogStep) → Tidies formula spare a b ss → AreProper formula a → AreProper formula b
proper_on formula spare a b ss h proper = record {
  variables = λ q l. let p = h.parts q l in within_part formula.variables (literals_at b q) (literals_at a p.r) p.inside (proper.variables p.r p.live);
  ids = λ q l. let p = h.parts q l in subst IsStepId (sym p.same) (proper.ids p.r p.live);
}

-- ---- up to here the arena was tidied
abbrev pub IsStage : {L : Type 0} → sink.Ghosts L LogEvent → Problem → ℕ → ArenaState → L → ArenaState → L → Type 0
IsStage m formula spare a first b now = TidiesOn {T = Unit {0}} m formula spare a first (Ok tt) (λ _. Tidies formula spare a b) now

pub first_stage : {L : Type 0} (m : sink.Ghosts L LogEvent) (formula : Problem) (spare : ℕ) (a : ArenaState) (first : L) → m.keeps first first → IsStage m formula spare a first a first
first_stage m formula spare a first keeps = record { steps = []; told = sym (no_more (m.items first)); own = tt; done = nothing_tidied formula spare a; left = tt; torn = tt; faults = refl; failed = refl; frame = keeps }

-- an ending after a stage
end_on : (formula : Problem) (spare : ℕ) (a b : ArenaState) (lits : List Literal) (ss ts : List LogStep) → Tidies formula spare a b ss → EndsFrom formula spare b lits ts → EndsFrom formula spare a lits (ss ++ ts)
end_on formula spare a b lits ss ts h k = (
  (let first = h.few in let then = k.0 in let both = length-append ss ts in omega (arith, first, then, both)),
  λ tables agree.
      let x = h.runs tables agree in
      let e = k.1 x.0 x.2 in
      record {
        before = ss ++ e.before;
        step = e.step;
        split = ap (λ us. ss ++ us) e.split ∙ sym (append_assoc ss e.before (e.step ∷ []));
        last = e.last;
        runs = run_on formula tables x.0 e.last ss e.before x.1 e.runs;
        right = e.right;
        ends = e.ends;
        adds = e.adds;
        by_chain = e.by_chain;
      },
)

pub mend_on : (formula : Problem) (spare : ℕ) (a b c : ArenaState) (ss ts : List LogStep) (ended : Option (List Literal)) → Tidies formula spare a b ss → MendsTo formula spare b c ended ts → MendsTo formula spare a c ended (ss ++ ts)
mend_on formula spare a b c ss ts (Some lits) h k = record {
  ending = k.ending;
  derived = derived_through (IsClauseOf b) (IsClauseOf a) (λ x w. subst (IsDerived (IsClauseOf a)) w.2 (h.derived w.0 w.1)) lits k.derived;
  ends = end_on formula spare a b lits ss ts h k.ends;
}
mend_on formula spare a b c ss ts None h k = tidied_on formula spare a b c ss ts h k

-- what follows a stage
pub stage_on : {L T : Type 0} (m : sink.Ghosts L LogEvent) (formula : Problem) (spare : ℕ) (a b : ArenaState) (first old new : L) (result : Result T SinkFault) (Done End : T → List LogStep → Type 0) → IsStage m formula spare a first b old
    → (m.keeps first old → m.keeps old new → m.keeps first new) → ((t : T) (ss ts : List LogStep) → Tidies formula spare a b ss → Done t ts → End t (ss ++ ts)) → TidiesOn m formula spare b old result Done new → TidiesOn m formula spare a first result End new
stage_on m formula spare a b first old new result Done End s keeps end k =
    goes_on formula spare a b s.steps s.done m Done End first old new result s.own s.told s.faults s.failed (λ f. keeps s.frame f) (λ t ts d. end t s.steps ts s.done d) k
