-- A clause that goes, told to a sink.
use Rattle.std.proofs.Common.{◌≡◌, ◌≢◌, refl, sym, ap, ◌∙◌, subst, ℕ, true, false, inr, List, [], ◌∷◌, set, None, Result, Ok, Err}
use Rattle.cx_base.specs.Problem.{Problem}
use Rattle.cx_base.specs.declared.steps.LogEvent.{LogEvent}
use Rattle.cx_base.specs.declared.steps.LogEvent.TheVariants.{Step}
use Rattle.cx_base.specs.declared.steps.LogStep.{LogStep}
use Rattle.cx_base.specs.declared.steps.LogStep.TheVariants.{Delete}
use Rattle.cx_semantics.specs.Chain.{is_inside}
use Rattle.clause_arena.specs.Clauses.{ArenaState, clause_at, IsLive, literals_at, id_at, learned_at, kept}
use Rattle.step_text.specs.declared.sink.Sink as sink
use Rattle.step_text.specs.declared.sink.SinkFault.{SinkFault}
use Rattle.clause_tidy.specs.Answers.{MayGo, TidiesOn}
use Rattle.clause_tidy.specs.Telling.{TellsIn}
use Rattle.clause_tidy.specs.Tidying.{Tidies}
use Rattle.clause_tidy.proofs.Keeping.{same_literals_at, is_live, not_learned_here}
use Rattle.clause_tidy.proofs.Removing.{removal_tidies}
use Rattle.clause_tidy.proofs.Tellings.{AreRight, run_is_right, tells_tidily}

-- a fault is no answer
pub no_answer : {T D : Type 0} (fault : SinkFault) (t : T) → ◌≡◌ {A = Result T SinkFault} (Err fault) (Ok t) → D
no_answer fault t e = cc

-- ---- a clause goes
module _ (a : ArenaState) (r : ℕ) (live : IsLive a r) (why : MayGo a r) (step : LogStep) (is : step ≡ Delete (id_at a r) []) where
  abbrev pub steps : List LogStep
  steps = Delete (id_at a r) [] ∷ []

  right : (formula : Problem) (spare : ℕ) → AreRight formula spare a steps
  right formula spare = run_is_right formula spare a steps (λ tables h. let w = (removal_tidies formula spare a (record a { clauses = set a.clauses r None }) r live refl why []).runs tables h in (w.0, w.1))

  pub drop_failed : {L T : Type 0} (m : sink.Ghosts L LogEvent) (fault : SinkFault) (old new : L) (Done : T → List LogStep → Type 0) (formula : Problem) (spare : ℕ)
      → TellsIn {T = T} m (Step step ∷ []) old (Err fault) new → TidiesOn m formula spare a old (Err fault) Done new
  drop_failed {L} {T} m fault old new Done formula spare h =
      tells_tidily m formula spare a steps Done old new (right formula spare) (inr (r, live, refl), tt) (Err fault) (subst (λ s. TellsIn {T = T} m (Step s ∷ []) old (Err fault) new) is h) (λ t e. no_answer fault t e)

  pub drop_told : {L T : Type 0} (m : sink.Ghosts L LogEvent) (t : T) (b : ArenaState) (old new : L) (formula : Problem) (spare : ℕ) → b.clauses ≡ set a.clauses r None
      → TellsIn {T = T} m (Step step ∷ []) old (Ok t) new → TidiesOn {T = T} m formula spare a old (Ok t) (λ _. Tidies formula spare a b) new
  drop_told {L} {T} m t b old new formula spare e h =
      tells_tidily m formula spare a steps (λ _. Tidies formula spare a b) old new (right formula spare) (inr (r, live, refl), tt) (Ok t) (subst (λ s. TellsIn {T = T} m (Step s ∷ []) old (Ok t) new) is h)
      (λ _ _. removal_tidies formula spare a b r live e why [])

-- ---- one inside it is kept
module _ (a b : ArenaState) (q r : ℕ) (live_q : IsLive a q) (live_r : IsLive a r) (differ : q ≢ r) (inside : is_inside (literals_at a q) (literals_at a r) ≡ true) (is : b.clauses ≡ set a.clauses q (kept (clause_at a q))) where
  pub may_go_then : MayGo b r
  may_go_then = inr (
    q,
    differ,
    is_live a b q live_q is q live_q,
    ap (λ (x : List Rattle.cx_base.specs.Literals.Literal). is_inside x (literals_at b r)) (same_literals_at a b q live_q is q) ∙ ap (is_inside (literals_at a q)) (same_literals_at a b q live_q is r) ∙ inside,
    λ _. not_learned_here a b q live_q is,
  )

pub may_go_at_once : (a : ArenaState) (q r : ℕ) → IsLive a q → q ≢ r → is_inside (literals_at a q) (literals_at a r) ≡ true → learned_at a r ≡ true → MayGo a r
may_go_at_once a q r live differ inside learned = inr (q, differ, live, inside, λ e. let k : true ≡ false = sym learned ∙ e in cc)
