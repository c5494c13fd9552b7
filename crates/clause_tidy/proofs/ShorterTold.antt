-- A shortened clause, told to a sink.
use Rattle.std.proofs.Common.{◌≡◌, refl, sym, ap, ◌∙◌, subst, ℕ, zero, suc, ◌<◌, inl, inr, true, false, List, [], ◌∷◌, ◌++◌, length, set, get_or, Option, Some, None, IsSome, Result, Ok, Err, arith}
use Rattle.std.proofs.lemmas.List.{get_or_append_left}
use Rattle.cx_base.specs.Assumptions.{is_ending}
use Rattle.cx_base.specs.Literals.{Literal, negate}
use Rattle.cx_base.specs.Problem.{Problem, AreWithin}
use Rattle.std.specs.List.{list_any}
use Rattle.std.specs.Prelude.{nat_lt, nat_abs}
use Rattle.cx_base.specs.Integers.{integers_of, literals}
use Rattle.cx_base.specs.declared.steps.LogEvent.{LogEvent}
use Rattle.cx_base.specs.declared.steps.LogStep.{LogStep}
use Rattle.cx_base.specs.declared.steps.LogEvent.TheVariants.{Step}
use Rattle.clause_arena.specs.Clauses.{ArenaState, Stored, IsLive, literals_at, id_at}
use Rattle.clause_arena.proofs.PackingLaws.{live_within}
use Rattle.step_text.specs.declared.sink.Sink as sink
use Rattle.step_text.specs.declared.sink.SinkFault.{SinkFault}
use Rattle.step_text.specs.declared.sink.SinkFault.TheVariants.{Memory}
use Rattle.clause_tidy.specs.Agreeing.{AreProper}
use Rattle.clause_tidy.specs.Answers.{IsRightFrom, IsEnded, TidiesOn}
use Rattle.clause_tidy.specs.Shortened.{Shortens}
use Rattle.clause_tidy.specs.Steps.{shortening, strengthening}
use Rattle.clause_tidy.specs.Telling.{TellsIn, as_events}
use Rattle.clause_tidy.specs.Tidying.{Tidies}
use Rattle.clause_tidy.proofs.Events.{no_more}
use Rattle.clause_tidy.proofs.ShorterRuns.{without_inside, runs_shortening, first_right, ends_there}
use Rattle.clause_tidy.proofs.ShorterTidies.{rest_derived, shortening_tidies}
use Rattle.clause_tidy.proofs.Spelling.{spells, none_above, within_part}
use Rattle.clause_tidy.proofs.Tellings.{run_is_right, one_is_right, tells_tidily}
use Rattle.clause_tidy.proofs.WeightLaws.{some_weight}

-- ---- the arena with one more clause, and then without the old one
pub set_front : {X : Type 0} (xs ys : List X) (i : ℕ) (v : X) → i < length xs → set (xs ++ ys) i v ≡ set xs i v ++ ys
set_front [] ys i v h = absurd (omega (arith, h))
set_front (x ∷ xs) ys zero v h = refl
set_front (x ∷ xs) ys (suc i) v h = ap (λ zs. x ∷ zs) (set_front xs ys i v (omega (arith, h)))

pub still_live : (a b : ArenaState) (r : ℕ) (new : Stored) → b.clauses ≡ a.clauses ++ Some new ∷ [] → IsLive a r → IsLive b r
still_live a b r new e l =
    subst (λ (o : Option Stored). IsSome o) (sym (ap (λ (cs : List (Option Stored)). get_or cs r None) e ∙ get_or_append_left a.clauses (Some new ∷ []) None r (live_within a r l))) l

pub grown_then_removed : (a b d : ArenaState) (r : ℕ) (new : Stored) → IsLive a r → b.clauses ≡ a.clauses ++ Some new ∷ [] → d.clauses ≡ set b.clauses r None → d.clauses ≡ set a.clauses r None ++ Some new ∷ []
grown_then_removed a b d r new live e f = f ∙ ap (λ (cs : List (Option Stored)). set cs r None) e ∙ set_front a.clauses (Some new ∷ []) r None (live_within a r live)

-- ---- nothing was told
pub nothing_on : {L T : Type 0} (m : sink.Ghosts L LogEvent) (a : ArenaState) (old : L) (Done : T → List LogStep → Type 0) → m.keeps old old → (formula : Problem) (spare : ℕ) → TidiesOn {T = T} m formula spare a old (Err Memory) Done old
nothing_on m a old Done keeps formula spare = record { steps = []; told = sym (no_more (m.items old)); own = tt; done = tt; left = λ tables h. (tables, refl); torn = tt; faults = refl; failed = refl; frame = keeps }

module _ (formula : Problem) (spare : ℕ) (a : ArenaState) (k r : ℕ) (live : IsLive a r) (live_k : IsLive a k) (rest : List Literal) (s : Shortens a k r rest) (proper : AreProper formula a) where
  part_within : AreWithin formula.variables rest
  part_within = within_part formula.variables rest (literals_at a r) (without_inside (literals_at a r) rest (negate s.m) s.is) (proper.variables r live)

  are : literals (integers_of rest) ≡ rest
  are = spells formula.variables rest part_within

  low : list_any (λ z. nat_lt formula.variables (nat_abs z)) (integers_of rest) ≡ false
  low = none_above formula.variables rest part_within

  -- whether it ends is told by its literals
  same_end : is_ending formula.constraints (literals (integers_of rest)) ≡ is_ending formula.constraints rest
  same_end = ap (is_ending formula.constraints) are

  right : is_ending formula.constraints rest ≡ false → IsRightFrom formula spare a (shortening spare (id_at a k) (id_at a r) (integers_of rest))
  right no_end tables h = (
    _,
    runs_shortening formula spare tables.clauses tables.parities a r k live live_k rest s.m (integers_of rest) h s.has_m s.at s.by_ok s.ok s.is are low (same_end ∙ no_end),
  )

  -- the four steps
  pub shorter_told : {L T : Type 0} (m : sink.Ghosts L LogEvent) (old new : L) (result : Result T SinkFault) (b : ArenaState) (lbd : ℕ) → is_ending formula.constraints rest ≡ false → length rest < length (literals_at a r)
      → ((t : T) → result ≡ Ok t → b.clauses ≡ set a.clauses r None ++ Some (record { literals = rest; id = id_at a r; lbd = lbd; learned = false }) ∷ [])
      → TellsIn m (as_events (shortening spare (id_at a k) (id_at a r) (integers_of rest))) old result new → TidiesOn m formula spare a old result (λ _. Tidies formula spare a b) new
  shorter_told m old new result b lbd no_end shorter grown tells =
      let all = shortening spare (id_at a k) (id_at a r) (integers_of rest) in
      tells_tidily m formula spare a all (λ _. Tidies formula spare a b) old new (run_is_right formula spare a all (right no_end)) (inl refl, (inr (r, live, refl), (inr (r, live, refl), (inl refl, tt)))) result tells
      (λ t e. shortening_tidies formula spare a b r k live live_k rest s.m (integers_of rest) s.has_m s.at s.by_ok s.ok s.is are low (same_end ∙ no_end) lbd (grown t e) shorter)

  -- an ending clause is left
  pub ending_told : {L T : Type 0} (m : sink.Ghosts L LogEvent) (old new : L) (result : Result T SinkFault) → is_ending formula.constraints rest ≡ true
      → TellsIn m (Step (strengthening spare (id_at a k) (id_at a r) (integers_of rest)) ∷ []) old result new → TidiesOn m formula spare a old result (λ _. IsEnded formula spare a rest) new
  ending_told m old new result all tells =
      let one = strengthening spare (id_at a k) (id_at a r) (integers_of rest) in
      tells_tidily m formula spare a (one ∷ []) (λ _. IsEnded formula spare a rest) old new
      (one_is_right formula spare a one (λ tables h. first_right formula spare tables.clauses tables.parities a r k live live_k rest s.m (integers_of rest) h s.has_m s.at s.by_ok s.ok s.is are low))
      (inl refl, tt) result tells
      (λ t e. record {
        ending = all;
        derived = rest_derived a k r live_k live rest s;
        ends = (let some = some_weight a r live in omega (arith, some), λ tables h. ends_there formula spare tables.clauses tables.parities a r k live live_k rest s.m (integers_of rest) h s.has_m s.at s.by_ok s.ok s.is are low (same_end ∙ all));
      })
