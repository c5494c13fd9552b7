-- The places of a learned clause.
use Rattle.std.proofs.Common.{◌≡◌, ap, ◌∙◌, ℕ, ◌<◌, ◌≤◌, List, [], ◌∷◌, length, arith}
use Rattle.std.specs.List.{AllByRecursion}
use Rattle.std.proofs.lemmas.List.{length-map}
use Rattle.cx_base.specs.Literals.{Literal, negate}
use Rattle.cx_base.specs.declared.literal.TheConstants.{MAX_VARIABLE}
use Rattle.cx_trail.specs.Sequence.{TrailState, IsTrail}
use Rattle.conflict_learn.specs.declared.learning.Resolved.{Resolved}
use Rattle.conflict_learn.specs.Learning.{IsLearned, IsFalling, literal_at, level_at}
use Rattle.conflict_learn.proofs.AnalyseLaws.{AllByRecursion-weaker}
use Rattle.conflict_learn.specs.Levels.{ArePlacesOf, levels_at, NeverRises}

module _ (trail : TrailState) (levels : IsTrail trail) where
  lower : (p : ℕ) (ps : List ℕ) → p < length trail.entries → AllByRecursion (λ q. q < p) ps → AllByRecursion (λ j. j ≤ level_at trail p) (levels_at trail ps)
  lower p [] h a = tt
  lower p (q ∷ ps) h a = (let b = a.0 in levels.rising q p (omega (arith, b)) h, lower p ps h a.1)

  never_rises : (ps : List ℕ) → IsFalling ps → AllByRecursion (λ q. q < length trail.entries) ps → NeverRises (levels_at trail ps)
  never_rises [] f w = tt
  never_rises (p ∷ ps) f w = (lower p ps w.0 f.0, never_rises ps f.1 w.1)

  pub places_of_learned : (conflict : List Literal) (holds : List Literal → ℕ → Type 0) (resolved : List Resolved) (lits : List Literal) (l : IsLearned trail conflict holds resolved lits) → ArePlacesOf trail lits (l.first ∷ l.rest)
  places_of_learned conflict holds resolved lits l =
      let within : AllByRecursion (λ q. q < length trail.entries) (l.first ∷ l.rest) = (l.within, AllByRecursion-weaker (λ q. q < l.first) (λ q. q < length trail.entries) (λ q less. omega (arith, less, l.within)) l.rest l.falling.0) in
      record { are = l.are; within = within; never_rises = never_rises (l.first ∷ l.rest) l.falling within }

  falling_few : (p : ℕ) (ps : List ℕ) → IsFalling (p ∷ ps) → length ps ≤ p
  falling_few p [] f = omega arith
  falling_few p (q ∷ ps) f = let less = f.0.0 in let r = falling_few q ps f.1 in omega (arith, less, r)

  pub learned_few : (conflict : List Literal) (holds : List Literal → ℕ → Type 0) (resolved : List Resolved) (lits : List Literal) → IsLearned trail conflict holds resolved lits → length lits ≤ MAX_VARIABLE
  learned_few conflict holds resolved lits l =
      let a = falling_few l.first l.rest l.falling in
      let n : length lits ≡ length (l.first ∷ l.rest) = ap length l.are ∙ length-map (l.first ∷ l.rest) (λ p. negate (literal_at trail p)) in
      omega (arith, a, n, l.within, levels.short, levels.few)
