-- The levels of a clause's literals.
use Rattle.std.specs.Prelude.{◌≡◌, ◌==◌, ℕ, ◌<◌, ◌≤◌, List, [], ◌∷◌, map, length, if◌then◌else◌, ⊤}
use Rattle.std.specs.List.{AllByRecursion}
use Rattle.cx_base.specs.Literals.{Literal}
use Rattle.cx_trail.specs.declared.entry.Entry.{Entry}
use Rattle.cx_trail.specs.Sequence.{TrailState}
use Rattle.conflict_learn.specs.declared.learning.Resolved.{Resolved}
use Rattle.conflict_learn.specs.Learning.{level_at, negated_at, has_place, IsLearned}

-- each number once
abbrev pub distinct : List ℕ → List ℕ
distinct [] = []
distinct (k ∷ ks) = if has_place ks k then distinct ks else k ∷ distinct ks

abbrev pub levels_at : TrailState → List ℕ → List ℕ
levels_at trail places = map (level_at trail) places

-- the level of the variable's entry; 0 where there is none
abbrev pub level_in : List Entry → ℕ → ℕ
level_in [] v = 0
level_in (e ∷ es) v = if e.literal.variable == v then e.level else level_in es v

-- the levels of the literals' variables
abbrev pub levels_in : TrailState → List Literal → List ℕ
levels_in trail lits = map (λ l. level_in trail.entries l.variable) lits

-- the second number; 0 where there is none
abbrev pub second : List ℕ → ℕ
second [] = 0
second (k ∷ []) = 0
second (k ∷ j ∷ js) = j

-- no number is above an earlier one
abbrev pub NeverRises : List ℕ → Type 0
NeverRises [] = ⊤
NeverRises (k ∷ ks) = AllByRecursion (λ j. j ≤ k) ks × NeverRises ks

-- the literals are the negations of those at the places, and their levels never rise
pub record ArePlacesOf (trail : TrailState) (lits : List Literal) (places : List ℕ) : Type 0 where
  pub are : lits ≡ negated_at trail places
  pub within : AllByRecursion (λ p. p < length trail.entries) places
  pub never_rises : NeverRises (levels_at trail places)

-- the clause is learned, the back level is that of its second literal, and the number is that of its levels
pub record Teaches (trail : TrailState) (conflict : List Literal) (holds : List Literal → ℕ → Type 0) (resolved : List Resolved) (lits : List Literal) (back lbd : ℕ) : Type 0 where
  pub learned : IsLearned trail conflict holds resolved lits
  pub back_is : back ≡ second (levels_at trail (learned.first ∷ learned.rest))
  pub lbd_is : lbd ≡ length (distinct (levels_at trail (learned.first ∷ learned.rest)))
