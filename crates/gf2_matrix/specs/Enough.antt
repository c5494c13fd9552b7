-- Parities that say what more of them say.
use Rattle.std.specs.Prelude.{◌≡◌, ℕ, ◌-◌, ◌<◌, ◌≤◌, Bool, true, false, cond, List, [], ◌∷◌, map, length, slice_index, slice_index_or, IsTrue}
use Rattle.std.specs.List.{list_all}
use Rattle.cx_base.specs.Literals.{Literal}
use Rattle.cx_base.specs.Problem.{parity_met}
use Rattle.parity_engine.specs.Equations.{numbered}
use Rattle.parity_engine.specs.Written.{AreRising}
use Rattle.gf2_matrix.specs.declared.packed.Part.{Part}
use Rattle.gf2_matrix.specs.Content.{Content}

-- values that meet the marked parities meet all
pub record SayAll (vars : ℕ) (given : List (List Literal)) (marks : List Bool) : Type 0 where
  pub long : length marks ≡ length given
  pub enough : (v : List Bool) → length v ≡ vars
      → ((k : ℕ) → k < length given → slice_index_or marks k false ≡ true → parity_met v (slice_index_or given k []) ≡ true)
      → IsTrue (list_all (parity_met v) given)

-- values that meet the parities of the numbers, which rise, meet the first n
pub record SayFirst (vars : ℕ) (given : List (List Literal)) (numbers : List ℕ) (n : ℕ) : Type 0 where
  pub rise : AreRising 1 n numbers
  pub enough : (v : List Bool) → length v ≡ vars → IsTrue (list_all (parity_met v) (numbered given numbers))
      → (k : ℕ) → k < n → parity_met v (slice_index_or given k []) ≡ true

-- the numbers whose marks are set
abbrev pub kept : List ℕ → List Bool → List ℕ
kept [] marks = []
kept (n ∷ ns) [] = []
kept (n ∷ ns) (b ∷ bs) = cond b (n ∷ kept ns bs) (kept ns bs)

-- the sources of the first n parts have the names of their numbers
pub record AreRenamed (names : List ℕ) (old new : List Part) (n : ℕ) : Type 0 where
  pub long : length new ≡ length old
  pub base : (p : ℕ) (d : Part) → (slice_index_or new p d).base ≡ (slice_index_or old p d).base
  pub columns : (p : ℕ) (d : Part) → (slice_index_or new p d).columns.items ≡ (slice_index_or old p d).columns.items
  pub numbers : (p : ℕ) (d : Part) → (slice_index_or new p d).numbers.items ≡ (slice_index_or old p d).numbers.items
  pub done : (p : ℕ) (d : Part) → p < n → (slice_index_or new p d).sources.items ≡ map (λ m. slice_index names (m - 1)) (slice_index_or old p d).sources.items
  pub left : (p : ℕ) (d : Part) → n ≤ p → (slice_index_or new p d).sources.items ≡ (slice_index_or old p d).sources.items

-- rows over the given parities
abbrev pub IsOver : ℕ → List (List Literal) → Content → Type 0
IsOver vars parities c = (c.vars ≡ vars) × (c.given ≡ parities)
