-- A look at a clause as a part.
use Rattle.std.specs.Prelude.{◌≡◌, ◌*◌, ℕ, Bool, true, List, length, Contains}
use Rattle.std.specs.List.{HoldsAt}
use Rattle.cx_base.specs.Literals.{Literal}
use Rattle.clause_arena.specs.Clauses.{ArenaState, IsLive, literals_at}
use Rattle.clause_tidy.specs.declared.look.Look.{Look}
use Rattle.clause_tidy.specs.Listing.{is_chosen}
use Rattle.clause_tidy.specs.Marks.{AreClear, AreMarksOf, HasSoMany}
use Rattle.clause_tidy.specs.Pairs.{Bears}
use Rattle.clause_tidy.specs.Signatures.{IsSignature}

-- nothing is marked, and each literal of a variable that has a list can be
pub record IsBlankFor (lists : List (List ℕ)) (look : Look) : Type 0 where
  pub clear : AreClear look.marks.items
  pub room : length look.marks.items ≡ 2 * length lists

-- the part's literals are marked and counted, and it has this signature
pub record IsLookAt (a : ArenaState) (look : Look) : Type 0 where
  pub marks : AreMarksOf look.marks.items (literals_at a look.part)
  pub many : HasSoMany (literals_at a look.part) look.many
  pub signature : IsSignature look.signature (literals_at a look.part)

-- the list has each of these clauses on which the part bears
abbrev pub HasWholesOf : ArenaState → ℕ → (ℕ → Type 0) → List ℕ → Type 0
HasWholesOf a p Among found = (q : ℕ) → Among q → IsLive a q → Bears a p q → Contains found q

-- the literal is one of these, and its variable a chosen one
abbrev pub IsChosenIn : List Bool → List Literal → Literal → Type 0
IsChosenIn chosen lits l = Contains lits l × (is_chosen chosen l.variable ≡ true)

-- the literal at this place has a chosen variable
abbrev pub HasChosenAt : List Bool → List Literal → ℕ → Type 0
HasChosenAt chosen lits i = HoldsAt (λ l. is_chosen chosen l.variable ≡ true) lits i
