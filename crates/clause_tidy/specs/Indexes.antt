-- An index of an arena's clauses.
use Rattle.std.specs.Prelude.{◌≡◌, ◌<◌, ◌≤◌, ℕ, Bool, List, length, get_or}
use Rattle.std.specs.List.{All}
use Rattle.cx_base.specs.Literals.{Literal}
use Rattle.clause_arena.specs.Clauses.{ArenaState, IsLive, literals_at}
use Rattle.clause_tidy.specs.Listing.{IsListed}
use Rattle.clause_tidy.specs.Pairs.{Bears}
use Rattle.clause_tidy.specs.Signatures.{IsSignature}

-- there are lists for the variables of the literals
abbrev pub AreKnown : List (List ℕ) → List Literal → Type 0
AreKnown lists lits = All (λ l. l.variable < length lists) lits

-- So many references were taken in: each live clause has its signature, and there are lists for its variables. From the first one on it is in those of chosen ones.
pub record IsIndexed (a : ArenaState) (first count : ℕ) (lists : List (List ℕ)) (chosen : List Bool) (signatures : List ℕ) : Type 0 where
  pub each : length signatures ≡ count
  pub known : (q : ℕ) → q < count → IsLive a q → AreKnown lists (literals_at a q)
  pub listed : (q : ℕ) → first ≤ q → q < count → IsLive a q → IsListed lists chosen (literals_at a q) q
  pub signed : (q : ℕ) → q < count → IsLive a q → IsSignature (get_or signatures q 0) (literals_at a q)

-- from the first reference on no clause is one on which the part bears
abbrev pub HasNoWholeFrom : ArenaState → ℕ → ℕ → Type 0
HasNoWholeFrom a part first = (q : ℕ) → first ≤ q → IsLive a q → Bears a part q → ⊥
