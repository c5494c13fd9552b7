-- The trail of the code and the trail of the calculus.
use Rattle.std.specs.Prelude.{◌≡◌, ◌≢◌, ◌⊎◌, ℕ, ◌<◌, ⊤, Some, List, [], ◌∷◌, ◌++◌, IsTrue, IsFalse, Contains}
use Rattle.cx_base.specs.Literals.{Literal, same_literal}
use Rattle.cx_semantics.specs.Chain.{has_literal, same_literals}
use Rattle.cx_semantics.specs.Fresh.{IsLive, is_tautology}
use Rattle.cx_semantics.specs.Tables.{Table, get}
use Rattle.cx_trail.specs.declared.entry.Entry.{Entry as TrailEntry}
use Rattle.cx_trail.specs.Sequence.{TrailState, IsTrueIn, IsFalseIn, IsOpenIn, IsTrail as IsCodeTrail}
use Rattle.search_steps.specs.Trail.{Entry}

-- Both have these literals with these levels, the oldest first there and the newest first here. Reasons are not compared.
abbrev pub IsTied : List Entry → List TrailEntry → Type 0
IsTied [] entries = entries ≡ []
IsTied (e ∷ es) entries = (before : List TrailEntry) × (i : TrailEntry) × (entries ≡ before ++ i ∷ []) × (i.literal ≡ e.literal) × (i.level ≡ e.level) × IsTied es before

-- some live clause has the same literals
abbrev pub IsLiveSet : Table → List Literal → Type 0
IsLiveSet table lits = (clause : List Literal) × IsLive table clause × IsTrue (same_literals lits clause)

-- so it is, and the list is no tautology; or it is this clause
abbrev pub IsLiveOr : Table → List Literal → List Literal → Type 0
IsLiveOr table clause lits = (IsLiveSet table lits × IsFalse (is_tautology lits)) ⊎ (lits ≡ clause)

-- the code's trail is sound and has the search's literals and levels
pub record Mirrors (es : List Entry) (t : TrailState) : Type 0 where
  pub tied : IsTied es t.entries
  pub sound : IsCodeTrail t

-- the clause has the literal, and each of its other literals is false on the code's trail
pub record ForcesOn (entries : List TrailEntry) (clause : List Literal) (l : Literal) : Type 0 where
  pub has_it : IsTrue (has_literal clause l)
  pub others_false : (m : Literal) → IsTrue (has_literal clause m) → IsFalse (same_literal l m) → IsFalseIn entries m

-- ---- what the code's trail makes of a stored list of literals
-- one is true, or two different ones are unassigned
abbrev pub IsQuietOn : List TrailEntry → List Literal → Type 0
IsQuietOn entries lits = ((l : Literal) × Contains lits l × IsTrueIn entries l) ⊎ ((l : Literal) × (m : Literal) × Contains lits l × Contains lits m × (l ≢ m) × IsOpenIn entries l.variable × IsOpenIn entries m.variable)

-- each but l is false
abbrev pub AreOthersFalseOn : List TrailEntry → List Literal → Literal → Type 0
AreOthersFalseOn entries lits l = (m : Literal) → Contains lits m → m ≢ l → IsFalseIn entries m

-- each is false
abbrev pub IsFalsifiedOn : List TrailEntry → List Literal → Type 0
IsFalsifiedOn entries lits = (m : Literal) → Contains lits m → IsFalseIn entries m

-- The entries follow the others, at this level: each is open there and forced by a live clause whose id is below the bound.
abbrev pub AreForcedBehind : Table → ℕ → ℕ → List TrailEntry → List TrailEntry → Type 0
AreForcedBehind table bound level before [] = ⊤
AreForcedBehind table bound level before (e ∷ more) =
    (e.level ≡ level) × IsOpenIn before e.literal.variable × ((n : ℕ) × (clause : List Literal) × (n < bound) × (get table n ≡ Some clause) × ForcesOn before clause e.literal)
    × AreForcedBehind table bound level (before ++ e ∷ []) more
