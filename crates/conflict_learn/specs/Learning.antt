-- What is learned from a conflict.
use Rattle.std.specs.Prelude.{◌≡◌, ◌≢◌, ℕ, ◌<◌, List, [], ◌∷◌, ◌++◌, map, length, reverse, IsTrue, IsFalse, Option, Some, None, Bool, false, ⊤}
use Rattle.std.specs.List.{AllByRecursion, list_any}
use Rattle.std.specs.Ordering.{nat_cmp}
use Rattle.std.specs.BTreeMap.{is_at}
use Rattle.cx_base.specs.Literals.{Literal, negate, same_literal}
use Rattle.cx_semantics.specs.Chain.{has_literal, is_inside, negations, right, chain}
use Rattle.cx_trail.specs.declared.entry.Reason.{Reason}
use Rattle.cx_trail.specs.declared.entry.Reason.TheVariants.{Decision}
use Rattle.cx_trail.specs.Sequence.{TrailState, entry_at, IsFalseBefore}
use Rattle.conflict_learn.specs.declared.learning.Resolved.{Resolved}

-- the literal at a place of the trail, and its level
abbrev pub literal_at : TrailState → ℕ → Literal
literal_at trail p = (entry_at trail.entries p).literal

abbrev pub level_at : TrailState → ℕ → ℕ
level_at trail p = (entry_at trail.entries p).level

-- wherever the literal's negation is, it is of this level
abbrev pub IsOfLevel : TrailState → Literal → ℕ → Type 0
IsOfLevel trail l level = (p : ℕ) → p < length trail.entries → literal_at trail p ≡ negate l → level_at trail p ≡ level

-- the literal is on the trail with this reason, which above level 0 is no decision
abbrev pub HasReason : TrailState → Literal → Reason → Type 0
HasReason trail l reason = (p : ℕ) × (p < length trail.entries) × (literal_at trail p ≡ l) × ((entry_at trail.entries p).reason ≡ reason) × (0 < level_at trail p → reason ≢ Decision)

-- the negations of the literals at the places
abbrev pub negated_at : TrailState → List ℕ → List Literal
negated_at trail places = map (λ p. negate (literal_at trail p)) places

-- what holds of a clause under an id goes on to hold
abbrev pub AreHeld : (List Literal → ℕ → Type 0) → (List Literal → ℕ → Type 0) → Type 0
AreHeld old new = (clause : List Literal) (n : ℕ) → old clause n → new clause n

-- the clause implied the literal at the place: it has it, and its others are false below that place
pub record Implied (trail : TrailState) (place : ℕ) (clause : List Literal) : Type 0 where
  pub has_it : IsTrue (has_literal clause (literal_at trail place))
  pub others_false : (m : Literal) → IsTrue (has_literal clause m) → IsFalse (same_literal (literal_at trail place) m) → IsFalseBefore trail.entries place m

-- the clause implied the literal, wherever that is
abbrev pub IsAntecedent : TrailState → Literal → List Literal → Type 0
IsAntecedent trail l clause = (place : ℕ) → place < length trail.entries → literal_at trail place ≡ l → Implied trail place clause

-- the literals whose clauses were resolved
abbrev pub literals_of : List Resolved → List Literal
literals_of resolved = map (λ r. r.literal) resolved

-- and the ids of these clauses
abbrev pub ids_of : List Resolved → List ℕ
ids_of resolved = map (λ r. r.id) resolved

-- one clause for each resolved literal, in order: it is held under the id, and it implied the literal
abbrev pub AreAntecedents : TrailState → (List Literal → ℕ → Type 0) → List Resolved → List (List Literal) → Type 0
AreAntecedents trail holds [] [] = ⊤
AreAntecedents trail holds [] (c ∷ cs) = ⊥
AreAntecedents trail holds (r ∷ rs) [] = ⊥
AreAntecedents trail holds (r ∷ rs) (c ∷ cs) = holds c r.id × IsAntecedent trail r.literal c × AreAntecedents trail holds rs cs

-- under every set that negates the target, the clauses are a right chain
abbrev pub Serves : List Literal → List (List Literal) → Type 0
Serves target clauses = (assumed : List Literal) → IsTrue (is_inside (negations target) assumed) → chain assumed clauses ≡ right

-- The clauses that implied the resolved literals, the last one's first, and then the conflict, are a right chain under every set that negates the literals.
abbrev pub Follows : TrailState → List Literal → (List Literal → ℕ → Type 0) → List Resolved → List Literal → Type 0
Follows trail conflict holds resolved lits = (clauses : List (List Literal)) × AreAntecedents trail holds (reverse resolved) clauses × Serves lits (clauses ++ conflict ∷ [])

-- whether the literal is the one to be skipped
abbrev pub skips : Option Literal → Literal → Bool
skips None m = false
skips (Some l) m = same_literal l m

-- the place is one of the keys of a set
abbrev pub has_place : List ℕ → ℕ → Bool
has_place places q = list_any (is_at (nat_cmp q)) places

-- each place is above all that follow it
abbrev pub IsFalling : List ℕ → Type 0
IsFalling [] = ⊤
IsFalling (p ∷ ps) = AllByRecursion (λ q. q < p) ps × IsFalling ps

-- The clause negates literals of the trail, from the newest to the oldest: one of the current level, then those of lower levels above 0. It follows from the conflict and the clauses that implied the resolved literals.
pub record IsLearned (trail : TrailState) (conflict : List Literal) (holds : List Literal → ℕ → Type 0) (resolved : List Resolved) (lits : List Literal) : Type 0 where
  pub first : ℕ
  pub rest : List ℕ
  pub are : lits ≡ negated_at trail (first ∷ rest)
  pub falling : IsFalling (first ∷ rest)
  pub within : first < length trail.entries
  pub first_level : level_at trail first ≡ trail.level
  pub rest_levels : AllByRecursion (λ q. (0 < level_at trail q) × (level_at trail q < trail.level)) rest
  pub follows : Follows trail conflict holds resolved lits
