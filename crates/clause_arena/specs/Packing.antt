-- The live ones of the first clauses, one after another.
use Rattle.std.specs.Prelude.{ℕ, ◌≡◌, ◌<◌, ◌≤◌, List, length, ◌∷◌, get_or, take, drop, Option, None, IsSome, Vec, vec_len, vec_capacity}
use Rattle.cx_base.specs.Literals.{Literal}
use Rattle.cx_base.specs.declared.moved.Move.{Move}
use Rattle.cx_base.specs.Moved.{move_at}
use Rattle.clause_arena.specs.declared.head.Head.{Head}
use Rattle.clause_arena.specs.Clauses.{Stored}
use Rattle.clause_arena.specs.Heads.{clauses_from, RiseTo, AreHeads}

-- the vector is no longer than it was, and has the room that it had
pub record IsCut {X Z : Type 0} (old new : Vec X Z) : Type 0 where
  pub fewer : vec_len new ≤ vec_len old
  pub room : vec_capacity new ≡ vec_capacity old

abbrev pub kept_at : List (Option Stored) → ℕ → Option Stored
kept_at clauses r = get_or clauses r None

-- new holds the live ones of the first n clauses of old, as moves say
pub record IsPacked (old : List (Option Stored)) (n : ℕ) (new : List (Option Stored)) (moves : List Move) : Type 0 where
  pub count : length moves ≡ length new
  pub below : (i : ℕ) → i < length moves → (move_at moves i).old < n
  pub rises : (i j : ℕ) → i < j → j < length moves → (move_at moves i).old < (move_at moves j).old
  pub places : (i : ℕ) → i < length moves → (move_at moves i).new ≡ i
  pub kept : (i : ℕ) → i < length moves → kept_at new i ≡ kept_at old (move_at moves i).old
  pub live : (i : ℕ) → i < length moves → IsSome (kept_at old (move_at moves i).old)
  pub all : (r : ℕ) → r < n → IsSome (kept_at old r) → (i : ℕ) × (i < length moves) × ((move_at moves i).old ≡ r)

-- the first n clauses of an arena, whose literals end at place start, are packed into the first heads and the first so many literals,
-- and what comes after is as it was
pub record IsPackedUpTo (lits₀ : List Literal) (ends₀ : List ℕ) (heads₀ : List Head) (n start used : ℕ) (lits : List Literal) (ends : List ℕ) (heads : List Head) (moves : List Move) : Type 0 where
  pub packed : IsPacked (clauses_from 0 lits₀ ends₀ heads₀) n (clauses_from 0 (take used lits) (take (length moves) ends) (take (length moves) heads)) moves
  pub front : AreHeads (take used lits) (take (length moves) ends) (take (length moves) heads)
  pub count : length moves ≤ n
  pub begins : start ≡ get_or (0 ∷ ends₀) n 0
  pub down : used ≤ start
  pub order : RiseTo start (drop n ends₀) (length lits₀)
  pub later_ends : drop n ends ≡ drop n ends₀
  pub later_heads : drop n heads ≡ drop n heads₀
  pub later_lits : drop used lits ≡ drop used lits₀
  pub many_ends : length ends ≡ length ends₀
  pub many_heads : length heads ≡ length heads₀
  pub many_lits : length lits ≡ length lits₀
