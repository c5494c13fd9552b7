-- What a builder gains of a constraint's clauses.
use Rattle.std.specs.Prelude.{◌≡◌, ℕ, ◌+◌, ◌-◌, ◌<◌, ◌≤◌, Bool, List, [], ◌++◌, map, length, Option, MatchOption, ⊤}
use Rattle.cx_base.specs.Drafts.{Draft}
use Rattle.cx_base.specs.Problem.{Problem}
use Rattle.cx_base.specs.declared.literal.TheConstants.{MAX_VARIABLE}
use Rattle.cx_base.specs.declared.constraint.Constraint.{Constraint}
use Rattle.cx_base.specs.declared.constraint.Constraint.TheVariants.{Clause}
use Rattle.xor_blast.specs.Pieces.{pieces, clauses_of_pieces}
use Rattle.xor_blast.specs.Blasted.{new_count, in_clauses, PassesLimit}
use Rattle.xor_blast.specs.declared.refusal.BlastRefusal.{BlastRefusal}
use Rattle.xor_blast.specs.declared.refusal.BlastRefusal.TheVariants.{Limit, Memory}

-- the builder has these constraints after its own
abbrev pub with_more : Draft → List Constraint → Draft
with_more before more = record { constraints = before.constraints ++ more; unfinished = [] }

-- the constraints are added, and the last variable is the count after n
pub record AreAdded (before after : Draft) (more : List Constraint) (n count last : ℕ) : Type 0 where
  pub added : after ≡ with_more before more
  pub counted : last ≡ n + count
  pub few : last ≤ MAX_VARIABLE

-- they are added, or their variables pass the limit
abbrev pub Adds : Draft → Draft → List Constraint → ℕ → ℕ → Option ℕ → Type 0
Adds before after more n count o = MatchOption o (MAX_VARIABLE < n + count) (AreAdded before after more n count)

-- the clauses of all pieces of these variables and this right side
abbrev pub AddsPieces : Draft → Draft → ℕ → List ℕ → Bool → Option ℕ → Type 0
AddsPieces before after n xs right o = Adds before after (map Clause (clauses_of_pieces (pieces n xs right))) n (length (pieces n xs right) - 1) o

-- what a constraint of a formula with vars variables becomes
abbrev pub AddsConstraint : Draft → Draft → ℕ → ℕ → Constraint → Option ℕ → Type 0
AddsConstraint before after vars n c o = Adds before after (in_clauses vars n c) n (new_count vars n c) o

-- the refusal names the first constraint that passes the limit, or is for lack of memory
abbrev pub IsRefusal : Problem → BlastRefusal → Type 0
IsRefusal formula (Limit number) = PassesLimit formula number
IsRefusal formula Memory = ⊤
