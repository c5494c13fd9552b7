-- Counting the levels of learned clauses anew.
use Rattle.std.specs.Prelude.{◌≡◌, ℕ, ◌<◌, ◌&&◌, Bool, Option, List, length, map, min, nat_lt, if◌then◌else◌}
use Rattle.std.specs.List.{All}
use Rattle.cx_trail.specs.declared.entry.Reason.TheVariants.{Clause}
use Rattle.cx_trail.specs.Sequence.{TrailState, entry_at, IsAssignedIn}
use Rattle.clause_arena.specs.Clauses.{ArenaState, Stored, IsLive, literals_at, with_lbd}
use Rattle.cdcl_search.specs.declared.state.SearchState.{SearchState}

-- the clauses without their lbds
abbrev pub ungraded : ArenaState → List (Option Stored)
ungraded a = map (with_lbd 0) a.clauses

-- nothing changes but lbds
pub record IsGraded (old new : SearchState) : Type 0 where
  pub clauses : ungraded new.arena ≡ ungraded old.arena
  pub rest : new ≡ record old { arena = new.arena }

-- the clause implied a literal above level 0
abbrev pub ImpliesAbove : TrailState → ℕ → Type 0
ImpliesAbove t r = (i : ℕ) × (i < length t.entries) × (0 < (entry_at t.entries i).level) × ((entry_at t.entries i).reason ≡ Clause r)

-- each clause that implied a literal above level 0 is live, and its literals have values
abbrev pub HaveLiveReasons : SearchState → Type 0
HaveLiveReasons c = (r : ℕ) → ImpliesAbove c.trail r → IsLive c.arena r × All (λ l. IsAssignedIn c.trail.entries l.variable) (literals_at c.arena r)

-- The least count so far, of a clause that a reduction may remove. Another keeps its lbd.
abbrev pub least_lbd : Bool → ℕ → ℕ → ℕ
least_lbd learned lbd count = if learned && nat_lt 2 lbd then min count lbd else lbd
