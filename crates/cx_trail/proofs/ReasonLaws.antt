-- Changes of reasons under which a trail stays one: other references to clauses, and no reasons at level 0.
use Rattle.std.proofs.Common.{◌≡◌, ℕ, zero, suc, Option, None, Some, ◌<◌, List, ap, refl, arith}
use Rattle.cx_base.specs.declared.moved.Move.{Move}
use Rattle.cx_base.specs.Moved.{moved_to}
use Rattle.cx_trail.specs.declared.entry.Reason.{Reason}
use Rattle.cx_trail.specs.declared.entry.Reason.TheVariants.{Decision, Clause, Row}
use Rattle.cx_trail.specs.Renaming.{renamed, renamed_reason, clause_under}
use Rattle.cx_trail.specs.Forgetting.{forgotten, forgotten_reason}
use Rattle.cx_trail.proofs.MappedLaws.{KeepsEntries}

-- ---- other references
-- above level 0 no clause becomes a decision
under_undecided : (o : Option ℕ) (level r : ℕ) → 0 < level → clause_under o level r ≡ Decision → Clause r ≡ Decision
under_undecided (Some s) level r some e = cc
under_undecided None zero r some e = absurd (omega arith)
under_undecided None (suc level) r some e = e

still_decided : (moves : List Move) (level : ℕ) (r : Reason) → 0 < level → renamed_reason moves level r ≡ Decision → r ≡ Decision
still_decided moves level Decision some e = refl
still_decided moves level (Clause r) some e = under_undecided (moved_to moves r) level r some e
still_decided moves level (Row row) some e = cc

pub renamed_keeps : (moves : List Move) → KeepsEntries (renamed moves)
renamed_keeps moves = record {
  literals = λ e. refl;
  levels = λ e. refl;
  decided = λ e d. ap (renamed_reason moves e.level) d;
  undecided = λ e some d. still_decided moves e.level e.reason some d;
}

-- ---- no reasons at level 0
forgotten_decided : (level : ℕ) (r : Reason) → r ≡ Decision → forgotten_reason level r ≡ Decision
forgotten_decided zero r e = refl
forgotten_decided (suc level) r e = e

remembered : (level : ℕ) (r : Reason) → 0 < level → forgotten_reason level r ≡ Decision → r ≡ Decision
remembered zero r some e = absurd (omega arith)
remembered (suc level) r some e = e

pub forgotten_keeps : KeepsEntries forgotten
forgotten_keeps = record {
  literals = λ e. refl;
  levels = λ e. refl;
  decided = λ e d. forgotten_decided e.level e.reason d;
  undecided = λ e some d. remembered e.level e.reason some d;
}
