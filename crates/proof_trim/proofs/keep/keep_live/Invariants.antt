use Rattle.std.proofs.Common.{◌≡◌, ◌+◌, ◌++◌, length, drop}
use Rattle.cx_semantics.specs.Tables.{Tables}
use Rattle.proof_trim.specs.Kept.{chosen}
use Rattle.proof_trim.specs.Marking.{marked}
use Rattle.proof_trim.specs.NameSets.{Has, live_in}
use Rattle.proof_trim.specs.Trimmed.{staying, trimmed}
use Rattle.proof_trim.proofs.keep.keep_live.Given as goal

abbrev pub invariant-loop-place : goal.invariant-loop-place
invariant-loop-place l = record {
  long : length l.kept.items ≡ l.place;
  kept : ((t : Tables) × Has l.live (live_in t) × (chosen l.kept.items l.proof ++ staying (marked l.marks) (l.place + 1) t (drop l.place l.proof) ≡ trimmed l.formula (marked l.marks) l.proof));
  room : l.here.room ≡ l.fn.here.room;
}
