-- What a run is over a desk in front of which the proof waits in a spool.
use Rattle.std.specs.Prelude.{List, Option, MatchResult}
use Rattle.cxsat.specs.declared.spooled.Ended.{Ended}
use Rattle.cx_desk.specs.Outside.{Bytes, Files, Outside}
use Rattle.cx_desk.specs.Agreeing.{MayHave}
use Rattle.cx_desk.specs.Calls.{WriteFaulted}
use Rattle.cx_desk.specs.Spooled.{with_waiting}
use Rattle.solve_cli.specs.declared.ending.Status.{Status}
use Rattle.solve_cli.specs.Seen.{seen}
use Rattle.solve_cli.specs.Steps.{ReadAtMost}
use Rattle.solve_cli.specs.Run.{Run}

-- a run for all files that agree with what was read, which is no more than a byte past the limit of each text
pub record RunsTo (words : List Bytes) (old : Outside) (s : Status) (new : Outside) : Type 0 where
  pub run : (w : Option Files) → MayHave w new → Run words 4294967295 (seen w old) s (seen w new)
  pub few : ReadAtMost 4294967295 old → ReadAtMost 4294967295 new

-- The run is one to what the desk shows in the end. Where the last write failed, it is one to what was shown before that, of
-- which the desk lacks a rest of the proof.
abbrev pub RunsSpooled : {D : Type 0} → (D → Outside) → List Bytes → Outside → Ended D → Type 0
RunsSpooled outside words old e = MatchResult e.written
    (λ _. RunsTo words old e.status (outside e.desk))
    (λ _. (shown : Outside) × (rest : Bytes) × RunsTo words old e.status shown × WriteFaulted shown (with_waiting rest (outside e.desk)))
