-- What a run leaves of a desk in front of which the proof waits.
use Rattle.std.proofs.Common.{List, Option, Result, Ok, Err, sym, subst}
use Rattle.cx_desk.specs.Outside.{Bytes, Files, Outside}
use Rattle.cx_desk.specs.Agreeing.{MayHave}
use Rattle.cx_desk.specs.Spooled.{Finishes}
use Rattle.cx_desk.specs.declared.desk.Failed.{Failed}
use Rattle.solve_cli.specs.declared.ending.Status.{Status}
use Rattle.solve_cli.specs.Seen.{seen}
use Rattle.solve_cli.specs.Steps.{ReadAtMost}
use Rattle.solve_cli.specs.Run.{Run}
use Rattle.cxsat.specs.Spooled.{RunsTo, RunsSpooled}

pub runs_to : (words : List Bytes) (old : Outside) (s : Status) (new : Outside) → ((w : Option Files) → MayHave w new → Run words 4294967295 (seen w old) s (seen w new))
    → (ReadAtMost 4294967295 old → ReadAtMost 4294967295 new) → RunsTo words old s new
runs_to words old s new run few = record { run = run; few = few }

pub ended : {D : Type 0} (outside : D → Outside) (words : List Bytes) (old shown : Outside) (s : Status) (desk : D) (written : Result (Unit {0}) Failed)
    → RunsTo words old s shown → Finishes shown written (outside desk) → RunsSpooled outside words old (record { status = s; desk = desk; written = written })
ended outside words old shown s desk (Ok u) run h = subst (λ (o : Outside). RunsTo words old s o) (sym h) run
ended outside words old shown s desk (Err e) run h = (shown, h.0, run, h.1)
