-- Words that ask for no plan, and the runs by them.
use Rattle.std.specs.Prelude.{◌≡◌, ◌≢◌, ℕ, List, ◌⊎◌}
use Rattle.cx_base.specs.ExactlyOne.{ExactlyOne}
use Rattle.cx_desk.specs.Outside.{Bytes}
use Rattle.cx_words.specs.Words.{Asks}
use Rattle.cx_words.specs.declared.plans.Plan.{Plan}
use Rattle.solve_cli.specs.declared.ending.Status.{Status}
use Rattle.solve_cli.specs.declared.ending.Status.TheVariants as status
use Rattle.solve_cli.specs.Seen.{Seen}
use Rattle.solve_cli.specs.Run.{Run}

-- no plan is what the words ask for
abbrev pub AsksNothing : List Bytes → Type 0
AsksNothing words = (p : Plan) → ¬ Asks words p

-- by words that ask for no plan a run ends with 2, unless memory ran out
abbrev pub EndsAsUsage : Type 0
EndsAsUsage = (words : List Bytes) (limit : ℕ) (old new : Seen) (s : Status) → Run words limit old s new → AsksNothing words
    → (s ≡ status.OutOfMemory) ⊎ (s ≡ status.Usage)

-- the words of a run that ends with another status ask for exactly one plan
abbrev pub HasAsked : Type 0
HasAsked = (words : List Bytes) (limit : ℕ) (old new : Seen) (s : Status) → Run words limit old s new → s ≢ status.OutOfMemory → s ≢ status.Usage
    → ExactlyOne (Asks words)
