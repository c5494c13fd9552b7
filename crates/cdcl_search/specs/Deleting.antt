-- Deletions of clauses, as events.
use Rattle.std.specs.Prelude.{ℕ, List, [], map}
use Rattle.cx_base.specs.declared.steps.LogEvent.{LogEvent}
use Rattle.cx_base.specs.declared.steps.LogEvent.TheVariants.{Step}
use Rattle.cx_base.specs.declared.steps.LogStep.TheVariants.{Delete}

-- one after another
abbrev pub deletions : List ℕ → List LogEvent
deletions ids = map (λ n. Step (Delete n [])) ids
