-- The calculus as a clause of the code: some search fits what the sink tells.
use Rattle.std.specs.Prelude.{◌≡◌, List, Option, Some, None, ⊤}
use Rattle.cx_base.specs.declared.steps.LogEvent.{LogEvent}

-- where the sink tells its events, they are these
abbrev pub AreTold : Option (List LogEvent) → List LogEvent → Type 0
AreTold None events = ⊤
AreTold (Some told) events = told ≡ events
