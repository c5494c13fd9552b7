-- What a sink answers.
use Rattle.std.specs.Prelude.{◌≡◌, ℕ, Bool, true, List, [], ◌∷◌, ◌++◌, map, Option, Some, None, option_map, IfSome, MatchOption, Result, Ok, Err, ⊤}
use Rattle.step_text.specs.declared.sink.SinkFault.{SinkFault}
use Rattle.step_text.specs.declared.sink.SinkFault.TheVariants.{Memory, Failed}
use Rattle.cx_base.specs.Counts.{Rose}
use Rattle.cx_base.specs.Lines.{Line, item, tidy, items_of}

-- what was told, and these after it
abbrev pub with_all : {S : Type 0} → List S → Option (List S) → Option (List S)
with_all more told = option_map (λ all. all ++ more) told

-- what was told, and one more after it
abbrev pub with_next : {S : Type 0} → S → Option (List S) → Option (List S)
with_next next told = option_map (λ all. all ++ next ∷ []) told

-- the lines that were told, and the tidy line of this restart after them
abbrev pub with_tidy : {I : Type 0} → ℕ → Option (List (Line I)) → Option (List (Line I))
with_tidy r told = option_map (λ all. all ++ tidy r ∷ []) told

-- where lines are told, the items are these without the tidy ones
abbrev pub AreItemsOf : {I : Type 0} → Option (List (Line I)) → Option (List I) → Type 0
AreItemsOf lines items = IfSome lines (λ all. items ≡ Some (items_of all))

-- where lines are told, no tidy line came to the earlier ones; where none are told, none are told later
abbrev pub GainsItems : {I : Type 0} → Option (List (Line I)) → Option (List (Line I)) → Type 0
GainsItems {I = I} old new = MatchOption old (new ≡ None) (λ before. (items : List I) × (new ≡ Some (before ++ map item items)))

-- the faults rose where the answer is a fault of writing, and otherwise stay
abbrev pub SinkFaultsAs : {T : Type 0} → Result T SinkFault → ℕ → ℕ → Type 0
SinkFaultsAs (Ok answer) before now = now ≡ before
SinkFaultsAs (Err Memory) before now = now ≡ before
SinkFaultsAs (Err Failed) before now = Rose before now

-- a sink has failed once it answered a fault of writing
abbrev pub HasFailedAs : {T : Type 0} → Result T SinkFault → Bool → Bool → Type 0
HasFailedAs (Ok answer) before now = now ≡ before
HasFailedAs (Err Memory) before now = now ≡ before
HasFailedAs (Err Failed) before now = now ≡ true

-- this holds after a fault of writing
abbrev pub OnFailed : {T : Type 0} → Result T SinkFault → Type 0 → Type 0
OnFailed (Ok answer) P = ⊤
OnFailed (Err Memory) P = ⊤
OnFailed (Err Failed) P = P
