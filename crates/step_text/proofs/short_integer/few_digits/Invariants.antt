use Rattle.std.proofs.Common.{◌-◌, ◌≡◌, ◌≤◌, take, true}
use Rattle.std.specs.List.{list_all}
use Rattle.std.specs.Str.Parse.{digits_value}
use Rattle.cx_texts.specs.Words.{is_digit}
use Rattle.step_text.specs.declared.short_integer.TheConstants.{FEW}
use Rattle.step_text.proofs.short_integer.few_digits.Given as goal

abbrev pub invariant-loop-len : goal.invariant-loop-len
invariant-loop-len l = (l.len ≤ FEW) × (list_all is_digit (take l.len l.text) ≡ true) × (l.value ≡ digits_value 10 (take l.len l.text))

abbrev pub decreases-loop-len : goal.decreases-loop-len
decreases-loop-len l = FEW - l.len
