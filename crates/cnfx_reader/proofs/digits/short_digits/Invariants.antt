use Rattle.std.proofs.Common.{◌-◌, ◌≡◌, ◌≤◌, take, true}
use Rattle.std.specs.List.{list_all}
use Rattle.std.specs.Str.Parse.{digits_value}
use Rattle.cx_texts.specs.Words.{is_digit}
use Rattle.cnfx_reader.specs.declared.digits.TheConstants.{SHORT}
use Rattle.cnfx_reader.proofs.digits.short_digits.Given as goal

abbrev pub invariant-loop-len : goal.invariant-loop-len
invariant-loop-len l = (l.len ≤ SHORT) × (list_all is_digit (take l.len l.text) ≡ true) × (l.value ≡ digits_value 10 (take l.len l.text))

abbrev pub decreases-loop-len : goal.decreases-loop-len
decreases-loop-len l = SHORT - l.len
