use Rattle.std.proofs.Common.{◌≡◌, true, take, min, ◌^◌, ◌-◌}
use Rattle.std.specs.List.{list_all}
use Rattle.std.specs.Str.Parse.{digits_value}
use Rattle.cx_texts.specs.Words.{is_digit}
use Rattle.cx_texts.proofs.natural.read_natural.Given as goal

abbrev pub invariant-loop-digit : goal.invariant-loop-digit
invariant-loop-digit l = (list_all is_digit (take l.digit-index l.digits) ≡ true) × (l.value ≡ min (digits_value 10 (take l.digit-index l.digits)) (2 ^ 64 - 1))
