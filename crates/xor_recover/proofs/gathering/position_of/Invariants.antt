use Rattle.std.proofs.Common.{◌≡◌, take, drop, ◌++◌}
use Rattle.std.specs.Option.{option_map}
use Rattle.xor_recover.specs.Rows.{inserted}
use Rattle.xor_recover.proofs.gathering.position_of.Given as goal

abbrev pub invariant-loop-place : goal.invariant-loop-place
invariant-loop-place l = inserted l.lit l.normal ≡ option_map (λ r. take l.place l.normal ++ r) (inserted l.lit (drop l.place l.normal))
