use Rattle.std.proofs.Common.{◌≡◌, ◌+◌, ◌-◌, arith, refl, to_z-of_z}
use Rattle.std.proofs.lemmas.List.{drop-set}
use Rattle.step_text.proofs.lay_out.lay_out_integer.Goals as goal

pub returns-clause-laid : goal.returns-clause-laid
returns-clause-laid c =
    let s = c.lay_out_signed-begin in
    let e : s.result - 1 + 1 ≡ s.result = omega arith in
    rw (drop-set s.new.sheet (s.result - 1) 32 (omega arith), e, s.ensures.laid, to_z-of_z c.ranges.integer) refl
