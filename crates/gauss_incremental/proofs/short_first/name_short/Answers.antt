use Rattle.std.proofs.Common.{sym, ◌∙◌, subst, arith}
use Rattle.gauss_incremental.specs.Namings.{AreNamedBy}
use Rattle.gauss_incremental.proofs.short_first.name_short.Goals as goal

pub name-requires : goal.name-requires
name-requires c =
    let known = c.requires.shorts in
    let free = c.requires.free in
    let lt = free.0 in
    let long = known.long in
    record {
      row_in = omega arith;
      last = subst (λ l. AreNamedBy l c.args.named.now) (sym c.level.ensures) known.last;
      level = λ m at. free.2 m at ∙ sym c.level.ensures;
    }

pub row_of-requires : goal.row_of-requires
row_of-requires c =
    record {
      place_in = c.requires.free.0;
      few = c.requires.shorts.few;
    }
