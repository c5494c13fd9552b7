use Rattle.std.proofs.Common.{sym, subst}
use Rattle.std.specs.List.{All}
use Rattle.tidy_rules.specs.Parts.{IsStanding}
use Rattle.tidy_rules.proofs.PartLaws.{each_stands}
use Rattle.tidy_rules.proofs.finding.find_untidy.Goals as goal

pub first_untidy-requires : goal.first_untidy-requires
first_untidy-requires c = subst (λ ps. All (IsStanding c.args.arena.now) ps) (sym c.deref.ensures.value) (each_stands c.args.arena.now c.as_slice.result.now c.in_ok-parts.parts.items c.in_ok-parts.ensures)
