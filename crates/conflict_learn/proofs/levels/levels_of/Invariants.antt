use Rattle.std.proofs.Common.{ℕ, List, take}
use Rattle.conflict_learn.specs.Levels.{ArePlacesOf, levels_at}
use Rattle.conflict_learn.proofs.LevelLaws.{Seen}
use Rattle.conflict_learn.proofs.levels.levels_of.Given as goal

abbrev pub invariant-loop-literal : goal.invariant-loop-literal
invariant-loop-literal l = (places : List ℕ) → ArePlacesOf l.trail l.lits places → Seen (take l.literal-index (levels_at l.trail places)) l.back_level l.count l.last l.index
