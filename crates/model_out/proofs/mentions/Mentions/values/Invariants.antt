use Rattle.std.proofs.Common.{◌≡◌, map, take}
use Rattle.model_out.specs.Mentions.{is_true_once}
use Rattle.model_out.proofs.mentions.Mentions.values.Given as goal

abbrev pub invariant-loop-mention : goal.invariant-loop-mention
invariant-loop-mention l = l.values.items ≡ map is_true_once (take l.mention-index l.self)
