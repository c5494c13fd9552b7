use Rattle.std.proofs.Common.{◌≡◌, ℕ, ◌<◌, false, get_or}
use Rattle.model_out.specs.Mentions.{is_repeated}
use Rattle.model_out.specs.declared.mentions.Mention.TheVariants.{Never}
use Rattle.model_out.proofs.mentions.Mentions.first_repeated.Given as goal

abbrev pub invariant-loop-index : goal.invariant-loop-index
invariant-loop-index l = (k : ℕ) → k < l.index → is_repeated (get_or l.self k Never) ≡ false
