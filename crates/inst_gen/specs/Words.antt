-- The words that a generator gives, in the order in which they are drawn.
use Rattle.std.specs.Prelude.{ℕ, zero, suc, List, [], ◌∷◌}
use Rattle.rand_core.specs.Stream.{Stream, next_u64}
use Rattle.rand_core.specs.Steps.{stream_of}
use Rattle.rand_xoshiro.specs.SplitMix64.{splitmix_steps}

-- what SplitMix64 gives from a state on; a seed is the first state
unfoldable pub stream : ℕ → Stream
stream seed = stream_of splitmix_steps seed

-- the first words of 64 bits, in order
unfoldable pub words : ℕ → Stream → List ℕ
words zero s = []
words (suc k) s = (next_u64 s).0 ∷ words k (next_u64 s).1

-- what is left after them
unfoldable pub after_words : ℕ → Stream → Stream
after_words zero s = s
after_words (suc k) s = after_words k (next_u64 s).1
