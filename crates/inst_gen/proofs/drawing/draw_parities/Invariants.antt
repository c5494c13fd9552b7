use Rattle.std.proofs.Common.{◌≡◌, ◌*◌, map}
use Rattle.inst_gen.specs.Words.{stream, words, after_words}
use Rattle.inst_gen.specs.Planting.{parities_of}
use Rattle.inst_gen.specs.Triples.{literals_in}
use Rattle.inst_gen.proofs.drawing.draw_parities.Given as goal

abbrev pub invariant-loop-k : goal.invariant-loop-k
invariant-loop-k l = record {
  drawn : map literals_in l.parities.items ≡ parities_of l.values l.k (words (2 * l.count) (stream l.fn.generator));
  left : stream l.generator ≡ after_words (2 * l.k) (stream l.fn.generator);
}
