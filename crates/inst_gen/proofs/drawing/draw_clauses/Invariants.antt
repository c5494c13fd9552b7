use Rattle.std.proofs.Common.{◌≡◌, ◌*◌, map}
use Rattle.inst_gen.specs.Words.{stream, words, after_words}
use Rattle.inst_gen.specs.Planting.{clauses_of}
use Rattle.inst_gen.specs.Triples.{literals_in}
use Rattle.inst_gen.proofs.drawing.draw_clauses.Given as goal

abbrev pub invariant-loop-number : goal.invariant-loop-number
invariant-loop-number l = record {
  drawn : map literals_in l.clauses.items ≡ clauses_of l.values l.variables l._number (words (3 * l.variables) (stream l.fn.generator));
  left : stream l.generator ≡ after_words (3 * l._number) (stream l.fn.generator);
}
