use Rattle.gf2_rows.specs.Few.{AddsWithin}
use Rattle.gf2_rows.proofs.few.FewWords.add_words.Given as goal

abbrev pub invariant-loop-place : goal.invariant-loop-place
invariant-loop-place l = AddsWithin l.initial.self l.words l.low l.place l.self
