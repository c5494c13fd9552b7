-- A row by how it is kept.
use Rattle.std.specs.Prelude.{ℕ, List}
use Rattle.gf2_rows.specs.declared.word_row.Kept.{Kept}
use Rattle.gf2_rows.specs.declared.word_row.Kept.TheVariants.{Few, Short, Whole}

-- all its words
abbrev pub words_kept : Kept → List ℕ
words_kept (Few few) = few.now
words_kept (Short short) = short
words_kept (Whole words) = words.now
