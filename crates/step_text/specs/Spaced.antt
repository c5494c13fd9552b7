-- Words that are printed after others.
use Rattle.std.specs.Prelude.{ℕ, ℤ, List, [], ◌∷◌, ◌++◌, flat_map, decimal}
use Rattle.cx_base.specs.declared.id_moves.IdMove.{IdMove}
use Rattle.cx_texts.specs.Words.{Word}
use Rattle.cx_texts.specs.Printed.{printed_integer, printed_word}

-- each word after a space
abbrev pub spaced : List Word → List ℕ
spaced ws = flat_map (λ w. 32 ∷ printed_word w) ws

abbrev pub spaced_integer : ℤ → List ℕ
spaced_integer z = 32 ∷ printed_integer z

abbrev pub spaced_id : ℕ → List ℕ
spaced_id n = 32 ∷ decimal n

-- the two ids of a move
abbrev pub spaced_move : IdMove → List ℕ
spaced_move m = spaced_id m.from ++ spaced_id m.to
