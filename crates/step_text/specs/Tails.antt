-- What comes after the head of a step's line.
use Rattle.std.specs.Prelude.{ℕ, List, [], ◌∷◌, ◌++◌, flat_map, length}
use Rattle.cx_texts.specs.Grammar.{Field, spelled, mark, ids, integers}
use Rattle.step_text.specs.Spaced.{spaced}
use Rattle.step_text.specs.declared.line.LineTail.{LineTail}
use Rattle.step_text.specs.declared.line.LineTail.TheVariants.{Nothing, Hints, MarkedHints, MarkedIds}

abbrev pub tail_fields : LineTail → List Field
tail_fields Nothing = []
tail_fields (Hints hints) = integers hints.now ∷ []
tail_fields (MarkedHints hints) = mark 108 ∷ integers hints.now ∷ []
tail_fields (MarkedIds names) = mark 108 ∷ ids names.now ∷ []

-- how many hints or ids it has
abbrev pub tail_len : LineTail → ℕ
tail_len Nothing = 0
tail_len (Hints hints) = length hints.now
tail_len (MarkedHints hints) = length hints.now
tail_len (MarkedIds names) = length names.now

-- the fields as they are printed after others, and a line feed
abbrev pub tail_text : LineTail → List ℕ
tail_text tail = spaced (flat_map spelled (tail_fields tail)) ++ 10 ∷ []
