-- What a text of items has in order: its items, and between them lines that say that its clauses are tidy.
use Rattle.std.specs.Prelude.{ℕ, List, Option, Some, None, filter_map}

pub data Line (I : Type 0) : Type 0 where
  item : I → Line I
  -- of this restart
  tidy : ℕ → Line I

abbrev pub item_of : {I : Type 0} → Line I → Option I
item_of (item i) = Some i
item_of (tidy r) = None

-- the items alone
abbrev pub items_of : {I : Type 0} → List (Line I) → List I
items_of lines = filter_map item_of lines
