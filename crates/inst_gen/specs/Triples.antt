-- Three literals, as a list.
use Rattle.std.specs.Prelude.{List, [], ◌∷◌}
use Rattle.cx_base.specs.Literals.{Literal}
use Rattle.inst_gen.specs.declared.triple.Triple.{Triple}

abbrev pub literals_in : Triple → List Literal
literals_in t = t.first ∷ t.second ∷ t.third ∷ []
