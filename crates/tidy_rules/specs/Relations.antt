-- When one clause makes another shorter, or needless.
use Rattle.std.specs.Prelude.{Bool, ◌&&◌, ◌||◌, List}
use Rattle.std.specs.List.{list_any, list_all}
use Rattle.cx_base.specs.Literals.{Literal, negate, same_literal}
use Rattle.cx_semantics.specs.Chain.{has_literal, is_inside}

-- each literal of the first clause but this one is in the second
abbrev pub is_inside_but : List Literal → Literal → List Literal → Bool
is_inside_but clause l other = list_all (λ m. same_literal m l || has_literal other m) clause

-- The second clause has the negation of this literal, and the first one's other literals. Where the first has the literal, the second follows without the negation.
abbrev pub strengthens_at : List Literal → List Literal → Literal → Bool
strengthens_at clause other l = has_literal other (negate l) && is_inside_but clause l other

-- it does so at some literal of its own
abbrev pub strengthens : List Literal → List Literal → Bool
strengthens clause other = list_any (strengthens_at clause other) clause

-- the first lies inside the second, or strengthens it
abbrev pub bears_on : List Literal → List Literal → Bool
bears_on clause other = is_inside clause other || strengthens clause other
