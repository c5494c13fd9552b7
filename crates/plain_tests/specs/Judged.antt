-- What the plain judge of a log answers.
use Rattle.std.specs.Prelude.{List, [], ◌∷◌}
use Rattle.cx_base.specs.Literals.{Literal}
use Rattle.cx_base.specs.Problem.{Problem}
use Rattle.cx_semantics.specs.declared.cause.Cause.TheVariants as causes
use Rattle.cx_semantics.specs.Judging.{Rule, Judgement, accepted, refused}
use Rattle.cx_semantics.specs.LogRules.{IsOriginalParity}
use Rattle.plain_tests.specs.declared.judged.Judged.{Judged}
use Rattle.plain_tests.specs.declared.judged.Judged.TheVariants.{Right, Refused}

abbrev pub judgement_of : Judged → Judgement
judgement_of (Right k) = accepted k
judgement_of (Refused k cause) = refused k cause

-- a parity of the formula has the same normal form
abbrev pub original_parity : Problem → List Literal → List Rule
original_parity formula target = record { cause = causes.NotInFormula; Holds = IsOriginalParity formula target; Fails = ¬ IsOriginalParity formula target } ∷ []
