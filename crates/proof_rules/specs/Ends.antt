-- What is left of a hint and how a chain ends, as the definitions have it.
use Rattle.std.specs.Prelude.{◌≡◌, ℤ, true, false, List, Option, None, Some, if◌then◌else◌}
use Rattle.cx_base.specs.Literals.{Literal, same_literal}
use Rattle.cx_semantics.specs.Chain.{Left, none, one, more, ChainEnd, right, not_unit, hints_end, chain}
use Rattle.cx_semantics.specs.Tables.{Table}
use Rattle.proof_rules.specs.Kinds.{hinted, all_named}
use Rattle.proof_rules.specs.declared.chain.LeftOf.{LeftOf}
use Rattle.proof_rules.specs.declared.chain.LeftOf.TheVariants as left_of
use Rattle.proof_rules.specs.declared.chain.End.{End}
use Rattle.proof_rules.specs.declared.chain.End.TheVariants as end

abbrev pub left_seen : LeftOf → Left
left_seen left_of.Nothing = none
left_seen (left_of.One l) = one l
left_seen left_of.More = more

abbrev pub end_seen : End → ChainEnd
end_seen end.Right = right
end_seen end.NotUnit = not_unit
end_seen end.HintsEnd = hints_end

-- one more literal after those counted
abbrev pub and_one : Left → Literal → Left
and_one none l = one l
and_one (one m) l = if same_literal m l then one m else more
and_one more l = more

-- how the chain of the hinted clauses ends; none where some hint is negative or names no live clause
abbrev pub EndsAs : Table → List Literal → List ℤ → Option End → Type 0
EndsAs table assumed hints None = all_named table hints ≡ false
EndsAs table assumed hints (Some e) = (all_named table hints ≡ true) × (end_seen e ≡ chain assumed (hinted table hints))
