use Rattle.std.proofs.Common.{◌≡◌, ◌∙◌, refl, sym, false, true≢false, Option, None, Some, is_some, get_or}
use Rattle.proof_rules.proofs.table.copy_first.Goals as goal

nothing : {V : Type 0} (o : Option V) → is_some o ≡ false → o ≡ None
nothing None e = refl
nothing (Some v) e = absurd (true≢false e)

pub returns-else-has-clause-none : goal.returns-else-has-clause-none
returns-else-has-clause-none c = nothing (get_or c.args.first.now c.args.id None) (sym c.has.ensures ∙ c.if-has.false)
