use Rattle.std.proofs.Common.{◌∙◌, inl, inr, arith}
use Rattle.clause_tidy.proofs.BearLaws.{may_bear_holds}
use Rattle.clause_tidy.proofs.marks.may_bear.Goals as goal

pub returns-then-same-many-2 : goal.returns-then-same-many-2
returns-then-same-many-2 c = λ part are has h.
    elim (may_bear_holds part c.args.lits.now c.args.marks.now c.args.many c.count_marked-same.result are has c.count_marked-same.ensures h) [
      | inl enough ↦ let few = c.if-same-many.false in absurd (omega (arith, enough, few))
      | inr (most, turned) ↦ c.has_turned.ensures ∙ turned
    ]

pub returns-else-same-many-2 : goal.returns-else-same-many-2
returns-else-same-many-2 c = λ part are has h.
    elim (may_bear_holds part c.args.lits.now c.args.marks.now c.args.many c.count_marked-same.result are has c.count_marked-same.ensures h) [
      | inl enough ↦ let few = c.if-same-many.false in absurd (omega (arith, enough, few))
      | inr (most, turned) ↦ let few = c.if-same-many.false in let other = c.if-same-many-2.false in absurd (omega (arith, most, few, other))
    ]
