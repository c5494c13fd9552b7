use Rattle.std.proofs.Common.{◌≡◌, sym, ap, ◌∙◌, subst, ◌+◌, [], ◌∷◌, ◌++◌, take, inl, inr, true≢false}
use Rattle.std.proofs.lemmas.List.{take_more}
use Rattle.cx_base.specs.Literals.{same_literal}
use Rattle.cx_semantics.specs.Chain.{has_literal}
use Rattle.cx_semantics.proofs.Members.{has_by_index, has_pushed}
use Rattle.conflict_learn.specs.Touching.{IsMarkedOrFixed}
use Rattle.conflict_learn.proofs.shortening.is_covered.Goals.{else-not-is_same-via-then-not-is_same+else-not-is_marked_or_fixed, else-not-is_same-via-else-not-is_same}
use Rattle.conflict_learn.proofs.shortening.is_covered.Goals as goal

pub loop-literal-preserved : goal.loop-literal-preserved
loop-literal-preserved c m h n =
    let clause = c.args.clause.now in
    let i = c.loop-literal.literal-index in
    let x = c.literal-item.result in
    let more : take (i + 1) clause ≡ take i clause ++ x ∷ [] = take_more clause i x c.loop-literal-test.true ∙ ap (λ y. take i clause ++ y ∷ []) (sym c.literal-item.is) in
    elim (has_pushed (take i clause) x m (ap (λ ls. has_literal ls m) (sym more) ∙ h)) [
      | inl g ↦ c.loop-literal.invariant m g n
      | inr e ↦ elim c.else-not-is_same.branch [
        | else-not-is_same-via-then-not-is_same+else-not-is_marked_or_fixed w ↦ subst (IsMarkedOrFixed c.args.trail.now c.args.marks.now) (sym e) (w.is_marked_or_fixed.ensures w.if-not-is_marked_or_fixed.false)
        | else-not-is_same-via-else-not-is_same w ↦ absurd (true≢false (sym (ap (same_literal c.args.own) e ∙ sym c.is_same.ensures ∙ w.if-not-is_same.false) ∙ n))
      ]
    ]

pub is_marked_or_fixed-requires-clause-negated : goal.is_marked_or_fixed-requires-clause-negated
is_marked_or_fixed-requires-clause-negated c =
    let x = c.literal-item.result in
    c.requires.negated x (ap (has_literal c.args.clause.now) c.literal-item.is ∙ has_by_index c.args.clause.now c.loop-literal.literal-index x c.loop-literal-test.true) (sym c.is_same.ensures ∙ c.if-not-is_same.true)
