use Rattle.std.proofs.Common.{◌≡◌, sym, ap, ◌∙◌, subst, ◌+◌, ◌<◌, false, true, [], ◌∷◌, ◌++◌, take, set, length, arith, true≢false}
use Rattle.std.proofs.lemmas.List.{take_more}
use Rattle.cx_base.specs.Literals.{Literal}
use Rattle.cx_semantics.specs.Chain.{has_literal}
use Rattle.cx_semantics.proofs.Members.{has_by_index}
use Rattle.cx_trail.specs.Sequence.{IsFalseBefore, IsFalseIn}
use Rattle.conflict_learn.specs.Learning.{skips}
use Rattle.conflict_learn.specs.Marks.{StandBetween}
use Rattle.conflict_learn.specs.Touching.{Touched}
use Rattle.conflict_learn.proofs.TouchLaws.{touched_more, touched_put, stand_put, false_within, before_is_in}
use Rattle.conflict_learn.proofs.touching.touch.Goals.{After-var, then-not-is_skipped+then-not-has, else-not-is_skipped, else-not-is_skipped-via-then-not-is_skipped+else-not-has, else-not-is_skipped-via-else-not-is_skipped}
use Rattle.conflict_learn.proofs.touching.touch.Goals as goal

-- a literal that is not skipped is false, so its variable has a mark
false_here : (c : After-var) → IsFalseBefore c.args.trail.now.entries c.args.below c.literal-item.result
false_here c =
    let lits = c.args.literals.now in
    let x = c.literal-item.result in
    c.requires.negated x (ap (has_literal lits) c.literal-item.is ∙ has_by_index lits c.loop-literal.literal-index x c.loop-literal-test.true) (sym c.is_skipped.ensures ∙ c.if-not-is_skipped.true)

false_in : (c : After-var) → IsFalseIn c.args.trail.now.entries c.literal-item.result
false_in c = before_is_in c.args.trail.now c.args.below c.literal-item.result c.requires.bound (false_here c)

has_mark : (c : After-var) → c.literal-item.result.variable < length c.loop-literal.marks
has_mark c = omega (arith, false_within c.args.trail.now c.vars-vars.ensures.sound c.literal-item.result (false_in c), c.requires.wide, c.loop-literal.invariant.0.size)

pub has-requires : goal.has-requires
has-requires c = subst (λ v. v < length c.loop-literal.marks) (sym c.var.ensures) (has_mark c)

pub mark-requires : goal.mark-requires
mark-requires c = subst (λ v. v < length c.loop-literal.marks) (sym c.var-then-not-has.ensures) (has_mark (goal.at.mark-requires c).After-var)

pub place_of-requires : goal.place_of-requires
place_of-requires c = false_in (goal.at.place_of-requires c).After-var

pub loop-literal-preserved : goal.loop-literal-preserved
loop-literal-preserved c =
    let trail = c.args.trail.now in
    let skip = c.args.skip.now in
    let lits = c.args.literals.now in
    let old = c.args.marks.now in
    let below = c.args.below in
    let i = c.loop-literal.literal-index in
    let x = c.literal-item.result in
    let marks = c.loop-literal.marks in
    let t = c.loop-literal.invariant.0 in
    let stand = c.loop-literal.invariant.1 in
    let more : take (i + 1) lits ≡ take i lits ++ x ∷ [] = take_more lits i x c.loop-literal-test.true ∙ ap (λ y. take i lits ++ y ∷ []) (sym c.literal-item.is) in
    elim c.if-not-is_skipped.branch [
      | then-not-is_skipped+then-not-has w ↦
          let has_it : has_literal lits x ≡ true = ap (has_literal lits) c.literal-item.is ∙ has_by_index lits i x c.loop-literal-test.true in
          let f = c.requires.negated x has_it (sym c.is_skipped.ensures ∙ w.if-not-is_skipped.true) in
          let high = false_within trail c.vars-vars.ensures.sound x (before_is_in trail below x c.requires.bound f) in
          let wide = c.requires.wide in
          let size = t.size in
          let inside : x.variable < length marks = omega (arith, high, wide, size) in
          let marks_are : c.if-not-is_skipped.marks ≡ set marks x.variable true = w.marks-is ∙ w.mark.ensures ∙ ap (λ v. set marks v true) w.var-then-not-has.ensures in
          let same : f.0 ≡ w.place_of.result = c.vars-vars.ensures.sound.distinct f.0 w.place_of.result (let less = f.1 in let bound = c.requires.bound in omega (arith, less, bound)) w.place_of.ensures.within (ap (λ (y : Literal). y.variable) (f.2 ∙ sym w.place_of.ensures.negated)) in
          let min = w.min-low.ensures in
          let low_is = w.low-is in
          let less = f.1 in (
            subst (Touched skip old c.if-not-is_skipped.marks) (sym more) (subst (λ ms. Touched skip old ms (take i lits ++ x ∷ [])) (sym marks_are) (touched_put skip old marks (take i lits) x t inside)),
            subst (λ ms. StandBetween trail ms c.if-not-is_skipped.low below) (sym marks_are)
                (stand_put trail marks c.loop-literal.low below x.variable w.place_of.result c.if-not-is_skipped.low (omega (arith, less, same)) (ap (λ (y : Literal). y.variable) w.place_of.ensures.negated)
                (omega (arith, min, low_is)) (omega (arith, min, low_is)) stand),
          )
      | else-not-is_skipped w ↦
          let there : skips skip x ≡ false → Rattle.conflict_learn.specs.Marks.is_marked marks x.variable ≡ true = elim w.else-not-is_skipped.branch [
            | else-not-is_skipped-via-then-not-is_skipped+else-not-has v ↦ λ n. sym (v.has.ensures ∙ ap (Rattle.conflict_learn.specs.Marks.is_marked marks) v.var.ensures) ∙ v.if-not-has.false
            | else-not-is_skipped-via-else-not-is_skipped v ↦ λ n. absurd (true≢false (sym (sym c.is_skipped.ensures ∙ v.if-not-is_skipped.false) ∙ n))
          ] in (
            subst (Touched skip old c.if-not-is_skipped.marks) (sym more) (subst (λ ms. Touched skip old ms (take i lits ++ x ∷ [])) (sym w.marks-is) (touched_more skip old marks (take i lits) x t there)),
            subst (λ ms. StandBetween trail ms c.if-not-is_skipped.low below) (sym w.marks-is) (subst (λ n. StandBetween trail marks n below) (sym w.low-is) stand),
          )
    ]
