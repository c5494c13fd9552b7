use Rattle.std.proofs.Common.{◌≡◌, sym, ap, ◌∙◌, subst, ◌+◌, take, set, length, true, if◌then◌else◌, arith}
use Rattle.std.proofs.lemmas.List.{take_all, length-map}
use Rattle.cx_base.specs.Literals.{Literal}
use Rattle.conflict_learn.specs.Learning.{has_place}
use Rattle.conflict_learn.specs.Levels.{level_in, levels_in, distinct}
use Rattle.conflict_learn.specs.Marks.{is_marked}
use Rattle.conflict_learn.proofs.CountedLevels.{AreMet, none_met, one_met, level_found, level_within, next_level, item_assigned}
use Rattle.conflict_learn.proofs.levels.mark_levels.Goals.{then-not-meet, else-not-meet}
use Rattle.conflict_learn.proofs.levels.mark_levels.Goals as goal

pub level_of-requires : goal.level_of-requires
level_of-requires c = item_assigned c.args.trail.now.entries c.args.lits.now c.loop-literal.literal-index c.literal-item.result c.var.result c.requires.assigned c.loop-literal-test.true c.literal-item.is c.var.ensures

pub meet-requires : goal.meet-requires
meet-requires c =
    let a = item_assigned c.args.trail.now.entries c.args.lits.now c.loop-literal.literal-index c.literal-item.result c.var.result c.requires.assigned c.loop-literal-test.true c.literal-item.is c.var.ensures in
    let within = level_within c.args.trail.now c.requires.sound c.var.result c.level_of.result a c.level_of.ensures in
    let size = c.loop-literal.invariant.size in
    let wide = c.requires.wide in
    omega (arith, within, size, wide)

pub loop-literal-init : goal.loop-literal-init
loop-literal-init c = none_met c.args.marks.now c.requires.clear

pub loop-literal-preserved : goal.loop-literal-preserved
loop-literal-preserved c =
    let t = c.args.trail.now in
    let lits = c.args.lits.now in
    let i = c.loop-literal.literal-index in
    let x = c.literal-item.result in
    let marks = c.loop-literal.marks in
    let level = level_in t.entries x.variable in
    let a = item_assigned t.entries lits i x c.var.result c.requires.assigned c.loop-literal-test.true c.literal-item.is c.var.ensures in
    let is : c.level_of.result ≡ level = level_found t.entries c.var.result c.level_of.result a c.level_of.ensures ∙ ap (λ v. level_in t.entries v) c.var.ensures in
    let within = level_within t c.requires.sound c.var.result c.level_of.result a c.level_of.ensures in
    let wide = c.requires.wide in
    let met = one_met (take i (levels_in t lits)) c.args.marks.now marks c.loop-literal.count level c.loop-literal.invariant (omega (arith, within, wide, is)) c.meet.result (c.meet.ensures.was ∙ ap (is_marked marks) is) in
    let marks_are : c.meet.new.self ≡ set marks level true = c.meet.ensures.marks ∙ ap (λ k. set marks k true) is in
    let count : c.if-not-meet.count ≡ (if c.meet.result then c.loop-literal.count else c.loop-literal.count + 1) = elim c.if-not-meet.branch [
      | then-not-meet w ↦ w.count-is ∙ sym (ap (λ b. if b then c.loop-literal.count else c.loop-literal.count + 1) w.if-not-meet.true)
      | else-not-meet w ↦ w.count-is ∙ sym (ap (λ b. if b then c.loop-literal.count else c.loop-literal.count + 1) w.if-not-meet.false)
    ] in
    subst (λ n. AreMet (take (i + 1) (levels_in t lits)) c.args.marks.now c.meet.new.self n) (sym count)
    (subst (λ ms. AreMet (take (i + 1) (levels_in t lits)) c.args.marks.now ms (if c.meet.result then c.loop-literal.count else c.loop-literal.count + 1)) (sym marks_are)
    (subst (λ ks. AreMet ks c.args.marks.now (set marks level true) (if c.meet.result then c.loop-literal.count else c.loop-literal.count + 1)) (sym (next_level t lits i x c.loop-literal-test.true c.literal-item.is)) met))

pub returns-clause-marked : goal.returns-clause-marked
returns-clause-marked c k =
    let far = c.loop-literal-test.false in
    let levels = levels_in c.args.trail.now c.args.lits.now in
    let long = length-map c.args.lits.now (λ (l : Literal). level_in c.args.trail.now.entries l.variable) in
    c.loop-literal.invariant.marked k ∙ ap (λ ks. has_place ks k) (take_all c.loop-literal.literal-index levels (omega (arith, far, long)))

pub returns-clause-count : goal.returns-clause-count
returns-clause-count c =
    let far = c.loop-literal-test.false in
    let levels = levels_in c.args.trail.now c.args.lits.now in
    let long = length-map c.args.lits.now (λ (l : Literal). level_in c.args.trail.now.entries l.variable) in
    c.loop-literal.invariant.count_is ∙ ap (λ ks. length (distinct ks)) (take_all c.loop-literal.literal-index levels (omega (arith, far, long)))
