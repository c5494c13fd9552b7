use Rattle.std.proofs.Common.{◌≡◌, sym, ap, ◌∙◌, subst, ◌+◌, drop, set, length, false, true≢false, rules, arith}
use Rattle.std.proofs.lemmas.List.{drop_all, length-map, length-set}
use Rattle.cx_base.specs.Literals.{Literal}
use Rattle.conflict_learn.specs.Learning.{has_place}
use Rattle.conflict_learn.specs.Levels.{level_in, levels_in}
use Rattle.conflict_learn.specs.Marks.{is_marked}
use Rattle.conflict_learn.proofs.ChainOfResolutions.{by_cases}
use Rattle.conflict_learn.proofs.CountedLevels.{AreLeft, one_left, level_found, level_within, item_assigned}
use Rattle.conflict_learn.proofs.levels.clear_levels.Goals as goal

pub level_of-requires : goal.level_of-requires
level_of-requires c = item_assigned c.args.trail.now.entries c.args.lits.now c.loop-literal.literal-index c.literal-item.result c.var.result c.requires.assigned c.loop-literal-test.true c.literal-item.is c.var.ensures

pub leave-requires : goal.leave-requires
leave-requires c =
    let a = item_assigned c.args.trail.now.entries c.args.lits.now c.loop-literal.literal-index c.literal-item.result c.var.result c.requires.assigned c.loop-literal-test.true c.literal-item.is c.var.ensures in
    let within = level_within c.args.trail.now c.requires.sound c.var.result c.level_of.result a c.level_of.ensures in
    let size = c.loop-literal.invariant.size in
    let wide = c.requires.wide in
    omega (arith, within, size, wide)

pub loop-literal-init : goal.loop-literal-init
loop-literal-init c = record { size = search rules; left = λ k m. sym (c.requires.marked k) ∙ m }

pub loop-literal-preserved : goal.loop-literal-preserved
loop-literal-preserved c =
    let t = c.args.trail.now in
    let lits = c.args.lits.now in
    let i = c.loop-literal.literal-index in
    let x = c.literal-item.result in
    let marks = c.loop-literal.marks in
    let level = level_in t.entries x.variable in
    let a = item_assigned t.entries lits i x c.var.result c.requires.assigned c.loop-literal-test.true c.literal-item.is c.var.ensures in
    let is : c.level_of.result ≡ level = level_found t.entries c.var.result c.level_of.result a c.level_of.ensures ∙ ap (λ v. level_in t.entries v) c.var.ensures in
    let within = level_within t c.requires.sound c.var.result c.level_of.result a c.level_of.ensures in
    let wide = c.requires.wide in
    let size = c.loop-literal.invariant.size in
    let marks_are : c.leave.new.self ≡ set marks level false = c.leave.ensures ∙ ap (λ k. set marks k false) is in
    record {
      size = ap length marks_are ∙ length-set marks level false ∙ size;
      left = subst (AreLeft (drop (i + 1) (levels_in t lits))) (sym marks_are) (one_left t lits i x marks c.loop-literal-test.true c.literal-item.is (omega (arith, within, wide, size, is)) c.loop-literal.invariant.left);
    }

pub returns : goal.returns
returns c v =
    let far = c.loop-literal-test.false in
    let levels = levels_in c.args.trail.now c.args.lits.now in
    let long = length-map c.args.lits.now (λ (l : Literal). level_in c.args.trail.now.entries l.variable) in
    by_cases (is_marked c.loop-literal.marks v)
    (λ m. absurd (true≢false (sym (c.loop-literal.invariant.left v m) ∙ ap (λ ks. has_place ks v) (drop_all c.loop-literal.literal-index levels (omega (arith, far, long))))))
    (λ n. n)
