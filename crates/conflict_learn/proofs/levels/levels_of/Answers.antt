use Rattle.std.proofs.Common.{◌≡◌, sym, ap, ◌∙◌, subst, ◌+◌, ◌<◌, take, length, get_or, if◌then◌else◌, ◌==◌}
use Rattle.std.proofs.lemmas.Bool.{eq-eqb, ne_eqb}
use Rattle.cx_base.specs.Literals.{Literal}
use Rattle.conflict_learn.specs.Learning.{level_at}
use Rattle.conflict_learn.specs.Levels.{levels_at, second, distinct}
use Rattle.conflict_learn.proofs.LevelLaws.{Seen, literal_of_place, one_level_more, all_seen}
use Rattle.conflict_learn.proofs.levels.levels_of.Goals.{then-is_new, else-is_new, then-index-eq1, else-index-eq1}
use Rattle.conflict_learn.proofs.levels.levels_of.Goals as goal

pub place_of-requires : goal.place_of-requires
place_of-requires c =
    let places = c.requires.places.0 in
    let a = c.requires.places.1 in
    let r = literal_of_place c.args.trail.now places c.loop-literal.literal-index c.literal-item.result
    (subst (λ lits. c.loop-literal.literal-index < length lits) a.are c.loop-literal-test.true)
    (c.literal-item.is ∙ ap (λ lits. get_or lits c.loop-literal.literal-index c.literal-item.result) a.are) a.within in
    (get_or places c.loop-literal.literal-index 0, (r.0, r.1))

pub loop-literal-preserved : goal.loop-literal-preserved
loop-literal-preserved c places a =
    let i = c.loop-literal.literal-index in
    let level = c.entry-level.result.level in
    let r = literal_of_place c.args.trail.now places i c.literal-item.result
    (subst (λ lits. i < length lits) a.are c.loop-literal-test.true)
    (c.literal-item.is ∙ ap (λ lits. get_or lits i c.literal-item.result) a.are) a.within in
    let place : get_or places i 0 ≡ c.place_of.result = c.place_of.ensures.sound.distinct (get_or places i 0) c.place_of.result r.0 c.place_of.ensures.within (ap (λ (x : Literal). x.variable) (r.1 ∙ sym c.place_of.ensures.negated)) in
    let at : level ≡ level_at c.args.trail.now (get_or places i 0) = ap (λ x. x.level) c.entry-level.ensures.is ∙ ap (level_at c.args.trail.now) (sym place) in
    let count : c.if-is_new.count ≡ (if c.is_new.result then c.loop-literal.count + 1 else c.loop-literal.count) = elim c.if-is_new.branch [
      | then-is_new w ↦ w.count-is ∙ sym (ap (λ b. if b then c.loop-literal.count + 1 else c.loop-literal.count) w.if-is_new.true)
      | else-is_new w ↦ w.count-is ∙ sym (ap (λ b. if b then c.loop-literal.count + 1 else c.loop-literal.count) w.if-is_new.false)
    ] in
    let back : c.if-index-eq1.back_level ≡ (if c.loop-literal.index == 1 then level else c.loop-literal.back_level) = elim c.if-index-eq1.branch [
      | then-index-eq1 w ↦ w.back_level-is ∙ sym (ap (λ b. if b then level else c.loop-literal.back_level) (eq-eqb c.loop-literal.index 1 w.if-index-eq1.true))
      | else-index-eq1 w ↦ w.back_level-is ∙ sym (ap (λ b. if b then level else c.loop-literal.back_level) (ne_eqb c.loop-literal.index 1 w.if-index-eq1.false))
    ] in
    subst (λ n. Seen (take (i + 1) (levels_at c.args.trail.now places)) c.if-index-eq1.back_level n level (c.loop-literal.index + 1)) (sym count)
    (subst (λ n. Seen (take (i + 1) (levels_at c.args.trail.now places)) n (if c.is_new.result then c.loop-literal.count + 1 else c.loop-literal.count) level (c.loop-literal.index + 1)) (sym back)
    (one_level_more c.args.trail.now places i level c.loop-literal.back_level c.loop-literal.count c.loop-literal.last c.loop-literal.index a.never_rises r.2 at (c.loop-literal.invariant places a) c.is_new.result c.is_new.ensures))

pub returns-clause-back : goal.returns-clause-back
returns-clause-back c places a =
    (c.loop-literal.invariant places a).back_is ∙ ap second (all_seen c.args.trail.now c.args.lits.now places c.loop-literal.literal-index a c.loop-literal-test.false)

pub returns-clause-count : goal.returns-clause-count
returns-clause-count c places a =
    (c.loop-literal.invariant places a).count_is ∙ ap (λ ks. length (distinct ks)) (all_seen c.args.trail.now c.args.lits.now places c.loop-literal.literal-index a c.loop-literal-test.false)
