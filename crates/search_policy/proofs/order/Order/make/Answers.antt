use Rattle.std.proofs.Common.{◌≡◌, ◌∙◌, ap, length, replicate, arith}
use Rattle.std.proofs.lemmas.List.{length-replicate}
use Rattle.search_policy.proofs.StandLaws.{all_small, counted, new_is_order, new_standing, numbered, same_state}
use Rattle.search_policy.proofs.order.Order.make.Goals as goal

pub loop-index-preserved : goal.loop-index-preserved
loop-index-preserved c =
    let i = c.loop-index.invariant in
    let n = c.loop-index.index in
    record {
      cells = counted c.loop-index.cells.items c.push.new.self.items n i.cells c.in_ok-push.ensures.items;
      places = counted c.loop-index.places.items c.push-in-loop-index.new.self.items n i.places c.in_ok-push-2.ensures.items;
      cell = numbered c.loop-index.cells.items c.push.new.self.items n i.cells c.in_ok-push.ensures.items i.cell;
      place = numbered c.loop-index.places.items c.push-in-loop-index.new.self.items n i.places c.in_ok-push-2.ensures.items i.place;
    }

pub invariant_of-result : goal.invariant_of-result
invariant_of-result c =
    let i = c.loop-index.invariant in
    let scores = c.in_ok-scores.scores.items in
    let n : c.loop-index.index ≡ c.args.vars = omega (arith, c.loop-index.auto.index-end, c.loop-index-test.false) in
    let none : c.in_ok-scores.scores.items ≡ replicate c.args.vars 0 = c.in_ok-scores.ensures.items_if_clones_equal (λ x h. h) in
    let long : length scores ≡ c.args.vars = ap length none ∙ length-replicate c.args.vars 0 in (
      omega (arith, long, c.requires),
      all_small scores c.args.vars none,
      new_is_order scores c.loop-index.cells.items c.loop-index.places.items c.args.vars none (i.cells ∙ n) (i.places ∙ n) (λ k h. i.cell k (omega (arith, n))) (λ k h. i.place k (omega (arith, n))),
      omega arith,
    )

pub returns : goal.returns
returns c =
    let i = c.loop-index.invariant in
    let st = new_standing c.args.vars c.loop-index.places.items (omega (arith, i.places, c.loop-index.auto.index-end, c.loop-index-test.false)) (λ k h. i.place k (omega (arith, c.loop-index-test.false))) in
    let none : c.in_ok-scores.scores.items ≡ replicate c.args.vars 0 = c.in_ok-scores.ensures.items_if_clones_equal (λ x h. h) in
    same_state _ _ _ _ 1024 none st
