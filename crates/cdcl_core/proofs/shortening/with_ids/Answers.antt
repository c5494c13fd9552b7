use Rattle.std.proofs.Common.{◌≡◌, ◌∙◌, sym, ap, ◌+◌, ◌++◌, ◌∷◌, [], append-nil, append_assoc, arith}
use Rattle.std.specs.List.{range_with_len}
use Rattle.cdcl_core.proofs.ShortSteps.{range_more}
use Rattle.cdcl_core.proofs.shortening.with_ids.Goals as goal

pub loop-place-init : goal.loop-place-init
loop-place-init c =
    let copied : c.in_ok-all.all.items ≡ c.args.ids.now = c.in_ok-all.ensures.items_if_clones_equal (λ x y same. same) in
    record { few = omega arith; are = copied ∙ sym (append-nil c.args.ids.now) }

pub loop-place-preserved : goal.loop-place-preserved
loop-place-preserved c =
    let less = c.loop-place-test.true in
    let n = c.args.first + c.loop-place.place in
    record {
      few = omega (arith, less);
      are = c.in_ok-push.ensures.items ∙ ap (λ xs. xs ++ n ∷ []) c.loop-place.invariant.are ∙ append_assoc c.args.ids.now (range_with_len c.args.first c.loop-place.place) (n ∷ []) ∙ ap (λ r. c.args.ids.now ++ r) (sym (range_more c.args.first c.loop-place.place));
    }

pub returns : goal.returns
returns c =
    let past = c.loop-place-test.false in
    let few = c.loop-place.invariant.few in
    let all : c.loop-place.place ≡ c.args.count = omega (arith, past, few) in
    c.from_vec.ensures ∙ c.loop-place.invariant.are ∙ ap (λ k. c.args.ids.now ++ range_with_len c.args.first k) all
