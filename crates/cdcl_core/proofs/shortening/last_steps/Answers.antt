use Rattle.std.proofs.Common.{◌≡◌, sym, ap, ◌∙◌, subst, ◌+◌, ◌++◌, length, arith}
use Rattle.std.specs.List.{AllByRecursion, range_with_len}
use Rattle.cx_base.specs.Integers.{integers_of}
use Rattle.cx_semantics.specs.Chain.{negations}
use Rattle.cx_base.proofs.Elements.{all_append}
use Rattle.cdcl_search.specs.Tells.{as_events, AreStepsOf, IsId}
use Rattle.cdcl_core.specs.Shortening.{unit_parity_events}
use Rattle.cdcl_core.proofs.ShortSteps.{last_are, range_ids}
use Rattle.cdcl_core.proofs.shortening.last_steps.Goals as goal

pub sum-requires-clause-sources : goal.sum-requires-clause-sources
sum-requires-clause-sources c =
    let few = c.len.ensures.len in
    let long = c.len-3.ensures in
    let low = c.requires.ids.0 in
    let high = c.requires.ids.1 in
    subst (AllByRecursion IsId) (sym c.in_ok-sources.ensures) (all_append IsId c.args.sources.now _ c.requires.sources (range_ids _ _ (omega (arith, few, low), omega (arith, few, long, high))))

pub returns : goal.returns
returns c =
    let before = as_events c.args.before.items in
    let first = c.len.result + 1 in
    let units = c.args.short.now.units.items in
    let few = c.len.ensures.len in
    let long = c.len-2.ensures in
    let again = c.len-3.ensures in
    let count : c.len-3.result ≡ length units = omega (arith, again) in
    record {
      steps = last_are before (length c.args.formula.now.constraints + 1) first (first + c.len-2.result) c.args.id c.args.sources.now c.in_ok-sources.sources units c.args.short.now.left c.in_ok-parity.parity c.in_ok-clause.clause _ _ _ c.sum.result c.clause_of_sum.result
          (ap (λ n. n + 1) few) (omega (arith, few, long))
          (c.in_ok-sources.ensures ∙ ap (λ n. c.args.sources.now ++ range_with_len first n) count)
          (c.in_ok-parity.ensures.integers ∙ ap integers_of c.as_slice.ensures) (c.in_ok-clause.ensures.integers ∙ ap integers_of c.as_slice-2.ensures)
          (subst (λ us. AreStepsOf (before ++ unit_parity_events first us) c.push_unit_parities.new.steps.items) c.deref.ensures.value c.in_ok-push_unit_parities.ensures)
          c.sum.ensures c.in_ok-push.ensures.items c.clause_of_sum.ensures c.in_ok-push-2.ensures.items;
      failed = c.in_ok-failed.ensures ∙ ap negations c.as_slice-3.ensures;
    }
