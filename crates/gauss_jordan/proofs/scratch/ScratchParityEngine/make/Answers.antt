use Rattle.std.proofs.Common.{◌∙◌, ◌+◌, sym, ap, length, arith}
use Rattle.std.specs.List.{range_with_len}
use Rattle.gf2_matrix.specs.Views.{words_for}
use Rattle.gauss_jordan.proofs.ScratchEvents.{made_empty, state_fresh, scratch_fresh}
use Rattle.gauss_jordan.proofs.scratch.ScratchParityEngine.make.Goals as goal

pub invariant_of-result : goal.invariant_of-result
invariant_of-result c =
    let m = c.in_ok-matrix.matrix in
    let made = c.in_ok-matrix.ensures.made in
    let cols = c.columns-columns.ensures.count in
    let small = c.columns-columns.ensures.small in
    let given = c.given.ensures.count in
    record {
      is =
          scratch_fresh m c.args.vars c.args.parities.now c.in_ok-held.held.items c.in_ok-assigned.assigned.items c.in_ok-truths.truths.items c.in_ok-slots.slots.items
          c.in_ok-matrix.ensures.of_given made.vars_are made.given_are small (let few = c.given.ensures.few in omega arith) c.in_ok-held.ensures
          (made_empty c.args.vars c.given.result c.columns-columns.result m.vars (length m.given) (length m.columns) c.in_ok-slots.slots.items (sym made.vars_are) given cols c.in_ok-slots.ensures.count c.in_ok-slots.ensures.empty)
          (c.in_ok-assigned.ensures.long ∙ ap words_for cols) (c.in_ok-truths.ensures.long ∙ ap words_for cols);
      variables_are = c.in_ok-variables.ensures ∙ ap (range_with_len 1) (sym made.vars_are);
    }

pub returns : goal.returns
returns c =
    let m = c.in_ok-matrix.matrix in
    let made = c.in_ok-matrix.ensures.made in
    let cols = c.columns-columns.ensures.count in
    let given = c.given.ensures.count in (
      length m.columns + 1,
      state_fresh m c.args.vars (length m.columns) c.args.parities.now c.in_ok-held.held.items c.in_ok-slots.slots.items made.vars_are made.given_are c.in_ok-held.ensures
          (made_empty c.args.vars c.given.result c.columns-columns.result m.vars (length m.given) (length m.columns) c.in_ok-slots.slots.items (sym made.vars_are) given cols c.in_ok-slots.ensures.count c.in_ok-slots.ensures.empty),
    )
