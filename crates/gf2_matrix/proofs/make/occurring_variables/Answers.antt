use Rattle.std.proofs.Common.{◌≡◌, ◌∙◌, ◌+◌, ◌<◌, false, Bool, ℕ, List, [], length, get_or, sym, ap, subst}
use Rattle.std.specs.Vec.{with_items}
use Rattle.std.proofs.lemmas.List.{with_items_is}
use Rattle.cx_base.specs.Problem.{AreWithin}
use Rattle.gf2_matrix.proofs.FormSums.{every-at}
use Rattle.gf2_matrix.proofs.Marks.{AreMarked, marked_all, marked_more}
use Rattle.gf2_matrix.proofs.Updates.{same_read}
use Rattle.gf2_matrix.proofs.make.occurring_variables.Goals as goal

pub mark_variables-requires-clause-same : goal.mark_variables-requires-clause-same
mark_variables-requires-clause-same c =
    ap length c.deref_mut-in-loop-parity.ensures.value ∙ c.loop-parity.invariant.long_odd ∙ sym (ap length c.deref_mut.ensures.value ∙ c.loop-parity.invariant.long)

pub mark_variables-requires-clause-within : goal.mark_variables-requires-clause-within
mark_variables-requires-clause-within c =
    subst (λ n. AreWithin n c.as_slice.result.now) (sym (ap length c.deref_mut-in-loop-parity.ensures.value ∙ c.loop-parity.invariant.long_odd))
    (subst (AreWithin c.args.vars) (sym (c.as_slice.ensures ∙ c.parity-item.is))
    (every-at (AreWithin c.args.vars) c.args.parities.now c.loop-parity.parity-index c.parity-item.result c.requires c.loop-parity-test.true))

pub mark_variables-requires-clause-clear : goal.mark_variables-requires-clause-clear
mark_variables-requires-clause-clear c =
    subst (λ (ms : List Bool). (x : ℕ) → x < length ms → get_or ms x false ≡ false) (sym c.deref_mut-in-loop-parity.ensures.value)
    (λ x lt. c.loop-parity.invariant.clear x (subst (λ n. x < n) c.loop-parity.invariant.long_odd lt))

pub loop-parity-preserved : goal.loop-parity-preserved
loop-parity-preserved c =
    let so = c.loop-parity.invariant in
    let occurring = c.loop-parity.occurring in
    let odd = c.loop-parity.odd in
    let marked = c.mark_variables.new.occurring in
    let cleared = c.mark_variables.new.odd in
    let long : length marked ≡ length occurring.items = c.mark_variables.auto.occurring ∙ ap length c.deref_mut.ensures.value in
    let long_odd : length cleared ≡ length odd.items = c.mark_variables.auto.odd ∙ ap length c.deref_mut-in-loop-parity.ensures.value in
    let told = rw (c.deref_mut.ensures.value, c.deref_mut-in-loop-parity.ensures.value) at c.mark_variables.ensures in
    let read = c.as_slice.ensures ∙ c.parity-item.is ∙ same_read c.args.parities.now c.loop-parity.parity-index c.parity-item.result [] c.loop-parity-test.true in
    subst (λ (ms : List Bool). AreMarked c.args.vars ms (with_items odd cleared).items c.args.parities.now (c.loop-parity.parity-index + 1)) (sym (with_items_is occurring marked (long ∙ sym occurring.ok.0)))
    (subst (λ (ms : List Bool). AreMarked c.args.vars marked ms c.args.parities.now (c.loop-parity.parity-index + 1)) (sym (with_items_is odd cleared (long_odd ∙ sym odd.ok.0)))
    (marked_more c.args.vars occurring.items odd.items marked cleared c.args.parities.now c.loop-parity.parity-index c.as_slice.result.now so c.loop-parity-test.true read (long ∙ so.long) (long_odd ∙ so.long_odd)
    (λ x lt. told.clear x (subst (λ n. x < n) (sym so.long_odd) lt)) (λ x lt. told.marked x (subst (λ n. x < n) (sym so.long_odd) lt))))

pub returns-clause-long : goal.returns-clause-long
returns-clause-long c = c.loop-parity.invariant.long

pub returns-clause-marked : goal.returns-clause-marked
returns-clause-marked c = marked_all c.args.vars c.loop-parity.occurring.items c.loop-parity.odd.items c.args.parities.now c.loop-parity.parity-index c.loop-parity.invariant c.loop-parity-test.false
