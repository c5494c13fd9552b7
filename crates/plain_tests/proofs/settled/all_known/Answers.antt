use Rattle.std.proofs.Common.{◌<◌, ◌∙◌, sym, ap, subst, length, List}
use Rattle.cx_base.specs.Literals.{Literal}
use Rattle.cx_semantics.specs.Fresh.{others}
use Rattle.plain_tests.proofs.SettlingLaws.{next_of, none_of, stands_first, stands_on, stands_last, fewer}
use Rattle.plain_tests.proofs.settled.all_known.Goals as goal

pub loop-waiting-init : goal.loop-waiting-init
loop-waiting-init c = stands_first c.args.formula.now c.args.parities.now c.new-known.result.items c.in_ok-waiting.waiting.items c.vars.result c.new-known.ensures.items c.in_ok-waiting.ensures c.vars.ensures.variables

pub loop-waiting-preserved : goal.loop-waiting-preserved
loop-waiting-preserved c =
    let formula = c.args.formula.now in
    let ps = c.args.parities.now in
    let known : List Literal = c.loop-waiting.known.items in
    let waiting : List Literal = c.loop-waiting.waiting.items in
    let lit = c.in-Some.lit in
    let next = next_of formula ps c.deref.result.now known c.deref-in-loop-waiting.result.now waiting c.in_ok-lit.field-0 lit c.deref.ensures.value c.deref-in-loop-waiting.ensures.value c.in-Some.is c.in_ok-lit.ensures in
    stands_on formula ps known waiting c.push.new.self.items c.in_ok-waiting-2.waiting.items lit c.requires next c.in_ok-push.ensures.items
    (c.in_ok-waiting-2.ensures ∙ ap (λ (xs : List Literal). others xs lit) c.deref-in-Some.ensures.value) c.loop-waiting.invariant

pub loop-waiting-smaller : goal.loop-waiting-smaller
loop-waiting-smaller c =
    let formula = c.args.formula.now in
    let ps = c.args.parities.now in
    let known : List Literal = c.loop-waiting.known.items in
    let waiting : List Literal = c.loop-waiting.waiting.items in
    let lit = c.in-Some.lit in
    let next = next_of formula ps c.deref.result.now known c.deref-in-loop-waiting.result.now waiting c.in_ok-lit.field-0 lit c.deref.ensures.value c.deref-in-loop-waiting.ensures.value c.in-Some.is c.in_ok-lit.ensures in
    subst (λ (xs : List Literal). length xs < length waiting) (sym (c.in_ok-waiting-2.ensures ∙ ap (λ (xs : List Literal). others xs lit) c.deref-in-Some.ensures.value)) (fewer waiting lit next.waits)

pub returns : goal.returns
returns c =
    let formula = c.args.formula.now in
    let ps = c.args.parities.now in
    let known : List Literal = c.loop-waiting.known.items in
    let waiting : List Literal = c.loop-waiting.waiting.items in
    record {
      least = stands_last formula ps known waiting c.requires c.vars.ensures.within
          (none_of formula ps c.deref.result.now known c.deref-in-loop-waiting.result.now waiting c.in_ok-lit.field-0 c.deref.ensures.value c.deref-in-loop-waiting.ensures.value c.in_default.is c.in_ok-lit.ensures)
          c.loop-waiting.invariant;
      within = c.loop-waiting.invariant.within;
    }
