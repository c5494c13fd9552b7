use Rattle.std.proofs.Common.{◌≤◌, inl, inr, arith}
use Rattle.std.proofs.lemmas.Bool.{cases_eq}
use Rattle.std.specs.BinaryHeap.{heap_items}
use Rattle.std.proofs.lemmas.List.Elements.{All-contains}
use Rattle.std.proofs.lemmas.List.Sorted.{le_from_greatest}
use Rattle.rup_engine.proofs.GatherSteps.{first_goes, behind_goes, inside_behind}
use Rattle.rup_engine.proofs.gather.next_place.Goals as goal

pub loop-place-init : goal.loop-place-init
loop-place-init c = record { fewer = λ p h. h; others = λ p h ne. h; heap = λ h. h }

pub loop-place-preserved : goal.loop-place-preserved
loop-place-preserved c = record {
  fewer = behind_goes c.in-Some.place (heap_items c.args.places.now) (heap_items c.loop-place.places) (heap_items c.pop.new.self) c.in-Some.ensures.permutation c.loop-place.invariant.fewer;
  others = first_goes c.args.before c.in-Some.place (heap_items c.args.places.now) (heap_items c.loop-place.places) (heap_items c.pop.new.self) c.if-place-before.false c.in-Some.ensures.permutation c.loop-place.invariant.others;
  heap = λ h. (c.in-Some.ensures.heap_order (c.loop-place.invariant.heap h)).0;
}

pub returns-then-place-before : goal.returns-then-place-before
returns-then-place-before c = record {
  still = heap_items c.loop-place.places;
  fewer = c.loop-place.invariant.fewer;
  others = c.loop-place.invariant.others;
  taken = c.in-Some.ensures.permutation;
  another = c.if-place-before.true;
  heap = λ h. (c.in-Some.ensures.heap_order (c.loop-place.invariant.heap h)).0;
  greatest = λ h p inside. All-contains (λ y. y ≤ c.in-Some.place) (heap_items c.loop-place.places) p
      (le_from_greatest c.in-Some.place (heap_items c.loop-place.places) (c.in-Some.ensures.heap_order (c.loop-place.invariant.heap h)).1)
      (inside_behind c.in-Some.place (heap_items c.loop-place.places) (heap_items c.pop.new.self) c.in-Some.ensures.permutation p inside);
}

pub returns : goal.returns
returns c p h = elim (cases_eq p c.args.before) [
  | inl e ↦ e
  | inr ne ↦ let w = c.loop-place.invariant.others p h ne in let less = w.1 in absurd (omega (arith, less, c.loop-place.places.data.ok, c.in_default.ensures.none))
]
