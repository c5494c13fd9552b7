use Rattle.std.proofs.Common.{◌∙◌, ◌-◌, ◌<◌, ◌≤◌, length, ap, sym, subst, inl, inr, arith}
use Rattle.std.proofs.lemmas.Bool.{cases_eq, cases_lt}
use Rattle.cx_trail.specs.declared.entry.Entry.{Entry}
use Rattle.cx_trail.specs.Sequence.{entry_at}
use Rattle.search_policy.specs.Heaps.{item_at}
use Rattle.search_policy.proofs.heap.put_back.Goals as goal

pub insert-left-requires : goal.insert-left-requires
insert-left-requires c =
    let i = c.back.invariant in
    let sound = c.len-place.ensures.sound in
    let at : c.back.place - 1 < length c.args.trail.now.entries = omega (arith, c.back-test.true, i.inside) in
    let variable = c.number-index.ensures.number ∙ c.var.ensures ∙ ap (λ (e : Entry). e.literal.variable) c.entry-in-back.ensures.is in
    let low = sound.low (c.back.place - 1) at in
    let high = sound.high (c.back.place - 1) at in
    record {
      order = i.order;
      few = c.requires.few;
      index = omega (arith, variable, low, high, c.requires.variables);
    }

pub back-preserved : goal.back-preserved
back-preserved c =
    let i = c.back.invariant in
    let sound = c.len-place.ensures.sound in
    let entries = c.args.trail.now.entries in
    let places = c.insert-left.new.heap.places.items in
    let variable = c.number-index.ensures.number ∙ c.var.ensures ∙ ap (λ (e : Entry). e.literal.variable) c.entry-in-back.ensures.is in
    record {
      order = c.insert-left.ensures.order;
      stays = λ v h b. c.insert-left.ensures.stays v h (i.stays v h b);
      inside = omega (arith, i.inside);
      put = λ k low high.
          elim (cases_eq k (c.back.place - 1)) [
            | inl e ↦
                subst (λ n. item_at places ((entry_at entries n).literal.variable - 1) < c.insert-left.result) (sym e)
                (subst (λ v. item_at places (v - 1) < c.insert-left.result) variable c.insert-left.ensures.put)
            | inr ne ↦
                let above = sound.low k high in
                let below = sound.high k high in
                c.insert-left.ensures.stays ((entry_at entries k).literal.variable - 1) (omega (arith, above, below, c.requires.variables)) (i.put k (omega arith) high)
          ];
    }

pub returns-else-entry-level : goal.returns-else-entry-level
returns-else-entry-level c =
    let i = c.back.invariant in
    let sound = c.len-place.ensures.sound in
    let entries = c.args.trail.now.entries in
    let at : c.back.place - 1 < length entries = omega (arith, c.back-test.true, i.inside) in
    let level : (entry_at entries (c.back.place - 1)).level ≤ c.args.level = subst (λ (e : Entry). e.level ≤ c.args.level) c.entry.ensures.is c.if-entry-level.false in
    record {
      order = i.order;
      stays = i.stays;
      put = λ k high over.
          elim (cases_lt k c.back.place) [
            | inl small ↦ let rise = sound.rising k (c.back.place - 1) (omega arith) at in absurd (omega (arith, rise, level, over))
            | inr ge ↦ i.put k ge high
          ];
    }

pub returns-after-back : goal.returns-after-back
returns-after-back c =
    let i = c.back.invariant in
    let none = c.back-test.false in
    record {
      order = i.order;
      stays = i.stays;
      put = λ k high over. i.put k (omega arith) high;
    }
