use Rattle.std.proofs.Common.{◌≡◌, ◌<◌, ◌∙◌, sym, subst, ap, length, map, List, Option}
use Rattle.std.specs.Vec.{with_items}
use Rattle.std.proofs.lemmas.List.{with_items_is, length-map}
use Rattle.parity_engine.specs.declared.state.Mood.TheVariants.{Calm}
use Rattle.parity_engine.specs.State.{State, Named, keep, back}
use Rattle.gauss_jordan.specs.Slots.{AreKept, state_of}
use Rattle.gauss_jordan.proofs.ScratchSteps.{scratch_back, states_back}
use Rattle.gauss_jordan.proofs.scratch.ScratchParityEngine.back_to.Goals as goal
use Rattle.gauss_jordan.proofs.scratch.ScratchParityEngine.back_to.Goals.{After-keep_slots}

kept : (c : After-keep_slots) → AreKept c.args.level c.self.inside.slots.items c.keep_slots.new.slots (length c.self.inside.slots.items)
kept c = rw c.deref_mut-2.ensures.value at c.keep_slots.ensures

held : (c : After-keep_slots) → c.keep_held.new.held ≡ map (keep c.args.level) c.self.inside.held.items
held c = c.keep_held.ensures ∙ ap (map (keep c.args.level)) c.deref_mut.ensures.value

pub invariant_of-self : goal.invariant_of-self
invariant_of-self c =
    let m = c.self.inside in
    let s = (goal.at.invariant_of-self c).After-keep_slots in
    rw (
      with_items_is m.slots c.keep_slots.new.slots ((kept s).long ∙ sym m.slots.ok.0),
      with_items_is m.held c.keep_held.new.held (ap length (held s) ∙ length-map m.held.items (keep c.args.level) ∙ sym m.held.ok.0),
      held s,
    )
    (record {
      is =
          scratch_back m.matrix m.level m.held.items m.assigned.items m.truths.items m.slots.items m.mood c.self.invariant.is c.args.level c.keep_slots.new.slots
          (subst (λ (s : State). c.args.level < s.level) (sym c.self.view_is) c.requires) (kept s);
      variables_are = c.self.invariant.variables_are;
    })

pub returns : goal.returns
returns c =
    let m = c.self.inside in
    let s = (goal.at.returns c).After-keep_slots in
    let slots_is = with_items_is m.slots c.keep_slots.new.slots ((kept s).long ∙ sym m.slots.ok.0) in
    let held_is = with_items_is m.held c.keep_held.new.held (ap length (held s) ∙ length-map m.held.items (keep c.args.level) ∙ sym m.held.ok.0) ∙ held s in
    ap (λ hs. state_of m.matrix c.args.level hs (with_items m.slots c.keep_slots.new.slots).items Calm) held_is
    ∙ ap (λ ss. state_of m.matrix c.args.level (map (keep c.args.level) m.held.items) ss Calm) slots_is
    ∙ ap (λ (ns : List (Option Named)). let s : State = record { vars = m.matrix.vars; parities = m.matrix.given; level = c.args.level; values = map (keep c.args.level) m.held.items; named = ns; mood = Calm } in s)
    (states_back m.matrix c.args.level m.level m.held.items m.slots.items c.keep_slots.new.slots m.mood (kept s))
    ∙ ap (back c.args.level) c.self.view_is
