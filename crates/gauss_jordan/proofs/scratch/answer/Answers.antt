use Rattle.std.proofs.Common.{◌∙◌, ℕ, ◌<◌, Option, Some, None, sym, subst, arith, length, get_or, refl, true, false}
use Rattle.std.proofs.lemmas.List.{length-map, length-set, get_or-set_same}
use Rattle.gf2_matrix.specs.Content.{Content, row_at, form, source_numbers}
use Rattle.parity_engine.specs.declared.state.Naming.{Naming}
use Rattle.parity_engine.specs.declared.state.Mood.TheVariants.{Busy, Broken}
use Rattle.parity_engine.specs.State.{Named}
use Rattle.gauss_jordan.specs.declared.slot.RowSlot.{RowSlot}
use Rattle.gauss_jordan.specs.Slots.{named_of, IsNamedSlot, IsSlotOf, IsSlotSum}
use Rattle.gauss_jordan.proofs.ScratchEvents.{copy_named, masked, quiet, contradiction, state_named, not_named, named_now, literal_told, fit_implied, fit_kept}
use Rattle.gauss_jordan.proofs.scratch.answer.Goals as goal

-- a slot that is named has room for a row
named_fits : (m : Content) (row : ℕ) (naming : Naming) (old new : RowSlot) (o : Option Naming) → IsSlotOf m old → IsNamedSlot m row naming old new o → IsSlotOf m new
named_fits m row naming old new None fits copy = copy.fits
named_fits m row naming old new (Some n) fits same = subst (IsSlotOf m) (sym same) fits

pub overflow_cast-column : goal.overflow_cast-column
overflow_cast-column c =
    let m = c.args.sight.matrix.now in
    let r = c.requires.scratch in
    let og = r.of_given in
    let says = c.in-Literal.ensures in
    let few = og.columns_are.few in
    let small = r.few in
    let lt = says.1 in
    record { fits = omega arith }

pub returns-in-Nothing-clause-answers : goal.returns-in-Nothing-clause-answers
returns-in-Nothing-clause-answers c =
    let r = c.requires.scratch in (
      refl,
      c.in-Nothing.ensures _ (masked c.args.sight.matrix.now c.args.sight.level c.args.sight.held.now c.args.sight.assigned.now c.args.sight.truths.now c.args.slots.now c.args.mood r c.requires.whole c.requires.masks),
    )

pub returns-in-Nothing-clause-scratch : goal.returns-in-Nothing-clause-scratch
returns-in-Nothing-clause-scratch c =
    let r = c.requires.scratch in
    quiet c.args.sight.matrix.now c.args.sight.level c.args.sight.held.now c.args.sight.assigned.now c.args.sight.truths.now c.args.slots.now c.args.mood r c.requires.whole c.requires.masks
    (c.in-Nothing.ensures _ (masked c.args.sight.matrix.now c.args.sight.level c.args.sight.held.now c.args.sight.assigned.now c.args.sight.truths.now c.args.slots.now c.args.mood r c.requires.whole c.requires.masks))

pub returns-in-Contradiction-clause-answers : goal.returns-in-Contradiction-clause-answers
returns-in-Contradiction-clause-answers c =
    let m = c.args.sight.matrix.now in
    let r = c.requires.scratch in
    let row = c.in-Contradiction.row in
    let ri = r.right in
    let index = c.new.result in
    let at = c.new.ensures in
    let n : Named = record { level = c.args.sight.level; in_conflict = true; form = form (row_at m.rows row); sources = source_numbers (row_at m.rows row) } in
    let says = c.in-Contradiction.ensures in (
      n,
      (let e = c.columns-last.ensures.count in let q = ri.rows in omega arith),
      state_named m c.args.sight.level c.args.sight.held.now c.args.sight.assigned.now c.args.sight.truths.now c.args.slots.now c.args.mood r c.requires.whole c.requires.masks
          c.columns-last.result c.copy_row.new.slot n index Broken (copy_named m row (record { level = c.args.sight.level; in_conflict = true }) c.copy_row.new.slot c.copy_row.ensures) at,
      not_named m c.args.sight.level c.args.sight.held.now c.args.sight.assigned.now c.args.sight.truths.now c.args.slots.now c.args.mood r c.requires.whole c.requires.masks
          n index (at ∙ c.columns-last.ensures.count),
      named_now m c.args.sight.level c.args.sight.held.now c.args.sight.assigned.now c.args.sight.truths.now c.args.slots.now c.args.mood r c.requires.whole c.requires.masks
          row says.0 true,
      says.1 _ (masked m c.args.sight.level c.args.sight.held.now c.args.sight.assigned.now c.args.sight.truths.now c.args.slots.now c.args.mood r c.requires.whole c.requires.masks),
    )

pub returns-in-Contradiction-clause-scratch : goal.returns-in-Contradiction-clause-scratch
returns-in-Contradiction-clause-scratch c =
    let m = c.args.sight.matrix.now in
    let r = c.requires.scratch in
    let says = c.in-Contradiction.ensures in
    let index = length m.columns in
    rw c.columns-last.ensures.count
    (contradiction m c.args.sight.level c.args.sight.held.now c.args.sight.assigned.now c.args.sight.truths.now c.args.slots.now c.args.mood r c.requires.whole c.requires.masks
    c.in-Contradiction.row c.copy_row.new.slot index says.0 refl c.copy_row.ensures
    (says.1 _ (masked m c.args.sight.level c.args.sight.held.now c.args.sight.assigned.now c.args.sight.truths.now c.args.slots.now c.args.mood r c.requires.whole c.requires.masks)))

pub returns-in-Literal-clause-answers : goal.returns-in-Literal-clause-answers
returns-in-Literal-clause-answers c =
    let m = c.args.sight.matrix.now in
    let r = c.requires.scratch in
    let k = c.in-Literal.column in
    let slot = c.name.new.slot in
    let index = c.new-in-Literal-2.result in
    let at = c.new-in-Literal-2.ensures in
    let told = literal_told m c.args.sight.level c.args.sight.held.now c.args.sight.assigned.now c.args.sight.truths.now c.args.slots.now c.args.mood r c.requires.whole c.requires.masks
    k c.in-Literal.row c.in-Literal.field-2 (get_or c.args.slots.now k c.index-slots-column.result) slot c.index-slots-column.result c.in-Literal.ensures refl c.name.ensures in
    let t = told.1 in
    let f = t.fit in
    let in' : k < length c.args.slots.now = t.slot_in in
    let made = fit_implied m c.args.sight.level c.args.sight.held.now c.args.sight.assigned.now c.args.sight.truths.now c.args.slots.now c.args.mood r c.requires.whole c.requires.masks
    k slot told.0 t c.is_unmet-negative.result
    (subst (λ (s : RowSlot). IsSlotSum s c.args.sight.held.now (length c.args.sight.held.now) c.is_unmet-negative.result) (get_or-set_same c.args.slots.now k slot c.index-slots-column-in-Literal.result in') c.is_unmet-negative.ensures) in (
      told.0,
      omega (arith, length-map c.args.slots.now (named_of m)),
      state_named m c.args.sight.level c.args.sight.held.now c.args.sight.assigned.now c.args.sight.truths.now c.args.slots.now c.args.mood r c.requires.whole c.requires.masks
          k slot told.0 index Busy f.named at,
      f.same index at,
      f.now,
      rw (c.new-in-Literal.ensures, c.new-var.ensures, c.column.ensures.is) made,
    )

pub returns-in-Literal-clause-scratch : goal.returns-in-Literal-clause-scratch
returns-in-Literal-clause-scratch c =
    let m = c.args.sight.matrix.now in
    let r = c.requires.scratch in
    let k = c.in-Literal.column in
    let told = literal_told m c.args.sight.level c.args.sight.held.now c.args.sight.assigned.now c.args.sight.truths.now c.args.slots.now c.args.mood r c.requires.whole c.requires.masks
    k c.in-Literal.row c.in-Literal.field-2 (get_or c.args.slots.now k c.index-slots-column.result) c.name.new.slot c.index-slots-column.result c.in-Literal.ensures refl c.name.ensures in
    fit_kept m c.args.sight.level c.args.sight.held.now c.args.sight.assigned.now c.args.sight.truths.now c.args.slots.now c.args.mood r c.requires.whole c.requires.masks
    k c.name.new.slot told.0 told.1 k refl

pub find-requires : goal.find-requires
find-requires c = let r = c.requires.scratch in record { long = r.assigned_long; wide = r.truths_long; reduced = c.requires.reduced }

pub bounds-slots-last : goal.bounds-slots-last
bounds-slots-last c =
    let rows = c.requires.scratch.right.rows in
    let last = c.columns-last.ensures.count in
    omega (arith, length-map c.args.slots.now (named_of c.args.sight.matrix.now))

pub copy_row-requires : goal.copy_row-requires
copy_row-requires c =
    let r = c.requires.scratch in
    let rows = r.right.rows in
    let last = c.columns-last.ensures.count in
    let row_in = c.in-Contradiction.ensures.0 in
    record { row_in = row_in; sized = r.fits c.columns-last.result c.index-slots-last.result (omega (arith, length-map c.args.slots.now (named_of c.args.sight.matrix.now))) }

pub bounds-slots-column : goal.bounds-slots-column
bounds-slots-column c =
    let rows = c.requires.scratch.right.rows in
    let column = c.in-Literal.ensures.1 in
    omega (arith, length-map c.args.slots.now (named_of c.args.sight.matrix.now))

pub name-requires : goal.name-requires
name-requires c =
    let r = c.requires.scratch in
    let rows = r.right.rows in
    let says = c.in-Literal.ensures in
    let column = says.1 in
    record { row_in = says.0; sized = r.fits c.in-Literal.column c.index-slots-column.result (omega (arith, length-map c.args.slots.now (named_of c.args.sight.matrix.now))) }

pub bounds-slots-column-in-Literal : goal.bounds-slots-column-in-Literal
bounds-slots-column-in-Literal c =
    let rows = c.requires.scratch.right.rows in
    let column = c.in-Literal.ensures.1 in
    omega (arith, length-map c.args.slots.now (named_of c.args.sight.matrix.now), length-set c.args.slots.now c.in-Literal.column c.name.new.slot)

pub is_unmet-negative-requires : goal.is_unmet-negative-requires
is_unmet-negative-requires c =
    let m = c.args.sight.matrix.now in
    let r = c.requires.scratch in
    let k = c.in-Literal.column in
    let slots = c.args.slots.now in
    let rows = r.right.rows in
    let values = r.right.wide in
    let column = c.in-Literal.ensures.1 in
    let inside : k < length slots = omega (arith, length-map slots (named_of m)) in
    let old : RowSlot = get_or slots k c.index-slots-column.result in
    let fits = named_fits m c.in-Literal.row (record { level = c.args.sight.level; in_conflict = false }) old c.name.new.slot old.naming (r.fits k c.index-slots-column.result inside) c.name.ensures in
    rw (get_or-set_same slots k c.name.new.slot c.index-slots-column-in-Literal.result inside) (let wide = fits.terms in omega arith)

pub column-requires : goal.column-requires
column-requires c = c.in-Literal.ensures.1

pub new-var-requires : goal.new-var-requires
new-var-requires c = let high = c.column.ensures.high in record { low = c.column.ensures.low; high = omega (arith, c.requires.scratch.few) }
