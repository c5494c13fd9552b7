use Rattle.std.proofs.Common.{◌≡◌, ℕ, ◌+◌, ◌*◌, ◌/◌, ◌<◌, ◌≤◌, ◌-◌, ◌∙◌, refl, sym, ap, subst, length, get_or, set, map, List, true, false, arith}
use Rattle.std.proofs.lemmas.List.{length-map, get_or-set_same}
use Rattle.gf2_matrix.specs.Views.{words_for}
use Rattle.gf2_matrix.specs.declared.packed.PackedRow.{PackedRow}
use Rattle.gf2_matrix.specs.Content.{Content, pivoted, has, row_at}
use Rattle.gf2_matrix.specs.Packed.{Window, window, window_at, start, IsSameRow, IsSized, ArePlacesIn, ArePivoted, IsMatrix, unpacked}
use Rattle.gf2_matrix.proofs.Rows.{row_within, rows_after, matrix_after, part_read, window_small, members_in, members_sized, pivot_at, bit_low}
use Rattle.gf2_matrix.specs.Packed.{takes_pivot}
use Rattle.gf2_matrix.specs.Columns.{place}
use Rattle.gf2_matrix.specs.ByColumn.{IsByColumn}
use Rattle.gf2_matrix.specs.declared.by_column.ByColumn.{ByColumn}
use Rattle.gf2_rows.specs.Bits.{bit_of}
use Rattle.parity_engine.specs.Written.{AreRising}
use Rattle.parity_engine.proofs.Rising.{columns_rise}
use Rattle.gf2_matrix.proofs.Columns.{place_found}
use Rattle.gf2_matrix.proofs.Made.{few_columns}
use Rattle.gf2_matrix.proofs.PivotSets.{chosen_takes, chosen_within, turned_after, by_column_after}
use Rattle.gf2_matrix.proofs.Updates.{same_read}
use Rattle.cx_base.specs.declared.literal.TheConstants.{MAX_VARIABLE}
use Rattle.gf2_matrix.proofs.Room.{row_there, part_there, spare_there, by_column_there, number_fits, row_fits}
use Rattle.gf2_matrix.proofs.matrix.Matrix.add_to_others.Goals as goal
use Rattle.gf2_matrix.proofs.matrix.Matrix.add_to_others.Goals.{After-first, After-index-2, After-add_to_chosen}

row_in : (c : After-first) → c.args.row < length c.self.inside.rows
row_in c = let m = c.self.inside in row_within m.vars m.given m.columns.items (map window m.parts.items) m.rows c.args.row _ c.self.view_is c.requires.row_in

column_in : (c : After-first) → c.args.column < length c.self.inside.columns.items
column_in c = subst (λ (s : Content). c.args.column < length s.columns) (sym c.self.view_is) c.requires.column_in

has_column : (c : After-first)
    → has (row_at (map (unpacked c.self.inside.vars (length c.self.inside.given) (map window c.self.inside.parts.items)) c.self.inside.rows) c.args.row)
    (get_or c.self.inside.columns.items c.args.column 0 - 1) ≡ true
has_column c = subst (λ (s : Content). has (row_at s.rows c.args.row) (get_or s.columns c.args.column 0 - 1) ≡ true) (sym c.self.view_is) c.requires.has

part_in : (c : After-first) → c.row-words.result.part < length c.self.inside.parts.items
part_in c =
    let m = c.self.inside in
    let d : PackedRow = c.row-words.result in
    let placed : d.part < length (map window m.parts.items) =
    subst (λ (r : PackedRow). r.part < length (map window m.parts.items)) (sym (c.row-words.ensures c.row-words.result)) (c.self.invariant.matrix.placed c.args.row d (row_in c)) in
    let long = length-map m.parts.items window in
    omega arith

-- the window of the row
here : (c : After-first) → window_at (map window c.self.inside.parts.items) (get_or c.self.inside.rows c.args.row c.row-words.result).part ≡ window c.index-part.result.now
here c =
    let m = c.self.inside in
    ap (λ (r : PackedRow). window_at (map window m.parts.items) r.part) (sym (c.row-words.ensures c.row-words.result))
    ∙ part_read m.parts.items c.row-words.result.part c.index-part.result.now (part_in c) ∙ ap window (sym c.index-part.ensures)

base_small : (c : After-first) → c.index-part.result.now.base ≤ MAX_VARIABLE
base_small c =
    let m = c.self.inside in
    subst (λ (w : Window). w.base ≤ MAX_VARIABLE) (here c)
    (window_small m.vars m.given m.columns.items m.places.items (map window m.parts.items) m.rows m.spares.items m.no_columns.items c.args.row c.row-words.result c.self.invariant.matrix (row_in c))

low : (c : After-first) → 64 * (c.index-part.result.now.base / 64) ≤ c.args.column
low c =
    let m = c.self.inside in
    subst (λ (w : Window). 64 * (w.base / 64) ≤ c.args.column) (here c)
    (bit_low m.vars m.given m.columns.items m.places.items (map window m.parts.items) m.rows m.spares.items m.no_columns.items c.args.row c.row-words.result c.self.invariant.matrix (row_in c)
    c.args.column (column_in c) (has_column c))

-- the column in the window, the place of the row among its numbers, and the rows by column
at_column : (c : After-first) → (i : ℕ) × (i < length c.index-part.result.now.columns.items) × (c.args.column ≡ c.index-part.result.now.base + i)
at_column c =
    let m = c.self.inside in
    subst (λ (w : Window). (i : ℕ) × (i < length w.columns) × (c.args.column ≡ w.base + i)) (here c)
    (pivot_at m.vars m.given m.columns.items m.places.items (map window m.parts.items) m.rows m.spares.items m.no_columns.items c.args.row c.row-words.result c.self.invariant.matrix (row_in c)
    c.args.column (column_in c) (has_column c))

numbers_rise : (c : After-first) → AreRising 1 (length c.self.inside.given) c.index-part.result.now.numbers.items
numbers_rise c =
    let m = c.self.inside in
    let d : PackedRow = c.row-words.result in
    subst (λ (w : Window). AreRising 1 (length m.given) w.numbers) (here c)
    (c.self.invariant.matrix.windows_are.numbers_rise (get_or m.rows c.args.row d).part (c.self.invariant.matrix.placed c.args.row d (row_in c)))

columns_few : (c : After-first) → length c.index-part.result.now.columns.items ≤ c.self.inside.vars
columns_few c =
    let m = c.self.inside in
    let d : PackedRow = c.row-words.result in
    few_columns m.vars c.index-part.result.now.columns.items
    (subst (λ (w : Window). AreRising 1 m.vars w.columns) (here c)
    (c.self.invariant.matrix.windows_are.rise (get_or m.rows c.args.row d).part (c.self.invariant.matrix.placed c.args.row d (row_in c))))

at_place : (c : After-first) → (i : ℕ) × (i < length c.index-part.result.now.numbers.items) × (get_or c.index-part.result.now.numbers.items i 0 ≡ c.args.row + 1)
    × (place c.index-part.result.now.numbers.items (c.args.row + 1) ≡ i)
at_place c =
    let m = c.self.inside in
    let d : PackedRow = c.row-words.result in
    let ns : List ℕ = c.index-part.result.now.numbers.items in
    let listed : (i : ℕ) × (i < length ns) × (get_or ns i 0 ≡ c.args.row + 1) =
    subst (λ (w : Window). (i : ℕ) × (i < length w.numbers) × (get_or w.numbers i 0 ≡ c.args.row + 1)) (here c) (c.self.invariant.matrix.listed c.args.row d (row_in c)) in
    (listed.0, listed.1, listed.2, ap (place ns) (sym listed.2) ∙ place_found 1 ns listed.0 (columns_rise 1 (length m.given) ns (numbers_rise c)) listed.1)

places_in : (c : After-first) → ArePlacesIn c.self.inside.rows c.index-part.result.now.numbers.items
places_in c =
    let m = c.self.inside in
    subst (λ (w : Window). ArePlacesIn m.rows w.numbers) (here c)
    (members_in m.vars m.given m.columns.items m.places.items (map window m.parts.items) m.rows m.spares.items m.no_columns.items c.args.row c.row-words.result c.self.invariant.matrix (row_in c))

part_window : (c : After-first) → window_at (map window c.self.inside.parts.items) c.row-words.result.part ≡ window c.index-part.result.now
part_window c =
    part_read c.self.inside.parts.items c.row-words.result.part c.index-part.result.now (part_in c) ∙ ap window (sym c.index-part.ensures)

by_here : (c : After-first) (d : ByColumn) → d ≡ get_or c.self.inside.by_columns.items c.row-words.result.part d → IsByColumn (window c.index-part.result.now) c.self.inside.rows d
by_here c d is =
    let m = c.self.inside in
    let long = length-map m.parts.items window in
    let lt = part_in c in
    subst (λ (w : Window). IsByColumn w m.rows d) (part_window c)
    (subst (IsByColumn (window_at (map window m.parts.items) c.row-words.result.part) m.rows) (sym is) (c.self.invariant.by_column.each c.row-words.result.part d (omega arith)))

-- the row has the words of its window
sized : (c : After-first) (e : PackedRow) → IsSized (window c.index-part.result.now) (get_or c.self.inside.rows c.args.row e)
sized c e =
    let m = c.self.inside in
    let d : PackedRow = c.row-words.result in
    subst (λ (w : Window). IsSized w (get_or m.rows c.args.row e)) (here c)
    (subst (λ (r : PackedRow). IsSized (window_at (map window m.parts.items) r.part) (get_or m.rows c.args.row e)) (same_read m.rows c.args.row e d (row_in c))
    (c.self.invariant.matrix.fitting c.args.row e (row_in c)).sized)

spare_sized : (c : After-first) (e : PackedRow) → IsSized (window c.index-part.result.now) (get_or c.self.inside.spares.items c.row-words.result.part e)
spare_sized c e =
    let m = c.self.inside in
    let d : PackedRow = c.row-words.result in
    let long = length-map m.parts.items window in
    let lt = part_in c in
    subst (λ (w : Window). IsSized w (get_or m.spares.items d.part e))
    (part_read m.parts.items d.part c.index-part.result.now lt ∙ ap window (sym c.index-part.ensures))
    (c.self.invariant.matrix.spares_sized d.part e (omega arith))

pub overflow_mul-bit : goal.overflow_mul-bit
overflow_mul-bit c =
    let s = (goal.at.overflow_mul-bit c).After-first in
    let h = base_small s in
    let e = c.first.ensures in
    omega arith

pub overflow_sub-bit : goal.overflow_sub-bit
overflow_sub-bit c =
    let s = (goal.at.overflow_sub-bit c).After-first in
    rw c.first.ensures (low s)

pub index_mut-requires : goal.index_mut-requires
index_mut-requires c =
    let m = c.self.inside in
    let s = (goal.at.index_mut-requires c).After-first in
    let lt = part_in s in
    let long = length-map m.parts.items window in
    let count = c.self.invariant.matrix.spares_count in
    let o = m.spares.ok.0 in
    omega arith

pub copy_row-requires : goal.copy_row-requires
copy_row-requires c =
    let s = (goal.at.copy_row-requires c).After-first in
    let a = subst (IsSized (window c.index-part.result.now)) (sym (c.row-words.ensures c.row-words.result)) (sized s c.row-words.result) in
    let b = subst (IsSized (window c.index-part.result.now)) (sym c.index_mut.ensures.value) (spare_sized s c.index_mut.result.now) in
    (a.0 ∙ sym b.0, a.1 ∙ sym b.1)

pub place_of-place-requires : goal.place_of-place-requires
place_of-place-requires c =
    let s = (goal.at.place_of-place-requires c).After-first in
    rw c.deref.ensures.value (columns_rise 1 (length c.self.inside.given) c.index-part.result.now.numbers.items (numbers_rise s))

pub overflow_sub-column : goal.overflow_sub-column
overflow_sub-column c = let e = (at_column (goal.at.overflow_sub-column c).After-first).2 in omega arith

pub turn-requires-clause-column_in : goal.turn-requires-clause-column_in
turn-requires-clause-column_in c =
    let s = (goal.at.turn-requires-clause-column_in c).After-first in
    let at = at_column s in
    let e = at.2 in
    let lt = at.1 in
    let count = (by_here s c.index_mut-2.result.now c.index_mut-2.ensures.value).count in
    omega arith

pub turn-requires-clause-place_in : goal.turn-requires-clause-place_in
turn-requires-clause-place_in c =
    let s = (goal.at.turn-requires-clause-place_in c).After-first in
    let at = at_place s in
    let lt = at.1 in
    let is : c.place_of-place.result ≡ at.0 = c.place_of-place.ensures ∙ ap (λ ns. place ns (c.args.row + 1)) c.deref.ensures.value ∙ at.3 in
    let room = (by_here s c.index_mut-2.result.now c.index_mut-2.ensures.value).room in
    omega arith

-- the words of the pivot's copy
copied : (spares : List PackedRow) (part : ℕ) (target row found : PackedRow) (words sources : ℕ) → found ≡ get_or (set spares part target) part found → part < length spares
    → IsSameRow target row → (length row.bits ≡ words) × (length row.sources ≡ sources)
    → (length found.bits ≡ words) × (length found.sources ≡ sources)
copied spares part target row found words sources is lt same sized =
    rw (is ∙ get_or-set_same spares part target found lt) (ap length same.bits ∙ sized.0, ap length same.sources ∙ sized.1)

pub turn-requires-clause-few : goal.turn-requires-clause-few
turn-requires-clause-few c =
    let m = c.self.inside in
    let s = (goal.at.turn-requires-clause-few c).After-first in
    let few = columns_few s in
    let small = c.self.invariant.matrix.few in
    let words = (subst (IsSized (window c.index-part.result.now)) (sym (c.row-words.ensures c.row-words.result)) (sized s c.row-words.result)).0 in
    omega arith

pub turn-requires-clause-within : goal.turn-requires-clause-within
turn-requires-clause-within c =
    let s = (goal.at.turn-requires-clause-within c).After-first in
    let words = (subst (IsSized (window c.index-part.result.now)) (sym (c.row-words.ensures c.row-words.result)) (sized s c.row-words.result)).0 in
    rw c.start-start.ensures (omega arith)

pub turn-requires-clause-sized : goal.turn-requires-clause-sized
turn-requires-clause-sized c =
    let by = by_here (goal.at.turn-requires-clause-sized c).After-first c.index_mut-2.result.now c.index_mut-2.ensures.value in
    λ i lt. by.sized i lt ∙ sym by.room

pub add_to_chosen-requires-clause-places : goal.add_to_chosen-requires-clause-places
add_to_chosen-requires-clause-places c = rw (c.deref-2.ensures.value) (places_in (goal.at.add_to_chosen-requires-clause-places c).After-first)

pub add_to_chosen-requires-clause-sized : goal.add_to_chosen-requires-clause-sized
add_to_chosen-requires-clause-sized c =
    let m = c.self.inside in
    let s = (goal.at.add_to_chosen-requires-clause-sized c).After-first in
    let lt = part_in s in
    let long = length-map m.parts.items window in
    let count = c.self.invariant.matrix.spares_count in
    let w = window c.index-part.result.now in
    let words = copied m.spares.items c.row-words.result.part c.copy_row.new.self c.row-words.result c.index-2.result.now (words_for (start w + length w.columns)) (words_for (length w.numbers))
    c.index-2.ensures (omega arith) c.copy_row.ensures (subst (IsSized w) (sym (c.row-words.ensures c.row-words.result)) (sized s c.row-words.result)) in
    rw (c.deref-2.ensures.value)
    (λ i d lt.
    let one : IsSized w (get_or m.rows (get_or c.index-part.result.now.numbers.items i 0 - 1) d) =
    subst (λ (w : Window). (j : ℕ) → j < length w.numbers → IsSized w (get_or m.rows (get_or w.numbers j 0 - 1) d)) (here s)
    (λ j small. members_sized m.vars m.given m.columns.items m.places.items (map window m.parts.items) m.rows m.spares.items m.no_columns.items c.args.row c.row-words.result
    c.self.invariant.matrix (row_in s) j d small) i lt in
    (one.0 ∙ sym words.0, one.1 ∙ sym words.1))

-- the sets of the part as they are turned
turned_is : (by_columns : List ByColumn) (part : ℕ) (turned found : ByColumn) → found ≡ get_or (set by_columns part turned) part found → part < length by_columns → found ≡ turned
turned_is by_columns part turned found is lt = is ∙ get_or-set_same by_columns part turned found lt

pub add_to_chosen-requires-clause-few : goal.add_to_chosen-requires-clause-few
add_to_chosen-requires-clause-few c =
    let m = c.self.inside in
    let s = (goal.at.add_to_chosen-requires-clause-few c).After-first in
    let lt = part_in s in
    let long = length-map m.parts.items window in
    let count = c.self.invariant.by_column.count in
    let is = turned_is m.by_columns.items c.row-words.result.part c.turn.new.self c.index.result.now c.index.ensures (omega arith) in
    let room = (by_here s c.index_mut-2.result.now c.index_mut-2.ensures.value).room in
    let kept = c.turn.ensures.room in
    let few = few_columns (length m.given) c.index-part.result.now.numbers.items (numbers_rise s) in
    let small = c.self.invariant.matrix.few_given in
    rw (c.deref-3.ensures.value, is) (omega arith)

-- the chosen rows take the pivot
takes : (c : After-index-2) → IsByColumn (window c.index-part.result.now) c.self.inside.rows c.index_mut-2.result.now → ArePlacesIn c.self.inside.rows c.index-part.result.now.numbers.items
    → (i : ℕ) × (i < length c.index-part.result.now.columns.items) × (c.args.column ≡ c.index-part.result.now.base + i)
    → (i : ℕ) × (i < length c.index-part.result.now.numbers.items) × (get_or c.index-part.result.now.numbers.items i 0 ≡ c.args.row + 1)
    × (place c.index-part.result.now.numbers.items (c.args.row + 1) ≡ i)
    → (i j : ℕ) (e : PackedRow) → i < length c.index-part.result.now.numbers.items → get_or c.index-part.result.now.numbers.items i 0 ≡ j + 1
    → bit_of c.turn.new.self.chosen.items i ≡ takes_pivot c.args.row (c.args.column - 64 * (c.index-part.result.now.base / 64)) j (get_or c.self.inside.rows j e)
takes c by places column_at place_at =
    let w = window c.index-part.result.now in
    let col = column_at.0 in
    let col_in = column_at.1 in
    let col_is = column_at.2 in
    let count = by.count in
    let is : c.place_of-place.result ≡ place_at.0 = c.place_of-place.ensures ∙ ap (λ ns. place ns (c.args.row + 1)) c.deref.ensures.value ∙ place_at.3 in
    chosen_takes w c.self.inside.rows c.index_mut-2.result.now c.args.row c.args.column c.place_of-place.result c.turn.new.self.chosen.items by places (omega arith) (omega arith)
    (let lt = place_at.1 in omega arith) (ap (λ i. get_or w.numbers i 0) is ∙ place_at.2) c.turn.ensures.chosen

-- and no place past them is chosen
within : (c : After-index-2) → IsByColumn (window c.index-part.result.now) c.self.inside.rows c.index_mut-2.result.now
    → (i : ℕ) × (i < length c.index-part.result.now.columns.items) × (c.args.column ≡ c.index-part.result.now.base + i)
    → (m : ℕ) → length c.index-part.result.now.numbers.items ≤ m → bit_of c.turn.new.self.chosen.items m ≡ false
within c by column_at =
    let i_in = column_at.1 in
    let i_is = column_at.2 in
    let count = by.count in
    chosen_within (window c.index-part.result.now) c.self.inside.rows c.index_mut-2.result.now (c.args.column - c.index-part.result.now.base) c.place_of-place.result c.turn.new.self.chosen.items
    by (omega arith) c.turn.ensures.chosen

pub add_to_chosen-requires-clause-chosen : goal.add_to_chosen-requires-clause-chosen
add_to_chosen-requires-clause-chosen c =
    let m = c.self.inside in
    let s = (goal.at.add_to_chosen-requires-clause-chosen c).After-first in
    let t = (goal.at.add_to_chosen-requires-clause-chosen c).After-index-2 in
    let lt = part_in s in
    let long = length-map m.parts.items window in
    let count = c.self.invariant.by_column.count in
    let is = turned_is m.by_columns.items c.row-words.result.part c.turn.new.self c.index.result.now c.index.ensures (omega arith) in
    rw (c.deref-2.ensures.value, c.deref-3.ensures.value, is, c.first.ensures)
    (takes t (by_here s c.index_mut-2.result.now c.index_mut-2.ensures.value) (places_in s) (at_column s) (at_place s))

-- the rows behind the pivot
done : (c : After-add_to_chosen) → c.row-words.result.part < length c.self.inside.parts.items
    → ArePivoted c.args.row (c.args.column - 64 * (c.index-part.result.now.base / 64)) c.copy_row.new.self c.index-part.result.now.numbers.items c.self.inside.rows c.add_to_chosen.new.rows
    (length c.index-part.result.now.numbers.items)
done c lt =
    let m = c.self.inside in
    let long = length-map m.parts.items window in
    let count = c.self.invariant.matrix.spares_count in
    let pivot_is = c.index-2.ensures ∙ get_or-set_same m.spares.items c.row-words.result.part c.copy_row.new.self c.index-2.result.now (omega arith) in
    rw (c.deref-2.ensures.value, c.first.ensures, pivot_is) at c.add_to_chosen.ensures

pub invariant_of-self : goal.invariant_of-self
invariant_of-self c =
    let m = c.self.inside in
    let s = (goal.at.invariant_of-self c).After-first in
    let target = c.copy_row.new.self in
    let new = c.add_to_chosen.new.rows in
    let told = done (goal.at.invariant_of-self c).After-add_to_chosen (part_in s) in
    let there = subst (λ (w : Window). ArePivoted c.args.row (c.args.column - 64 * (w.base / 64)) target w.numbers m.rows new (length w.numbers)) (sym (here s)) told in
    let copy = subst (IsSameRow target) ((c.row-words.ensures c.row-words.result) ∙ same_read m.rows c.args.row c.row-words.result c.row-words.result (row_in s)) c.copy_row.ensures in
    let part = c.row-words.result.part in
    let same_part = ap (λ (r : PackedRow). r.part) (sym (c.row-words.ensures c.row-words.result)) in
    let lt = part_in s in
    let long = length-map m.parts.items window in
    let count = c.self.invariant.matrix.spares_count in
    let w = window c.index-part.result.now in
    let turned = c.turn.new.self in
    let bit = c.args.column - 64 * (w.base / 64) in
    let by = by_here s c.index_mut-2.result.now c.index_mut-2.ensures.value in
    let chosen = takes (goal.at.invariant_of-self c).After-index-2 by (places_in s) (at_column s) (at_place s) in
    let turns = rw (← c.copy_row.ensures.bits, c.start-start.ensures) at c.turn.ensures.turned in
    let here_by = turned_after w m.rows new c.index_mut-2.result.now turned c.args.row bit target by chosen (within (goal.at.invariant_of-self c).After-index-2 by (at_column s)) told turns (c.turn.ensures.room ∙ by.room) in
    record {
      matrix = subst (λ p. IsMatrix m.vars m.given m.columns.items m.places.items (map window m.parts.items) new (set m.spares.items p target) m.no_columns.items) same_part
          (matrix_after m.vars m.given m.columns.items m.places.items (map window m.parts.items) m.rows c.add_to_chosen.new.rows m.spares.items c.copy_row.new.self m.no_columns.items
          c.args.row c.args.column c.row-words.result c.self.invariant.matrix (row_in s) (column_in s) (has_column s) copy there);
      by_column = by_column_after m.vars m.given m.columns.items m.places.items (map window m.parts.items) m.rows new m.spares.items m.no_columns.items c.args.row bit part target m.by_columns.items turned
          c.self.invariant.matrix (omega arith) c.self.invariant.by_column
          (subst (λ (v : Window). ArePivoted c.args.row bit target v.numbers m.rows new (length v.numbers)) (sym (part_window s)) told)
          (subst (λ (v : Window). IsByColumn v new turned) (sym (part_window s)) here_by);
    }

pub returns-clause-of_given : goal.returns-clause-of_given
returns-clause-of_given c =
    let m = c.self.inside in
    let s = (goal.at.returns-clause-of_given c).After-first in
    let target = c.copy_row.new.self in
    let new = c.add_to_chosen.new.rows in
    let told = done (goal.at.returns-clause-of_given c).After-add_to_chosen (part_in s) in
    let there = subst (λ (w : Window). ArePivoted c.args.row (c.args.column - 64 * (w.base / 64)) target w.numbers m.rows new (length w.numbers)) (sym (here s)) told in
    let copy = subst (IsSameRow target) ((c.row-words.ensures c.row-words.result) ∙ same_read m.rows c.args.row c.row-words.result c.row-words.result (row_in s)) c.copy_row.ensures in
    (matrix_after m.vars m.given m.columns.items m.places.items (map window m.parts.items) m.rows c.add_to_chosen.new.rows m.spares.items c.copy_row.new.self m.no_columns.items
    c.args.row c.args.column c.row-words.result c.self.invariant.matrix (row_in s) (column_in s) (has_column s) copy there).of_given

pub returns-clause-rows : goal.returns-clause-rows
returns-clause-rows c =
    let m = c.self.inside in
    let s = (goal.at.returns-clause-rows c).After-first in
    let target = c.copy_row.new.self in
    let new = c.add_to_chosen.new.rows in
    let told = done (goal.at.returns-clause-rows c).After-add_to_chosen (part_in s) in
    let there = subst (λ (w : Window). ArePivoted c.args.row (c.args.column - 64 * (w.base / 64)) target w.numbers m.rows new (length w.numbers)) (sym (here s)) told in
    let copy = subst (IsSameRow target) ((c.row-words.ensures c.row-words.result) ∙ same_read m.rows c.args.row c.row-words.result c.row-words.result (row_in s)) c.copy_row.ensures in
    ap (λ rs. let q : Content = record { vars = m.vars; given = m.given; columns = m.columns.items; rows = rs } in q)
    (rows_after m.vars m.given m.columns.items m.places.items (map window m.parts.items) m.rows c.add_to_chosen.new.rows m.spares.items c.copy_row.new.self m.no_columns.items
    c.args.row c.args.column c.row-words.result c.self.invariant.matrix (row_in s) (column_in s) (has_column s) copy there)
    ∙ ap (λ (q : Content). let r : Content = record q { rows = pivoted q.rows c.args.row (get_or q.columns c.args.column 0 - 1) } in r) c.self.view_is

-- the row, its part, and what is kept for the part
pub row-words-requires : goal.row-words-requires
row-words-requires c =
    let m = c.self.inside in
    row_there m.vars m.given m.columns.items m.places.items m.parts.items m.rows m.spares.items m.no_columns.items c.self.invariant.matrix c.args.self.now c.self.view_is c.args.row c.requires.row_in (length m.rows) refl

pub index-part-requires : goal.index-part-requires
index-part-requires c =
    let m = c.self.inside in
    part_there m.vars m.given m.columns.items m.places.items m.parts.items m.rows m.spares.items m.no_columns.items c.self.invariant.matrix c.args.self.now c.self.view_is c.args.row c.requires.row_in
    c.row-words.result (c.row-words.ensures c.row-words.result) m.parts.len m.parts.ok.0

pub index_mut-requires-2 : goal.index_mut-requires-2
index_mut-requires-2 c =
    let m = c.self.inside in
    by_column_there m.vars m.given m.columns.items m.places.items m.parts.items m.rows m.spares.items m.no_columns.items c.self.invariant.matrix c.args.self.now c.self.view_is c.args.row c.requires.row_in
    m.by_columns.items c.self.invariant.by_column c.row-words.result (c.row-words.ensures c.row-words.result) m.by_columns.len m.by_columns.ok.0

pub index-requires : goal.index-requires
index-requires c =
    let m = c.self.inside in
    by_column_there m.vars m.given m.columns.items m.places.items m.parts.items m.rows m.spares.items m.no_columns.items c.self.invariant.matrix c.args.self.now c.self.view_is c.args.row c.requires.row_in
    m.by_columns.items c.self.invariant.by_column c.row-words.result (c.row-words.ensures c.row-words.result) m.by_columns.len m.by_columns.ok.0

pub index-requires-2 : goal.index-requires-2
index-requires-2 c =
    let m = c.self.inside in
    spare_there m.vars m.given m.columns.items m.places.items m.parts.items m.rows m.spares.items m.no_columns.items c.self.invariant.matrix c.args.self.now c.self.view_is c.args.row c.requires.row_in
    c.row-words.result (c.row-words.ensures c.row-words.result) m.spares.len m.spares.ok.0

pub overflow_cast-row : goal.overflow_cast-row
overflow_cast-row c =
    let m = c.self.inside in
    row_fits m.vars m.given m.columns.items m.places.items m.parts.items m.rows m.spares.items m.no_columns.items c.self.invariant.matrix c.args.self.now c.self.view_is c.args.row c.requires.row_in

pub overflow_add-row : goal.overflow_add-row
overflow_add-row c =
    let m = c.self.inside in
    number_fits m.vars m.given m.columns.items m.places.items m.parts.items m.rows m.spares.items m.no_columns.items c.self.invariant.matrix c.args.self.now c.self.view_is c.args.row c.requires.row_in
