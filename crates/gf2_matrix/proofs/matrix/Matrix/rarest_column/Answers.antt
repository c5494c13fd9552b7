use Rattle.std.proofs.Common.{◌≡◌, ◌∙◌, ℕ, ◌+◌, ◌-◌, ◌<◌, ◌≤◌, refl, sym, ap, subst, arith, length, get_or, map, true, false}
use Rattle.gf2_rows.specs.Bits.{bit_of}
use Rattle.gf2_matrix.specs.declared.packed.PackedRow.{PackedRow}
use Rattle.gf2_matrix.specs.Content.{Content, has, row_at, rows_with}
use Rattle.gf2_matrix.specs.Packed.{window, window_at}
use Rattle.gf2_matrix.specs.ByColumn.{IsByColumn}
use Rattle.gf2_matrix.proofs.Rows.{row_within, row_window}
use Rattle.gf2_matrix.proofs.PivotSets.{row_by_column, numbers_few, columns_high, column_found, column_none}
use Rattle.gf2_matrix.proofs.RowCounts.{counted_of_row, rarest_of_row}
use Rattle.gf2_matrix.proofs.Room.{row_there, part_there, by_column_there, words_few, start_within}
use Rattle.gf2_matrix.proofs.matrix.Matrix.rarest_column.Goals as goal
use Rattle.gf2_matrix.proofs.matrix.Matrix.rarest_column.Goals.{After-start}

row_in : (c : After-start) → c.args.row < length c.self.inside.rows
row_in c = let m = c.self.inside in row_within m.vars m.given m.columns.items (map window m.parts.items) m.rows c.args.row _ c.self.view_is c.requires

here : (c : After-start) → window_at (map window c.self.inside.parts.items) (get_or c.self.inside.rows c.args.row c.row-words.result).part ≡ window c.index-part.result.now
here c =
    let m = c.self.inside in
    row_window m.vars m.given m.columns.items m.places.items m.parts.items m.rows m.spares.items m.no_columns.items c.self.invariant.matrix c.args.row c.row-words.result c.index-part.result.now
    (row_in c) (c.row-words.ensures c.row-words.result) c.index-part.ensures

by_here : (c : After-start) → IsByColumn (window c.index-part.result.now) c.self.inside.rows c.index.result.now
by_here c =
    let m = c.self.inside in
    row_by_column m.vars m.given m.columns.items m.places.items (map window m.parts.items) m.rows m.spares.items m.no_columns.items c.self.invariant.matrix c.args.row c.row-words.result (row_in c) (window c.index-part.result.now) (here c) m.by_columns.items c.index.result.now
    c.self.invariant.by_column (c.index.ensures ∙ ap (λ (r : PackedRow). get_or m.by_columns.items r.part c.index.result.now) (c.row-words.ensures c.row-words.result))

bits_are : (c : After-start) → c.row-words.result.bits ≡ (get_or c.self.inside.rows c.args.row c.row-words.result).bits
bits_are c = ap (λ (r : PackedRow). r.bits) (c.row-words.ensures c.row-words.result)

pub rarest-requires-clause-room : goal.rarest-requires-clause-room
rarest-requires-clause-room c =
    let m = c.self.inside in
    let s = (goal.at.rarest-requires-clause-room c).After-start in
    let room = (by_here s).room in
    let few = numbers_few m.vars m.given m.columns.items m.places.items (map window m.parts.items) m.rows m.spares.items m.no_columns.items c.self.invariant.matrix c.args.row c.row-words.result (row_in s) (window c.index-part.result.now) (here s) in
    let small = c.self.invariant.matrix.few_given in
    omega arith

pub rarest-requires-clause-sized : goal.rarest-requires-clause-sized
rarest-requires-clause-sized c =
    let by = by_here (goal.at.rarest-requires-clause-sized c).After-start in
    λ i lt. by.sized i lt ∙ sym by.room

pub rarest-requires-clause-some : goal.rarest-requires-clause-some
rarest-requires-clause-some c =
    let m = c.self.inside in
    let s = (goal.at.rarest-requires-clause-some c).After-start in
    let by = by_here s in
    let count = by.count in
    λ j j_in on.
    counted_of_row m.vars m.given m.columns.items m.places.items (map window m.parts.items) m.rows m.spares.items m.no_columns.items c.self.invariant.matrix c.args.row c.row-words.result (row_in s) (window c.index-part.result.now) (here s)
    c.index.result.now by c.row-words.result.bits (bits_are s) j (omega arith) (ap (λ f. bit_of c.row-words.result.bits (f + j)) (sym c.start.ensures) ∙ on)

pub overflow_add-result : goal.overflow_add-result
overflow_add-result c =
    let m = c.self.inside in
    let s = (goal.at.overflow_add-result c).After-start in
    let count = (by_here s).count in
    let lt = c.in-Some.ensures.column.0 in
    let high = columns_high m.vars m.given m.columns.items m.places.items (map window m.parts.items) m.rows m.spares.items m.no_columns.items c.self.invariant.matrix c.args.row c.row-words.result (row_in s) (window c.index-part.result.now) (here s) in
    omega arith

pub returns-in-Some-clause-column : goal.returns-in-Some-clause-column
returns-in-Some-clause-column c =
    let m = c.self.inside in
    let s = (goal.at.returns-in-Some-clause-column c).After-start in
    let e = c.index-part.result.now in
    let i = c.in-Some.column in
    let count = (by_here s).count in
    let lt = c.in-Some.ensures.column.0 in
    subst (λ (t : Content). (e.base + i < length t.columns) × (has (row_at t.rows c.args.row) (get_or t.columns (e.base + i) 0 - 1) ≡ true)) c.self.view_is
    (column_found m.vars m.given m.columns.items m.places.items (map window m.parts.items) m.rows m.spares.items m.no_columns.items c.self.invariant.matrix c.args.row c.row-words.result (row_in s) (window e) (here s) c.row-words.result.bits (bits_are s) i (omega arith)
    (ap (λ f. bit_of c.row-words.result.bits (f + i)) (sym c.start.ensures) ∙ c.in-Some.ensures.column.1))

pub returns-in-None-clause-column : goal.returns-in-None-clause-column
returns-in-None-clause-column c =
    let m = c.self.inside in
    let s = (goal.at.returns-in-None-clause-column c).After-start in
    let e = c.index-part.result.now in
    let count = (by_here s).count in
    subst (λ (t : Content). (k : ℕ) → k < length t.columns → has (row_at t.rows c.args.row) (get_or t.columns k 0 - 1) ≡ false) c.self.view_is
    (column_none m.vars m.given m.columns.items m.places.items (map window m.parts.items) m.rows m.spares.items m.no_columns.items c.self.invariant.matrix c.args.row c.row-words.result (row_in s) (window e) (here s) c.row-words.result.bits (bits_are s)
    (λ i lt. ap (λ f. bit_of c.row-words.result.bits (f + i)) (sym c.start.ensures) ∙ c.in-None.ensures.column i (omega arith)))

pub returns-in-Some-clause-rarest : goal.returns-in-Some-clause-rarest
returns-in-Some-clause-rarest c =
    let m = c.self.inside in
    let s = (goal.at.returns-in-Some-clause-rarest c).After-start in
    let e = c.index-part.result.now in
    let i = c.in-Some.column in
    let by = by_here s in
    let count = by.count in
    let lt = c.in-Some.ensures.column.0 in
    subst (λ (t : Content). (j : ℕ) → j < length t.columns → has (row_at t.rows c.args.row) (get_or t.columns j 0 - 1) ≡ true
    → rows_with t.rows (get_or t.columns (e.base + i) 0 - 1) ≤ rows_with t.rows (get_or t.columns j 0 - 1)) c.self.view_is
    (rarest_of_row m.vars m.given m.columns.items m.places.items (map window m.parts.items) m.rows m.spares.items m.no_columns.items c.self.invariant.matrix c.args.row c.row-words.result (row_in s) (window e) (here s)
    c.index.result.now by c.row-words.result.bits (bits_are s) i (omega arith) (ap (λ f. bit_of c.row-words.result.bits (f + i)) (sym c.start.ensures) ∙ c.in-Some.ensures.column.1)
    (λ j j_in on. c.in-Some.ensures.rarest i j refl j_in (ap (λ f. bit_of c.row-words.result.bits (f + j)) c.start.ensures ∙ on)))

pub row-words-requires : goal.row-words-requires
row-words-requires c =
    let m = c.self.inside in
    row_there m.vars m.given m.columns.items m.places.items m.parts.items m.rows m.spares.items m.no_columns.items c.self.invariant.matrix c.args.self.now c.self.view_is c.args.row c.requires (length m.rows) refl

pub index-part-requires : goal.index-part-requires
index-part-requires c =
    let m = c.self.inside in
    part_there m.vars m.given m.columns.items m.places.items m.parts.items m.rows m.spares.items m.no_columns.items c.self.invariant.matrix c.args.self.now c.self.view_is c.args.row c.requires
    c.row-words.result (c.row-words.ensures c.row-words.result) m.parts.len m.parts.ok.0

pub index-requires : goal.index-requires
index-requires c =
    let m = c.self.inside in
    by_column_there m.vars m.given m.columns.items m.places.items m.parts.items m.rows m.spares.items m.no_columns.items c.self.invariant.matrix c.args.self.now c.self.view_is c.args.row c.requires
    m.by_columns.items c.self.invariant.by_column c.row-words.result (c.row-words.ensures c.row-words.result) m.by_columns.len m.by_columns.ok.0

pub rarest-requires-clause-few : goal.rarest-requires-clause-few
rarest-requires-clause-few c =
    let m = c.self.inside in
    words_few m.vars m.given m.columns.items m.places.items m.parts.items m.rows m.spares.items m.no_columns.items c.self.invariant.matrix c.args.self.now c.self.view_is c.args.row c.requires
    c.row-words.result c.index-part.result.now (c.row-words.ensures c.row-words.result) c.index-part.ensures c.row-words.result.bits refl

pub rarest-requires-clause-within : goal.rarest-requires-clause-within
rarest-requires-clause-within c =
    let m = c.self.inside in
    start_within m.vars m.given m.columns.items m.places.items m.parts.items m.rows m.spares.items m.no_columns.items c.self.invariant.matrix c.args.self.now c.self.view_is c.args.row c.requires
    c.row-words.result c.index-part.result.now (c.row-words.ensures c.row-words.result) c.index-part.ensures c.row-words.result.bits refl c.start.result c.start.ensures
