use Rattle.std.proofs.Common.{◌≡◌, ◌∙◌, ℕ, ◌+◌, ◌-◌, ◌<◌, refl, sym, ap, subst, arith, length, get_or, map, true, List}
use Rattle.std.specs.List.{count_by}
use Rattle.gf2_rows.specs.Bits.{bits_of}
use Rattle.gf2_rows.specs.Tables.{words_at}
use Rattle.gf2_matrix.specs.declared.packed.PackedRow.{PackedRow}
use Rattle.gf2_matrix.specs.Content.{Content, IsColumnSet, has, row_at, rows_with}
use Rattle.gf2_matrix.specs.Packed.{window, window_at, content}
use Rattle.gf2_matrix.specs.ByColumn.{IsByColumn, set_size}
use Rattle.gf2_matrix.proofs.Rows.{row_within, row_window}
use Rattle.gf2_matrix.proofs.PivotSets.{row_by_column}
use Rattle.gf2_matrix.proofs.RowCounts.{column_at, column_set, rows_of_set}
use Rattle.gf2_matrix.proofs.Room.{row_there, part_there, by_column_there, from_fits}
use Rattle.gf2_matrix.proofs.matrix.Matrix.column_set.Goals as goal
use Rattle.gf2_matrix.proofs.matrix.Matrix.column_set.Goals.{After-index, After-row-set}

row_in : (c : After-index) → c.args.row < length c.self.inside.rows
row_in c = let m = c.self.inside in row_within m.vars m.given m.columns.items (map window m.parts.items) m.rows c.args.row _ c.self.view_is c.requires.row_in

here : (c : After-index) → window_at (map window c.self.inside.parts.items) (get_or c.self.inside.rows c.args.row c.row-at.result).part ≡ window c.index-part.result.now
here c =
    let m = c.self.inside in
    row_window m.vars m.given m.columns.items m.places.items m.parts.items m.rows m.spares.items m.no_columns.items c.self.invariant.matrix c.args.row c.row-at.result c.index-part.result.now
    (row_in c) (c.row-at.ensures c.row-at.result) c.index-part.ensures

by_here : (c : After-index) → IsByColumn (window c.index-part.result.now) c.self.inside.rows c.index.result.now
by_here c =
    let m = c.self.inside in
    row_by_column m.vars m.given m.columns.items m.places.items (map window m.parts.items) m.rows m.spares.items m.no_columns.items c.self.invariant.matrix c.args.row c.row-at.result (row_in c) (window c.index-part.result.now) (here c) m.by_columns.items c.index.result.now
    c.self.invariant.by_column (c.index.ensures ∙ ap (λ (r : PackedRow). get_or m.by_columns.items r.part c.index.result.now) (c.row-at.ensures c.row-at.result))

-- the column in its part
at_column : (c : After-index)
    → (i : ℕ) × (i < length c.index-part.result.now.columns.items) × (c.args.column ≡ c.index-part.result.now.base + i)
    × (get_or c.self.inside.columns.items c.args.column 0 ≡ get_or c.index-part.result.now.columns.items i 0)
at_column c =
    let m = c.self.inside in
    column_at m.vars m.given m.columns.items m.places.items (map window m.parts.items) m.rows m.spares.items m.no_columns.items c.self.invariant.matrix c.args.row c.row-at.result (row_in c) (window c.index-part.result.now) (here c)
    c.index.result.now (by_here c) c.args.column (subst (λ (s : Content). c.args.column < length s.columns) (sym c.self.view_is) c.requires.column_in)
    (subst (λ (s : Content). has (row_at s.rows c.args.row) (get_or s.columns c.args.column 0 - 1) ≡ true) (sym c.self.view_is) c.requires.has)

pub overflow_sub-column : goal.overflow_sub-column
overflow_sub-column c = let e = (at_column (goal.at.overflow_sub-column c).After-index).2 in omega arith

pub row-set-requires : goal.row-set-requires
row-set-requires c =
    let s = (goal.at.row-set-requires c).After-index in
    let at = at_column s in
    let lt = at.1 in
    let e = at.2 in
    let count = (by_here s).count in
    omega arith

-- the words of the column's set
words_are : (c : After-row-set) → c.row-set.result ≡ words_at c.index.result.now.sets (c.args.column - c.index-part.result.now.base)
words_are c = c.row-set.ensures

column_within : (c : After-index) → c.args.column - c.index-part.result.now.base < length c.index-part.result.now.columns.items
column_within c = let at = at_column c in let lt = at.1 in let e = at.2 in omega arith

column_is : (c : After-index) → get_or c.self.inside.columns.items c.args.column 0 ≡ get_or c.index-part.result.now.columns.items (c.args.column - c.index-part.result.now.base) 0
column_is c =
    let at = at_column c in
    let e = at.2 in
    let same : at.0 ≡ c.args.column - c.index-part.result.now.base = omega arith in
    at.3 ∙ ap (λ i. get_or c.index-part.result.now.columns.items i 0) same

has_it : (c : After-index)
    → has (row_at (content c.self.inside.vars c.self.inside.given c.self.inside.columns.items (map window c.self.inside.parts.items) c.self.inside.rows).rows c.args.row)
    (get_or c.index-part.result.now.columns.items (c.args.column - c.index-part.result.now.base) 0 - 1) ≡ true
has_it c =
    let m = c.self.inside in
    ap (λ v. has (row_at (content m.vars m.given m.columns.items (map window m.parts.items) m.rows).rows c.args.row) (v - 1)) (sym (column_is c))
    ∙ subst (λ (s : Content). has (row_at s.rows c.args.row) (get_or s.columns c.args.column 0 - 1) ≡ true) (sym c.self.view_is) c.requires.has

-- what is so of the row's column in its part is so of the column
seen : (c : After-index) (numbers words : List ℕ)
    → IsColumnSet (content c.self.inside.vars c.self.inside.given c.self.inside.columns.items (map window c.self.inside.parts.items) c.self.inside.rows).rows
    (get_or c.index-part.result.now.columns.items (c.args.column - c.index-part.result.now.base) 0 - 1) numbers words
    → IsColumnSet c.args.self.now.rows (get_or c.args.self.now.columns c.args.column 0 - 1) numbers words
seen c numbers words is =
    let m = c.self.inside in
    subst (λ (t : Content). IsColumnSet t.rows (get_or t.columns c.args.column 0 - 1) numbers words) c.self.view_is
    (subst (λ v. IsColumnSet (content m.vars m.given m.columns.items (map window m.parts.items) m.rows).rows (v - 1) numbers words) (sym (column_is c)) is)

pub returns-clause-set : goal.returns-clause-set
returns-clause-set c =
    let m = c.self.inside in
    let s = (goal.at.returns-clause-set c).After-index in
    let t = (goal.at.returns-clause-set c).After-row-set in
    let q = c.args.self.now in
    let x : ℕ = get_or q.columns c.args.column 0 - 1 in
    subst (λ (ns : List ℕ). IsColumnSet q.rows x ns c.row-set.result) (sym c.deref.ensures.value)
    (subst (λ (ws : List ℕ). IsColumnSet q.rows x c.index-part.result.now.numbers.items ws) (sym (words_are t))
    (seen s c.index-part.result.now.numbers.items (words_at c.index.result.now.sets (c.args.column - c.index-part.result.now.base))
    (column_set m.vars m.given m.columns.items m.places.items (map window m.parts.items) m.rows m.spares.items m.no_columns.items c.self.invariant.matrix c.args.row c.row-at.result (row_in s)
    (window c.index-part.result.now) (here s) c.index.result.now (by_here s) (c.args.column - c.index-part.result.now.base) (column_within s) (has_it s))))

pub row-at-requires : goal.row-at-requires
row-at-requires c =
    let m = c.self.inside in
    row_there m.vars m.given m.columns.items m.places.items m.parts.items m.rows m.spares.items m.no_columns.items c.self.invariant.matrix c.args.self.now c.self.view_is c.args.row c.requires.row_in (length m.rows) refl

pub index-part-requires : goal.index-part-requires
index-part-requires c =
    let m = c.self.inside in
    part_there m.vars m.given m.columns.items m.places.items m.parts.items m.rows m.spares.items m.no_columns.items c.self.invariant.matrix c.args.self.now c.self.view_is c.args.row c.requires.row_in
    c.row-at.result (c.row-at.ensures c.row-at.result) m.parts.len m.parts.ok.0

pub index-requires : goal.index-requires
index-requires c =
    let m = c.self.inside in
    by_column_there m.vars m.given m.columns.items m.places.items m.parts.items m.rows m.spares.items m.no_columns.items c.self.invariant.matrix c.args.self.now c.self.view_is c.args.row c.requires.row_in
    m.by_columns.items c.self.invariant.by_column c.row-at.result (c.row-at.ensures c.row-at.result) m.by_columns.len m.by_columns.ok.0

pub returns-clause-few : goal.returns-clause-few
returns-clause-few c =
    let m = c.self.inside in
    let fits =
    from_fits m.vars m.given m.columns.items m.places.items m.parts.items m.rows m.spares.items m.no_columns.items c.self.invariant.matrix c.args.self.now c.self.view_is c.args.row c.requires.row_in
    (length c.args.self.now.rows) (omega arith) in
    omega (arith, fits.fits)

pub returns-clause-count : goal.returns-clause-count
returns-clause-count c =
    let m = c.self.inside in
    let s = (goal.at.returns-clause-count c).After-index in
    let t = (goal.at.returns-clause-count c).After-row-set in
    let i : ℕ = c.args.column - c.index-part.result.now.base in
    let set = words_at c.index.result.now.sets i in
    ap (λ (ws : List ℕ). count_by (λ b. b) (bits_of ws)) (words_are t)
    ∙ subst (λ (u : Content). set_size set ≡ rows_with u.rows (get_or u.columns c.args.column 0 - 1)) c.self.view_is
    (subst (λ v. set_size set ≡ rows_with (content m.vars m.given m.columns.items (map window m.parts.items) m.rows).rows (v - 1)) (sym (column_is s))
    (rows_of_set m.vars m.given m.columns.items m.places.items (map window m.parts.items) m.rows m.spares.items m.no_columns.items c.self.invariant.matrix c.args.row c.row-at.result (row_in s)
    (window c.index-part.result.now) (here s) c.index.result.now (by_here s) i (column_within s) (has_it s)))
