use Rattle.std.proofs.Common.{◌≡◌, ◌∙◌, ◌+◌, ◌<◌, refl, sym, ap, subst, length, get_or, map, false, List, ℕ, arith}
use Rattle.std.proofs.lemmas.Bool.{le-ltb}
use Rattle.gf2_rows.specs.Bits.{bit_of}
use Rattle.gf2_matrix.specs.declared.packed.PackedRow.{PackedRow}
use Rattle.gf2_matrix.specs.Columns.{place}
use Rattle.gf2_matrix.specs.Content.{Content, row_at}
use Rattle.gf2_matrix.specs.Packed.{window, window_at}
use Rattle.gf2_matrix.proofs.Rows.{row_within, row_window}
use Rattle.gf2_matrix.proofs.Room.{part_there}
use Rattle.gf2_matrix.proofs.Windows.{sources_of_row, source_of_row, source_past_row, room_for_sources}
use Rattle.gf2_matrix.proofs.matrix.Matrix.has_source.Goals as goal
use Rattle.gf2_matrix.proofs.matrix.Matrix.has_source.Goals.{After-deref}

row_in : (c : After-deref) → c.args.row < length c.self.inside.rows
row_in c = let m = c.self.inside in row_within m.vars m.given m.columns.items (map window m.parts.items) m.rows c.args.row _ c.self.view_is c.requires.row_in

here : (c : After-deref) → window_at (map window c.self.inside.parts.items) (get_or c.self.inside.rows c.args.row c.row-words.result).part ≡ window c.index.result.now
here c =
    let m = c.self.inside in
    row_window m.vars m.given m.columns.items m.places.items m.parts.items m.rows m.spares.items m.no_columns.items c.self.invariant.matrix c.args.row c.row-words.result c.index.result.now
    (row_in c) (c.row-words.ensures c.row-words.result) c.index.ensures

at_in : (c : After-deref) → c.args.at < length c.self.inside.given
at_in c = subst (λ (s : Content). c.args.at < length s.given) (sym c.self.view_is) c.requires.at_in

-- the bit at the place of the parity's number
bit_is : (c : After-deref) (words : List ℕ) (p : ℕ) → words ≡ c.row-words.result.sources → p ≡ place c.deref.result.now (c.args.at + 1)
    → bit_of words p ≡ get_or (row_at c.args.self.now.rows c.args.row).sources c.args.at false
bit_is c words p words_are p_is =
    let m = c.self.inside in
    ap (λ ws. bit_of ws p) (words_are ∙ ap (λ (r : PackedRow). r.sources) (c.row-words.ensures c.row-words.result))
    ∙ ap (bit_of (get_or m.rows c.args.row c.row-words.result).sources) (p_is ∙ ap (λ ns. place ns (c.args.at + 1)) c.deref.ensures.value)
    ∙ source_of_row m.vars m.given m.columns.items m.places.items (map window m.parts.items) m.rows m.spares.items m.no_columns.items c.self.invariant.matrix c.args.row c.row-words.result (row_in c)
    (window c.index.result.now) (here c) c.args.at (at_in c)
    ∙ ap (λ (t : Content). get_or (row_at t.rows c.args.row).sources c.args.at false) c.self.view_is

pub place_of-place-requires : goal.place_of-place-requires
place_of-place-requires c =
    let m = c.self.inside in
    let s = (goal.at.place_of-place-requires c).After-deref in
    rw c.deref.ensures.value
    (sources_of_row m.vars m.given m.columns.items m.places.items (map window m.parts.items) m.rows m.spares.items m.no_columns.items c.self.invariant.matrix c.args.row c.row-words.result (row_in s)
    (window c.index.result.now) (here s))

pub bit-requires : goal.bit-requires
bit-requires c =
    let m = c.self.inside in
    let s = (goal.at.bit-requires c).After-deref in
    let room =
    room_for_sources m.vars m.given m.columns.items m.places.items (map window m.parts.items) m.rows m.spares.items m.no_columns.items c.self.invariant.matrix c.args.row c.row-words.result (row_in s)
    (window c.index.result.now) (here s) in
    let rows : length c.row-words.result.sources ≡ length (get_or m.rows c.args.row c.row-words.result).sources =
    ap (λ (r : PackedRow). length r.sources) (c.row-words.ensures c.row-words.result) in
    let small = c.if-place-len.true in
    let len = c.len.ensures in
    let size : length c.deref.result.now ≡ length c.index.result.now.sources.items = ap length c.deref.ensures.value in
    omega (arith, c.deref.ensures.len)

pub returns-then-place-len : goal.returns-then-place-len
returns-then-place-len c =
    let s = (goal.at.returns-then-place-len c).After-deref in
    c.bit.ensures ∙ bit_is s c.row-words.result.sources c.place_of-place.result refl c.place_of-place.ensures

pub returns-else-place-len : goal.returns-else-place-len
returns-else-place-len c =
    let m = c.self.inside in
    let s = (goal.at.returns-else-place-len c).After-deref in
    let words : List ℕ = c.row-words.result.sources in
    let past : bit_of words c.place_of-place.result ≡ false =
    ap (λ (r : PackedRow). bit_of r.sources c.place_of-place.result) (c.row-words.ensures c.row-words.result)
    ∙ source_past_row m.vars m.given m.columns.items m.places.items (map window m.parts.items) m.rows m.spares.items m.no_columns.items c.self.invariant.matrix c.args.row c.row-words.result (row_in s)
    (window c.index.result.now) (here s) c.place_of-place.result
    (let small = c.if-place-len.false in let len = c.len.ensures in let size = ap length c.deref.ensures.value in omega (arith, c.deref.ensures.len)) in
    le-ltb c.place_of-place.result c.len.result (let small = c.if-place-len.false in omega arith)
    ∙ sym past ∙ bit_is s words c.place_of-place.result refl c.place_of-place.ensures

pub index-requires : goal.index-requires
index-requires c =
    let m = c.self.inside in
    part_there m.vars m.given m.columns.items m.places.items m.parts.items m.rows m.spares.items m.no_columns.items c.self.invariant.matrix c.args.self.now c.self.view_is c.args.row c.requires.row_in
    c.row-words.result (c.row-words.ensures c.row-words.result) m.parts.len m.parts.ok.0
