use mir.Syntax.{w64}
use Rattle.std.proofs.Common.{Fits, ◌≡◌, ◌∙◌, ◌+◌, ◌*◌, ◌-◌, ◌/◌, ◌<◌, None, Some, refl, sym, ap, subst, arith, length, get_or, map}
use Rattle.gf2_matrix.specs.declared.packed.PackedRow.{PackedRow}
use Rattle.gf2_matrix.specs.Content.{Content, IsNextOutside}
use Rattle.gf2_matrix.specs.Packed.{Window, window, window_at}
use Rattle.gf2_matrix.proofs.Rows.{row_within, row_window}
use Rattle.gf2_matrix.proofs.Windows.{search_found, search_lacks}
use Rattle.gf2_matrix.proofs.Room.{HasRoom, row_there, part_there, row_room, end_fits, offset_fits, bit_fits, bits_fit, place_fits, start_before, few_words, window_long}
use Rattle.gf2_matrix.proofs.matrix.Matrix.next_outside.Goals as goal
use Rattle.gf2_matrix.proofs.matrix.Matrix.next_outside.Goals.{After-len, After-next_outside}

row_in : (c : After-next_outside) → c.args.row < length c.self.inside.rows
row_in c = let m = c.self.inside in row_within m.vars m.given m.columns.items (map window m.parts.items) m.rows c.args.row _ c.self.view_is c.requires.row_in

bits_are : (c : After-next_outside) → c.row-words.result.bits ≡ (get_or c.self.inside.rows c.args.row c.row-words.result).bits
bits_are c = ap (λ (r : PackedRow). r.bits) (c.row-words.ensures c.row-words.result)

first_is : (c : After-next_outside) → c.first-first.result ≡ (window_at (map window c.self.inside.parts.items) (get_or c.self.inside.rows c.args.row c.row-words.result).part).base / 64
first_is c =
    let m = c.self.inside in
    c.first-first.ensures
    ∙ ap (λ (w : Window). w.base / 64)
    (sym (row_window m.vars m.given m.columns.items m.places.items m.parts.items m.rows m.spares.items m.no_columns.items c.self.invariant.matrix c.args.row c.row-words.result c.index.result.now
    (row_in c) (c.row-words.ensures c.row-words.result) c.index.ensures))

long : (c : After-len) → c.len.result ≡ length c.row-words.result.bits
long c = c.len.ensures

pub returns-in-Some : goal.returns-in-Some
returns-in-Some c =
    let m = c.self.inside in
    let s = (goal.at.returns-in-Some c).After-next_outside in
    let t = (goal.at.returns-in-Some c).After-len in
    let first = c.in-Some.ensures.1 in
    let k = c.in-Some.place in
    let f = c.first-first.result in
    let found =
    search_found m.vars m.given m.columns.items m.places.items (map window m.parts.items) m.rows m.spares.items m.no_columns.items c.self.invariant.matrix c.args.row c.row-words.result (row_in s)
    c.args.mask.now c.row-words.result.bits f c.len.result None None (bits_are s) (first_is s) (long t) (λ _. refl) k c.in-Some.ensures.0 (first.hit c.in-Some.ensures.0) in
    let low = first.low in
    let high = c.in-Some.ensures.0 in
    subst (λ (t : Content). IsNextOutside t c.args.mask.now c.args.row c.args.from (Some (64 * f + k))) c.self.view_is (
      omega arith,
      (found.0, found.1, found.3),
      λ j ge lt free.
          search_lacks m.vars m.given m.columns.items m.places.items (map window m.parts.items) m.rows m.spares.items m.no_columns.items c.self.invariant.matrix c.args.row c.row-words.result (row_in s)
          c.args.mask.now c.row-words.result.bits f c.len.result None None (bits_are s) (first_is s) (long t) (λ _. refl) j (let in' = found.0 in omega arith) free refl
          (λ le in'. first.before (j - 64 * f) (omega arith) (omega arith)),
    )

pub returns-in-None : goal.returns-in-None
returns-in-None c =
    let m = c.self.inside in
    let s = (goal.at.returns-in-None c).After-next_outside in
    let t = (goal.at.returns-in-None c).After-len in
    let f = c.first-first.result in
    subst (λ (t : Content). IsNextOutside t c.args.mask.now c.args.row c.args.from None) c.self.view_is
    (λ k ge k_in free.
    search_lacks m.vars m.given m.columns.items m.places.items (map window m.parts.items) m.rows m.spares.items m.no_columns.items c.self.invariant.matrix c.args.row c.row-words.result (row_in s)
    c.args.mask.now c.row-words.result.bits f c.len.result None None (bits_are s) (first_is s) (long t) (λ _. refl) k k_in free refl
    (λ le in'. c.in-None.ensures (k - 64 * f) (omega arith) in'))

room : (c : After-len) → HasRoom c.first-first.result c.len.result (length c.args.mask.now)
room c =
    let m = c.self.inside in
    row_room m.vars m.given m.columns.items m.places.items m.parts.items m.rows m.spares.items m.no_columns.items c.self.invariant.matrix c.args.self.now c.self.view_is c.args.row c.requires.row_in
    c.row-words.result c.index.result.now (c.row-words.ensures c.row-words.result) c.index.ensures c.args.mask.now c.requires.long c.first-first.result c.len.result c.first-first.ensures c.len.ensures

pub row-words-requires : goal.row-words-requires
row-words-requires c =
    let m = c.self.inside in
    row_there m.vars m.given m.columns.items m.places.items m.parts.items m.rows m.spares.items m.no_columns.items c.self.invariant.matrix c.args.self.now c.self.view_is c.args.row c.requires.row_in
    (length m.rows) refl

pub index-requires : goal.index-requires
index-requires c =
    let m = c.self.inside in
    part_there m.vars m.given m.columns.items m.places.items m.parts.items m.rows m.spares.items m.no_columns.items c.self.invariant.matrix c.args.self.now c.self.view_is c.args.row c.requires.row_in
    c.row-words.result (c.row-words.ensures c.row-words.result) m.parts.len m.parts.ok.0

pub overflow_add-window : goal.overflow_add-window
overflow_add-window c = end_fits (room c)

pub offset_bounds-mask-first : goal.offset_bounds-mask-first
offset_bounds-mask-first c = offset_fits (room c)

pub slice_bounds-window-start : goal.slice_bounds-window-start
slice_bounds-window-start c = start_before c.first-first.result c.len.result

pub slice_bounds-window-end : goal.slice_bounds-window-end
slice_bounds-window-end c = (room c).inside

pub slice_bounds-window-count : goal.slice_bounds-window-count
slice_bounds-window-count c = start_before c.first-first.result c.len.result

pub overflow_mul-first : goal.overflow_mul-first
overflow_mul-first c = bit_fits (room (goal.at.overflow_mul-first c).After-len)

pub overflow_mul-len : goal.overflow_mul-len
overflow_mul-len c = subst (λ n. Fits w64 (64 * n)) (c.len.ensures ∙ sym c.len-2.ensures) (bits_fit (room (goal.at.overflow_mul-len c).After-len))

pub overflow_mul-result : goal.overflow_mul-result
overflow_mul-result c = bit_fits (room (goal.at.overflow_mul-result c).After-len)

pub overflow_add-result : goal.overflow_add-result
overflow_add-result c =
    place_fits c.in-Some.place (room (goal.at.overflow_add-result c).After-len) (subst (λ n. c.in-Some.place < 64 * n) (sym (long (goal.at.overflow_add-result c).After-len)) c.in-Some.ensures.0)

pub next_outside-requires-clause-few : goal.next_outside-requires-clause-few
next_outside-requires-clause-few c = subst (λ n. n < 4294967296) (long (goal.at.next_outside-requires-clause-few c).After-len) (few_words (room (goal.at.next_outside-requires-clause-few c).After-len))

pub next_outside-requires-clause-same : goal.next_outside-requires-clause-same
next_outside-requires-clause-same c = sym (long (goal.at.next_outside-requires-clause-same c).After-len) ∙ window_long c.args.mask.now (room (goal.at.next_outside-requires-clause-same c).After-len)
