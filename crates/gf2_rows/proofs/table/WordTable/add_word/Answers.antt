use Rattle.std.proofs.Common.{◌≡◌, ◌<◌, ◌+◌, ◌∙◌, sym, ap, arith, length, get_or, set}
use Rattle.std.specs.Int.RustNames.{bit_xor}
use Rattle.gf2_rows.specs.Heads.{rows_in}
use Rattle.gf2_rows.specs.Tables.{words_at}
use Rattle.gf2_rows.proofs.Laying.{length-rows, rows-set, element}
use Rattle.gf2_rows.proofs.Changes.{head_rows, head_kept, old_words, same_table, head_width, head_long, laid_word}
use Rattle.gf2_rows.proofs.table.WordTable.add_word.Goals as goal

pub add_word-requires : goal.add_word-requires
add_word-requires c =
    let heads = c.self.inside.heads.items in
    let pool = c.self.inside.pool in
    let count : length c.args.self.now ≡ length heads = sym (ap length c.self.view_is) ∙ length-rows pool.items heads in
    let lt : c.args.row < length heads = let r = c.requires.row_in in omega arith in
    let old = head_width pool.cap pool.items heads c.args.row c.index_mut-head.result.now c.args.self.now lt c.index_mut-head.ensures.value c.self.invariant.rows c.self.view_is in
    omega (arith, old, c.requires.place_in)

pub invariant_of-self : goal.invariant_of-self
invariant_of-self c =
    let heads = c.self.inside.heads.items in
    let pool = c.self.inside.pool in
    let count : length c.args.self.now ≡ length heads = sym (ap length c.self.view_is) ∙ length-rows pool.items heads in
    let lt : c.args.row < length heads = let r = c.requires.row_in in omega arith in
    head_kept pool.cap pool.items heads c.args.row c.index_mut-head.result.now c.add_word.new.self lt c.index_mut-head.ensures.value c.add_word.ensures.layout c.add_word.ensures.len c.self.invariant.rows c.self.invariant.wide

pub returns-then-add_word : goal.returns-then-add_word
returns-then-add_word c =
    let heads = c.self.inside.heads.items in
    let pool = c.self.inside.pool in
    let row = c.args.row in
    let place = c.args.place in
    let word = c.args.word in
    let count : length c.args.self.now ≡ length heads = sym (ap length c.self.view_is) ∙ length-rows pool.items heads in
    let lt : row < length heads = let r = c.requires.row_in in omega arith in
    let old = c.index_mut-head.result.now in
    let table = rows_in pool.items heads in
    rows-set pool.items heads row c.add_word.new.self
    ∙ ap (set table row) (c.add_word.ensures.added c.if-add_word.true pool.items)
    ∙ ap (λ l. set table row (set l place (bit_xor (get_or l place 0) word)))
    (sym (old_words pool.cap pool.items heads row old c.add_word.new.self lt c.index_mut-head.ensures.value c.add_word.ensures.layout c.add_word.ensures.len c.self.invariant.rows))
    ∙ ap (λ t. set t row (set (words_at t row) place (bit_xor (get_or (words_at t row) place 0) word))) c.self.view_is

pub start_up_to-start-requires-clause-rows : goal.start_up_to-start-requires-clause-rows
start_up_to-start-requires-clause-rows c =
    let heads = c.self.inside.heads.items in
    let pool = c.self.inside.pool in
    let count : length c.args.self.now ≡ length heads = sym (ap length c.self.view_is) ∙ length-rows pool.items heads in
    let lt : c.args.row < length heads = let r = c.requires.row_in in omega arith in
    head_rows pool.cap pool.items heads c.args.row c.index_mut-head.result.now c.add_word.new.self lt c.index_mut-head.ensures.value c.add_word.ensures.layout c.add_word.ensures.len c.self.invariant.rows

pub start_up_to-start-requires-clause-within : goal.start_up_to-start-requires-clause-within
start_up_to-start-requires-clause-within c =
    let heads = c.self.inside.heads.items in
    let pool = c.self.inside.pool in
    let count : length c.args.self.now ≡ length heads = sym (ap length c.self.view_is) ∙ length-rows pool.items heads in
    let lt : c.args.row < length heads = let r = c.requires.row_in in omega arith in
    let old = head_width pool.cap pool.items heads c.args.row c.index_mut-head.result.now c.args.self.now lt c.index_mut-head.ensures.value c.self.invariant.rows c.self.view_is in
    let new = head_long heads c.args.row c.add_word.new.self lt in
    omega (arith, old, new, c.add_word.ensures.len, c.requires.place_in)

pub overflow_add-start : goal.overflow_add-start
overflow_add-start c =
    let heads = c.self.inside.heads.items in
    let pool = c.self.inside.pool in
    let row = c.args.row in
    let r = c.requires.row_in in
    let count : length c.args.self.now ≡ length heads = sym (ap length c.self.view_is) ∙ length-rows pool.items heads in
    let lt : row < length heads = omega arith in
    let laid = c.start_up_to-start in
    let same =
    same_table pool.cap pool.items heads row c.index_mut-head.result.now c.add_word.new.self c.args.self.now (rows_in laid.new.pool.items laid.new.heads.items) lt c.index_mut-head.ensures.value
    c.add_word.ensures.layout c.add_word.ensures.len c.self.invariant.rows c.self.view_is (c.add_word.ensures.full c.if-add_word.false) laid.ensures.same in
    let after = laid_word c.args.self.now laid.new.pool.cap laid.new.pool.items laid.new.heads.items row laid.result c.args.place c.args.word r (let up = laid.ensures.laid.1 in omega arith) same laid.ensures.laid.0 laid.ensures.rows in
    let inside = after.0 in
    let ok = laid.new.pool.ok in
    let small = laid.new.pool.small in
    record { fits = omega arith }

pub index_mut-requires : goal.index_mut-requires
index_mut-requires c =
    let heads = c.self.inside.heads.items in
    let pool = c.self.inside.pool in
    let row = c.args.row in
    let r = c.requires.row_in in
    let count : length c.args.self.now ≡ length heads = sym (ap length c.self.view_is) ∙ length-rows pool.items heads in
    let lt : row < length heads = omega arith in
    let laid = c.start_up_to-start in
    let same =
    same_table pool.cap pool.items heads row c.index_mut-head.result.now c.add_word.new.self c.args.self.now (rows_in laid.new.pool.items laid.new.heads.items) lt c.index_mut-head.ensures.value
    c.add_word.ensures.layout c.add_word.ensures.len c.self.invariant.rows c.self.view_is (c.add_word.ensures.full c.if-add_word.false) laid.ensures.same in
    let after = laid_word c.args.self.now laid.new.pool.cap laid.new.pool.items laid.new.heads.items row laid.result c.args.place c.args.word r (let up = laid.ensures.laid.1 in omega arith) same laid.ensures.laid.0 laid.ensures.rows in
    let inside = after.0 in
    let ok = laid.new.pool.ok.0 in
    omega arith

pub returns : goal.returns
returns c =
    let heads = c.self.inside.heads.items in
    let pool = c.self.inside.pool in
    let row = c.args.row in
    let r = c.requires.row_in in
    let count : length c.args.self.now ≡ length heads = sym (ap length c.self.view_is) ∙ length-rows pool.items heads in
    let lt : row < length heads = omega arith in
    let laid = c.start_up_to-start in
    let same =
    same_table pool.cap pool.items heads row c.index_mut-head.result.now c.add_word.new.self c.args.self.now (rows_in laid.new.pool.items laid.new.heads.items) lt c.index_mut-head.ensures.value
    c.add_word.ensures.layout c.add_word.ensures.len c.self.invariant.rows c.self.view_is (c.add_word.ensures.full c.if-add_word.false) laid.ensures.same in
    let after = laid_word c.args.self.now laid.new.pool.cap laid.new.pool.items laid.new.heads.items row laid.result c.args.place c.args.word r (let up = laid.ensures.laid.1 in omega arith) same laid.ensures.laid.0 laid.ensures.rows in
    ap (λ x. rows_in (set laid.new.pool.items (laid.result + c.args.place) (bit_xor x c.args.word)) laid.new.heads.items)
    (c.index_mut.ensures.value ∙ element laid.new.pool.items (laid.result + c.args.place) c.index_mut.result.now 0 after.0)
    ∙ after.1
