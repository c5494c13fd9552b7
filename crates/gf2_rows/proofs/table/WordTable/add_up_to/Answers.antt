use Rattle.std.proofs.Common.{◌≡◌, ◌<◌, ◌-◌, ◌∙◌, sym, ap, arith, length, get_or}
use Rattle.gf2_rows.specs.Heads.{row_in, rows_in, blank}
use Rattle.gf2_rows.proofs.Laying.{length-rows, length-part}
use Rattle.gf2_rows.proofs.Changes.{head_rows, head_kept, head_width, head_long, few_summed, whole_summed, laid_room, part_changed, part_sum}
use Rattle.gf2_rows.proofs.table.WordTable.add_up_to.Goals as goal

pub add_words-from-requires-clause-same : goal.add_words-from-requires-clause-same
add_words-from-requires-clause-same c =
    let heads = c.self.inside.heads.items in
    let pool = c.self.inside.pool in
    let count : length c.args.self.now ≡ length heads = sym (ap length c.self.view_is) ∙ length-rows pool.items heads in
    let lt : c.args.row < length heads = let r = c.requires.row_in in omega arith in
    c.requires.same ∙ head_width pool.cap pool.items heads c.args.row c.index_mut-head.result.now c.args.self.now lt c.index_mut-head.ensures.value c.self.invariant.rows c.self.view_is

pub invariant_of-self : goal.invariant_of-self
invariant_of-self c =
    let heads = c.self.inside.heads.items in
    let pool = c.self.inside.pool in
    let count : length c.args.self.now ≡ length heads = sym (ap length c.self.view_is) ∙ length-rows pool.items heads in
    let lt : c.args.row < length heads = let r = c.requires.row_in in omega arith in
    head_kept pool.cap pool.items heads c.args.row c.index_mut-head.result.now c.add_words-from.new.self lt c.index_mut-head.ensures.value c.add_words-from.ensures.layout c.add_words-from.ensures.len c.self.invariant.rows c.self.invariant.wide

pub returns-then-from-high-clause-changed : goal.returns-then-from-high-clause-changed
returns-then-from-high-clause-changed c =
    let heads = c.self.inside.heads.items in
    let pool = c.self.inside.pool in
    let count : length c.args.self.now ≡ length heads = sym (ap length c.self.view_is) ∙ length-rows pool.items heads in
    let lt : c.args.row < length heads = let r = c.requires.row_in in omega arith in
    let all : c.add_words-from.result ≡ c.args.high = let w = c.add_words-from.ensures.within in let t = c.if-from-high.true in omega arith in
    (few_summed pool.items heads c.args.row c.index_mut-head.result.now c.add_words-from.new.self c.args.self.now c.args.words.now c.args.low c.add_words-from.result c.args.high lt c.index_mut-head.ensures.value c.self.view_is c.requires.same c.requires.span all
    (c.add_words-from.ensures.added pool.items)).0

pub returns-then-from-high-clause-sum : goal.returns-then-from-high-clause-sum
returns-then-from-high-clause-sum c =
    let heads = c.self.inside.heads.items in
    let pool = c.self.inside.pool in
    let count : length c.args.self.now ≡ length heads = sym (ap length c.self.view_is) ∙ length-rows pool.items heads in
    let lt : c.args.row < length heads = let r = c.requires.row_in in omega arith in
    let all : c.add_words-from.result ≡ c.args.high = let w = c.add_words-from.ensures.within in let t = c.if-from-high.true in omega arith in
    (few_summed pool.items heads c.args.row c.index_mut-head.result.now c.add_words-from.new.self c.args.self.now c.args.words.now c.args.low c.add_words-from.result c.args.high lt c.index_mut-head.ensures.value c.self.view_is c.requires.same c.requires.span all
    (c.add_words-from.ensures.added pool.items)).1

pub start_up_to-start-requires-clause-rows : goal.start_up_to-start-requires-clause-rows
start_up_to-start-requires-clause-rows c =
    let heads = c.self.inside.heads.items in
    let pool = c.self.inside.pool in
    let count : length c.args.self.now ≡ length heads = sym (ap length c.self.view_is) ∙ length-rows pool.items heads in
    let lt : c.args.row < length heads = let r = c.requires.row_in in omega arith in
    head_rows pool.cap pool.items heads c.args.row c.index_mut-head.result.now c.add_words-from.new.self lt c.index_mut-head.ensures.value c.add_words-from.ensures.layout c.add_words-from.ensures.len c.self.invariant.rows

pub start_up_to-start-requires-clause-within : goal.start_up_to-start-requires-clause-within
start_up_to-start-requires-clause-within c =
    let heads = c.self.inside.heads.items in
    let pool = c.self.inside.pool in
    let count : length c.args.self.now ≡ length heads = sym (ap length c.self.view_is) ∙ length-rows pool.items heads in
    let lt : c.args.row < length heads = let r = c.requires.row_in in omega arith in
    let old = head_width pool.cap pool.items heads c.args.row c.index_mut-head.result.now c.args.self.now lt c.index_mut-head.ensures.value c.self.invariant.rows c.self.view_is in
    let new = head_long heads c.args.row c.add_words-from.new.self lt in
    omega (arith, old, new, c.add_words-from.ensures.len, c.requires.same, c.requires.span.within)

pub overflow_add-start : goal.overflow_add-start
overflow_add-start c =
    let heads = c.self.inside.heads.items in
    let pool = c.self.inside.pool in
    let row = c.args.row in
    let words = c.args.words.now in
    let from = c.add_words-from.result in
    let r = c.requires.row_in in
    let count : length c.args.self.now ≡ length heads = sym (ap length c.self.view_is) ∙ length-rows pool.items heads in
    let lt : row < length heads = omega arith in
    let old = c.index_mut-head.result.now in
    let head = c.add_words-from.new.self in
    let at = c.index_mut-head.ensures.value in
    let adds = c.add_words-from.ensures.added pool.items in
    let laid = c.start_up_to-start in
    let after = laid_room pool.items heads row old head c.args.self.now words lt at c.self.view_is c.requires.same adds.len laid.new.pool.cap laid.new.pool.items laid.new.heads.items laid.result c.args.high laid.ensures.rows laid.ensures.same laid.ensures.laid.0 laid.ensures.laid.1 in
    let span = c.requires.span.within in
    let order = c.add_words-from.ensures.order in
    let within = c.add_words-from.ensures.within in
    let inside = after.2 in
    let ok = laid.new.pool.ok in
    let small = laid.new.pool.small in
    record { fits = omega arith }

pub add_part-requires : goal.add_part-requires
add_part-requires c =
    let heads = c.self.inside.heads.items in
    let pool = c.self.inside.pool in
    let row = c.args.row in
    let words = c.args.words.now in
    let from = c.add_words-from.result in
    let r = c.requires.row_in in
    let count : length c.args.self.now ≡ length heads = sym (ap length c.self.view_is) ∙ length-rows pool.items heads in
    let lt : row < length heads = omega arith in
    let old = c.index_mut-head.result.now in
    let head = c.add_words-from.new.self in
    let at = c.index_mut-head.ensures.value in
    let adds = c.add_words-from.ensures.added pool.items in
    let laid = c.start_up_to-start in
    let after = laid_room pool.items heads row old head c.args.self.now words lt at c.self.view_is c.requires.same adds.len laid.new.pool.cap laid.new.pool.items laid.new.heads.items laid.result c.args.high laid.ensures.rows laid.ensures.same laid.ensures.laid.0 laid.ensures.laid.1 in
    let span = c.requires.span.within in
    let order = c.add_words-from.ensures.order in
    let within = c.add_words-from.ensures.within in
    let inside = after.2 in
    let ok = laid.new.pool.ok.0 in
    let long = length-part words (c.args.high - from) from (let t = c.if-from-high.false in omega arith) in
    omega arith

pub returns-clause-changed : goal.returns-clause-changed
returns-clause-changed c =
    let heads = c.self.inside.heads.items in
    let pool = c.self.inside.pool in
    let row = c.args.row in
    let words = c.args.words.now in
    let from = c.add_words-from.result in
    let r = c.requires.row_in in
    let count : length c.args.self.now ≡ length heads = sym (ap length c.self.view_is) ∙ length-rows pool.items heads in
    let lt : row < length heads = omega arith in
    let old = c.index_mut-head.result.now in
    let head = c.add_words-from.new.self in
    let at = c.index_mut-head.ensures.value in
    let adds = c.add_words-from.ensures.added pool.items in
    let laid = c.start_up_to-start in
    let after = laid_room pool.items heads row old head c.args.self.now words lt at c.self.view_is c.requires.same adds.len laid.new.pool.cap laid.new.pool.items laid.new.heads.items laid.result c.args.high laid.ensures.rows laid.ensures.same laid.ensures.laid.0 laid.ensures.laid.1 in
    let span = c.requires.span.within in
    let order = c.add_words-from.ensures.order in
    let within = c.add_words-from.ensures.within in
    let summed =
    whole_summed pool.items heads row old head c.args.self.now words c.args.low from c.args.high lt at c.self.view_is c.requires.same c.requires.span order within adds
    (rows_in laid.new.pool.items laid.new.heads.items) (rows_in c.add_part.new.pool.items laid.new.heads.items) (row_in c.add_part.new.pool.items (get_or laid.new.heads.items row blank)) laid.ensures.same
    (part_changed laid.new.pool.cap laid.new.pool.items c.add_part.new.pool.items words laid.new.heads.items row laid.result from c.args.high after.0 laid.ensures.laid.0 after.1 within laid.ensures.laid.1 span c.add_part.ensures.part laid.ensures.rows)
    (part_sum laid.new.pool.cap laid.new.pool.items c.add_part.new.pool.items words laid.new.heads.items row laid.result from c.args.high after.0 laid.ensures.laid.0 after.1 within laid.ensures.laid.1 span c.add_part.ensures.part laid.ensures.rows) in
    summed.0

pub returns-clause-sum : goal.returns-clause-sum
returns-clause-sum c =
    let heads = c.self.inside.heads.items in
    let pool = c.self.inside.pool in
    let row = c.args.row in
    let words = c.args.words.now in
    let from = c.add_words-from.result in
    let r = c.requires.row_in in
    let count : length c.args.self.now ≡ length heads = sym (ap length c.self.view_is) ∙ length-rows pool.items heads in
    let lt : row < length heads = omega arith in
    let old = c.index_mut-head.result.now in
    let head = c.add_words-from.new.self in
    let at = c.index_mut-head.ensures.value in
    let adds = c.add_words-from.ensures.added pool.items in
    let laid = c.start_up_to-start in
    let after = laid_room pool.items heads row old head c.args.self.now words lt at c.self.view_is c.requires.same adds.len laid.new.pool.cap laid.new.pool.items laid.new.heads.items laid.result c.args.high laid.ensures.rows laid.ensures.same laid.ensures.laid.0 laid.ensures.laid.1 in
    let span = c.requires.span.within in
    let order = c.add_words-from.ensures.order in
    let within = c.add_words-from.ensures.within in
    let summed =
    whole_summed pool.items heads row old head c.args.self.now words c.args.low from c.args.high lt at c.self.view_is c.requires.same c.requires.span order within adds
    (rows_in laid.new.pool.items laid.new.heads.items) (rows_in c.add_part.new.pool.items laid.new.heads.items) (row_in c.add_part.new.pool.items (get_or laid.new.heads.items row blank)) laid.ensures.same
    (part_changed laid.new.pool.cap laid.new.pool.items c.add_part.new.pool.items words laid.new.heads.items row laid.result from c.args.high after.0 laid.ensures.laid.0 after.1 within laid.ensures.laid.1 span c.add_part.ensures.part laid.ensures.rows)
    (part_sum laid.new.pool.cap laid.new.pool.items c.add_part.new.pool.items words laid.new.heads.items row laid.result from c.args.high after.0 laid.ensures.laid.0 after.1 within laid.ensures.laid.1 span c.add_part.ensures.part laid.ensures.rows) in
    summed.1
