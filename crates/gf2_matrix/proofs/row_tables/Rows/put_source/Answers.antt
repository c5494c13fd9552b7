use Rattle.std.proofs.Common.{◌≡◌, ◌∙◌, ◌+◌, ◌*◌, ◌<◌, ◌≤◌, ℕ, List, length, get_or, sym, ap, subst, refl, arith}
use Rattle.gf2_rows.specs.Tables.{words_at}
use Rattle.gf2_matrix.specs.declared.packed.PackedRow.{PackedRow}
use Rattle.gf2_matrix.specs.declared.row_tables.RowHead.{RowHead}
use Rattle.gf2_matrix.specs.Rows.{no_head, split_at, row_of, rows_of, IsOnlyChange, IsSourcedRow}
use Rattle.gf2_matrix.proofs.Stretches.{length_of_sources, none_apart, few_joined, apart_sources}
use Rattle.gf2_matrix.proofs.Updates.{same_read}
use Rattle.gf2_matrix.proofs.RowTables.{head_within, row_holds, flipped_only, joined_row_at, sourced_only, sourced_row}
use Rattle.gf2_matrix.proofs.row_tables.Rows.put_source.Goals as goal

pub index-requires : goal.index-requires
index-requires c =
    let m = c.self.inside in
    subst (λ n. c.args.row < n) (sym m.heads.ok.0) (head_within m.heads.items m.words m.apart c.args.self.now c.self.view_is c.args.row c.requires.row_in)

pub row-requires : goal.row-requires
row-requires c =
    let m = c.self.inside in
    subst (λ n. c.args.row < n) (sym c.self.invariant.words_count) (head_within m.heads.items m.words m.apart c.args.self.now c.self.view_is c.args.row c.requires.row_in)

pub overflow_add-split : goal.overflow_add-split
overflow_add-split c =
    let m = c.self.inside in
    let row = c.args.row in
    let lt = head_within m.heads.items m.words m.apart c.args.self.now c.self.view_is c.args.row c.requires.row_in in
    let n : ℕ = split_at m.heads.items row in
    let its : List ℕ = words_at m.words row in
    let apart : List ℕ = words_at m.apart row in
    let split = c.self.invariant.split row lt in
    let at : c.index.result.now.split ≡ n = ap (λ (h : RowHead). h.split) (c.index.ensures ∙ same_read m.heads.items row c.index.result.now no_head lt) in
    let count = c.len.ensures in
    let many : length c.row.result ≡ length its = ap length c.row.ensures in
    let more : n < length its = let t = c.if-split-len.true in omega arith in
    let none : length apart ≡ 0 = ap length (none_apart n its apart split more) in
    let few : length its ≤ 16 = few_joined n its apart split more in
    let sources = length_of_sources n its apart in
    let within = row_holds m.heads.items m.words m.apart c.args.self.now c.self.view_is row lt (λ (r : PackedRow). c.args.place < 64 * length r.sources) c.requires.within in
    record { fits = omega arith }

pub put-requires-clause-bit_in : goal.put-requires-clause-bit_in
put-requires-clause-bit_in c =
    let m = c.self.inside in
    let row = c.args.row in
    let lt = head_within m.heads.items m.words m.apart c.args.self.now c.self.view_is c.args.row c.requires.row_in in
    let n : ℕ = split_at m.heads.items row in
    let its : List ℕ = words_at m.words row in
    let apart : List ℕ = words_at m.apart row in
    let split = c.self.invariant.split row lt in
    let at : c.index.result.now.split ≡ n = ap (λ (h : RowHead). h.split) (c.index.ensures ∙ same_read m.heads.items row c.index.result.now no_head lt) in
    let count = c.len.ensures in
    let many : length c.row.result ≡ length its = ap length c.row.ensures in
    let more : n < length its = let t = c.if-split-len.true in omega arith in
    let none : length apart ≡ 0 = ap length (none_apart n its apart split more) in
    let few : length its ≤ 16 = few_joined n its apart split more in
    let sources = length_of_sources n its apart in
    let within = row_holds m.heads.items m.words m.apart c.args.self.now c.self.view_is row lt (λ (r : PackedRow). c.args.place < 64 * length r.sources) c.requires.within in
    omega arith

pub put-requires-else-split-len-clause-row_in : goal.put-requires-else-split-len-clause-row_in
put-requires-else-split-len-clause-row_in c =
    let m = c.self.inside in
    subst (λ n. c.args.row < n) (sym c.self.invariant.apart_count) (head_within m.heads.items m.words m.apart c.args.self.now c.self.view_is c.args.row c.requires.row_in)

pub put-requires-else-split-len-clause-bit_in : goal.put-requires-else-split-len-clause-bit_in
put-requires-else-split-len-clause-bit_in c =
    let m = c.self.inside in
    let row = c.args.row in
    let lt = head_within m.heads.items m.words m.apart c.args.self.now c.self.view_is c.args.row c.requires.row_in in
    let n : ℕ = split_at m.heads.items row in
    let its : List ℕ = words_at m.words row in
    let apart : List ℕ = words_at m.apart row in
    let split = c.self.invariant.split row lt in
    let at : c.index.result.now.split ≡ n = ap (λ (h : RowHead). h.split) (c.index.ensures ∙ same_read m.heads.items row c.index.result.now no_head lt) in
    let count = c.len.ensures in
    let many : length c.row.result ≡ length its = ap length c.row.ensures in
    let all : length its ≤ n = let t = c.if-split-len.false in omega arith in
    subst (λ ss. c.args.place < 64 * length ss) (apart_sources n its apart all) (row_holds m.heads.items m.words m.apart c.args.self.now c.self.view_is row lt (λ (r : PackedRow). c.args.place < 64 * length r.sources) c.requires.within)

pub returns-then-split-len-clause-others : goal.returns-then-split-len-clause-others
returns-then-split-len-clause-others c =
    let m = c.self.inside in
    subst (λ rs. IsOnlyChange c.args.row rs (rows_of m.heads.items c.put.new.self m.apart)) c.self.view_is
    (flipped_only m.heads.items m.words c.put.new.self m.apart c.args.row c.args.place c.put.ensures.changed)

pub returns-then-split-len-clause-row : goal.returns-then-split-len-clause-row
returns-then-split-len-clause-row c = λ d.
    let m = c.self.inside in
    let row = c.args.row in
    let lt = head_within m.heads.items m.words m.apart c.args.self.now c.self.view_is c.args.row c.requires.row_in in
    let n : ℕ = split_at m.heads.items row in
    let its : List ℕ = words_at m.words row in
    let apart : List ℕ = words_at m.apart row in
    let split = c.self.invariant.split row lt in
    let at : c.index.result.now.split ≡ n = ap (λ (h : RowHead). h.split) (c.index.ensures ∙ same_read m.heads.items row c.index.result.now no_head lt) in
    let count = c.len.ensures in
    let many : length c.row.result ≡ length its = ap length c.row.ensures in
    subst (λ rs. IsSourcedRow c.args.place (get_or rs row d) (get_or (rows_of m.heads.items c.put.new.self m.apart) row d)) c.self.view_is
    (joined_row_at m.heads.items m.words c.put.new.self m.apart row c.args.place c.put.ensures.changed c.index.result.now.split at lt split (let t = c.if-split-len.true in omega arith) c.put.ensures.bits c.put.ensures.others d)

pub returns-else-split-len-clause-others : goal.returns-else-split-len-clause-others
returns-else-split-len-clause-others c =
    let m = c.self.inside in
    subst (λ rs. IsOnlyChange c.args.row rs (rows_of m.heads.items m.words c.put-else-split-len.new.self)) c.self.view_is
    (sourced_only m.heads.items m.words m.apart c.put-else-split-len.new.self c.args.row c.args.place c.put-else-split-len.ensures.changed)

pub returns-else-split-len-clause-row : goal.returns-else-split-len-clause-row
returns-else-split-len-clause-row c = λ d.
    let m = c.self.inside in
    let row = c.args.row in
    let lt = head_within m.heads.items m.words m.apart c.args.self.now c.self.view_is c.args.row c.requires.row_in in
    let n : ℕ = split_at m.heads.items row in
    let its : List ℕ = words_at m.words row in
    let apart : List ℕ = words_at m.apart row in
    let split = c.self.invariant.split row lt in
    let at : c.index.result.now.split ≡ n = ap (λ (h : RowHead). h.split) (c.index.ensures ∙ same_read m.heads.items row c.index.result.now no_head lt) in
    let count = c.len.ensures in
    let many : length c.row.result ≡ length its = ap length c.row.ensures in
    let all : length its ≤ n = let t = c.if-split-len.false in omega arith in
    subst (λ rs. IsSourcedRow c.args.place (get_or rs row d) (get_or (rows_of m.heads.items m.words c.put-else-split-len.new.self) row d)) c.self.view_is
    (sourced_row m.heads.items m.words m.apart c.put-else-split-len.new.self row c.args.place c.put-else-split-len.ensures.changed lt all c.put-else-split-len.ensures.bits d)
