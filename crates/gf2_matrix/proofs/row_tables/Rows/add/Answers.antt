use Rattle.std.proofs.Common.{◌≡◌, ◌∙◌, ◌<◌, Bool, not, length, get_or, set, refl, sym, ap, subst}
use mathlib.Core.Bool.{beq}
use Rattle.cx_base.specs.Literals.{differ}
use Rattle.cx_base.proofs.ParityLaws.{differ_false}
use Rattle.gf2_rows.specs.Bits.{bit_of}
use Rattle.gf2_rows.specs.Tables.{words_at}
use Rattle.gf2_rows.proofs.Words.{differ-beq, bit_of_sum}
use Rattle.gf2_matrix.specs.declared.packed.PackedRow.{PackedRow}
use Rattle.gf2_matrix.specs.declared.row_tables.RowHead.{RowHead}
use Rattle.gf2_matrix.specs.Packed.{IsSumRow}
use Rattle.gf2_matrix.specs.Rows.{no_head, rows_of, IsOnlyChange}
use Rattle.gf2_matrix.proofs.Stretches.{zero_in_all}
use Rattle.gf2_matrix.proofs.Updates.{same_read}
use Rattle.gf2_matrix.proofs.RowTables.{head_within, alike_rows, added_only, added_row, IsHeadFrom}
use Rattle.gf2_matrix.proofs.row_tables.Rows.add.Goals as goal

pub index_mut-requires : goal.index_mut-requires
index_mut-requires c =
    let m = c.self.inside in
    subst (λ n. c.args.row < n) (sym m.heads.ok.0) (head_within m.heads.items m.words m.apart c.args.self.now c.self.view_is c.args.row c.requires.row_in)

pub add_span-requires-clause-row_in : goal.add_span-requires-clause-row_in
add_span-requires-clause-row_in c =
    let m = c.self.inside in
    subst (λ n. c.args.row < n) (sym c.self.invariant.words_count) (head_within m.heads.items m.words m.apart c.args.self.now c.self.view_is c.args.row c.requires.row_in)

pub add_span-requires-clause-same : goal.add_span-requires-clause-same
add_span-requires-clause-same c =
    let m = c.self.inside in
    let p = c.summand.inside in
    let row = c.args.row in
    let lt = head_within m.heads.items m.words m.apart c.args.self.now c.self.view_is c.args.row c.requires.row_in in
    let alike =
    alike_rows m.heads.items m.words m.apart c.args.self.now c.self.view_is row lt c.self.invariant c.args.summand.now p.split p.words.now p.apart.now
    (ap (λ (r : PackedRow). r.bits) c.summand.view_is) (ap (λ (r : PackedRow). r.sources) c.summand.view_is) c.summand.invariant.0 c.requires.sized in
    alike.1

pub add_span-requires-then-low-high-clause-row_in : goal.add_span-requires-then-low-high-clause-row_in
add_span-requires-then-low-high-clause-row_in c =
    let m = c.self.inside in
    subst (λ n. c.args.row < n) (sym c.self.invariant.apart_count) (head_within m.heads.items m.words m.apart c.args.self.now c.self.view_is c.args.row c.requires.row_in)

pub add_span-requires-then-low-high-clause-same : goal.add_span-requires-then-low-high-clause-same
add_span-requires-then-low-high-clause-same c =
    let m = c.self.inside in
    let p = c.summand.inside in
    let row = c.args.row in
    let lt = head_within m.heads.items m.words m.apart c.args.self.now c.self.view_is c.args.row c.requires.row_in in
    let alike =
    alike_rows m.heads.items m.words m.apart c.args.self.now c.self.view_is row lt c.self.invariant c.args.summand.now p.split p.words.now p.apart.now
    (ap (λ (r : PackedRow). r.bits) c.summand.view_is) (ap (λ (r : PackedRow). r.sources) c.summand.view_is) c.summand.invariant.0 c.requires.sized in
    alike.2

-- the head with the right side turned
turned : RowHead → Bool → RowHead
turned h t = record { part = h.part; split = h.split; right = not (beq h.right t) }

pub returns-then-low-high-clause-others : goal.returns-then-low-high-clause-others
unfolding turned
returns-then-low-high-clause-others c =
    let m = c.self.inside in
    let h : RowHead = turned c.index_mut.result.now c.summand.inside.right in
    subst (λ rs. IsOnlyChange c.args.row rs (rows_of (set m.heads.items c.args.row h) c.add_span.new.self c.add_span-then-low-high.new.self)) c.self.view_is
    (added_only m.heads.items m.words c.add_span.new.self m.apart c.add_span-then-low-high.new.self c.args.row h c.add_span.ensures.changed.others c.add_span-then-low-high.ensures.changed.others)

pub returns-then-low-high-clause-row : goal.returns-then-low-high-clause-row
unfolding turned
returns-then-low-high-clause-row c = λ d.
    let m = c.self.inside in
    let p = c.summand.inside in
    let row = c.args.row in
    let lt = head_within m.heads.items m.words m.apart c.args.self.now c.self.view_is c.args.row c.requires.row_in in
    let alike =
    alike_rows m.heads.items m.words m.apart c.args.self.now c.self.view_is row lt c.self.invariant c.args.summand.now p.split p.words.now p.apart.now
    (ap (λ (r : PackedRow). r.bits) c.summand.view_is) (ap (λ (r : PackedRow). r.sources) c.summand.view_is) c.summand.invariant.0 c.requires.sized in
    let h : RowHead = turned c.index_mut.result.now p.right in
    let head : c.index_mut.result.now ≡ get_or m.heads.items row no_head = c.index_mut.ensures.value ∙ same_read m.heads.items row c.index_mut.result.now no_head lt in
    let from : IsHeadFrom (get_or m.heads.items row no_head) h p.right = (
      ap (λ (r : RowHead). r.part) head,
      ap (λ (r : RowHead). r.split) head,
      differ-beq c.index_mut.result.now.right p.right ∙ ap (λ (r : RowHead). differ r.right p.right) head,
    ) in
    let is = c.summand.view_is in
    subst (λ rs. IsSumRow (get_or (rows_of (set m.heads.items row h) c.add_span.new.self c.add_span-then-low-high.new.self) row d) (get_or rs row d) c.args.summand.now) c.self.view_is
    (added_row m.heads.items m.words c.add_span.new.self m.apart c.add_span-then-low-high.new.self row h p.split p.words.now p.apart.now p.right c.args.summand.now lt from
    (sym (ap (λ (r : PackedRow). r.right) is)) (sym (ap (λ (r : PackedRow). r.bits) is)) (sym (ap (λ (r : PackedRow). r.sources) is)) alike.0
    c.add_span.ensures.changed.words alike.1 c.add_span-then-low-high.ensures.changed.words
    (bit_of_sum (words_at c.add_span.new.self row) (words_at m.words row) p.words.now c.add_span.ensures.changed.words (sym alike.1) c.add_span.ensures.sum)
    (bit_of_sum (words_at c.add_span-then-low-high.new.self row) (words_at m.apart row) p.apart.now c.add_span-then-low-high.ensures.changed.words (sym alike.2) c.add_span-then-low-high.ensures.sum)
    (c.self.invariant.split row lt) d)

pub returns-else-low-high-clause-others : goal.returns-else-low-high-clause-others
unfolding turned
returns-else-low-high-clause-others c =
    let m = c.self.inside in
    let h : RowHead = turned c.index_mut.result.now c.summand.inside.right in
    subst (λ rs. IsOnlyChange c.args.row rs (rows_of (set m.heads.items c.args.row h) c.add_span.new.self m.apart)) c.self.view_is
    (added_only m.heads.items m.words c.add_span.new.self m.apart m.apart c.args.row h c.add_span.ensures.changed.others (λ j ne. refl))

pub returns-else-low-high-clause-row : goal.returns-else-low-high-clause-row
unfolding turned
returns-else-low-high-clause-row c = λ d.
    let m = c.self.inside in
    let p = c.summand.inside in
    let row = c.args.row in
    let lt = head_within m.heads.items m.words m.apart c.args.self.now c.self.view_is c.args.row c.requires.row_in in
    let alike =
    alike_rows m.heads.items m.words m.apart c.args.self.now c.self.view_is row lt c.self.invariant c.args.summand.now p.split p.words.now p.apart.now
    (ap (λ (r : PackedRow). r.bits) c.summand.view_is) (ap (λ (r : PackedRow). r.sources) c.summand.view_is) c.summand.invariant.0 c.requires.sized in
    let h : RowHead = turned c.index_mut.result.now p.right in
    let head : c.index_mut.result.now ≡ get_or m.heads.items row no_head = c.index_mut.ensures.value ∙ same_read m.heads.items row c.index_mut.result.now no_head lt in
    let from : IsHeadFrom (get_or m.heads.items row no_head) h p.right = (
      ap (λ (r : RowHead). r.part) head,
      ap (λ (r : RowHead). r.split) head,
      differ-beq c.index_mut.result.now.right p.right ∙ ap (λ (r : RowHead). differ r.right p.right) head,
    ) in
    let is = c.summand.view_is in
    subst (λ rs. IsSumRow (get_or (rows_of (set m.heads.items row h) c.add_span.new.self m.apart) row d) (get_or rs row d) c.args.summand.now) c.self.view_is
    (added_row m.heads.items m.words c.add_span.new.self m.apart m.apart row h p.split p.words.now p.apart.now p.right c.args.summand.now lt from
    (sym (ap (λ (r : PackedRow). r.right) is)) (sym (ap (λ (r : PackedRow). r.bits) is)) (sym (ap (λ (r : PackedRow). r.sources) is)) alike.0
    c.add_span.ensures.changed.words alike.1 refl
    (bit_of_sum (words_at c.add_span.new.self row) (words_at m.words row) p.words.now c.add_span.ensures.changed.words (sym alike.1) c.add_span.ensures.sum)
    (λ k. sym (ap (differ (bit_of (words_at m.apart row) k)) (zero_in_all p.apart.now p.apart_span.0 p.apart_span.1 c.summand.invariant.2 c.if-low-high.false k) ∙ differ_false (bit_of (words_at m.apart row) k)))
    (c.self.invariant.split row lt) d)
