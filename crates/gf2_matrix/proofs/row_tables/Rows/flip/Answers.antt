use Rattle.std.proofs.Common.{◌≡◌, ◌∙◌, ◌*◌, ◌<◌, eqb, false, length, get_or, sym, ap, subst, refl, arith}
use Rattle.gf2_matrix.specs.declared.packed.PackedRow.{PackedRow}
use Rattle.gf2_matrix.specs.Rows.{split_at, row_of, rows_of, IsOnlyChange, IsTurnedRow}
use Rattle.gf2_rows.specs.Tables.{words_at}
use Rattle.gf2_matrix.proofs.Stretches.{length_of_bits}
use Rattle.gf2_matrix.proofs.RowTables.{head_within, row_holds, flipped_only, flipped_row, tables_kept, widths_kept}
use Rattle.gf2_matrix.proofs.row_tables.Rows.flip.Goals as goal

pub flip-requires-clause-row_in : goal.flip-requires-clause-row_in
flip-requires-clause-row_in c =
    let m = c.self.inside in
    subst (λ n. c.args.row < n) (sym c.self.invariant.words_count) (head_within m.heads.items m.words m.apart c.args.self.now c.self.view_is c.args.row c.requires.row_in)

pub flip-requires-clause-bit_in : goal.flip-requires-clause-bit_in
flip-requires-clause-bit_in c =
    let m = c.self.inside in
    let lt = head_within m.heads.items m.words m.apart c.args.self.now c.self.view_is c.args.row c.requires.row_in in
    let within = (c.self.invariant.split c.args.row lt).within in
    let l = length_of_bits (split_at m.heads.items c.args.row) (words_at m.words c.args.row) within in
    let b = row_holds m.heads.items m.words m.apart c.args.self.now c.self.view_is c.args.row lt (λ (r : PackedRow). c.args.k < 64 * length r.bits) c.requires.within in
    omega arith

pub invariant_of-self : goal.invariant_of-self
invariant_of-self c =
    let m = c.self.inside in
    tables_kept m.heads.items m.heads.items m.words c.flip.new.self m.apart m.apart c.self.invariant refl (λ i. refl) c.flip.ensures.changed.rows (widths_kept c.args.row m.words c.flip.new.self c.flip.ensures.changed) refl (λ i. refl)

pub returns-clause-others : goal.returns-clause-others
returns-clause-others c =
    let m = c.self.inside in
    subst (λ rs. IsOnlyChange c.args.row rs (rows_of m.heads.items c.flip.new.self m.apart)) c.self.view_is
    (flipped_only m.heads.items m.words c.flip.new.self m.apart c.args.row c.args.k c.flip.ensures.changed)

pub returns-clause-row : goal.returns-clause-row
returns-clause-row c = λ d.
    let m = c.self.inside in
    let lt = head_within m.heads.items m.words m.apart c.args.self.now c.self.view_is c.args.row c.requires.row_in in
    let within = row_holds m.heads.items m.words m.apart c.args.self.now c.self.view_is c.args.row lt (λ (r : PackedRow). c.args.k < 64 * length r.bits) c.requires.within in
    subst (λ rs. IsTurnedRow (λ j. eqb j c.args.k) false (get_or rs c.args.row d) (get_or (rows_of m.heads.items c.flip.new.self m.apart) c.args.row d)) c.self.view_is
    (flipped_row m.heads.items m.words c.flip.new.self m.apart c.args.row c.args.k c.flip.ensures.changed lt (c.self.invariant.split c.args.row lt) within c.flip.ensures.bits c.flip.ensures.others d)
