use Rattle.std.proofs.Common.{List, ◌∙◌, sym, subst, ap}
use Rattle.cx_base.specs.Literals.{Literal}
use Rattle.cx_base.specs.Problem.{AreWithin}
use Rattle.xor_blast.specs.Pieces.{rising_variables}
use Rattle.gf2_matrix.specs.Content.{row_at}
use Rattle.gf2_lists.proofs.MadeLaws.{list_made}
use Rattle.gf2_lists.proofs.unpacked.unpacked_row.Goals as goal

pub returns : goal.returns
returns c =
    let n = c.args.matrix.now.vars in
    let lits : List Literal = c.in_ok-lits.lits.items in
    let same = c.deref.ensures.value in
    list_made n (row_at c.args.matrix.now.rows c.args.row) lits c.fill_rising.new.numbers.items c.row_right-right.result (c.requires.of_given.long c.args.row c.requires.row_in).0 c.in_ok-lits.ensures.within
    (c.in_ok-fill_rising.ensures n (subst (λ (l : List Literal). AreWithin n l) (sym same) c.in_ok-lits.ensures.within) ∙ ap (λ (l : List Literal). rising_variables n l) same)
    c.in_ok-lits.ensures.all c.row_right-right.ensures
