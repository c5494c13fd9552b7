use Rattle.std.proofs.Common.{List, sym, subst}
use Rattle.gf2_lists.specs.declared.row.ListedRow.{ListedRow}
use Rattle.gf2_lists.specs.Listed.{AreListed}
use Rattle.gf2_lists.specs.Occurring.{HaveColumns}
use Rattle.gf2_lists.proofs.Listing.{listed_are}
use Rattle.gf2_lists.proofs.rows.ListedRows.echelon.Goals as goal

pub columns_of-requires-clause-listed : goal.columns_of-requires-clause-listed
columns_of-requires-clause-listed c = subst (AreListed c.args.vars) (sym c.deref.ensures.value) c.in_ok-rows.ensures.listed

pub invariant_of-result : goal.invariant_of-result
invariant_of-result c = (
  c.requires.few,
  c.in_ok-rows.ensures.few,
  c.in_ok-rows.ensures.listed,
  c.in_ok-columns.ensures.rising,
  subst (λ (l : List ListedRow). HaveColumns l c.in_ok-columns.columns.items) c.deref.ensures.value c.in_ok-columns.ensures.all,
)

pub returns : goal.returns
returns c =
    listed_are c.args.vars c.args.given c.in_ok-columns.columns.items c.in_ok-rows.rows.items c.in_ok-rows.ensures.listed c.requires.within
    (subst (λ (l : List ListedRow). HaveColumns l c.in_ok-columns.columns.items) c.deref.ensures.value c.in_ok-columns.ensures.all) c.in_ok-rows.ensures
