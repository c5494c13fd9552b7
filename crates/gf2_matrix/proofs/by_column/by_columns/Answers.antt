use Rattle.std.proofs.Common.{◌<◌, ◌≤◌, sym, subst, length, map}
use Rattle.cx_base.specs.declared.literal.TheConstants.{MAX_VARIABLE}
use Rattle.gf2_matrix.specs.Packed.{Window, window}
use Rattle.gf2_matrix.specs.ByColumn.{HaveRows, IsByColumn}
use Rattle.gf2_matrix.proofs.Rows.{part_here}
use Rattle.gf2_matrix.proofs.ByColumns.{by_column_more}
use Rattle.gf2_matrix.proofs.by_column.by_columns.Goals as goal

pub by_column-requires-clause-few_columns : goal.by_column-requires-clause-few_columns
by_column-requires-clause-few_columns c =
    subst (λ (w : Window). length w.columns ≤ MAX_VARIABLE) (part_here c.args.parts.now c.loop-p.p c.index-parts-p.result c.loop-p-test.true c.index-parts-p.is) (c.requires.few_columns c.loop-p.p c.loop-p-test.true)

pub by_column-requires-clause-few_numbers : goal.by_column-requires-clause-few_numbers
by_column-requires-clause-few_numbers c =
    subst (λ (w : Window). length w.numbers < 4294967296) (part_here c.args.parts.now c.loop-p.p c.index-parts-p.result c.loop-p-test.true c.index-parts-p.is) (c.requires.few_numbers c.loop-p.p c.loop-p-test.true)

pub by_column-requires-clause-rows : goal.by_column-requires-clause-rows
by_column-requires-clause-rows c =
    subst (λ (w : Window). HaveRows w c.args.rows.now) (part_here c.args.parts.now c.loop-p.p c.index-parts-p.result c.loop-p-test.true c.index-parts-p.is) (c.requires.rows c.loop-p.p c.loop-p-test.true)

pub loop-p-preserved : goal.loop-p-preserved
loop-p-preserved c =
    by_column_more (map window c.args.parts.now) c.args.rows.now c.loop-p.all.items c.push.new.self.items c.loop-p.p c.in_ok-by_column.field-0 c.loop-p.invariant c.in_ok-push.ensures.items
    (subst (λ (w : Window). IsByColumn w c.args.rows.now c.in_ok-by_column.field-0) (sym (part_here c.args.parts.now c.loop-p.p c.index-parts-p.result c.loop-p-test.true c.index-parts-p.is)) c.in_ok-by_column.ensures)
