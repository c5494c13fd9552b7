use Rattle.gf2_lists.proofs.Marking.{columns_rise, columns_all}
use Rattle.gf2_lists.proofs.columns.columns_of.Goals as goal

pub returns-clause-rising : goal.returns-clause-rising
returns-clause-rising c =
    columns_rise c.args.vars c.args.rows.now c.in_ok-marks.marks.items c.deref.result.now c.in_ok-columns.columns.items c.in_ok-marks.ensures c.deref.ensures.value c.in_ok-columns.ensures

pub returns-clause-all : goal.returns-clause-all
returns-clause-all c =
    columns_all c.args.vars c.args.rows.now c.in_ok-marks.marks.items c.deref.result.now c.in_ok-columns.columns.items c.requires.listed c.in_ok-marks.ensures c.deref.ensures.value c.in_ok-columns.ensures
