use Rattle.std.proofs.Common.{◌≡◌, ◌-◌, sym, length, arith}
use Rattle.std.proofs.lemmas.Bool.{eqb-true}
use Rattle.cx_base.specs.Problem.{clauses_of}
use Rattle.xor_recover.specs.Wholes.{count_of}
use Rattle.xor_recover.proofs.Within.{formula_within}
use Rattle.xor_recover.proofs.WholeRows.{at_whole, whole_inside, count_low}
use Rattle.xor_recover.proofs.WholeGroups.{whole_alone, clause_alone}
use Rattle.xor_recover.proofs.recovering.find_among.Goals as goal

pub found_whole-requires-clause-rising : goal.found_whole-requires-clause-rising
found_whole-requires-clause-rising c =
    let one : length c.args.alike.wholes.now ≡ 1 = c.if-wholes-eq1.true in
    (at_whole (clauses_of c.args.formula.now.constraints) c.args.alike.wholes.now 0 _ c.index-wholes-0.result c.requires.wholes (omega arith) c.index-wholes-0.is).rises

pub found_whole-requires-clause-fits : goal.found_whole-requires-clause-fits
found_whole-requires-clause-fits c =
    let one : length c.args.alike.wholes.now ≡ 1 = c.if-wholes-eq1.true in
    let C = clauses_of c.args.formula.now.constraints in
    let w = c.index-wholes-0.result in
    let h = at_whole C c.args.alike.wholes.now 0 _ w c.requires.wholes (omega arith) c.index-wholes-0.is in
    let low = count_low w h.two h.six in
    let last = (whole_inside C w (count_of w - 1) h (omega (arith, low))).1 in
    let len = c.clause_count-len.ensures in
    omega (arith, low, last, len)

pub returns-then-wholes-eq1 : goal.returns-then-wholes-eq1
returns-then-wholes-eq1 c =
    let one : length c.args.alike.wholes.now ≡ 1 = c.if-wholes-eq1.true in
    let C = clauses_of c.args.formula.now.constraints in
    let w = c.index-wholes-0.result in
    let h = at_whole C c.args.alike.wholes.now 0 _ w c.requires.wholes (omega arith) c.index-wholes-0.is in
    whole_alone C c.args.alike.starts.now c.args.alike.wholes.now w c.args.finds.now.items _ c.in_ok-found_whole.field-0 (eqb-true (length c.args.alike.starts.now) 0 (sym c.if-is_empty.ensures)) one c.index-wholes-0.is h c.in_ok-found_whole.ensures.parity c.in_ok-found_whole.ensures.clauses
    c.in_ok-push.ensures.items

pub returns-then-starts-lt2 : goal.returns-then-starts-lt2
returns-then-starts-lt2 c =
    clause_alone (clauses_of c.args.formula.now.constraints) c.args.alike.starts.now c.args.alike.wholes.now c.args.finds.now.items (formula_within _ c.args.formula.now.constraints c.vars-vars.ensures.within) c.requires.starts
    (eqb-true (length c.args.alike.wholes.now) 0 (sym c.if-is_empty-2.ensures)) c.if-starts-lt2.true
