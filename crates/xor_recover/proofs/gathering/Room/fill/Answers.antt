use Rattle.std.proofs.Common.{ap, ◌∙◌, ◌++◌, length, map, arith, subst, List}
use Rattle.std.proofs.lemmas.List.{length-map, take_all}
use Rattle.cx_base.specs.Problem.{clauses_of}
use Rattle.xor_recover.specs.declared.wholes.Whole.{Whole}
use Rattle.xor_recover.specs.Entries.{row_of}
use Rattle.xor_recover.specs.Starts.{rows_at}
use Rattle.xor_recover.specs.Wholes.{starts_of_all}
use Rattle.xor_recover.specs.Rows.{Row}
use Rattle.xor_recover.specs.Groups.{AreFirsts}
use Rattle.xor_recover.proofs.StartRows.{few_at}
use Rattle.xor_recover.proofs.Filling.{wholes_none, wholes_more}
use Rattle.std.proofs.lemmas.Result.{err_from_is_err_and}
use Rattle.xor_recover.proofs.gathering.Room.fill.Goals as goal

pub returns-clause-few : goal.returns-clause-few
returns-clause-few c =
    let C = clauses_of c.args.formula.now.constraints in
    let run = c.args.run.now in
    let wholes = c.args.wholes.now in
    let fewer = c.keep_firsts.ensures.fewer in
    let rows = ap length (c.loop-whole.invariant ∙ ap (λ (ws : List Whole). rows_at C (run ++ starts_of_all ws)) (take_all c.loop-whole.whole-index wholes c.loop-whole-test.false)) in
    let long = length-map c.loop-whole.self.entries.items row_of in
    let few = few_at C (run ++ starts_of_all wholes) in
    omega (arith, fewer, rows, long, few)

pub loop-whole-init : goal.loop-whole-init
loop-whole-init c =
    wholes_none (clauses_of c.args.formula.now.constraints) c.args.run.now (map row_of c.clear.new.self.items) (map row_of c.add_starts.new.self.entries.items) (ap (map row_of) c.clear.ensures.items) c.in_ok-add_starts.ensures

pub loop-whole-preserved : goal.loop-whole-preserved
loop-whole-preserved c =
    let C = clauses_of c.args.formula.now.constraints in
    wholes_more C c.args.run.now c.args.wholes.now c.loop-whole.whole-index c.whole-item.result (map row_of c.loop-whole.self.entries.items) (map row_of c.add_whole.new.self.entries.items)
    c.loop-whole-test.true c.whole-item.is c.loop-whole.invariant c.in_ok-add_whole.ensures

pub returns-clause-firsts : goal.returns-clause-firsts
returns-clause-firsts c =
    let C = clauses_of c.args.formula.now.constraints in
    let wholes = c.args.wholes.now in
    let rows = c.loop-whole.invariant ∙ ap (λ (ws : List Whole). rows_at C (c.args.run.now ++ starts_of_all ws)) (take_all c.loop-whole.whole-index wholes c.loop-whole-test.false) in
    subst (λ (rs : List Row). AreFirsts rs (map row_of c.keep_firsts.new.self.entries.items)) rows c.keep_firsts.ensures.firsts

pub returns-in_err-add_starts : goal.returns-in_err-add_starts
returns-in_err-add_starts c =
    let fault = err_from_is_err_and c.from_residual.result c.from_residual.ensures.1 in
    rw fault.1 (record { firsts = tt; few = tt })

pub returns-in_err-add_whole : goal.returns-in_err-add_whole
returns-in_err-add_whole c =
    let fault = err_from_is_err_and c.from_residual-in_err-add_whole.result c.from_residual-in_err-add_whole.ensures.1 in
    rw fault.1 (record { firsts = tt; few = tt })
