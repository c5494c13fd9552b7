use Rattle.std.proofs.Common.{sym, subst, ◌-◌}
use Rattle.proof_rules.specs.Contents.{IsClauseContent}
use Rattle.fratx_elab.specs.Elaborates.{IsClauseNumber}
use Rattle.fratx_elab.proofs.ContentIndex.{clause_looked_up, clause_at}
use Rattle.fratx_elab.proofs.originals.Originals.clause_number.Goals as goal

pub returns-in-Some : goal.returns-in-Some
returns-in-Some c =
    subst (IsClauseNumber c.args.formula.now c.args.lits.now) (sym c.first.ensures)
    (clause_at c.args.self.now c.args.formula.now c.requires c.args.lits.now (c.in-Some.number - 1) c.in-Some.ensures.same)

pub returns : goal.returns
returns c =
    let has = subst (IsClauseContent c.args.lits.now) (sym c.from_vec.ensures.items) c.in_ok-fill_clause_content.ensures in
    clause_looked_up c.args.self.now c.args.formula.now c.requires c.args.lits.now c.from_vec.result.items c.find.result has (c.find.ensures c.requires.clauses.entries c.requires.clauses.fronts c.requires.clauses.numbered c.requires.clauses.orders)
