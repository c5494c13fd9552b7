use Rattle.std.proofs.Common.{sym, subst, ◌-◌}
use Rattle.proof_rules.specs.Contents.{IsParityContent}
use Rattle.fratx_elab.specs.Elaborates.{IsParityNumber}
use Rattle.fratx_elab.proofs.ContentIndex.{parity_looked_up, parity_at}
use Rattle.fratx_elab.proofs.originals.Originals.parity_number.Goals as goal

pub returns-in-Some : goal.returns-in-Some
returns-in-Some c =
    subst (IsParityNumber c.args.formula.now c.args.lits.now) (sym c.first.ensures)
    (parity_at c.args.self.now c.args.formula.now c.requires c.args.lits.now (c.in-Some.number - 1) c.in-Some.ensures.same)

pub returns : goal.returns
returns c =
    let has = subst (IsParityContent c.args.lits.now) (sym c.from_vec.ensures.items) c.in_ok-fill_parity_content.ensures in
    parity_looked_up c.args.self.now c.args.formula.now c.requires c.args.lits.now c.from_vec.result.items c.find.result has (c.find.ensures c.requires.parities.entries c.requires.parities.fronts c.requires.parities.numbered c.requires.parities.orders)
