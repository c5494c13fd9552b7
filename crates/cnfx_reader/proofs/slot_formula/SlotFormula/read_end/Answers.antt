use Rattle.std.proofs.Common.{subst, List}
use Rattle.std.proofs.lemmas.Result.{err_from_is_err_and}
use Rattle.cx_texts.specs.Tokens.{Token}
use Rattle.cnfx_reader.specs.PieceSteps.{answer_from, IsRefusedBy, IsWhole}
use Rattle.cnfx_reader.specs.TokensLeft.{formula_tokens_within}
use Rattle.cnfx_reader.proofs.SlotFormulaLaws.{last_stops, last_refused, last_reads}
use Rattle.cnfx_reader.proofs.slot_formula.SlotFormula.read_end.Goals as goal

pub returns-in_err-len-clause-reads : goal.returns-in_err-len-clause-reads
returns-in_err-len-clause-reads g c =
    let old = g.D.Desk.outside c.args.desk.now in
    let new = g.D.Desk.outside c.read_rest.new.desk in
    let p = err_from_is_err_and c.from_residual.result c.from_residual.ensures.1 in
    λ slot limit o s h last. rw (p.1, p.2) (last_stops slot limit o s old h c.args.self.now last c.in_err-len.field-0.0 new c.in_err-len.ensures.0 c.in_err-len.ensures.1)

pub returns-in_err-take_rest-clause-reads : goal.returns-in_err-take_rest-clause-reads
returns-in_err-take_rest-clause-reads g c =
    let t = c.args.self.now in
    let old = g.D.Desk.outside c.args.desk.now in
    let new = g.D.Desk.outside c.read_rest.new.desk in
    let len = c.in_ok-len.len in
    let e = c.in_err-take_rest.field-0.0 in
    let p = err_from_is_err_and c.from_residual-in_err-take_rest.result c.from_residual-in_err-take_rest.ensures.1 in
    let refused = subst (λ (ts : List Token). IsRefusedBy e (answer_from t.phase len t.builder ts)) (λ i. formula_tokens_within (c.place-place.ensures.place i) (c.bytes-rest.ensures i)) c.in_err-take_rest.ensures.rest in
    λ slot limit o s h last. rw (p.1, p.2) (last_refused slot limit o s old h t last len new c.in_ok-len.ensures e refused)

pub returns-clause-reads : goal.returns-clause-reads
returns-clause-reads g c =
    let t = c.args.self.now in
    let old = g.D.Desk.outside c.args.desk.now in
    let new = g.D.Desk.outside c.read_rest.new.desk in
    let len = c.in_ok-len.len in
    let v = c.in_ok-take_rest.field-0 in
    let d = c.take_rest.new.builder in
    let whole = subst (λ (ts : List Token). IsWhole v d (answer_from t.phase len t.builder ts)) (λ i. formula_tokens_within (c.place-place.ensures.place i) (c.bytes-rest.ensures i)) c.in_ok-take_rest.ensures.rest in
    λ slot limit o s h last. last_reads slot limit o s old h t last len new c.in_ok-len.ensures v d whole
