use Rattle.std.proofs.Common.{◌≤◌, subst, ap, ◌∙◌, inl, arith}
use Rattle.conflict_learn.specs.Learning.{HasReason}
use Rattle.cdcl_search.proofs.SourceLaws.{clause_is_live, clause_is_antecedent}
use Rattle.cdcl_search.proofs.source.lent.Goals as goal

pub lits-requires : goal.lits-requires
lits-requires c =
    let low : c.len.result ≤ c.place_of-place.result = c.if-place-len.true in
    let is = c.len.ensures in
    clause_is_live c.args.state.now c.requires.reasons.0 c.requires.reasons.1 c.place_of-place.ensures.sound c.args.literal c.place_of-place.result c.place_of-place.ensures.within
    (c.place_of-place.ensures.negated ∙ ap Rattle.cx_base.specs.Literals.negate c.negate.ensures) (omega (arith, low, is)) c.in-Clause.reference (subst (HasReason c.args.state.now.trail c.args.literal) c.in-Clause.is c.requires.reason)

pub id-requires : goal.id-requires
id-requires c =
    let low : c.len.result ≤ c.place_of-place.result = c.if-place-len.true in
    let is = c.len.ensures in
    clause_is_live c.args.state.now c.requires.reasons.0 c.requires.reasons.1 c.place_of-place.ensures.sound c.args.literal c.place_of-place.result c.place_of-place.ensures.within
    (c.place_of-place.ensures.negated ∙ ap Rattle.cx_base.specs.Literals.negate c.negate.ensures) (omega (arith, low, is)) c.in-Clause.reference (subst (HasReason c.args.state.now.trail c.args.literal) c.in-Clause.is c.requires.reason)

pub returns-in-Clause-clause-sourced : goal.returns-in-Clause-clause-sourced
returns-in-Clause-clause-sourced c rows =
    let low : c.len.result ≤ c.place_of-place.result = c.if-place-len.true in
    let is = c.len.ensures in
    let live = clause_is_live c.args.state.now c.requires.reasons.0 c.requires.reasons.1 c.place_of-place.ensures.sound c.args.literal c.place_of-place.result c.place_of-place.ensures.within
    (c.place_of-place.ensures.negated ∙ ap Rattle.cx_base.specs.Literals.negate c.negate.ensures) (omega (arith, low, is)) c.in-Clause.reference (subst (HasReason c.args.state.now.trail c.args.literal) c.in-Clause.is c.requires.reason) in
    inl (c.in-Clause.reference, live, c.lits.ensures, c.id.ensures)

pub returns-in-Clause-clause-implied : goal.returns-in-Clause-clause-implied
returns-in-Clause-clause-implied c =
    let low : c.len.result ≤ c.place_of-place.result = c.if-place-len.true in
    let is = c.len.ensures in
    clause_is_antecedent c.args.state.now c.requires.reasons.0 c.requires.reasons.1 c.place_of-place.ensures.sound c.args.literal c.place_of-place.result c.place_of-place.ensures.within
    (c.place_of-place.ensures.negated ∙ ap Rattle.cx_base.specs.Literals.negate c.negate.ensures) (omega (arith, low, is)) c.in-Clause.reference (subst (HasReason c.args.state.now.trail c.args.literal) c.in-Clause.is c.requires.reason) c.lits.result.now c.lits.ensures
