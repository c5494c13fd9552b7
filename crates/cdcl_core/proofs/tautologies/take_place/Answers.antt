use Rattle.std.proofs.Common.{◌≡◌, ◌+◌, ◌-◌, [], length, take, get_or, refl, sym, ap, ◌∙◌, arith}
use Rattle.cx_base.specs.Problem.{clauses_of}
use Rattle.cx_base.specs.declared.constraint.Constraint.TheVariants as constraint
use Rattle.cdcl_core.proofs.OriginalLaws.{few_clauses}
use Rattle.cdcl_core.proofs.FilledClauses.{assumption_passes, clause_counts, clause_is_at, parity_passes}
use Rattle.cdcl_core.proofs.tautologies.take_place.Goals as goal

pub overflow_add-before : goal.overflow_add-before
overflow_add-before c =
    let there = (clause_is_at c.args.formula.now.constraints c.args.place (constraint.Clause []) c.in-Clause.lits.now c.requires.place (sym c.in-Clause.ensures.item)).0 in
    let all = few_clauses c.args.formula.now.constraints in
    let few = c.requires.few in
    let before = c.requires.before in
    omega (arith, there, all, few, before)

pub overflow_add-result : goal.overflow_add-result
overflow_add-result c =
    let there = (clause_is_at c.args.formula.now.constraints c.args.place (constraint.Clause []) c.in-Clause.lits.now c.requires.place (sym c.in-Clause.ensures.item)).0 in
    let all = few_clauses c.args.formula.now.constraints in
    let few = c.requires.few in
    let before = c.requires.before in
    omega (arith, there, all, few, before)

pub returns-in_ok-add_tautology-in-Clause-clause-count : goal.returns-in_ok-add_tautology-in-Clause-clause-count
returns-in_ok-add_tautology-in-Clause-clause-count c =
    ap (λ k. k + 1) c.requires.before ∙ sym (clause_counts c.args.formula.now.constraints c.args.place (constraint.Clause []) c.in-Clause.lits.now c.requires.place (sym c.in-Clause.ensures.item))

pub returns-in_ok-add_tautology-in-Clause-clause-added : goal.returns-in_ok-add_tautology-in-Clause-clause-added
returns-in_ok-add_tautology-in-Clause-clause-added c = λ a i.
    let cs = c.args.formula.now.constraints in
    let there = clause_is_at c.args.formula.now.constraints c.args.place (constraint.Clause []) c.in-Clause.lits.now c.requires.place (sym c.in-Clause.ensures.item) in
    let before = c.requires.before in
    let small = there.0 in
    c.in_ok-add_tautology-in-Clause.ensures c.args.formula.now c.args.before a refl (record {
      low = omega arith;
      high = omega (arith, before, small);
      is = ap (λ j. get_or (clauses_of c.args.formula.now.constraints) j []) (let same : c.args.before + 1 - 1 ≡ length (clauses_of (take c.args.place c.args.formula.now.constraints)) = omega (arith, before) in same) ∙ there.1;
      within = c.in-Clause.ensures.within;
    }) i

pub returns-in-Parity-clause-count : goal.returns-in-Parity-clause-count
returns-in-Parity-clause-count c = c.requires.before ∙ sym (parity_passes c.args.formula.now.constraints c.args.place (constraint.Clause []) c.in-Parity.field-0.now c.requires.place (sym c.in-Parity.ensures.item))

pub returns-in-Parity-clause-added : goal.returns-in-Parity-clause-added
returns-in-Parity-clause-added c = λ a i. i

pub returns-in-Assume-clause-count : goal.returns-in-Assume-clause-count
returns-in-Assume-clause-count c = c.requires.before ∙ sym (assumption_passes c.args.formula.now.constraints c.args.place (constraint.Clause []) c.in-Assume.field-0.now c.requires.place (sym c.in-Assume.ensures.item))

pub returns-in-Assume-clause-added : goal.returns-in-Assume-clause-added
returns-in-Assume-clause-added c = λ a i. i
