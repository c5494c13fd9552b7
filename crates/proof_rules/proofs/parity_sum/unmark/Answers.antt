use Rattle.std.proofs.Common.{◌≡◌, ◌∙◌, sym, subst, ap, ◌+◌, List, ℕ, drop, set}
use Rattle.std.proofs.Math.ListN.{drop_of_length-le}
use Rattle.proof_rules.specs.VariableMarks.{AreMetOnly}
use Rattle.proof_rules.specs.declared.parity_sum.Mark.{Mark}
use Rattle.proof_rules.specs.declared.parity_sum.Mark.TheVariants.{Unmet}
use Rattle.proof_rules.proofs.LiteralLaws.{next_item}
use Rattle.proof_rules.proofs.VariableLaws.{met_less, none_met_only}
use Rattle.proof_rules.proofs.parity_sum.unmark.Goals as goal

pub loop-variable-preserved : goal.loop-variable-preserved
loop-variable-preserved c only =
    let xs = c.args.variables.now in
    let marks : List Mark = c.loop-variable.marks.items in
    let x = c.variable-item.result in
    let rest : List ℕ = drop (c.loop-variable.variable-index + 1) xs in
    let next = next_item xs c.loop-variable.variable-index x c.loop-variable-test.true c.variable-item.is in
    let cleared : ◌≡◌ {A = List Mark} c.clear_mark.new.marks.items (set marks x Unmet) = c.clear_mark.ensures ∙ ap (λ n. set marks n Unmet) c.number.ensures.number in
    subst (λ (ms : List Mark). AreMetOnly ms rest) (sym cleared) (met_less marks x rest (subst (λ (ys : List ℕ). AreMetOnly marks ys) next (c.loop-variable.invariant only)))

pub returns : goal.returns
returns c only = none_met_only c.loop-variable.marks.items _ (drop_of_length-le c.args.variables.now c.loop-variable-test.false) (c.loop-variable.invariant only)
