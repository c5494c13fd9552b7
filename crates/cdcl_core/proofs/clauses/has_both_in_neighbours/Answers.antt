use Rattle.std.proofs.Common.{◌≡◌, sym, ap, ◌∙◌, ◌∷◌, ◌+◌, drop, true, nat_eq, ◌&&◌}
use Rattle.std.proofs.Math.ListN.{drop_of_length-le}
use Rattle.std.proofs.lemmas.List.{drop_more}
use Rattle.std.proofs.lemmas.Bool.{or_left, and_from, eq-eqb}
use Rattle.cx_base.specs.Literals.{code_of}
use Rattle.cdcl_core.proofs.RisingCodes.{beside, tautology_beside}
use Rattle.cdcl_core.proofs.clauses.has_both_in_neighbours.Goals as goal

pub returns : goal.returns
returns c = sym (c.loop-lit.invariant.same ∙ ap (beside c.loop-lit.last) (drop_of_length-le c.args.lits.now c.loop-lit-test.false)) ∙ tautology_beside c.args.lits.now c.requires

pub returns-then-code-last : goal.returns-then-code-last
returns-then-code-last c =
    let lits = c.args.lits.now in
    let x = c.lit-item.result in
    let rest = drop_more lits c.loop-lit.lit-index x c.loop-lit-test.true ∙ ap (λ y. y ∷ drop (c.loop-lit.lit-index + 1) lits) (sym c.lit-item.is) in
    let both : (x.negative && nat_eq (code_of x) (c.loop-lit.last + 1)) ≡ true = and_from x.negative (nat_eq (code_of x) (c.loop-lit.last + 1)) (sym c.is_negative.ensures ∙ c.if-is_negative.true) (eq-eqb (code_of x) (c.loop-lit.last + 1) (sym c.code.ensures.code ∙ c.if-code-last.true)) in
    sym (c.loop-lit.invariant.same ∙ ap (beside c.loop-lit.last) rest ∙ or_left _ _ both) ∙ tautology_beside lits c.requires
