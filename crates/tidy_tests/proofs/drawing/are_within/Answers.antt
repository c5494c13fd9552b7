use Rattle.std.proofs.Common.{rules, ap, subst, sym, ◌∙◌, ◌≡◌, ◌+◌, ◌≤◌, [], ◌∷◌, ◌++◌, take, add-one}
use Rattle.std.proofs.Math.Seq.{take-suc}
use Rattle.std.proofs.lemmas.List.{take_all}
use Rattle.cx_base.specs.Problem.{AreWithin}
use Rattle.cx_base.proofs.Elements.{all_push}
use Rattle.tidy_tests.proofs.drawing.are_within.Goals as goal

pub loop-lit-preserved : goal.loop-lit-preserved
loop-lit-preserved c =
    let lits = c.args.lits.now in
    let i = c.loop-lit.lit-index in
    let l = c.lit-item.result in
    let next : take (i + 1) lits ≡ take i lits ++ l ∷ [] = rw add-one (take-suc lits i l c.loop-lit-test.true ∙ ap (λ x. take i lits ++ x ∷ []) (sym c.lit-item.is)) in
    let within : (1 ≤ l.variable) × (l.variable ≤ c.args.vars) = search rules in
    subst (AreWithin c.args.vars) (sym next) (all_push (λ m. (1 ≤ m.variable) × (m.variable ≤ c.args.vars)) (take i lits) l c.loop-lit.invariant within)

pub returns : goal.returns
returns c = λ yes. subst (AreWithin c.args.vars) (take_all c.loop-lit.lit-index c.args.lits.now c.loop-lit-test.false) c.loop-lit.invariant
