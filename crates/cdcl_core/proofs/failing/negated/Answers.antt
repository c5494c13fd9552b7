use Rattle.std.proofs.Common.{◌≡◌, ◌∙◌, sym, ap, ◌+◌, ◌∷◌, ◌++◌, [], take, add-one, rules}
use Rattle.std.proofs.Math.Seq.{take-suc}
use Rattle.std.proofs.lemmas.List.{take_all, map_push}
use Rattle.cx_base.specs.Literals.{Literal, negate}
use Rattle.cx_semantics.specs.Chain.{negations}
use Rattle.cdcl_core.proofs.failing.negated.Goals as goal

pub loop-lit-preserved : goal.loop-lit-preserved
loop-lit-preserved c =
    let lits = c.args.lits.now in
    let i = c.loop-lit.lit-index in
    let l : Literal = c.lit-item.result in
    let next : take (i + 1) lits ≡ take i lits ++ l ∷ [] = rw add-one (take-suc lits i l c.loop-lit-test.true ∙ ap (λ x. take i lits ++ x ∷ []) (sym c.lit-item.is)) in
    let pushed : c.push.new.self.items ≡ c.loop-lit.negated.items ++ negate l ∷ [] = search rules in
    pushed ∙ ap (λ xs. xs ++ negate l ∷ []) c.loop-lit.invariant ∙ sym (ap negations next ∙ map_push negate (take i lits) l)

pub returns : goal.returns
returns c = c.from_vec.ensures ∙ c.loop-lit.invariant ∙ ap negations (take_all c.loop-lit.lit-index c.args.lits.now c.loop-lit-test.false)
