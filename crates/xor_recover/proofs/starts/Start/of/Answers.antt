use Rattle.std.proofs.Common.{◌≡◌, refl, sym, ap, ◌∙◌, subst, min, max, List, ◌∷◌, ◌++◌, [], take, arith}
use Rattle.std.proofs.lemmas.List.{take_all}
use Rattle.cx_base.specs.Literals.{Literal}
use Rattle.xor_recover.proofs.StartLaws.{AreLeast, none_least, same_least, more_least, begins_row, no_row}
use Rattle.xor_recover.proofs.StartRows.{take_more}
use Rattle.xor_recover.proofs.starts.Start.of.Goals as goal
use Rattle.xor_recover.proofs.starts.Start.of.Goals.{then-variable-first, else-variable-first}

pub loop-lit-init : goal.loop-lit-init
loop-lit-init c = none_least

pub loop-lit-preserved : goal.loop-lit-preserved
loop-lit-preserved c =
    let lits = c.args.lits.now in
    let k = c.loop-lit.lit-index in
    let l = c.lit-item.result in
    let a = c.loop-lit.first in
    let b = c.loop-lit.second in
    let first = c.if-variable-first.first in
    let second = c.if-variable-first.second in
    let v : c.number-variable.result ≡ l.variable = c.number-variable.ensures.number ∙ c.var.ensures in
    let high = c.number-variable.ensures.high in
    subst (λ (p : List Literal). AreLeast p first second) (sym (take_more lits k l c.loop-lit-test.true c.lit-item.is)) (elim c.if-variable-first.branch [
      | then-variable-first w ↦ more_least (take k lits) l a b first second (λ e. w.if-variable-first.true (v ∙ e)) (omega (arith, v, high))
          (w.first-is ∙ w.lesser-first.ensures ∙ ap (λ n. min a n) v) (w.second-is ∙ w.lesser-second.ensures ∙ ap (λ n. min b n) (w.greater.ensures ∙ ap (λ n. max a n) v)) c.loop-lit.invariant
      | else-variable-first w ↦ (let h = same_least (take k lits) l a b (sym v ∙ w.if-variable-first.false) c.loop-lit.invariant in
          subst (λ n. AreLeast (take k lits ++ l ∷ []) n second) (sym w.first-is) (subst (λ n. AreLeast (take k lits ++ l ∷ []) a n) (sym w.second-is) h))
    ])

pub returns-then-second : goal.returns-then-second
returns-then-second c =
    let lits = c.args.lits.now in
    no_row lits c.args.number c.loop-lit.first c.loop-lit.second c.requires (subst (λ (p : List Literal). AreLeast p c.loop-lit.first c.loop-lit.second) (take_all c.loop-lit.lit-index lits c.loop-lit-test.false) c.loop-lit.invariant) c.if-second.true

pub returns-else-second : goal.returns-else-second
returns-else-second c =
    let lits = c.args.lits.now in
    (refl, (let most = c.loop-lit.invariant.most.1 in omega (arith, most)), begins_row lits c.args.number (record { first = c.loop-lit.first; second = c.loop-lit.second; number = c.args.number }) c.requires (subst (λ (p : List Literal). AreLeast p c.loop-lit.first c.loop-lit.second) (take_all c.loop-lit.lit-index lits c.loop-lit-test.false) c.loop-lit.invariant))
