use Rattle.std.proofs.Common.{◌≡◌, ◌∙◌, sym, ap, List}
use Rattle.std.proofs.lemmas.List.{take_all}
use Rattle.cx_base.specs.Literals.{Literal, negate}
use Rattle.cx_semantics.specs.Chain.{has_literal, left, count_left}
use Rattle.proof_rules.specs.Ends.{left_seen, and_one}
use Rattle.proof_rules.proofs.ChainSteps.{one_left_more, none_left_more}
use Rattle.proof_rules.proofs.chain.left_of.Goals as goal
use Rattle.proof_rules.proofs.chain.left_of.Goals.{then-not-is_marked, else-not-is_marked}

pub loop-lit-preserved : goal.loop-lit-preserved
loop-lit-preserved c =
    let assumed = c.args.assumed.now in
    let clause = c.args.clause.now in
    let x = c.lit-item.result in
    let marked : has_literal assumed (negate x) ≡ c.is_marked.result = sym (c.is_marked.ensures ∙ c.marks-marks.ensures c.negate.result ∙ ap (has_literal assumed) c.negate.ensures) in
    elim c.if-not-is_marked.branch [
      | then-not-is_marked w ↦
          ap left_seen w.found-is ∙ w.with-found.ensures ∙ ap (λ counted. and_one counted x) c.loop-lit.invariant
          ∙ one_left_more assumed clause c.loop-lit.lit-index x c.loop-lit-test.true c.lit-item.is (marked ∙ w.if-not-is_marked.true)
      | else-not-is_marked w ↦ ap left_seen w.found-is ∙ c.loop-lit.invariant ∙ none_left_more assumed clause c.loop-lit.lit-index x c.loop-lit-test.true c.lit-item.is (marked ∙ w.if-not-is_marked.false)
    ]

pub returns : goal.returns
returns c = c.loop-lit.invariant ∙ ap (λ (ls : List Literal). count_left (left c.args.assumed.now ls)) (take_all c.loop-lit.lit-index c.args.clause.now c.loop-lit-test.false)
