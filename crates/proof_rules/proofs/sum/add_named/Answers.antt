use Rattle.std.proofs.Common.{sym, ap, ◌∙◌, ◌+◌, drop, get_or}
use Rattle.std.proofs.Math.ListN.{drop_of_length-le}
use Rattle.std.proofs.lemmas.List.{drop_more}
use Rattle.cx_semantics.specs.Tables.{named}
use Rattle.proof_rules.specs.Sums.{plus_all}
use Rattle.proof_rules.proofs.SumLaws.{plus_all-hint, plus_all-no_hint, plus_all-none}
use Rattle.proof_rules.proofs.sum.add_named.Goals.{in-Some+in_ok-add, in_default}
use Rattle.proof_rules.proofs.sum.add_named.Goals as goal

pub loop-id-preserved : goal.loop-id-preserved
loop-id-preserved c =
    let ids = c.args.ids.now in
    let here = get_or ids c.loop-id.id-index 0 in
    let rest = drop (c.loop-id.id-index + 1) ids in
    let table = c.args.live.now.parities in
    let back = ap (λ zs. plus_all c.loop-id.sum (named table zs)) (sym (drop_more ids c.loop-id.id-index 0 c.loop-id-test.true)) ∙ c.loop-id.invariant in
    elim c.match-parity.branch [
      | in-Some+in_ok-add w ↦
          ap (λ s. plus_all s (named table rest)) (w.sum-is ∙ w.in_ok-add.ensures) ∙ plus_all-hint c.loop-id.sum table here rest w.in-Some.lits.now w.in-Some.ensures ∙ back
      | in_default w ↦ ap (λ s. plus_all s (named table rest)) w.sum-is ∙ plus_all-no_hint c.loop-id.sum table here rest w.in_default.ensures ∙ back
    ]

pub returns : goal.returns
returns c =
    sym (plus_all-none c.loop-id.sum)
    ∙ ap (λ zs. plus_all c.loop-id.sum (named c.args.live.now.parities zs)) (sym (drop_of_length-le c.args.ids.now c.loop-id-test.false)) ∙ c.loop-id.invariant
