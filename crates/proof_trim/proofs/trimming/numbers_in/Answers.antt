use Rattle.std.proofs.Common.{◌∙◌, ap, sym, subst, ◌+◌, List, ℕ}
use Rattle.proof_trim.specs.Outcomes.{ListsNames}
use Rattle.proof_trim.proofs.PassLaws.{listed_more, listed_without}
use Rattle.proof_trim.proofs.trimming.numbers_in.Goals.{then-has+in_ok-push, else-has}
use Rattle.proof_trim.proofs.trimming.numbers_in.Goals as goal

pub loop-place-preserved : goal.loop-place-preserved
loop-place-preserved c =
    let names = c.args.names.now in
    let place = c.loop-place.place in
    let before = c.loop-place.numbers.items in
    elim c.if-has.branch [
      | then-has+in_ok-push w ↦
          subst (λ (x : List ℕ). ListsNames names c.args.kind (place + 1) x) (sym (ap (λ v. v.items) w.numbers-is ∙ w.in_ok-push.ensures.items))
          (listed_more names c.args.kind place before c.loop-place.invariant (sym c.has.ensures ∙ w.if-has.true))
      | else-has w ↦
          subst (λ (x : List ℕ). ListsNames names c.args.kind (place + 1) x) (sym (ap (λ v. v.items) w.numbers-is))
          (listed_without names c.args.kind place before c.loop-place.invariant (sym c.has.ensures ∙ w.if-has.false))
    ]
