use Rattle.std.proofs.Common.{◌≡◌, ◌∙◌, ℕ, sym, ap, subst, length, arith}
use Rattle.std.proofs.lemmas.List.{length-map}
use Rattle.std.proofs.lemmas.Result.{IfOk-weaker}
use Rattle.parity_engine.specs.Equations.{parity_number}
use Rattle.gf2_matrix.specs.Enough.{SayFirst, kept}
use Rattle.gf2_matrix.proofs.Choosing.{say_kept, within_numbered}
use Rattle.gf2_matrix.proofs.independent.enough_of.Goals as goal

pub marks_of-requires-clause-within : goal.marks_of-requires-clause-within
marks_of-requires-clause-within c =
    rw c.in_ok-chosen.ensures (within_numbered c.args.vars c.args.parities.now 1 c.args.numbers.now c.requires.within (omega arith) c.requires.rise)

pub marked-requires : goal.marked-requires
marked-requires c =
    let long = c.in_ok-marks.ensures.long in
    ap length c.deref.ensures.value ∙ long ∙ ap length c.in_ok-chosen.ensures ∙ length-map c.args.numbers.now (parity_number c.args.parities.now)

pub returns : goal.returns
returns c =
    let all = rw c.in_ok-chosen.ensures at c.in_ok-marks.ensures in
    IfOk-weaker c.marked.result (λ left. left.items ≡ kept c.args.numbers.now c.deref.result.now)
    (λ left. (n : ℕ) → SayFirst c.args.vars c.args.parities.now c.args.numbers.now n → SayFirst c.args.vars c.args.parities.now left.items n)
    (λ left is n first.
    subst (λ ks. SayFirst c.args.vars c.args.parities.now ks n) (sym (is ∙ ap (kept c.args.numbers.now) c.deref.ensures.value))
    (say_kept c.args.vars c.args.parities.now c.args.numbers.now c.in_ok-marks.marks.items n first all))
    c.marked.ensures
