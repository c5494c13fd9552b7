use Rattle.std.proofs.Common.{◌≡◌, ◌⊎◌, true, false, sym, ap, ◌∙◌, subst, inl, inr, arith}
use Rattle.std.proofs.lemmas.List.{take_all}
use Rattle.std.proofs.lemmas.Bool.Decides.{when_true, when_false}
use Rattle.cx_base.specs.Literals.{same_literal}
use Rattle.cx_semantics.specs.Chain.{has_literal}
use Rattle.clause_tidy.specs.Shortened.{IsWithout}
use Rattle.clause_tidy.proofs.WithoutLaws.{IsCounted, counted_more, counted_past}
use Rattle.clause_tidy.proofs.shortening.without.Goals.{then-is_wanted+in_ok-push, else-is_wanted}
use Rattle.clause_tidy.proofs.shortening.without.Goals as goal

pub loop-other-preserved : goal.loop-other-preserved
loop-other-preserved c =
    let lits = c.args.lits.now in
    let lit = c.args.lit in
    let x = c.other-item.result in
    let found = c.loop-other.found.items in
    let i = c.loop-other.other-index in
    elim c.if-is_wanted.branch [
      | then-is_wanted+in_ok-push w ↦
          let both = when_true ((same_literal x lit ≡ false) × (has_literal c.deref.result.now x ≡ false)) ((same_literal x lit ≡ true) ⊎ (has_literal c.deref.result.now x ≡ true)) w.if-is_wanted.true c.is_wanted.ensures in
          subst (λ v. IsCounted i lits lit v.items) (sym w.found-is)
          (counted_more lits found lit x i c.loop-other-test.true c.other-item.is c.loop-other.invariant.so_far c.loop-other.invariant.few c.loop-other.invariant.fewer both.0 (sym (ap (λ xs. has_literal xs x) c.deref.ensures.value) ∙ both.1) w.push.new.self.items w.in_ok-push.ensures.items)
      | else-is_wanted w ↦
          subst (λ v. IsCounted i lits lit v.items) (sym w.found-is)
          (counted_past lits found lit x i c.loop-other-test.true c.other-item.is c.loop-other.invariant.so_far c.loop-other.invariant.few
          (elim (when_false ((same_literal x lit ≡ false) × (has_literal c.deref.result.now x ≡ false)) ((same_literal x lit ≡ true) ⊎ (has_literal c.deref.result.now x ≡ true)) w.if-is_wanted.false c.is_wanted.ensures) [
            | inl that ↦ inl that
            | inr there ↦ inr (sym (ap (λ xs. has_literal xs x) c.deref.ensures.value) ∙ there)
          ]))
    ]

pub returns-clause-without : goal.returns-clause-without
returns-clause-without c =
    let lits = c.args.lits.now in
    subst (λ ls. IsWithout ls c.args.lit c.loop-other.found.items) (take_all c.loop-other.other-index lits c.loop-other-test.false) c.loop-other.invariant.so_far

pub returns-clause-fewer : goal.returns-clause-fewer
returns-clause-fewer c = λ has.
    let all = take_all c.loop-other.other-index c.args.lits.now c.loop-other-test.false in
    let less = c.loop-other.invariant.fewer (ap (λ ls. has_literal ls c.args.lit) all ∙ has) in
    let within = c.loop-other.auto.other-index-end in
    omega (arith, less, within)
