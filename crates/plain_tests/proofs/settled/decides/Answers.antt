use Rattle.std.proofs.Common.{◌≡◌, ◌∙◌, sym, ap, false, true, ℕ, ◌+◌, rules}
use Rattle.cx_base.specs.Literals.{Literal}
use Rattle.cx_semantics.specs.Chain.{has_literal}
use Rattle.plain_tests.proofs.SettlingLaws.{not_decided}
use Rattle.plain_tests.proofs.settled.decides.Goals as goal

pub returns-then-not-has-2 : goal.returns-then-not-has-2
returns-then-not-has-2 c =
    let known = c.args.known.now in
    let p : c.has.result ≡ false = search rules in
    let q : c.has-then-not-has.result ≡ false = search rules in
    let positive : ◌≡◌ {A = Literal} c.new.result (record { variable = c.loop-place.place + 1; negative = false }) = c.new.ensures ∙ ap (λ (v : ℕ). record { variable = v; negative = false }) c.new-var.ensures in
    let negative : ◌≡◌ {A = Literal} c.new-then-not-has.result (record { variable = c.loop-place.place + 1; negative = true }) = c.new-then-not-has.ensures ∙ ap (λ (v : ℕ). record { variable = v; negative = true }) c.new-var.ensures in
    sym (not_decided c.args.vars c.loop-place.place known c.loop-place-test.true
    (sym (c.has.ensures ∙ ap (has_literal known) positive) ∙ p)
    (sym (c.has-then-not-has.ensures ∙ ap (has_literal known) negative) ∙ q))
