use Rattle.std.proofs.Common.{refl, sym, ap, ◌∙◌, subst, List, ℕ, [], ◌∷◌, ◌++◌, not, nat_eq, set}
use Rattle.std.proofs.lemmas.Result.{IfOk-from_err}
use Rattle.cx_base.specs.Literals.{differ}
use Rattle.proof_rules.specs.VariableMarks.{mark_at, is_met, is_odd, AreMarked}
use Rattle.proof_rules.specs.declared.parity_sum.Mark.{Mark}
use Rattle.proof_rules.specs.declared.parity_sum.Mark.TheVariants.{Even, Odd}
use Rattle.proof_rules.proofs.VariableLaws.{kept_marked, met_first, met_again, turned_odd, is_inside}
use Rattle.proof_rules.proofs.parity_sum.meet.Goals as goal

pub returns-in_ok-push-in-Unmet-clause-marked : goal.returns-in_ok-push-in-Unmet-clause-marked
returns-in_ok-push-in-Unmet-clause-marked c =
    let old = c.args.marks.now.items in
    let met = c.args.met.now.items in
    let marks = c.reach.new.marks.items in
    let x = c.args.variable in
    let place = c.number-place.ensures.number in
    let unmet = sym (c.mark_at.ensures ∙ (λ i. mark_at (c.deref.ensures.value i) (place i))) ∙ c.in-Unmet.is in
    let are = kept_marked old marks met c.in_ok-reach-in-Unmet.ensures.same c.requires in
    let first = met_first marks met c.number-place.result Odd c.in_ok-reach-in-Unmet.ensures.reached refl (ap is_met (ap (mark_at marks) place ∙ c.in_ok-reach-in-Unmet.ensures.same x ∙ unmet)) are in
    subst (λ (ms : List ℕ). AreMarked (set marks c.number-place.result Odd) ms) (ap (λ n. met ++ n ∷ []) place ∙ sym c.in_ok-push-in-Unmet.ensures.items) first

pub returns-in_ok-push-in-Unmet-clause-flipped : goal.returns-in_ok-push-in-Unmet-clause-flipped
returns-in_ok-push-in-Unmet-clause-flipped c x =
    let old = c.args.marks.now.items in
    let place = c.number-place.result in
    let unmet = sym (c.mark_at.ensures ∙ ap (λ (ms : List Mark). mark_at ms place) c.deref.ensures.value) ∙ c.in-Unmet.is in
    let grown = c.in_ok-reach-in-Unmet.ensures in
    turned_odd old c.reach.new.marks.items place Odd grown.same grown.reached (ap (λ m. not (is_odd m)) (sym unmet)) x ∙ ap (λ v. differ (is_odd (mark_at old x)) (nat_eq v x)) c.number-place.ensures.number

pub returns-in_err-reach-in-Unmet-clause-marked : goal.returns-in_err-reach-in-Unmet-clause-marked
returns-in_err-reach-in-Unmet-clause-marked c = kept_marked c.args.marks.now.items c.reach.new.marks.items c.args.met.now.items c.in_err-reach-in-Unmet.ensures.same c.requires

pub returns-in_err-push-in-Unmet-clause-marked : goal.returns-in_err-push-in-Unmet-clause-marked
returns-in_err-push-in-Unmet-clause-marked c =
    let marks = c.reach.new.marks.items in
    subst (λ (ms : List ℕ). AreMarked marks ms) (sym c.in_err-push-in-Unmet.ensures.items) (kept_marked c.args.marks.now.items marks c.args.met.now.items c.in_ok-reach-in-Unmet.ensures.same c.requires)

pub returns-in_err-push-in-Unmet-clause-flipped : goal.returns-in_err-push-in-Unmet-clause-flipped
returns-in_err-push-in-Unmet-clause-flipped c = IfOk-from_err _ _ c.from_residual-in_err-push-in-Unmet.ensures.0

-- ---- a variable that was met before
pub returns-in-Even-clause-marked : goal.returns-in-Even-clause-marked
returns-in-Even-clause-marked c =
    let old = c.args.marks.now.items in
    let place = c.number-place.result in
    let met = ap is_met (sym (c.mark_at.ensures ∙ ap (λ (ms : List Mark). mark_at ms place) c.deref.ensures.value) ∙ c.in-Even.is) in
    met_again old c.args.met.now.items place Odd (is_inside old place met) refl met c.requires

pub returns-in-Even-clause-flipped : goal.returns-in-Even-clause-flipped
returns-in-Even-clause-flipped c x =
    let old = c.args.marks.now.items in
    let place = c.number-place.result in
    let even = sym (c.mark_at.ensures ∙ ap (λ (ms : List Mark). mark_at ms place) c.deref.ensures.value) ∙ c.in-Even.is in
    turned_odd old old place Odd (λ q. refl) (is_inside old place (ap is_met even)) (ap (λ m. not (is_odd m)) (sym even)) x ∙ ap (λ v. differ (is_odd (mark_at old x)) (nat_eq v x)) c.number-place.ensures.number

pub returns-in-Odd-clause-marked : goal.returns-in-Odd-clause-marked
returns-in-Odd-clause-marked c =
    let old = c.args.marks.now.items in
    let place = c.number-place.result in
    let met = ap is_met (sym (c.mark_at.ensures ∙ ap (λ (ms : List Mark). mark_at ms place) c.deref.ensures.value) ∙ c.in-Odd.is) in
    met_again old c.args.met.now.items place Even (is_inside old place met) refl met c.requires

pub returns-in-Odd-clause-flipped : goal.returns-in-Odd-clause-flipped
returns-in-Odd-clause-flipped c x =
    let old = c.args.marks.now.items in
    let place = c.number-place.result in
    let odd = sym (c.mark_at.ensures ∙ ap (λ (ms : List Mark). mark_at ms place) c.deref.ensures.value) ∙ c.in-Odd.is in
    turned_odd old old place Even (λ q. refl) (is_inside old place (ap is_met odd)) (ap (λ m. not (is_odd m)) (sym odd)) x ∙ ap (λ v. differ (is_odd (mark_at old x)) (nat_eq v x)) c.number-place.ensures.number
