use Rattle.std.proofs.Common.{◌≡◌, ◌∙◌, ap, sym, refl, zero, suc, ℕ, true, true≢false, eqb}
use Rattle.std.proofs.Math.Dec.{eqb-suc-zero}
use Rattle.std.proofs.lemmas.Bool.{eq-eqb}
use Rattle.proof_rules.specs.Places.{all_places}
use Rattle.proof_rules.proofs.PageLaws.{all_places-vacant, nothing_held}
use Rattle.proof_rules.proofs.page.Page.is_vacant.Goals as goal

is_zero : (n : ℕ) → eqb n 0 ≡ true → n ≡ 0
is_zero zero e = refl
is_zero (suc n) e = absurd (true≢false (sym e ∙ eqb-suc-zero n))

pub returns : goal.returns
returns g c =
    let places = c.self.inside.places.items in
    let taken = c.self.inside.taken in
    let same = ap all_places c.self.view_is in (
      (λ none. sym (all_places-vacant taken places c.self.invariant.0 (is_zero taken none) ∙ same)),
      (λ vacant. eq-eqb taken 0 (nothing_held taken places c.self.invariant.2 c.self.invariant.0 c.self.invariant.1 (same ∙ vacant))),
    )
