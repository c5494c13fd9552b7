use Rattle.std.proofs.Common.{◌∙◌, ◌*◌, ◌^◌, ◌%◌, ap, Some, set, w64, arith}
use Rattle.std.proofs.Math.Facts.{Fits-or}
use Rattle.std.proofs.lemmas.List.{length-set}
use Rattle.std.proofs.lemmas.Nat.Bits.{bit_at_set_same, bit_at_set_other}
use Rattle.proof_rules.specs.Places.{all_places}
use Rattle.proof_rules.proofs.PageLaws.{page_changed}
use Rattle.proof_rules.proofs.page.Page.put.Goals as goal

pub invariant_of-self-2 : goal.invariant_of-self-2
invariant_of-self-2 g c =
    let full = c.in_ok-make_places.ensures.made in
    let all = length-set c.make_places.new.places.items c.args.place c.args.value ∙ full in
    let small = Fits-or {w = w64} {a = c.self.inside.taken} {b = 1 * 2 ^ c.args.place % 2 ^ 64} (record { fits = c.self.invariant.2 }) (record { fits = omega arith }) in
    ((λ some. all), (λ none. absurd (omega (arith, none, all))), small.fits)

pub returns-clause-ok : goal.returns-clause-ok
returns-clause-ok g c =
    let places = c.make_places.new.places.items in
    let taken = c.self.inside.taken in
    let place = c.args.place in
    let within = c.requires in
    let full = c.in_ok-make_places.ensures.made in
    page_changed taken _ places place 1 c.args.value full (omega (arith, within, full)) (bit_at_set_same w64 taken place within) (λ j lt apart. bit_at_set_other w64 taken place within j apart)
    ∙ ap (λ xs. set xs place (Some c.args.value)) (c.in_ok-make_places.ensures.same ∙ ap all_places c.self.view_is)
