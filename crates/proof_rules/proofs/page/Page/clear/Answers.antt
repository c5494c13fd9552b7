use Rattle.std.proofs.Common.{◌≡◌, ◌∙◌, ◌<◌, ap, sym, true, true≢false, false, Option, None, Some, is_some, length, set, Bor, MatchOption, w64, arith}
use Rattle.std.proofs.lemmas.Nat.Bits.{bit_at_clear_same, bit_at_clear_other}
use Rattle.proof_rules.specs.Places.{all_places}
use Rattle.proof_rules.proofs.PageLaws.{clear-no_value, has_place, length-held_in, page_changed}
use Rattle.proof_rules.proofs.page.Page.clear.Goals as goal

nothing : {V : Type 0} (found : Option (Bor V)) (o : Option V) → is_some found ≡ false → MatchOption found (o ≡ None) (λ v. o ≡ Some v.now) → o ≡ None
nothing None o e h = h
nothing (Some v) o e h = absurd (true≢false e)

something : {V : Type 0} (found : Option (Bor V)) (o : Option V) → is_some found ≡ true → MatchOption found (o ≡ None) (λ v. o ≡ Some v.now) → is_some o ≡ true
something None o e h = absurd (true≢false (sym e))
something (Some v) o e h = ap is_some h

pub returns-then-is_some : goal.returns-then-is_some
returns-then-is_some g c =
    let places = c.self.inside.places.items in
    let taken = c.self.inside.taken in
    let place = c.args.place in
    let within = c.requires in
    let some = something c.get.result _ (sym c.is_some.ensures ∙ c.if-is_some.true) c.get.ensures in
    let there = has_place c.args.self.now place some in
    let counted = ap length (sym c.self.view_is) ∙ length-held_in taken places in
    let inside : place < length places = grind (arith, there, counted) in
    let full = c.self.invariant.0 (grind (arith, inside)) in
    page_changed taken _ places place 0 _ full inside (bit_at_clear_same w64 taken place within) (λ j lt apart. bit_at_clear_other w64 taken place within j lt apart)
    ∙ ap (λ xs. set (all_places xs) place None) c.self.view_is

pub returns-else-is_some : goal.returns-else-is_some
returns-else-is_some g c =
    sym (clear-no_value c.args.self.now c.args.place c.requires (nothing c.get.result _ (sym c.is_some.ensures ∙ c.if-is_some.false) c.get.ensures))
