use Rattle.std.proofs.Common.{◌≤◌, ◌∙◌, sym, ap, arith, length, count_by}
use Rattle.gf2_rows.specs.Bits.{bits_of}
use Rattle.gf2_rows.proofs.FewSteps.{ones_of_few}
use Rattle.gf2_rows.proofs.few.FewWords.ones.Goals as goal

pub returns : goal.returns
returns c =
    let f = c.self.inside in
    let told = c.self.told in
    let few = c.self.invariant in
    let room = few.room in
    let long : f.count ≤ length f.words = omega arith in
    let all : f.count ≤ f.count = omega arith in
    c.ones.ensures ∙ sym (ones_of_few f.len f.places f.words f.count f.count all few long) ∙ ap (λ l. count_by (λ b. b) (bits_of l)) c.self.view_is
