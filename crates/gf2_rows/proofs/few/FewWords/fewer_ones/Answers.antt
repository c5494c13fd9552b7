use Rattle.std.proofs.Common.{◌≡◌, ℕ, ◌<◌, ◌≤◌, ◌∙◌, sym, ap, subst, arith, length, count_by, MatchOption}
use Rattle.gf2_rows.specs.Bits.{bits_of}
use Rattle.gf2_rows.proofs.FewSteps.{ones_of_few}
use Rattle.gf2_rows.proofs.few.FewWords.fewer_ones.Goals as goal

pub returns : goal.returns
returns c =
    let f = c.self.inside in
    let told = c.self.told in
    let few = c.self.invariant in
    let room = few.room in
    let long : f.count ≤ length f.words = omega arith in
    let all : f.count ≤ f.count = omega arith in
    let same = sym (ones_of_few f.len f.places f.words f.count f.count all few long) ∙ ap (λ l. count_by (λ b. b) (bits_of l)) c.self.view_is in
    subst (λ (ones : ℕ). MatchOption c.fewer_ones.result (c.args.limit ≤ ones) (λ n. (n ≡ ones) × (n < c.args.limit))) same c.fewer_ones.ensures
