use Rattle.std.proofs.Common.{◌≡◌, ℕ, ◌<◌, ◌≤◌, ◌∙◌, sym, ap, subst, count_by, MatchOption}
use Rattle.gf2_rows.specs.Bits.{bits_of}
use Rattle.gf2_rows.proofs.PutWords.{ones-padded}
use Rattle.gf2_rows.proofs.short.ShortWords.fewer_ones.Goals as goal

pub returns : goal.returns
returns c =
    let s = c.self.inside in
    let same = sym (ones-padded s.len s.words.now) ∙ ap (λ l. count_by (λ b. b) (bits_of l)) c.self.view_is in
    subst (λ (ones : ℕ). MatchOption c.fewer_ones.result (c.args.limit ≤ ones) (λ n. (n ≡ ones) × (n < c.args.limit))) same c.fewer_ones.ensures
