use Rattle.std.proofs.Common.{◌∙◌, sym, ap, count_by}
use Rattle.gf2_rows.specs.Bits.{bits_of}
use Rattle.gf2_rows.proofs.PutWords.{ones-padded}
use Rattle.gf2_rows.proofs.short.ShortWords.ones.Goals as goal

pub returns : goal.returns
returns c =
    let s = c.self.inside in
    c.ones.ensures ∙ sym (ones-padded s.len s.words.now) ∙ ap (λ l. count_by (λ b. b) (bits_of l)) c.self.view_is
