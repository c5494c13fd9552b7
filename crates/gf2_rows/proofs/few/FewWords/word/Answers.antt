use Rattle.std.proofs.Common.{List, ℕ, ◌∙◌, sym, ap, get_or}
use Rattle.gf2_rows.specs.Few.{laid_out}
use Rattle.gf2_rows.proofs.Entries.{laid_at, laid_none}
use Rattle.gf2_rows.proofs.few.FewWords.word.Goals as goal

pub returns-in-Some : goal.returns-in-Some
returns-in-Some c =
    let f = c.self.inside in
    let all : List ℕ = laid_out f.len f.count f.places f.words in
    sym (laid_at f.len f.count f.places f.words c.in-Some.i c.self.invariant.within c.self.invariant.apart c.in-Some.ensures.0)
    ∙ ap (λ p. get_or all p 0) c.in-Some.ensures.1 ∙ ap (λ l. get_or l c.args.place 0) c.self.view_is

pub returns-in-None : goal.returns-in-None
returns-in-None c =
    let f = c.self.inside in
    sym (laid_none f.len f.count f.places f.words c.args.place c.in-None.ensures) ∙ ap (λ l. get_or l c.args.place 0) c.self.view_is
