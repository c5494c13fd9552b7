use Rattle.std.proofs.Common.{◌≡◌, ◌∙◌, sym, ap, arith, length, get_or}
use Rattle.gf2_rows.proofs.Entries.{length-laid_out, laid_none}
use Rattle.gf2_rows.proofs.few.FewWords.end.Goals as goal

pub loop-i-init : goal.loop-i-init
loop-i-init c =
    let f = c.self.inside in
    let long : length c.args.self.now ≡ f.len = sym (ap length c.self.view_is) ∙ length-laid_out f.len f.count f.places f.words in
    let room = c.requires in
    record { least = omega arith; within = omega arith; places = λ j lt. omega arith }

pub returns-clause-within : goal.returns-clause-within
returns-clause-within c =
    let f = c.self.inside in
    let long : length c.args.self.now ≡ f.len = sym (ap length c.self.view_is) ∙ length-laid_out f.len f.count f.places f.words in
    let within = c.loop-i.invariant.within in
    omega arith

pub returns-clause-zeros : goal.returns-clause-zeros
returns-clause-zeros c = λ i past.
    let f = c.self.inside in
    let all : c.loop-i.i ≡ f.count = omega arith in
    ap (λ l. get_or l i 0) (sym c.self.view_is)
    ∙ laid_none f.len f.count f.places f.words i (λ j lt e. let before = c.loop-i.invariant.places j (omega arith) in omega arith)
