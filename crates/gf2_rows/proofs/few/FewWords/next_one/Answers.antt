use Rattle.std.proofs.Common.{◌≡◌, ◌*◌, ◌∙◌, ap, subst, arith, length}
use Rattle.gf2_rows.specs.Bits.{bit_of}
use Rattle.gf2_rows.specs.Few.{laid_out, FirstFrom}
use Rattle.gf2_rows.proofs.Entries.{length-laid_out}
use Rattle.gf2_rows.proofs.FewSteps.{one_begin, one_step}
use Rattle.gf2_rows.proofs.few.FewWords.next_one.Goals as goal

pub loop-i-init : goal.loop-i-init
loop-i-init c = one_begin c.self.inside.len c.self.inside.places c.self.inside.words c.args.from (64 * c.self.inside.len)

pub loop-i-preserved : goal.loop-i-preserved
loop-i-preserved c =
    let f = c.self.inside in
    let i = c.loop-i.i in
    let within = c.self.invariant.within i c.loop-i-test.true in
    let found = rw c.from-place.ensures at c.first_in_word.ensures in
    rw c.least-best.ensures
    (one_step f.len f.count f.places f.words c.self.invariant i c.loop-i-test.true c.args.from c.loop-i.best c.first_in_word.result c.loop-i.invariant (found f.len within))

pub returns : goal.returns
returns c =
    let f = c.self.inside in
    let all : c.loop-i.i ≡ f.count = omega arith in
    subst (λ l. FirstFrom (bit_of l) c.args.from (64 * length l) c.loop-i.best) (ap (λ n. laid_out f.len n f.places f.words) all ∙ c.self.view_is)
    (rw (length-laid_out f.len c.loop-i.i f.places f.words) c.loop-i.invariant)
