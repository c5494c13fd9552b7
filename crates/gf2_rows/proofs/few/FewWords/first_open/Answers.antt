use Rattle.std.proofs.Common.{◌≡◌, ◌*◌, ◌∙◌, sym, ap, subst, arith, length}
use Rattle.gf2_rows.specs.Bits.{is_outside}
use Rattle.gf2_rows.specs.Few.{laid_out, FirstFrom}
use Rattle.gf2_rows.proofs.Entries.{length-laid_out}
use Rattle.gf2_rows.proofs.FewSteps.{open_begin, open_step}
use Rattle.gf2_rows.proofs.few.FewWords.first_open.Goals as goal

pub loop-i-init : goal.loop-i-init
loop-i-init c = open_begin c.self.inside.len c.self.inside.places c.self.inside.words c.args.mask.now c.args.skip c.args.from (64 * c.self.inside.len)

pub bounds-mask-place : goal.bounds-mask-place
bounds-mask-place c =
    let f = c.self.inside in
    let long : length c.args.self.now ≡ f.len = sym (ap length c.self.view_is) ∙ length-laid_out f.len f.count f.places f.words in
    let within = c.self.invariant.within c.loop-i.i c.loop-i-test.true in
    omega arith

pub loop-i-preserved : goal.loop-i-preserved
loop-i-preserved c =
    let f = c.self.inside in
    let i = c.loop-i.i in
    let within = c.self.invariant.within i c.loop-i-test.true in
    rw c.least-best.ensures
    (open_step f.len f.count f.places f.words c.self.invariant i c.loop-i-test.true c.args.mask.now c.args.skip c.args.from c.open_bits-open.result c.loop-i.best c.first_in_word.result c.open_bits-open.ensures c.loop-i.invariant (c.first_in_word.ensures f.len within))

pub returns : goal.returns
returns c =
    let f = c.self.inside in
    let all : c.loop-i.i ≡ f.count = omega arith in
    subst (λ l. FirstFrom (is_outside l c.args.mask.now c.args.skip) c.args.from (64 * length l) c.loop-i.best) (ap (λ n. laid_out f.len n f.places f.words) all ∙ c.self.view_is)
    (rw (length-laid_out f.len c.loop-i.i f.places f.words) c.loop-i.invariant)
