use Rattle.std.proofs.Common.{◌≡◌, ◌&&◌, ◌∙◌, sym, ap, arith, length}
use Rattle.std.specs.Simd.Lanes.{zip2}
use Rattle.cx_base.specs.Parity.{odd_sum}
use Rattle.gf2_rows.specs.Bits.{bits_of}
use Rattle.gf2_rows.specs.Few.{laid_out}
use Rattle.gf2_rows.proofs.Words.{parity_of-ones}
use Rattle.gf2_rows.proofs.Entries.{length-laid_out}
use Rattle.gf2_rows.proofs.FewSteps.{product_begin, product_step}
use Rattle.gf2_rows.proofs.few.FewWords.parity_and.Goals as goal

pub loop-i-init : goal.loop-i-init
loop-i-init c =
    let f = c.self.inside in
    let long : length c.args.self.now ≡ f.len = sym (ap length c.self.view_is) ∙ length-laid_out f.len f.count f.places f.words in
    product_begin f.len f.places f.words c.args.other.now (sym long ∙ c.requires)

pub bounds-other-self-inside : goal.bounds-other-self-inside
bounds-other-self-inside c =
    let f = c.self.inside in
    let long : length c.args.self.now ≡ f.len = sym (ap length c.self.view_is) ∙ length-laid_out f.len f.count f.places f.words in
    let within = c.self.invariant.within c.loop-i.i c.loop-i-test.true in
    omega arith

pub loop-i-preserved : goal.loop-i-preserved
loop-i-preserved c =
    let f = c.self.inside in
    let long : length c.args.self.now ≡ f.len = sym (ap length c.self.view_is) ∙ length-laid_out f.len f.count f.places f.words in
    product_step f.len f.count f.places f.words c.self.invariant c.loop-i.i c.loop-i-test.true c.args.other.now c.loop-i.sum (sym long ∙ c.requires) c.loop-i.invariant

pub returns : goal.returns
returns c =
    let f = c.self.inside in
    let all : c.loop-i.i ≡ f.count = omega arith in
    sym (parity_of-ones c.loop-i.sum c.loop-i.auto.sum-fits.fits) ∙ c.loop-i.invariant
    ∙ ap (λ l. odd_sum (zip2 ◌&&◌ (bits_of l) (bits_of c.args.other.now))) (ap (λ n. laid_out f.len n f.places f.words) all ∙ c.self.view_is)
