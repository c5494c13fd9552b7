use Rattle.std.proofs.Common.{◌≡◌, ◌∙◌, sym, ap, arith, length}
use Rattle.gf2_rows.proofs.Entries.{length-laid_out, apart_push}
use Rattle.gf2_rows.proofs.Adding.{word_added, word_placed}
use Rattle.gf2_rows.proofs.few.FewWords.add_word.Goals as goal

pub returns-in-Some-clause-added : goal.returns-in-Some-clause-added
returns-in-Some-clause-added c = λ _.
    let f = c.self.inside in
    let told = c.self.told in
    let few = c.self.invariant in
    word_added f.len f.count f.places f.words c.args.self.now c.in-Some.i c.args.place c.args.word c.self.view_is few.within few.apart c.in-Some.ensures.0 (let r = few.room in omega arith) c.in-Some.ensures.1

pub overflow_cast-self : goal.overflow_cast-self
overflow_cast-self c =
    let f = c.self.inside in
    let long : length c.args.self.now ≡ f.len = sym (ap length c.self.view_is) ∙ length-laid_out f.len f.count f.places f.words in
    let small = c.self.invariant.small in
    record { fits = omega arith }

pub invariant_of-self-in-None : goal.invariant_of-self-in-None
invariant_of-self-in-None c =
    let f = c.self.inside in
    let told = c.self.told in
    let few = c.self.invariant in
    let full = c.if-self-ge-FEW.false in
    let long : length c.args.self.now ≡ f.len = sym (ap length c.self.view_is) ∙ length-laid_out f.len f.count f.places f.words in
    let more = apart_push f.len f.count f.places c.args.place (omega arith) (omega arith) few.within few.apart c.in-None.ensures in
    record { small = few.small; room = omega arith; within = more.0; apart = more.1 }

pub returns-clause-added : goal.returns-clause-added
returns-clause-added c = λ _.
    let f = c.self.inside in
    let told = c.self.told in
    let full = c.if-self-ge-FEW.false in
    word_placed f.len f.count f.places f.words c.args.self.now c.args.place c.args.word c.self.view_is (omega arith) (omega arith) c.in-None.ensures
