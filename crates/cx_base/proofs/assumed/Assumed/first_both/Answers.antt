use Rattle.std.proofs.Common.{◌≡◌, ◌∙◌, ◌+◌, ◌*◌, get_or, sym, subst, arith}
use Rattle.std.specs.Slice.Scan.{HoldsNowhere, IsFirstPlace}
use Rattle.std.proofs.lemmas.Grind.{get_or_default_zero}
use Rattle.cx_base.specs.Assumed.{has_pair, IsFirstBoth}
use Rattle.cx_base.proofs.MarkLaws.{none_more, first_both_here}
use Rattle.cx_base.proofs.assumed.Assumed.first_both.Goals as goal

pub returns-in-Some : goal.returns-in-Some
returns-in-Some c =
    let marks = c.args.self.now.marks.items in
    let word : c.index.result.now ≡ get_or marks c.loop-place.place 0 = c.index.ensures ∙ get_or_default_zero marks c.loop-place.place c.index.result.now (let t = c.loop-place-test.true in omega arith) in
    let x : c.new.result ≡ 32 * c.loop-place.place + c.in-Some.pair = omega arith in
    subst (IsFirstBoth marks) (sym x)
    (first_both_here marks c.loop-place.place c.in-Some.pair c.loop-place.invariant c.in-Some.ensures.0 (subst (λ w. IsFirstPlace (has_pair w) 0 32 c.in-Some.pair) word c.in-Some.ensures.1) c.requires.no_variable)

pub loop-place-preserved : goal.loop-place-preserved
loop-place-preserved c =
    let word : c.index.result.now ≡ get_or c.args.self.now.marks.items c.loop-place.place 0 = c.index.ensures ∙ get_or_default_zero c.args.self.now.marks.items c.loop-place.place c.index.result.now (let t = c.loop-place-test.true in omega arith) in
    none_more c.args.self.now.marks.items c.loop-place.place c.loop-place.invariant (subst (λ w. HoldsNowhere (has_pair w) 0 32) word c.in_default.ensures)
