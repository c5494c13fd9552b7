use Rattle.std.proofs.Common.{◌<◌, false, ap, sym, subst, ◌∙◌, length, set, arith}
use Rattle.std.proofs.lemmas.List.{length-set, take_all}
use Rattle.cx_base.specs.Literals.{Literal, code_of}
use Rattle.clause_tidy.proofs.MarkLaws.{fewer_left, none_is_left}
use Rattle.clause_tidy.proofs.marks.clear.Goals as goal

pub loop-lit-preserved : goal.loop-lit-preserved
loop-lit-preserved c =
    let marks = c.loop-lit.marks in
    let x = c.lit-item.result in
    let known = subst (λ (l : Literal). code_of l < length c.args.marks.now) (sym c.lit-item.is) (c.requires.room c.loop-lit.lit-index x c.loop-lit-test.true) in
    let long = c.loop-lit.invariant.room in
    record {
      left = fewer_left marks c.args.lits.now c.loop-lit.lit-index x c.loop-lit-test.true c.lit-item.is (omega (arith, known, long)) _ (ap (λ n. set marks n false) c.code.ensures.code) c.loop-lit.invariant.left;
      room = length-set marks c.code.result false ∙ long;
    }

pub returns-clause-clear : goal.returns-clause-clear
returns-clause-clear c = none_is_left c.loop-lit.marks c.args.lits.now c.loop-lit.lit-index (take_all c.loop-lit.lit-index c.args.lits.now (omega arith)) c.loop-lit.invariant.left
