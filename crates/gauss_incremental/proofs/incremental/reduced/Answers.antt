use Rattle.std.proofs.Common.{◌≡◌, ◌<◌, ◌∙◌, None, ap, length, subst, sym, arith}
use Rattle.std.specs.Prelude.{◌^◌}
use Rattle.std.specs.Vec.{with_items}
use Rattle.std.proofs.lemmas.List.{with_items_is, length-replicate}
use Rattle.std.proofs.lemmas.Result.{err_from_is_err_and}
use Rattle.gauss_incremental.specs.Basics.{AreBasic}
use Rattle.gauss_incremental.proofs.incremental.reduced.Goals as goal

pub returns-in_err-matrix : goal.returns-in_err-matrix
returns-in_err-matrix c = let fault = err_from_is_err_and c.from_residual.result c.from_residual.ensures.1 in rw fault.1 tt

pub returns-in_err-basics : goal.returns-in_err-basics
returns-in_err-basics c = let fault = err_from_is_err_and c.from_residual-in_err-basics.result c.from_residual-in_err-basics.ensures.1 in rw fault.1 tt

pub reduce-requires : goal.reduce-requires
reduce-requires c =
    record {
      same = ap length (c.deref_mut.ensures.value ∙ c.in_ok-basics.ensures) ∙ length-replicate c.rows.result None ∙ c.rows.ensures.count;
    }

pub returns : goal.returns
returns c =
    let d = c.reduce.new.matrix in
    let made = c.in_ok-matrix.ensures in
    let shape = c.reduce.ensures.shape in
    let few : length d.rows < 2 ^ 32 = let a = shape.rows in let b = made.few_rows in omega arith in
    let basics_is : (with_items c.in_ok-basics.basics c.reduce.new.basics).items ≡ c.reduce.new.basics =
    with_items_is c.in_ok-basics.basics c.reduce.new.basics (c.reduce.auto.basics ∙ ap length c.deref_mut.ensures.value ∙ sym c.in_ok-basics.basics.ok.0) in
    record {
      over = (shape.vars ∙ made.over.0, shape.given ∙ made.over.1);
      few_rows = few;
      of_given = c.reduce.ensures.of_given;
      basic = subst (AreBasic d) (sym basics_is) c.reduce.ensures.basic;
    }
