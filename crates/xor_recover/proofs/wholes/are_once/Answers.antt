use Rattle.std.proofs.Common.{◌≡◌, ◌<◌, ◌-◌, ◌+◌, sym, ◌∙◌, get_or, replicate, length, true, false, arith}
use Rattle.std.proofs.lemmas.List.{length-set}
use Rattle.cx_base.specs.Problem.{clauses_of}
use Rattle.xor_recover.proofs.Grouping.{at_any}
use Rattle.xor_recover.proofs.StartRows.{read_at}
use Rattle.xor_recover.proofs.Signs.{once_first, seen_first, once_more, seen_more, not_unlike}
use Rattle.xor_recover.proofs.wholes.are_once.Goals as goal

pub loop-index-init : goal.loop-index-init
loop-index-init c =
    let C = clauses_of c.args.formula.now.constraints in
    record { once = once_first C c.args.number; seen = seen_first C c.args.number c.of-begin.result.place c.args.first.now (replicate 64 false) c.requires.first c.of-begin.ensures.place; long = length-set (replicate 64 false) c.of-begin.result.place true }

pub loop-index-preserved : goal.loop-index-preserved
loop-index-preserved c =
    let C = clauses_of c.args.formula.now.constraints in
    let n = c.args.number in
    let k = c.loop-index.index in
    let seen = c.loop-index.seen in
    let p = c.of-signs.result.place in
    let read = read_at C (n + k - 1) c.clause-lits.result.now c.clause-lits.ensures.clause in
    let few = c.of-signs.ensures.few in
    let long = c.loop-index.invariant.long in
    let lt : p < length seen = omega (arith, few, long) in
    let unseen : get_or seen p true ≡ false = at_any seen p true _ lt ∙ c.if-seen-signs.false in
    record {
      once = once_more C n k p c.args.first.now c.clause-lits.result.now seen c.requires.first read c.if-not-have_same_variables.ensures (sym c.of-signs.ensures.odd ∙ not_unlike _ _ c.if-signs-begin.false ∙ c.of-begin.ensures.odd) c.of-signs.ensures.place unseen
          c.loop-index.invariant.seen c.loop-index.invariant.once;
      seen = seen_more C n k p c.clause-lits.result.now seen read c.of-signs.ensures.place c.loop-index.invariant.seen;
      long = length-set seen p true ∙ long;
    }
