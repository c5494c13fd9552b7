use Rattle.std.proofs.Common.{◌∙◌, ap, sym, is_some, not, List}
use Rattle.std.proofs.Math.ListN.{drop_of_length-le}
use Rattle.cx_base.specs.declared.id_moves.IdMove.{IdMove}
use Rattle.cx_semantics.specs.Moves.{old_ids, without_ids}
use Rattle.proof_rules.specs.Moving.{meets_none}
use Rattle.proof_rules.proofs.MovingLaws.{without_next, meets_none_next, meets_none_here}
use Rattle.proof_rules.proofs.moving.take_all_out.Goals as goal

pub loop-place-preserved : goal.loop-place-preserved
loop-place-preserved g c =
    let values = c.loop-place.values in
    let moves = c.args.moves.now in
    let place = c.loop-place.place in
    let taken = c.take-value.ensures in
    let some = sym (ap is_some taken.taken) ∙ c.is_none.ensures ∙ ap not c.if-is_none.false in
    record {
      none = meets_none_next values c.take-value.new.self moves place _ c.loop-place-test.true taken.gone some ∙ c.loop-place.invariant.none;
      out = without_next values c.take-value.new.self moves place _ c.loop-place-test.true taken.gone ∙ c.loop-place.invariant.out;
    }

pub returns-then-is_none-clause-judged : goal.returns-then-is_none-clause-judged
returns-then-is_none-clause-judged g c =
    let none = sym (ap is_some c.take-value.ensures.taken) ∙ c.is_none.ensures ∙ ap not c.if-is_none.true in
    ap not (sym (meets_none_here c.loop-place.values c.args.moves.now c.loop-place.place _ c.loop-place-test.true none) ∙ c.loop-place.invariant.none)

pub returns-clause-judged : goal.returns-clause-judged
returns-clause-judged g c = ap not (ap (λ (ms : List IdMove). meets_none c.loop-place.values ms) (sym (drop_of_length-le c.args.moves.now c.loop-place-test.false)) ∙ c.loop-place.invariant.none)

pub returns-clause-out : goal.returns-clause-out
returns-clause-out g c done = ap (λ (ms : List IdMove). without_ids c.loop-place.values (old_ids ms)) (sym (drop_of_length-le c.args.moves.now c.loop-place-test.false)) ∙ c.loop-place.invariant.out
