use Rattle.std.proofs.Common.{◌≡◌, ◌<◌, ◌∙◌, ap, sym, subst, false, true≢false, is_some, List, not, length}
use Rattle.std.proofs.Math.ListN.{drop_of_length-le}
use Rattle.std.proofs.lemmas.List.{length-map}
use Rattle.std.proofs.lemmas.Result.{IfOk-from_err}
use Rattle.std.specs.FinMap as map
use Rattle.cx_base.specs.declared.id_moves.IdMove.{IdMove}
use Rattle.cx_semantics.specs.Moves.{put_moved}
use Rattle.proof_rules.specs.Moving.{meets_some}
use Rattle.proof_rules.proofs.MovingLaws.{none_at, some_at, put_moved_next, meets_some_next, meets_some_here}
use Rattle.proof_rules.proofs.moving.put_all_in.Goals as goal

pub loop-place-preserved : goal.loop-place-preserved
loop-place-preserved g c = record {
  live = λ first is.
      let none : is_some c.get.result ≡ false = cc in
      meets_some_next first c.loop-place.values c.put_value.new.values c.args.moves.now c.args.found.now c.loop-place.place _ c.index-found-place.result c.loop-place-test.true is c.index-found-place.is c.in_ok-put_value.ensures
      (none_at c.get.result _ _ none c.get.ensures)
      ∙ c.loop-place.invariant.live first is;
  put = λ first is.
      put_moved_next first c.loop-place.values c.put_value.new.values c.args.moves.now c.args.found.now c.loop-place.place _ c.index-found-place.result c.loop-place-test.true is c.index-found-place.is c.in_ok-put_value.ensures
      ∙ c.loop-place.invariant.put first is;
}

pub returns-clause-judged : goal.returns-clause-judged
returns-clause-judged g c first is =
    ap not (ap (λ (ms : List IdMove). meets_some first c.loop-place.values ms) (sym (drop_of_length-le c.args.moves.now c.loop-place-test.false)) ∙ c.loop-place.invariant.live first is)

pub returns-clause-put : goal.returns-clause-put
returns-clause-put g c done first is = ap (λ (ms : List IdMove). put_moved first c.loop-place.values ms) (sym (drop_of_length-le c.args.moves.now c.loop-place-test.false)) ∙ c.loop-place.invariant.put first is

pub returns-then-is_some-clause-judged : goal.returns-then-is_some-clause-judged
returns-then-is_some-clause-judged g c first is =
    let some = some_at c.get.result _ _ (sym c.is_some.ensures ∙ c.if-is_some.true) c.get.ensures in
    ap not (sym (meets_some_here first c.loop-place.values c.args.moves.now c.loop-place.place _ c.loop-place-test.true some) ∙ c.loop-place.invariant.live first is)

pub returns-then-is_some-clause-put : goal.returns-then-is_some-clause-put
returns-then-is_some-clause-put g c done first is = absurd (true≢false (sym done))

pub bounds-found-place : goal.bounds-found-place
bounds-found-place g c = subst (λ n. c.loop-place.place < n) (sym (ap length c.requires.1 ∙ length-map c.args.moves.now (λ (m : IdMove). map.get c.requires.0 m.from))) c.loop-place-test.true

pub returns-in_err-put_value-clause-judged : goal.returns-in_err-put_value-clause-judged
returns-in_err-put_value-clause-judged g c = IfOk-from_err c.from_residual.result _ c.from_residual.ensures.0

pub returns-in_err-put_value-clause-put : goal.returns-in_err-put_value-clause-put
returns-in_err-put_value-clause-put g c = IfOk-from_err c.from_residual.result _ c.from_residual.ensures.0
