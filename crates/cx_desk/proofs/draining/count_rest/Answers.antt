use Rattle.std.proofs.Common.{◌≡◌, ap, subst, ◌-◌, ◌+◌, false, true, ◌==◌, arith}
use Rattle.std.proofs.lemmas.Result.{err_from_is_err_and}
use Rattle.cx_desk.specs.Outside.{Outside}
use Rattle.cx_desk.specs.Calls.{TookSome, ReadFaulted}
use Rattle.cx_desk.proofs.Moves.{some-none, some-on, not-none}
use Rattle.cx_desk.proofs.draining.count_rest.Goals as goal

pub loop-count-init : goal.loop-count-init
loop-count-init g c =
    let o = g.D.Desk.outside c.args.desk.now in
    let none : 0 ≡ c.args.left - c.args.left = omega arith in
    (omega arith, subst (λ n. TookSome c.args.slot n false o o) none (some-none c.args.slot o))

pub returns-then-count-eq0 : goal.returns-then-count-eq0
returns-then-count-eq0 g c =
    let count = c.in_ok-count.count in
    let done = c.args.left - c.loop-count.room in (
      omega arith,
      some-on c.args.slot done count done (count == 0) true _ (g.D.Desk.outside c.loop-count.desk) _ (omega (arith, c.if-count-eq0.true)) (ap (λ k. k == 0) c.if-count-eq0.true) c.loop-count.invariant.1 c.in_ok-count.ensures.1,
    )

pub returns-then-count-room : goal.returns-then-count-room
returns-then-count-room g c =
    let count = c.in_ok-count.count in
    let done = c.args.left - c.loop-count.room in
    some-on c.args.slot done count (c.args.left + 1) (count == 0) false _ (g.D.Desk.outside c.loop-count.desk) _
    (omega (arith, c.in_ok-count.ensures.0, c.saturating_add.ensures, c.if-count-room.true, c.loop-count.invariant.0)) (not-none count c.if-count-eq0.false) c.loop-count.invariant.1 c.in_ok-count.ensures.1

pub loop-count-preserved : goal.loop-count-preserved
loop-count-preserved g c =
    let count = c.in_ok-count.count in
    let done = c.args.left - c.loop-count.room in (
      omega (arith, c.loop-count.invariant.0),
      some-on c.args.slot done count (c.args.left - (c.loop-count.room - count)) (count == 0) false _ (g.D.Desk.outside c.loop-count.desk) _
          (omega (arith, c.loop-count.invariant.0, c.if-count-room.false)) (not-none count c.if-count-eq0.false) c.loop-count.invariant.1 c.in_ok-count.ensures.1,
    )

pub returns-in_err-count : goal.returns-in_err-count
returns-in_err-count g c =
    let before = c.loop-count.invariant.1 in
    let failed = err_from_is_err_and c.from_residual.result c.from_residual.ensures.1 in
    rw (failed.1, failed.2) (before.got, omega (arith, before.count), subst (λ (x : Outside). ReadFaulted x (g.D.Desk.outside c.pass_over.new.desk)) before.took c.in_err-count.ensures)
