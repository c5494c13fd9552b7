use Rattle.std.proofs.Common.{◌∙◌, ap, sym, subst, refl, eqb-true, length, take}
use Rattle.std.proofs.lemmas.Result.{err_from_is_err_and}
use Rattle.cx_desk.specs.Outside.{Bytes, Outside}
use Rattle.cx_desk.specs.declared.desk.Port.TheVariants.{Proof}
use Rattle.cx_desk.specs.Calls.{WriteFaulted, gained}
use Rattle.cx_desk.specs.Spooled.{with_waiting}
use Rattle.cx_desk.proofs.Waits.{written_front, write_failed, none_waits, none_of}
use Rattle.cx_desk.proofs.spool.Spool.flush.Goals as goal

pub loop-self-init : goal.loop-self-init
loop-self-init g c = refl

pub returns-in_err-count-clause-writes : goal.returns-in_err-count-clause-writes
returns-in_err-count-clause-writes g c =
    let waits = c.loop-self.self.waiting.0 in
    let new = g.D.Desk.outside c.put.new.self in
    let failed = err_from_is_err_and c.from_residual.result c.from_residual.ensures.1 in
    rw failed.1 (subst (λ (x : Outside). WriteFaulted x (with_waiting waits new)) c.loop-self.invariant (write_failed waits (g.D.Desk.outside c.loop-self.self.desk) new c.in_err-count.ensures))

pub loop-self-preserved : goal.loop-self-preserved
loop-self-preserved g c =
    let waits = c.loop-self.self.waiting.0 in
    let o = g.D.Desk.outside c.loop-self.self.desk in
    let n = c.in_ok-count.count in
    let moved = c.in_ok-count.ensures.2 ∙ ap (λ (b : Bytes). gained Proof (take n b) o) c.bytes-in-loop-self.ensures in
    ap (λ (w : Bytes). with_waiting w (g.D.Desk.outside c.put.new.self)) c.pass.ensures ∙ written_front waits n o (g.D.Desk.outside c.put.new.self) moved ∙ c.loop-self.invariant

pub returns-clause-writes : goal.returns-clause-writes
returns-clause-writes g c =
    let waits = c.loop-self.self.waiting.0 in
    let none = none_of c.bytes.result.now (eqb-true (length c.bytes.result.now) 0 (sym c.is_empty.ensures ∙ c.loop-self-test.false)) in
    (c.clear.ensures.none, none_waits waits (g.D.Desk.outside c.loop-self.self.desk) (sym c.bytes.ensures ∙ none) ∙ c.loop-self.invariant)
