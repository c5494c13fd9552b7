use Rattle.std.proofs.Common.{◌≡◌, ◌∙◌, sym, subst, true, Result, Ok, Err, OnOk, is_ok, true≢false, ap}
use Rattle.cx_semantics.specs.Moves.{moved}
use Rattle.rup_finder.specs.Ready.{IsReady}
use Rattle.rup_finder.proofs.ReadyLaws.{keep_by}
use Rattle.rup_finder.proofs.ready.move_in.Goals.{in-Some, in-None}
use Rattle.rup_finder.proofs.ready.move_in.Goals as goal

on : {T E P : Type 0} (r s : Result T E) → s ≡ r → is_ok s ≡ true → OnOk r P → P
on (Ok x) s is ok h = h
on (Err e) s is ok h = absurd (true≢false (sym ok ∙ ap is_ok is))

pub move_ids-done-requires-clause-apart : goal.move_ids-done-requires-clause-apart
move_ids-done-requires-clause-apart c = (c.requires.0, c.requires.1, (subst (IsReady c.requires.0) c.in-Some.is c.requires.2).1)

pub returns : goal.returns
returns c table apart is_ready =
    let moves = c.args.moves.now in
    let after = IsReady (moved table moves) in
    keep_by after c.is_ok.result c.match-engine.engine c.keep_if.new.engine c.keep_if.ensures.stays c.keep_if.ensures.goes
    (λ ok. elim c.match-engine.branch [
      | in-Some w ↦
          let before = subst (IsReady table) w.in-Some.is is_ready in
          let done = sym c.is_ok.ensures.value ∙ ok in
          subst after (sym w.engine-is) (
            on w.move_ids-done.result c.match-engine.done w.done-is done w.move_ids-done.ensures.rest,
            on w.move_ids-done.result c.match-engine.done w.done-is done w.move_ids-done.ensures.holds table apart before.1,
          )
      | in-None w ↦ subst after (sym (w.engine-is ∙ w.in-None.is)) tt
    ]) tt
