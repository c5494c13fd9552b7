use Rattle.std.proofs.Common.{◌≡◌, refl, sym, ap, subst, ◌∙◌, Bool, false, true, [], ◌∷◌, append-nil}
use Rattle.cx_desk.specs.declared.desk.Port.TheVariants.{Proof}
use Rattle.cx_desk.specs.Outside.{Bytes, Outside}
use Rattle.cx_desk.specs.Calls.{gained}
use Rattle.proof_text.specs.Told.{is_whole}
use Rattle.log_text.specs.Told.{event_line, Goes}
use Rattle.log_text.proofs.ToldLaws.{gained_event, gained_whole, torn_told}
use Rattle.log_text.proofs.desk_log.DeskLogSink.put.Goals as goal

pub invariant_of-self : goal.invariant_of-self
invariant_of-self g c =
    let whole = gained_whole (g.D.Desk.outside c.args.self.now.desk.now) c.args.event.now (c.args.self.now.whole c.requires.going) c.requires.text in
    record { whole = λ h. subst (λ (o : Outside). is_whole o ≡ true) (sym c.in-Ok.ensures) whole }

pub returns-in-Ok-clause-told : goal.returns-in-Ok-clause-told
returns-in-Ok-clause-told g c =
    rw c.in-Ok.ensures (gained_event (g.D.Desk.outside c.args.self.now.desk.now) c.args.event.now (c.args.self.now.whole c.requires.going) c.requires.text)

pub returns-in-Ok-clause-frame : goal.returns-in-Ok-clause-frame
returns-in-Ok-clause-frame g c =
    let old = g.D.Desk.outside c.args.self.now.desk.now in
    let new = g.D.Desk.outside c.put_event.new.desk in
    let moved = c.in-Ok.ensures ∙ ap (λ (x : Bytes). gained Proof x old) (sym (append-nil (event_line c.args.event.now))) in
    (refl, subst (λ (b : Bool). Goes b old false new) (sym c.requires.going) (record { events = c.args.event.now ∷ []; texts = (c.requires.text, tt); moved = moved }))

pub returns-in-Err-clause-same : goal.returns-in-Err-clause-same
returns-in-Err-clause-same g c = torn_told (g.D.Desk.outside c.args.self.now.desk.now) (g.D.Desk.outside c.put_event.new.desk) c.args.event.now c.requires.text c.in-Err.ensures

pub returns-in-Err-clause-frame : goal.returns-in-Err-clause-frame
returns-in-Err-clause-frame g c =
    let old = g.D.Desk.outside c.args.self.now.desk.now in
    let new = g.D.Desk.outside c.put_event.new.desk in
    let torn = c.in-Err.ensures in (
      refl,
      subst (λ (b : Bool). Goes b old true new) (sym c.requires.going)
          (record { events = []; texts = tt; part = c.args.event.now; text = c.requires.text; kept = torn.0; front = torn.1; moved = torn.2 }),
    )
