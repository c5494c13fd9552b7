use Rattle.std.proofs.Common.{◌≡◌, refl, sym, ap, subst, ◌∙◌, Bool, false, true, [], ◌∷◌, append-nil}
use Rattle.cx_desk.specs.declared.desk.Port.TheVariants.{Proof}
use Rattle.cx_desk.specs.Outside.{Bytes, Outside}
use Rattle.cx_desk.specs.Calls.{gained}
use Rattle.cx_base.specs.Lines.{tidy}
use Rattle.cx_texts.specs.Printed.{printed_log_line}
use Rattle.proof_text.specs.Told.{is_whole}
use Rattle.log_text.specs.Lines.{GoesByLines}
use Rattle.log_text.specs.LineLaws.{gained_tidy, gained_no_event, tidied_whole, torn_lines, torn_no_event}
use Rattle.log_text.proofs.desk_log.DeskLogSink.tidied.Goals as goal

pub invariant_of-self : goal.invariant_of-self
invariant_of-self g c =
    let whole = tidied_whole (g.D.Desk.outside c.args.self.now.desk.now) c.args.restart c.put_tidy.ensures.number (c.args.self.now.whole c.requires.going) in
    record { whole = λ h. subst (λ (o : Outside). is_whole o ≡ true) (sym c.in-Ok.ensures.line) whole }

pub returns-in-Ok-clause-same : goal.returns-in-Ok-clause-same
returns-in-Ok-clause-same g c =
    rw c.in-Ok.ensures.line (gained_no_event (g.D.Desk.outside c.args.self.now.desk.now) c.args.restart c.put_tidy.ensures.number (c.args.self.now.whole c.requires.going))

pub returns-in-Ok-clause-told : goal.returns-in-Ok-clause-told
returns-in-Ok-clause-told g c =
    rw c.in-Ok.ensures.line (gained_tidy (g.D.Desk.outside c.args.self.now.desk.now) c.args.restart c.put_tidy.ensures.number (c.args.self.now.whole c.requires.going))

pub returns-in-Ok-clause-frame : goal.returns-in-Ok-clause-frame
returns-in-Ok-clause-frame g c =
    let old = g.D.Desk.outside c.args.self.now.desk.now in
    let new = g.D.Desk.outside c.put_tidy.new.desk in
    let moved = c.in-Ok.ensures.line ∙ ap (λ (x : Bytes). gained Proof x old) (sym (append-nil (printed_log_line (tidy c.args.restart)))) in
    (refl, subst (λ (b : Bool). GoesByLines b old false new) (sym c.requires.going) (record { lines = tidy c.args.restart ∷ []; texts = (c.put_tidy.ensures.number, tt); moved = moved }))

pub returns-in-Err-clause-same : goal.returns-in-Err-clause-same
returns-in-Err-clause-same g c = torn_no_event (g.D.Desk.outside c.args.self.now.desk.now) c.args.restart c.put_tidy.ensures.number (g.D.Desk.outside c.put_tidy.new.desk) c.in-Err.ensures.line

pub returns-in-Err-clause-untold : goal.returns-in-Err-clause-untold
returns-in-Err-clause-untold g c = torn_lines (g.D.Desk.outside c.args.self.now.desk.now) c.args.restart c.put_tidy.ensures.number (g.D.Desk.outside c.put_tidy.new.desk) c.in-Err.ensures.line

pub returns-in-Err-clause-frame : goal.returns-in-Err-clause-frame
returns-in-Err-clause-frame g c =
    let old = g.D.Desk.outside c.args.self.now.desk.now in
    let new = g.D.Desk.outside c.put_tidy.new.desk in
    let torn = c.in-Err.ensures.line in (
      refl,
      subst (λ (b : Bool). GoesByLines b old true new) (sym c.requires.going)
          (record { lines = []; texts = tt; part = tidy c.args.restart; text = c.put_tidy.ensures.number; kept = torn.0; front = torn.1; moved = torn.2 }),
    )
