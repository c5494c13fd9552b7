use Rattle.std.proofs.Common.{◌≡◌, sym, ap, subst, ◌∙◌, Bool, true, false, [], ◌∷◌, append-nil}
use Rattle.cx_desk.specs.declared.desk.Port.TheVariants.{Proof}
use Rattle.cx_desk.specs.Outside.{Bytes, Outside}
use Rattle.cx_desk.specs.Calls.{gained}
use Rattle.proof_text.specs.Told.{is_whole, step_line, Goes}
use Rattle.proof_text.proofs.ToldLaws.{gained_step, gained_whole, torn_told}
use Rattle.proof_text.proofs.desk_proof.put_step.Goals as goal

pub returns-in-Ok-clause-told : goal.returns-in-Ok-clause-told
returns-in-Ok-clause-told g c = rw c.in-Ok.ensures (gained_step (g.D.Desk.outside c.args.desk.now) c.args.step.now c.requires.whole c.requires.text)

pub returns-in-Ok-clause-port : goal.returns-in-Ok-clause-port
returns-in-Ok-clause-port g c =
    let old = g.D.Desk.outside c.args.desk.now in
    let new = g.D.Desk.outside c.put_proof_step.new.desk in
    let moved = c.in-Ok.ensures ∙ ap (λ (x : Bytes). gained Proof x old) (sym (append-nil (step_line c.args.step.now))) in
    let whole = gained_whole old c.args.step.now c.requires.whole c.requires.text in
    record {
      goes = subst (λ (b : Bool). Goes b old b new) (sym c.requires.going) (record { steps = c.args.step.now ∷ []; texts = (c.requires.text, tt); moved = moved });
      whole = λ fine. subst (λ (o : Outside). is_whole o ≡ true) (sym c.in-Ok.ensures) whole;
    }

pub returns-in-Err-clause-same : goal.returns-in-Err-clause-same
returns-in-Err-clause-same g c = torn_told (g.D.Desk.outside c.args.desk.now) (g.D.Desk.outside c.put_proof_step.new.desk) c.args.step.now c.requires.text c.in-Err.ensures

pub returns-in-Err-clause-port : goal.returns-in-Err-clause-port
returns-in-Err-clause-port g c =
    let old = g.D.Desk.outside c.args.desk.now in
    let new = g.D.Desk.outside c.put_proof_step.new.desk in
    let torn = c.in-Err.ensures in
    record {
      goes = subst (λ (b : Bool). Goes b old true new) (sym c.requires.going)
          (record { steps = []; texts = tt; part = c.args.step.now; text = c.requires.text; kept = torn.0; front = torn.1; moved = torn.2 });
      whole = λ fine. let clash : true ≡ false = fine in cc;
    }
