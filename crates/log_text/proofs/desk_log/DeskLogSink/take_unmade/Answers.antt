use Rattle.std.proofs.Common.{refl, sym, subst, Bool}
use Rattle.cx_desk.specs.declared.desk.Port.TheVariants.{Proof}
use Rattle.cx_desk.specs.Outside.{Bytes}
use Rattle.cx_desk.specs.Calls.{TakesUnwritten}
use Rattle.cx_texts.specs.Printed.{printed_log}
use Rattle.log_text.specs.Told.{Goes}
use Rattle.log_text.proofs.ToldLaws.{taken_whole, taken_told, taken_goes, untold_same}
use Rattle.log_text.proofs.desk_log.DeskLogSink.take_unmade.Goals as goal

pub invariant_of-self : goal.invariant_of-self
invariant_of-self g c =
    let o = g.D.Desk.outside c.args.self.now.desk.now in
    let now = g.D.Desk.outside c.take_unwritten.new.self in
    let is = subst (λ (lines : Bytes). TakesUnwritten Proof lines o c.take_unwritten.result now) c.of.ensures c.take_unwritten.ensures in
    record { whole = λ h. taken_whole o (g.E.Unmade.items c.args.unmade.now) (c.args.self.now.whole c.requires.going) c.requires.texts c.take_unwritten.result now is }

pub returns : goal.returns
returns g c =
    let o = g.D.Desk.outside c.args.self.now.desk.now in
    let now = g.D.Desk.outside c.take_unwritten.new.self in
    let events = g.E.Unmade.items c.args.unmade.now in
    let whole = c.args.self.now.whole c.requires.going in
    let is = subst (λ (lines : Bytes). TakesUnwritten Proof lines o c.take_unwritten.result now) c.of.ensures c.take_unwritten.ensures in
    record {
      told = taken_told o events whole c.requires.texts c.take_unwritten.result now is;
      untold = untold_same o (printed_log events) c.take_unwritten.result now is;
      faults = refl;
      failed = refl;
      frame = (refl, subst (λ (f : Bool). Goes f o f now) (sym c.requires.going) (taken_goes o events whole c.requires.texts c.take_unwritten.result now is));
    }
