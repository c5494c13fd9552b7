use Rattle.std.proofs.Common.{refl, sym}
use Rattle.cx_texts.specs.LogText.{log_steps}
use Rattle.solve_cli.proofs.TwoEnds.{still_goes, goes_reads, possible_still, leaves_still, long_still, printed_on}
use Rattle.solve_cli.proofs.elab_desk.ElabDeskElabEnds.step.Goals as goal

pub returns-clause-source : goal.returns-clause-source
returns-clause-source g c =
    let s = c.args.self.now in
    let b = s.reader.now.bytes in
    let step = c.put_step in
    let o = g.D.Desk.outside s.desk.now in
    let p = g.D.Desk.outside step.new.desk in
    let still = (still_goes s.failed o step.new.failed p step.ensures.port.goes).given in
    record {
      text = λ text may. possible_still b o p text still may;
      rest = λ text left ending. (λ h. leaves_still log_steps s.reader.now o p text left ending still h, λ h. leaves_still log_steps s.reader.now p o text left ending (sym still) h);
      limit = λ text may. long_still b o p text still;
      spent = refl;
      stuck = refl;
      faults = goes_reads s.failed o step.new.failed p step.ensures.port.goes;
      place = refl;
      bound = refl;
    }

pub returns-clause-frame : goal.returns-clause-frame
returns-clause-frame g c =
    let s = c.args.self.now in
    let step = c.put_step in
    (refl, refl, printed_on s.reader.now.bytes s.failed (g.D.Desk.outside s.desk.now) step.new.failed (g.D.Desk.outside step.new.desk) step.ensures.port.goes)
