use Rattle.std.proofs.Common.{subst}
use Rattle.cx_desk.specs.Outside.{Outside}
use Rattle.cx_desk.specs.Spooled.{spooled}
use Rattle.cx_words.specs.Words.{texts}
use Rattle.cxsat.specs.Spooled.{RunsTo}
use Rattle.cxsat.proofs.Spooling.{runs_to, ended}
use Rattle.cxsat.proofs.spooled.run_spooled.Goals as goal

pub returns : goal.returns
returns g c =
    let words = texts c.args.words.items in
    let s = c.run-status.result in
    let shown = spooled g.D.Desk.outside c.run-status.new.desk in
    let run = subst (λ (o : Outside). RunsTo words o s shown) c.in_ok-spool.ensures (runs_to words _ s shown c.run-status.ensures.run c.run-status.ensures.few) in
    ended g.D.Desk.outside words (g.D.Desk.outside c.args.desk) shown s c.finish-desk.result.0 c.finish-desk.result.1 run c.finish-desk.ensures
