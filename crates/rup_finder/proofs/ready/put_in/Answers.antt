use Rattle.std.proofs.Common.{◌∙◌, sym, subst}
use Rattle.std.specs.FinMap as map
use Rattle.rup_finder.specs.Ready.{IsReady}
use Rattle.rup_finder.proofs.ReadyLaws.{keep_by, if_ok_by}
use Rattle.rup_finder.proofs.ready.put_in.Goals.{in-Some, in-None}
use Rattle.rup_finder.proofs.ready.put_in.Goals as goal

pub returns-in-Ok : goal.returns-in-Ok
returns-in-Ok c table is_ready =
    let after = IsReady (map.insert table c.args.id c.args.lits.now) in
    keep_by after c.in-Ok.stays c.match-engine.engine c.keep_if.new.engine c.keep_if.ensures.stays c.keep_if.ensures.goes
    (λ stays. elim c.match-engine.branch [
      | in-Some w ↦
          let entered = if_ok_by _ _ _ _ w.entered-is c.in-Ok.is w.enter-entered.ensures stays in
          subst after (sym w.engine-is) (entered.0, entered.1 table (subst (IsReady table) w.in-Some.is is_ready).1)
      | in-None w ↦ subst after (sym (w.engine-is ∙ w.in-None.is)) tt
    ]) tt
