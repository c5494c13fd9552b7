use Rattle.std.proofs.Common.{◌∙◌, sym, subst}
use Rattle.std.specs.FinMap as map
use Rattle.rup_finder.specs.Ready.{IsReady}
use Rattle.rup_finder.proofs.ReadyLaws.{keep_by}
use Rattle.rup_finder.proofs.ready.take_out.Goals.{in-Some, in-None}
use Rattle.rup_finder.proofs.ready.take_out.Goals as goal

pub returns : goal.returns
returns c table is_ready =
    let after = IsReady (map.remove table c.args.id) in
    keep_by after c.match-engine.stays c.match-engine.engine c.keep_if.new.engine c.keep_if.ensures.stays c.keep_if.ensures.goes
    (λ _. elim c.match-engine.branch [
      | in-Some w ↦ subst after (sym w.engine-is) (w.forget.ensures.rest, w.forget.ensures.holds table (subst (IsReady table) w.in-Some.is is_ready).1)
      | in-None w ↦ subst after (sym (w.engine-is ∙ w.in-None.is)) tt
    ]) tt
