use Rattle.std.proofs.Common.{◌≡◌, ◌∙◌, sym, ap, subst, ◌-◌, take, drop, length}
use Rattle.std.proofs.lemmas.List.{length-drop}
use Rattle.std.proofs.Math.Seq.{take-length}
use Rattle.cx_desk.specs.Outside.{Bytes}
use Rattle.cx_desk.specs.Calls.{PutsAll}
use Rattle.step_text.proofs.pieces.put_whole_line.Goals as goal

pub returns : goal.returns
returns g c =
    let sheet = c.lay_out_line-begin.new.sheet in
    let begin = c.lay_out_line-begin.result in
    let line = drop begin sheet in
    let whole : take (length sheet - begin) line ≡ line = ap (λ k. take k line) (sym (length-drop begin sheet)) ∙ take-length line in
    let old = g.D.Desk.outside c.args.desk.now in
    let new = g.D.Desk.outside c.put_all.new.desk in
    subst (λ (t : Bytes). PutsAll c.args.port t old c.put_all.result new) (whole ∙ c.lay_out_line-begin.ensures.laid) c.put_all.ensures
