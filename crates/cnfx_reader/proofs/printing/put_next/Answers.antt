use Rattle.std.proofs.Common.{◌≡◌, ◌∙◌, subst, ◌-◌, arith, take, drop, length-drop}
use Rattle.std.proofs.lemmas.List.{take_all}
use Rattle.std.proofs.lemmas.Result.{err_from_is_err_and}
use Rattle.cx_desk.specs.Outside.{Bytes}
use Rattle.cx_desk.specs.Calls.{gained}
use Rattle.cnfx_reader.specs.Groups.{lines_between}
use Rattle.cnfx_reader.specs.PrintedFormula.{printed_constraint}
use Rattle.cnfx_reader.proofs.Puts.{Fails, part_put, part_fails}
use Rattle.cnfx_reader.proofs.printing.put_next.Goals as goal

pub returns-in_ok-put_all-in-Ok-clause-puts : goal.returns-in_ok-put_all-in-Ok-clause-puts
returns-in_ok-put_all-in-Ok-clause-puts g c =
    let cs = c.args.formula.now.constraints in
    let begin = c.in-Ok.begin in
    let sheet = c.lay_out_group.new.sheet in
    let old = g.D.Desk.outside c.args.desk.now in
    let new = g.D.Desk.outside c.put_all.new.desk in
    let whole : take (5760 - begin) (drop begin sheet) ≡ drop begin sheet = take_all (5760 - begin) (drop begin sheet) (omega (arith, length-drop begin sheet, c.lay_out_group.auto.sheet)) in
    let text : take (5760 - begin) (drop begin sheet) ≡ lines_between cs c.args.from c.min-to.result = whole ∙ c.in-Ok.ensures.1 in
    let now : new ≡ gained c.args.port (lines_between cs c.args.from c.min-to.result) old = subst (λ (t : Bytes). new ≡ gained c.args.port t old) text c.in_ok-put_all-in-Ok.ensures in
    λ start h. part_put printed_constraint cs c.args.from c.min-to.result c.args.port start old new (omega (arith, c.min-to.ensures, c.len.ensures.len, c.requires)) h now

pub returns-in_err-put_all-in-Ok-clause-puts : goal.returns-in_err-put_all-in-Ok-clause-puts
returns-in_err-put_all-in-Ok-clause-puts g c =
    let p = err_from_is_err_and c.from_residual.result c.from_residual.ensures.1 in
    let cs = c.args.formula.now.constraints in
    let begin = c.in-Ok.begin in
    let sheet = c.lay_out_group.new.sheet in
    let old = g.D.Desk.outside c.args.desk.now in
    let new = g.D.Desk.outside c.put_all.new.desk in
    let whole : take (5760 - begin) (drop begin sheet) ≡ drop begin sheet = take_all (5760 - begin) (drop begin sheet) (omega (arith, length-drop begin sheet, c.lay_out_group.auto.sheet)) in
    let text : take (5760 - begin) (drop begin sheet) ≡ lines_between cs c.args.from c.min-to.result = whole ∙ c.in-Ok.ensures.1 in
    let fault : Fails c.args.port (lines_between cs c.args.from c.min-to.result) old new = subst (λ (t : Bytes). Fails c.args.port t old new) text c.in_err-put_all-in-Ok.ensures in
    λ start h. rw p.1 (part_fails printed_constraint cs c.args.from c.min-to.result c.args.port start old new (omega (arith, c.min-to.ensures, c.len.ensures.len, c.requires)) h fault)
