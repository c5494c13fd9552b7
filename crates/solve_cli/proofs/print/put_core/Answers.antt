use Rattle.std.proofs.lemmas.Result.{err_from_is_err_and}
use Rattle.std.proofs.Common.{◌++◌, codes, refl, Err}
use Rattle.cx_desk.specs.declared.desk.Port.TheVariants as port
use Rattle.step_text.proofs.Puts.{first_fails, two_puts}
use Rattle.solve_cli.specs.Trimming.{ids_line}
use Rattle.solve_cli.proofs.print.put_core.Goals as goal

pub returns-in_err-put_ids_line : goal.returns-in_err-put_ids_line
returns-in_err-put_ids_line g c =
    let p = err_from_is_err_and c.from_residual.result c.from_residual.ensures.1 in
    let first = ids_line (codes "c core clauses") c.args.clauses.now in
    let second = ids_line (codes "c core parities") c.args.parities.now in
    rw p.1 (first_fails port.Answer first (second ++ codes "s TRIMMED\n") _ (g.D.Desk.outside c.args.desk.now) (g.D.Desk.outside c.put_ids_line.new.desk) refl c.in_err-put_ids_line.ensures)

pub returns-in_err-put_ids_line-2 : goal.returns-in_err-put_ids_line-2
returns-in_err-put_ids_line-2 g c =
    let p = err_from_is_err_and c.from_residual-in_err-put_ids_line-2.result c.from_residual-in_err-put_ids_line-2.ensures.1 in
    let first = ids_line (codes "c core clauses") c.args.clauses.now in
    let second = ids_line (codes "c core parities") c.args.parities.now in
    let o = g.D.Desk.outside c.args.desk.now in
    let m = g.D.Desk.outside c.put_ids_line.new.desk in
    let n = g.D.Desk.outside c.put_ids_line-2.new.desk in
    let rest = second ++ codes "s TRIMMED\n" in
    rw p.1 (two_puts {T = Unit {0}} {E = Unit {0}} port.Answer first rest (first ++ rest) o m n (Err tt) refl c.in_ok-put_ids_line.ensures
    (first_fails port.Answer second (codes "s TRIMMED\n") rest m n refl c.in_err-put_ids_line-2.ensures))

pub returns : goal.returns
returns g c =
    let first = ids_line (codes "c core clauses") c.args.clauses.now in
    let second = ids_line (codes "c core parities") c.args.parities.now in
    let o = g.D.Desk.outside c.args.desk.now in
    let m = g.D.Desk.outside c.put_ids_line.new.desk in
    let n = g.D.Desk.outside c.put_ids_line-2.new.desk in
    let p = g.D.Desk.outside c.put_all.new.desk in
    two_puts port.Answer first (second ++ codes "s TRIMMED\n") _ o m p c.put_all.result refl c.in_ok-put_ids_line.ensures
    (two_puts port.Answer second (codes "s TRIMMED\n") _ m n p c.put_all.result refl c.in_ok-put_ids_line-2.ensures c.put_all.ensures)
