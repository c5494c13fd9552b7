use Rattle.std.proofs.lemmas.Result.{err_from_is_err_and}
use Rattle.std.proofs.Common.{◌∷◌, ◌++◌, [], refl}
use Rattle.cx_desk.specs.declared.desk.Port.TheVariants as port
use Rattle.cx_texts.specs.Grammar.{spelled, ids}
use Rattle.step_text.specs.Spaced.{spaced}
use Rattle.step_text.proofs.Puts.{first_fails, two_puts}
use Rattle.solve_cli.proofs.print.put_ids_line.Goals as goal

pub returns-in_err-put_all : goal.returns-in_err-put_all
returns-in_err-put_all g c =
    let p = err_from_is_err_and c.from_residual.result c.from_residual.ensures.1 in
    let second = spaced (spelled (ids c.args.numbers.now)) ++ 10 ∷ [] in
    rw p.1 (first_fails port.Answer c.args.words.now second _ (g.D.Desk.outside c.args.desk.now) (g.D.Desk.outside c.put_all.new.desk) refl c.in_err-put_all.ensures)

pub returns : goal.returns
returns g c =
    let second = spaced (spelled (ids c.args.numbers.now)) ++ 10 ∷ [] in
    two_puts port.Answer c.args.words.now second _ (g.D.Desk.outside c.args.desk.now) (g.D.Desk.outside c.put_all.new.desk) (g.D.Desk.outside c.put_ids.new.desk) c.put_ids.result refl c.in_ok-put_all.ensures c.put_ids.ensures
