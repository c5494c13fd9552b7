use Rattle.std.proofs.Common.{subst, flat_map}
use Rattle.cx_desk.specs.Outside.{Bytes}
use Rattle.cx_desk.specs.Calls.{PutsAll}
use Rattle.cx_texts.specs.Grammar.{both_ids, spelled_list}
use Rattle.log_text.proofs.Lines.{clause_moves_line}
use Rattle.log_text.proofs.print.put_clause_moves.Goals as goal

pub returns : goal.returns
returns g c =
    let old = g.D.Desk.outside c.args.desk.now in
    let new = g.D.Desk.outside c.put_move_line.new.desk in
    subst (λ (t : Bytes). PutsAll c.args.port t old c.put_move_line.result new) (clause_moves_line (spelled_list (flat_map both_ids c.args.moves.now))) c.put_move_line.ensures
