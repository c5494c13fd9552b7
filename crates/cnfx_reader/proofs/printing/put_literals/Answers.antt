use Rattle.std.proofs.Common.{◌≡◌, ◌∙◌, refl, sym, ap, ◌∷◌, ◌++◌, ◌-◌, [], flat_map, length, take, drop, arith, length-drop}
use Rattle.std.proofs.Math.Seq.{take-length}
use Rattle.std.proofs.lemmas.Result.{err_from_is_err_and}
use Rattle.cnfx_reader.specs.PrintedFormula.{literal_text, literals_text}
use Rattle.cnfx_reader.proofs.Puts.{first_fails, two_puts, part_put, part_fails, end_text}
use Rattle.cnfx_reader.proofs.printing.put_literals.Goals as goal

pub loop-done-preserved : goal.loop-done-preserved
loop-done-preserved g c = record {
  within = omega arith;
  put = part_put literal_text c.args.lits.now c.loop-done.done _ c.args.port _ _ _ (omega arith) c.loop-done.invariant.put c.in_ok-put_part.ensures;
}

pub returns-in_err-put_part : goal.returns-in_err-put_part
returns-in_err-put_part g c =
    let p = err_from_is_err_and c.from_residual.result c.from_residual.ensures.1 in
    let lits = c.args.lits.now in
    let old = g.D.Desk.outside c.args.desk.now in
    let new = g.D.Desk.outside c.put_part.new.desk in
    rw p.1 (first_fails c.args.port (flat_map literal_text lits) (48 ∷ 10 ∷ []) (literals_text lits) old new refl (part_fails literal_text lits c.loop-done.done _ c.args.port old _ new (omega arith) c.loop-done.invariant.put c.in_err-put_part.ensures))

pub returns : goal.returns
returns g c =
    let lits = c.args.lits.now in
    let done = c.loop-done.done in
    let rest = drop done lits in
    let whole : take (length lits - done) rest ≡ rest = ap (λ k. take k rest) (sym (length-drop done lits)) ∙ take-length rest in
    let old = g.D.Desk.outside c.args.desk.now in
    let mid = g.D.Desk.outside c.loop-done.desk in
    let new = g.D.Desk.outside c.put_end.new.desk in
    two_puts c.args.port (flat_map literal_text (take done lits)) _ (literals_text lits) old mid new c.put_end.result (ap (λ r. flat_map literal_text (take done lits) ++ literals_text r) whole ∙ end_text done lits) c.loop-done.invariant.put c.put_end.ensures
