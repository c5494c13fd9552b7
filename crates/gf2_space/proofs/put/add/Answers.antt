use Rattle.std.proofs.Common.{◌≡◌, ◌∙◌, sym, ap, subst}
use Rattle.cx_desk.specs.Outside.{Bytes}
use Rattle.cx_desk.specs.Calls.{gained}
use Rattle.cx_desk.specs.declared.desk.Port.TheVariants.{Answer}
use Rattle.model_out.specs.Waiting.{Adds}
use Rattle.model_out.proofs.Puts.{adds_written}
use Rattle.gf2_space.proofs.put.add.Goals as goal

pub returns-in_ok-put_all-in-Err : goal.returns-in_ok-put_all-in-Err
returns-in_ok-put_all-in-Err g c =
    let old = g.D.Desk.outside c.args.desk.now in
    let mid = g.D.Desk.outside c.put_all.new.desk in
    let new = g.D.Desk.outside c.put_all-in-Err.new.desk in
    let waited : Bytes = c.args.waiting.now.items in
    let same : c.as_slice.result.now ≡ waited = c.as_slice.ensures.value ∙ ap (λ w. w.items) c.in-Err.ensures.err in
    subst (λ (w : Bytes). Adds c.args.piece.now old waited c.put_all-in-Err.result new w) (sym c.clear.ensures)
    (adds_written c.args.piece.now old mid new waited c.put_all-in-Err.result (subst (λ (t : Bytes). mid ≡ gained Answer t old) same c.in_ok-put_all-in-Err.ensures) c.put_all-in-Err.ensures)
