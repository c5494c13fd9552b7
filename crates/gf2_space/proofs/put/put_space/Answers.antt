use Rattle.std.proofs.Common.{[], subst}
use Rattle.cx_desk.specs.Outside.{Bytes}
use Rattle.cx_desk.specs.Calls.{PutsAll}
use Rattle.cx_desk.specs.declared.desk.Port.TheVariants.{Answer}
use Rattle.model_out.specs.Waiting.{Takes}
use Rattle.model_out.proofs.Puts.{writes_all}
use Rattle.gf2_space.specs.AffineText.{affine_text}
use Rattle.gf2_space.proofs.put.put_space.Goals as goal

pub returns : goal.returns
returns g c =
    let old = g.D.Desk.outside c.args.desk.now in
    let last = g.D.Desk.outside c.add_space.new.desk in
    let new = g.D.Desk.outside c.put_all.new.desk in
    let z : Bytes = c.add_space.new.waiting.items in
    let start : Takes (affine_text c.args.space.now) old [] last z = subst (λ (t : Bytes). Takes (affine_text c.args.space.now) old t last z) c.new-waiting.ensures c.in_ok-add_space.ensures in
    writes_all (affine_text c.args.space.now) old last new z c.put_all.result start (subst (λ (t : Bytes). PutsAll Answer t last c.put_all.result new) c.as_slice.ensures.value c.put_all.ensures)
