use Rattle.std.proofs.Common.{◌∙◌, refl}
use Rattle.cx_digits.proofs.DigitLaws.{three_put}
use Rattle.cx_digits.proofs.digits.lay_out_three.Goals as goal

pub returns : goal.returns
returns c = three_put c.args.number c.args.end _ c.args.sheet.now _ c.requires.room c.requires.within refl (c.copy_from_slice.ensures.after ∙ c.triple.ensures)
