use Rattle.std.proofs.Common.{sym, ap, subst, ◌≤◌, Ok}
use Rattle.cx_base.specs.declared.literal.TheConstants.{MAX_VARIABLE}
use Rattle.cx_texts.specs.Tokens.{Token}
use Rattle.cx_texts.specs.Words.{placed_formula_words, formula_words_of}
use Rattle.cnfx_reader.specs.PieceSteps.{IsPhaseIn, TokenTaken, TokenRefused}
use Rattle.cnfx_reader.specs.declared.piece.Phase.{Phase}
use Rattle.cnfx_reader.specs.declared.piece.Phase.TheVariants.{Body}
use Rattle.cnfx_reader.proofs.piece.take_one.Goals as goal

pub returns-in-Ok : goal.returns-in-Ok
returns-in-Ok c =
    let v = c.in-Body.vars in
    let token : Token = record { place = c.args.place; text = c.args.token.now } in
    let old = c.args.builder.now in
    let small : v ≤ MAX_VARIABLE = (subst (λ (phase : Phase). IsPhaseIn phase old) c.in-Body.is c.requires.fits).0 in
    subst (λ (phase : Phase). TokenTaken phase old token (Body v c.in-Ok.next) c.take_token.new.builder) (sym c.in-Body.is)
    ((small, c.in-Ok.ensures.fits), λ len more. ap (λ o. Ok (v, o)) (c.in-Ok.ensures.ok len (formula_words_of token.text) (placed_formula_words more) c.read_token.ensures))

pub returns-in-Err : goal.returns-in-Err
returns-in-Err c =
    let token : Token = record { place = c.args.place; text = c.args.token.now } in
    subst (λ (phase : Phase). TokenRefused phase c.args.builder.now token c.in-Err.refusal) (sym c.in-Body.is)
    (λ len more. c.in-Err.ensures.err len (formula_words_of token.text) (placed_formula_words more) c.read_token.ensures)
