use Rattle.std.proofs.Common.{◌≡◌, ◌∙◌, sym, arith, get_or}
use Rattle.cx_texts.specs.Pieces.{behind_byte}
use Rattle.cx_texts.specs.declared.line_state.Behind.TheVariants.{Line, Token}
use Rattle.cx_texts.proofs.PieceLaws.{byte_passed, token_stands}
use Rattle.cx_texts.proofs.pieces.pass_blanks.Goals as goal

pub loop-at-preserved : goal.loop-at-preserved
loop-at-preserved c =
    let piece = c.args.piece.now in
    let at = c.loop-at.at in
    let e : behind_byte c.args.end_lines c.loop-at.state (get_or piece at 0) ≡ Line c.in-Line.next = sym c.behind_byte.ensures ∙ c.in-Line.is in (
      omega (arith, c.loop-at-test.true),
      λ place more. c.loop-at.invariant.1 place more ∙ byte_passed c.args.end_lines c.loop-at.state c.in-Line.next piece more at place c.loop-at-test.true e,
    )

pub returns-in-Token-clause-left : goal.returns-in-Token-clause-left
returns-in-Token-clause-left c =
    let piece = c.args.piece.now in
    let at = c.loop-at.at in
    let e : behind_byte c.args.end_lines c.loop-at.state (get_or piece at 0) ≡ Token = sym c.behind_byte.ensures ∙ c.in-Token.is in
    λ place more. c.loop-at.invariant.1 place more ∙ token_stands c.args.end_lines c.loop-at.state piece more at place c.loop-at-test.true e
