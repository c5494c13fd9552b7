use Rattle.std.proofs.Common.{◌≡◌, ◌∙◌, sym, ap, subst, suc, ◌-◌, ◌<◌, true, length, take, get_or, arith}
use Rattle.cx_texts.specs.Tokens.{is_blank}
use Rattle.cx_texts.specs.Pieces.{EndsBlank}
use Rattle.cx_texts.proofs.PieceLaws.{ends_behind}
use Rattle.cx_texts.proofs.pieces.whole_front.Goals as goal

pub returns-else-not-is_blank_byte-clause-blank : goal.returns-else-not-is_blank_byte-clause-blank
returns-else-not-is_blank_byte-clause-blank c =
    let text = c.args.piece.now in
    let len = c.loop-len.len in
    let some : 0 < len = omega (arith, c.loop-len-test.true) in
    let blank : is_blank (get_or text (len - 1) 0) ≡ true = search Rattle.std.proofs.Common.rules in
    subst (λ n. EndsBlank (take n text)) (let e : suc (len - 1) ≡ len = omega arith in e) (ends_behind text (len - 1) (omega (arith, c.loop-len.invariant)) blank)
