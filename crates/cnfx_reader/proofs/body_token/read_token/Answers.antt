use Rattle.std.proofs.Common.{◌<◌, ◌∙◌, ap, length, arith}
use Rattle.cx_texts.specs.Words.{joined_words, other}
use Rattle.cnfx_reader.proofs.WordLaws.{integer_token, joined_whole, lone_assumption, lone_mark, strange_token}
use Rattle.cnfx_reader.proofs.body_token.read_token.Goals.{else-token-eq1-2-via-then-token-eq1-2+else-token-eq97, else-token-eq1-2-via-else-token-eq1-2}
use Rattle.cnfx_reader.proofs.body_token.read_token.Goals as goal

pub returns-then-token-eq1 : goal.returns-then-token-eq1
returns-then-token-eq1 c = lone_mark c.args.token.now c.if-token-eq120.true c.if-token-eq1.true

pub returns-in-Some : goal.returns-in-Some
returns-in-Some c =
    let longer : 1 < length c.args.token.now = omega (arith, c.requires, c.if-token-eq1.false) in
    let said = c.in-Some.ensures in
    (said.0, said.1, joined_whole c.args.token.now c.if-token-eq120.true longer ∙ ap joined_words said.2)

pub returns-in-None : goal.returns-in-None
returns-in-None c =
    let longer : 1 < length c.args.token.now = omega (arith, c.requires, c.if-token-eq1.false) in
    (other, tt, joined_whole c.args.token.now c.if-token-eq120.true longer ∙ ap joined_words c.in-None.ensures)

pub returns-in-Some-read_integer : goal.returns-in-Some-read_integer
returns-in-Some-read_integer c =
    let said = c.in-Some-read_integer.ensures in
    (said.0, said.1, integer_token c.args.token.now said.0 c.if-token-eq120.false said.2)

pub returns-then-token-eq97 : goal.returns-then-token-eq97
returns-then-token-eq97 c = lone_assumption c.args.token.now c.if-token-eq97.true c.if-token-eq1-2.true

pub returns-else-token-eq1-2 : goal.returns-else-token-eq1-2
returns-else-token-eq1-2 c = strange_token c.args.token.now c.requires c.if-token-eq120.false
    (λ len byte. elim c.else-token-eq1-2.branch [
      | else-token-eq1-2-via-then-token-eq1-2+else-token-eq97 w ↦ w.if-token-eq97.false byte
      | else-token-eq1-2-via-else-token-eq1-2 w ↦ w.if-token-eq1-2.false len
    ])
    c.in-None-read_integer.ensures
