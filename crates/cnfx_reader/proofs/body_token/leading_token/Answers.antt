use Rattle.std.proofs.Common.{arith, rules}
use Rattle.cx_texts.proofs.FrontLaws.{ends_at_blank}
use Rattle.cnfx_reader.proofs.body_token.leading_token.Goals as goal

pub returns-in-Some : goal.returns-in-Some
returns-in-Some c =
    let text = c.args.text.now in
    let len = c.in-Some.leading.len in
    let h = c.in-Some.ensures in
    record {
      some = h.0;
      high = omega (arith, h.1);
      run = h.2;
      ends = ends_at_blank text len h.1 h.3;
      follows = λ _. (h.1, h.3);
      says = search rules;
    }
