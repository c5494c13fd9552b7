use Rattle.std.proofs.Common.{◌≡◌, subst, arith, rules, drop, inl, inr}
use Rattle.std.proofs.lemmas.Bool.{cases_lt}
use Rattle.std.proofs.lemmas.Grind.{common_steps}
use Rattle.cx_texts.specs.Tokens.{EndsRun}
use Rattle.cx_texts.proofs.TokenLaws.{run_begins}
use Rattle.cnfx_reader.proofs.body_token.any_token.Goals as goal

pub returns : goal.returns
returns c =
    let text = c.args.text.now in
    let len = c.run_len-len.result in
    record {
      some = elim (cases_lt 0 len) [
        | inl h ↦ h
        | inr h ↦ let none : len ≡ 0 = omega arith in absurd (run_begins text c.requires.some c.requires.begins (subst (λ n. EndsRun (drop n text)) none c.run_len-len.ensures.ends))
      ];
      high = c.run_len-len.ensures.high;
      run = c.run_len-len.ensures.run;
      ends = c.run_len-len.ensures.ends;
      follows = search rules;
      says = grind (arith, common_steps);
    }
