use Rattle.std.proofs.Common.{◌≡◌, ◌∙◌, sym, ap, subst, arith, rules, suc, ◌+◌, ◌≤◌, drop, take, length, length-drop, drop-drop}
use Rattle.cx_texts.specs.Tokens.{NoBlank, EndsRun}
use Rattle.cx_texts.specs.Words.{integer, formula_words_of}
use Rattle.cx_texts.proofs.Slices.{part_behind}
use Rattle.cx_texts.proofs.FrontLaws.{ends_at_blank}
use Rattle.cnfx_reader.proofs.WordLaws.{joined_token, run_more}
use Rattle.cnfx_reader.proofs.body_token.marked_token.Goals as goal

pub returns-in-Some : goal.returns-in-Some
returns-in-Some c =
    let text = c.args.text.now in
    let len = c.in-Some.leading.len in
    let h = c.in-Some.ensures in
    let behind = part_behind text 1 in
    let e : 1 + len ≡ suc len = omega arith in
    let high : len ≤ length (drop 1 text) = subst (λ xs. len ≤ length xs) behind (omega (arith, h.1)) in
    let joined = joined_token text len h.4.0 c.if-text-eq120.true h.0 high (ap (λ xs. integer (take len xs)) (sym behind) ∙ h.4.2) in
    record {
      some = omega arith;
      high = omega (arith, high, length-drop 1 text, c.requires.some);
      run = run_more text len c.requires.some c.requires.begins (subst (λ xs. NoBlank (take len xs)) behind h.2);
      ends = subst EndsRun (ap (drop len) behind ∙ drop-drop len 1 text) (ends_at_blank _ len h.1 h.3);
      follows = search rules;
      says = (h.4.0, h.4.1, ap (λ n. formula_words_of (take n text)) e ∙ joined);
    }
