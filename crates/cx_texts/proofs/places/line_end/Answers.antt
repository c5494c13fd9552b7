use Rattle.std.proofs.Common.{◌≡◌, ◌∙◌, sym, ap, ℕ, ◌+◌, ◌-◌, ◌<◌, ◌≤◌, List, false, length, get_or, take, drop, ◌==◌, arith}
use Rattle.std.proofs.lemmas.Bool.{eqb-true, false_from_ne_true}
use Rattle.memchr.specs.Find.{Nowhere, Passes, is_byte}
use Rattle.cx_texts.proofs.Slices.{part_at, part_length, line_at_feed, line_at_end}
use Rattle.cx_texts.proofs.places.line_end.Goals as goal

-- what comes after a place
abbrev behind : List ℕ → ℕ → List ℕ
behind text at = take (length text - at) (drop at text)

-- no line feed among the first n bytes after a place
no_feed : (text : List ℕ) (at n : ℕ) → at ≤ length text → n ≤ length text - at → Nowhere (Passes (is_byte 10) (behind text at)) 0 n
    → (k : ℕ) → at ≤ k → k < at + n → (get_or text k 0 == 10) ≡ false
no_feed text at n within few none k low high =
    let back : at + (k - at) ≡ k = omega arith in
    let same : get_or (behind text at) (k - at) 0 ≡ get_or text k 0 = part_at text at (length text) (k - at) within (omega arith) ∙ ap (λ m. get_or text m 0) back in
    false_from_ne_true (get_or text k 0 == 10) (λ is. none (k - at) (omega arith) (omega arith) (ap (λ b. b == 10) same ∙ is))

pub returns-in-Some-clause-skipped : goal.returns-in-Some-clause-skipped
returns-in-Some-clause-skipped c =
    let text = c.args.text.now in
    let long = part_length text c.args.at (length text) c.requires (omega arith) in
    let found = c.in-Some.ensures in
    let less : c.in-Some.len < length text - c.args.at = omega (arith, long, found.0.high) in
    let feed = sym (part_at text c.args.at (length text) c.in-Some.len c.requires less) ∙ eqb-true _ 10 found.1 in
    line_at_feed text c.args.at (c.args.at + c.in-Some.len) (omega arith) (omega (arith, less)) (no_feed text c.args.at c.in-Some.len c.requires (omega (arith, less)) found.0.before) feed

pub returns-in-None-clause-skipped : goal.returns-in-None-clause-skipped
returns-in-None-clause-skipped c =
    let text = c.args.text.now in
    let long = part_length text c.args.at (length text) c.requires (omega arith) in
    let none : Nowhere (Passes (is_byte 10) (behind text c.args.at)) 0 (length text - c.args.at) = λ k low high. c.in-None.ensures k low (omega (arith, long, high)) in
    line_at_end text c.args.at (length text) c.requires (omega arith) (λ k low high. no_feed text c.args.at (length text - c.args.at) c.requires (omega arith) none k low (omega arith))
