-- A printed proof is read as its steps.
use Rattle.std.proofs.Common.{◌≡◌, refl, sym, ap, ◌∙◌, subst, ℕ, ◌+◌, ◌^◌, ◌<◌, pos, false, cond, not, lt_of_le_of_lt, List, [], ◌∷◌, ◌++◌, map, flat_map, filter, length, arith, append_assoc, append-nil, drop, decimal, ◌==◌}
use Rattle.std.specs.List.{AllByRecursion, enumerate_from}
use Rattle.std.specs.Str.Parse.{IsNumeral}
use Rattle.std.proofs.lemmas.List.{map-append}
use Rattle.std.proofs.lemmas.Fmt.{decimal_is_IsNumeral_wide}
use Rattle.cx_base.specs.declared.steps.ProofStep.{ProofStep}
use Rattle.cx_base.specs.declared.steps.ProofStep.TheVariants as proof
use Rattle.cx_texts.specs.Tokens.{is_blank, begins_with, is_comment, lines_from, tokens_of_line, tokens_of_lines, tokens_from, tokens}
use Rattle.cx_texts.specs.Words.{Word, number, letter, words, placed_words, IsWithin}
use Rattle.cx_texts.specs.Grammar.{spelling, IsStep, Reading}
use Rattle.cx_base.specs.Endings.{finished}
use Rattle.cx_texts.specs.ProofText.{proof_steps, ProofReads}
use Rattle.cx_texts.specs.Printed.{printed_word, printed_proof, HasProofText}
use Rattle.cx_texts.proofs.SpokenWords.{spoken_proof_step}
use Rattle.cx_texts.proofs.ProofSteps.{stops}
use Rattle.cx_texts.proofs.Lines.{NoFeed, lines-line}
use Rattle.cx_texts.proofs.DigitLaws.{digit_is, digits_are, digit_bounds, not_equal, digits_no_blank}
use Rattle.cx_texts.proofs.PrintedWords.{IsPiece, joined, no_feed_joined, plain_pieces, plain_all, limit_small, words-printed, within_words}

-- ---- no printed step is a comment line

comment_by : (m c : ℕ) (line : List ℕ) → is_blank c ≡ false → (c == 99) ≡ false → is_comment (enumerate_from m (c ∷ line)) ≡ false
comment_by m c line h k = ap (λ x. cond x (begins_with 99 (enumerate_from (m + 1) line)) (c == 99)) h ∙ k

comment_piece : (m : ℕ) (text rest : List ℕ) (p : IsPiece text) → (p.first == 99) ≡ false → is_comment (enumerate_from m (text ++ rest)) ≡ false
comment_piece m text rest p h = ap (λ x. is_comment (enumerate_from m (x ++ rest))) p.is ∙ comment_by m p.first (p.rest ++ rest) p.no_blank.0 h

joined_first : (m : ℕ) (w : Word) (ws : List Word) (p : IsPiece (printed_word w)) → (p.first == 99) ≡ false → is_comment (enumerate_from m (joined (w ∷ ws))) ≡ false
joined_first m w [] p h = ap (λ x. is_comment (enumerate_from m x)) (sym (append-nil (printed_word w))) ∙ comment_piece m (printed_word w) [] p h
joined_first m w (v ∷ ws) p h = comment_piece m (printed_word w) (32 ∷ joined (v ∷ ws)) p h

decimal_first : (ds : List ℕ) (h : IsNumeral 10 ds) → (p : IsPiece ds) × ((p.first == 99) ≡ false)
decimal_first [] h = absurd (let k : 0 < 0 = h.0 in omega arith)
decimal_first (c ∷ ds) h = (record { first = c; rest = ds; is = refl; no_blank = digits_no_blank (c ∷ ds) (digits_are (c ∷ ds) h.1) }, not_equal c 99 (λ e. let b = digit_bounds c (digit_is c h.1.0) in omega arith))

number_comment : (m n : ℕ) (ws : List Word) → n < 10 ^ 64 → is_comment (enumerate_from m (joined (number (pos n) ∷ ws))) ≡ false
number_comment m n ws h = let d = decimal_first (decimal n) (decimal_is_IsNumeral_wide n h).0 in joined_first m (number (pos n)) ws d.0 d.1

letter_comment : (m c : ℕ) (ws : List Word) → is_blank c ≡ false → (c == 99) ≡ false → is_comment (enumerate_from m (joined (letter c ∷ ws))) ≡ false
letter_comment m c ws h k = joined_first m (letter c) ws (record { first = c; rest = []; is = refl; no_blank = (h, tt) }) k

step_comment : (m : ℕ) (s : ProofStep) → AllByRecursion (IsWithin 9223372036854775807) (spelling proof_steps s) → is_comment (enumerate_from m (joined (spelling proof_steps s))) ≡ false
step_comment m (proof.Clause n lits hints) h = number_comment m n (drop 1 (spelling proof_steps (proof.Clause n lits hints))) (lt_of_le_of_lt h.0 limit_small)
step_comment m (proof.DeleteClauses n names) h = number_comment m n (drop 1 (spelling proof_steps (proof.DeleteClauses n names))) (lt_of_le_of_lt h.0 limit_small)
step_comment m (proof.Parity n lits hints) h = letter_comment m 120 (drop 1 (spelling proof_steps (proof.Parity n lits hints))) refl refl
step_comment m (proof.DeleteParities names) h = letter_comment m 120 (drop 1 (spelling proof_steps (proof.DeleteParities names))) refl refl
step_comment m (proof.ClauseOfParity n lits hint) h = letter_comment m 105 (drop 1 (spelling proof_steps (proof.ClauseOfParity n lits hint))) refl refl
step_comment m (proof.ParityOfClauses n lits hints) h = letter_comment m 105 (drop 1 (spelling proof_steps (proof.ParityOfClauses n lits hints))) refl refl

-- ---- readings

one_line : (m : ℕ) (l rest : List ℕ) → NoFeed l → is_comment (enumerate_from m l) ≡ false → tokens_from m ((l ++ 10 ∷ []) ++ rest) ≡ tokens_of_line (enumerate_from m l) ++ tokens_from ((m + length l) + 1) rest
one_line m l rest h k =
    ap (tokens_from m) (append_assoc l (10 ∷ []) rest) ∙ ap tokens_of_lines (lines-line m l rest h)
    ∙ ap (λ x. flat_map tokens_of_line (cond (not x) (enumerate_from m l ∷ filter (λ i. not (is_comment i)) (lines_from ((m + length l) + 1) rest)) (filter (λ i. not (is_comment i)) (lines_from ((m + length l) + 1) rest)))) k

reading_printed : (len m : ℕ) (steps : List ProofStep) → AllByRecursion HasProofText steps → Reading proof_steps len (placed_words (tokens_from m (printed_proof steps))) steps finished
reading_printed len m [] h = refl
reading_printed len m (s ∷ steps) h =
    let line = joined (spelling proof_steps s) in
    let next : ℕ = (m + length line) + 1 in
    let plain = plain_all (spelling proof_steps s) (spoken_proof_step s) h.0.1 in
    let front = placed_words (tokens_of_line (enumerate_from m line)) in
    let is : words front ≡ spelling proof_steps s = words-printed m (spelling proof_steps s) plain in
    let step : IsStep proof_steps (words front) s = (h.0.0, sym is) in (
      placed_words (tokens_from next (printed_proof steps)),
      record {
        front = front;
        split = ap placed_words (one_line m line (printed_proof steps) (no_feed_joined (map printed_word (spelling proof_steps s)) (plain_pieces _ plain)) (step_comment m s h.0.1))
            ∙ map-append _ (tokens_of_line (enumerate_from m line)) (tokens_from next (printed_proof steps));
        step = step;
        within = within_words proof_steps front (subst (AllByRecursion (IsWithin 9223372036854775807)) (sym is) h.0.1);
        stops = stops s (words front) (placed_words (tokens_from next (printed_proof steps))) step;
      },
      reading_printed len next steps h.1,
    )

pub printed_proof_reads : (steps : List ProofStep) → AllByRecursion HasProofText steps → ProofReads (printed_proof steps) steps finished
unfolding tokens
printed_proof_reads steps h = reading_printed (length (printed_proof steps)) 0 steps h
