-- What a port that was given lines of steps tells.
use Rattle.std.proofs.Common.{◌≡◌, refl, sym, ap, ◌∙◌, subst, ℕ, ◌+◌, ◌<◌, ◌≤◌, ◌==◌, true, false, cond, List, [], ◌∷◌, ◌++◌, map, flat_map, length, take, append_assoc, append-nil, length-append, arith, Some, option_map, zero, suc}
use Rattle.std.specs.List.{AllByRecursion}
use Rattle.std.proofs.lemmas.Grind.{flat_map-append}
use Rattle.std.proofs.lemmas.List.{take-append-le}
use Rattle.cx_desk.specs.declared.desk.Port.TheVariants.{Proof}
use Rattle.cx_desk.specs.Outside.{Bytes, Outside}
use Rattle.cx_desk.specs.Calls.{gained}
use Rattle.cx_base.specs.declared.steps.ProofStep.{ProofStep}
use Rattle.cx_texts.specs.Tokens.{tokens}
use Rattle.cx_texts.specs.Words.{placed_words}
use Rattle.cx_texts.specs.Grammar.{spelling}
use Rattle.cx_base.specs.Endings.{Ending, finished}
use Rattle.cx_texts.specs.ProofText.{proof_steps, ProofReads}
use Rattle.cx_texts.specs.Printed.{printed_word, printed_proof, HasProofText}
use Rattle.cx_texts.proofs.Grammars.{proof_forms}
use Rattle.cx_texts.proofs.Readings.{one_reading}
use Rattle.cx_texts.proofs.Lines.{NoFeed}
use Rattle.cx_texts.proofs.SpokenWords.{spoken_proof_step}
use Rattle.cx_texts.proofs.PrintedWords.{joined, no_feed_joined, plain_pieces, plain_all}
use Rattle.cx_texts.proofs.PrintedProofs.{printed_proof_reads}
use Rattle.proof_text.specs.Told.{whole_lines, begun_line, steps_read, told_steps, steps_told, is_none, is_whole, step_line}
use Rattle.step_text.specs.Sinks.{with_next}
use Rattle.step_text.proofs.Puts.{Fails}

-- ---- a printed step has one line feed, at its end

abbrev words_text : ProofStep → Bytes
words_text s = joined (spelling proof_steps s)

no_feed_step : (s : ProofStep) → HasProofText s → NoFeed (words_text s)
no_feed_step s h = no_feed_joined (map printed_word (spelling proof_steps s)) (plain_pieces _ (plain_all (spelling proof_steps s) (spoken_proof_step s) h.1))

pub no_feed_front : (k : ℕ) (l : Bytes) → NoFeed l → NoFeed (take k l)
no_feed_front zero l h = tt
no_feed_front (suc k) [] h = tt
no_feed_front (suc k) (b ∷ l) h = (h.0, no_feed_front k l h.1)

-- ---- lines

pub lines-append : (begun a b : Bytes) → whole_lines begun (a ++ b) ≡ whole_lines begun a ++ whole_lines (begun_line begun a) b
lines-append begun [] b = refl
lines-append begun (x ∷ a) b = elim (x == 10) as (λ v. cond v ((begun ++ x ∷ []) ∷ whole_lines [] (a ++ b)) (whole_lines (begun ++ x ∷ []) (a ++ b))
    ≡ cond v ((begun ++ x ∷ []) ∷ whole_lines [] a) (whole_lines (begun ++ x ∷ []) a) ++ whole_lines (cond v (begun_line [] a) (begun_line (begun ++ x ∷ []) a)) b) [
      | true ↦ ap (λ ls. (begun ++ x ∷ []) ∷ ls) (lines-append [] a b)
      | false ↦ lines-append (begun ++ x ∷ []) a b
    ]

pub begun-append : (begun a b : Bytes) → begun_line begun (a ++ b) ≡ begun_line (begun_line begun a) b
begun-append begun [] b = refl
begun-append begun (x ∷ a) b = elim (x == 10) as (λ v. cond v (begun_line [] (a ++ b)) (begun_line (begun ++ x ∷ []) (a ++ b)) ≡ begun_line (cond v (begun_line [] a) (begun_line (begun ++ x ∷ []) a)) b) [
  | true ↦ begun-append [] a b
  | false ↦ begun-append (begun ++ x ∷ []) a b
]

pub no_line : (begun l : Bytes) → NoFeed l → whole_lines begun l ≡ []
no_line begun [] h = refl
no_line begun (b ∷ l) h = ap (λ v. cond v ((begun ++ b ∷ []) ∷ whole_lines [] l) (whole_lines (begun ++ b ∷ []) l)) h.0 ∙ no_line (begun ++ b ∷ []) l h.1

pub all_begun : (begun l : Bytes) → NoFeed l → begun_line begun l ≡ begun ++ l
all_begun begun [] h = sym (append-nil begun)
all_begun begun (b ∷ l) h = ap (λ v. cond v (begun_line [] l) (begun_line (begun ++ b ∷ []) l)) h.0 ∙ all_begun (begun ++ b ∷ []) l h.1 ∙ append_assoc begun (b ∷ []) l

pub one_line : (l : Bytes) → NoFeed l → whole_lines [] (l ++ 10 ∷ []) ≡ (l ++ 10 ∷ []) ∷ []
one_line l h = lines-append [] l (10 ∷ []) ∙ (λ i. no_line [] l h i ++ whole_lines (all_begun [] l h i) (10 ∷ []))

pub line_ends : (l : Bytes) → NoFeed l → begun_line [] (l ++ 10 ∷ []) ≡ []
line_ends l h = begun-append [] l (10 ∷ [])

-- ---- steps

step_is_read : (s : ProofStep) → HasProofText s → steps_read (step_line s) ≡ s ∷ []
step_is_read s h =
    let reads = printed_proof_reads (s ∷ []) (h, tt) in
    let text : printed_proof (s ∷ []) ≡ step_line s = append-nil (step_line s) in
    let one = (one_reading proof_steps proof_forms (length (step_line s)) (placed_words (tokens (step_line s)))).2 (s ∷ [], finished) (subst (λ (t : Bytes). ProofReads t (s ∷ []) finished) text reads) in
    ap (λ (x : List ProofStep × Ending). x.0) (sym one)

pub told_step : (b : Bytes) (s : ProofStep) → begun_line [] b ≡ [] → HasProofText s → told_steps (b ++ step_line s) ≡ told_steps b ++ s ∷ []
told_step b s e h =
    ap (flat_map steps_read) (lines-append [] b (step_line s) ∙ ap (λ x. whole_lines [] b ++ whole_lines x (step_line s)) e ∙ ap (λ ls. whole_lines [] b ++ ls) (one_line (words_text s) (no_feed_step s h)))
    ∙ flat_map-append steps_read (whole_lines [] b) (step_line s ∷ [])
    ∙ ap (λ x. told_steps b ++ x) (append-nil (steps_read (step_line s)) ∙ step_is_read s h)

pub step_ends : (b : Bytes) (s : ProofStep) → begun_line [] b ≡ [] → HasProofText s → begun_line [] (b ++ step_line s) ≡ []
step_ends b s e h = begun-append [] b (step_line s) ∙ ap (λ x. begun_line x (step_line s)) e ∙ line_ends (words_text s) (no_feed_step s h)

pub told_front : (b : Bytes) (s : ProofStep) (k : ℕ) → HasProofText s → k < length (step_line s) → told_steps (b ++ take k (step_line s)) ≡ told_steps b
told_front b s k h low =
    let l : length (step_line s) ≡ length (words_text s) + 1 = length-append (words_text s) (10 ∷ []) in
    let within : k ≤ length (words_text s) = omega arith in
    let front : take k (step_line s) ≡ take k (words_text s) = take-append-le k (words_text s) (10 ∷ []) within in
    ap (λ x. told_steps (b ++ x)) front
    ∙ ap (flat_map steps_read) (lines-append [] b (take k (words_text s)) ∙ ap (λ ls. whole_lines [] b ++ ls) (no_line (begun_line [] b) (take k (words_text s)) (no_feed_front k (words_text s) (no_feed_step s h))) ∙ append-nil (whole_lines [] b))

-- a port of whole lines that was given the lines of a proof tells its steps besides
pub told_proof : (b : Bytes) (steps : List ProofStep) → begun_line [] b ≡ [] → AllByRecursion HasProofText steps → told_steps (b ++ printed_proof steps) ≡ told_steps b ++ steps
told_proof b [] e h = ap told_steps (append-nil b) ∙ sym (append-nil (told_steps b))
told_proof b (s ∷ steps) e h =
    ap told_steps (sym (append_assoc b (step_line s) (printed_proof steps)))
    ∙ told_proof (b ++ step_line s) steps (step_ends b s e h.0) h.1
    ∙ ap (λ x. x ++ steps) (told_step b s e h.0) ∙ append_assoc (told_steps b) (s ∷ []) steps

-- the lines of a proof leave no line begun
pub begun_proof : (b : Bytes) (steps : List ProofStep) → begun_line [] b ≡ [] → AllByRecursion HasProofText steps → begun_line [] (b ++ printed_proof steps) ≡ []
begun_proof b [] e h = ap (begun_line []) (append-nil b) ∙ e
begun_proof b (s ∷ steps) e h = ap (begun_line []) (sym (append_assoc b (step_line s) (printed_proof steps))) ∙ begun_proof (b ++ step_line s) steps (step_ends b s e h.0) h.1

-- a prefix of a step's line after whole lines is the line that is begun
pub begun_front : (b : Bytes) (s : ProofStep) (k : ℕ) → begun_line [] b ≡ [] → HasProofText s → k < length (step_line s) → begun_line [] (b ++ take k (step_line s)) ≡ take k (step_line s)
begun_front b s k e h low =
    let l : length (step_line s) ≡ length (words_text s) + 1 = length-append (words_text s) (10 ∷ []) in
    let within : k ≤ length (words_text s) = omega arith in
    let front : take k (step_line s) ≡ take k (words_text s) = take-append-le k (words_text s) (10 ∷ []) within in
    begun-append [] b (take k (step_line s)) ∙ ap (λ x. begun_line x (take k (step_line s))) e ∙ ap (begun_line []) front ∙ all_begun [] (take k (words_text s)) (no_feed_front k (words_text s) (no_feed_step s h)) ∙ sym front

-- ---- the outside

pub none_left : (b : Bytes) → is_none b ≡ true → b ≡ []
none_left [] h = refl
none_left (x ∷ b) h = cc

pub gained_step : (o : Outside) (s : ProofStep) → is_whole o ≡ true → HasProofText s → steps_told (gained Proof (step_line s) o) ≡ with_next s (steps_told o)
gained_step o s w h = ap Some (told_step o.written.proof s (none_left _ w) h)

pub gained_whole : (o : Outside) (s : ProofStep) → is_whole o ≡ true → HasProofText s → is_whole (gained Proof (step_line s) o) ≡ true
gained_whole o s w h = ap is_none (step_ends o.written.proof s (none_left _ w) h)

gained_front : (o : Outside) (s : ProofStep) (k : ℕ) → HasProofText s → k < length (step_line s) → steps_told (gained Proof (take k (step_line s)) o) ≡ steps_told o
gained_front o s k h low = ap Some (told_front o.written.proof s k h low)

pub torn_told : (old new : Outside) (s : ProofStep) → HasProofText s → Fails Proof (step_line s) old new → steps_told new ≡ steps_told old
torn_told old new s h (k, low, fault) = ap steps_told fault.else_same ∙ gained_front old s k h low

-- what a sink did, by what it tells: the port gained the lines of the steps that it tells besides
pub gained_proof : (o : Outside) (steps : List ProofStep) → is_whole o ≡ true → AllByRecursion HasProofText steps → steps_told (gained Proof (printed_proof steps) o) ≡ option_map (λ all. all ++ steps) (steps_told o)
gained_proof o steps w h = ap Some (told_proof o.written.proof steps (none_left _ w) h)
