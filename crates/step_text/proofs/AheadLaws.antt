-- What is left of a text's tokens from a place on.
use Rattle.std.proofs.Common.{◌≡◌, sym, ap, ◌∙◌, subst, ℕ, zero, suc, ◌+◌, ◌-◌, ◌<◌, ◌≤◌, ℤ, Bool, true, false, ◌==◌, refl, Option, Some, None, List, [], ◌∷◌, map, length, take, drop, get_or, arith, length-take, length-drop}
use Rattle.std.proofs.lemmas.List.{drop_all, drop_more}
use Rattle.cx_texts.specs.Tokens.{is_blank, tokens_left_by, tokens_within, NoBlank, EndsRun}
use Rattle.cx_texts.specs.Words.{Word, letter, other, integer, number_or, letter_or_other, word_of, placed_words}
use Rattle.cx_texts.specs.declared.line_state.EndLines.TheVariants as end_line
use Rattle.cx_texts.proofs.FrontLaws.{ends_at_blank}
use Rattle.cx_texts.proofs.LaterPlaces.{later, left-later}
use Rattle.cx_texts.proofs.PlaceLaws.{blank_passed}
use Rattle.cx_texts.proofs.Slices.{part_at, part_behind}
use Rattle.cx_texts.proofs.TokenLaws.{token_at, next_part}
use Rattle.step_text.specs.declared.short_integer.ShortInteger.{ShortInteger}
use Rattle.step_text.specs.Short.{IsShortFront, TakesNumber}
use Rattle.step_text.specs.Heads.{is_letter, is_head_letter}

-- the tokens that are left, at later places
pub left_from : (from : ℕ) (in_line : Bool) (text : List ℕ) (at next : ℕ) → tokens_left_by end_line.Kept in_line at (drop at text) ≡ tokens_within next (drop next text)
    → tokens_left_by end_line.Kept in_line (from + at) (drop at text) ≡ tokens_within (from + next) (drop next text)
left_from from in_line text at next h =
    left-later end_line.Kept in_line from at (drop at text) ∙ ap (map (later from)) h ∙ sym (left-later end_line.Kept true from next (drop next text))

pub none_left : (place : ℕ) (text : List ℕ) (at : ℕ) → length text ≤ at → tokens_within place (drop at text) ≡ []
none_left place text at h = ap (tokens_within place) (drop_all at text h)

-- the run at a place is the first token
pub first_left : (from : ℕ) (text : List ℕ) (at len : ℕ) → at < length text → is_blank (get_or text at 0) ≡ false → len ≤ length (take (length text - at) (drop at text))
    → NoBlank (take len (take (length text - at) (drop at text))) → EndsRun (drop len (take (length text - at) (drop at text)))
    → tokens_within (from + at) (drop at text) ≡ token_at (from + at) (take len (drop at text)) ∷ tokens_within (from + (at + len)) (drop (at + len) text)
first_left from text at len inside begins high run ends =
    left-later end_line.Kept true from at (drop at text)
    ∙ ap (map (later from)) (next_part end_line.Kept text at len inside begins high run ends)
    ∙ ap (λ ts. token_at (from + at) (take len (drop at text)) ∷ ts) (sym (left-later end_line.Kept true from (at + len) (drop (at + len) text)))

-- a token that begins with another byte is not the letter
no_letter_by : (c : ℕ) (w : Word) (o : Option ℤ) → is_letter c w ≡ false → is_letter c (number_or w o) ≡ false
no_letter_by c w (Some z) h = refl
no_letter_by c w None h = h

other_first : (c b : ℕ) (bs : List ℕ) → (b == c) ≡ false → is_letter c (word_of (b ∷ bs)) ≡ false
other_first c b [] h = no_letter_by c (letter b) (integer (b ∷ [])) h
other_first c b (x ∷ bs) h = no_letter_by c other (integer (b ∷ x ∷ bs)) refl

other_run : (c b : ℕ) (bs : List ℕ) (len : ℕ) → (b == c) ≡ false → is_letter c (word_of (take len (b ∷ bs))) ≡ false
other_run c b bs zero h = refl
other_run c b bs (suc len) h = other_first c b (take len bs) h

abbrev RunOf : List ℕ → Type 0
RunOf bs = (len : ℕ) × (len ≤ length bs) × NoBlank (take len bs) × EndsRun (drop len bs)

run_on : (b : ℕ) (bs : List ℕ) (x : Bool) → is_blank b ≡ x → RunOf bs → RunOf (b ∷ bs)
run_on b bs true e r = (0, omega arith, tt, e)
run_on b bs false e r = (suc r.0, omega (arith, r.1), (e, r.2), r.3)

run_of : (bs : List ℕ) → RunOf bs
run_of [] = (0, omega arith, tt, tt)
run_of (b ∷ bs) = run_on b bs (is_blank b) refl (run_of bs)

pub no_letter_left : (c from : ℕ) (text : List ℕ) (at : ℕ) → at < length text → is_blank (get_or text at 0) ≡ false → (get_or text at 0 == c) ≡ false → is_head_letter c (placed_words (tokens_within (from + at) (drop at text))) ≡ false
no_letter_left c from text at inside begins differs =
    let run = run_of (take (length text - at) (drop at text)) in
    ap (λ ts. is_head_letter c (placed_words ts)) (first_left from text at run.0 inside begins run.1 run.2 run.3)
    ∙ ap (λ xs. is_letter c (word_of (take run.0 xs))) (drop_more text at 0 inside)
    ∙ other_run c (get_or text at 0) (drop (at + 1) text) run.0 differs

-- an integer of a few digits in front of a blank is the first token
pub short_first : (from : ℕ) (text : List ℕ) (at : ℕ) (s : ShortInteger) (next : ℕ) → (at < length text → is_blank (get_or text at 0) ≡ false) → IsShortFront (take (length text - at) (drop at text)) s
    → tokens_within (at + s.len) (drop (at + s.len) text) ≡ tokens_within next (drop next text)
    → TakesNumber (tokens_within (from + at) (drop at text)) s.value (tokens_within (from + next) (drop next text))
short_first from text at s next begins front left =
    let ahead = take (length text - at) (drop at text) in
    let inside : at < length text = omega (arith, front.some, front.inside, length-take (length text - at) (drop at text), length-drop at text) in
    let first = first_left from text at s.len inside (begins inside) (omega (arith, front.inside)) front.run (ends_at_blank ahead s.len front.inside front.blank) in
    let token = token_at (from + at) (take s.len (drop at text)) in
    record {
      token = token;
      split = first ∙ ap (λ ts. token ∷ ts) (left_from from true text (at + s.len) next left);
      word = ap (λ xs. word_of (take s.len xs)) (sym (part_behind text at)) ∙ ap (λ o. number_or (letter_or_other (take s.len ahead)) o) front.reads;
      small = front.small;
    }

-- the space after such an integer is passed
pub space_passed : (text : List ℕ) (at : ℕ) (s : ShortInteger) → IsShortFront (take (length text - at) (drop at text)) s → get_or (take (length text - at) (drop at text)) s.len 0 ≡ 32
    → tokens_within (at + s.len) (drop (at + s.len) text) ≡ tokens_within (at + s.len + 1) (drop (at + s.len + 1) text)
space_passed text at s front space =
    let less : s.len < length text - at = omega (arith, front.inside, length-take (length text - at) (drop at text)) in
    let is : get_or text (at + s.len) 0 ≡ 32 = sym (part_at text at (length text) s.len (omega (arith, less)) less) ∙ space in
    blank_passed end_line.Kept text (at + s.len) (omega (arith, less)) (subst (λ b. is_blank b ≡ true) (sym is) refl) (subst (λ b. (b == 10) ≡ false) (sym is) refl)

no_blank_first : (xs : List ℕ) (n : ℕ) → 0 < n → 0 < length xs → NoBlank (take n xs) → is_blank (get_or xs 0 0) ≡ false
no_blank_first [] n some long run = absurd (omega (arith, long))
no_blank_first (x ∷ xs) zero some long run = absurd (omega (arith, some))
no_blank_first (x ∷ xs) (suc n) some long run = run.0

-- such an integer begins with no blank
pub begins_short : (text : List ℕ) (at : ℕ) (s : ShortInteger) → IsShortFront (take (length text - at) (drop at text)) s → at < length text → is_blank (get_or text at 0) ≡ false
begins_short text at s front inside =
    let first : at + 0 ≡ at = omega arith in
    let less : 0 < length text - at = omega (arith, inside) in
    sym (ap is_blank (part_at text at (length text) 0 (omega (arith, less)) less ∙ ap (λ n. get_or text n 0) first))
    ∙ no_blank_first (take (length text - at) (drop at text)) s.len front.some (omega (arith, front.inside)) front.run
