-- The tokens of a text, one byte or one run at a time.
use Rattle.std.proofs.Common.{◌≡◌, refl, sym, ap, ◌∙◌, subst, ℕ, suc, ◌+◌, ◌-◌, ◌<◌, ◌≤◌, Bool, true, false, cond, not, List, [], ◌∷◌, ◌++◌, map, length, take, drop, get_or, filter, flat_map, filter_map, arith, true≢false, append-nil, ◌==◌, length-drop, drop-drop, inl, inr}
use Rattle.std.specs.List.{slice_split, onto_first, enumerate_from, before_first, position_or_len}
use Rattle.std.proofs.lemmas.List.{drop_more}
use Rattle.cx_texts.specs.Tokens.{Token, is_blank, begins_with, is_comment, is_end_line, lines_from, token_of, tokens_of_line, tokens_of_lines, lines_by, tokens_by, with_first_by, tokens_from_by, tokens_within_by, tokens_from, tokens_within, NoBlank, EndsRun, SkipsLine}
use Rattle.cx_texts.specs.declared.line_state.EndLines.{EndLines}
use Rattle.cx_texts.specs.declared.line_state.EndLines.TheVariants as end_line
use Rattle.cx_texts.proofs.Lines.{Line, not_feed, lines-byte, some_lines, ahead, ahead_more, lines-run, StartsBlank, rest_blank, lines-line, lines-last}
use Rattle.cx_texts.proofs.Slices.{part_behind, part_length, split_at}

-- ---- one line

-- whether a line ends the text
abbrev pub ends_text : EndLines → Line → Bool
ends_text end_line.Kept line = false
ends_text end_line.End line = is_end_line line

before : (line : Line) (lines : List Line) → before_first is_end_line (line ∷ lines) ≡ cond (is_end_line line) [] (line ∷ before_first is_end_line lines)
before line lines = go (is_end_line line)
  where
    go : (x : Bool) → take (cond (not x) (1 + position_or_len is_end_line lines) 0) (line ∷ lines) ≡ cond x [] (line ∷ before_first is_end_line lines)
    go true = refl
    go false = ap (λ n. take n (line ∷ lines)) (let e : 1 + position_or_len is_end_line lines ≡ suc (position_or_len is_end_line lines) = omega arith in e)

lines-more : (rule : EndLines) (line : Line) (lines : List Line) → lines_by rule (line ∷ lines) ≡ cond (ends_text rule line) [] (line ∷ lines_by rule lines)
lines-more end_line.Kept line lines = refl
lines-more end_line.End line lines = before line lines

kept_line : (line : Line) (rest : List Line) (x y : Bool) → is_comment line ≡ y → tokens_of_lines (cond x [] (line ∷ rest)) ≡ cond x [] (cond y (tokens_of_lines rest) (tokens_of_line line ++ tokens_of_lines rest))
kept_line line rest true y e = refl
kept_line line rest false y e = ap (λ z. flat_map tokens_of_line (cond (not z) (line ∷ filter (λ l. not (is_comment l)) rest) (filter (λ l. not (is_comment l)) rest))) e ∙ pick y
  where
    pick : (y : Bool) → flat_map tokens_of_line (cond (not y) (line ∷ filter (λ l. not (is_comment l)) rest) (filter (λ l. not (is_comment l)) rest)) ≡ cond y (tokens_of_lines rest) (tokens_of_line line ++ tokens_of_lines rest)
    pick true = refl
    pick false = refl

pub by-none : (rule : EndLines) → tokens_by rule [] ≡ []
by-none end_line.Kept = refl
by-none end_line.End = refl

pub by-more : (rule : EndLines) (line : Line) (lines : List Line) → tokens_by rule (line ∷ lines) ≡ cond (ends_text rule line) [] (cond (is_comment line) (tokens_by rule lines) (tokens_of_line line ++ tokens_by rule lines))
by-more rule line lines = ap tokens_of_lines (lines-more rule line lines) ∙ kept_line line (lines_by rule lines) (ends_text rule line) (is_comment line) refl

pub empty_line : (rule : EndLines) (lines : List Line) → tokens_by rule ([] ∷ lines) ≡ tokens_by rule lines
empty_line end_line.Kept lines = refl
empty_line end_line.End lines = by-more end_line.End [] lines

pub comment_line : (rule : EndLines) (n : ℕ) (line : Line) (lines : List Line) → tokens_by rule (((n, 99) ∷ line) ∷ lines) ≡ tokens_by rule lines
comment_line end_line.Kept n line lines = refl
comment_line end_line.End n line lines = by-more end_line.End ((n, 99) ∷ line) lines

-- ---- one byte of a line

blank_comment : (n b : ℕ) (line : Line) → is_blank b ≡ true → is_comment ((n, b) ∷ line) ≡ is_comment line
blank_comment n b line h = ap (λ x. cond x (begins_with 99 line) (b == 99)) h

pub blank_tokens : (n b : ℕ) (line : Line) → is_blank b ≡ true → tokens_of_line ((n, b) ∷ line) ≡ tokens_of_line line
blank_tokens n b line h = ap (λ x. filter_map token_of (cond x ([] ∷ slice_split (λ c. is_blank c.1) line) (onto_first (n, b) (slice_split (λ c. is_blank c.1) line)))) h

blank_ends : (rule : EndLines) (n b : ℕ) (line : Line) → is_blank b ≡ true → ends_text rule ((n, b) ∷ line) ≡ ends_text rule line
blank_ends end_line.Kept n b line h = refl
blank_ends end_line.End n b line h = ap (λ x. cond x (begins_with 37 line) (b == 37)) h

module _ (rule : EndLines) where
  blank_line : (n b : ℕ) (line : Line) (lines : List Line) → is_blank b ≡ true → tokens_by rule (((n, b) ∷ line) ∷ lines) ≡ tokens_by rule (line ∷ lines)
  blank_line n b line lines h =
      by-more rule ((n, b) ∷ line) lines
      ∙ (λ i. cond (blank_ends rule n b line h i) [] (cond (blank_comment n b line h i) (tokens_by rule lines) (blank_tokens n b line h i ++ tokens_by rule lines)))
      ∙ sym (by-more rule line lines)

  pub blank_first : (n b : ℕ) (lines : List Line) → is_blank b ≡ true → tokens_by rule (onto_first (n, b) lines) ≡ tokens_by rule lines
  blank_first n b [] h = blank_line n b [] [] h ∙ empty_line rule []
  blank_first n b (line ∷ lines) h = blank_line n b line lines h

  -- within a line a blank is passed over, and after a line feed the next line begins
  pub within-blank : (n b : ℕ) (bs : List ℕ) → is_blank b ≡ true → (b == 10) ≡ false → tokens_within_by rule n (b ∷ bs) ≡ tokens_within_by rule (n + 1) bs
  within-blank n b bs h e = ap (with_first_by rule) (lines-byte n b bs e) ∙ go (lines_from (n + 1) bs)
    where
      go : (lines : List Line) → with_first_by rule (onto_first (n, b) lines) ≡ with_first_by rule lines
      go [] = ap (λ x. x ++ tokens_by rule []) (blank_tokens n b [] h) ∙ by-none rule
      go (line ∷ lines) = ap (λ x. x ++ tokens_by rule lines) (blank_tokens n b line h)

  -- a line whose first non-blank byte is not `c`, and does not end the text, is kept
  pub from-kept : (n b : ℕ) (bs : List ℕ) → is_blank b ≡ false → (b == 99) ≡ false → ((line : Line) → ends_text rule ((n, b) ∷ line) ≡ false) → tokens_from_by rule n (b ∷ bs) ≡ tokens_within_by rule n (b ∷ bs)
  from-kept n b bs h k goes = ap (tokens_by rule) line ∙ kept (lines_from (n + 1) bs) ∙ ap (with_first_by rule) (sym line)
    where
      line : lines_from n (b ∷ bs) ≡ onto_first (n, b) (lines_from (n + 1) bs)
      line = lines-byte n b bs (not_feed b h)

      comment : (l : Line) → is_comment ((n, b) ∷ l) ≡ false
      comment l = ap (λ x. cond x (begins_with 99 l) (b == 99)) h ∙ k

      one : (l : Line) (ls : List Line) → tokens_by rule (((n, b) ∷ l) ∷ ls) ≡ with_first_by rule (((n, b) ∷ l) ∷ ls)
      one l ls =
          by-more rule ((n, b) ∷ l) ls
          ∙ (λ i. cond (goes l i) [] (cond (comment l i) (tokens_by rule ls) (tokens_of_line ((n, b) ∷ l) ++ tokens_by rule ls)))

      kept : (ls : List Line) → tokens_by rule (onto_first (n, b) ls) ≡ with_first_by rule (onto_first (n, b) ls)
      kept [] = one [] []
      kept (l ∷ ls) = one l ls

-- ---- a run

split-run : (n : ℕ) (run : List ℕ) (line : Line) → NoBlank run → slice_split (λ c. is_blank c.1) (enumerate_from n run ++ line) ≡ ahead (enumerate_from n run) (slice_split (λ c. is_blank c.1) line)
split-run n [] line h = same (slice_split (λ c. is_blank c.1) line) (λ e. some line e)
  where
    same : (ls : List Line) → (ls ≡ [] → ⊥) → ls ≡ ahead [] ls
    same [] s = absurd (s refl)
    same (l ∷ ls) s = refl

    some : (l : Line) → slice_split (λ c. is_blank c.1) l ≡ [] → ⊥
    some [] e = cc
    some (c ∷ l) e = go (is_blank c.1) (slice_split (λ c. is_blank c.1) l) e
      where
        go : (x : Bool) (ls : List Line) → cond x ([] ∷ ls) (onto_first c ls) ≡ [] → ⊥
        go true ls e = cc
        go false [] e = cc
        go false (k ∷ ls) e = cc
split-run n (b ∷ run) line h =
    ap (λ x. cond x ([] ∷ slice_split (λ c. is_blank c.1) (enumerate_from (n + 1) run ++ line)) (onto_first (n, b) (slice_split (λ c. is_blank c.1) (enumerate_from (n + 1) run ++ line)))) h.0
    ∙ ap (onto_first (n, b)) (split-run (n + 1) run line h.1)
    ∙ ahead_more (n, b) (enumerate_from (n + 1) run) (slice_split (λ c. is_blank c.1) line)

bytes-enumerate : (n : ℕ) (run : List ℕ) → map (λ c. c.1) (enumerate_from n run) ≡ run
bytes-enumerate n [] = refl
bytes-enumerate n (b ∷ run) = ap (λ bs. b ∷ bs) (bytes-enumerate (n + 1) run)

abbrev pub token_at : ℕ → List ℕ → Token
token_at n run = record { place = n; text = run }

-- the tokens of a line that begins with a run and goes on with a blank, or ends
run_tokens : (n b : ℕ) (run : List ℕ) (pieces : List Line) → filter_map token_of (((enumerate_from n (b ∷ run)) ++ []) ∷ pieces) ≡ token_at n (b ∷ run) ∷ filter_map token_of pieces
run_tokens n b run pieces = ap (λ bs. token_at n (b ∷ bs) ∷ filter_map token_of pieces) (ap (map (λ c. c.1)) (append-nil (enumerate_from (n + 1) run)) ∙ bytes-enumerate (n + 1) run)

pub run_line : (n b : ℕ) (run : List ℕ) (line : Line) → NoBlank (b ∷ run) → StartsBlank line → tokens_of_line (enumerate_from n (b ∷ run) ++ line) ≡ token_at n (b ∷ run) ∷ tokens_of_line line
run_line n b run [] h s = ap (filter_map token_of) (split-run n (b ∷ run) [] h) ∙ run_tokens n b run []
run_line n b run (c ∷ line) h s =
    let pieces : slice_split (λ c. is_blank c.1) (c ∷ line) ≡ [] ∷ slice_split (λ c. is_blank c.1) line = ap (λ x. cond x ([] ∷ slice_split (λ c. is_blank c.1) line) (onto_first c (slice_split (λ c. is_blank c.1) line))) s in
    ap (filter_map token_of) (split-run n (b ∷ run) (c ∷ line) h)
    ∙ ap (λ ps. filter_map token_of (ahead (enumerate_from n (b ∷ run)) ps)) pieces
    ∙ run_tokens n b run (slice_split (λ c. is_blank c.1) line)
    ∙ ap (λ ps. token_at n (b ∷ run) ∷ filter_map token_of ps) (sym pieces)

module _ (rule : EndLines) where
  -- within a line a run up to a blank or the end is the next token
  pub within-run : (n b : ℕ) (run rest : List ℕ) → NoBlank (b ∷ run) → EndsRun rest → tokens_within_by rule n ((b ∷ run) ++ rest) ≡ token_at n (b ∷ run) ∷ tokens_within_by rule (n + length (b ∷ run)) rest
  within-run n b run rest h e = ap (with_first_by rule) (lines-run n (b ∷ run) rest h) ∙ go (lines_from (n + length (b ∷ run)) rest) refl
    where
      go : (ls : List Line) → lines_from (n + length (b ∷ run)) rest ≡ ls → with_first_by rule (ahead (enumerate_from n (b ∷ run)) ls) ≡ token_at n (b ∷ run) ∷ with_first_by rule ls
      go [] f = absurd (some_lines _ rest f)
      go (line ∷ ls) f = ap (λ ts. ts ++ tokens_by rule ls) (run_line n b run line h (rest_blank _ rest e line ls f))

  -- after a `c` at the beginning of a line the rest of the line is passed over
  pub from-skip : (n : ℕ) (text : List ℕ) (next : ℕ) (rest : List ℕ) → SkipsLine (n + 1) text next rest → tokens_from_by rule n (99 ∷ text) ≡ tokens_from_by rule next rest
  from-skip n text next rest (line, h, inl (e, f)) =
      ap (λ x. tokens_from_by rule n (99 ∷ x)) e ∙ ap (λ ls. tokens_by rule (onto_first (n, 99) ls)) (lines-last (n + 1) line h)
      ∙ comment_line rule n (enumerate_from (n + 1) line) [] ∙ sym (empty_line rule []) ∙ sym (ap (tokens_from_by rule next) f)
  from-skip n text next rest (line, h, inr (e, f)) =
      ap (λ x. tokens_from_by rule n (99 ∷ x)) e
      ∙ ap (λ ls. tokens_by rule (onto_first (n, 99) ls)) (lines-line (n + 1) line rest h)
      ∙ comment_line rule n (enumerate_from (n + 1) line) (lines_from (((n + 1) + length line) + 1) rest)
      ∙ ap (λ m. tokens_from_by rule m rest) (sym f)

  -- the run of this length at a place is the next token
  next_run : (text : List ℕ) (at len : ℕ) → 0 < len → at + len ≤ length text → NoBlank (take len (drop at text)) → EndsRun (drop (at + len) text)
      → tokens_within_by rule at (drop at text) ≡ token_at at (take len (drop at text)) ∷ tokens_within_by rule (at + len) (drop (at + len) text)
  next_run text at len some l no_blank ends = go (take len (drop at text)) refl
    where
      size : (at + len) - at ≡ len
      size = omega arith

      cut : drop at text ≡ take len (drop at text) ++ drop (at + len) text
      cut = split_at text at (at + len) (omega arith) ∙ ap (λ n. take n (drop at text) ++ drop (at + len) text) size

      whole : length (take len (drop at text)) ≡ len
      whole = ap (λ n. length (take n (drop at text))) (sym size) ∙ part_length text at (at + len) (omega arith) l ∙ size

      go : (run : List ℕ) → take len (drop at text) ≡ run → tokens_within_by rule at (drop at text) ≡ token_at at (take len (drop at text)) ∷ tokens_within_by rule (at + len) (drop (at + len) text)
      go [] e = let k : 0 ≡ len = sym (ap length e) ∙ whole in absurd (omega arith)
      go (b ∷ run) e =
          let n : at + length (b ∷ run) ≡ at + len = ap (λ x. at + x) (sym (ap length e) ∙ whole) in
          ap (tokens_within_by rule at) (cut ∙ ap (λ x. x ++ drop (at + len) text) e)
          ∙ within-run at b run (drop (at + len) text) (subst NoBlank e no_blank) ends
          ∙ (λ i. token_at at (sym e i) ∷ tokens_within_by rule (n i) (drop (at + len) text))

-- a run that begins is not empty
pub run_begins : (text : List ℕ) → 0 < length text → is_blank (get_or text 0 0) ≡ false → EndsRun text → ⊥
run_begins [] l b e = omega arith
run_begins (c ∷ text) l b e = true≢false (sym e ∙ b)

-- the run at a place, as `&text[at..]` has it
pub next_part : (rule : EndLines) (text : List ℕ) (at len : ℕ) → at < length text → is_blank (get_or text at 0) ≡ false → len ≤ length (take (length text - at) (drop at text)) → NoBlank (take len (take (length text - at) (drop at text)))
    → EndsRun (drop len (take (length text - at) (drop at text)))
    → tokens_within_by rule at (drop at text) ≡ token_at at (take len (drop at text)) ∷ tokens_within_by rule (at + len) (drop (at + len) text)
next_part rule text at len l begins high run ends =
    let behind = part_behind text at in
    let ends_there : EndsRun (drop len (drop at text)) = subst (λ xs. EndsRun (drop len xs)) behind ends in
    let size : len ≤ length (drop at text) = subst (λ xs. len ≤ length xs) behind high in
    next_run rule text at len
    (elim (Rattle.std.proofs.lemmas.Bool.cases_lt 0 len) [
      | inl h ↦ h
      | inr h ↦ let none : len ≡ 0 = omega arith in
          absurd (run_begins (drop at text) (omega (arith, length-drop at text)) (ap is_blank (ap (λ xs. get_or xs 0 0) (drop_more text at 0 l)) ∙ begins) (subst (λ n. EndsRun (drop n (drop at text))) none ends_there))
    ])
    (omega (arith, length-drop at text))
    (subst (λ xs. NoBlank (take len xs)) behind run)
    (subst EndsRun (drop-drop len at text) ends_there)

-- ---- where `%` lines are like any others

pub tokens_within-blank : (n b : ℕ) (bs : List ℕ) → is_blank b ≡ true → (b == 10) ≡ false → tokens_within n (b ∷ bs) ≡ tokens_within (n + 1) bs
tokens_within-blank = within-blank end_line.Kept

pub tokens_within-feed : (n : ℕ) (bs : List ℕ) → tokens_within n (10 ∷ bs) ≡ tokens_from (n + 1) bs
tokens_within-feed n bs = refl

pub tokens_from-kept : (n b : ℕ) (bs : List ℕ) → is_blank b ≡ false → (b == 99) ≡ false → tokens_from n (b ∷ bs) ≡ tokens_within n (b ∷ bs)
tokens_from-kept n b bs h k = from-kept end_line.Kept n b bs h k (λ line. refl)

pub tokens_within-run : (n b : ℕ) (run rest : List ℕ) → NoBlank (b ∷ run) → EndsRun rest → tokens_within n ((b ∷ run) ++ rest) ≡ token_at n (b ∷ run) ∷ tokens_within (n + length (b ∷ run)) rest
tokens_within-run = within-run end_line.Kept
