-- The tokens of a text at a later place are its tokens, each this much later.
use Rattle.std.proofs.Common.{◌≡◌, refl, sym, ap, ◌∙◌, ℕ, ◌+◌, Bool, true, false, cond, List, [], ◌∷◌, ◌++◌, map, filter_map, arith, ◌==◌}
use Rattle.std.specs.List.{slice_split, onto_first, enumerate_from}
use Rattle.std.proofs.lemmas.List.{map-append}
use Rattle.cx_texts.specs.Tokens.{Token, is_blank, begins_with, is_comment, lines_from, token_of, tokens_of_line, tokens_by, with_first_by, tokens_left_by}
use Rattle.cx_texts.specs.declared.line_state.EndLines.{EndLines}
use Rattle.cx_texts.specs.declared.line_state.EndLines.TheVariants as end_line
use Rattle.cx_texts.proofs.Lines.{Line}
use Rattle.cx_texts.proofs.TokenLaws.{ends_text, by-none, by-more}

abbrev pub later : ℕ → Token → Token
later m t = record { place = m + t.place; text = t.text }

abbrev moved : ℕ → ℕ × ℕ → ℕ × ℕ
moved m b = (m + b.0, b.1)

bytes-moved : (m n : ℕ) (text : List ℕ) → enumerate_from (m + n) text ≡ map (moved m) (enumerate_from n text)
bytes-moved m n [] = refl
bytes-moved m n (b ∷ text) = ap (λ r. (m + n, b) ∷ r) (ap (λ k. enumerate_from k text) (let e : (m + n) + 1 ≡ m + (n + 1) = omega arith in e) ∙ bytes-moved m (n + 1) text)

onto-moved : (m : ℕ) (b : ℕ × ℕ) (ls : List Line) → onto_first (moved m b) (map (map (moved m)) ls) ≡ map (map (moved m)) (onto_first b ls)
onto-moved m b [] = refl
onto-moved m b (l ∷ ls) = refl

cut-moved : (m : ℕ) (b : ℕ × ℕ) (ls : List Line) (x : Bool) → cond x ([] ∷ map (map (moved m)) ls) (onto_first (moved m b) (map (map (moved m)) ls)) ≡ map (map (moved m)) (cond x ([] ∷ ls) (onto_first b ls))
cut-moved m b ls true = refl
cut-moved m b ls false = onto-moved m b ls

split-moved : (test : ℕ → Bool) (m : ℕ) (line : Line) → slice_split (λ b. test b.1) (map (moved m) line) ≡ map (map (moved m)) (slice_split (λ b. test b.1) line)
split-moved test m [] = refl
split-moved test m (b ∷ line) =
    ap (λ ls. cond (test b.1) ([] ∷ ls) (onto_first (moved m b) ls)) (split-moved test m line) ∙ cut-moved m b (slice_split (λ c. test c.1) line) (test b.1)

begins-moved : (c m : ℕ) (line : Line) → begins_with c (map (moved m) line) ≡ begins_with c line
begins-moved c m [] = refl
begins-moved c m (b ∷ line) = ap (λ x. cond (is_blank b.1) x (b.1 == c)) (begins-moved c m line)

text-moved : (m : ℕ) (run : Line) → map (λ c. c.1) (map (moved m) run) ≡ map (λ c. c.1) run
text-moved m [] = refl
text-moved m (b ∷ run) = ap (λ t. b.1 ∷ t) (text-moved m run)

pieces-moved : (m : ℕ) (ls : List Line) → filter_map token_of (map (map (moved m)) ls) ≡ map (later m) (filter_map token_of ls)
pieces-moved m [] = refl
pieces-moved m ([] ∷ ls) = pieces-moved m ls
pieces-moved m ((b ∷ run) ∷ ls) = (λ i. record { place = m + b.0; text = b.1 ∷ text-moved m run i } ∷ pieces-moved m ls i)

line-moved : (m : ℕ) (line : Line) → tokens_of_line (map (moved m) line) ≡ map (later m) (tokens_of_line line)
line-moved m line = ap (filter_map token_of) (split-moved is_blank m line) ∙ pieces-moved m (slice_split (λ b. is_blank b.1) line)

kept-moved : (m : ℕ) (l : Line) (old new : List Token) (x y : Bool) → new ≡ map (later m) old → cond x [] (cond y new (tokens_of_line (map (moved m) l) ++ new)) ≡ map (later m) (cond x [] (cond y old (tokens_of_line l ++ old)))
kept-moved m l old new true y h = refl
kept-moved m l old new false true h = h
kept-moved m l old new false false h = (λ i. line-moved m l i ++ h i) ∙ sym (map-append (later m) (tokens_of_line l) old)

ends-moved : (rule : EndLines) (m : ℕ) (l : Line) → ends_text rule (map (moved m) l) ≡ ends_text rule l
ends-moved end_line.Kept m l = refl
ends-moved end_line.End m l = begins-moved 37 m l

text-lines : (m n : ℕ) (text : List ℕ) → lines_from (m + n) text ≡ map (map (moved m)) (lines_from n text)
text-lines m n text = ap (slice_split (λ b. b.1 == 10)) (bytes-moved m n text) ∙ split-moved (λ c. c == 10) m (enumerate_from n text)

module _ (rule : EndLines) where
  lines-moved : (m : ℕ) (ls : List Line) → tokens_by rule (map (map (moved m)) ls) ≡ map (later m) (tokens_by rule ls)
  lines-moved m [] = by-none rule ∙ sym (ap (map (later m)) (by-none rule))
  lines-moved m (l ∷ ls) =
      by-more rule (map (moved m) l) (map (map (moved m)) ls)
      ∙ (λ i. cond (ends-moved rule m l i) [] (cond (begins-moved 99 m l i) (tokens_by rule (map (map (moved m)) ls)) (tokens_of_line (map (moved m) l) ++ tokens_by rule (map (map (moved m)) ls))))
      ∙ kept-moved m l (tokens_by rule ls) (tokens_by rule (map (map (moved m)) ls)) (ends_text rule l) (is_comment l) (lines-moved m ls)
      ∙ sym (ap (map (later m)) (by-more rule l ls))

  first-moved : (m : ℕ) (ls : List Line) → with_first_by rule (map (map (moved m)) ls) ≡ map (later m) (with_first_by rule ls)
  first-moved m [] = refl
  first-moved m (l ∷ ls) = (λ i. line-moved m l i ++ lines-moved m ls i) ∙ sym (map-append (later m) (tokens_of_line l) (tokens_by rule ls))

  pub left-later : (b : Bool) (m n : ℕ) (text : List ℕ) → tokens_left_by rule b (m + n) text ≡ map (later m) (tokens_left_by rule b n text)
  left-later true m n text = ap (with_first_by rule) (text-lines m n text) ∙ first-moved m (lines_from n text)
  left-later false m n text = ap (tokens_by rule) (text-lines m n text) ∙ lines-moved m (lines_from n text)
