-- What is at a place of a text, by its byte.
use Rattle.std.proofs.Common.{◌≡◌, refl, sym, ap, ◌∙◌, ℕ, ◌+◌, ◌<◌, true, false, List, [], ◌∷◌, length, drop, get_or, ◌==◌}
use Rattle.std.proofs.lemmas.List.{drop_more}
use Rattle.cx_texts.specs.Tokens.{is_blank, tokens_from_by, tokens_within_by}
use Rattle.cx_texts.specs.declared.line_state.EndLines.{EndLines}
use Rattle.cx_texts.specs.declared.line_state.EndLines.TheVariants as end_line
use Rattle.cx_texts.proofs.PieceLaws.{at_percent, blank_at_start, goes_on, within_line}
use Rattle.cx_texts.proofs.TokenLaws.{from-kept}

module _ (rule : EndLines) (text : List ℕ) (at : ℕ) (inside : at < length text) where
  -- a blank within a line, and where one may begin
  pub feed_passed : is_blank (get_or text at 0) ≡ true → (get_or text at 0 == 10) ≡ true → tokens_within_by rule at (drop at text) ≡ tokens_from_by rule (at + 1) (drop (at + 1) text)
  feed_passed blank feed = ap (tokens_within_by rule at) (drop_more text at 0 inside) ∙ within_line rule at (get_or text at 0) (drop (at + 1) text) true blank true feed

  pub blank_passed : is_blank (get_or text at 0) ≡ true → (get_or text at 0 == 10) ≡ false → tokens_within_by rule at (drop at text) ≡ tokens_within_by rule (at + 1) (drop (at + 1) text)
  blank_passed blank feed = ap (tokens_within_by rule at) (drop_more text at 0 inside) ∙ within_line rule at (get_or text at 0) (drop (at + 1) text) true blank false feed

  pub first_blank_passed : is_blank (get_or text at 0) ≡ true → tokens_from_by rule at (drop at text) ≡ tokens_from_by rule (at + 1) (drop (at + 1) text)
  first_blank_passed blank = ap (tokens_from_by rule at) (drop_more text at 0 inside) ∙ blank_at_start rule at (get_or text at 0) (drop (at + 1) text) blank (get_or text at 0 == 10) refl

  -- a token where a line may begin
  pub token_first : is_blank (get_or text at 0) ≡ false → (get_or text at 0 == 99) ≡ false → (get_or text at 0 == 37) ≡ false → tokens_from_by rule at (drop at text) ≡ tokens_within_by rule at (drop at text)
  token_first blank comment percent =
      ap (tokens_from_by rule at) (drop_more text at 0 inside)
      ∙ from-kept rule at (get_or text at 0) (drop (at + 1) text) blank comment (goes_on rule at (get_or text at 0) blank percent)
      ∙ sym (ap (tokens_within_by rule at) (drop_more text at 0 inside))

-- a `%` where a line may begin
pub percent_kept : (text : List ℕ) (at : ℕ) → at < length text → get_or text at 0 ≡ 37 → tokens_from_by end_line.Kept at (drop at text) ≡ tokens_within_by end_line.Kept at (drop at text)
percent_kept text at inside is =
    ap (tokens_from_by end_line.Kept at) (drop_more text at 0 inside ∙ ap (λ b. b ∷ drop (at + 1) text) is)
    ∙ (at_percent end_line.Kept at 37 (drop (at + 1) text) refl refl refl).1
    ∙ sym (ap (tokens_within_by end_line.Kept at) (drop_more text at 0 inside ∙ ap (λ b. b ∷ drop (at + 1) text) is))

pub percent_ends : (text : List ℕ) (at : ℕ) → at < length text → get_or text at 0 ≡ 37 → tokens_from_by end_line.End at (drop at text) ≡ []
percent_ends text at inside is =
    ap (tokens_from_by end_line.End at) (drop_more text at 0 inside ∙ ap (λ b. b ∷ drop (at + 1) text) is)
    ∙ at_percent end_line.End at 37 (drop (at + 1) text) refl refl refl
