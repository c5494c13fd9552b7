-- What a reader sees of a word.
use Rattle.std.specs.Prelude.{ℕ, zero, suc, ℤ, pos, negsuc, nat_le, if◌then◌else◌}
use Rattle.cx_texts.specs.Words.{Word, number, letter, conflict, other}
use Rattle.step_text.specs.declared.token_word.TokenWord.{TokenWord}
use Rattle.step_text.specs.declared.token_word.TokenWord.TheVariants.{Zero, Positive, Negative, BigPositive, BigNegative, Letter, Other}

-- the greatest magnitude of a number
abbrev pub limit : ℕ
limit = 9223372036854775807

abbrev pub seen_number : ℤ → TokenWord
seen_number (pos zero) = Zero
seen_number (pos (suc n)) = if nat_le (suc n) limit then Positive (pos (suc n)) else BigPositive
seen_number (negsuc n) = if nat_le (suc n) limit then Negative (negsuc n) else BigNegative

abbrev pub seen : Word → TokenWord
seen (number z) = seen_number z
seen (letter c) = Letter c
seen (conflict k) = Other
seen other = Other
