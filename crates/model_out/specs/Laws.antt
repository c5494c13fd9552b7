-- The laws of answers.
use Rattle.std.specs.Prelude.{◌≡◌, ◌≢◌, ℕ, ◌≤◌, Bool, true, false, not, List, [], ◌∷◌, map, filter, flat_map, Result, Err}
use Rattle.cx_base.specs.Problem.{Problem, Meets}
use Rattle.cx_base.specs.declared.literal.TheConstants.{MAX_VARIABLE}
use Rattle.cx_texts.specs.AnswerText.{answer_text}
use Rattle.cx_base.specs.ExactlyOne.{ExactlyOne}
use Rattle.cx_texts.specs.Tokens.{Token, is_comment, lines_from, tokens_of_line}
use Rattle.model_out.specs.LineTokens.{LineToken, line_tokens}
use Rattle.model_out.specs.Answers.{AnswerReads, AnswersAs}
use Rattle.model_out.specs.declared.refusal.AnswerRefusal.{AnswerRefusal}
use Rattle.model_out.specs.declared.refusal.AnswerRefusal.TheVariants.{Memory}

abbrev pub IsJudgedAs : List ℕ → Problem → Result (List Bool) AnswerRefusal → Type 0
IsJudgedAs text formula answer = (answer ≢ Err Memory) × AnswersAs text formula answer

-- a text gives one list of values, or is refused for one cause
abbrev pub AnswersAreJudgedInOneWay : Type 0
AnswersAreJudgedInOneWay = (text : List ℕ) (formula : Problem) → ExactlyOne (IsJudgedAs text formula)

-- the tokens of a line, of which the first begins it
abbrev pub begin_with_first : List Token → List LineToken
begin_with_first [] = []
begin_with_first (t ∷ ts) = record { place = t.place; begins = true; text = t.text } ∷ map (λ u. record { place = u.place; begins = false; text = u.text }) ts

-- the tokens of a text are those of its lines but for comment lines, and the first of each begins it
abbrev pub LineTokensAreOfLines : Type 0
LineTokensAreOfLines = (text : List ℕ) → line_tokens text ≡ flat_map (λ line. begin_with_first (tokens_of_line line)) (filter (λ line. not (is_comment line)) (lines_from 0 text))

-- a printed answer is read as the values that were printed
abbrev pub PrintedAnswersRead : Type 0
PrintedAnswersRead = (formula : Problem) (values : List Bool) → formula.variables ≤ MAX_VARIABLE → Meets formula values → AnswerReads (answer_text values) formula values
