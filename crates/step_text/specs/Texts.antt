-- What is left of a text of steps.
use Rattle.std.specs.Prelude.{◌≡◌, ◌≤◌, ◌+◌, ℕ, Bool, ⊤, true, false, List, [], ◌∷◌, Option, Some, None}
use Rattle.cx_texts.specs.Tokens.{Token}
use Rattle.cx_texts.specs.Words.{Placed, placed_words}
use Rattle.cx_texts.specs.Grammar.{Grammar, Reading}
use Rattle.cx_base.specs.Endings.{Ending, bad_token, too_big, unterminated}
use Rattle.step_text.specs.Sources.{lasting}
use Rattle.step_text.specs.declared.source.TextRefusal.{TextRefusal}
use Rattle.step_text.specs.declared.source.TextRefusal.TheVariants.{BadToken, Unterminated, TooBig, TooLong, Memory, Failed}

-- the tokens that are left, the text's length, the place that was reached, and the refusal that was answered, if any
pub record TextState : Type 0 where
  pub tokens : List Token
  pub size : ℕ
  pub place : ℕ
  pub refused : Option TextRefusal

-- the ending that a refusal tells
abbrev pub IsEnding : TextRefusal → Ending → Type 0
IsEnding (BadToken place) ending = ending ≡ bad_token place
IsEnding (Unterminated place) ending = ending ≡ unterminated place
IsEnding (TooBig place) ending = ending ≡ too_big place
IsEnding TooLong ending = Unit {0}
IsEnding Memory ending = Unit {0}
IsEnding Failed ending = Unit {0}

-- these steps and this ending are left
abbrev pub LeftOf : {S : Type 0} → Grammar S → List Token → ℕ → Option TextRefusal → List S → Ending → Type 0
LeftOf g tokens size None steps ending = Reading g size (placed_words tokens) steps ending
LeftOf g tokens size (Some refusal) steps ending = (steps ≡ []) × IsEnding refusal ending

abbrev pub Leaves : {S : Type 0} → Grammar S → TextState → List S → Ending → Type 0
Leaves g s steps ending = LeftOf g s.tokens s.size s.refused steps ending

-- out of memory was answered
abbrev pub is_spent_by : Option TextRefusal → Bool
is_spent_by (Some Memory) = true
is_spent_by (Some Failed) = true
is_spent_by (Some TooLong) = false
is_spent_by (Some (BadToken place)) = false
is_spent_by (Some (Unterminated place)) = false
is_spent_by (Some (TooBig place)) = false
is_spent_by None = false

-- the refusal that comes again, if one was answered and lasts
abbrev pub stuck_by : Option TextRefusal → Option TextRefusal
stuck_by None = None
stuck_by (Some refusal) = lasting refusal

-- the places rise from this one on and stay below the text's length
abbrev pub RisesTo : ℕ → ℕ → List Placed → Type 0
RisesTo size place [] = place ≤ size
RisesTo size place (p ∷ placed) = (place ≤ p.place) × RisesTo size (p.place + 1) placed

-- as long as nothing was refused, what is left comes after the place; no text is too long
abbrev pub IsInOrder : List Token → ℕ → ℕ → Option TextRefusal → Type 0
IsInOrder tokens size place None = RisesTo size place (placed_words tokens)
IsInOrder tokens size place (Some (BadToken at)) = ⊤
IsInOrder tokens size place (Some (Unterminated at)) = ⊤
IsInOrder tokens size place (Some (TooBig at)) = ⊤
IsInOrder tokens size place (Some TooLong) = ⊥
IsInOrder tokens size place (Some Memory) = ⊤
IsInOrder tokens size place (Some Failed) = ⊤
