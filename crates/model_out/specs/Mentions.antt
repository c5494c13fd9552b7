-- How each variable is mentioned by an answer's integers.
use Rattle.std.specs.Prelude.{◌≡◌, ℕ, ◌+◌, ◌-◌, ◌<◌, ◌≤◌, ℤ, Bool, true, false, not, List, [], ◌∷◌, length, get_or, Option, Some, None}
use Rattle.cx_base.specs.Integers.{is_negative}
use Rattle.model_out.specs.Answers.{written_of}
use Rattle.model_out.specs.declared.mentions.Mention.{Mention}
use Rattle.model_out.specs.declared.mentions.Mention.TheVariants.{Never, Once, Repeated}

abbrev pub mention_of : List ℤ → Mention
mention_of [] = Never
mention_of (z ∷ []) = Once (not (is_negative z))
mention_of (z ∷ y ∷ zs) = Repeated

-- one more literal
abbrev pub mentioned : Mention → Bool → Mention
mentioned Never positive = Once positive
mentioned (Once other) positive = Repeated
mentioned Repeated positive = Repeated

abbrev pub is_never : Mention → Bool
is_never Never = true
is_never (Once positive) = false
is_never Repeated = false

abbrev pub is_repeated : Mention → Bool
is_repeated Never = false
is_repeated (Once positive) = false
is_repeated Repeated = true

abbrev pub is_true_once : Mention → Bool
is_true_once Never = false
is_true_once (Once positive) = positive
is_true_once Repeated = false

-- the table tells how each variable from 1 up to its length is mentioned
abbrev pub AreMentionsOf : List ℤ → List Mention → Type 0
AreMentionsOf lits table = (k : ℕ) → k < length table → get_or table k Never ≡ mention_of (written_of lits (k + 1))

-- the least variable whose mention passes the test, if there is one
abbrev pub IsFirstOf : (Mention → Bool) → List Mention → Option ℕ → Type 0
IsFirstOf test table None = (k : ℕ) → k < length table → test (get_or table k Never) ≡ false
IsFirstOf test table (Some x) = (1 ≤ x) × (x ≤ length table) × (test (get_or table (x - 1) Never) ≡ true) × ((k : ℕ) → k < x - 1 → test (get_or table k Never) ≡ false)
