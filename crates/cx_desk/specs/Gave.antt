-- What the reads of a slot gave, one after the other.
use Rattle.std.specs.Prelude.{◌≡◌, ℕ, Bool, true, false, List, [], ◌∷◌, ◌++◌, ◌||◌}

-- the bytes so far, and whether a read gave none, which is the end
pub record Gave : Type 0 where
  pub bytes : List ℕ
  pub ended : Bool

-- bytes before the end
abbrev pub part : List ℕ → Gave
part bytes = record { bytes = bytes; ended = false }

-- bytes up to the end
abbrev pub whole : List ℕ → Gave
whole bytes = record { bytes = bytes; ended = true }

abbrev pub nothing : Gave
nothing = part []

abbrev pub is_none : List ℕ → Bool
is_none [] = true
is_none (b ∷ bytes) = false

-- what one read gave
abbrev pub piece : List ℕ → Gave
piece bytes = record { bytes = bytes; ended = is_none bytes }

abbrev pub joined : Gave → Gave → Gave
joined first next = record { bytes = first.bytes ++ next.bytes; ended = first.ended || next.ended }

-- a text that agrees with what was read: the bytes are a prefix of it, and all of it where the end was seen
pub record Agrees (text : List ℕ) (g : Gave) : Type 0 where
  pub rest : List ℕ
  pub front : text ≡ g.bytes ++ rest
  pub all : g.ended ≡ true → rest ≡ []
