-- Signatures: 64 bits that tell of a clause's variables.
use Rattle.std.specs.Prelude.{◌≡◌, ℕ, ◌%◌, List, Contains}
use Rattle.std.specs.Int.{bit_at}
use Rattle.std.specs.List.{All}
use Rattle.cx_base.specs.Literals.{Literal}

-- the bit at each variable's remainder by 64 is set, and no other
pub record IsSignature (signature : ℕ) (lits : List Literal) : Type 0 where
  pub each : All (λ l. bit_at signature (l.variable % 64) ≡ 1) lits
  pub only : (i : ℕ) → bit_at signature i ≡ 1 → (l : Literal) × Contains lits l × (l.variable % 64 ≡ i)

-- some bit of the first is not set in the second
abbrev pub HasOther : ℕ → ℕ → Type 0
HasOther part whole = (i : ℕ) × (bit_at part i ≡ 1) × (bit_at whole i ≡ 0)
