-- Hints of a log that are settled.
use Rattle.std.proofs.Common.{◌≡◌, refl, subst, ℕ, ℤ, List, Option, None, Some}
use Rattle.cx_base.specs.Literals.{Literal}
use Rattle.cx_semantics.specs.Tables.{Table}
use Rattle.rup_finder.specs.Front.{IsChainLength}

pub is_none : (o : Option ℕ) → ((count : ℕ) → o ≡ Some count → ⊥) → o ≡ None
is_none None other = refl
is_none (Some count) other = absurd (other count refl)

-- the length of a chain of the same hints for the same literals
pub length_of : (table : Table) (target xs : List Literal) (given ys : List ℤ) (length o : Option ℕ) → xs ≡ target → ys ≡ given → o ≡ length → IsChainLength table xs ys o → IsChainLength table target given length
length_of table target xs given ys length o e f g h =
    subst (λ p. IsChainLength table target given p) g (subst (λ zs. IsChainLength table target zs o) f (subst (λ lits. IsChainLength table lits ys o) e h))
