-- An id put into a set or taken out of it.
use Rattle.std.proofs.Common.{◌≡◌, refl, sym, ap, ◌∙◌, ℕ, zero, suc, ◌<◌, ◌≤◌, nat_eq, nat_lt, Bool, true, false, cond, not, ◌&&◌, ◌||◌, List, length, get_or, replicate, is_some, arith}
use Rattle.std.specs.Ordering.{nat_cmp}
use Rattle.std.specs.FinMap as map_
use Rattle.std.proofs.lemmas.Bool.{ltb-true, ne_eqb}
use Rattle.proof_trim.specs.declared.ids.Here.{Here}
use Rattle.proof_trim.specs.IdSets.{is_in}
use Rattle.proof_trim.proofs.NameLaws.{contains-inserted, contains-removed}

abbrev Far : Type 0
Far = map_.FinMap nat_cmp Here

-- ---- an id that is far

module _ (near : List Bool) (far new : Far) (n : ℕ) (past : length near ≤ n) where
  apart : (k : ℕ) → nat_lt k (length near) ≡ true → nat_eq k n ≡ false
  apart k e = let inside : k < length near = ltb-true k (length near) e in ne_eqb k n (λ same. omega (arith, same, past, inside))

  module _ (v : Here) (is : new ≡ map_.insert far n v) where
    put_by : (k : ℕ) (inside : Bool) → nat_lt k (length near) ≡ inside
        → cond inside (get_or near k false) (map_.contains_key new k) ≡ (nat_eq k n || cond inside (get_or near k false) (map_.contains_key far k))
    put_by k true e = sym (ap (λ b. b || get_or near k false) (apart k e))
    put_by k false e = ap (λ (m : Far). map_.contains_key m k) is ∙ contains-inserted far n v k

    pub far_in : (k : ℕ) → is_in near new k ≡ (nat_eq k n || is_in near far k)
    far_in k = put_by k (nat_lt k (length near)) refl

  module _ (is : new ≡ map_.remove far n) where
    out_by : (k : ℕ) (inside : Bool) → nat_lt k (length near) ≡ inside
        → cond inside (get_or near k false) (map_.contains_key new k) ≡ (not (nat_eq k n) && cond inside (get_or near k false) (map_.contains_key far k))
    out_by k true e = sym (ap (λ b. not b && get_or near k false) (apart k e))
    out_by k false e = ap (λ (m : Far). map_.contains_key m k) is ∙ contains-removed far n k

    pub far_out : (k : ℕ) → is_in near new k ≡ (not (nat_eq k n) && is_in near far k)
    far_out k = out_by k (nat_lt k (length near)) refl

-- ---- no id

module _ (room : ℕ) (far : Far) (empty : far ≡ map_.empty) where
  none_by : (k : ℕ) (inside : Bool) → nat_lt k (length (replicate room false)) ≡ inside → cond inside (get_or (replicate room false) k false) (map_.contains_key far k) ≡ false
  none_by k true e = no_place room k
    where
      no_place : (m i : ℕ) → get_or (replicate m false) i false ≡ false
      no_place zero i = refl
      no_place (suc m) zero = refl
      no_place (suc m) (suc i) = no_place m i
  none_by k false e = ap (λ (m : Far). map_.contains_key m k) empty ∙ ap is_some (map_.get-empty nat_cmp k)

  pub has_none : (near : List Bool) → near ≡ replicate room false → (k : ℕ) → is_in near far k ≡ false
  has_none near is k = ap (λ (xs : List Bool). is_in xs far k) is ∙ none_by k (nat_lt k (length (replicate room false))) refl
