-- What holds of each element of a list, and the elements of a longer one.
use Rattle.std.proofs.Common.{◌≡◌, ◌≢◌, refl, suc, ℤ, pos, List, [], ◌∷◌, ◌++◌, arith}
use Rattle.std.specs.List.{AllByRecursion, Contains}
use Rattle.cx_base.specs.Numbers.{AreStepIntegers}

-- what holds of each element of both lists holds of each of the whole
pub all_append : {X : Type 0} (P : X → Type 0) (xs ys : List X) → AllByRecursion P xs → AllByRecursion P ys → AllByRecursion P (xs ++ ys)
all_append P [] ys a b = b
all_append P (x ∷ xs) ys a b = (a.0, all_append P xs ys a.1 b)

pub all_push : {X : Type 0} (P : X → Type 0) (xs : List X) (x : X) → AllByRecursion P xs → P x → AllByRecursion P (xs ++ x ∷ [])
all_push P xs x a h = all_append P xs (x ∷ []) a (h, tt)

pub in_head : {X : Type 0} (x : X) (xs : List X) → Contains (x ∷ xs) x
in_head x xs = (0, omega arith, refl)

pub in_tail : {X : Type 0} (x : X) (xs : List X) (y : X) → Contains xs y → Contains (x ∷ xs) y
in_tail x xs y (k, less, e) = (suc k, omega (arith, less), e)

-- equal lists begin alike and go on alike
pub same_head : {X : Type 0} (x y : X) (xs ys : List X) → x ∷ xs ≡ y ∷ ys → x ≡ y
same_head x y xs ys e = cc

pub same_tail : {X : Type 0} (x y : X) (xs ys : List X) → x ∷ xs ≡ y ∷ ys → xs ≡ ys
same_tail x y xs ys e = cc

-- the integers of a step are not 0
pub integers_are_proper : (zs : List ℤ) → AreStepIntegers zs → AllByRecursion (λ z. z ≢ pos 0) zs
integers_are_proper [] a = tt
integers_are_proper (z ∷ zs) a = (a.0.0, integers_are_proper zs a.1)
