-- The integers of literals.
use Rattle.std.proofs.Common.{◌≡◌, ◌≢◌, ◌≤◌, ◌<◌, refl, ap, sym, ◌∙◌, subst, ℕ, zero, suc, ◌+◌, Bool, true, false, ℤ, pos, nat_abs, List, [], ◌∷◌, ◌++◌, length, take, get_or, map, add-one, arith}
use Rattle.std.proofs.Math.Seq.{take-suc}
use Rattle.std.proofs.lemmas.List.{take_all}
use Rattle.cx_base.specs.Literals.{Literal}
use Rattle.cx_base.specs.Numbers.{AreStepIntegers}
use Rattle.cx_base.specs.Problem.{AreWithin}
use Rattle.cx_base.specs.Integers.{integer_of, integers_of, literal, literals}
use Rattle.cx_base.proofs.Elements.{all_push}

-- a literal is that of its integer
pub spelt : (n : ℕ) (b : Bool) → 1 ≤ n → literal (integer_of (record { variable = n; negative = b })) ≡ record { variable = n; negative = b }
spelt zero b h = absurd (omega (arith, h))
spelt (suc n) true h = refl
spelt (suc n) false h = refl

pub all_spelt : (n : ℕ) (lits : List Literal) → AreWithin n lits → literals (integers_of lits) ≡ lits
all_spelt n [] w = refl
all_spelt n (l ∷ lits) w = ap (λ m. m ∷ literals (integers_of lits)) (spelt l.variable l.negative w.0.0) ∙ ap (λ ls. l ∷ ls) (all_spelt n lits w.1)

-- what a loop has made of the first literals
pub record AreMade (done : List Literal) (made : List ℤ) : Type 0 where
  pub integers : made ≡ integers_of done
  pub literals : literals made ≡ done
  pub proper : AreStepIntegers made

map_push : {A B : Type 0} (f : A → B) (xs : List A) (x : A) → map f (xs ++ x ∷ []) ≡ map f xs ++ f x ∷ []
map_push f [] x = refl
map_push f (y ∷ xs) x = ap (λ ys. f y ∷ ys) (map_push f xs x)

-- one literal more
one_more_made : (done : List Literal) (made : List ℤ) (l : Literal) (z : ℤ) → AreMade done made → z ≡ integer_of l → literal z ≡ l → (z ≢ pos 0) × (nat_abs z ≤ 9223372036854775807) → AreMade (done ++ l ∷ []) (made ++ z ∷ [])
one_more_made done made l z m is back proper = record {
  integers = ap (λ zs. zs ++ z ∷ []) m.integers ∙ ap (λ y. integers_of done ++ y ∷ []) is ∙ sym (map_push integer_of done l);
  literals = map_push literal made z ∙ ap (λ ls. ls ++ literal z ∷ []) m.literals ∙ ap (λ y. done ++ y ∷ []) back;
  proper = all_push (λ y. (y ≢ pos 0) × (nat_abs y ≤ 9223372036854775807)) made z m.proper proper;
}

-- so it is with the literal at the next place
pub next_made : (lits : List Literal) (i : ℕ) (made now : List ℤ) (l : Literal) (z : ℤ) → i < length lits → l ≡ get_or lits i l → AreMade (take i lits) made → z ≡ integer_of l → literal z ≡ l
    → (z ≢ pos 0) × (nat_abs z ≤ 9223372036854775807) → now ≡ made ++ z ∷ [] → AreMade (take (i + 1) lits) now
next_made lits i made now l z less at m is back proper pushed =
    let next : take (i + 1) lits ≡ take i lits ++ l ∷ [] = rw add-one (take-suc lits i l less ∙ ap (λ x. take i lits ++ x ∷ []) (sym at)) in
    subst (λ done. AreMade done now) (sym next) (subst (AreMade (take i lits ++ l ∷ [])) (sym pushed) (one_more_made (take i lits) made l z m is back proper))

pub all_made : (lits : List Literal) (i : ℕ) (made : List ℤ) → length lits ≤ i → AreMade (take i lits) made → AreMade lits made
all_made lits i made past m = subst (λ done. AreMade done made) (take_all i lits past) m
