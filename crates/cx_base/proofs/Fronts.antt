-- Two prefixes of one list.
use Rattle.std.proofs.Common.{◌≡◌, refl, sym, ap, ◌∙◌, List, [], ◌∷◌, ◌++◌, ◌⊎◌, inl, inr}

-- one is a prefix of the other
abbrev pub Compared : {A : Type 0} → List A → List A → List A → List A → Type 0
Compared {A} a b x y = ((m : List A) × (b ≡ a ++ m) × (x ≡ m ++ y)) ⊎ ((m : List A) × (a ≡ b ++ m) × (y ≡ m ++ x))

compared_more : {A : Type 0} (p : A) (a b x y : List A) (q : A) → p ≡ q → Compared a b x y → Compared (p ∷ a) (q ∷ b) x y
compared_more p a b x y q e (inl (m, f, g)) = inl (m, ap (λ h. q ∷ h) f ∙ ap (λ h. h ∷ (a ++ m)) (sym e), g)
compared_more p a b x y q e (inr (m, f, g)) = inr (m, ap (λ h. p ∷ h) f ∙ ap (λ h. h ∷ (b ++ m)) e, g)

pub compared : {A : Type 0} (a b x y : List A) → a ++ x ≡ b ++ y → Compared a b x y
compared [] b x y e = inl (b, refl, e)
compared (p ∷ a) [] x y e = inr (p ∷ a, refl, sym e)
compared (p ∷ a) (q ∷ b) x y e = let h : p ≡ q = cc in let k : a ++ x ≡ b ++ y = cc in compared_more p a b x y q h (compared a b x y k)
