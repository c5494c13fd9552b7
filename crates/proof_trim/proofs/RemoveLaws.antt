-- A loop over ids.
use Rattle.std.proofs.Common.{◌≡◌, refl, sym, ap, ◌∙◌, ℕ, zero, suc, ◌+◌, ◌<◌, ◌≤◌, Bool, not, ◌&&◌, List, [], ◌∷◌, length, drop, get_or, add-one, arith}
use Rattle.std.proofs.Math.Seq.{drop-cons}
use Rattle.proof_rules.specs.declared.live.Kind.{Kind}
use Rattle.proof_trim.specs.Names.{Name, same_name}
use Rattle.proof_trim.specs.NameSets.{name_of, named_as}
use Rattle.proof_trim.proofs.NameLaws.{and_moved}

nothing_left : {A : Type 0} (xs : List A) (i : ℕ) → length xs ≤ i → drop i xs ≡ []
nothing_left [] zero h = refl
nothing_left [] (suc i) h = refl
nothing_left (x ∷ xs) zero h = absurd (omega arith)
nothing_left (x ∷ xs) (suc i) h = nothing_left xs i (omega arith)

next_drop : {A : Type 0} (xs : List A) (i : ℕ) (d : A) → i < length xs → drop i xs ≡ get_or xs i d ∷ drop (i + 1) xs
next_drop xs i d h = drop-cons xs i d h ∙ ap (λ k. get_or xs i d ∷ drop k xs) (sym (add-one i))

module _ (kind : Kind) (start : Bool) (name : Name) (i : ℕ) (old new : Bool) (ids : List ℕ) where
  pub remove_more : (d : ℕ) → i < length ids → (not (named_as kind (drop i ids) name) && old) ≡ start → new ≡ (not (same_name name (name_of kind (get_or ids i d))) && old)
      → (not (named_as kind (drop (i + 1) ids) name) && new) ≡ start
  remove_more d h before is =
      let n : ℕ = get_or ids i d in
      let rest : List ℕ = drop (i + 1) ids in
      ap (λ b. not (named_as kind rest name) && b) is
      ∙ sym (and_moved (same_name name (name_of kind n)) (named_as kind rest name) old)
      ∙ ap (λ (x : List ℕ). not (named_as kind x name) && old) (sym (next_drop ids i d h))
      ∙ before

  pub remove_done : length ids ≤ i → (not (named_as kind (drop i ids) name) && old) ≡ start → old ≡ start
  remove_done h before = sym (ap (λ (x : List ℕ). not (named_as kind x name) && old) (nothing_left ids i h)) ∙ before
