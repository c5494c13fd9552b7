-- Parts of lists, and lists that are copied element by element.
use Rattle.std.proofs.Common.{◌≡◌, refl, sym, ap, ◌∙◌, ℕ, ℤ, pos, negsuc, suc, ◌+◌, ◌-◌, ◌<◌, ◌≤◌, ◌^◌, Bool, true, false, cond, nat_lt, List, [], ◌∷◌, ◌++◌, length, take, drop, map, set, get_or, length-drop, append_assoc, arith}
use Rattle.std.proofs.lemmas.Bool.{ltb-false}
use Rattle.std.proofs.lemmas.List.{drop-append-le, take-append-le, take_all, drop_all, take_more, take_more_set, drop_more, get_or-drop, map_push, length-take-le}
use Rattle.std.proofs.Math.Seq.{drop-append-add}
use Rattle.proof_trim.specs.Integers.{part, signed, unsigned}

-- ---- a part of a list

module _ {A : Type 0} (xs more : List A) (s e : ℕ) where
  pub part_stays : s ≤ e → e ≤ length xs → part (xs ++ more) s e ≡ part xs s e
  part_stays h k =
      let low : s ≤ length xs = omega arith in
      let room : e - s ≤ length (drop s xs) = omega (arith, length-drop s xs) in
      ap (take (e - s)) (drop-append-le s xs more low) ∙ take-append-le (e - s) (drop s xs) more room

  pub part_last : s ≡ length xs → e ≡ length xs + length more → part (xs ++ more) s e ≡ more
  part_last h k =
      ap (take (e - s)) (drop-append-le s xs more (omega arith) ∙ ap (λ zs. zs ++ more) (drop_all s xs (omega arith)))
      ∙ take_all (e - s) more (omega arith)

  pub part_past : length xs ≤ s → s ≤ e → part (xs ++ more) s e ≡ part more (s - length xs) (e - length xs)
  part_past h k =
      let from : s ≡ length xs + (s - length xs) = omega arith in
      let count : e - s ≡ (e - length xs) - (s - length xs) = omega arith in
      (λ i. take (count i) (drop (from i) (xs ++ more))) ∙ ap (take ((e - length xs) - (s - length xs))) (drop-append-add xs more (s - length xs))

module _ {A : Type 0} (xs : List A) (s e : ℕ) (d : A) where
  pub part_begins : s < e → e ≤ length xs → part xs s e ≡ get_or xs s d ∷ part xs (s + 1) e
  part_begins h k =
      let all : drop s xs ≡ get_or xs s d ∷ drop (s + 1) xs = drop_more xs s d (omega arith) in
      let count : e - s ≡ suc (e - (s + 1)) = omega arith in
      λ i. take (count i) (all i)

  pub part_ends : s ≤ e → e < length xs → part xs s (e + 1) ≡ part xs s e ++ get_or xs e d ∷ []
  part_ends h k =
      let count : (e + 1) - s ≡ (e - s) + 1 = omega arith in
      let here : s + (e - s) ≡ e = omega arith in
      ap (λ n. take n (drop s xs)) count ∙ take_more (drop s xs) (e - s) d (omega (arith, length-drop s xs))
      ∙ ap (λ z. part xs s e ++ z ∷ []) (get_or-drop s xs (e - s) d ∙ ap (λ n. get_or xs n d) here)

pub length-part : {A : Type 0} (xs : List A) (s e : ℕ) → s ≤ e → e ≤ length xs → length (part xs s e) ≡ e - s
length-part xs s e h k = length-take-le (e - s) (drop s xs) (omega (arith, length-drop s xs))

-- ---- ids as integers

back_by : (n : ℕ) (b : Bool) → nat_lt n (2 ^ 63) ≡ b → unsigned (cond b (pos n) (negsuc (n - 2 ^ 63))) ≡ n
back_by n true e = refl
back_by n false e = omega (arith, ltb-false n (2 ^ 63) e)

pub unsigned-signed : (n : ℕ) → unsigned (signed n) ≡ n
unsigned-signed n = back_by n (nat_lt n (2 ^ 63)) refl

-- ---- a list put after another, and copied over another

pub put_more : (old more self new : List ℤ) (i : ℕ) (z : ℤ) → i < length more → z ≡ get_or more i (pos 0) → self ≡ old ++ take i more → new ≡ self ++ z ∷ [] → new ≡ old ++ take (i + 1) more
put_more old more self new i z less is before step =
    step ∙ ap (λ s. s ++ z ∷ []) before ∙ append_assoc old (take i more) (z ∷ [])
    ∙ ap (λ xs. old ++ xs) (ap (λ w. take i more ++ w ∷ []) is ∙ sym (take_more more i (pos 0) less))

pub put_all : (old more self : List ℤ) (i : ℕ) → length more ≤ i → self ≡ old ++ take i more → self ≡ old ++ more
put_all old more self i less before = before ∙ ap (λ xs. old ++ xs) (take_all i more less)

pub put_id_more : (old self new : List ℤ) (ids : List ℕ) (i n : ℕ) → i < length ids → n ≡ get_or ids i 0 → self ≡ old ++ map signed (take i ids) → new ≡ self ++ signed n ∷ [] → new ≡ old ++ map signed (take (i + 1) ids)
put_id_more old self new ids i n less is before step =
    step ∙ ap (λ s. s ++ signed n ∷ []) before ∙ append_assoc old (map signed (take i ids)) (signed n ∷ [])
    ∙ ap (λ xs. old ++ xs) (sym (map_push signed (take i ids) n) ∙ ap (map signed) (ap (λ w. take i ids ++ w ∷ []) is ∙ sym (take_more ids i 0 less)))

pub put_all_ids : (old self : List ℤ) (ids : List ℕ) (i : ℕ) → length ids ≤ i → self ≡ old ++ map signed (take i ids) → self ≡ old ++ map signed ids
put_all_ids old self ids i less before = before ∙ ap (λ xs. old ++ map signed xs) (take_all i ids less)

pub copied_more : (packed into new : List ℤ) (s place : ℕ) (z : ℤ) → s ≤ place → place < length packed → place - s < length into → take (place - s) into ≡ part packed s place
    → z ≡ get_or packed place (pos 0) → new ≡ set into (place - s) z → take ((place + 1) - s) new ≡ part packed s (place + 1)
copied_more packed into new s place z low high room before is step =
    let count : (place + 1) - s ≡ (place - s) + 1 = omega arith in
    (λ i. take (count i) (step i)) ∙ take_more_set into (place - s) z room ∙ (λ i. before i ++ is i ∷ []) ∙ sym (part_ends packed s place (pos 0) low high)

pub copied_id_more : (packed : List ℤ) (into new : List ℕ) (s place n : ℕ) → s ≤ place → place < length packed → place - s < length into → take (place - s) into ≡ map unsigned (part packed s place)
    → n ≡ unsigned (get_or packed place (pos 0)) → new ≡ set into (place - s) n → take ((place + 1) - s) new ≡ map unsigned (part packed s (place + 1))
copied_id_more packed into new s place n low high room before is step =
    let count : (place + 1) - s ≡ (place - s) + 1 = omega arith in
    (λ i. take (count i) (step i)) ∙ take_more_set into (place - s) n room ∙ (λ i. before i ++ is i ∷ [])
    ∙ sym (map_push unsigned (part packed s place) (get_or packed place (pos 0))) ∙ ap (map unsigned) (sym (part_ends packed s place (pos 0) low high))

-- ---- nothing copied yet

no_part : {A : Type 0} (xs : List A) (s : ℕ) → part xs s s ≡ []
no_part xs s = let none : s - s ≡ 0 = omega arith in ap (λ n. take n (drop s xs)) none

pub part_none : (into packed : List ℤ) (s : ℕ) → take (s - s) into ≡ part packed s s
part_none into packed s = let none : s - s ≡ 0 = omega arith in ap (λ n. take n into) none ∙ sym (no_part packed s)

pub ids_none : (into : List ℕ) (packed : List ℤ) (s : ℕ) → take (s - s) into ≡ map unsigned (part packed s s)
ids_none into packed s = let none : s - s ≡ 0 = omega arith in ap (λ n. take n into) none ∙ ap (map unsigned) (sym (no_part packed s))
