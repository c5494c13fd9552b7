-- Two rising lists merged, where what both have goes.
use Rattle.std.proofs.Common.{◌≡◌, ◌⊎◌, ℕ, ◌+◌, ◌<◌, ◌≤◌, zero, suc, Bool, false, List, [], ◌∷◌, ◌++◌, length, get_or, take, drop, ◌-◌, refl, sym, ap, ◌∙◌, subst, append_assoc, append-nil, inl, inr, arith}
use Rattle.std.proofs.Math.Seq.{drop-cons}
use Rattle.cx_base.specs.Literals.{differ}
use Rattle.cx_base.proofs.ParityLaws.{differ_false, differ_swap}
use Rattle.cx_base.proofs.Differences.{differ_assoc, differ_move, differ_itself}
use Rattle.parity_engine.specs.Written.{AreRising}
use Rattle.xor_reason.specs.Sums.{sum_over, IsSumOf}

rise_lower : (low high most : ℕ) (xs : List ℕ) → low ≤ high → AreRising high most xs → AreRising low most xs
rise_lower low high most [] le rise = tt
rise_lower low high most (x ∷ xs) le rise = (let h = rise.0 in omega arith, rise.1, rise.2)

-- one that lies between goes in between
rise_between : (least most : ℕ) (xs : List ℕ) (y z : ℕ) (ys zs : List ℕ) → AreRising least most (xs ++ y ∷ ys) → AreRising least most (xs ++ z ∷ zs) → y < z
    → AreRising least most (xs ++ y ∷ z ∷ zs)
rise_between least most [] y z ys zs one other lt = (one.0, one.1, (omega arith, other.1, other.2))
rise_between least most (x ∷ xs) y z ys zs one other lt = (one.0, one.1, rise_between (x + 1) most xs y z ys zs one.2 other.2 lt)

rise_without : (least most : ℕ) (xs : List ℕ) (y : ℕ) (ys : List ℕ) → AreRising least most (xs ++ y ∷ ys) → AreRising least most (xs ++ ys)
rise_without least most [] y ys rise = rise_lower least (y + 1) most ys (let h = rise.0 in omega arith) rise.2
rise_without least most (x ∷ xs) y ys rise = (rise.0, rise.1, rise_without (x + 1) most xs y ys rise.2)

drop_past : (xs : List ℕ) (i : ℕ) → length xs ≤ i → drop i xs ≡ []
drop_past [] zero le = refl
drop_past [] (suc i) le = refl
drop_past (x ∷ xs) zero le = absurd (omega arith)
drop_past (x ∷ xs) (suc i) le = drop_past xs i (omega arith)

drop_at : (xs : List ℕ) (i : ℕ) → i < length xs → drop i xs ≡ get_or xs i 0 ∷ drop (i + 1) xs
drop_at xs i lt = let e : suc i ≡ i + 1 = omega arith in drop-cons xs i 0 lt ∙ ap (λ (k : ℕ). get_or xs i 0 ∷ drop k xs) e

take_past : (xs : List ℕ) (n : ℕ) → length xs ≤ n → take n xs ≡ xs
take_past [] zero le = refl
take_past [] (suc n) le = refl
take_past (x ∷ xs) zero le = absurd (omega arith)
take_past (x ∷ xs) (suc n) le = ap (λ (l : List ℕ). x ∷ l) (take_past xs n (omega arith))

length_drop : (xs : List ℕ) (i : ℕ) → length (drop i xs) ≤ length xs - i
length_drop [] zero = omega arith
length_drop [] (suc i) = omega arith
length_drop (x ∷ xs) zero = omega arith
length_drop (x ∷ xs) (suc i) = let h = length_drop xs i in omega arith

-- the rest of a list as the machine cuts it
cut_rest : (xs : List ℕ) (i : ℕ) → take (length xs - i) (drop i xs) ≡ drop i xs
cut_rest xs i = take_past (drop i xs) (length xs - i) (length_drop xs i)

pub sum_over-append : (xs ys : List ℕ) (v : ℕ → Bool) → sum_over (xs ++ ys) v ≡ differ (sum_over xs v) (sum_over ys v)
sum_over-append [] ys v = refl
sum_over-append (x ∷ xs) ys v = ap (differ (v x)) (sum_over-append xs ys v) ∙ sym (differ_assoc (v x) (sum_over xs v) (sum_over ys v))

-- s is merged of a and b, but for their last parts xs and ys
pub record Merges (a b s xs ys : List ℕ) : Type 0 where
  pub sums : (v : ℕ → Bool) → differ (sum_over s v) (differ (sum_over xs v) (sum_over ys v)) ≡ differ (sum_over a v) (sum_over b v)
  pub first : (least most : ℕ) → AreRising least most a → AreRising least most b → AreRising least most (s ++ xs)
  pub second : (least most : ℕ) → AreRising least most a → AreRising least most b → AreRising least most (s ++ ys)

pub merges_none : (a b : List ℕ) → Merges a b [] a b
merges_none a b = record { sums = λ v. refl; first = λ l m ra rb. ra; second = λ l m ra rb. rb }

first_out : (s x xs y : Bool) → differ (differ s (differ x false)) (differ xs y) ≡ differ s (differ (differ x xs) y)
first_out s x xs y = ap (λ t. differ (differ s t) (differ xs y)) (differ_false x) ∙ differ_assoc s x (differ xs y) ∙ ap (differ s) (sym (differ_assoc x xs y))

second_out : (s y x ys : Bool) → differ (differ s (differ y false)) (differ x ys) ≡ differ s (differ x (differ y ys))
second_out s y x ys = ap (λ t. differ (differ s t) (differ x ys)) (differ_false y) ∙ differ_assoc s y (differ x ys) ∙ ap (differ s) (differ_move y x ys)

both_out : (x xs ys : Bool) → differ xs ys ≡ differ (differ x xs) (differ x ys)
both_out x xs ys = sym (differ_swap x xs x ys ∙ ap (λ t. differ t (differ xs ys)) (differ_itself x))

merges_first : (a b s : List ℕ) (x : ℕ) (xs : List ℕ) (y : ℕ) (ys : List ℕ) → Merges a b s (x ∷ xs) (y ∷ ys) → x < y → Merges a b (s ++ x ∷ []) xs (y ∷ ys)
merges_first a b s x xs y ys far lt = record {
  sums = λ v.
      ap (λ t. differ t (differ (sum_over xs v) (sum_over (y ∷ ys) v))) (sum_over-append s (x ∷ []) v)
      ∙ first_out (sum_over s v) (v x) (sum_over xs v) (sum_over (y ∷ ys) v) ∙ far.sums v;
  first = λ l m ra rb. subst (AreRising l m) (sym (append_assoc s (x ∷ []) xs)) (far.first l m ra rb);
  second = λ l m ra rb. subst (AreRising l m) (sym (append_assoc s (x ∷ []) (y ∷ ys))) (rise_between l m s x y xs ys (far.first l m ra rb) (far.second l m ra rb) lt);
}

merges_second : (a b s : List ℕ) (x : ℕ) (xs : List ℕ) (y : ℕ) (ys : List ℕ) → Merges a b s (x ∷ xs) (y ∷ ys) → y < x → Merges a b (s ++ y ∷ []) (x ∷ xs) ys
merges_second a b s x xs y ys far lt = record {
  sums = λ v.
      ap (λ t. differ t (differ (sum_over (x ∷ xs) v) (sum_over ys v))) (sum_over-append s (y ∷ []) v)
      ∙ second_out (sum_over s v) (v y) (sum_over (x ∷ xs) v) (sum_over ys v) ∙ far.sums v;
  first = λ l m ra rb. subst (AreRising l m) (sym (append_assoc s (y ∷ []) (x ∷ xs))) (rise_between l m s y x ys xs (far.second l m ra rb) (far.first l m ra rb) lt);
  second = λ l m ra rb. subst (AreRising l m) (sym (append_assoc s (y ∷ []) ys)) (far.second l m ra rb);
}

merges_both : (a b s : List ℕ) (x : ℕ) (xs : List ℕ) (y : ℕ) (ys : List ℕ) → Merges a b s (x ∷ xs) (y ∷ ys) → x ≡ y → Merges a b s xs ys
merges_both a b s x xs y ys far same = record {
  sums = λ v.
      ap (differ (sum_over s v))
      (both_out (v x) (sum_over xs v) (sum_over ys v)
      ∙ ap (λ (z : ℕ). differ (differ (v x) (sum_over xs v)) (differ (v z) (sum_over ys v))) same)
      ∙ far.sums v;
  first = λ l m ra rb. rise_without l m s x xs (far.first l m ra rb);
  second = λ l m ra rb. rise_without l m s y ys (far.second l m ra rb);
}

-- ---- with the parts that are left as the code has them
abbrev pub Merged : List ℕ → List ℕ → List ℕ → ℕ → ℕ → Type 0
Merged a b s i j = Merges a b s (drop i a) (drop j b)

parts : (a b s : List ℕ) (i j : ℕ) → Merged a b s i j → i < length a → j < length b → Merges a b s (get_or a i 0 ∷ drop (i + 1) a) (get_or b j 0 ∷ drop (j + 1) b)
parts a b s i j far i_in j_in = subst (λ (xs : List ℕ). Merges a b s xs (get_or b j 0 ∷ drop (j + 1) b)) (drop_at a i i_in) (subst (Merges a b s (drop i a)) (drop_at b j j_in) far)

pub merged_first : (a b s : List ℕ) (i j : ℕ) → Merged a b s i j → i < length a → j < length b → get_or a i 0 < get_or b j 0 → Merged a b (s ++ get_or a i 0 ∷ []) (i + 1) j
merged_first a b s i j far i_in j_in lt =
    subst (Merges a b (s ++ get_or a i 0 ∷ []) (drop (i + 1) a)) (sym (drop_at b j j_in))
    (merges_first a b s (get_or a i 0) (drop (i + 1) a) (get_or b j 0) (drop (j + 1) b) (parts a b s i j far i_in j_in) lt)

pub merged_second : (a b s : List ℕ) (i j : ℕ) → Merged a b s i j → i < length a → j < length b → get_or b j 0 < get_or a i 0 → Merged a b (s ++ get_or b j 0 ∷ []) i (j + 1)
merged_second a b s i j far i_in j_in lt =
    subst (λ (xs : List ℕ). Merges a b (s ++ get_or b j 0 ∷ []) xs (drop (j + 1) b)) (sym (drop_at a i i_in))
    (merges_second a b s (get_or a i 0) (drop (i + 1) a) (get_or b j 0) (drop (j + 1) b) (parts a b s i j far i_in j_in) lt)

pub merged_both : (a b s : List ℕ) (i j : ℕ) → Merged a b s i j → i < length a → j < length b → get_or a i 0 ≡ get_or b j 0 → Merged a b s (i + 1) (j + 1)
merged_both a b s i j far i_in j_in same = merges_both a b s (get_or a i 0) (drop (i + 1) a) (get_or b j 0) (drop (j + 1) b) (parts a b s i j far i_in j_in) same

pub merged_all : (a b s : List ℕ) (i j : ℕ) → Merged a b s i j → ((length a ≤ i) ⊎ (length b ≤ j)) → IsSumOf a b (s ++ drop i a ++ drop j b)
merged_all a b s i j far (inl past) =
    let none : drop i a ≡ [] = drop_past a i past in
    let end : Merges a b s [] (drop j b) = subst (λ (xs : List ℕ). Merges a b s xs (drop j b)) none far in
    let same : s ++ drop i a ++ drop j b ≡ s ++ drop j b = ap (λ (xs : List ℕ). s ++ xs ++ drop j b) none ∙ ap (λ (xs : List ℕ). xs ++ drop j b) (append-nil s) in
    subst (IsSumOf a b) (sym same) (record {
      sums = λ v. sum_over-append s (drop j b) v ∙ end.sums v;
      rises = λ l m ra rb. end.second l m ra rb;
    })
merged_all a b s i j far (inr past) =
    let none : drop j b ≡ [] = drop_past b j past in
    let end : Merges a b s (drop i a) [] = subst (Merges a b s (drop i a)) none far in
    let same : s ++ drop i a ++ drop j b ≡ s ++ drop i a = ap (λ (ys : List ℕ). s ++ drop i a ++ ys) none ∙ append-nil (s ++ drop i a) in
    subst (IsSumOf a b) (sym same) (record {
      sums = λ v. sum_over-append s (drop i a) v ∙ ap (differ (sum_over s v)) (sym (differ_false (sum_over (drop i a) v))) ∙ end.sums v;
      rises = λ l m ra rb. end.first l m ra rb;
    })

-- the two rests as they are appended
pub merged_end : (a b s middle whole : List ℕ) (i j : ℕ) → Merged a b s i j → ((length a ≤ i) ⊎ (length b ≤ j)) → middle ≡ s ++ take (length a - i) (drop i a)
    → whole ≡ middle ++ take (length b - j) (drop j b) → IsSumOf a b whole
merged_end a b s middle whole i j far past middle_is whole_is =
    subst (IsSumOf a b)
    (sym (whole_is ∙ ap (λ (t : List ℕ). t ++ take (length b - j) (drop j b)) (middle_is ∙ ap (λ (t : List ℕ). s ++ t) (cut_rest a i)) ∙ ap (λ (t : List ℕ). s ++ drop i a ++ t) (cut_rest b j)))
    (merged_all a b s i j far past)
