-- Places whose bits are set, found one after another.
use Rattle.std.proofs.Common.{◌≡◌, ◌∙◌, ℕ, ◌+◌, ◌-◌, ◌*◌, ◌/◌, ◌%◌, ◌<◌, ◌≤◌, zero, suc, cond, List, [], ◌∷◌, ◌++◌, length, get_or, take, length-take, refl, ap, arith}
use Rattle.std.specs.Slice.Scan.{HoldsNowhere, IsFirstPlace}
use Rattle.std.proofs.lemmas.List.{append-nil, get_or-take}
use Rattle.gf2_rows.specs.Bits.{bit_of, word_bit}
use Rattle.gf2_matrix.specs.Views.{is_picked, picked}
use Rattle.gf2_matrix.proofs.Columns.{picked_more}

-- nothing is picked where no bit is set
pub picked_none : (start : ℕ) (words cs : List ℕ) (n d : ℕ) → n + d ≤ length cs → HoldsNowhere (is_picked words start) n (n + d) → picked start words (take (n + d) cs) ≡ picked start words (take n cs)
picked_none start words cs n zero within none = ap (λ m. picked start words (take m cs)) (let e : n + 0 ≡ n = omega arith in e)
picked_none start words cs n (suc d) within none =
    ap (λ m. picked start words (take m cs)) (let e : n + suc d ≡ n + d + 1 = omega arith in e)
    ∙ picked_more start words cs (n + d) (omega arith)
    ∙ ap (λ b. picked start words (take (n + d) cs) ++ cond b (get_or cs (n + d) 0 ∷ []) []) (none (n + d) (omega arith) (omega arith))
    ∙ append-nil (picked start words (take (n + d) cs))
    ∙ picked_none start words cs n d (omega arith) (λ i ge lt. none i ge (omega arith))

pub picked_up_to : (start : ℕ) (words cs : List ℕ) (n k : ℕ) → n ≤ k → k ≤ length cs → HoldsNowhere (is_picked words start) n k → picked start words (take k cs) ≡ picked start words (take n cs)
picked_up_to start words cs n k low within none =
    let e : k ≡ n + (k - n) = omega arith in
    ap (λ m. picked start words (take m cs)) e ∙ picked_none start words cs n (k - n) (omega arith) (λ i ge lt. none i ge (omega arith))

-- the next place is picked
pub picked_next : (start : ℕ) (words cs : List ℕ) (n k : ℕ) → k < length cs → IsFirstPlace (is_picked words start) n (length cs) k
    → picked start words (take (k + 1) cs) ≡ picked start words (take n cs) ++ get_or cs k 0 ∷ []
picked_next start words cs n k lt first =
    picked_more start words cs k lt
    ∙ ap (λ b. picked start words (take k cs) ++ cond b (get_or cs k 0 ∷ []) []) (first.hit lt)
    ∙ ap (λ xs. xs ++ get_or cs k 0 ∷ []) (picked_up_to start words cs n k first.low (omega arith) first.before)

-- the words before one
pub front_long : (n : ℕ) (words : List ℕ) → n ≤ length words → length (take n words) ≡ n
front_long n words within = length-take n words ∙ omega arith

bit_of_front : (words : List ℕ) (n k : ℕ) → k < 64 * n → bit_of (take n words) k ≡ bit_of words k
bit_of_front words n k lt = ap (λ w. word_bit w (k % 64)) (get_or-take n words (k / 64) 0 (omega arith))

-- the words that have the bits are enough
pub picked_front : (k n : ℕ) (words cs : List ℕ) → k + length cs ≤ 64 * n → picked k (take n words) cs ≡ picked k words cs
picked_front k n words [] room = refl
picked_front k n words (c ∷ cs) room =
    ap (λ b. cond b (c ∷ picked (k + 1) (take n words) cs) (picked (k + 1) (take n words) cs)) (bit_of_front words n k (omega arith))
    ∙ ap (λ xs. cond (bit_of words k) (c ∷ xs) xs) (picked_front (k + 1) n words cs (omega arith))
