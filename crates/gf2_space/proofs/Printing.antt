-- Pieces that are written one after another.
use Rattle.std.proofs.Common.{◌≡◌, sym, ap, ◌∙◌, subst, ℕ, ◌+◌, ◌<◌, ◌≤◌, append_assoc, List, [], ◌∷◌, ◌++◌, flat_map, length, take, drop, get_or, append-nil, arith, ◌-◌, Bool, false, codes, decimal, if◌then◌else◌}
use Rattle.std.specs.List.{enumerate_from}
use Rattle.std.proofs.lemmas.List.FromFn.{length-enumerate_from, get_or-enumerate_from}
use Rattle.parity_engine.specs.Equations.{numbers_from}
use Rattle.gf2_space.specs.AffineText.{point_literal, listed_variable, line_end, vector_text}
use Rattle.std.proofs.lemmas.Grind.{flat_map-append}
use Rattle.std.proofs.lemmas.List.{take_more, take_all, take-append-drop}
use Rattle.cx_desk.specs.Outside.{Bytes, Outside}
use Rattle.model_out.specs.Waiting.{Takes, Fails}
use Rattle.model_out.proofs.Puts.{takes_more, takes_then_fails, fails_before}

module _ {X : Type 0} (f : X → Bytes) (xs : List X) (i : ℕ) (d : X) where
  front_and_next : i < length xs → flat_map f (take i xs) ++ f (get_or xs i d) ≡ flat_map f (take (i + 1) xs)
  front_and_next low =
      ap (λ t. flat_map f (take i xs) ++ t) (sym (append-nil (f (get_or xs i d))))
      ∙ sym (flat_map-append f (take i xs) (get_or xs i d ∷ []))
      ∙ ap (flat_map f) (sym (take_more xs i d low))

  pub each_taken : (old mid new : Outside) (u v w : Bytes) → i < length xs → Takes (flat_map f (take i xs)) old u mid v → Takes (f (get_or xs i d)) mid v new w
      → Takes (flat_map f (take (i + 1) xs)) old u new w
  each_taken old mid new u v w low h k =
      subst (λ t. Takes t old u new w) (front_and_next low) (takes_more (flat_map f (take i xs)) (f (get_or xs i d)) old mid new u v w h k)

  pub each_fails : (old mid new : Outside) (u v : Bytes) → i < length xs → Takes (flat_map f (take i xs)) old u mid v → Fails (v ++ f (get_or xs i d)) mid new
      → Fails (u ++ flat_map f xs) old new
  each_fails old mid new u v low h k =
      let front : Bytes = flat_map f (take (i + 1) xs) in
      let rest : Bytes = flat_map f (drop (i + 1) xs) in
      let so_far : Fails (u ++ front) old new =
      subst (λ t. Fails (u ++ t) old new) (front_and_next low) (takes_then_fails (flat_map f (take i xs)) (f (get_or xs i d)) old mid new u v h k) in
      subst (λ t. Fails (u ++ t) old new) (sym (flat_map-append f (take (i + 1) xs) (drop (i + 1) xs)) ∙ ap (flat_map f) (take-append-drop (i + 1) xs))
      (fails_before front rest old new u so_far)

pub all_taken : {X : Type 0} (f : X → Bytes) (xs : List X) (i : ℕ) (old mid : Outside) (u v : Bytes) → length xs ≤ i → Takes (flat_map f (take i xs)) old u mid v
    → Takes (flat_map f xs) old u mid v
all_taken f xs i old mid u v past h = subst (λ t. Takes (flat_map f t) old u mid v) (take_all i xs past) h

-- a piece after others fails
pub piece_fails : (a b rest text : Bytes) (old mid new : Outside) (u v : Bytes) → (a ++ b) ++ rest ≡ text → Takes a old u mid v → Fails (v ++ b) mid new → Fails (u ++ text) old new
piece_fails a b rest text old mid new u v is h k =
    subst (λ t. Fails (u ++ t) old new) is (fails_before (a ++ b) rest old new u (takes_then_fails a b old mid new u v h k))

-- ---- the literals of the point
pub literal_is : (point : List Bool) (x : ℕ) (v : Bool) (s : Bytes) (n : ℕ) → x < length point → v ≡ get_or point (x + 1 - 1) false → s ≡ 32 ∷ (if v then [] else codes "-") → n ≡ x + 1
    → s ++ decimal n ≡ point_literal (get_or (enumerate_from 0 point) x (0, false))
literal_is point x v s n lt value sign number =
    let zero_x : 0 + x ≡ x = omega arith in
    let back : x + 1 - 1 ≡ x = omega arith in
    let at : get_or (enumerate_from 0 point) x (0, false) ≡ (x, v) =
    get_or-enumerate_from 0 point x (0, false) lt ∙ (λ i. (zero_x i, (sym (value ∙ ap (λ k. get_or point k false) back)) i)) in
    (λ i. sign i ++ decimal (number i)) ∙ ap point_literal (sym at)

pub all_placed : (point : List Bool) (n : ℕ) → length point ≤ n → length (enumerate_from 0 point) ≤ n
all_placed point n le = let h = length-enumerate_from 0 point in omega arith

pub placed_in : (point : List Bool) (x : ℕ) → x < length point → x < length (enumerate_from 0 point)
placed_in point x lt = let h = length-enumerate_from 0 point in omega arith

-- ---- the line of a vector
pub vector_is : (below : List ℕ) (v : ℕ) (vector : List Bool) → numbers_from 1 vector ≡ below ++ v ∷ []
    → (codes "b" ++ flat_map listed_variable below) ++ (listed_variable v ++ line_end) ≡ vector_text vector
vector_is below v vector line =
    let many : flat_map listed_variable (below ++ v ∷ []) ≡ flat_map listed_variable below ++ listed_variable v =
    flat_map-append listed_variable below (v ∷ []) ∙ ap (λ t. flat_map listed_variable below ++ t) (append-nil (listed_variable v)) in
    append_assoc (codes "b") (flat_map listed_variable below) (listed_variable v ++ line_end)
    ∙ ap (λ t. codes "b" ++ t) (sym (append_assoc (flat_map listed_variable below) (listed_variable v) line_end) ∙ ap (λ t. t ++ line_end) (sym (ap (flat_map listed_variable) line ∙ many)))

pub grouped : (a b c d t : Bytes) → (a ++ b) ++ (c ++ d) ≡ t → ((a ++ b) ++ c) ++ d ≡ t
grouped a b c d t is = append_assoc (a ++ b) c d ∙ is

-- ---- the whole text
pub first_of_five : (a b c d e : Bytes) → a ++ (b ++ (c ++ (d ++ e))) ≡ (((a ++ b) ++ c) ++ d) ++ e
first_of_five a b c d e = simp append_assoc

pub two_of_five : (a b c d e : Bytes) → (a ++ b) ++ (c ++ (d ++ e)) ≡ (((a ++ b) ++ c) ++ d) ++ e
two_of_five a b c d e = simp append_assoc

pub three_of_five : (a b c d e : Bytes) → ((a ++ b) ++ c) ++ (d ++ e) ≡ (((a ++ b) ++ c) ++ d) ++ e
three_of_five a b c d e = simp append_assoc
