-- The lines of constraints, one after another and several at once.
use Rattle.std.proofs.Common.{◌≡◌, sym, ap, ◌∙◌, ℕ, ◌+◌, ◌-◌, ◌<◌, List, [], ◌∷◌, ◌++◌, flat_map, length, take, drop, get_or, arith, append-nil}
use Rattle.std.proofs.lemmas.Grind.{flat_map-append}
use Rattle.std.proofs.lemmas.List.{drop_more}
use Rattle.std.proofs.Math.Seq.{take-add}
use Rattle.cx_desk.specs.declared.desk.Port.{Port}
use Rattle.cx_desk.specs.Outside.{Bytes, Outside}
use Rattle.cx_desk.specs.Calls.{gained}
use Rattle.cx_desk.proofs.Moves.{gained-twice}

module _ {X : Type 0} (f : X → Bytes) (xs : List X) (i : ℕ) (d : X) (low : i < length xs) where
  one_more : flat_map f (take (i + 1) xs) ≡ flat_map f (take i xs) ++ f (get_or xs i d)
  one_more =
      ap (flat_map f) (take-add i 1 xs ∙ ap (λ (ys : List X). take i xs ++ take 1 ys) (drop_more xs i d low))
      ∙ flat_map-append f (take i xs) (get_or xs i d ∷ []) ∙ ap (λ t. flat_map f (take i xs) ++ t) (append-nil (f (get_or xs i d)))

  -- the lines before a place were put, and then the line there
  pub line_put : (port : Port) (start mid new : Outside) → mid ≡ gained port (flat_map f (take i xs)) start → new ≡ gained port (f (get_or xs i d)) mid
      → new ≡ gained port (flat_map f (take (i + 1) xs)) start
  line_put port start mid new before now =
      now ∙ ap (gained port (f (get_or xs i d))) before ∙ gained-twice port (flat_map f (take i xs)) (f (get_or xs i d)) start
      ∙ ap (λ (t : Bytes). gained port t start) (sym one_more)

  -- the line of a place, and then those after it
  pub group_more : (to : ℕ) → i < to → flat_map f (take (to - i) (drop i xs)) ≡ f (get_or xs i d) ++ flat_map f (take (to - (i + 1)) (drop (i + 1) xs))
  group_more to more =
      let n = to - (i + 1) in
      let count : to - i ≡ 1 + n = omega arith in
      ap (λ m. flat_map f (take m (drop i xs))) count
      ∙ ap (λ (ys : List X). flat_map f (take (1 + n) ys)) (drop_more xs i d low)
      ∙ ap (flat_map f) (take-add 1 n (get_or xs i d ∷ drop (i + 1) xs))
