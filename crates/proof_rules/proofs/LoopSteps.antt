-- One more step of a loop over a list, and its end.
use Rattle.std.proofs.Common.{◌≡◌, refl, sym, ap, ◌∙◌, ℕ, zero, suc, ◌+◌, ◌<◌, ◌≤◌, ◌||◌, ◌&&◌, Bool, true, false, List, [], ◌∷◌, ◌++◌, map, length, get_or, take, drop}
use Rattle.std.proofs.lemmas.List.{map-append, take_more, take_all, drop_more, drop_all}
use Rattle.std.specs.List.{list_any, list_all}

-- an item that fails the test changes no answer
pub any_passed : {X : Type 0} (p : X → Bool) (xs : List X) (i : ℕ) (d : X) → i < length xs → p (get_or xs i d) ≡ false → list_any p (drop (i + 1) xs) ≡ list_any p (drop i xs)
any_passed p xs i d h fails = ap (λ b. b || list_any p (drop (i + 1) xs)) (sym fails) ∙ ap (list_any p) (sym (drop_more xs i d h))

pub any_ended : {X : Type 0} (p : X → Bool) (xs : List X) (i : ℕ) → length xs ≤ i → false ≡ list_any p (drop i xs)
any_ended p xs i h = ap (list_any p) (sym (drop_all i xs h))

-- an item that passes the test changes no answer
pub all_passed : {X : Type 0} (p : X → Bool) (xs : List X) (i : ℕ) (d : X) → i < length xs → p (get_or xs i d) ≡ true → list_all p (drop (i + 1) xs) ≡ list_all p (drop i xs)
all_passed p xs i d h passes = ap (λ b. b && list_all p (drop (i + 1) xs)) (sym passes) ∙ ap (list_all p) (sym (drop_more xs i d h))

pub all_ended : {X : Type 0} (p : X → Bool) (xs : List X) (i : ℕ) → length xs ≤ i → true ≡ list_all p (drop i xs)
all_ended p xs i h = ap (list_all p) (sym (drop_all i xs h))

-- one more result after those of the items so far
pub map_more : {X Y : Type 0} (f : X → Y) (xs : List X) (i : ℕ) (d : X) → {ys : List Y} {y : Y} → ys ≡ map f (take i xs) → i < length xs → y ≡ f (get_or xs i d) → ys ++ y ∷ [] ≡ map f (take (i + 1) xs)
map_more f xs i d {ys} so_far h here =
    ap (λ z. ys ++ z ∷ []) here
    ∙ ap (λ zs. zs ++ f (get_or xs i d) ∷ []) so_far
    ∙ sym (map-append f (take i xs) (get_or xs i d ∷ []))
    ∙ ap (map f) (sym (take_more xs i d h))

pub map_ended : {X Y : Type 0} (f : X → Y) (xs : List X) (i : ℕ) → {ys : List Y} → ys ≡ map f (take i xs) → length xs ≤ i → ys ≡ map f xs
map_ended f xs i so_far h = so_far ∙ ap (map f) (take_all i xs h)

-- a default after a list changes no place
pub get_or_padded : {X : Type 0} (xs : List X) (d : X) (p : ℕ) → get_or (xs ++ d ∷ []) p d ≡ get_or xs p d
get_or_padded [] d zero = refl
get_or_padded [] d (suc p) = refl
get_or_padded (x ∷ xs) d zero = refl
get_or_padded (x ∷ xs) d (suc p) = get_or_padded xs d p
