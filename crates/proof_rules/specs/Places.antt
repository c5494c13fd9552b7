-- Small ids, as places of a list.
use Rattle.std.specs.Prelude.{◌≡◌, ◌<◌, cond, ℕ, zero, suc, List, [], ◌∷◌, ◌++◌, Option, None, Some, length, replicate, take}
use Rattle.std.specs.Int.{bit_at}
use Rattle.std.specs.List.{list_any}
use Rattle.std.specs.Map.{lookup}
use Rattle.std.specs.Ordering.{nat_cmp, is_eq, eq_by_cmp}
use Rattle.std.specs.FinMap as map

-- what is in the places, each by its number, counted from n on; an empty place has no entry
abbrev pub entries_from : {V : Type 0} → ℕ → List (Option V) → List (ℕ × V)
entries_from n [] = []
entries_from n (None ∷ places) = entries_from (suc n) places
entries_from n (Some v ∷ places) = (n, v) ∷ entries_from (suc n) places

-- what is in the places, counted from 0 on, as those of a `Vec` are
abbrev pub entries_of : {V : Type 0} → List (Option V) → List (ℕ × V)
entries_of places = entries_from 0 places

-- the 64 places of a page, whose list may stop after the last of them that is not empty
abbrev pub all_places : {V : Type 0} → List (Option V) → List (Option V)
all_places places = take 64 (places ++ replicate 64 None)

-- the places of all pages in turn
abbrev pub places_of : {V : Type 0} → List (List (Option V)) → List (Option V)
places_of [] = []
places_of (page ∷ pages) = all_places page ++ places_of pages

-- a place holds its value where its bit is one
abbrev pub held : {V : Type 0} → ℕ → V → Option V
held zero v = None
held (suc bit) v = Some v

-- what places hold, counted from n on, by the bits of a word
abbrev pub held_from : {V : Type 0} → ℕ → ℕ → List V → List (Option V)
held_from n taken [] = []
held_from n taken (v ∷ places) = held (bit_at taken n) v ∷ held_from (suc n) taken places

-- what places hold, counted from 0 on
abbrev pub held_in : {V : Type 0} → ℕ → List V → List (Option V)
held_in taken places = held_from 0 taken places

-- a list of all places of a page, or none
abbrev pub HasAllOrNone : {V : Type 0} → List V → Type 0
HasAllOrNone places = 0 < length places → length places ≡ 64

-- what entries have under an id, if they have something
abbrev pub value_under : {V : Type 0} → ℕ → List (ℕ × V) → Option V
value_under id entries = lookup (λ k. is_eq (nat_cmp id k)) entries

-- the new entries have nothing under this id, and under each other one what the old ones have
abbrev pub IsTakenOut : {V : Type 0} → ℕ → List (ℕ × V) → List (ℕ × V) → Type 0
IsTakenOut id old new = (q : ℕ) → value_under q new ≡ cond (is_eq (nat_cmp id q)) None (value_under q old)

-- the new entries have this value under this id, and under each other one what the old ones have
abbrev pub IsPutUnder : {V : Type 0} → ℕ → V → List (ℕ × V) → List (ℕ × V) → Type 0
IsPutUnder id v old new = (q : ℕ) → value_under q new ≡ cond (is_eq (nat_cmp id q)) (Some v) (value_under q old)

-- an id is in the list exactly where it has a value
abbrev pub HasKeys : {V : Type 0} → map.FinMap nat_cmp V → List ℕ → Type 0
HasKeys values ids = (n : ℕ) → list_any (eq_by_cmp nat_cmp n) ids ≡ map.contains_key values n
