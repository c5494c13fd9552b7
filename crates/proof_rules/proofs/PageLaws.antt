-- The places of pages, and the places of all pages in turn.
use Rattle.std.proofs.Common.{◌≡◌, refl, sym, ap, ◌∙◌, ℕ, zero, suc, ◌+◌, ◌-◌, ◌*◌, ◌/◌, ◌%◌, ◌^◌, ◌≢◌, eqb, ◌<◌, ◌≤◌, true, true≢false, List, [], ◌∷◌, ◌++◌, length, get_or, set, drop, Option, Some, None, is_some, replicate, arith, append_assoc, append-nil, length-append}
use Rattle.std.specs.Int.{bit_at}
use Rattle.std.specs.Map.{keys_of}
use Rattle.std.proofs.Math.Seq.{drop-cons}
use Rattle.std.proofs.lemmas.Nat.Bits.{bit_at-lt, bit_at-zero, same_from_bits_below}
use Rattle.std.proofs.lemmas.List.{drop_all, length-replicate, length-set, length-take-le, get_or-take, take_at, get_or_append_left, get_or-append-add, set-append_left, set-append_right}
use Rattle.proof_rules.specs.Places.{entries_from, entries_of, all_places, places_of, held, held_from, held_in, HasAllOrNone}

-- One page.

abbrev none_of : (V : Type 0) → ℕ → List (Option V)
none_of V k = replicate k None

length-all_places : {V : Type 0} (xs : List (Option V)) → length (all_places xs) ≡ 64
length-all_places {V} xs =
    let joined = length-append xs (none_of V 64) in
    let empty : length (none_of V 64) ≡ 64 = length-replicate {A = Option V} 64 None in
    length-take-le 64 (xs ++ none_of V 64) (omega (arith, joined, empty))

get_or-none : {V : Type 0} (k i : ℕ) → get_or (none_of V k) i None ≡ None
get_or-none zero i = refl
get_or-none (suc k) zero = refl
get_or-none (suc k) (suc i) = get_or-none k i

get_or-padded : {V : Type 0} (k : ℕ) (xs : List (Option V)) (i : ℕ) → get_or (xs ++ replicate k None) i None ≡ get_or xs i None
get_or-padded k [] i = get_or-none k i
get_or-padded k (x ∷ xs) zero = refl
get_or-padded k (x ∷ xs) (suc i) = get_or-padded k xs i

get_or-all_places : {V : Type 0} (xs : List (Option V)) (i : ℕ) → i < 64 → get_or (all_places xs) i None ≡ get_or xs i None
get_or-all_places xs i h = get_or-take 64 (xs ++ replicate 64 None) i None h ∙ get_or-padded 64 xs i

-- a list of all places of a page is all of them
pub all_places-full : {V : Type 0} (xs : List (Option V)) → length xs ≡ 64 → all_places xs ≡ xs
all_places-full xs h = take_at xs (replicate 64 None) 64 h

-- a page after a change in its full list
pub all_places-set : {V : Type 0} (old xs : List (Option V)) (i : ℕ) (o : Option V) → all_places old ≡ xs → length xs ≡ 64 → all_places (set xs i o) ≡ set (all_places old) i o
all_places-set old xs i o h full = all_places-full (set xs i o) (length-set xs i o ∙ full) ∙ ap (λ ys. set ys i o) (sym h)

-- What places hold, by the bits of a word.

length-held_from : {V : Type 0} (n t : ℕ) (xs : List V) → length (held_from n t xs) ≡ length xs
length-held_from n t [] = refl
length-held_from n t (x ∷ xs) = ap suc (length-held_from (suc n) t xs)

pub length-held_in : {V : Type 0} (t : ℕ) (xs : List V) → length (held_in t xs) ≡ length xs
length-held_in t xs = length-held_from 0 t xs

get_or-held_from : {V : Type 0} (n t : ℕ) (xs : List V) (i : ℕ) (d : V) → i < length xs → get_or (held_from n t xs) i None ≡ held (bit_at t (n + i)) (get_or xs i d)
get_or-held_from n t [] i d h = absurd (omega (arith, h))
get_or-held_from n t (x ∷ xs) zero d h = let here : n ≡ n + zero = omega arith in ap (λ k. held (bit_at t k) x) here
get_or-held_from n t (x ∷ xs) (suc i) d h =
    let later : suc n + i ≡ n + suc i = omega arith in
    get_or-held_from (suc n) t xs i d (omega (arith, h)) ∙ ap (λ k. held (bit_at t k) (get_or xs i d)) later

pub get_or-held_in : {V : Type 0} (t : ℕ) (xs : List V) (i : ℕ) (d : V) → i < length xs → get_or (held_in t xs) i None ≡ held (bit_at t i) (get_or xs i d)
get_or-held_in t xs i d h = let here : 0 + i ≡ i = omega arith in get_or-held_from 0 t xs i d h ∙ ap (λ k. held (bit_at t k) (get_or xs i d)) here

-- what a place holds that holds something
pub held_value : {V : Type 0} (t : ℕ) (xs : List V) (i : ℕ) (d : V) → i < length xs → is_some (get_or (held_in t xs) i None) ≡ true → get_or (held_in t xs) i None ≡ Some (get_or xs i d)
held_value t xs i d h some = let found = get_or-held_in t xs i d h in found ∙ by (bit_at t i) (get_or xs i d) (ap is_some (sym found) ∙ some)
  where
    by : {V : Type 0} (b : ℕ) (v : V) → is_some (held b v) ≡ true → held b v ≡ Some v
    by zero v e = absurd (true≢false (sym e))
    by (suc b) v e = refl

-- words with the same bits for these places
same_held : {V : Type 0} (n t u m : ℕ) (xs : List V) → n + length xs ≤ m → ((j : ℕ) → n ≤ j → j < m → bit_at u j ≡ bit_at t j) → held_from n u xs ≡ held_from n t xs
same_held n t u m [] h same = refl
same_held n t u m (x ∷ xs) h same =
    (λ i. held (same n (omega arith) (omega (arith, h)) i) x ∷ same_held (suc n) t u m xs (omega (arith, h)) (λ j low high. same j (omega (arith, low)) high) i)

changed_from : {V : Type 0} (n t u m : ℕ) (xs : List V) (i b : ℕ) (v : V) → n + length xs ≤ m → i < length xs → bit_at u (n + i) ≡ b
    → ((j : ℕ) → j < m → j ≢ n + i → bit_at u j ≡ bit_at t j) → held_from n u (set xs i v) ≡ set (held_from n t xs) i (held b v)
changed_from n t u m [] i b v h inside here others = absurd (omega (arith, inside))
changed_from n t u m (x ∷ xs) zero b v h inside here others =
    let first : n ≡ n + zero = omega arith in
    (λ i. held ((ap (bit_at u) first ∙ here) i) v ∷ same_held (suc n) t u m xs (omega (arith, h)) (λ j low high. others j high (λ e. absurd (omega (arith, low, e)))) i)
changed_from n t u m (x ∷ xs) (suc i) b v h inside here others =
    let later : suc n + i ≡ n + suc i = omega arith in
    (λ k. held (others n (omega (arith, h)) (λ e. absurd (omega (arith, e))) k) x
    ∷ changed_from (suc n) t u m xs i b v (omega (arith, h)) (omega (arith, inside)) (ap (bit_at u) later ∙ here) (λ j high apart. others j high (λ e. apart (e ∙ sym later))) k)

-- a bit and its place's value that change, and nothing else
pub held_changed : {V : Type 0} (t u : ℕ) (xs : List V) (i b : ℕ) (v : V) → length xs ≤ 64 → i < length xs → bit_at u i ≡ b
    → ((j : ℕ) → j < 64 → j ≢ i → bit_at u j ≡ bit_at t j) → held_in u (set xs i v) ≡ set (held_in t xs) i (held b v)
held_changed t u xs i b v h inside here others =
    let at : 0 + i ≡ i = omega arith in
    changed_from 0 t u 64 xs i b v (omega (arith, h)) inside (ap (bit_at u) at ∙ here) (λ j high apart. others j high (λ e. apart (e ∙ sym at)))

-- such a change, for the places of the page
pub page_changed : {V : Type 0} (t u : ℕ) (xs : List V) (i b : ℕ) (v : V) → length xs ≡ 64 → i < length xs → bit_at u i ≡ b
    → ((j : ℕ) → j < 64 → j ≢ i → bit_at u j ≡ bit_at t j) → all_places (held_in u (set xs i v)) ≡ set (all_places (held_in t xs)) i (held b v)
page_changed t u xs i b v full inside here others =
    let whole = length-held_in t xs ∙ full in
    ap all_places (held_changed t u xs i b v (omega (arith, full)) inside here others)
    ∙ all_places-set (held_in t xs) (held_in t xs) i (held b v) (all_places-full (held_in t xs) whole) whole

nothing_from : {V : Type 0} (n : ℕ) (xs : List V) → held_from n 0 xs ≡ replicate (length xs) None
nothing_from n [] = refl
nothing_from n (x ∷ xs) = (λ i. held (bit_at-zero n i) x ∷ nothing_from (suc n) xs i)

-- no place holds a value where no bit is one
pub held_nothing : {V : Type 0} (t : ℕ) (xs : List V) → t ≡ 0 → held_in t xs ≡ replicate (length xs) None
held_nothing t xs none = ap (λ k. held_in k xs) none ∙ nothing_from 0 xs

pub places_made : {V : Type 0} (xs ys : List V) (t : ℕ) → length xs ≡ 0 → (length xs ≡ 0 → t ≡ 0) → length ys ≡ 64 → all_places (held_in t ys) ≡ all_places (held_in t xs)
places_made [] ys t h none full = ap all_places (held_nothing t ys (none refl) ∙ ap (λ n. replicate n None) full)
places_made (x ∷ xs) ys t h none full = absurd (omega (arith, h))

-- a page none of whose places holds a value, without its list
pub all_places-vacant : {V : Type 0} (t : ℕ) (xs : List V) → HasAllOrNone xs → t ≡ 0 → all_places [] ≡ all_places (held_in t xs)
all_places-vacant t [] full none = refl
all_places-vacant t (x ∷ xs) full none = sym (places_made [] (x ∷ xs) t refl (λ e. none) (full (omega arith)))

held_none : {V : Type 0} (b : ℕ) (v : V) → held b v ≡ None → b ≡ 0
held_none zero v e = refl
held_none (suc b) v e = absurd (true≢false (ap is_some e))

-- where no place holds a value no bit is one
pub nothing_held : {V : Type 0} (t : ℕ) (xs : List V) → t < 2 ^ 64 → HasAllOrNone xs → (length xs ≡ 0 → t ≡ 0) → all_places (held_in t xs) ≡ replicate 64 None → t ≡ 0
nothing_held t [] small full none e = none refl
nothing_held {V} t (x ∷ xs) small full none e =
    let all = full (omega arith) in
    let whole : held_in t (x ∷ xs) ≡ none_of V 64 = sym (all_places-full (held_in t (x ∷ xs)) (length-held_in t (x ∷ xs) ∙ all)) ∙ e in
    same_from_bits_below 64 t 0 small (omega arith) (λ i lt.
    held_none (bit_at t i) (get_or (x ∷ xs) i x) (sym (get_or-held_in t (x ∷ xs) i x (omega (arith, lt, all))) ∙ ap (λ ys. get_or ys i None) whole ∙ get_or-none 64 i)
    ∙ sym (bit_at-zero i))

is_some-held : {V : Type 0} (b : ℕ) (v : V) → b < 2 → is_some (held b v) ≡ eqb b 1
is_some-held zero v h = refl
is_some-held (suc zero) v h = refl
is_some-held (suc (suc b)) v h = absurd (omega (arith, h))

-- a bit tells whether its place holds a value
pub bit-tells : {V : Type 0} (t : ℕ) (xs : List V) (i : ℕ) → i < 64 → HasAllOrNone xs → (length xs ≡ 0 → t ≡ 0) → eqb (bit_at t i) 1 ≡ is_some (get_or (held_in t xs) i None)
bit-tells t [] i h full none = rw (none refl, bit_at-zero i) refl
bit-tells t (x ∷ xs) i h full none =
    let all = full (omega arith) in
    sym (ap is_some (get_or-held_in t (x ∷ xs) i x (omega (arith, h, all))) ∙ is_some-held (bit_at t i) (get_or (x ∷ xs) i x) (bit_at-lt t i))

-- to empty a place that has no value changes nothing
pub set-no_value : {V : Type 0} (xs : List (Option V)) (i : ℕ) → get_or xs i None ≡ None → set xs i None ≡ xs
set-no_value [] i e = refl
set-no_value (x ∷ xs) zero e = ap (λ y. y ∷ xs) (sym e)
set-no_value (x ∷ xs) (suc i) e = ap (λ ys. x ∷ ys) (set-no_value xs i e)

set-past : {V : Type 0} (xs : List (Option V)) (i : ℕ) (o : Option V) → length xs ≤ i → set xs i o ≡ xs
set-past [] i o h = refl
set-past (x ∷ xs) zero o h = absurd (omega (arith, h))
set-past (x ∷ xs) (suc i) o h = ap (λ ys. x ∷ ys) (set-past xs i o (omega (arith, h)))

pub clear-no_value : {V : Type 0} (xs : List (Option V)) (i : ℕ) → i < 64 → get_or xs i None ≡ None → set (all_places xs) i None ≡ all_places xs
clear-no_value xs i h e = set-no_value (all_places xs) i (get_or-all_places xs i h ∙ e)

-- a place with a value is one of a list
pub has_place : {V : Type 0} (xs : List (Option V)) (i : ℕ) → is_some (get_or xs i None) ≡ true → i < length xs
has_place [] i e = absurd (true≢false (sym e))
has_place (x ∷ xs) zero e = omega arith
has_place (x ∷ xs) (suc i) e = let rest = has_place xs i e in omega (arith, rest)

-- Entries of pages.

entries_from-none : {V : Type 0} (n k : ℕ) → entries_from n (none_of V k) ≡ []
entries_from-none n zero = refl
entries_from-none n (suc k) = entries_from-none (suc n) k

entries_from-padded : {V : Type 0} (n k : ℕ) (xs : List (Option V)) → entries_from n (xs ++ replicate k None) ≡ entries_from n xs
entries_from-padded n k [] = entries_from-none n k
entries_from-padded n k (None ∷ xs) = entries_from-padded (suc n) k xs
entries_from-padded n k (Some v ∷ xs) = ap (λ es. (n, v) ∷ es) (entries_from-padded (suc n) k xs)

entries_from-append : {V : Type 0} (n : ℕ) (xs ys : List (Option V)) → entries_from n (xs ++ ys) ≡ entries_from n xs ++ entries_from (n + length xs) ys
entries_from-append n [] ys = ap (λ m. entries_from m ys) (omega arith)
entries_from-append n (None ∷ xs) ys = entries_from-append (suc n) xs ys ∙ ap (λ m. entries_from (suc n) xs ++ entries_from m ys) (omega arith)
entries_from-append n (Some v ∷ xs) ys = ap (λ es. (n, v) ∷ es) (entries_from-append (suc n) xs ys) ∙ ap (λ m. (n, v) ∷ entries_from (suc n) xs ++ entries_from m ys) (omega arith)

keys_of-append : {V : Type 0} (es fs : List (ℕ × V)) → keys_of (es ++ fs) ≡ keys_of es ++ keys_of fs
keys_of-append [] fs = refl
keys_of-append (e ∷ es) fs = ap (λ ks. e.0 ∷ ks) (keys_of-append es fs)

-- a page's entries are those of the list that it has
pub entries_from-page : {V : Type 0} (n : ℕ) (xs : List (Option V)) → HasAllOrNone xs → entries_from n (all_places xs) ≡ entries_from n xs
entries_from-page n [] h = entries_from-none n 64
entries_from-page n (x ∷ xs) h = ap (entries_from n) (all_places-full (x ∷ xs) (h (omega arith)))

-- the ids with a value in a page, after those that a list had
pub keys_pushed : {V : Type 0} (n i : ℕ) (xs : List (Option V)) (ids old : List ℕ) → HasAllOrNone xs → length xs ≤ i
    → ids ++ keys_of (entries_from (n + i) (drop i xs)) ≡ old ++ keys_of (entries_from n xs)
    → ids ≡ old ++ keys_of (entries_from n (all_places xs))
keys_pushed n i xs ids old h past so_far =
    sym (append-nil ids)
    ∙ ap (λ left. ids ++ keys_of (entries_from (n + i) left)) (sym (drop_all i xs past))
    ∙ so_far
    ∙ ap (λ es. old ++ keys_of es) (sym (entries_from-page n xs h))

-- The places of all pages.

pub length-places_of : {V : Type 0} (ps : List (List (Option V))) → length (places_of ps) ≡ 64 * length ps
length-places_of [] = refl
length-places_of (p ∷ ps) =
    let joined = length-append (all_places p) (places_of ps) in
    let one = length-all_places p in
    let rest = length-places_of ps in
    omega (arith, joined, one, rest)

get_or-pages : {V : Type 0} (ps : List (List (Option V))) (n i : ℕ) → i < 64 → get_or (places_of ps) (64 * n + i) None ≡ get_or (get_or ps n []) i None
get_or-pages [] n i h = refl
get_or-pages (p ∷ ps) zero i h =
    let one = length-all_places p in
    let at : 64 * zero + i ≡ i = omega arith in
    ap (λ k. get_or (all_places p ++ places_of ps) k None) at ∙ get_or_append_left (all_places p) (places_of ps) None i (omega (arith, one, h)) ∙ get_or-all_places p i h
get_or-pages (p ∷ ps) (suc n) i h =
    let one = length-all_places p in
    let at : 64 * suc n + i ≡ length (all_places p) + (64 * n + i) = omega (arith, one) in
    ap (λ k. get_or (all_places p ++ places_of ps) k None) at
    ∙ get_or-append-add (all_places p) (places_of ps) (64 * n + i) None ∙ get_or-pages ps n i h

-- the place of an id is in its page
pub get_or-places_of : {V : Type 0} (ps : List (List (Option V))) (k n i : ℕ) → k ≡ 64 * n + i → i < 64 → get_or (places_of ps) k None ≡ get_or (get_or ps n []) i None
get_or-places_of ps k n i e h = ap (λ m. get_or (places_of ps) m None) e ∙ get_or-pages ps n i h

set-pages : {V : Type 0} (ps : List (List (Option V))) (n i : ℕ) (q : List (Option V)) (o : Option V) → i < 64 → all_places q ≡ set (all_places (get_or ps n [])) i o → places_of (set ps n q) ≡ set (places_of ps) (64 * n + i) o
set-pages [] n i q o h e = refl
set-pages (p ∷ ps) zero i q o h e =
    let one = length-all_places p in
    let at : i ≡ 64 * zero + i = omega arith in
    ap (λ xs. xs ++ places_of ps) e ∙ sym (set-append_left (all_places p) (places_of ps) i o (omega (arith, one, h)))
    ∙ ap (λ k. set (all_places p ++ places_of ps) k o) at
set-pages (p ∷ ps) (suc n) i q o h e =
    let rest : 64 * n + i ≡ 64 * suc n + i - 64 = omega arith in
    ap (λ xs. all_places p ++ xs) (set-pages ps n i q o h e)
    ∙ ap (λ k. all_places p ++ set (places_of ps) k o) rest
    ∙ sym (set-append_right (all_places p) (places_of ps) 64 (64 * suc n + i) o (length-all_places p) (omega arith))

-- a change in an id's page is one in its place
pub set-places_of : {V : Type 0} (ps : List (List (Option V))) (k n i : ℕ) (q : List (Option V)) (o : Option V) → k ≡ 64 * n + i → i < 64 → all_places q ≡ set (all_places (get_or ps n [])) i o → places_of (set ps n q) ≡ set (places_of ps) k o
set-places_of ps k n i q o e h there = set-pages ps n i q o h there ∙ ap (λ m. set (places_of ps) m o) (sym e)

-- and a page that has the same places changes nothing
pub set-same_places : {V : Type 0} (ps : List (List (Option V))) (n : ℕ) (q : List (Option V)) → all_places q ≡ all_places (get_or ps n []) → places_of (set ps n q) ≡ places_of ps
set-same_places [] n q e = refl
set-same_places (p ∷ ps) zero q e = ap (λ xs. xs ++ places_of ps) e
set-same_places (p ∷ ps) (suc n) q e = ap (λ xs. all_places p ++ xs) (set-same_places ps n q e)

pub set-places_of_past : {V : Type 0} (ps : List (List (Option V))) (k : ℕ) (o : Option V) → length ps ≤ k / 64 → set (places_of ps) k o ≡ places_of ps
set-places_of_past ps k o h = let all = length-places_of ps in set-past (places_of ps) k o (omega (arith, all, h))

-- the page of an id, and its place in it
pub place-is : (k : ℕ) → k ≡ 64 * (k / 64) + k % 64
place-is k = omega arith

pub page_in : {V : Type 0} (ps : List (List (Option V))) (k : ℕ) → k < length (places_of ps) → k / 64 < length ps
page_in ps k h = let all = length-places_of ps in omega (arith, all, h)

pub place_reached : {V : Type 0} (ps : List (List (Option V))) (k : ℕ) → k / 64 < length ps → k < length (places_of ps)
place_reached ps k h = let all = length-places_of ps in omega (arith, all, h)

pub places_past : {V : Type 0} (ps : List (List (Option V))) (k : ℕ) → length ps ≤ k / 64 → length (places_of ps) ≤ k
places_past ps k h = let all = length-places_of ps in omega (arith, all, h)

places_of-push : {V : Type 0} (ps : List (List (Option V))) → places_of (ps ++ [] ∷ []) ≡ places_of ps ++ replicate 64 None
places_of-push [] = append-nil (replicate 64 None)
places_of-push (p ∷ ps) = ap (λ xs. all_places p ++ xs) (places_of-push ps) ∙ sym (append_assoc (all_places p) (places_of ps) (replicate 64 None))

-- a page without values more is no entry more
pub entries_of-push : {V : Type 0} (ps : List (List (Option V))) → entries_of (places_of (ps ++ [] ∷ [])) ≡ entries_of (places_of ps)
entries_of-push ps = ap entries_of (places_of-push ps) ∙ entries_from-padded 0 64 (places_of ps)

-- the ids with a value in the pages, as a loop gathers them
pub keys_of-page : {V : Type 0} (ps : List (List (Option V))) (n m : ℕ) (p : List (Option V)) (ids all : List ℕ) → n < length ps → p ≡ get_or ps n p → m ≡ 64 * n
    → ids ++ keys_of (entries_from m (places_of (drop n ps))) ≡ all
    → (ids ++ keys_of (entries_from m (all_places p))) ++ keys_of (entries_from (m + 64) (places_of (drop (n + 1) ps))) ≡ all
keys_of-page ps n m p ids all h e first before =
    let next : n + 1 ≡ suc n = omega arith in
    append_assoc ids (keys_of (entries_from m (all_places p))) _
    ∙ ap (λ ks. ids ++ ks)
    (sym (keys_of-append (entries_from m (all_places p)) (entries_from (m + 64) (places_of (drop (n + 1) ps))))
    ∙ (λ i. keys_of (entries_from m (all_places p) ++ entries_from (m + sym (length-all_places p) i) (places_of (drop (next i) ps))))
    ∙ ap keys_of (sym (entries_from-append m (all_places p) (places_of (drop (suc n) ps)))))
    ∙ (λ i. ids ++ keys_of (entries_from m (places_of (e i ∷ drop (suc n) ps))))
    ∙ (λ i. ids ++ keys_of (entries_from m (places_of (sym (drop-cons ps n p h) i))))
    ∙ before
