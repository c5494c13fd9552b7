-- The table of excluded assignments, and what it says of a parity.
use Rattle.std.proofs.Common.{◌≡◌, refl, sym, ap, ◌∙◌, ℕ, ◌+◌, ◌*◌, ◌%◌, ◌<◌, Bool, true, false, cond, not, ◌&&◌, ◌||◌, nat_eq, eqb-true, eq-eqb, List, [], ◌∷◌, map, length, get_or, slice_set, arith, ◌⊎◌, inl, inr, true≢false}
use Rattle.std.specs.List.{list_any}
use Rattle.std.specs.FinSet as set
use Rattle.std.specs.Ordering.{nat_cmp}
use Rattle.std.proofs.Math.Nat.{add-mul-mod_self_left, mod-eq_of_lt}
use Rattle.std.proofs.Math.ListN.{length-set}
use Rattle.std.proofs.lemmas.List.{get_or-set_other}
use Rattle.std.proofs.lemmas.Grind.{get_or-set_at}
use Rattle.std.proofs.lemmas.Bool.{or_cases, false_from_ne_true, not-true, and_parts}
use Rattle.std.proofs.Math.Bool.{and-false, or-false}
use Rattle.cx_base.specs.Literals.{Literal, differ, same_literal, literal_true, value_of, positive_of, negative_of}
use Rattle.cx_base.specs.Problem.{clause_met}
use Rattle.cx_base.proofs.Differences.{own_sign}
use Rattle.cx_semantics.specs.Chain.{has_literal, HaveSame}
use Rattle.cx_base.proofs.LiteralLaws.{are_one}
use Rattle.cx_base.specs.Parity.{odd_sum}
use Rattle.proof_rules.specs.Assignments.{AreDistinct}
use Rattle.proof_rules.specs.Exclusions.{HasPlaces, excluded, is_hit, all_excluded, is_outside}
use Rattle.proof_rules.proofs.ClauseValues.{met_by, unmet_by}

-- ---- what a clause marks

or_nothing : (a b : Bool) → ((a || false) || b) ≡ (a || b)
or_nothing true b = refl
or_nothing false b = refl

or_turned : (a b c : Bool) → (b || (a || c)) ≡ ((a || b) || c)
or_turned true true c = refl
or_turned true false c = refl
or_turned false b c = refl

get_or-marked : (place j : ℕ) (table : List Bool) → j < length table → get_or (slice_set table place true) j false ≡ (nat_eq j place || get_or table j false)
get_or-marked place j table h = go (nat_eq j place) refl
  where
    go : (b : Bool) → nat_eq j place ≡ b → get_or (slice_set table place true) j false ≡ (b || get_or table j false)
    go true e = let k : j ≡ place = eqb-true j place e in let m : place < length table = omega arith in get_or-set_at table place j true false k m
    go false e = get_or-set_other table place j true false (λ k. true≢false (sym (eq-eqb j place k) ∙ e))

length-marked : (place : ℕ) (table : List Bool) → length (slice_set table place true) ≡ length table
length-marked place table = length-set table place true

pub length-excluded : (clause : List Literal) (xs : List ℕ) (place step : ℕ) (table : List Bool) → length (excluded clause xs place step table) ≡ length table
length-excluded clause [] place step table = length-marked place table
length-excluded clause (x ∷ xs) place step table = go (has_literal clause (negative_of x)) (has_literal clause (positive_of x)) (length-excluded clause xs place (2 * step) table) (length-excluded clause xs (place + step) (2 * step))
  where
    go : (a b : Bool) → length (excluded clause xs place (2 * step) table) ≡ length table → ((t : List Bool) → length (excluded clause xs (place + step) (2 * step) t) ≡ length t)
        → length (cond b (cond a table (excluded clause xs place (2 * step) table)) (excluded clause xs (place + step) (2 * step) (cond a table (excluded clause xs place (2 * step) table)))) ≡ length table
    go true true h k = refl
    go false true h k = h
    go true false h k = k table
    go false false h k = k (excluded clause xs place (2 * step) table) ∙ h

pub get_or-excluded : (clause : List Literal) (xs : List ℕ) (place step : ℕ) (table : List Bool) (j : ℕ) → j < length table
    → get_or (excluded clause xs place step table) j false ≡ (is_hit clause xs place step j || get_or table j false)
get_or-excluded clause [] place step table j h = get_or-marked place j table h
get_or-excluded clause (x ∷ xs) place step table j h =
    go (has_literal clause (negative_of x)) (has_literal clause (positive_of x)) (get_or-excluded clause xs place (2 * step) table j h) (λ t. get_or-excluded clause xs (place + step) (2 * step) t j)
  where
    low : List Bool
    low = excluded clause xs place (2 * step) table

    one : Bool
    one = is_hit clause xs place (2 * step) j

    two : Bool
    two = is_hit clause xs (place + step) (2 * step) j

    go : (a b : Bool) → get_or (excluded clause xs place (2 * step) table) j false ≡ (is_hit clause xs place (2 * step) j || get_or table j false)
        → ((t : List Bool) → j < length t → get_or (excluded clause xs (place + step) (2 * step) t) j false ≡ (is_hit clause xs (place + step) (2 * step) j || get_or t j false))
        → get_or (cond b (cond a table (excluded clause xs place (2 * step) table)) (excluded clause xs (place + step) (2 * step) (cond a table (excluded clause xs place (2 * step) table)))) j false
        ≡ (((not a && is_hit clause xs place (2 * step) j) || (not b && is_hit clause xs (place + step) (2 * step) j)) || get_or table j false)
    go true true f g = refl
    go true false f g = g table h
    go false true f g = f ∙ sym (or_nothing (is_hit clause xs place (2 * step) j) (get_or table j false))
    go false false f g =
        let k : j < length (excluded clause xs place (2 * step) table) = omega (arith, length-excluded clause xs place (2 * step) table) in
        g (excluded clause xs place (2 * step) table) k ∙ ap (λ b. is_hit clause xs (place + step) (2 * step) j || b) f
        ∙ or_turned (is_hit clause xs place (2 * step) j) (is_hit clause xs (place + step) (2 * step) j) (get_or table j false)

-- a set of literals marks what a list of the same ones does
pub is_hit-same : (a b : List Literal) → HaveSame a b → (xs : List ℕ) (place step j : ℕ) → is_hit a xs place step j ≡ is_hit b xs place step j
is_hit-same a b h [] place step j = refl
is_hit-same a b h (x ∷ xs) place step j =
    λ i. (not (h (negative_of x) i) && is_hit-same a b h xs place (2 * step) j i) || (not (h (positive_of x) i) && is_hit-same a b h xs (place + step) (2 * step) j i)

-- ---- places of assignments

-- the place of an assignment
abbrev pub place_of : ℕ → ℕ → List Bool → ℕ
place_of place step [] = place
place_of place step (b ∷ bits) = place_of (cond b (place + step) place) (2 * step) bits

-- a value for each variable
abbrev pub ForEach : List ℕ → List Bool → Type 0
ForEach [] [] = Unit {0}
ForEach [] (b ∷ bits) = ⊥
ForEach (x ∷ xs) [] = ⊥
ForEach (x ∷ xs) (b ∷ bits) = ForEach xs bits

pub for_each-map : (f : ℕ → Bool) (xs : List ℕ) → ForEach xs (map f xs)
for_each-map f [] = tt
for_each-map f (x ∷ xs) = for_each-map f xs

abbrev Steps : ℕ → ℕ → ℕ → Type 0
Steps place step j = (m : ℕ) × (j ≡ place + step * m)

steps-low : (place step j : ℕ) → Steps place (2 * step) j → Steps place step j
steps-low place step j (m, e) = (2 * m, omega arith)

steps-high : (place step j : ℕ) → Steps (place + step) (2 * step) j → Steps place step j
steps-high place step j (m, e) = (1 + 2 * m, omega arith)

place_of-steps : (bits : List Bool) (place step : ℕ) → Steps place step (place_of place step bits)
place_of-steps [] place step = (0, omega arith)
place_of-steps (true ∷ bits) place step = steps-high place step _ (place_of-steps bits (place + step) (2 * step))
place_of-steps (false ∷ bits) place step = steps-low place step _ (place_of-steps bits place (2 * step))

pub place_of-below : (xs : List ℕ) (bits : List Bool) (place step n : ℕ) → ForEach xs bits → HasPlaces xs step n → place < step → place_of place step bits < n
place_of-below [] [] place step n e f h = omega arith
place_of-below [] (b ∷ bits) place step n e f h = absurd e
place_of-below (x ∷ xs) [] place step n e f h = absurd e
place_of-below (x ∷ xs) (true ∷ bits) place step n e f h = place_of-below xs bits (place + step) (2 * step) n e f.1 (omega arith)
place_of-below (x ∷ xs) (false ∷ bits) place step n e f h = place_of-below xs bits place (2 * step) n e f.1 (omega arith)

hit-steps : (clause : List Literal) (xs : List ℕ) (place step j : ℕ) → is_hit clause xs place step j ≡ true → Steps place step j
hit-steps clause [] place step j h = let e : j ≡ place = eqb-true j place h in (0, omega arith)
hit-steps clause (x ∷ xs) place step j h = go (or_cases _ _ h) (hit-steps clause xs place (2 * step) j) (hit-steps clause xs (place + step) (2 * step) j)
  where
    go : ((not (has_literal clause (negative_of x)) && is_hit clause xs place (2 * step) j) ≡ true) ⊎ ((not (has_literal clause (positive_of x)) && is_hit clause xs (place + step) (2 * step) j) ≡ true)
        → (is_hit clause xs place (2 * step) j ≡ true → Steps place (2 * step) j) → (is_hit clause xs (place + step) (2 * step) j ≡ true → Steps (place + step) (2 * step) j) → Steps place step j
    go (inl k) f g = steps-low place step j (f (and_parts (not (has_literal clause (negative_of x))) _ k).1)
    go (inr k) f g = steps-high place step j (g (and_parts (not (has_literal clause (positive_of x))) _ k).1)

-- the places of the two values of a variable are apart
halves_apart : (place step j : ℕ) → place < step → Steps place (2 * step) j → Steps (place + step) (2 * step) j → ⊥
halves_apart place step j h (m, e) (k, f) =
    let low : (place + (2 * step) * m) % (2 * step) ≡ place % (2 * step) = add-mul-mod_self_left place (2 * step) m in
    let high : ((place + step) + (2 * step) * k) % (2 * step) ≡ (place + step) % (2 * step) = add-mul-mod_self_left (place + step) (2 * step) k in
    let a : place % (2 * step) ≡ place = mod-eq_of_lt (omega arith) in
    let b : (place + step) % (2 * step) ≡ place + step = mod-eq_of_lt (omega arith) in
    let c : place ≡ place + step = sym a ∙ sym low ∙ ap (λ n. n % (2 * step)) (sym e ∙ f) ∙ high ∙ b in
    omega arith

-- ---- the places of a clause, by values

-- each literal of the clause is false where the variables have these values
abbrev pub falsified : List Literal → List ℕ → List Bool → Bool
falsified clause [] bits = true
falsified clause (x ∷ xs) [] = true
falsified clause (x ∷ xs) (b ∷ bits) = not (has_literal clause (record { variable = x; negative = not b })) && falsified clause xs bits

pub is_hit-place : (clause : List Literal) (xs : List ℕ) (bits : List Bool) (place step : ℕ) → ForEach xs bits → place < step → is_hit clause xs place step (place_of place step bits) ≡ falsified clause xs bits
is_hit-place clause [] [] place step e h = eq-eqb place place refl
is_hit-place clause [] (b ∷ bits) place step e h = absurd e
is_hit-place clause (x ∷ xs) [] place step e h = absurd e
is_hit-place clause (x ∷ xs) (false ∷ bits) place step e h =
    let j = place_of place (2 * step) bits in
    let apart : is_hit clause xs (place + step) (2 * step) j ≡ false = false_from_ne_true _ (λ k. halves_apart place step j h (place_of-steps bits place (2 * step)) (hit-steps clause xs (place + step) (2 * step) j k)) in
    (λ i. (not (has_literal clause (negative_of x)) && is_hit-place clause xs bits place (2 * step) e (omega arith) i) || (not (has_literal clause (positive_of x)) && apart i))
    ∙ ap (λ b. (not (has_literal clause (negative_of x)) && falsified clause xs bits) || b) (and-false (not (has_literal clause (positive_of x)))) ∙ or-false _
is_hit-place clause (x ∷ xs) (true ∷ bits) place step e h =
    let j = place_of (place + step) (2 * step) bits in
    let apart : is_hit clause xs place (2 * step) j ≡ false = false_from_ne_true _ (λ k. halves_apart place step j h (hit-steps clause xs place (2 * step) j k) (place_of-steps bits (place + step) (2 * step))) in
    (λ i. (not (has_literal clause (negative_of x)) && apart i) || (not (has_literal clause (positive_of x)) && is_hit-place clause xs bits (place + step) (2 * step) e (omega arith) i))
    ∙ ap (λ b. b || (not (has_literal clause (positive_of x)) && falsified clause xs bits)) (and-false (not (has_literal clause (negative_of x))))

-- ---- a clause under values

abbrev true_at : ℕ → Bool → Literal
true_at x b = record { variable = x; negative = not b }

pub falsified_each : (clause : List Literal) (xs : List ℕ) (f : ℕ → Bool) → falsified clause xs (map f xs) ≡ true → (x : ℕ) → list_any (λ y. nat_eq y x) xs ≡ true → has_literal clause (true_at x (f x)) ≡ false
falsified_each clause [] f h x k = absurd (true≢false (sym k))
falsified_each clause (y ∷ xs) f h x k = go (or_cases (nat_eq y x) _ k) (falsified_each clause xs f (and_parts (not (has_literal clause (true_at y (f y)))) _ h).1 x)
  where
    go : (nat_eq y x ≡ true) ⊎ (list_any (λ z. nat_eq z x) xs ≡ true) → (list_any (λ z. nat_eq z x) xs ≡ true → has_literal clause (true_at x (f x)) ≡ false) → has_literal clause (true_at x (f x)) ≡ false
    go (inl e) rest = ap (λ z. has_literal clause (true_at z (f z))) (sym (eqb-true y x e)) ∙ not-true _ (and_parts (not (has_literal clause (true_at y (f y)))) _ h).0
    go (inr e) rest = rest e

pub not_falsified : (clause : List Literal) (xs : List ℕ) (f : ℕ → Bool) → falsified clause xs (map f xs) ≡ false → (x : ℕ) × (has_literal clause (true_at x (f x)) ≡ true)
not_falsified clause [] f h = absurd (true≢false h)
not_falsified clause (x ∷ xs) f h = go (has_literal clause (true_at x (f x))) refl h (not_falsified clause xs f)
  where
    go : (b : Bool) → has_literal clause (true_at x (f x)) ≡ b → (not b && falsified clause xs (map f xs)) ≡ false → (falsified clause xs (map f xs) ≡ false → (y : ℕ) × (has_literal clause (true_at y (f y)) ≡ true))
        → (y : ℕ) × (has_literal clause (true_at y (f y)) ≡ true)
    go true e k rest = (x, e)
    go false e k rest = rest k

-- each literal's variable is one of the list
abbrev pub IsInside : List ℕ → List Literal → Type 0
IsInside xs clause = (l : Literal) → has_literal clause l ≡ true → list_any (λ y. nat_eq y l.variable) xs ≡ true

true_sign : (n b : Bool) → differ n b ≡ true → n ≡ not b
true_sign true true h = absurd (true≢false (sym h))
true_sign true false h = refl
true_sign false true h = refl
true_sign false false h = absurd (true≢false (sym h))

pub falsified-unmet : (v : List Bool) (clause : List Literal) (xs : List ℕ) → IsInside xs clause → falsified clause xs (map (value_of v) xs) ≡ true → clause_met v clause ≡ false
falsified-unmet v clause xs inside h = unmet_by v clause (λ l k. false_from_ne_true (literal_true v l) (λ t.
    let e : has_literal clause (record { variable = l.variable; negative = l.negative }) ≡ false =
    ap (λ n. has_literal clause (record { variable = l.variable; negative = n })) (true_sign l.negative (value_of v l.variable) t) ∙ falsified_each clause xs (value_of v) h l.variable (inside l k) in
    true≢false (sym k ∙ e)))

pub not_falsified-met : (v : List Bool) (clause : List Literal) (xs : List ℕ) → falsified clause xs (map (value_of v) xs) ≡ false → clause_met v clause ≡ true
not_falsified-met v clause xs h = let r = not_falsified clause xs (value_of v) h in met_by v clause (true_at r.0 (value_of v r.0)) r.1 (own_sign (value_of v r.0))

pub inside_by_set : (variables : set.FinSet nat_cmp) (xs : List ℕ) → set.from_list xs ≡ variables → (clause : List Literal) → is_outside variables clause ≡ false → IsInside xs clause
inside_by_set variables xs same [] h l k = absurd (true≢false (sym k))
inside_by_set variables xs same (m ∷ clause) h l k = go (set.contains variables m.variable) refl h (or_cases (same_literal l m) _ k) (λ e. inside_by_set variables xs same clause e l)
  where
    go : (b : Bool) → set.contains variables m.variable ≡ b → (not b || is_outside variables clause) ≡ false → (same_literal l m ≡ true) ⊎ (has_literal clause l ≡ true)
        → (is_outside variables clause ≡ false → has_literal clause l ≡ true → list_any (λ y. nat_eq y l.variable) xs ≡ true) → list_any (λ y. nat_eq y l.variable) xs ≡ true
    go true e f (inl s) rest = sym (set.contains-from_list_nat xs l.variable) ∙ ap (λ t. set.contains t l.variable) same ∙ ap (λ n. set.contains variables n.variable) (are_one l m s) ∙ e
    go true e f (inr s) rest = rest f s
    go false e f s rest = absurd (true≢false f)

-- ---- all assignments

wrong_high : (w s : Bool) → differ w (differ true s) ≡ differ (not w) s
wrong_high true true = refl
wrong_high true false = refl
wrong_high false s = refl

pub marked_by_all : (xs : List ℕ) (place step : ℕ) (wrong : Bool) (table : List Bool) → all_excluded xs place step wrong table ≡ true → (bits : List Bool) → ForEach xs bits → differ wrong (odd_sum bits) ≡ true
    → get_or table (place_of place step bits) false ≡ true
marked_by_all [] place step wrong table h [] e w = go wrong w h
  where
    go : (b : Bool) → differ b false ≡ true → (get_or table place false || not b) ≡ true → get_or table place false ≡ true
    go true f k = sym (or-false (get_or table place false)) ∙ k
    go false f k = absurd (true≢false (sym f))
marked_by_all [] place step wrong table h (b ∷ bits) e w = absurd e
marked_by_all (x ∷ xs) place step wrong table h [] e w = absurd e
marked_by_all (x ∷ xs) place step wrong table h (false ∷ bits) e w = marked_by_all xs place (2 * step) wrong table (and_parts (all_excluded xs place (2 * step) wrong table) _ h).0 bits e w
marked_by_all (x ∷ xs) place step wrong table h (true ∷ bits) e w =
    marked_by_all xs (place + step) (2 * step) (not wrong) table (and_parts (all_excluded xs place (2 * step) wrong table) _ h).1 bits e (sym (wrong_high wrong (odd_sum bits)) ∙ w)

-- an assignment of the wrong sum that is not marked
pub record Escapes (xs : List ℕ) (place step : ℕ) (wrong : Bool) (table : List Bool) : Type 0 where
  pub bits : List Bool
  pub each : ForEach xs bits
  pub wrong_sum : differ wrong (odd_sum bits) ≡ true
  pub unmarked : get_or table (place_of place step bits) false ≡ false

pub escape : (xs : List ℕ) (place step : ℕ) (wrong : Bool) (table : List Bool) → all_excluded xs place step wrong table ≡ false → Escapes xs place step wrong table
escape [] place step wrong table h = go wrong refl (get_or table place false) refl h
  where
    go : (w : Bool) → wrong ≡ w → (g : Bool) → get_or table place false ≡ g → (g || not w) ≡ false → Escapes [] place step wrong table
    go w e true f k = absurd (true≢false k)
    go true e false f k = record { bits = []; each = tt; wrong_sum = ap (λ b. differ b false) e; unmarked = f }
    go false e false f k = absurd (true≢false k)
escape (x ∷ xs) place step wrong table h = go (all_excluded xs place (2 * step) wrong table) refl h (escape xs place (2 * step) wrong table) (escape xs (place + step) (2 * step) (not wrong) table)
  where
    go : (b : Bool) → all_excluded xs place (2 * step) wrong table ≡ b → (b && all_excluded xs (place + step) (2 * step) (not wrong) table) ≡ false
        → (all_excluded xs place (2 * step) wrong table ≡ false → Escapes xs place (2 * step) wrong table)
        → (all_excluded xs (place + step) (2 * step) (not wrong) table ≡ false → Escapes xs (place + step) (2 * step) (not wrong) table)
        → Escapes (x ∷ xs) place step wrong table
    go true e k low high = let r = high k in record { bits = true ∷ r.bits; each = r.each; wrong_sum = wrong_high wrong (odd_sum r.bits) ∙ r.wrong_sum; unmarked = r.unmarked }
    go false e k low high = let r = low e in record { bits = false ∷ r.bits; each = r.each; wrong_sum = r.wrong_sum; unmarked = r.unmarked }

-- ---- values by an assignment

abbrev pub assigned : List ℕ → List Bool → ℕ → Bool
assigned [] bits y = false
assigned (x ∷ xs) [] y = false
assigned (x ∷ xs) (b ∷ bits) y = cond (nat_eq y x) b (assigned xs bits y)

assigned_later : (x : ℕ) (b : Bool) (f : ℕ → Bool) (xs : List ℕ) → list_any (λ y. nat_eq y x) xs ≡ false → map (λ y. cond (nat_eq y x) b (f y)) xs ≡ map f xs
assigned_later x b f [] h = refl
assigned_later x b f (y ∷ ys) h = go (nat_eq y x) refl h (assigned_later x b f ys)
  where
    go : (e : Bool) → nat_eq y x ≡ e → (e || list_any (λ z. nat_eq z x) ys) ≡ false → (list_any (λ z. nat_eq z x) ys ≡ false → map (λ z. cond (nat_eq z x) b (f z)) ys ≡ map f ys)
        → map (λ z. cond (nat_eq z x) b (f z)) (y ∷ ys) ≡ map f (y ∷ ys)
    go true e k rest = absurd (true≢false k)
    go false e k rest = λ i. cond (e i) b (f y) ∷ rest k i

pub map-assigned : (xs : List ℕ) (bits : List Bool) → AreDistinct xs → ForEach xs bits → map (assigned xs bits) xs ≡ bits
map-assigned [] [] d e = refl
map-assigned [] (b ∷ bits) d e = absurd e
map-assigned (x ∷ xs) [] d e = absurd e
map-assigned (x ∷ xs) (b ∷ bits) d e =
    λ i. cond (eq-eqb x x refl i) b (assigned xs bits x) ∷ (assigned_later x b (assigned xs bits) xs d.0 ∙ map-assigned xs bits d.1 e) i
