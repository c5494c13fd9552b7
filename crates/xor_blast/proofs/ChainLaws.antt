-- Values meet the pieces of a parity just where they have its sum, and each new variable has the value of those before it.
use Rattle.std.proofs.Common.{◌≡◌, refl, sym, ap, ◌∙◌, ℕ, suc, ◌+◌, Bool, true, false, not, ◌&&◌, List, [], ◌∷◌, map, length, nat_lt, if◌then◌else◌}
use Rattle.std.specs.List.{list_all}
use Rattle.cx_base.specs.Literals.{differ, value_of}
use Rattle.cx_base.specs.Parity.{odd_sum}
use Rattle.cx_base.specs.Problem.{clause_met}
use Rattle.xor_blast.specs.Pieces.{Piece, pieces_from, pieces, clauses_of_piece, clauses_of_pieces}
use Rattle.xor_blast.proofs.PieceLaws.{all_of_append, piece_met}

-- ---- the values of the new variables

-- the values of the new variables, where b is the value of the first variable that is left, and bits are those of the others
abbrev pub new_values_from : Bool → List Bool → List Bool
new_values_from b [] = []
new_values_from b (c ∷ []) = []
new_values_from b (c ∷ d ∷ bits) = if nat_lt 1 (length bits) then differ b (differ c d) ∷ new_values_from (differ b (differ c d)) bits else []

abbrev pub new_values : List Bool → List Bool
new_values [] = []
new_values (b ∷ bits) = new_values_from b bits

-- the variables after n have these values
abbrev pub agree : List Bool → ℕ → List Bool → Bool
agree values n [] = true
agree values n (b ∷ bits) = not (differ (value_of values (n + 1)) b) && agree values (n + 1) bits

-- the values have this sum
abbrev pub sum_is : List Bool → Bool → Bool
sum_is bits right = not (differ (odd_sum bits) right)

-- ---- one piece more

one_step : (a b d e s r : Bool) (met : Bool → Bool)
    → (not (differ (differ a (differ b (differ d (differ e false)))) false) && (met e && not (differ (differ e s) r)))
    ≡ ((not (differ e (differ a (differ b d))) && met (differ a (differ b d))) && not (differ (differ a (differ b (differ d s))) r))
one_step true true true true true r met = refl
one_step true true true true false r met = refl
one_step true true true false true r met = refl
one_step true true true false false r met = refl
one_step true true false true true r met = refl
one_step true true false true false r met = refl
one_step true true false false true r met = refl
one_step true true false false false r met = refl
one_step true false true true true r met = refl
one_step true false true true false r met = refl
one_step true false true false true r met = refl
one_step true false true false false r met = refl
one_step true false false true true r met = refl
one_step true false false true false r met = refl
one_step true false false false true r met = refl
one_step true false false false false r met = refl
one_step false true true true true r met = refl
one_step false true true true false r met = refl
one_step false true true false true r met = refl
one_step false true true false false r met = refl
one_step false true false true true r met = refl
one_step false true false true false r met = refl
one_step false true false false true r met = refl
one_step false true false false false r met = refl
one_step false false true true true r met = refl
one_step false false true true false r met = refl
one_step false false true false true r met = refl
one_step false false true false false r met = refl
one_step false false false true true r met = refl
one_step false false false true false r met = refl
one_step false false false false true r met = refl
one_step false false false false false r met = refl

length-mapped : {X Y : Type 0} (f : X → Y) (xs : List X) → length (map f xs) ≡ length xs
length-mapped f [] = refl
length-mapped f (x ∷ xs) = ap suc (length-mapped f xs)

abbrev all_met : List Bool → List Piece → Bool
all_met values ps = list_all (clause_met values) (clauses_of_pieces ps)

piece_more : (values : List Bool) (p : Piece) (ps : List Piece) → all_met values (p ∷ ps) ≡ (not (differ (odd_sum (map (value_of values) p.variables)) p.right_side) && all_met values ps)
piece_more values p ps = all_of_append (clause_met values) (clauses_of_piece p) (clauses_of_pieces ps) ∙ ap (λ b. b && all_met values ps) (piece_met values p)

last_piece : (values : List Bool) (p : Piece) → all_met values (p ∷ []) ≡ (true && not (differ (odd_sum (map (value_of values) p.variables)) p.right_side))
last_piece values p = piece_more values p [] ∙ and_true _
  where
    and_true : (b : Bool) → (b && true) ≡ b
    and_true true = refl
    and_true false = refl

pub pieces_from_met : (values : List Bool) (n x : ℕ) (xs : List ℕ) (right : Bool)
    → all_met values (pieces_from n x xs right) ≡ (agree values n (new_values_from (value_of values x) (map (value_of values) xs)) && sum_is (map (value_of values) (x ∷ xs)) right)
pieces_from_met values n x [] right = last_piece values (record { variables = x ∷ []; right_side = right })
pieces_from_met values n x (y ∷ []) right = last_piece values (record { variables = x ∷ y ∷ []; right_side = right })
pieces_from_met values n x (y ∷ z ∷ rest) right =
    cases (nat_lt 1 (length rest)) (pieces_from_met values (n + 1) (n + 1) rest right)
    ∙ ap (λ k. agree values n (if nat_lt 1 k then next ∷ new_values_from next bits else []) && sum_is (value x ∷ value y ∷ value z ∷ bits) right) (sym (length-mapped value rest))
  where
    value : ℕ → Bool
    value v = value_of values v

    bits : List Bool
    bits = map value rest

    next : Bool
    next = differ (value x) (differ (value y) (value z))

    cases : (more : Bool)
        → all_met values (pieces_from (n + 1) (n + 1) rest right) ≡ (agree values (n + 1) (new_values_from (value (n + 1)) bits) && sum_is (value (n + 1) ∷ bits) right)
        → all_met values (if more then record { variables = x ∷ y ∷ z ∷ (n + 1) ∷ []; right_side = false } ∷ pieces_from (n + 1) (n + 1) rest right else record { variables = x ∷ y ∷ z ∷ rest; right_side = right } ∷ [])
        ≡ (agree values n (if more then next ∷ new_values_from next bits else []) && sum_is (value x ∷ value y ∷ value z ∷ bits) right)
    cases true e =
        piece_more values (record { variables = x ∷ y ∷ z ∷ (n + 1) ∷ []; right_side = false }) (pieces_from (n + 1) (n + 1) rest right)
        ∙ ap (λ b. not (differ (odd_sum (value x ∷ value y ∷ value z ∷ value (n + 1) ∷ [])) false) && b) e
        ∙ one_step (value x) (value y) (value z) (value (n + 1)) (odd_sum bits) right (λ b. agree values (n + 1) (new_values_from b bits))
    cases false e = last_piece values (record { variables = x ∷ y ∷ z ∷ rest; right_side = right })

pub pieces_met : (values : List Bool) (n : ℕ) (xs : List ℕ) (right : Bool)
    → list_all (clause_met values) (clauses_of_pieces (pieces n xs right)) ≡ (agree values n (new_values (map (value_of values) xs)) && sum_is (map (value_of values) xs) right)
pieces_met values n [] right = last_piece values (record { variables = []; right_side = right })
pieces_met values n (x ∷ xs) right = pieces_from_met values n x xs right

-- ---- how many there are

pub count_from : (n x : ℕ) (xs : List ℕ) (right : Bool) (b : Bool) (f : ℕ → Bool) → length (pieces_from n x xs right) ≡ suc (length (new_values_from b (map f xs)))
count_from n x [] right b f = refl
count_from n x (y ∷ []) right b f = refl
count_from n x (y ∷ z ∷ rest) right b f =
    let next : Bool = differ b (differ (f y) (f z)) in
    cases (nat_lt 1 (length rest)) next (count_from (n + 1) (n + 1) rest right next f)
    ∙ ap (λ k. suc (length (if nat_lt 1 k then next ∷ new_values_from next (map f rest) else []))) (sym (length-mapped f rest))
  where
    cases : (more : Bool) (next : Bool) → length (pieces_from (n + 1) (n + 1) rest right) ≡ suc (length (new_values_from next (map f rest)))
        → length (if more then record { variables = x ∷ y ∷ z ∷ (n + 1) ∷ []; right_side = false } ∷ pieces_from (n + 1) (n + 1) rest right else record { variables = x ∷ y ∷ z ∷ rest; right_side = right } ∷ [])
        ≡ suc (length (if more then next ∷ new_values_from next (map f rest) else []))
    cases true next e = ap suc e
    cases false next e = refl

pub count_of : (n : ℕ) (xs : List ℕ) (right : Bool) (f : ℕ → Bool) → length (pieces n xs right) ≡ suc (length (new_values (map f xs)))
count_of n [] right f = refl
count_of n (x ∷ xs) right f = count_from n x xs right (f x) f
