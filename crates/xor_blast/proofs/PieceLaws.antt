-- Values meet the clauses of a piece just where they have the right sum.
use Rattle.std.proofs.Common.{◌≡◌, refl, sym, ap, ◌∙◌, ℕ, Bool, true, false, not, cond, ◌&&◌, ◌||◌, List, [], ◌∷◌, ◌++◌, map, filter, length}
use Rattle.std.specs.List.{list_all}
use Rattle.cx_base.specs.Literals.{differ, value_of}
use Rattle.cx_base.specs.Parity.{odd_sum}
use Rattle.cx_base.specs.Problem.{clause_met}
use Rattle.xor_blast.specs.Pieces.{assignments, falsified, is_wrong, Piece, clauses_of_piece}

pub all_of_append : {X : Type 0} (p : X → Bool) (xs ys : List X) → list_all p (xs ++ ys) ≡ (list_all p xs && list_all p ys)
all_of_append p [] ys = refl
all_of_append p (x ∷ xs) ys = ap (λ b. p x && b) (all_of_append p xs ys) ∙ sym (and_is_associative (p x) (list_all p xs) (list_all p ys))
  where
    and_is_associative : (a b c : Bool) → ((a && b) && c) ≡ (a && (b && c))
    and_is_associative true b c = refl
    and_is_associative false b c = refl

pub all_of_map : {X Y : Type 0} (p : Y → Bool) (f : X → Y) (xs : List X) → list_all p (map f xs) ≡ list_all (λ x. p (f x)) xs
all_of_map p f [] = refl
all_of_map p f (x ∷ xs) = ap (λ b. p (f x) && b) (all_of_map p f xs)

-- of those that pass a test, all pass another
all_of_filter : {X : Type 0} (p t : X → Bool) (xs : List X) → list_all p (filter t xs) ≡ list_all (λ x. not (t x) || p x) xs
all_of_filter p t [] = refl
all_of_filter p t (x ∷ xs) = cases (t x) (list_all p (filter t xs)) (all_of_filter p t xs)
  where
    cases : (b : Bool) (r : Bool) → list_all p (filter t xs) ≡ list_all (λ y. not (t y) || p y) xs → list_all p (cond b (x ∷ filter t xs) (filter t xs)) ≡ ((not b || p x) && list_all (λ y. not (t y) || p y) xs)
    cases true r e = ap (λ c. p x && c) e
    cases false r e = e

all_or_true : {X : Type 0} (p : X → Bool) (xs : List X) → list_all (λ x. p x || true) xs ≡ true
all_or_true p [] = refl
all_or_true p (x ∷ xs) = (λ i. true_behind (p x) i && all_or_true p xs i)
  where
    true_behind : (b : Bool) → (b || true) ≡ true
    true_behind true = refl
    true_behind false = refl

-- whether all clauses of the assignments of the wrong sum are met
abbrev wrong_are_met : List Bool → List ℕ → Bool → List (List Bool) → Bool
wrong_are_met values xs right list = list_all (λ bits. not (is_wrong right bits) || clause_met values (falsified xs bits)) list

differ_moves : (s right : Bool) → differ (not s) right ≡ differ s (not right)
differ_moves true true = refl
differ_moves true false = refl
differ_moves false true = refl
differ_moves false false = refl

and_true : (b : Bool) → (b && true) ≡ b
and_true true = refl
and_true false = refl

met_by_sum : (values : List Bool) (xs : List ℕ) (right : Bool) → wrong_are_met values xs right (assignments (length xs)) ≡ not (differ (odd_sum (map (value_of values) xs)) right)
met_by_sum values [] true = refl
met_by_sum values [] false = refl
met_by_sum values (x ∷ xs) right =
    let below = assignments (length xs) in
    let test : List Bool → Bool = λ bits. not (is_wrong right bits) || clause_met values (falsified (x ∷ xs) bits) in
    all_of_append test (map (λ bits. false ∷ bits) below) (map (λ bits. true ∷ bits) below)
    ∙ (λ i. all_of_map test (λ bits. false ∷ bits) below i && all_of_map test (λ bits. true ∷ bits) below i)
    ∙ by_value (value_of values x) (λ r. met_by_sum values xs r)
  where
    by_value : (b : Bool) → ((r : Bool) → wrong_are_met values xs r (assignments (length xs)) ≡ not (differ (odd_sum (map (value_of values) xs)) r))
        → (list_all (λ bits. not (is_wrong right bits) || (b || clause_met values (falsified xs bits))) (assignments (length xs))
        && list_all (λ bits. not (differ (not (odd_sum bits)) right) || (not b || clause_met values (falsified xs bits))) (assignments (length xs)))
        ≡ not (differ (differ b (odd_sum (map (value_of values) xs))) right)
    by_value true behind =
        (λ i. all_or_true (λ bits. not (is_wrong right bits)) (assignments (length xs)) i
        && list_all (λ bits. not (differ_moves (odd_sum bits) right i) || clause_met values (falsified xs bits)) (assignments (length xs)))
        ∙ behind (not right)
        ∙ ap not (sym (differ_moves (odd_sum (map (value_of values) xs)) right))
    by_value false behind =
        (λ i. behind right i && all_or_true (λ bits. not (differ (not (odd_sum bits)) right)) (assignments (length xs)) i)
        ∙ and_true _

pub piece_met : (values : List Bool) (p : Piece) → list_all (clause_met values) (clauses_of_piece p) ≡ not (differ (odd_sum (map (value_of values) p.variables)) p.right_side)
piece_met values p =
    all_of_map (clause_met values) (falsified p.variables) (filter (is_wrong p.right_side) (assignments (length p.variables)))
    ∙ all_of_filter (λ bits. clause_met values (falsified p.variables bits)) (is_wrong p.right_side) (assignments (length p.variables))
    ∙ met_by_sum values p.variables p.right_side
