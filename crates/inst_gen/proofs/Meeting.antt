-- What meets planted instances.
use Rattle.std.proofs.Common.{◌≡◌, refl, sym, ap, ◌∙◌, subst, ℕ, zero, suc, ◌+◌, ◌-◌, ◌*◌, ◌/◌, ◌%◌, Bool, true, false, cond, not, ◌&&◌, ◌||◌, List, [], ◌∷◌, ◌++◌, length, map, flat_map, get_or, arith, true≢false, ◌==◌}
use Rattle.std.specs.List.{range_with_len, list_all}
use Rattle.std.proofs.lemmas.Bool.{and_parts}
use Rattle.std.proofs.lemmas.List.{length-map}
use Rattle.std.proofs.lemmas.List.Folds.{list_all-append, list_all-map}
use Rattle.cx_base.specs.Literals.{Literal, negate, differ, literal_true, value_of, positive_of, negative_of}
use Rattle.cx_base.specs.Problem.{Meets, Unmet, clause_met, parity_met, constraint_met}
use Rattle.cx_base.specs.declared.constraint.Constraint.TheVariants.{Clause, Parity}
use Rattle.cx_base.proofs.Odd.{parity_met-cons, is_odd, is_odd-suc}
use Rattle.inst_gen.specs.declared.kind.InstanceKind.TheVariants.{Even, Odd}
use Rattle.inst_gen.specs.Words.{words, stream}
use Rattle.inst_gen.specs.Planting.{values_of, planted_parity, parities_of, literal_of, planted_clause, clauses_of, met_part, unmet_part, made_of, planted_formula, planted_values, words_of, value_words, parity_words, clause_words}
use Rattle.inst_gen.proofs.WordLaws.{take-words, length-words}

pass_below : {X : Type 0} (p : X → Bool) (f : ℕ → X) (a m : ℕ) → ((k : ℕ) → p (f k) ≡ true) → list_all p (map f (range_with_len a m)) ≡ true
pass_below p f a zero h = refl
pass_below p f a (suc m) h = ap (λ b. b && list_all p (map f (range_with_len (a + 1) m))) (h a) ∙ pass_below p f (a + 1) m h

-- ---- one constraint

turned : (v rest : Bool) → differ (differ (not (differ v rest)) v) rest ≡ true
turned true true = refl
turned true false = refl
turned false true = refl
turned false false = refl

parity_is_met : (values : List Bool) (i first second : ℕ) → parity_met values (planted_parity values i first second) ≡ true
unfolding planted_parity
parity_is_met values i first second =
    let below : List Literal = positive_of (1 + first % (i - 1)) ∷ positive_of (1 + second % (i - 1)) ∷ [] in
    let sign = parity_met-cons values (positive_of i) below in
    parity_met-cons values (record { variable = i; negative = not (parity_met values (positive_of i ∷ below)) }) below
    ∙ ap (λ b. differ (differ (not b) (value_of values i)) (parity_met values below)) sign
    ∙ turned (value_of values i) (parity_met values below)

or_left : (a b : Bool) → (a || b) ≡ false → a ≡ false
or_left true b h = h
or_left false b h = refl

negated : (n v : Bool) → differ n v ≡ false → differ (not n) v ≡ true
negated true true h = refl
negated true false h = absurd (true≢false h)
negated false true h = absurd (true≢false h)
negated false false h = refl

clause_is_met : (values : List Bool) (a b c : Literal) → clause_met values (planted_clause values a b c) ≡ true
unfolding planted_clause
clause_is_met values a b c = elim (clause_met values (a ∷ b ∷ c ∷ [])) as (λ t. clause_met values (a ∷ b ∷ c ∷ []) ≡ t → clause_met values (cond t (a ∷ b ∷ c ∷ []) (negate a ∷ b ∷ c ∷ [])) ≡ true) [
  | true ↦ λ e. e
  | false ↦ λ e. ap (λ x. x || clause_met values (b ∷ c ∷ [])) (negated a.negative (value_of values a.variable) (or_left _ _ e))
] refl

-- ---- an instance that is met

parities_met : (values : List Bool) (count : ℕ) (ws : List ℕ) → list_all (parity_met values) (parities_of values count ws) ≡ true
unfolding parities_of
parities_met values count ws = pass_below (parity_met values) (λ k. planted_parity values (4 * k + 4) (get_or ws (2 * k) 0) (get_or ws (2 * k + 1) 0)) 0 count
    (λ k. parity_is_met values (4 * k + 4) (get_or ws (2 * k) 0) (get_or ws (2 * k + 1) 0))

clauses_met : (values : List Bool) (n count : ℕ) (ws : List ℕ) → list_all (clause_met values) (clauses_of values n count ws) ≡ true
unfolding clauses_of
clauses_met values n count ws = pass_below (clause_met values) (λ k. planted_clause values (literal_of n (get_or ws (3 * k) 0)) (literal_of n (get_or ws (3 * k + 1) 0)) (literal_of n (get_or ws (3 * k + 2) 0))) 0 count
    (λ k. clause_is_met values (literal_of n (get_or ws (3 * k) 0)) (literal_of n (get_or ws (3 * k + 1) 0)) (literal_of n (get_or ws (3 * k + 2) 0)))

met_part_is : (values : List Bool) (ps cs : List (List Literal)) → list_all (constraint_met values) (met_part ps cs) ≡ (list_all (parity_met values) ps && list_all (clause_met values) cs)
met_part_is values ps cs =
    list_all-append (constraint_met values) (map Parity ps) (map Clause cs)
    ∙ (λ i. list_all-map (constraint_met values) Parity ps i && list_all-map (constraint_met values) Clause cs i)

length-values : (size seed : ℕ) → length (planted_values size seed) ≡ size
unfolding values_of
length-values size seed =
    let taken : value_words size (words_of size seed) ≡ words size (stream seed) = take-words size (2 * (size / 4) + 3 * size) (stream seed) in
    length-map (value_words size (words_of size seed)) (λ w. w % 2 == 1) ∙ ap length taken ∙ length-words size (stream seed)

pub even_is_met : (size seed : ℕ) → Meets (planted_formula Even size seed) (planted_values size seed)
unfolding made_of
even_is_met size seed =
    let ws = words_of size seed in
    let values = planted_values size seed in
    record {
      one_each = length-values size seed;
      all_met =
          met_part_is values (parities_of values (size / 4) (parity_words size ws)) (clauses_of values size size (clause_words size ws))
          ∙ (λ i. parities_met values (size / 4) (parity_words size ws) i && clauses_met values size size (clause_words size ws) i);
    }

-- ---- an instance that is not

parity_met-append : (values : List Bool) (xs ys : List Literal) → parity_met values (xs ++ ys) ≡ differ (parity_met values xs) (parity_met values ys)
parity_met-append values [] ys = refl
parity_met-append values (x ∷ xs) ys =
    parity_met-cons values x (xs ++ ys)
    ∙ ap (differ (literal_true values x)) (parity_met-append values xs ys)
    ∙ grouped (literal_true values x) (parity_met values xs) (parity_met values ys)
    ∙ sym (ap (λ b. differ b (parity_met values ys)) (parity_met-cons values x xs))
  where
    grouped : (a b c : Bool) → differ a (differ b c) ≡ differ (differ a b) c
    grouped true true true = refl
    grouped true true false = refl
    grouped true false c = refl
    grouped false b c = refl

sum_of_met : (values : List Bool) (ps : List (List Literal)) → list_all (parity_met values) ps ≡ true → parity_met values (flat_map (λ x. x) ps) ≡ is_odd (length ps)
sum_of_met values [] h = refl
sum_of_met values (p ∷ ps) h =
    let parts = and_parts (parity_met values p) (list_all (parity_met values) ps) h in
    parity_met-append values p (flat_map (λ x. x) ps)
    ∙ (λ i. differ (parts.0 i) (sum_of_met values ps parts.1 i))
    ∙ sym (is_odd-suc (length ps))
    ∙ (let e : 1 + length ps ≡ suc (length ps) = omega arith in ap is_odd e)

no_four : (v odd x y sum : Bool) → sum ≡ odd → differ sum (differ (differ odd v) false) ≡ true
    → (not v || (x || (y || false))) ≡ true → (not v || (x || (not y || false))) ≡ true
    → (not v || (not x || (y || false))) ≡ true → (not v || (not x || (not y || false))) ≡ true → ⊥
no_four v odd x y sum e s a b c d =
    let high : v ≡ true = made_true odd v (subst (λ (z : Bool). differ z (differ (differ odd v) false) ≡ true) e s) in
    at_true x y (subst (λ (z : Bool). (not z || (x || (y || false))) ≡ true) high a) (subst (λ (z : Bool). (not z || (x || (not y || false))) ≡ true) high b)
    (subst (λ (z : Bool). (not z || (not x || (y || false))) ≡ true) high c) (subst (λ (z : Bool). (not z || (not x || (not y || false))) ≡ true) high d)
  where
    made_true : (odd v : Bool) → differ odd (differ (differ odd v) false) ≡ true → v ≡ true
    made_true true true h = refl
    made_true true false h = absurd (true≢false (sym h))
    made_true false true h = refl
    made_true false false h = absurd (true≢false (sym h))

    at_true : (x y : Bool) → (x || (y || false)) ≡ true → (x || (not y || false)) ≡ true → (not x || (y || false)) ≡ true → (not x || (not y || false)) ≡ true → ⊥
    at_true true true a b c d = true≢false (sym d)
    at_true true false a b c d = true≢false (sym c)
    at_true false true a b c d = true≢false (sym b)
    at_true false false a b c d = true≢false (sym a)

not_both : (values : List Bool) (further : ℕ) (ps cs : List (List Literal)) → list_all (constraint_met values) (met_part ps cs ++ unmet_part further ps) ≡ true → ⊥
not_both values further ps cs h =
    let all = and_parts (list_all (constraint_met values) (met_part ps cs)) (list_all (constraint_met values) (unmet_part further ps)) (sym (list_all-append (constraint_met values) (met_part ps cs) (unmet_part further ps)) ∙ h) in
    let parities = and_parts (list_all (parity_met values) ps) (list_all (clause_met values) cs) (sym (met_part_is values ps cs) ∙ all.0) in
    let odd = is_odd (length ps) in
    let last : Literal = record { variable = further; negative = odd } in
    let sum = parity_met values (flat_map (λ x. x) ps) in
    let whole = parity_met values (flat_map (λ x. x) ps ++ last ∷ []) in
    let met = clause_met values in
    let a = negative_of further ∷ positive_of 1 ∷ positive_of 2 ∷ [] in
    let b = negative_of further ∷ positive_of 1 ∷ negative_of 2 ∷ [] in
    let d = negative_of further ∷ negative_of 1 ∷ positive_of 2 ∷ [] in
    let e = negative_of further ∷ negative_of 1 ∷ negative_of 2 ∷ [] in
    let first = and_parts whole (met a && (met b && (met d && (met e && true)))) all.1 in
    let second = and_parts (met a) (met b && (met d && (met e && true))) first.1 in
    let third = and_parts (met b) (met d && (met e && true)) second.1 in
    let fourth = and_parts (met d) (met e && true) third.1 in
    let fifth = and_parts (met e) true fourth.1 in
    no_four (value_of values further) odd (value_of values 1) (value_of values 2) sum (sum_of_met values ps parities.0)
    (sym (parity_met-append values (flat_map (λ x. x) ps) (last ∷ []) ∙ ap (differ sum) (parity_met-cons values last [])) ∙ first.0)
    second.0 third.0 fourth.0 fifth.0

pub odd_is_unmet : (size seed : ℕ) → Unmet (planted_formula Odd size seed)
unfolding made_of
odd_is_unmet size seed values h =
    let ws = words_of size seed in
    let planted = planted_values size seed in
    let ps = parities_of planted (size / 4) (parity_words size ws) in
    let cs = clauses_of planted size size (clause_words size ws) in
    not_both values (size + 1) ps cs h.all_met
