-- Drawing one thing more: a value, a parity, a clause.
use Rattle.std.proofs.Common.{◌≡◌, refl, sym, ap, ◌∙◌, ℕ, ◌+◌, ◌*◌, ◌<◌, ◌≤◌, ◌%◌, ◌==◌, Bool, true, false, cond, not, ◌-◌, List, [], ◌∷◌, ◌++◌, map, get_or, arith}
use Rattle.std.proofs.lemmas.List.{map-append}
use Rattle.std.proofs.lemmas.List.FromFn.{map-range_with_len_more}
use Rattle.rand_core.specs.Stream.{Stream, next_u64}
use Rattle.cx_base.specs.Literals.{Literal, negate, positive_of}
use Rattle.cx_base.specs.Problem.{clause_met, parity_met}
use Rattle.inst_gen.specs.Words.{words, after_words}
use Rattle.inst_gen.specs.Planting.{values_of, planted_parity, parities_of, literal_of, planted_clause, clauses_of}
use Rattle.inst_gen.specs.Triples.{literals_in}
use Rattle.inst_gen.specs.declared.triple.Triple.{Triple}
use Rattle.inst_gen.proofs.WordLaws.{word_at, words-more, no_words, after_words-add, drawn_one}

pub no_values : (s : Stream) → [] ≡ values_of (words 0 s)
unfolding values_of
no_values s = ap (map (λ w. w % 2 == 1)) (sym (no_words s))

pub values_step : (vs : List Bool) (k w : ℕ) (s before after : Stream) → vs ≡ values_of (words k s) → before ≡ after_words k s → (w, after) ≡ next_u64 before
    → (vs ++ (w % 2 == 1) ∷ []) ≡ values_of (words (k + 1) s)
unfolding values_of
values_step vs k w s before after e b h =
    let w_is : w ≡ (next_u64 (after_words k s)).0 = (drawn_one k w s before after b h).0 in
    (λ i. e i ++ (w_is i % 2 == 1) ∷ [])
    ∙ sym (map-append (λ x. x % 2 == 1) (words k s) ((next_u64 (after_words k s)).0 ∷ []))
    ∙ ap (map (λ x. x % 2 == 1)) (sym (words-more k s))

pub no_parities : (values : List Bool) (ws : List ℕ) → [] ≡ parities_of values 0 ws
unfolding parities_of
no_parities values ws = refl

pub parities_more : (values : List Bool) (k : ℕ) (ws : List ℕ)
    → parities_of values (k + 1) ws ≡ parities_of values k ws ++ planted_parity values (4 * k + 4) (get_or ws (2 * k) 0) (get_or ws (2 * k + 1) 0) ∷ []
unfolding parities_of
parities_more values k ws = map-range_with_len_more (λ k. planted_parity values (4 * k + 4) (get_or ws (2 * k) 0) (get_or ws (2 * k + 1) 0)) 0 k k (omega arith)

pub parities_step : (values : List Bool) (ts : List Triple) (t : Triple) (count k first second : ℕ) (s before between after : Stream) → k < count
    → map literals_in ts ≡ parities_of values k (words (2 * count) s) → before ≡ after_words (2 * k) s
    → (first, between) ≡ next_u64 before → (second, after) ≡ next_u64 between
    → literals_in t ≡ planted_parity values (4 * k + 4) first second
    → (map literals_in (ts ++ t ∷ []) ≡ parities_of values (k + 1) (words (2 * count) s)) × (after ≡ after_words (2 * (k + 1)) s)
parities_step values ts t count k first second s before between after lt e b h g is =
    let one = drawn_one (2 * k) first s before between b h in
    let two = drawn_one (2 * k + 1) second s between after one.1 g in
    let first_is : first ≡ get_or (words (2 * count) s) (2 * k) 0 = one.0 ∙ sym (word_at (2 * count) (2 * k) s (omega arith)) in
    let second_is : second ≡ get_or (words (2 * count) s) (2 * k + 1) 0 = two.0 ∙ sym (word_at (2 * count) (2 * k + 1) s (omega arith)) in
    let place : 2 * k + 1 + 1 ≡ 2 * (k + 1) = omega arith in (
      map-append literals_in ts (t ∷ [])
          ∙ (λ i. e i ++ is i ∷ [])
          ∙ (λ i. parities_of values k (words (2 * count) s) ++ planted_parity values (4 * k + 4) (first_is i) (second_is i) ∷ [])
          ∙ sym (parities_more values k (words (2 * count) s)),
      two.1 ∙ ap (λ n. after_words n s) place,
    )

pub no_clauses : (values : List Bool) (n : ℕ) (ws : List ℕ) → [] ≡ clauses_of values n 0 ws
unfolding clauses_of
no_clauses values n ws = refl

pub clauses_more : (values : List Bool) (n k : ℕ) (ws : List ℕ)
    → clauses_of values n (k + 1) ws ≡ clauses_of values n k ws ++ planted_clause values (literal_of n (get_or ws (3 * k) 0)) (literal_of n (get_or ws (3 * k + 1) 0)) (literal_of n (get_or ws (3 * k + 2) 0)) ∷ []
unfolding clauses_of
clauses_more values n k ws = map-range_with_len_more (λ k. planted_clause values (literal_of n (get_or ws (3 * k) 0)) (literal_of n (get_or ws (3 * k + 1) 0)) (literal_of n (get_or ws (3 * k + 2) 0))) 0 k k (omega arith)

-- the words that come next, by their places
next_at : (m k j : ℕ) (s before : Stream) → before ≡ after_words k s → k + j < m → (next_u64 (after_words j before)).0 ≡ get_or (words m s) (k + j) 0
next_at m k j s before b lt = ap (λ x. (next_u64 (after_words j x)).0) b ∙ ap (λ x. (next_u64 x).0) (after_words-add k j s) ∙ sym (word_at m (k + j) s lt)

pub clauses_step : (values : List Bool) (ts : List Triple) (t drawn : Triple) (n count k : ℕ) (s before after : Stream) → k < count
    → map literals_in ts ≡ clauses_of values n k (words (3 * count) s) → before ≡ after_words (3 * k) s
    → drawn ≡ record { first = literal_of n (next_u64 before).0; second = literal_of n (next_u64 (after_words 1 before)).0; third = literal_of n (next_u64 (after_words 2 before)).0 }
    → after ≡ after_words 3 before
    → literals_in t ≡ planted_clause values drawn.first drawn.second drawn.third
    → (map literals_in (ts ++ t ∷ []) ≡ clauses_of values n (k + 1) (words (3 * count) s)) × (after ≡ after_words (3 * (k + 1)) s)
clauses_step values ts t drawn n count k s before after lt e b d a is =
    let ws = words (3 * count) s in
    let first_is : (next_u64 before).0 ≡ get_or ws (3 * k) 0 = ap (λ x. (next_u64 x).0) b ∙ sym (word_at (3 * count) (3 * k) s (omega arith)) in
    let second_is = next_at (3 * count) (3 * k) 1 s before b (omega arith) in
    let third_is = next_at (3 * count) (3 * k) 2 s before b (omega arith) in
    let place : 3 * k + 3 ≡ 3 * (k + 1) = omega arith in (
      map-append literals_in ts (t ∷ [])
          ∙ (λ i. e i ++ is i ∷ [])
          ∙ (λ i. clauses_of values n k ws ++ planted_clause values (d i).first (d i).second (d i).third ∷ [])
          ∙ (λ i. clauses_of values n k ws ++ planted_clause values (literal_of n (first_is i)) (literal_of n (second_is i)) (literal_of n (third_is i)) ∷ [])
          ∙ sym (clauses_more values n k ws),
      a ∙ ap (after_words 3) b ∙ after_words-add (3 * k) 3 s ∙ ap (λ m. after_words m s) place,
    )

pub within_drawn : (n w : ℕ) → 1 ≤ n → (1 ≤ (literal_of n w).variable) × ((literal_of n w).variable ≤ n)
unfolding literal_of
within_drawn n w h = (omega arith, omega arith)

pub clause_kept : (values : List Bool) (t : Triple) → clause_met values (literals_in t) ≡ true → literals_in t ≡ planted_clause values t.first t.second t.third
unfolding planted_clause
clause_kept values t h = sym (ap (λ b. cond b (literals_in t) (negate t.first ∷ t.second ∷ t.third ∷ [])) h)

pub clause_changed : (values : List Bool) (t : Triple) → clause_met values (literals_in t) ≡ false → negate t.first ∷ t.second ∷ t.third ∷ [] ≡ planted_clause values t.first t.second t.third
unfolding planted_clause
clause_changed values t h = sym (ap (λ b. cond b (literals_in t) (negate t.first ∷ t.second ∷ t.third ∷ [])) h)

pub parity_made : (values : List Bool) (i first second : ℕ) (a b d made : Literal) (odd : Bool) → a ≡ positive_of i → b ≡ positive_of (1 + first % (i - 1)) → d ≡ positive_of (1 + second % (i - 1))
    → odd ≡ parity_met values (a ∷ b ∷ d ∷ []) → made ≡ record { variable = i; negative = not odd } → made ∷ b ∷ d ∷ [] ≡ planted_parity values i first second
unfolding planted_parity
parity_made values i first second a b d made odd ea eb ed eo em =
    let sign : odd ≡ parity_met values (positive_of i ∷ positive_of (1 + first % (i - 1)) ∷ positive_of (1 + second % (i - 1)) ∷ []) = eo ∙ (λ k. parity_met values (ea k ∷ eb k ∷ ed k ∷ [])) in
    let whole : made ≡ record { variable = i; negative = not (parity_met values (positive_of i ∷ positive_of (1 + first % (i - 1)) ∷ positive_of (1 + second % (i - 1)) ∷ [])) } = em ∙ (λ k. record { variable = i; negative = not (sign k) }) in
    λ k. whole k ∷ eb k ∷ ed k ∷ []
