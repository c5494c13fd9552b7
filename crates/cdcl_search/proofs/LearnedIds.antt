-- Ids among others, and how many learned clauses an arena has.
use Rattle.std.proofs.Common.{◌≡◌, ◌≢◌, refl, sym, ◌∙◌, ℕ, suc, ◌+◌, ◌≤◌, Bool, true, false, not, cond, ◌||◌, nat_eq, List, [], ◌∷◌, length, filter, get_or, Option, Some, None, is_some, arith, true≢false}
use Rattle.std.proofs.lemmas.Bool.{eq-eqb, or_left, or_right}
use Rattle.conflict_learn.proofs.ChainOfResolutions.{by_cases}
use Rattle.cx_semantics.specs.Marked.{is_among, without}
use Rattle.clause_arena.specs.Clauses.{ArenaState, Stored, IsLive, id_at, id_in, learned_in}
use Rattle.search_steps.proofs.CoverLaws.{not_before}
use Rattle.cdcl_search.specs.Ties.{AreLearned}
use Rattle.cdcl_search.proofs.TableLaws.{apart}

pub among_first : (ids : List ℕ) (n : ℕ) → is_among (n ∷ ids) n ≡ true
among_first ids n = or_left (nat_eq n n) (is_among ids n) (eq-eqb n n refl)

pub among_more : (ids : List ℕ) (m n : ℕ) → is_among ids n ≡ true → is_among (m ∷ ids) n ≡ true
among_more ids m n h = or_right (nat_eq n m) (is_among ids n) h

pub among_without : (ids : List ℕ) (n m : ℕ) → m ≢ n → is_among ids m ≡ true → is_among (without ids n) m ≡ true
among_without ids n m other h = by_cases (is_among (without ids n) m) (λ e. e) (λ e. absurd (true≢false (sym h ∙ not_before ids n m (apart m n other) e)))

-- ---- without an id there are fewer
no_longer : (ids : List ℕ) (n : ℕ) → length (without ids n) ≤ length ids
no_longer [] n = omega arith
no_longer (x ∷ ids) n = go (not (nat_eq n x)) (no_longer ids n)
  where
    go : (b : Bool) → length (without ids n) ≤ length ids → length (cond b (x ∷ without ids n) (without ids n)) ≤ suc (length ids)
    go true rec = omega (arith, rec)
    go false rec = omega (arith, rec)

one_fewer : (ids : List ℕ) (n : ℕ) → is_among ids n ≡ true → length (without ids n) + 1 ≤ length ids
one_fewer [] n h = absurd (true≢false (sym h))
one_fewer (x ∷ ids) n h = go (nat_eq n x) h (no_longer ids n) (one_fewer ids n)
  where
    go : (b : Bool) → (b || is_among ids n) ≡ true → length (without ids n) ≤ length ids → (is_among ids n ≡ true → length (without ids n) + 1 ≤ length ids) → length (cond (not b) (x ∷ without ids n) (without ids n)) + 1 ≤ suc (length ids)
    go true k short rec = omega (arith, short)
    go false k short rec = let less = rec k in omega (arith, less)

-- ---- stored clauses of different ids
abbrev AreApart : List (Option Stored) → Type 0
AreApart clauses = (r q : ℕ) → is_some (get_or clauses r None) ≡ true → is_some (get_or clauses q None) ≡ true → id_in (get_or clauses r None) ≡ id_in (get_or clauses q None) → r ≡ q

abbrev HaveIdsAmong : List (Option Stored) → List ℕ → Type 0
HaveIdsAmong clauses ids = (r : ℕ) → is_some (get_or clauses r None) ≡ true → learned_in (get_or clauses r None) ≡ true → is_among ids (id_in (get_or clauses r None)) ≡ true

is_there : (o : Option Stored) → learned_in o ≡ true → is_some o ≡ true
is_there None h = absurd (true≢false (sym h))
is_there (Some k) h = refl

-- each learned one takes its id out
few_by_ids : (clauses : List (Option Stored)) (ids : List ℕ) → AreApart clauses → HaveIdsAmong clauses ids → length (filter learned_in clauses) ≤ length ids
few_by_ids [] ids different among = omega arith
few_by_ids (x ∷ clauses) ids different among = go (learned_in x) refl (λ ns those. few_by_ids clauses ns later those)
  where
    later : AreApart clauses
    later r q r_live q_live same = let one : suc r ≡ suc q = different (suc r) (suc q) r_live q_live same in omega (arith, one)

    go : (b : Bool) → learned_in x ≡ b → ((ns : List ℕ) → HaveIdsAmong clauses ns → length (filter learned_in clauses) ≤ length ns) → length (cond b (x ∷ filter learned_in clauses) (filter learned_in clauses)) ≤ length ids
    go false e rec = rec ids (λ r. among (suc r))
    go true e rec =
        let here = is_there x e in
        let less = one_fewer ids (id_in x) (among 0 here e) in
        let rest = rec (without ids (id_in x)) (λ r live is. among_without ids (id_in x) (id_in (get_or clauses r None))
        (λ same. let never : suc r ≡ 0 = different (suc r) 0 live here same in omega (arith, never)) (among (suc r) live is)) in
        omega (arith, less, rest)

-- An arena whose clauses have different ids has at most as many learned ones as these.
pub learned_are_few : (arena : ArenaState) (ids : List ℕ) → ((r q : ℕ) → IsLive arena r → IsLive arena q → id_at arena r ≡ id_at arena q → r ≡ q) → AreLearned arena ids → length (filter learned_in arena.clauses) ≤ length ids
learned_are_few arena ids different among = few_by_ids arena.clauses ids different among
