-- What many bumps make, one by one.
use Rattle.std.proofs.Common.{◌≡◌, ◌≢◌, ◌<◌, ◌≤◌, ◌+◌, ◌-◌, ◌/◌, ℕ, zero, suc, Bool, if◌then◌else◌, List, length, get_or, set, map, sym, ap, ◌∙◌, refl, arith}
use Rattle.std.proofs.lemmas.Bool.{eq-eqb, ne_eqb}
use Rattle.std.proofs.lemmas.List.{get_or-set_same, length-set, set-set, set-get_or, map-set, length-map}
use Rattle.search_policy.specs.declared.scores.TheConstants.{SCORE_LIMIT, MAX_BUMPS}
use Rattle.search_policy.specs.Bumps.{IsRaised, IsHalved}
use Rattle.search_policy.specs.Standing.{OrderState, bumped, bumped_times}

abbrev state : List Bool → ℕ → List ℕ → OrderState
state standing weight scores = record { scores = scores; standing = standing; weight = weight }

abbrev halved : List ℕ → List ℕ
halved scores = map (λ s. s / 2) scores

-- what one bump makes by whether it reaches the limit
abbrev bumped_if : Bool → List Bool → ℕ → List ℕ → ℕ → OrderState
bumped_if b standing weight scores i =
    let more = set scores i (get_or scores i 0 + 1) in
    record { scores = if b then halved more else more; standing = standing; weight = if b then weight / 2 else weight }

one_below : (standing : List Bool) (weight : ℕ) (scores : List ℕ) (v : ℕ) → get_or scores (v - 1) 0 + 1 ≢ SCORE_LIMIT → bumped (state standing weight scores) v ≡ state standing weight (set scores (v - 1) (get_or scores (v - 1) 0 + 1))
one_below standing weight scores v ne = ap (λ b. bumped_if b standing weight scores (v - 1)) (ne_eqb (get_or scores (v - 1) 0 + 1) SCORE_LIMIT ne)

one_reaches : (standing : List Bool) (weight : ℕ) (scores : List ℕ) (v : ℕ) → get_or scores (v - 1) 0 + 1 ≡ SCORE_LIMIT → bumped (state standing weight scores) v ≡ state standing (weight / 2) (halved (set scores (v - 1) (get_or scores (v - 1) 0 + 1)))
one_reaches standing weight scores v e = ap (λ b. bumped_if b standing weight scores (v - 1)) (eq-eqb (get_or scores (v - 1) 0 + 1) SCORE_LIMIT e)

-- two rises of one score are one
two_rises : (scores : List ℕ) (i a b n : ℕ) → i < length scores → a + b ≡ n → set (set scores i (get_or scores i 0 + a)) i (get_or (set scores i (get_or scores i 0 + a)) i 0 + b) ≡ set scores i (get_or scores i 0 + n)
two_rises scores i a b n inside e =
    let same = get_or-set_same scores i (get_or scores i 0 + a) 0 inside in
    let sums : get_or (set scores i (get_or scores i 0 + a)) i 0 + b ≡ get_or scores i 0 + n = omega (arith, same) in
    set-set scores i (get_or scores i 0 + a) _ ∙ ap (set scores i) sums

pub below_the_limit : (standing : List Bool) (weight : ℕ) (scores : List ℕ) (v times : ℕ) → v - 1 < length scores → get_or scores (v - 1) 0 + times < SCORE_LIMIT
    → bumped_times (state standing weight scores) v times ≡ state standing weight (set scores (v - 1) (get_or scores (v - 1) 0 + times))
unfolding bumped_times
below_the_limit standing weight scores v zero inside below =
    let none : get_or scores (v - 1) 0 ≡ get_or scores (v - 1) 0 + 0 = omega arith in
    ap (state standing weight) (sym (set-get_or scores (v - 1) 0) ∙ ap (set scores (v - 1)) none)
below_the_limit standing weight scores v (suc times) inside below =
    let i = v - 1 in
    let more = set scores i (get_or scores i 0 + 1) in
    let same : get_or more i 0 ≡ get_or scores i 0 + 1 = get_or-set_same scores i (get_or scores i 0 + 1) 0 inside in
    let long : length more ≡ length scores = length-set scores i (get_or scores i 0 + 1) in
    ap (λ o. bumped_times o v times) (one_below standing weight scores v (λ e. omega arith))
    ∙ below_the_limit standing weight more v times (omega arith) (omega arith)
    ∙ ap (state standing weight) (two_rises scores i 1 times (suc times) inside (omega arith))

-- m + 1 bumps come to the limit, and n more are left
to_the_limit : (standing : List Bool) (weight : ℕ) (scores : List ℕ) (v m n times : ℕ) → v - 1 < length scores → get_or scores (v - 1) 0 + (m + 1) ≡ SCORE_LIMIT → times ≡ m + n
    → bumped_times (state standing weight scores) v (suc times) ≡ bumped_times (state standing (weight / 2) (halved (set scores (v - 1) (get_or scores (v - 1) 0 + (m + 1))))) v n
unfolding bumped_times
to_the_limit standing weight scores v zero n times inside reached e =
    let i = v - 1 in
    let one : get_or scores i 0 + 1 ≡ get_or scores i 0 + (0 + 1) = omega arith in
    let left : times ≡ n = omega arith in
    ap (λ o. bumped_times o v times) (one_reaches standing weight scores v (omega arith))
    ∙ ap (λ k. bumped_times (state standing (weight / 2) (halved (set scores i k))) v times) one
    ∙ ap (λ k. bumped_times (state standing (weight / 2) (halved (set scores i (get_or scores i 0 + (0 + 1))))) v k) left
to_the_limit standing weight scores v (suc m) n zero inside reached e = absurd (omega arith)
to_the_limit standing weight scores v (suc m) n (suc times) inside reached e =
    let i = v - 1 in
    let more = set scores i (get_or scores i 0 + 1) in
    let same : get_or more i 0 ≡ get_or scores i 0 + 1 = get_or-set_same scores i (get_or scores i 0 + 1) 0 inside in
    let long : length more ≡ length scores = length-set scores i (get_or scores i 0 + 1) in
    ap (λ o. bumped_times o v (suc times)) (one_below standing weight scores v (λ q. omega arith))
    ∙ to_the_limit standing weight more v m n times (omega arith) (omega arith) (omega arith)
    ∙ ap (λ xs. bumped_times (state standing (weight / 2) (halved xs)) v n) (two_rises scores i 1 (m + 1) (suc m + 1) inside (omega arith))

-- ---- what the code makes
pub are_raised : (standing : List Bool) (weight : ℕ) (scores : List ℕ) (v times : ℕ) (new : List ℕ) → v - 1 < length scores → IsRaised scores (v - 1) times new
    → state standing weight new ≡ bumped_times (state standing weight scores) v times
are_raised standing weight scores v times new inside r = ap (state standing weight) r.scores ∙ sym (below_the_limit standing weight scores v times inside r.below)

pub are_halved : (standing : List Bool) (weight : ℕ) (scores : List ℕ) (v times : ℕ) (new : List ℕ) → v - 1 < length scores → get_or scores (v - 1) 0 < SCORE_LIMIT → times ≤ MAX_BUMPS → IsHalved scores (v - 1) times new
    → state standing (weight / 2) new ≡ bumped_times (state standing weight scores) v times
are_halved standing weight scores v times new inside small few h =
    let i = v - 1 in
    let s = get_or scores i 0 in
    let m = SCORE_LIMIT - s - 1 in
    let n = s + times - SCORE_LIMIT in
    let reached = h.reached in
    let top : s + (m + 1) ≡ SCORE_LIMIT = omega arith in
    let all : times ≡ suc (times - 1) = omega arith in
    let half = halved (set scores i (s + (m + 1))) in
    let here : get_or half i 0 ≡ SCORE_LIMIT / 2 = ap (λ xs. get_or xs i 0) (map-set (λ x. x / 2) scores i (s + (m + 1))) ∙ get_or-set_same (halved scores) i ((s + (m + 1)) / 2) 0 (omega (arith, length-map scores (λ x. x / 2))) ∙ ap (λ x. x / 2) top in
    let long : length half ≡ length scores = length-map (set scores i (s + (m + 1))) (λ x. x / 2) ∙ length-set scores i (s + (m + 1)) in
    let sums : get_or half i 0 + n ≡ SCORE_LIMIT / 2 + n = ap (λ x. x + n) here in
    let final : set half i (get_or half i 0 + n) ≡ new = ap (set half i) sums ∙ ap (λ xs. set xs i (SCORE_LIMIT / 2 + n)) (map-set (λ x. x / 2) scores i (s + (m + 1))) ∙ set-set (halved scores) i ((s + (m + 1)) / 2) (SCORE_LIMIT / 2 + n) ∙ sym h.scores in
    sym (ap (λ k. bumped_times (state standing weight scores) v k) all
    ∙ to_the_limit standing weight scores v m n (times - 1) inside top (omega arith)
    ∙ below_the_limit standing (weight / 2) half v n (omega arith) (omega arith)
    ∙ ap (state standing (weight / 2)) final)

pub one_time : (o : OrderState) (v : ℕ) → bumped_times o v 1 ≡ bumped o v
unfolding bumped_times
one_time o v = refl
