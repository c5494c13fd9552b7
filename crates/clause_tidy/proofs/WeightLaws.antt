-- Changes that leave less.
use Rattle.std.proofs.Common.{◌≡◌, refl, ap, ℕ, zero, suc, ◌+◌, ◌<◌, ◌≤◌, true, List, [], ◌∷◌, ◌++◌, length, set, get_or, Option, Some, None, is_some, arith}
use Rattle.clause_arena.specs.Clauses.{ArenaState, Stored, clause_at, IsLive, literals_at, literals_in, kept}
use Rattle.clause_arena.proofs.PackingLaws.{live_within}
use Rattle.clause_tidy.specs.Tautologies.{IsLeft}
use Rattle.clause_tidy.specs.Weights.{weight_of, weights, weight}

weights_set : (os : List (Option Stored)) (r : ℕ) (o : Option Stored) → r < length os → weights (set os r o) + weight_of (get_or os r None) ≡ weights os + weight_of o
weights_set [] r o h = absurd (omega (arith, h))
weights_set (p ∷ os) zero o h = omega arith
weights_set (p ∷ os) (suc r) o h = let rest = weights_set os r o (omega (arith, h)) in omega (arith, rest)

weights_append : (os ps : List (Option Stored)) → weights (os ++ ps) ≡ weights os + weights ps
weights_append [] ps = omega arith
weights_append (o ∷ os) ps = let rest = weights_append os ps in omega (arith, rest)

live_weighs : (o : Option Stored) → is_some o ≡ true → weight_of o ≡ length (literals_in o) + 1
live_weighs None e = cc
live_weighs (Some c) e = refl

kept_weighs : (o : Option Stored) → weight_of (kept o) ≡ weight_of o
kept_weighs None = refl
kept_weighs (Some c) = refl

pub less_without : (a b : ArenaState) (r : ℕ) → IsLive a r → b.clauses ≡ set a.clauses r None → weight b < weight a
unfolding weight
less_without a b r live e =
    let one = weights_set a.clauses r None (live_within a r live) in
    let two = live_weighs (clause_at a r) live in
    let three = ap weights e in
    omega (arith, one, two, three)

-- an arena with a clause weighs something
pub some_weight : (a : ArenaState) (r : ℕ) → IsLive a r → 0 < weight a
some_weight a r live = let less = less_without a (record a { clauses = set a.clauses r None }) r live refl in omega (arith, less)

pub same_kept : (a b : ArenaState) (k : ℕ) → IsLive a k → b.clauses ≡ set a.clauses k (kept (clause_at a k)) → weight b ≡ weight a
unfolding weight
same_kept a b k live e =
    let one = weights_set a.clauses k (kept (clause_at a k)) (live_within a k live) in
    let two = kept_weighs (clause_at a k) in
    let three = ap weights e in
    omega (arith, one, two, three)

pub less_shorter : (a b : ArenaState) (r : ℕ) (new : Stored) → IsLive a r → length new.literals < length (literals_at a r) → b.clauses ≡ set a.clauses r None ++ Some new ∷ [] → weight b < weight a
unfolding weight
less_shorter a b r new live short e =
    let one = weights_set a.clauses r None (live_within a r live) in
    let two = live_weighs (clause_at a r) live in
    let three = ap weights e in
    let four = weights_append (set a.clauses r None) (Some new ∷ []) in
    omega (arith, one, two, three, four, short)

-- what is left weighs no more
no_more_here : (x y : Option Stored) → (is_some y ≡ true → y ≡ x) → weight_of y ≤ weight_of x
no_more_here x None f = omega arith
no_more_here x (Some c) f = let e = ap weight_of (f refl) in omega (arith, e)

weights_left : (xs ys : List (Option Stored)) → length ys ≡ length xs → ((q : ℕ) → is_some (get_or ys q None) ≡ true → get_or ys q None ≡ get_or xs q None) → weights ys ≤ weights xs
weights_left xs [] long same = omega arith
weights_left [] (y ∷ ys) long same = absurd (omega (arith, long))
weights_left (x ∷ xs) (y ∷ ys) long same =
    let rest = weights_left xs ys (omega (arith, long)) (λ q l. same (suc q) l) in
    let here = no_more_here x y (same 0) in
    omega (arith, rest, here)

pub left_weighs : (a b : ArenaState) → IsLeft a b → weight b ≤ weight a
unfolding weight
left_weighs a b h = weights_left a.clauses b.clauses h.size h.same
