-- A search before its first clause.
use Rattle.std.proofs.Common.{◌≡◌, refl, sym, subst, ℕ, zero, suc, ◌<◌, ◌≤◌, true, false, true≢false, ◌-◌, [], ◌∷◌, arith}
use Rattle.std.proofs.lemmas.List.{get_or-replicate, length-replicate}
use Rattle.clause_arena.specs.Clauses.{ArenaState}
use Rattle.cx_trail.specs.Sequence.{TrailState, entry_at}
use Rattle.search_policy.specs.Standing.{OrderState, AllStand, new_order}
use Rattle.watch_lists.specs.Watching.{WatchState, Fits, looked_at}

abbrev pub no_literals : ℕ → TrailState
no_literals n = record { variables = n; level = 0; entries = [] }

few_looked : (k : ℕ) → k < 1 → looked_at (0 ∷ []) k ≤ 0
few_looked zero h = omega arith
few_looked (suc k) h = absurd (omega (arith, h))

none_looked : (n k i : ℕ) → k < 1 → i < looked_at (0 ∷ []) k → (entry_at [] i).level ≤ k
none_looked n k i h less = absurd (let few = few_looked k h in omega (arith, few, less))

none_fit : (n : ℕ) (a : ArenaState) → Fits (record { variables = n; looked = 0 ∷ []; held = []; attached = [] }) a (no_literals n)
none_fit n a = record {
  variables = refl;
  nodes = record {
    pairs = refl;
    live = λ r h. absurd (true≢false (sym h));
    within = λ r h. absurd (true≢false (sym h));
    inside = λ m h. absurd (true≢false (sym h));
    apart = λ m h. absurd (true≢false (sym h));
    thirds = λ m h. absurd (true≢false (sym h));
  };
  guarded = λ m k i h less low same. absurd (true≢false (sym h));
  behind = record { some = omega arith; reach = omega arith; few = few_looked; low = none_looked n };
}

pub empty_fits : (n : ℕ) (w : WatchState) (a : ArenaState) (t : TrailState) → w ≡ record { variables = n; looked = 0 ∷ []; held = []; attached = [] } → t ≡ no_literals n → Fits w a t
empty_fits n w a t is empty = subst (λ x. Fits x a t) (sym is) (subst (Fits (record { variables = n; looked = 0 ∷ []; held = []; attached = [] }) a) (sym empty) (none_fit n a))

all_stand : (n : ℕ) → AllStand (new_order n) (no_literals n)
all_stand n = record { variables = length-replicate n 0; stand = λ v low high is_open. get_or-replicate n (v - 1) true false (omega (arith, low, high)) }

pub empty_stands : (n : ℕ) (o : OrderState) (t : TrailState) → o ≡ new_order n → t ≡ no_literals n → AllStand o t
empty_stands n o t is empty = subst (λ x. AllStand x t) (sym is) (subst (AllStand (new_order n)) (sym empty) (all_stand n))
