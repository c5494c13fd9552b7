-- Pairs of clauses, place by place.
use Rattle.std.proofs.Common.{◌≡◌, ◌≢◌, ℕ, ◌+◌, ◌<◌, ◌≤◌, ⊎_elim, length, subst, sym, arith}
use Rattle.std.proofs.lemmas.Bool.{cases_eq}
use Rattle.clause_arena.specs.Clauses.{ArenaState, IsLive}
use Rattle.clause_arena.proofs.PackingLaws.{live_within}
use Rattle.clause_tidy.specs.Pairs.{Bears, NoneBearsOn, NoneBears}

pub one_more_bears_not : (a : ArenaState) (q i r : ℕ) → r ≡ i → ((p : ℕ) → p < i → Bears a p q → ⊥) → (Bears a r q → ⊥) → (p : ℕ) → p < i + 1 → Bears a p q → ⊥
one_more_bears_not a q i r is before here p h = ⊎_elim (λ (e : p ≡ r). subst (λ x. Bears a x q → ⊥) (sym e) here) (λ (ne : p ≢ r). before p (omega (arith, is, h, ne))) (cases_eq p r)

pub none_bears_on : (a : ArenaState) (q i : ℕ) → length a.clauses ≤ i → ((p : ℕ) → p < i → Bears a p q → ⊥) → NoneBearsOn a q
none_bears_on a q i all h p b = h p (omega (arith, all, live_within a p b.1)) b

pub one_more_is_free : (a : ArenaState) (i : ℕ) → ((q : ℕ) → q < i → IsLive a q → NoneBearsOn a q) → (IsLive a i → NoneBearsOn a i) → (q : ℕ) → q < i + 1 → IsLive a q → NoneBearsOn a q
one_more_is_free a i before here q h = ⊎_elim (λ (e : q ≡ i). subst (λ x. IsLive a x → NoneBearsOn a x) (sym e) here) (λ (ne : q ≢ i). before q (omega (arith, h, ne))) (cases_eq q i)

pub none_bears : (a : ArenaState) (i : ℕ) → length a.clauses ≤ i → ((q : ℕ) → q < i → IsLive a q → NoneBearsOn a q) → NoneBears a
none_bears a i all h q l = h q (omega (arith, all, live_within a q l)) l
