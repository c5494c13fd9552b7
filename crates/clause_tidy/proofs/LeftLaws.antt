-- What is left of an arena, place by place.
use Rattle.std.proofs.Common.{◌≡◌, ◌≢◌, refl, sym, ap, ◌∙◌, subst, ℕ, ◌+◌, ◌<◌, ◌≤◌, ⊎_elim, List, length, set, Option, None, IsSome, arith}
use Rattle.std.proofs.lemmas.Bool.{cases_eq}
use Rattle.std.proofs.lemmas.List.{length-set}
use Rattle.clause_arena.specs.Clauses.{ArenaState, Stored, clause_at, IsLive, id_at, literals_in, id_in}
use Rattle.clause_arena.proofs.PackingLaws.{live_within}
use Rattle.cx_semantics.specs.Fresh.{is_tautology}
use Rattle.clause_tidy.specs.Agreeing.{IsStepId}
use Rattle.clause_tidy.specs.Answers.{HasNoTautology}
use Rattle.clause_tidy.specs.Tautologies.{IsLeft, IsFreeAt}
use Rattle.clause_tidy.proofs.Removing.{none_lives, gone, stays, other_lives}

pub all_left : (a : ArenaState) → IsLeft a a
all_left a = record { same = λ q l. refl; size = refl }

pub left_on : (a b c : ArenaState) → IsLeft a b → IsLeft b c → IsLeft a c
left_on a b c h k = record { same = λ q l. k.same q l ∙ h.same q (subst (λ (o : Option Stored). IsSome o) (k.same q l) l); size = k.size ∙ h.size }

pub was_there : (a b : ArenaState) → IsLeft a b → (q : ℕ) → IsLive b q → IsLive a q
was_there a b h q l = subst (λ (o : Option Stored). IsSome o) (h.same q l) l

pub ids_left : (a b : ArenaState) → IsLeft a b → ((r : ℕ) → IsLive a r → IsStepId (id_at a r)) → (r : ℕ) → IsLive b r → IsStepId (id_at b r)
ids_left a b h ids r l = subst IsStepId (sym (ap id_in (h.same r l))) (ids r (was_there a b h r l))

pub removed_left : (a b : ArenaState) (r : ℕ) → IsLive a r → b.clauses ≡ set a.clauses r None → IsLeft a b
removed_left a b r live e = record { same = λ q l. stays a b r live e q (other_lives a b r live e q l); size = ap (λ (cs : List (Option Stored)). length cs) e ∙ length-set a.clauses r None }

pub removed_free : (a b : ArenaState) (r : ℕ) → IsLive a r → b.clauses ≡ set a.clauses r None → IsFreeAt b r
removed_free a b r live e = λ l. absurd (none_lives (clause_at b r) (gone a b r live e) l)

-- free below a place
pub free_more : (a b : ArenaState) (i r : ℕ) → r ≡ i → IsLeft a b → ((q : ℕ) → q < i → IsFreeAt a q) → IsFreeAt b r → (q : ℕ) → q < i + 1 → IsFreeAt b q
free_more a b i r is h before here q less = ⊎_elim
    (λ (e : q ≡ r). subst (IsFreeAt b) (sym e) here)
    (λ (ne : q ≢ r). λ l. ap (λ (o : Option Stored). is_tautology (literals_in o)) (h.same q l) ∙ before q (omega (arith, less, is, ne)) (was_there a b h q l)) (cases_eq q r)

pub free_all : (a : ArenaState) (i : ℕ) → length a.clauses ≤ i → ((q : ℕ) → q < i → IsFreeAt a q) → HasNoTautology a
free_all a i all h q l = h q (omega (arith, all, live_within a q l)) l
