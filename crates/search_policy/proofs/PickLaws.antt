-- What is picked, variable by variable.
use Rattle.std.proofs.Common.{◌≡◌, refl, ap, ℕ, ◌+◌, ◌<◌, ◌≤◌, ◌≢◌, List, Option, Some, None, subst, arith, ⊎_elim}
use Rattle.std.proofs.lemmas.Bool.{cases_eq}
use Rattle.cx_trail.specs.declared.entry.Entry.{Entry}
use Rattle.cx_trail.specs.Sequence.{IsOpenIn}
use Rattle.search_policy.specs.Scores.{Picks, ComesBefore, score_of}

-- an assigned variable more changes nothing
pub picks_past : (n : ℕ) (scores : List ℕ) (entries : List Entry) (best : Option ℕ) → Picks n scores entries best → (IsOpenIn entries (n + 1) → ⊥) → Picks (n + 1) scores entries best
picks_past n scores entries None p assigned = λ u low high o. ⊎_elim
    (λ (e : u ≡ n + 1). assigned (subst (IsOpenIn entries) e o))
    (λ (ne : u ≢ n + 1). p u low (omega arith) o) (cases_eq u (n + 1))
picks_past n scores entries (Some v) p assigned = record {
  low = p.low;
  high = omega (arith, p.high);
  unassigned = p.unassigned;
  best = λ u low high o. ⊎_elim
      (λ (e : u ≡ n + 1). absurd (assigned (subst (IsOpenIn entries) e o)))
      (λ (ne : u ≢ n + 1). p.best u low (omega arith) o) (cases_eq u (n + 1));
}

one_best : (scores : List ℕ) (v w : ℕ) → ComesBefore scores v w → ComesBefore scores w v → v ≡ w
one_best scores v w p q = ⊎_elim
    (λ (a : score_of scores w < score_of scores v). ⊎_elim
    (λ (b : score_of scores v < score_of scores w). absurd (omega arith))
    (λ (b : (score_of scores v ≡ score_of scores w) × (w ≤ v)). let e = b.0 in absurd (omega (arith, e))) q)
    (λ (a : (score_of scores w ≡ score_of scores v) × (v ≤ w)). ⊎_elim
    (λ (b : score_of scores v < score_of scores w). let e = a.0 in absurd (omega (arith, e)))
    (λ (b : (score_of scores v ≡ score_of scores w) × (w ≤ v)). let x = a.1 in let y = b.1 in omega (arith, x, y)) q) p

pub one_pick : (n : ℕ) (scores : List ℕ) (entries : List Entry) (a b : Option ℕ) → Picks n scores entries a → Picks n scores entries b → a ≡ b
one_pick n scores entries None None p q = refl
one_pick n scores entries None (Some w) p q = absurd (p w q.low q.high q.unassigned)
one_pick n scores entries (Some v) None p q = absurd (q v p.low p.high p.unassigned)
one_pick n scores entries (Some v) (Some w) p q = ap (λ x. Some x) (one_best scores v w (p.best w q.low q.high q.unassigned) (q.best v p.low p.high p.unassigned))
