-- No learned clause is a tautology.
use Rattle.std.proofs.Common.{◌≡◌, refl, sym, ap, ◌∙◌, subst, ℕ, Bool, true, false, cond, not, ◌||◌, nat_eq, eqb-true, eq-eqb, List, [], ◌∷◌, Some, None, true≢false}
use Rattle.std.proofs.lemmas.Bool.{eqb-false}
use Rattle.std.specs.FinMap as map_
use Rattle.cx_base.specs.Literals.{Literal}
use Rattle.cx_semantics.specs.Fresh.{is_tautology}
use Rattle.cx_semantics.specs.Marked.{is_among, without}
use Rattle.cx_semantics.specs.Tables.{Table, get}
use Rattle.cx_semantics.proofs.Lookups.{Looks-insert}
use Rattle.search_steps.specs.Covers.{ArePlain}
use Rattle.conflict_learn.proofs.ChainOfResolutions.{by_cases}
use Rattle.search_steps.proofs.CoverLaws.{other_stays}
use Rattle.search_steps.proofs.ServesLaws.{not_live_stays}

pub plain_at : (table : Table) (ids : List ℕ) (n : ℕ) → ArePlain table ids → is_among ids n ≡ true → (clause : List Literal) × (get table n ≡ Some clause) × (is_tautology clause ≡ false)
plain_at table [] n p h = absurd (true≢false (sym h))
plain_at table (k ∷ ids) n p h = by_cases (nat_eq n k)
    (λ e. subst (λ i. (clause : List Literal) × (get table i ≡ Some clause) × (is_tautology clause ≡ false)) (sym (eqb-true n k e)) p.0)
    (λ e. plain_at table ids n p.1 (sym (ap (λ b. b || is_among ids n) e) ∙ h))

-- ---- a clause more
module _ (table : Table) (n : ℕ) (lits : List Literal) (free : get table n ≡ None) where
  pub put_plain : (ids : List ℕ) → ArePlain table ids → ArePlain (map_.insert table n lits) ids
  put_plain [] p = tt
  put_plain (k ∷ ids) p = ((p.0.0, not_live_stays table n lits free k p.0.0 p.0.1, p.0.2), put_plain ids p.1)

  here : get (map_.insert table n lits) n ≡ Some lits
  here = Looks-insert table (get table) n lits (λ _. refl) n ∙ ap (λ b. cond b (Some lits) (get table n)) (eq-eqb n n refl)

-- one that was owed is learned
pub learned_plain : (table : Table) (n : ℕ) (lits : List Literal) (learned : List ℕ) (awaits : Bool) → awaits ≡ true → is_tautology lits ≡ false → get table n ≡ None → ArePlain table learned
    → ArePlain (map_.insert table n lits) (cond awaits (n ∷ learned) learned)
learned_plain table n lits learned awaits owed plain free p =
    subst (λ b. ArePlain (map_.insert table n lits) (cond b (n ∷ learned) learned)) (sym owed) ((lits, here table n lits free, plain), put_plain table n lits free learned p)

pub unlearned_plain : (table : Table) (n : ℕ) (lits : List Literal) (learned : List ℕ) (awaits : Bool) → awaits ≡ false → get table n ≡ None → ArePlain table learned → ArePlain (map_.insert table n lits) (cond awaits (n ∷ learned) learned)
unlearned_plain table n lits learned awaits served free p = subst (λ b. ArePlain (map_.insert table n lits) (cond b (n ∷ learned) learned)) (sym served) (put_plain table n lits free learned p)

-- ---- a clause less
pub drop_plain : (table : Table) (n : ℕ) (ids : List ℕ) → ArePlain table ids → ArePlain (map_.remove table n) (without ids n)
drop_plain table n [] p = tt
drop_plain table n (k ∷ ids) p = go (nat_eq n k) refl (drop_plain table n ids p.1)
  where
    go : (b : Bool) → nat_eq n k ≡ b → ArePlain (map_.remove table n) (without ids n) → ArePlain (map_.remove table n) (cond (not b) (k ∷ without ids n) (without ids n))
    go true e rest = rest
    go false e rest = ((p.0.0, other_stays table n k (λ same. eqb-false n k e (sym same)) ∙ p.0.1, p.0.2), rest)
