-- What keeps levels quiet.
use Rattle.std.proofs.Common.{◌≡◌, refl, sym, ap, ◌∙◌, subst, ℕ, ◌≤◌, Bool, true, false, cond, not, nat_eq, List, [], ◌∷◌, Some, None, ◌⊎◌, inl, inr}
use Rattle.std.specs.List.{list_all}
use Rattle.std.specs.FinMap as map_
use Rattle.std.proofs.lemmas.Option.{same_Some}
use Rattle.std.proofs.lemmas.Bool.{not-true}
use Rattle.cx_base.specs.Literals.{Literal, negate, literal_true}
use Rattle.cx_base.specs.Problem.{clause_met, AreWithin}
use Rattle.cx_semantics.specs.Chain.{has_literal, left, one}
use Rattle.cx_semantics.specs.Fresh.{IsLive, is_falsified}
use Rattle.cx_semantics.specs.Tables.{Table, get}
use Rattle.cx_semantics.proofs.ChainLaws.{true_by_all, literal_true-negate}
use Rattle.cx_semantics.proofs.Lookups.{Looks-insert, Looks-remove}
use Rattle.cx_semantics.proofs.Members.{has_split}
use Rattle.cx_semantics.proofs.Closure.{one_in, left_in, left_has}
use Rattle.search_steps.specs.Quiet.{RestsOn, ParitiesQuiet, ClausesQuiet, IsOfParities}
use Rattle.conflict_learn.proofs.ChainOfResolutions.{by_cases}
use Rattle.search_steps.proofs.Sets.{not_both, one_left, no_member, member_of_all}

-- ---- tables

pub live_with : (table : Table) (n : ℕ) (lits clause : List Literal) → IsLive (map_.insert table n lits) clause → (clause ≡ lits) ⊎ IsLive table clause
live_with table n lits clause (k, e) = elim (nat_eq k n) as (λ b. cond b (Some lits) (get table k) ≡ Some clause → (clause ≡ lits) ⊎ IsLive table clause) [
  | true ↦ λ f. inl (sym (same_Some lits clause f))
  | false ↦ λ f. inr (k, f)
] (sym (Looks-insert table (get table) n lits (λ _. refl) k) ∙ e)

pub live_without : (table : Table) (n : ℕ) (clause : List Literal) → IsLive (map_.remove table n) clause → IsLive table clause
live_without table n clause (k, e) = elim (nat_eq k n) as (λ b. cond b None (get table k) ≡ Some clause → IsLive table clause) [
  | true ↦ λ f. cc
  | false ↦ λ f. (k, f)
] (sym (Looks-remove table (get table) n (λ _. refl) k) ∙ e)

-- ---- one clause more, one less
pub quiet_with : (table : Table) (u : List Literal) (n : ℕ) (lits : List Literal) → ClausesQuiet table u → RestsOn u lits → ClausesQuiet (map_.insert table n lits) u
quiet_with table u n lits q r clause live = elim (live_with table n lits clause live) [
  | inl e ↦ subst (RestsOn u) (sym e) r
  | inr l ↦ q clause l
]

pub quiet_without : (table : Table) (u : List Literal) (n : ℕ) → ClausesQuiet table u → ClausesQuiet (map_.remove table n) u
quiet_without table u n q clause live = q clause (live_without table n clause live)

-- ---- clauses that parities imply
pub within_member : (n : ℕ) (lits : List Literal) (l : Literal) → AreWithin n lits → has_literal lits l ≡ true → (1 ≤ l.variable) × (l.variable ≤ n)
within_member n [] l w h = not_both false h refl
within_member n (m ∷ ms) l w h = elim (has_split m ms l h) [
  | inl e ↦ subst (λ x. (1 ≤ x.variable) × (x.variable ≤ n)) (sym e) w.0
  | inr g ↦ within_member n ms l w.1 g
]

-- where a literal's negation is true, it is false
false_by : (v : List Bool) (l : Literal) → literal_true v (negate l) ≡ true → literal_true v l ≡ false
false_by v l h = not-true (literal_true v l) (sym (literal_true-negate v l) ∙ h)

-- where all that is held is true, and so is no other literal of the clause, a met clause makes l true
pub only_one_true : (v : List Bool) (u clause : List Literal) (l : Literal) → list_all (literal_true v) u ≡ true → clause_met v clause ≡ true
    → ((m : Literal) → has_literal (left u clause) m ≡ true → m ≡ l) → literal_true v l ≡ true
only_one_true v u clause l h met only = by_cases (literal_true v l) (λ e. e) (λ e.
    not_both (clause_met v clause) met (no_member (literal_true v) clause (λ m k. by_cases (has_literal u (negate m))
    (λ f. false_by v m (true_by_all v u (negate m) h f))
    (λ f. ap (literal_true v) (only m (left_has u clause m k f)) ∙ e))))

falsified_unmet : (v : List Bool) (u clause : List Literal) → list_all (literal_true v) u ≡ true → is_falsified u clause ≡ true → clause_met v clause ≡ true → ⊥
falsified_unmet v u clause h f met = not_both (clause_met v clause) met (no_member (literal_true v) clause (λ m k.
    false_by v m (true_by_all v u (negate m) h (member_of_all (λ x. has_literal u (negate x)) clause m f k))))

pub implied_rests : (n : ℕ) (parities : List (List Literal)) (u clause : List Literal) → ParitiesQuiet n parities u → IsOfParities n parities clause → RestsOn u clause
implied_rests n parities u clause q c = record {
  not_falsified = by_cases (is_falsified u clause)
      (λ e. absurd (falsified_unmet q.consistent.0 u clause q.consistent.1.agrees e (c.implied q.consistent.0 q.consistent.1.meets)))
      (λ e. e);
  unit_held = λ l e.
      let w = within_member n clause l c.within (left_in u clause l (one_in (left u clause) l e)) in
      q.forced l w.0 w.1 (λ v s. only_one_true v u clause l s.agrees (c.implied v s.meets) (λ m k. one_left (left u clause) l m e k));
}

-- what is left is not false
