-- What is accepted, or right to its end, has no values that meet the formula.
use Rattle.std.proofs.Common.{◌≡◌, ◌≢◌, refl, sym, ap, ◌∙◌, subst, ℕ, zero, suc, ◌+◌, ◌<◌, ◌≤◌, ℤ, Bool, true, false, cond, not, ◌&&◌, ◌||◌, eqb, eqb-true, List, [], ◌∷◌, ◌++◌, map, filter_map, fold, nat_eq, Option, Some, None, arith, ◌⊎◌, inl, inr, true≢false, IsTrue, IsFalse, Any}
use Rattle.std.specs.List.{list_any, list_all, cons_option}
use Rattle.std.specs.Ordering.{nat_cmp, eq_by_cmp}
use Rattle.std.specs.Cmp.{nat_cmp_total}
use Rattle.std.specs.FinMap as map_
use Rattle.std.proofs.lemmas.Option.{same_Some}
use Rattle.std.proofs.lemmas.Bool.{and_parts, and_from}
use Rattle.std.proofs.lemmas.List.Folds.{list_all-append}
use Rattle.cx_base.specs.Literals.{Literal, negate, same_literal, literal_true}
use Rattle.cx_base.specs.Problem.{Problem, Meets, Unmet, clause_met, parity_met, constraint_met, clauses_of, parities_of}
use Rattle.cx_base.specs.Assumptions.{assumptions_of, assumes, is_ending, clashes}
use Rattle.cx_base.specs.Parity.{normal_form}
use Rattle.cx_base.specs.declared.constraint.Constraint.{Constraint}
use Rattle.cx_base.specs.declared.constraint.Constraint.TheVariants as constraint
use Rattle.cx_base.proofs.ParityLaws.{AreBelow, AllSum, Sums, Sums-from_met, met-from_Sums, Sums-sum_of}
use Rattle.cx_base.specs.declared.steps.ProofStep.{ProofStep}
use Rattle.cx_base.specs.declared.steps.ProofStep.TheVariants as proof
use Rattle.cx_base.specs.declared.steps.LogStep.{LogStep}
use Rattle.cx_base.specs.declared.steps.LogStep.TheVariants as log
use Rattle.cx_semantics.specs.Chain.{ChainEnd, right, not_unit, hints_end, same_literals, is_inside, has_literal}
use Rattle.cx_base.specs.Integers.{literals, sizes}
use Rattle.cx_semantics.specs.Tables.{Table, Tables, get, named, numbered_from, first_tables, no_tables}
use Rattle.cx_base.specs.declared.id_moves.IdMove.{IdMove}
use Rattle.cx_semantics.specs.Moves.{old_ids, without_ids, put_if, put_moved, moved}
use Rattle.cx_semantics.specs.Judging.{IsRight, Runs, Calculus, EndsAt, AcceptedAt}
use Rattle.cx_semantics.specs.ProofRules.{is_not_unit, is_hints_end, IsSum, proof_calculus, after_step, adds_ending_clause}
use Rattle.cx_semantics.specs.LogRules.{is_original, log_calculus, after_log_step, derived_clause, derives_ending_clause}
use Rattle.cx_base.proofs.LiteralLaws.{are_one}
use Rattle.cx_semantics.proofs.Members.{has_at_head, has_behind}
use Rattle.cx_semantics.proofs.ChainLaws.{chained_is_met, literal_true-negate, true_by_all}

-- ---- tables whose lists are met

abbrev pub AllMet : (List Literal → Bool) → Table → Type 0
AllMet met table = (n : ℕ) (lits : List Literal) → get table n ≡ Some lits → met lits ≡ true

pub record TablesMet (v : List Bool) (tables : Tables) : Type 0 where
  pub clauses : AllMet (clause_met v) tables.clauses
  pub parities : AllMet (parity_met v) tables.parities

none_some : (x : List Literal) → None ≡ Some x → ⊥
none_some x e = cc

met_named : (met : List Literal → Bool) (table : Table) → AllMet met table → (ids : List ℕ) → list_all met (named table ids) ≡ true
met_named met table h [] = refl
met_named met table h (n ∷ ids) = elim (get table n) as (λ o. get table n ≡ o → list_all met (cons_option o (named table ids)) ≡ true) [
  | None ↦ λ e. met_named met table h ids
  | Some lits ↦ λ e. and_from _ _ (h n lits e) (met_named met table h ids)
] refl

pub met_insert : (met : List Literal → Bool) (table : Table) (n : ℕ) (lits : List Literal) → AllMet met table → met lits ≡ true → AllMet met (map_.insert table n lits)
met_insert met table n lits h k m others e = elim (eq_by_cmp nat_cmp m n) as (λ b. cond b (Some lits) (get table m) ≡ Some others → met others ≡ true) [
  | true ↦ λ f. subst (λ x. met x ≡ true) (same_Some lits others f) k
  | false ↦ λ f. h m others f
] (sym (map_.get-insert nat_cmp_total table n lits m) ∙ e)

met_remove : (met : List Literal → Bool) (table : Table) (n : ℕ) → AllMet met table → AllMet met (map_.remove table n)
met_remove met table n h m others e = elim (eq_by_cmp nat_cmp m n) as (λ b. cond b None (get table m) ≡ Some others → met others ≡ true) [
  | true ↦ λ f. absurd (none_some others f)
  | false ↦ λ f. h m others f
] (sym (map_.get-remove nat_cmp_total table n m) ∙ e)

met_drop : (met : List Literal → Bool) (ids : List ℕ) (table : Table) → AllMet met table → AllMet met (fold map_.remove table ids)
met_drop met [] table h = h
met_drop met (n ∷ ids) table h = met_drop met ids (map_.remove table n) (met_remove met table n h)

-- moves put what was live
met_put_if : (met : List Literal → Bool) (table : Table) (n : ℕ) (o : Option (List Literal)) → AllMet met table → ((lits : List Literal) → o ≡ Some lits → met lits ≡ true) → AllMet met (put_if table n o)
met_put_if met table n None h k = h
met_put_if met table n (Some lits) h k = met_insert met table n lits h (k lits refl)

met_put_moved : (met : List Literal → Bool) (first : Table) (moves : List IdMove) (table : Table) → AllMet met first → AllMet met table → AllMet met (put_moved first table moves)
met_put_moved met first [] table f h = h
met_put_moved met first (m ∷ moves) table f h = met_put_moved met first moves (put_if table m.to (get first m.from)) f (met_put_if met table m.to (get first m.from) h (f m.from))

met_moved : (met : List Literal → Bool) (table : Table) (moves : List IdMove) → AllMet met table → AllMet met (moved table moves)
met_moved met table moves h = met_put_moved met table moves (without_ids table (old_ids moves)) h (met_drop met (old_ids moves) table h)

pub met_empty : (met : List Literal → Bool) → AllMet met map_.empty
met_empty met n lits e = absurd (none_some lits (sym (map_.get-empty nat_cmp n) ∙ e))

met_numbered : (met : List Literal → Bool) (n : ℕ) (lists : List (List Literal)) → list_all met lists ≡ true → AllMet met (numbered_from n lists)
met_numbered met n [] h = met_empty met
met_numbered met n (lits ∷ lists) h =
    let p = and_parts (met lits) (list_all met lists) h in
    met_insert met (numbered_from (suc n) lists) n lits (met_numbered met (suc n) lists p.1) p.0

-- ---- the formula's clauses and parities

clauses_met : (v : List Bool) (items : List Constraint) → list_all (constraint_met v) items ≡ true → list_all (clause_met v) (clauses_of items) ≡ true
unfolding clauses_of
clauses_met v [] h = refl
clauses_met v (constraint.Clause lits ∷ items) h = let p = and_parts (clause_met v lits) _ h in and_from _ _ p.0 (clauses_met v items p.1)
clauses_met v (constraint.Parity lits ∷ items) h = clauses_met v items (and_parts (parity_met v lits) _ h).1
clauses_met v (constraint.Assume lits ∷ items) h = clauses_met v items (and_parts (list_all (literal_true v) lits) _ h).1

pub parities_met : (v : List Bool) (items : List Constraint) → list_all (constraint_met v) items ≡ true → list_all (parity_met v) (parities_of items) ≡ true
unfolding parities_of
parities_met v [] h = refl
parities_met v (constraint.Parity lits ∷ items) h = let p = and_parts (parity_met v lits) _ h in and_from _ _ p.0 (parities_met v items p.1)
parities_met v (constraint.Clause lits ∷ items) h = parities_met v items (and_parts (clause_met v lits) _ h).1
parities_met v (constraint.Assume lits ∷ items) h = parities_met v items (and_parts (list_all (literal_true v) lits) _ h).1

pub assumptions_met : (v : List Bool) (items : List Constraint) → list_all (constraint_met v) items ≡ true → list_all (literal_true v) (assumptions_of items) ≡ true
unfolding assumptions_of
assumptions_met v [] h = refl
assumptions_met v (constraint.Clause lits ∷ items) h = assumptions_met v items (and_parts (clause_met v lits) _ h).1
assumptions_met v (constraint.Parity lits ∷ items) h = assumptions_met v items (and_parts (parity_met v lits) _ h).1
assumptions_met v (constraint.Assume lits ∷ items) h =
    let p = and_parts (list_all (literal_true v) lits) _ h in
    list_all-append (literal_true v) lits (assumptions_of items) ∙ and_from _ _ p.0 (assumptions_met v items p.1)

-- the values meet the formula's clauses and its parities
pub record MeetsGiven (formula : Problem) (v : List Bool) : Type 0 where
  pub clauses : list_all (clause_met v) (clauses_of formula.constraints) ≡ true
  pub parities : list_all (parity_met v) (parities_of formula.constraints) ≡ true

pub given_met : (formula : Problem) (v : List Bool) → Meets formula v → MeetsGiven formula v
given_met formula v m = record { clauses = clauses_met v formula.constraints m.all_met; parities = parities_met v formula.constraints m.all_met }

pub first_tables_met : (formula : Problem) (v : List Bool) → Meets formula v → TablesMet v (first_tables formula)
first_tables_met formula v m = record {
  clauses = met_numbered (clause_met v) 1 (clauses_of formula.constraints) (clauses_met v formula.constraints m.all_met);
  parities = met_numbered (parity_met v) 1 (parities_of formula.constraints) (parities_met v formula.constraints m.all_met);
}

-- ---- a clause all of whose literals are negations of true ones

all_missed : (v : List Bool) (IsAssumed : Literal → Bool) (lits : List Literal) → ((l : Literal) → IsAssumed l ≡ true → literal_true v l ≡ true) → list_all (λ l. IsAssumed (negate l)) lits ≡ true → clause_met v lits ≡ false
all_missed v has [] t h = refl
all_missed v has (l ∷ lits) t h =
    let p = and_parts (has (negate l)) (list_all (λ m. has (negate m)) lits) h in
    let missed : literal_true v l ≡ false = turned (literal_true v l) (sym (literal_true-negate v l) ∙ t (negate l) p.0) in
    (λ i. missed i || all_missed v has lits t p.1 i)
  where
    turned : (b : Bool) → not b ≡ true → b ≡ false
    turned true e = absurd (true≢false (sym e))
    turned false e = refl

-- an ending clause is missed by the values under which the assumptions are true
pub ending_is_missed : (v : List Bool) (cs : List Constraint) (lits : List Literal) → list_all (literal_true v) (assumptions_of cs) ≡ true → is_ending cs lits ≡ true → clause_met v lits ≡ false
ending_is_missed v cs lits a e = all_missed v (assumes cs) lits (λ l h. true_by_all v (assumptions_of cs) l a h) e

-- assumptions that clash are not all true
pub clash_is_missed : (v : List Bool) (cs : List Constraint) → list_all (literal_true v) (assumptions_of cs) ≡ true → clashes cs ≡ true → ⊥
clash_is_missed v cs a h = some_both (assumptions_of cs) (λ l k. true_by_all v (assumptions_of cs) l a k) h
  where
    some_both : (lits : List Literal) → ((l : Literal) → has_literal lits l ≡ true → literal_true v l ≡ true) → list_any (λ l. assumes cs (negate l)) lits ≡ true → ⊥
    some_both [] t k = true≢false (sym k)
    some_both (m ∷ lits) t k = elim (assumes cs (negate m)) as (λ b. assumes cs (negate m) ≡ b → (b || list_any (λ l. assumes cs (negate l)) lits) ≡ true → ⊥) [
      | true ↦ λ e _. true≢false (sym (true_by_all v (assumptions_of cs) (negate m) a e) ∙ literal_true-negate v m ∙ ap not (t m (has_at_head m lits)))
      | false ↦ λ e g. some_both lits (λ l q. t l (has_behind m lits l q)) g
    ] refl k

-- ---- sums

abbrev pub roof : List Literal → ℕ
roof [] = 0
roof (l ∷ lits) = suc (l.variable + roof lits)

pub below_roof : (n : ℕ) (lits : List Literal) → roof lits ≤ n → AreBelow n lits
below_roof n [] h = tt
below_roof n (l ∷ lits) h = (omega arith, below_roof n lits (omega arith))

abbrev roofs : List (List Literal) → ℕ
roofs [] = 0
roofs (lits ∷ lists) = roof lits + roofs lists

all_sum : (n : ℕ) (v : List Bool) (lists : List (List Literal)) → roofs lists ≤ n → list_all (parity_met v) lists ≡ true → AllSum n v (map normal_form lists)
all_sum n v [] h k = tt
all_sum n v (lits ∷ lists) h k =
    let p = and_parts (parity_met v lits) _ k in
    (Sums-from_met n v lits (below_roof n lits (omega arith)) p.0, all_sum n v lists (omega arith) p.1)

pub sum_is_met : (v : List Bool) (target : List Literal) (parities : List (List Literal)) → IsSum target parities → list_all (parity_met v) parities ≡ true → parity_met v target ≡ true
sum_is_met v target parities e h =
    let n : ℕ = roof target + roofs parities in
    met-from_Sums n v target (below_roof n target (omega arith))
    (subst (Sums n v) (sym e) (Sums-sum_of n v (map normal_form parities) (all_sum n v parities (omega arith) h)))

-- ---- the same clause, the same parity

pub same_clause : (v : List Bool) (lits others : List Literal) → is_inside others lits ≡ true → clause_met v others ≡ true → clause_met v lits ≡ true
same_clause v lits [] h k = absurd (true≢false (sym k))
same_clause v lits (l ∷ others) h k =
    let p = and_parts (has_literal lits l) (is_inside others lits) h in
    elim (literal_true v l) as (λ b. literal_true v l ≡ b → (b || clause_met v others) ≡ true → clause_met v lits ≡ true) [
      | true ↦ λ e _. found v l lits e p.0
      | false ↦ λ e g. same_clause v lits others p.1 g
    ] refl k
  where
    found : (v : List Bool) (l : Literal) (lits : List Literal) → literal_true v l ≡ true → has_literal lits l ≡ true → clause_met v lits ≡ true
    found v l [] e h = absurd (true≢false (sym h))
    found v l (m ∷ lits) e h = elim (Rattle.cx_base.specs.Literals.same_literal l m) as (λ b. Rattle.cx_base.specs.Literals.same_literal l m ≡ b → (b || has_literal lits l) ≡ true → (literal_true v m || clause_met v lits) ≡ true) [
      | true ↦ λ f _. ap (λ x. x || clause_met v lits) (ap (literal_true v) (sym (are_one l m f)) ∙ e)
      | false ↦ λ f g. elim (literal_true v m) as (λ b. (b || clause_met v lits) ≡ true) [ true ↦ refl | false ↦ found v l lits e g ]
    ] refl h

original_met : (v : List Bool) (lits : List Literal) (clauses : List (List Literal)) → list_any (same_literals lits) clauses ≡ true → list_all (clause_met v) clauses ≡ true → clause_met v lits ≡ true
original_met v lits [] h k = absurd (true≢false (sym h))
original_met v lits (clause ∷ clauses) h k =
    let p = and_parts (clause_met v clause) _ k in
    elim (same_literals lits clause) as (λ b. same_literals lits clause ≡ b → (b || list_any (same_literals lits) clauses) ≡ true → clause_met v lits ≡ true) [
      | true ↦ λ e _. same_clause v lits clause (and_parts (is_inside lits clause) (is_inside clause lits) e).1 p.0
      | false ↦ λ e g. original_met v lits clauses g p.1
    ] refl h

same_parity : (v : List Bool) (p lits : List Literal) → normal_form p ≡ normal_form lits → parity_met v p ≡ true → parity_met v lits ≡ true
same_parity v p lits e h =
    let n : ℕ = roof p + roof lits in
    met-from_Sums n v lits (below_roof n lits (omega arith)) (subst (Sums n v) e (Sums-from_met n v p (below_roof n p (omega arith)) h))

met_at : (met : List Literal → Bool) (lists : List (List Literal)) (k : ℕ) (d : List Literal) → k < Rattle.std.proofs.Common.length lists → list_all met lists ≡ true → met (Rattle.std.proofs.Common.get_or lists k d) ≡ true
met_at met [] k d h a = absurd (omega arith)
met_at met (x ∷ lists) zero d h a = (and_parts (met x) _ a).0
met_at met (x ∷ lists) (suc k) d h a = met_at met lists k d (omega arith) (and_parts (met x) _ a).1

original_parity_met : (v : List Bool) (lits : List Literal) (parities : List (List Literal)) → Any (λ p. normal_form p ≡ normal_form lits) parities → list_all (parity_met v) parities ≡ true → parity_met v lits ≡ true
original_parity_met v lits parities (k, p, l, is, e) h = same_parity v p lits e (subst (λ x. parity_met v x ≡ true) is (met_at (parity_met v) parities k p l h))

-- ---- right steps keep it

pub chain_is_right : (c : ChainEnd) → is_not_unit c ≡ false → is_hints_end c ≡ false → c ≡ right
chain_is_right right h k = refl
chain_is_right not_unit h k = absurd (true≢false h)
chain_is_right hints_end h k = absurd (true≢false k)

pub right_proof_step : (formula : Problem) (v : List Bool) (tables : Tables) (s : ProofStep) → TablesMet v tables → IsRight (proof_calculus formula) tables s → TablesMet v (after_step tables s)
right_proof_step formula v tables (proof.Clause n lits hints) m (a, (b, (c, (d, (e, (f, g)))))) = record {
  clauses = met_insert (clause_met v) tables.clauses n (literals lits) m.clauses
      (chained_is_met v (literals lits) (named tables.clauses (sizes hints)) (chain_is_right _ e f) (met_named (clause_met v) tables.clauses m.clauses (sizes hints)));
  parities = m.parities;
}
right_proof_step formula v tables (proof.Parity n lits hints) m (a, (b, (c, (d, (e, f))))) = record {
  clauses = m.clauses;
  parities = met_insert (parity_met v) tables.parities n (literals lits) m.parities
      (sum_is_met v (literals lits) (named tables.parities (sizes hints)) e (met_named (parity_met v) tables.parities m.parities (sizes hints)));
}
right_proof_step formula v tables (proof.ClauseOfParity n lits hint) m (a, (b, (c, (d, (e, f))))) = record {
  clauses = met_insert (clause_met v) tables.clauses n (literals lits) m.clauses (e v (met_named (parity_met v) tables.parities m.parities (sizes (hint ∷ []))));
  parities = m.parities;
}
right_proof_step formula v tables (proof.ParityOfClauses n lits hints) m (a, (b, (c, (d, (w, (o, (e, f))))))) = record {
  clauses = m.clauses;
  parities = met_insert (parity_met v) tables.parities n (literals lits) m.parities (e v (met_named (clause_met v) tables.clauses m.clauses (sizes hints)));
}
right_proof_step formula v tables (proof.DeleteClauses n ids) m h = record { clauses = met_drop (clause_met v) ids tables.clauses m.clauses; parities = m.parities }
right_proof_step formula v tables (proof.DeleteParities ids) m h = record { clauses = m.clauses; parities = met_drop (parity_met v) ids tables.parities m.parities }

right_log_step : (formula : Problem) (v : List Bool) → MeetsGiven formula v → (tables : Tables) (s : LogStep) → TablesMet v tables → IsRight (log_calculus formula) tables s → TablesMet v (after_log_step tables s)
right_log_step formula v meets tables (log.Original n lits) m (a, (b, (e, f))) = record {
  clauses = met_insert (clause_met v) tables.clauses n (literals lits) m.clauses
      (original_met v (literals lits) (clauses_of formula.constraints) (is_so (is_original formula (literals lits)) e) meets.clauses);
  parities = m.parities;
}
  where
    is_so : (b : Bool) → not b ≡ false → b ≡ true
    is_so true h = refl
    is_so false h = absurd (true≢false h)
right_log_step formula v meets tables (log.OriginalParity n lits) m (a, (b, (e, f))) = record {
  clauses = m.clauses;
  parities = met_insert (parity_met v) tables.parities n (literals lits) m.parities
      (original_parity_met v (literals lits) (parities_of formula.constraints) e meets.parities);
}
right_log_step formula v meets tables (log.Clause n lits) m (a, (b, ((hints, live, e), f))) = record {
  clauses = met_insert (clause_met v) tables.clauses n (literals lits) m.clauses (chained_is_met v (literals lits) (named tables.clauses hints) e (met_named (clause_met v) tables.clauses m.clauses hints));
  parities = m.parities;
}
right_log_step formula v meets tables (log.ClauseWithHints n lits unused) m (a, (b, ((hints, live, e), f))) = record {
  clauses = met_insert (clause_met v) tables.clauses n (literals lits) m.clauses (chained_is_met v (literals lits) (named tables.clauses hints) e (met_named (clause_met v) tables.clauses m.clauses hints));
  parities = m.parities;
}
right_log_step formula v meets tables (log.Parity n lits sources) m (a, (b, (c, (e, f)))) = record {
  clauses = m.clauses;
  parities = met_insert (parity_met v) tables.parities n (literals lits) m.parities
      (sum_is_met v (literals lits) (named tables.parities sources) e (met_named (parity_met v) tables.parities m.parities sources));
}
right_log_step formula v meets tables (log.ClauseOfParity n lits source) m (a, (b, (c, (e, f)))) = record {
  clauses = met_insert (clause_met v) tables.clauses n (literals lits) m.clauses (e v (met_named (parity_met v) tables.parities m.parities (source ∷ [])));
  parities = m.parities;
}
right_log_step formula v meets tables (log.ParityOfClauses n lits sources) m (a, (b, (c, (w, (o, (e, f)))))) = record {
  clauses = m.clauses;
  parities = met_insert (parity_met v) tables.parities n (literals lits) m.parities (e v (met_named (clause_met v) tables.clauses m.clauses sources));
}
right_log_step formula v meets tables (log.Delete n lits) m h = record { clauses = met_drop (clause_met v) (n ∷ []) tables.clauses m.clauses; parities = m.parities }
right_log_step formula v meets tables (log.DeleteParity n lits) m h = record { clauses = m.clauses; parities = met_drop (parity_met v) (n ∷ []) tables.parities m.parities }
right_log_step formula v meets tables (log.Final n lits) m h = m
right_log_step formula v meets tables (log.FinalParity n lits) m h = m
right_log_step formula v meets tables (log.MoveClauses moves) m h = record { clauses = met_moved (clause_met v) tables.clauses moves m.clauses; parities = m.parities }
right_log_step formula v meets tables (log.MoveParities moves) m h = record { clauses = m.clauses; parities = met_moved (parity_met v) tables.parities moves m.parities }

-- ---- whole runs

pub runs_keep : {S : Type 0} (c : Calculus S) (v : List Bool) → ((t : Tables) (s : S) → TablesMet v t → IsRight c t s → TablesMet v (c.after t s))
    → (t : Tables) (ss : List S) (u : Tables) → Runs c t ss u → TablesMet v t → TablesMet v u
runs_keep c v keeps t [] u h m = subst (TablesMet v) (sym h) m
runs_keep c v keeps t (s ∷ ss) u h m = runs_keep c v keeps (c.after t s) ss u h.2 (keeps t s m h.0)

-- a met table has no clause that the values miss
put_is_met : (v : List Bool) (table : Table) (n : ℕ) (lits : List Literal) → AllMet (clause_met v) (map_.insert table n lits) → clause_met v lits ≡ true
put_is_met v table n lits m =
    let is : get (map_.insert table n lits) n ≡ Some lits = map_.get-insert nat_cmp_total table n lits n ∙ ap (λ b. cond b (Some lits) (get table n)) (itself n) in
    m n lits is
  where
    itself : (n : ℕ) → eq_by_cmp nat_cmp n n ≡ true
    itself n = Rattle.std.specs.Cmp.unsigned_tied n n ∙ Rattle.std.proofs.Common.eq-eqb n n refl

-- no values under which the assumptions are true meet what is left after a step that ends
no_ending : (v : List Bool) (cs : List Constraint) (table : Table) (n : ℕ) (lits : List Literal) → list_all (literal_true v) (assumptions_of cs) ≡ true → is_ending cs lits ≡ true → AllMet (clause_met v) (map_.insert table n lits) → ⊥
no_ending v cs table n lits a e m = true≢false (sym (put_is_met v table n lits m) ∙ ending_is_missed v cs lits a e)

pub no_ending_proof : (formula : Problem) (v : List Bool) (tables : Tables) (s : ProofStep) → list_all (literal_true v) (assumptions_of formula.constraints) ≡ true → adds_ending_clause formula s ≡ true → TablesMet v (after_step tables s) → ⊥
no_ending_proof formula v tables (proof.Clause n lits hints) a e m = no_ending v formula.constraints tables.clauses n (literals lits) a e m.clauses
no_ending_proof formula v tables (proof.ClauseOfParity n lits hint) a e m = no_ending v formula.constraints tables.clauses n (literals lits) a e m.clauses
no_ending_proof formula v tables (proof.Parity n lits hints) a e m = true≢false (sym e)
no_ending_proof formula v tables (proof.ParityOfClauses n lits hints) a e m = true≢false (sym e)
no_ending_proof formula v tables (proof.DeleteClauses n ids) a e m = true≢false (sym e)
no_ending_proof formula v tables (proof.DeleteParities ids) a e m = true≢false (sym e)

-- the clause of a log's step that ends it is met, and is an ending clause
last_is_met : (formula : Problem) (v : List Bool) (tables : Tables) (s : LogStep) → derives_ending_clause formula s ≡ true → TablesMet v (after_log_step tables s) → clause_met v (derived_clause s) ≡ true
last_is_met formula v tables (log.Clause n lits) e m = put_is_met v tables.clauses n (literals lits) m.clauses
last_is_met formula v tables (log.ClauseWithHints n lits hints) e m = put_is_met v tables.clauses n (literals lits) m.clauses
last_is_met formula v tables (log.ClauseOfParity n lits source) e m = put_is_met v tables.clauses n (literals lits) m.clauses
last_is_met formula v tables (log.Original n lits) e m = absurd (true≢false (sym e))
last_is_met formula v tables (log.OriginalParity n lits) e m = absurd (true≢false (sym e))
last_is_met formula v tables (log.Parity n lits sources) e m = absurd (true≢false (sym e))
last_is_met formula v tables (log.ParityOfClauses n lits sources) e m = absurd (true≢false (sym e))
last_is_met formula v tables (log.Delete n lits) e m = absurd (true≢false (sym e))
last_is_met formula v tables (log.DeleteParity n lits) e m = absurd (true≢false (sym e))
last_is_met formula v tables (log.Final n lits) e m = absurd (true≢false (sym e))
last_is_met formula v tables (log.FinalParity n lits) e m = absurd (true≢false (sym e))
last_is_met formula v tables (log.MoveClauses moves) e m = absurd (true≢false (sym e))
last_is_met formula v tables (log.MoveParities moves) e m = absurd (true≢false (sym e))

pub last_is_ending : (formula : Problem) (s : LogStep) → derives_ending_clause formula s ≡ true → is_ending formula.constraints (derived_clause s) ≡ true
last_is_ending formula (log.Clause n lits) e = e
last_is_ending formula (log.ClauseWithHints n lits hints) e = e
last_is_ending formula (log.ClauseOfParity n lits source) e = e
last_is_ending formula (log.Original n lits) e = absurd (true≢false (sym e))
last_is_ending formula (log.OriginalParity n lits) e = absurd (true≢false (sym e))
last_is_ending formula (log.Parity n lits sources) e = absurd (true≢false (sym e))
last_is_ending formula (log.ParityOfClauses n lits sources) e = absurd (true≢false (sym e))
last_is_ending formula (log.Delete n lits) e = absurd (true≢false (sym e))
last_is_ending formula (log.DeleteParity n lits) e = absurd (true≢false (sym e))
last_is_ending formula (log.Final n lits) e = absurd (true≢false (sym e))
last_is_ending formula (log.FinalParity n lits) e = absurd (true≢false (sym e))
last_is_ending formula (log.MoveClauses moves) e = absurd (true≢false (sym e))
last_is_ending formula (log.MoveParities moves) e = absurd (true≢false (sym e))

pub accepted_steps_are_unmet : (formula : Problem) (steps : List ProofStep) (k : ℕ) → AcceptedAt (proof_calculus formula) steps k → Unmet formula
accepted_steps_are_unmet formula steps k (inl clash) v meets = clash_is_missed v formula.constraints (assumptions_met v formula.constraints meets.all_met) clash.0
accepted_steps_are_unmet formula steps k (inr ended) v meets =
    let j = ended.1 in
    let m = runs_keep (proof_calculus formula) v (right_proof_step formula v) (first_tables formula) j.before j.tables j.runs (first_tables_met formula v meets) in
    no_ending_proof formula v j.tables j.step (assumptions_met v formula.constraints meets.all_met) j.ends (right_proof_step formula v j.tables j.step m j.right)

-- the clause of the step that ends a log follows from the formula's clauses and parities
pub ended_clause_is_met : (formula : Problem) (steps : List LogStep) (k : ℕ) (j : EndsAt (log_calculus formula) steps k) (v : List Bool) → MeetsGiven formula v → clause_met v (derived_clause j.step) ≡ true
ended_clause_is_met formula steps k j v meets =
    let start : TablesMet v no_tables = record { clauses = met_empty (clause_met v); parities = met_empty (parity_met v) } in
    let m = runs_keep (log_calculus formula) v (right_log_step formula v meets) no_tables j.before j.tables j.runs start in
    last_is_met formula v j.tables j.step j.ends (right_log_step formula v meets j.tables j.step m j.right)

pub right_steps_are_unmet : (formula : Problem) (steps : List LogStep) (k : ℕ) → AcceptedAt (log_calculus formula) steps k → Unmet formula
right_steps_are_unmet formula steps k (inl clash) v meets = clash_is_missed v formula.constraints (assumptions_met v formula.constraints meets.all_met) clash.0
right_steps_are_unmet formula steps k (inr ended) v meets =
    let j = ended.1 in
    true≢false (sym (ended_clause_is_met formula steps k j v (given_met formula v meets))
    ∙ ending_is_missed v formula.constraints (derived_clause j.step) (assumptions_met v formula.constraints meets.all_met) (last_is_ending formula j.step j.ends))
