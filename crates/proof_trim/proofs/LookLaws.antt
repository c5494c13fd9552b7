-- What is under a name after a step, and rules over tables that agree on the hints.
use Rattle.std.proofs.Common.{◌≡◌, refl, sym, ap, ◌∙◌, subst, ℕ, ℤ, nat_abs, nat_eq, Bool, true, false, cond, not, ◌||◌, List, [], ◌∷◌, ◌++◌, fold, Option, Some, None, is_some, true≢false, eqb-true, eq-eqb}
use Rattle.std.specs.List.{list_any, cons_option}
use Rattle.std.specs.Cmp.{nat_cmp_total, unsigned_tied}
use Rattle.std.specs.FinMap as map_
use Rattle.std.proofs.lemmas.Bool.{or_parts, or_left, or_right}
use Rattle.cx_base.specs.Literals.{Literal}
use Rattle.cx_base.specs.Problem.{Problem}
use Rattle.cx_base.specs.Integers.{literals, sizes}
use Rattle.cx_base.specs.declared.steps.ProofStep.{ProofStep}
use Rattle.cx_base.specs.declared.steps.ProofStep.TheVariants as proof
use Rattle.cx_semantics.specs.Tables.{Table, Tables, get, is_live, named}
use Rattle.cx_semantics.specs.Judging.{Rule, AllHold, IsRight}
use Rattle.cx_semantics.specs.ProofRules.{adding, hinting, proof_calculus, after_step}
use Rattle.proof_trim.specs.Names.{Name, clause, parity, look, puts, takes_out, has_hint}
use Rattle.proof_trim.specs.Trimmed.{stays}

-- ---- after a step

-- the literals that a step puts
abbrev pub put_lits : ProofStep → List Literal
put_lits (proof.Clause n lits hints) = literals lits
put_lits (proof.Parity n lits hints) = literals lits
put_lits (proof.ClauseOfParity n lits hint) = literals lits
put_lits (proof.ParityOfClauses n lits hints) = literals lits
put_lits (proof.DeleteClauses n ids) = []
put_lits (proof.DeleteParities ids) = []

abbrev pub Content : Type 0
Content = Option (List Literal)

-- what is there after the step, where this was there before it
abbrev pub look_after : ProofStep → Name → Content → Content
look_after s name old = cond (takes_out s name) None (cond (puts s name) (Some (put_lits s)) old)

inserted : (table : Table) (n : ℕ) (lits : List Literal) (m : ℕ) → get (map_.insert table n lits) m ≡ cond (nat_eq m n) (Some lits) (get table m)
inserted table n lits m = map_.get-insert nat_cmp_total table n lits m ∙ ap (λ b. cond b (Some lits) (get table m)) (unsigned_tied m n)

removed : (table : Table) (n m : ℕ) → get (map_.remove table n) m ≡ cond (nat_eq m n) None (get table m)
removed table n m = map_.get-remove nat_cmp_total table n m ∙ ap (λ b. cond b None (get table m)) (unsigned_tied m n)

two_conds : (a b : Bool) (x : Content) → cond b None (cond a None x) ≡ cond (a || b) None x
two_conds true true x = refl
two_conds true false x = refl
two_conds false b x = refl

dropped : (ids : List ℕ) (table : Table) (m : ℕ) → get (fold map_.remove table ids) m ≡ cond (list_any (λ k. nat_eq m k) ids) None (get table m)
dropped [] table m = refl
dropped (k ∷ ids) table m =
    dropped ids (map_.remove table k) m
    ∙ ap (λ o. cond (list_any (λ i. nat_eq m i) ids) None o) (removed table k m)
    ∙ two_conds (nat_eq m k) (list_any (λ i. nat_eq m i) ids) (get table m)

pub none_any : {A : Type 0} (xs : List A) → list_any (λ x. false) xs ≡ false
none_any [] = refl
none_any (x ∷ xs) = none_any xs

pub look-after_step : (t : Tables) (s : ProofStep) (name : Name) → look (after_step t s) name ≡ look_after s name (look t name)
look-after_step t (proof.Clause n lits hints) (clause m) = inserted t.clauses n (literals lits) m
look-after_step t (proof.Clause n lits hints) (parity m) = refl
look-after_step t (proof.Parity n lits hints) (clause m) = refl
look-after_step t (proof.Parity n lits hints) (parity m) = inserted t.parities n (literals lits) m
look-after_step t (proof.ClauseOfParity n lits hint) (clause m) = inserted t.clauses n (literals lits) m
look-after_step t (proof.ClauseOfParity n lits hint) (parity m) = refl
look-after_step t (proof.ParityOfClauses n lits hints) (clause m) = refl
look-after_step t (proof.ParityOfClauses n lits hints) (parity m) = inserted t.parities n (literals lits) m
look-after_step t (proof.DeleteClauses n ids) (clause m) = dropped ids t.clauses m
look-after_step t (proof.DeleteClauses n ids) (parity m) = ap (λ b. cond b None (get t.parities m)) (sym (none_any ids))
look-after_step t (proof.DeleteParities ids) (clause m) = ap (λ b. cond b None (get t.clauses m)) (sym (none_any ids))
look-after_step t (proof.DeleteParities ids) (parity m) = dropped ids t.parities m

-- ---- names that are free, and names that a deletion takes out

pub none_of : (o : Content) → is_some o ≡ false → o ≡ None
none_of None h = refl
none_of (Some x) h = absurd (true≢false h)

free_at : (table : Table) (n m : ℕ) → nat_eq m n ≡ true → is_live table n ≡ false → get table m ≡ None
free_at table n m e h = none_of (get table m) (subst (λ x. is_live table x ≡ false) (sym (eqb-true m n e)) h)

-- nothing is under the name that a right step puts
pub free_name : (formula : Problem) (t : Tables) (s : ProofStep) (name : Name) → IsRight (proof_calculus formula) t s → puts s name ≡ true → look t name ≡ None
free_name formula t (proof.Clause n lits hints) (clause m) (a, (b, r)) e = free_at t.clauses n m e b
free_name formula t (proof.Clause n lits hints) (parity m) h e = absurd (true≢false (sym e))
free_name formula t (proof.Parity n lits hints) (clause m) h e = absurd (true≢false (sym e))
free_name formula t (proof.Parity n lits hints) (parity m) (a, (b, r)) e = free_at t.parities n m e b
free_name formula t (proof.ClauseOfParity n lits hint) (clause m) (a, (b, r)) e = free_at t.clauses n m e b
free_name formula t (proof.ClauseOfParity n lits hint) (parity m) h e = absurd (true≢false (sym e))
free_name formula t (proof.ParityOfClauses n lits hints) (clause m) h e = absurd (true≢false (sym e))
free_name formula t (proof.ParityOfClauses n lits hints) (parity m) (a, (b, r)) e = free_at t.parities n m e b
free_name formula t (proof.DeleteClauses n ids) name h e = absurd (true≢false (sym e))
free_name formula t (proof.DeleteParities ids) name h e = absurd (true≢false (sym e))

gone_one : (ids : List ℕ) (table : Table) (i m : ℕ) (b : Bool) → nat_eq m i ≡ b → list_any (is_live table) (i ∷ ids) ≡ false → list_any (λ k. nat_eq m k) (i ∷ ids) ≡ true
    → (list_any (is_live table) ids ≡ false → list_any (λ k. nat_eq m k) ids ≡ true → get table m ≡ None) → get table m ≡ None
gone_one ids table i m true e h k more = free_at table i m e (or_parts (is_live table i) (list_any (is_live table) ids) h).0
gone_one ids table i m false e h k more = more (or_parts (is_live table i) (list_any (is_live table) ids) h).1 (sym (ap (λ b. b || list_any (λ j. nat_eq m j) ids) e) ∙ k)

gone : (ids : List ℕ) (table : Table) (m : ℕ) → list_any (is_live table) ids ≡ false → list_any (λ k. nat_eq m k) ids ≡ true → get table m ≡ None
gone [] table m h k = absurd (true≢false (sym k))
gone (i ∷ ids) table m h k = gone_one ids table i m (nat_eq m i) refl h k (gone ids table m)

-- nothing is under a name that a deletion which does not stay would take out
pub gone_name : (needed : ℕ → Bool) (n : ℕ) (t : Tables) (s : ProofStep) (name : Name) → stays needed n t s ≡ false → takes_out s name ≡ true → look t name ≡ None
gone_name needed n t (proof.Clause id lits hints) name h e = absurd (true≢false (sym e))
gone_name needed n t (proof.Parity id lits hints) name h e = absurd (true≢false (sym e))
gone_name needed n t (proof.ClauseOfParity id lits hint) name h e = absurd (true≢false (sym e))
gone_name needed n t (proof.ParityOfClauses id lits hints) name h e = absurd (true≢false (sym e))
gone_name needed n t (proof.DeleteClauses id ids) (clause m) h e = gone ids t.clauses m h e
gone_name needed n t (proof.DeleteClauses id ids) (parity m) h e = absurd (true≢false (sym e ∙ none_any ids))
gone_name needed n t (proof.DeleteParities ids) (clause m) h e = absurd (true≢false (sym e ∙ none_any ids))
gone_name needed n t (proof.DeleteParities ids) (parity m) h e = gone ids t.parities m h e

-- a step that puts something stays where it is needed
pub puts_stays : (needed : ℕ → Bool) (n : ℕ) (t : Tables) (s : ProofStep) (name : Name) → puts s name ≡ true → stays needed n t s ≡ needed n
puts_stays needed n t (proof.Clause id lits hints) name e = refl
puts_stays needed n t (proof.Parity id lits hints) name e = refl
puts_stays needed n t (proof.ClauseOfParity id lits hint) name e = refl
puts_stays needed n t (proof.ParityOfClauses id lits hints) name e = refl
puts_stays needed n t (proof.DeleteClauses id ids) name e = absurd (true≢false (sym e))
puts_stays needed n t (proof.DeleteParities ids) name e = absurd (true≢false (sym e))

-- ---- rules over tables in which the hints name the same

-- the second table agrees with the first on what the hints name
abbrev AgreeOn : Table → Table → List ℤ → Type 0
AgreeOn t r hints = (n : ℕ) → list_any (λ z. nat_eq n (nat_abs z)) hints ≡ true → get r n ≡ get t n

agree_head : (t r : Table) (z : ℤ) (hints : List ℤ) → AgreeOn t r (z ∷ hints) → get r (nat_abs z) ≡ get t (nat_abs z)
agree_head t r z hints h = h (nat_abs z) (or_left (nat_eq (nat_abs z) (nat_abs z)) _ (eq-eqb (nat_abs z) (nat_abs z) refl))

agree_tail : (t r : Table) (z : ℤ) (hints : List ℤ) → AgreeOn t r (z ∷ hints) → AgreeOn t r hints
agree_tail t r z hints h n e = h n (or_right (nat_eq n (nat_abs z)) _ e)

same_live : (t r : Table) (hints : List ℤ) → AgreeOn t r hints → list_any (λ z. not (is_live r (nat_abs z))) hints ≡ list_any (λ z. not (is_live t (nat_abs z))) hints
same_live t r [] h = refl
same_live t r (z ∷ hints) h = λ i. not (is_some (agree_head t r z hints h i)) || same_live t r hints (agree_tail t r z hints h) i

same_named : (t r : Table) (hints : List ℤ) → AgreeOn t r hints → named r (sizes hints) ≡ named t (sizes hints)
same_named t r [] h = refl
same_named t r (z ∷ hints) h = λ i. cons_option (agree_head t r z hints h i) (same_named t r hints (agree_tail t r z hints h) i)

rules_on : (formula : Problem) (added : Table) (t r : Table) (n : ℕ) (lits hints : List ℤ) (more : List (List Literal) → List Rule) (old : Table)
    → AllHold (adding formula old n lits ++ hinting t hints ++ more (named t (sizes hints))) → is_live added n ≡ false → AgreeOn t r hints
    → AllHold (adding formula added n lits ++ hinting r hints ++ more (named r (sizes hints)))
rules_on formula added t r n lits hints more old (a, (b, (c, (d, rest)))) free h =
    (a, (free, (c, (same_live t r hints h ∙ d, subst (λ lists. AllHold (more lists)) (sym (same_named t r hints h)) rest))))

-- a step that is right over some tables is right over those that agree on its hints and have nothing under the name that it puts
pub right_over : (formula : Problem) (t r : Tables) (s : ProofStep) → IsRight (proof_calculus formula) t s → ((name : Name) → has_hint s name ≡ true → look r name ≡ look t name)
    → ((name : Name) → puts s name ≡ true → look r name ≡ None) → IsRight (proof_calculus formula) r s
right_over formula t r (proof.Clause n lits hints) h agree free =
    rules_on formula r.clauses t.clauses r.clauses n lits hints (λ lists. Rattle.cx_semantics.specs.ProofRules.chaining (literals lits) lists) t.clauses h
    (ap is_some (free (clause n) (eq-eqb n n refl))) (λ m e. agree (clause m) e)
right_over formula t r (proof.Parity n lits hints) h agree free =
    rules_on formula r.parities t.parities r.parities n lits hints (λ lists. Rattle.cx_semantics.specs.ProofRules.summing (literals lits) lists) t.parities h
    (ap is_some (free (parity n) (eq-eqb n n refl))) (λ m e. agree (parity m) e)
right_over formula t r (proof.ClauseOfParity n lits hint) h agree free =
    rules_on formula r.clauses t.parities r.parities n lits (hint ∷ []) (λ lists. Rattle.cx_semantics.specs.ProofRules.clause_of_parity (literals lits) lists) t.clauses h
    (ap is_some (free (clause n) (eq-eqb n n refl))) (λ m e. agree (parity m) e)
right_over formula t r (proof.ParityOfClauses n lits hints) h agree free =
    rules_on formula r.parities t.clauses r.clauses n lits hints (λ lists. Rattle.cx_semantics.specs.ProofRules.parity_of_clauses (literals lits) lists) t.parities h
    (ap is_some (free (parity n) (eq-eqb n n refl))) (λ m e. agree (clause m) e)
right_over formula t r (proof.DeleteClauses n ids) h agree free = tt
right_over formula t r (proof.DeleteParities ids) h agree free = tt
