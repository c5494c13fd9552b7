-- A trimmed proof is accepted, and no values meet its core.
use Rattle.std.proofs.Common.{◌≡◌, refl, sym, ap, ◌∙◌, subst, ℕ, suc, ◌+◌, ◌<◌, ◌≤◌, Bool, true, false, cond, nat_eq, List, [], ◌∷◌, ◌++◌, length, length-append, Some, None, is_some, arith, inl, inr, true≢false, eqb-true, IsTrue}
use Rattle.std.specs.List.{list_any, list_all}
use Rattle.std.specs.Ordering.{nat_cmp}
use Rattle.std.specs.Cmp.{nat_cmp_total, unsigned_tied}
use Rattle.std.specs.FinMap as map_
use Rattle.std.proofs.lemmas.Bool.{and_parts, and_from}
use Rattle.std.proofs.lemmas.List.Folds.{list_all-append}
use Rattle.cx_base.specs.Literals.{Literal, literal_true}
use Rattle.cx_base.specs.Problem.{Problem, Unmet, clause_met, parity_met, constraint_met, clauses_of, parities_of}
use Rattle.cx_base.specs.Assumptions.{assumptions_of}
use Rattle.cx_base.specs.declared.constraint.Constraint.{Constraint}
use Rattle.cx_base.specs.declared.constraint.Constraint.TheVariants as constraint
use Rattle.cx_base.specs.declared.steps.ProofStep.{ProofStep}
use Rattle.cx_semantics.specs.Tables.{Table, Tables, get, numbered_from, first_tables}
use Rattle.cx_semantics.specs.Judging.{EndsAt}
use Rattle.cx_semantics.specs.ProofRules.{proof_calculus}
use Rattle.cx_semantics.proofs.Lookups.{lookup, Looks-numbered_from}
use Rattle.cx_semantics.proofs.Soundness.{AllMet, TablesMet, met_insert, met_empty, right_proof_step, runs_keep, no_ending_proof, clash_is_missed}
use Rattle.proof_trim.specs.Names.{Name, clause, parity, has_hint}
use Rattle.proof_trim.specs.Needed.{IsFormulas, IsClosed, AreCore}
use Rattle.proof_trim.specs.Trimmed.{staying, trimmed, picked, core_of}
use Rattle.proof_trim.specs.Laws.{IsRefutation}
use Rattle.proof_trim.proofs.LookLaws.{Content, none_of}
use Rattle.proof_trim.proofs.Staying.{Agrees, Agree, NoneOut, Ended, ended}

-- ---- a refutation with a step ends with its last one

no_more : {A : Type 0} (xs : List A) → length xs ≡ 0 → xs ≡ []
no_more [] h = refl
no_more (x ∷ xs) h = absurd (omega arith)

abbrev EndsItself : Problem → List ProofStep → Type 0
EndsItself formula proof = EndsAt (proof_calculus formula) proof (length proof)

ends_whole : (formula : Problem) (proof : List ProofStep) (j : EndsItself formula proof) → proof ≡ j.before ++ j.step ∷ []
ends_whole formula proof j =
    let e : length proof ≡ length j.before + suc (length j.later) = ap length j.split ∙ length-append j.before (j.step ∷ j.later) in
    let none : length j.later ≡ 0 = omega (arith, e, j.number) in
    j.split ∙ ap (λ (x : List ProofStep). j.before ++ j.step ∷ x) (no_more j.later none)

last_is_chosen : (formula : Problem) (proof : List ProofStep) (needed : ℕ → Bool) → EndsItself formula proof → IsClosed proof needed → IsTrue (needed (length proof))
last_is_chosen formula proof needed j closed = closed.has_last (omega (arith, j.number))

-- ---- what stays is accepted

module _ (formula : Problem) (proof : List ProofStep) (needed : ℕ → Bool) (j : EndsItself formula proof) (closed : IsClosed proof needed) where
  abbrev None_ : Name → Type 0
  None_ name = ⊥

  none_out : NoneOut formula needed None_ proof
  none_out before later s e chosen name hint (inl (i, w, f)) = true≢false (sym (closed.has_hints before later s name i e chosen hint w) ∙ f)
  none_out before later s e chosen name hint (inr (f, o)) = o

  kept_ended : Ended formula needed None_ (first_tables formula) 1 j.before j.step
  kept_ended = ended formula needed None_ proof none_out j.step j.ends (last_is_chosen formula proof needed j closed) j.before [] 1 (first_tables formula) (first_tables formula) j.tables refl (ends_whole formula proof j)
      (λ name. inl refl) j.runs j.right

  trimmed_ends : EndsItself formula (trimmed formula needed proof)
  trimmed_ends =
      let d = kept_ended in
      let split : trimmed formula needed proof ≡ d.kept ++ j.step ∷ [] = ap (λ (x : List ProofStep). staying needed 1 (first_tables formula) x) (ends_whole formula proof j) ∙ d.split in
      record {
        before = d.kept;
        step = j.step;
        later = [];
        tables = d.tables;
        split = split;
        runs = d.runs;
        right = d.right;
        ends = j.ends;
        number = ap length split ∙ length-append d.kept (j.step ∷ []);
      }

pub trimmed_is_accepted : (formula : Problem) (proof : List ProofStep) (needed : ℕ → Bool) → IsRefutation formula proof → IsClosed proof needed → IsRefutation formula (trimmed formula needed proof)
trimmed_is_accepted formula proof needed (inl clash) closed = inl (clash.0, ap (λ (x : List ProofStep). length (trimmed formula needed x)) (no_more proof clash.1))
trimmed_is_accepted formula proof needed (inr (no_clash, j)) closed = inr (no_clash, trimmed_ends formula proof needed j closed)

-- ---- the tables of some of the formula's constraints

abbrev has_number : List ℕ → ℕ → Bool
has_number numbers n = list_any (nat_eq n) numbers

-- the lists put under the numbers from n on, without those whose number is not in the list
abbrev some_from : List ℕ → ℕ → List (List Literal) → Table
some_from numbers n [] = map_.empty
some_from numbers n (lits ∷ more) = cond (has_number numbers n) (map_.insert (some_from numbers (suc n) more) n lits) (some_from numbers (suc n) more)

none_either : (b : Bool) → cond {A = Content} b None None ≡ None
none_either true = refl
none_either false = refl

with_one : (numbers : List ℕ) (n k : ℕ) (x rest : Content) → has_number numbers n ≡ true → cond (nat_eq k n) x (cond (has_number numbers k) rest None) ≡ cond (has_number numbers k) (cond (nat_eq k n) x rest) None
with_one numbers n k x rest h = go (nat_eq k n) refl
  where
    go : (b : Bool) → nat_eq k n ≡ b → cond b x (cond (has_number numbers k) rest None) ≡ cond (has_number numbers k) (cond b x rest) None
    go true e = sym (ap (λ c. cond c x None) (ap (has_number numbers) (eqb-true k n e) ∙ h))
    go false e = refl

without_one : (numbers : List ℕ) (n k : ℕ) (x rest : Content) → has_number numbers n ≡ false → cond (has_number numbers k) rest None ≡ cond (has_number numbers k) (cond (nat_eq k n) x rest) None
without_one numbers n k x rest h = go (nat_eq k n) refl
  where
    go : (b : Bool) → nat_eq k n ≡ b → cond (has_number numbers k) rest None ≡ cond (has_number numbers k) (cond b x rest) None
    go true e = let f : has_number numbers k ≡ false = ap (has_number numbers) (eqb-true k n e) ∙ h in ap (λ c. cond c rest None) f ∙ sym (ap (λ c. cond c x None) f)
    go false e = refl

get_one : (numbers : List ℕ) (n : ℕ) (lits : List Literal) (more : List (List Literal)) (k : ℕ) (b : Bool) → has_number numbers n ≡ b
    → get (some_from numbers (suc n) more) k ≡ cond (has_number numbers k) (lookup (suc n) more k) None
    → get (some_from numbers n (lits ∷ more)) k ≡ cond (has_number numbers k) (cond (nat_eq k n) (Some lits) (lookup (suc n) more k)) None
get_one numbers n lits more k true e rest =
    ap (λ b. get (cond b (map_.insert (some_from numbers (suc n) more) n lits) (some_from numbers (suc n) more)) k) e
    ∙ map_.get-insert nat_cmp_total (some_from numbers (suc n) more) n lits k
    ∙ ap (λ b. cond b (Some lits) (get (some_from numbers (suc n) more) k)) (unsigned_tied k n)
    ∙ ap (λ (o : Content). cond (nat_eq k n) (Some lits) o) rest
    ∙ with_one numbers n k (Some lits) (lookup (suc n) more k) e
get_one numbers n lits more k false e rest =
    ap (λ b. get (cond b (map_.insert (some_from numbers (suc n) more) n lits) (some_from numbers (suc n) more)) k) e
    ∙ rest
    ∙ without_one numbers n k (Some lits) (lookup (suc n) more k) e

get-some_from : (numbers : List ℕ) (n : ℕ) (lists : List (List Literal)) (k : ℕ) → get (some_from numbers n lists) k ≡ cond (has_number numbers k) (lookup n lists k) None
get-some_from numbers n [] k = map_.get-empty nat_cmp k ∙ sym (none_either (has_number numbers k))
get-some_from numbers n (lits ∷ more) k = get_one numbers n lits more k (has_number numbers n) refl (get-some_from numbers (suc n) more k)

-- a number under which there is something is in range
in_range_one : (n : ℕ) (lits : List Literal) (more : List (List Literal)) (k : ℕ) (b : Bool) → nat_eq k n ≡ b → is_some (cond b (Some lits) (lookup (suc n) more k)) ≡ true
    → (is_some (lookup (suc n) more k) ≡ true → (suc n ≤ k) × (k < suc n + length more)) → (n ≤ k) × (k < n + suc (length more))
in_range_one n lits more k true e h rest = let is : k ≡ n = eqb-true k n e in (omega arith, omega arith)
in_range_one n lits more k false e h rest = let r = rest h in let low : suc n ≤ k = r.0 in let high : k < suc n + length more = r.1 in (omega arith, omega arith)

pub in_range : (n : ℕ) (lists : List (List Literal)) (k : ℕ) → is_some (lookup n lists k) ≡ true → (n ≤ k) × (k < n + length lists)
in_range n [] k h = absurd (true≢false (sym h))
in_range n (lits ∷ more) k h = in_range_one n lits more k (nat_eq k n) refl h (in_range (suc n) more k)

-- ---- what the core's tables lack

module _ (formula : Problem) (clauses parities : List ℕ) where
  abbrev pub some_tables : Tables
  some_tables = record { clauses = some_from clauses 1 (clauses_of formula.constraints); parities = some_from parities 1 (parities_of formula.constraints) }

  -- a constraint of the formula that the core has not
  abbrev pub IsLeftOut : Name → Type 0
  IsLeftOut (clause n) = (1 ≤ n) × (n ≤ length (clauses_of formula.constraints)) × (has_number clauses n ≡ false)
  IsLeftOut (parity n) = (1 ≤ n) × (n ≤ length (parities_of formula.constraints)) × (has_number parities n ≡ false)

  module _ (needed : ℕ → Bool) where
    agree_at : (name : Name) (whole : Content) (in_core some : Bool) → is_some whole ≡ some → (some ≡ true → in_core ≡ false → IsLeftOut name) → Agrees formula needed IsLeftOut whole (cond in_core whole None) [] name
    agree_at name whole true some e h = inl refl
    agree_at name whole false true e h = inr (refl, inr (refl, h refl refl))
    agree_at name whole false false e h = inl (sym (none_of whole e))

    one_table : (name : Name) (numbers : List ℕ) (lists : List (List Literal)) (n : ℕ) → (1 ≤ n → n ≤ length lists → has_number numbers n ≡ false → IsLeftOut name)
        → Agrees formula needed IsLeftOut (get (numbered_from 1 lists) n) (get (some_from numbers 1 lists) n) [] name
    one_table name numbers lists n h =
        let look : get (numbered_from 1 lists) n ≡ lookup 1 lists n = Looks-numbered_from 1 lists n in
        let k = agree_at name (lookup 1 lists n) (has_number numbers n) (is_some (lookup 1 lists n)) refl
        (λ some out. let r = in_range 1 lists n some in let high : n < 1 + length lists = r.1 in h r.0 (omega arith) out) in
        subst (λ (o : Content). Agrees formula needed IsLeftOut o (get (some_from numbers 1 lists) n) [] name) (sym look)
        (subst (λ (o : Content). Agrees formula needed IsLeftOut (lookup 1 lists n) o [] name) (sym (get-some_from numbers 1 lists n)) k)

    start_agrees : Agree formula needed IsLeftOut (first_tables formula) some_tables []
    start_agrees (clause n) = one_table (clause n) clauses (clauses_of formula.constraints) n (λ a b c. (a, b, c))
    start_agrees (parity n) = one_table (parity n) parities (parities_of formula.constraints) n (λ a b c. (a, b, c))

-- ---- values that meet the core meet its tables

all_but_one : (v : List Bool) (c : Constraint) (rest : List Constraint) (b : Bool) → list_all (constraint_met v) (cond b (c ∷ rest) rest) ≡ true → list_all (constraint_met v) rest ≡ true
all_but_one v c rest true h = (and_parts (constraint_met v c) (list_all (constraint_met v) rest) h).1
all_but_one v c rest false h = h

met_one : (met : List Literal → Bool) (table : Table) (n : ℕ) (lits : List Literal) (b : Bool) → (b ≡ true → met lits ≡ true) → AllMet met table → AllMet met (cond b (map_.insert table n lits) table)
met_one met table n lits true k h = met_insert met table n lits h (k refl)
met_one met table n lits false k h = h

module _ (v : List Bool) (clauses parities : List ℕ) where
  abbrev Picked : ℕ → ℕ → List Constraint → Type 0
  Picked i j items = list_all (constraint_met v) (picked clauses parities i j items) ≡ true

  clauses_met : (i j : ℕ) (items : List Constraint) → Picked i j items → AllMet (clause_met v) (some_from clauses i (clauses_of items))
  unfolding clauses_of
  clauses_met i j [] h = met_empty (clause_met v)
  clauses_met i j (constraint.Clause lits ∷ items) h =
      let rest : List Constraint = picked clauses parities (suc i) j items in
      met_one (clause_met v) (some_from clauses (suc i) (clauses_of items)) i lits (has_number clauses i)
      (λ e. (and_parts (clause_met v lits) (list_all (constraint_met v) rest) (sym (ap (λ b. list_all (constraint_met v) (cond b (constraint.Clause lits ∷ rest) rest)) e) ∙ h)).0)
      (clauses_met (suc i) j items (all_but_one v (constraint.Clause lits) rest (has_number clauses i) h))
  clauses_met i j (constraint.Parity lits ∷ items) h =
      clauses_met i (suc j) items (all_but_one v (constraint.Parity lits) (picked clauses parities i (suc j) items) (has_number parities j) h)
  clauses_met i j (constraint.Assume lits ∷ items) h = clauses_met i j items (and_parts (list_all (literal_true v) lits) _ h).1

  parities_met : (i j : ℕ) (items : List Constraint) → Picked i j items → AllMet (parity_met v) (some_from parities j (parities_of items))
  unfolding parities_of
  parities_met i j [] h = met_empty (parity_met v)
  parities_met i j (constraint.Parity lits ∷ items) h =
      let rest : List Constraint = picked clauses parities i (suc j) items in
      met_one (parity_met v) (some_from parities (suc j) (parities_of items)) j lits (has_number parities j)
      (λ e. (and_parts (parity_met v lits) (list_all (constraint_met v) rest) (sym (ap (λ b. list_all (constraint_met v) (cond b (constraint.Parity lits ∷ rest) rest)) e) ∙ h)).0)
      (parities_met i (suc j) items (all_but_one v (constraint.Parity lits) rest (has_number parities j) h))
  parities_met i j (constraint.Clause lits ∷ items) h =
      parities_met (suc i) j items (all_but_one v (constraint.Clause lits) (picked clauses parities (suc i) j items) (has_number clauses i) h)
  parities_met i j (constraint.Assume lits ∷ items) h = parities_met i j items (and_parts (list_all (literal_true v) lits) _ h).1

  -- they meet the assumptions of the whole formula
  assumed_met : (i j : ℕ) (items : List Constraint) → Picked i j items → list_all (literal_true v) (assumptions_of items) ≡ true
  unfolding assumptions_of
  assumed_met i j [] h = refl
  assumed_met i j (constraint.Clause lits ∷ items) h =
      assumed_met (suc i) j items (all_but_one v (constraint.Clause lits) (picked clauses parities (suc i) j items) (has_number clauses i) h)
  assumed_met i j (constraint.Parity lits ∷ items) h =
      assumed_met i (suc j) items (all_but_one v (constraint.Parity lits) (picked clauses parities i (suc j) items) (has_number parities j) h)
  assumed_met i j (constraint.Assume lits ∷ items) h =
      let p = and_parts (list_all (literal_true v) lits) _ h in
      list_all-append (literal_true v) lits (assumptions_of items) ∙ and_from _ _ p.0 (assumed_met i j items p.1)

-- ---- the core

module _ (formula : Problem) (proof : List ProofStep) (needed : ℕ → Bool) (clauses parities : List ℕ) (j : EndsItself formula proof) (closed : IsClosed proof needed)
    (cs : AreCore proof needed clause (length (clauses_of formula.constraints)) clauses) (ps : AreCore proof needed parity (length (parities_of formula.constraints)) parities) where
  abbrev Lacks : Name → Type 0
  Lacks = IsLeftOut formula clauses parities

  no_core_out : (before later : List ProofStep) (s : ProofStep) (name : Name) → proof ≡ before ++ s ∷ later → IsTrue (needed (length before + 1)) → IsTrue (has_hint s name) → IsFormulas before name → Lacks name → ⊥
  no_core_out before later s (clause n) e chosen hint f (low, high, out) =
      true≢false (sym ((cs.named n low high).1 (record { before = before; step = s; later = later; split = e; is_needed = chosen; hint = hint; formulas = f })) ∙ out)
  no_core_out before later s (parity n) e chosen hint f (low, high, out) =
      true≢false (sym ((ps.named n low high).1 (record { before = before; step = s; later = later; split = e; is_needed = chosen; hint = hint; formulas = f })) ∙ out)

  no_hint_out : NoneOut formula needed Lacks proof
  no_hint_out before later s e chosen name hint (inl (i, w, f)) = true≢false (sym (closed.has_hints before later s name i e chosen hint w) ∙ f)
  no_hint_out before later s e chosen name hint (inr (f, o)) = no_core_out before later s name e chosen hint f o

  core_ended : Ended formula needed Lacks (some_tables formula clauses parities) 1 j.before j.step
  core_ended = ended formula needed Lacks proof no_hint_out j.step j.ends (last_is_chosen formula proof needed j closed) j.before [] 1 (first_tables formula) (some_tables formula clauses parities) j.tables refl (ends_whole formula proof j)
      (start_agrees formula clauses parities needed) j.runs j.right

  ended_core_is_unmet : Unmet (core_of formula clauses parities)
  ended_core_is_unmet v meets =
      let d = core_ended in
      let start : TablesMet v (some_tables formula clauses parities) = record {
        clauses = clauses_met v clauses parities 1 1 formula.constraints meets.all_met;
        parities = parities_met v clauses parities 1 1 formula.constraints meets.all_met;
      } in
      let before = runs_keep (proof_calculus formula) v (right_proof_step formula v) (some_tables formula clauses parities) d.kept d.tables d.runs start in
      no_ending_proof formula v d.tables j.step (assumed_met v clauses parities 1 1 formula.constraints meets.all_met) j.ends (right_proof_step formula v d.tables j.step before d.right)

pub core_is_unmet : (formula : Problem) (proof : List ProofStep) (needed : ℕ → Bool) (clauses parities : List ℕ) → IsRefutation formula proof → IsClosed proof needed
    → AreCore proof needed clause (length (clauses_of formula.constraints)) clauses → AreCore proof needed parity (length (parities_of formula.constraints)) parities → Unmet (core_of formula clauses parities)
core_is_unmet formula proof needed clauses parities (inl clash) closed cs ps v meets = clash_is_missed v formula.constraints (assumed_met v clauses parities 1 1 formula.constraints meets.all_met) clash.0
core_is_unmet formula proof needed clauses parities (inr (no_clash, j)) closed cs ps v meets = ended_core_is_unmet formula proof needed clauses parities j closed cs ps v meets
