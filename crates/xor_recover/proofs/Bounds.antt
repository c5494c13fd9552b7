-- How many finds there are, and which variables they have.
use Rattle.std.proofs.Common.{◌≡◌, sym, ap, ◌∙◌, subst, ℕ, suc, ◌+◌, ◌≤◌, Bool, true, false, cond, List, [], ◌∷◌, length, map, arith, Option, Some, None, inl, inr, true≢false, length-append}
use Rattle.std.specs.Prelude.{nat_le}
use Rattle.std.specs.List.{AllByRecursion, AllZip, Contains, All, dedup, dedup_from}
use Rattle.std.proofs.lemmas.List.Elements.{Contains-append_cases}
use Rattle.cx_base.specs.Literals.{Literal, positive_of}
use Rattle.cx_base.specs.Problem.{Problem, clauses_of, AreWithin, IsWithinVariables, literals_of}
use Rattle.cx_base.specs.declared.constraint.Constraint.{Constraint}
use Rattle.cx_base.specs.declared.constraint.Constraint.TheVariants.{Clause, Parity, Assume}
use Rattle.cx_semantics.specs.Chain.{has_literal}
use Rattle.cx_semantics.proofs.Members.{has_at_head, has_behind, has_split}
use Rattle.parity_engine.specs.Written.{literals_with}
use Rattle.xor_recover.specs.declared.found.FoundParity.{FoundParity}
use Rattle.xor_recover.specs.Rows.{Row, rows_if, rows_of, gathered, row}
use Rattle.xor_recover.specs.Groups.{SaysGroup, group_of, groups_of, and_more}
use Rattle.xor_recover.proofs.Normal.{gathered_is_normal}
use Rattle.xor_recover.proofs.Numbers.{AllWithin, in_rows_if}
use Rattle.xor_recover.proofs.Sound.{FoundAll, each_find}

-- ---- at most as many finds as clauses

length_dedup_from : {X : Type 0} (same : X → X → Bool) (k : X) (xs : List X) → length (dedup_from same k xs) ≤ suc (length xs)
length_dedup_from same k [] = omega arith
length_dedup_from same k (z ∷ zs) = elim (same z k) as (λ b. length (cond b (dedup_from same k zs) (k ∷ dedup_from same z zs)) ≤ suc (suc (length zs))) [
  | true ↦ let h = length_dedup_from same k zs in omega (arith, h)
  | false ↦ let h = length_dedup_from same z zs in omega (arith, h)
]

pub length_dedup : {X : Type 0} (same : X → X → Bool) (xs : List X) → length (dedup same xs) ≤ length xs
length_dedup same [] = omega arith
length_dedup same (k ∷ xs) = length_dedup_from same k xs

few_more : (o : Option (List Row)) (gs : List (List Row)) → length (and_more o gs) ≤ suc (length gs)
few_more None gs = omega arith
few_more (Some g) gs = omega arith

few_groups : (rows : List Row) → length (groups_of rows) ≤ length rows
unfolding groups_of
few_groups [] = omega arith
few_groups (x ∷ xs) = let h = few_groups xs in let more = few_more (group_of (x ∷ xs)) (groups_of xs) in omega (arith, h, more)

zip_long : (gs : List (List Row)) (finds : List FoundParity) → AllZip SaysGroup gs finds → length finds ≡ length gs
zip_long [] [] h = Rattle.std.proofs.Common.refl
zip_long [] (f ∷ finds) h = absurd h
zip_long (g ∷ gs) [] h = absurd h
zip_long (g ∷ gs) (f ∷ finds) h = ap suc (zip_long gs finds h.1)

pub few_finds : (rows : List Row) (finds : List FoundParity) → AllZip SaysGroup (groups_of rows) finds → length finds ≤ length rows
few_finds rows finds h = let long = zip_long (groups_of rows) finds h in let few = few_groups rows in omega (arith, long, few)

pub one_row : (o : Option (List Literal)) (n : ℕ) → length (rows_if o n) ≤ 1
one_row None n = omega arith
one_row (Some ms) n = elim (nat_le 2 (length ms)) as (λ b. length (cond b (row ms n ∷ []) []) ≤ 1) [
  | true ↦ omega arith
  | false ↦ omega arith
]

pub few_rows : (n : ℕ) (C : List (List Literal)) → length (rows_of n C) ≤ length C
few_rows n [] = omega arith
few_rows n (c ∷ C) =
    let one = one_row (gathered [] c) n in
    let rest = few_rows (n + 1) C in
    let both = length-append (rows_if (gathered [] c) n) (rows_of (n + 1) C) in
    omega (arith, one, rest, both)

-- ---- the variables of a find are those of clauses

abbrev IsVariable : ℕ → ℕ → Type 0
IsVariable n v = (1 ≤ v) × (v ≤ n)

within_has : (n : ℕ) (lits : List Literal) (q : Literal) → AreWithin n lits → has_literal lits q ≡ true → IsVariable n q.variable
within_has n [] q w h = absurd (true≢false (sym h))
within_has n (l ∷ lits) q w h = elim (has_split l lits q h) [
  | inl e ↦ let v = ap (λ (x : Literal). x.variable) e in let low = w.0.0 in let high = w.0.1 in (omega (arith, v, low), omega (arith, v, high))
  | inr later ↦ within_has n lits q w.1 later
]

variables_by_has : (n : ℕ) (ms : List Literal) → ((q : Literal) → has_literal ms q ≡ true → IsVariable n q.variable) → AllByRecursion (IsVariable n) (map (λ l. l.variable) ms)
variables_by_has n [] h = tt
variables_by_has n (m ∷ ms) h = (h m (has_at_head m ms), variables_by_has n ms (λ q c. h q (has_behind m ms q c)))

row_within : (N : ℕ) (C : List (List Literal)) (n : ℕ) → AllWithin C → AllByRecursion (AreWithin N) C → (x : Row) → Contains (rows_of n C) x → AllByRecursion (IsVariable N) x.variables
row_within N [] n within w x c = absurd (let lt = c.1 in omega arith)
row_within N (d ∷ C) n within w x c = elim (Contains-append_cases (rows_if (gathered [] d) n) (rows_of (n + 1) C) x c) [
  | inl here ↦
      let found = in_rows_if (gathered [] d) n x here in
      let normal = gathered_is_normal d found.0 within.0 found.1 in
      subst (AllByRecursion (IsVariable N)) (ap (λ (r : Row). r.variables) found.3)
      (variables_by_has N found.0 (λ q h. within_has N d q w.0 (sym (normal.same q) ∙ h)))
  | inr later ↦ row_within N C (n + 1) within.1 w.1 x later
]

positives_within : (n : ℕ) (vs : List ℕ) → AllByRecursion (IsVariable n) vs → AreWithin n (map positive_of vs)
positives_within n [] h = tt
positives_within n (v ∷ vs) h = (h.0, positives_within n vs h.1)

written_within : (n : ℕ) (right : Bool) (vs : List ℕ) → AllByRecursion (IsVariable n) vs → AreWithin n (literals_with right vs)
written_within n true [] h = tt
written_within n false [] h = tt
written_within n true (v ∷ vs) h = (h.0, positives_within n vs h.1)
written_within n false (v ∷ vs) h = (h.0, positives_within n vs h.1)

clauses_within : (n : ℕ) (cs : List Constraint) → AllByRecursion (λ c. AreWithin n (literals_of c)) cs → AllByRecursion (AreWithin n) (clauses_of cs)
unfolding clauses_of
clauses_within n [] h = tt
clauses_within n (Clause lits ∷ cs) h = (h.0, clauses_within n cs h.1)
clauses_within n (Parity lits ∷ cs) h = clauses_within n cs h.1
clauses_within n (Assume lits ∷ cs) h = clauses_within n cs h.1

pub all_within : (formula : Problem) (finds : List FoundParity) → IsWithinVariables formula.variables formula.constraints → FoundAll formula finds → All (λ (f : FoundParity). AreWithin formula.variables f.parity) finds
all_within formula finds within h = each_find h.kept (λ (f : FoundParity). AreWithin formula.variables f.parity) (groups_of h.kept) finds (λ g f s.
    let x = s.group.head in
    let here : Contains h.kept x = (subst (AllByRecursion (Contains h.kept)) s.group.is s.group.from).0 in
    subst (AreWithin formula.variables) (sym s.parity)
    (written_within formula.variables x.right x.variables
    (row_within formula.variables (clauses_of formula.constraints) 1 h.within (clauses_within formula.variables formula.constraints within.1) x (h.firsts.from x here)))) h.says
