-- The parity is judged right from the clauses of its find.
use Rattle.std.proofs.Common.{◌≡◌, ◌≢◌, refl, sym, ap, ◌∙◌, subst, ℕ, zero, suc, ◌+◌, ◌<◌, ◌≤◌, Bool, true, false, cond, not, ◌&&◌, ◌||◌, nat_eq, List, [], ◌∷◌, length, map, arith, true≢false, inl, inr, ◌⊎◌, Option, Some, None, is_some}
use Rattle.std.specs.Prelude.{filter_map}
use Rattle.std.specs.Ordering.{nat_cmp}
use Rattle.std.specs.List.{AllByRecursion, Contains, list_any, list_all, All, cons_option}
use Rattle.std.proofs.lemmas.List.Elements.{recursion_from_All, All-weaker}
use Rattle.std.specs.FinSet as set
use Rattle.std.proofs.lemmas.Bool.{or_left, or_right, or_from, le-ltb, eq-eqb, ne_eqb}
use Rattle.cx_base.specs.Literals.{Literal}
use Rattle.cx_base.specs.Problem.{Problem, clauses_of, clause_met}
use Rattle.cx_base.specs.Parity.{NormalForm, normal_form}
use Rattle.cx_base.specs.declared.constraint.Constraint.TheVariants.{Clause}
use Rattle.cx_semantics.specs.Chain.{has_literal, same_literals}
use Rattle.cx_semantics.specs.Recovered.{Recovered}
use Rattle.cx_semantics.specs.Tables.{get, named, first_tables}
use Rattle.cx_semantics.proofs.Lookups.{lookup, Looks-numbered_from, ids_by}
use Rattle.cx_semantics.proofs.SameSets.{HaveSame-by_test}
use Rattle.cx_semantics.proofs.Members.{has_at_head, has_behind}
use Rattle.cx_semantics.proofs.Widths.{variables, variable_in}
use Rattle.cx_semantics.proofs.RecoveredLaws.{recovered_is_implied}
use Rattle.xor_recover.specs.declared.found.FoundParity.{FoundParity}
use Rattle.xor_recover.specs.Finds.{first_with, IsExcluding, HasLeastNumbers, IsJudgedRight}

-- the clause of a number
clause_at : (lits : List Literal) (n m : ℕ) (C : List (List Literal)) → first_with lits n C ≡ Some m → (c : List Literal) × (lookup n C m ≡ Some c) × (same_literals lits c ≡ true) × (n ≤ m)
clause_at lits n m [] e = absurd (none_is e)
  where
    none_is : {b : ℕ} → ◌≡◌ {A = Option ℕ} None (Some b) → ⊥
    none_is g = cc
clause_at lits n m (d ∷ C) e = go (same_literals lits d) refl (λ f. clause_at lits (suc n) m C (sym (ap (λ k. first_with lits k C) next) ∙ f)) e
  where
    next : n + 1 ≡ suc n
    next = omega arith

    some_is : {x y : ℕ} → Some x ≡ Some y → x ≡ y
    some_is g = cc

    go : (b : Bool) → same_literals lits d ≡ b → (first_with lits (n + 1) C ≡ Some m → (c : List Literal) × (lookup (suc n) C m ≡ Some c) × (same_literals lits c ≡ true) × (suc n ≤ m))
        → cond b (Some n) (first_with lits (n + 1) C) ≡ Some m → (c : List Literal) × (lookup n (d ∷ C) m ≡ Some c) × (same_literals lits c ≡ true) × (n ≤ m)
    go true s rest h =
        let q : n ≡ m = some_is h in
        (d, ap (λ b. cond b (Some d) (lookup (suc n) C m)) (eq-eqb m n (sym q)), s, omega arith)
    go false s rest h =
        let r = rest h in
        let low = r.3 in
        (r.0, ap (λ b. cond b (Some d) (lookup (suc n) C m)) (ne_eqb m n (λ e. omega arith)) ∙ r.1, r.2, omega arith)

-- ---- the clauses that are named

-- a clause that a literal set of the find is the same as
record IsFrom (find : FoundParity) (c : List Literal) : Type 0 where
  lits : List Literal
  excluding : IsExcluding find lits
  same : same_literals lits c ≡ true

named_all : (f : ℕ → Option (List Literal)) (P : List Literal → Type 0) (ns : List ℕ) → AllByRecursion (λ n. (c : List Literal) × (f n ≡ Some c) × P c) ns → AllByRecursion P (filter_map f ns)
named_all f P [] h = tt
named_all f P (n ∷ ns) h = subst (λ (o : Option (List Literal)). AllByRecursion P (cons_option o (filter_map f ns))) (sym h.0.1) (h.0.2, named_all f P ns h.1)

named_has : (f : ℕ → Option (List Literal)) (lits : List Literal) (ns : List ℕ) (n : ℕ) (c : List Literal) → Contains ns n → f n ≡ Some c → same_literals lits c ≡ true → list_any (same_literals lits) (filter_map f ns) ≡ true
named_has f lits [] n c h e s = absurd (let lt = h.1 in omega arith)
named_has f lits (k ∷ ns) n c h e s = elim (cases k ns n h) [
  | inl is ↦ subst (λ (o : Option (List Literal)). list_any (same_literals lits) (cons_option o (filter_map f ns)) ≡ true) (sym (ap f is ∙ e)) (or_left (same_literals lits c) _ s)
  | inr later ↦ behind (f k) (named_has f lits ns n c later e s)
]
  where
    cases : (k : ℕ) (xs : List ℕ) (x : ℕ) → Contains (k ∷ xs) x → (k ≡ x) ⊎ Contains xs x
    cases k xs x (zero, lt, e) = inl e
    cases k xs x (suc i, lt, e) = inr (i, omega arith, e)

    behind : (o : Option (List Literal)) → list_any (same_literals lits) (filter_map f ns) ≡ true → list_any (same_literals lits) (cons_option o (filter_map f ns)) ≡ true
    behind None g = g
    behind (Some d) g = or_right (same_literals lits d) _ g

none_dead : (f : ℕ → Option (List Literal)) (P : List Literal → Type 0) (ns : List ℕ) → AllByRecursion (λ n. (c : List Literal) × (f n ≡ Some c) × P c) ns → list_any (λ n. not (is_some (f n))) ns ≡ false
none_dead f P [] h = refl
none_dead f P (n ∷ ns) h = or_from _ _ (ap (λ o. not (is_some o)) h.0.1) (none_dead f P ns h.1)

outside : NormalForm → List Literal → Bool
outside form c = list_any (λ (l : Literal). not (set.contains form.variables l.variable)) c

none_outside : (form : NormalForm) (c : List Literal) → ((l : Literal) → has_literal c l ≡ true → set.contains form.variables l.variable ≡ true) → outside form c ≡ false
unfolding outside
none_outside form [] h = refl
none_outside form (l ∷ c) h = or_from _ _ (ap not (h l (has_at_head l c))) (none_outside form c (λ m g. h m (has_behind l c m g)))

inside : (find : FoundParity) (c : List Literal) → IsFrom find c → outside (normal_form find.parity) c ≡ false
inside find c from = none_outside (normal_form find.parity) c (λ l h.
    ap (λ (s : set.FinSet nat_cmp). set.contains s l.variable) (sym from.excluding.each.same)
    ∙ set.contains-from_list_nat (variables from.lits) l.variable
    ∙ variable_in from.lits l (HaveSame-by_test from.lits c from.same l ∙ h))

all_inside : (find : FoundParity) (cs : List (List Literal)) → AllByRecursion (IsFrom find) cs → list_any (outside (normal_form find.parity)) cs ≡ false
all_inside find [] h = refl
all_inside find (c ∷ cs) h = or_from _ _ (inside find c h.0) (all_inside find cs h.1)

as_clauses : (cs : List (List Literal)) → clauses_of (map Clause cs) ≡ cs
unfolding clauses_of
as_clauses [] = refl
as_clauses (c ∷ cs) = ap (λ x. c ∷ x) (as_clauses cs)

pub judged : (formula : Problem) (find : FoundParity) → HasLeastNumbers formula find → Recovered formula (normal_form find.parity) → IsJudgedRight formula find
unfolding outside
judged formula find least r =
    let C = clauses_of formula.constraints in
    let table = (first_tables formula).clauses in
    let looks = Looks-numbered_from 1 C in
    let cs = named table find.clauses in
    let all : AllByRecursion (λ n. (c : List Literal) × (get table n ≡ Some c) × IsFrom find c) find.clauses = recursion_from_All (λ n. (c : List Literal) × (get table n ≡ Some c) × IsFrom find c) find.clauses (All-weaker (λ n. (lits : List Literal) × IsExcluding find lits × (first_with lits 1 C ≡ Some n)) (λ n. (c : List Literal) × (get table n ≡ Some c) × IsFrom find c) (λ n h.
    let c = clause_at h.0 1 n C h.2 in
    (c.0, looks n ∙ c.1, record { lits = h.0; excluding = h.1; same = c.2 })) find.clauses least.only) in
    let from : AllByRecursion (IsFrom find) cs = named_all (get table) (IsFrom find) find.clauses all in
    let whole : Problem = record { variables = 0; constraints = map Clause cs } in
    let of_whole = as_clauses cs in
    let again : Recovered whole (normal_form find.parity) = record {
      two = r.two;
      six = r.six;
      stands = λ lits each wrong.
          let n = least.needed lits (record { each = each; wrong = wrong }) in
          let c = clause_at lits 1 n.0 C n.2 in
          ap (list_any (same_literals lits)) of_whole ∙ named_has (get table) lits find.clauses n.0 c.0 n.1 (looks n.0 ∙ c.1) c.2;
    } in (
      ids_by table (get table) (λ k. refl) find.clauses ∙ none_dead (get table) (IsFrom find) find.clauses all,
      (
        le-ltb 12 (set.len (normal_form find.parity).variables) (let six = r.six in omega arith),
        (
          all_inside find cs from,
          ((λ values met. recovered_is_implied whole find.parity values again (ap (list_all (clause_met values)) of_whole ∙ met)), tt),
        ),
      ),
    )

pub all_judged : (formula : Problem) (finds : List FoundParity) → All (λ (f : FoundParity). Recovered formula (normal_form f.parity)) finds → All (HasLeastNumbers formula) finds → All (IsJudgedRight formula) finds
all_judged formula finds r l = λ k d lt. judged formula (Rattle.std.proofs.Common.get_or finds k d) (l k d lt) (r k d lt)
