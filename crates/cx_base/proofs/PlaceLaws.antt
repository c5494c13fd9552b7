-- The places of the clauses and of the parities among the constraints.
use Rattle.std.proofs.Common.{◌≡◌, refl, sym, ap, ◌∙◌, ℕ, zero, suc, ◌+◌, ◌<◌, List, [], ◌∷◌, ◌++◌, length, get_or, Option, Some, None, arith, zero-add}
use Rattle.std.specs.Prelude.{slice_get}
use Rattle.std.specs.Option.{option_map}
use Rattle.std.specs.List.{filter_map, cons_option}
use Rattle.cx_base.specs.Literals.{Literal}
use Rattle.cx_base.specs.Problem.{literals_of, clause_in, parity_in, clauses_of, parities_of}
use Rattle.cx_base.specs.Borrowed.{constraint_at}
use Rattle.cx_base.specs.Heads.{of_kind}
use Rattle.cx_base.specs.Places.{places_from, ArePlaces, clause_place, parity_place}
use Rattle.cx_base.specs.declared.constraint.Constraint.{Constraint}
use Rattle.cx_base.specs.declared.constraint.Constraint.TheVariants as constraint
use Rattle.cx_base.specs.declared.formula.ConstraintKind.{ConstraintKind}
use Rattle.cx_base.specs.declared.formula.ConstraintKind.TheVariants as kind

abbrev Pick : Type 0
Pick = Constraint → Option (List Literal)

-- ---- one constraint more

put_behind : (o : Option ℕ) (xs ys : List ℕ) → cons_option o (xs ++ ys) ≡ cons_option o xs ++ ys
put_behind None xs ys = refl
put_behind (Some x) xs ys = refl

places_from-push : (pick : Pick) (n : ℕ) (cs : List Constraint) (c : Constraint) → places_from pick n (cs ++ c ∷ []) ≡ places_from pick n cs ++ places_from pick (n + length cs) (c ∷ [])
places_from-push pick n [] c = let e : n ≡ n + length {A = Constraint} [] = omega arith in ap (λ m. places_from pick m (c ∷ [])) e
places_from-push pick n (d ∷ cs) c =
    let here = option_map (λ lits. n) (pick d) in
    let e : (n + 1) + length cs ≡ n + length (d ∷ cs) = omega arith in
    ap (cons_option here) (places_from-push pick (n + 1) cs c ∙ ap (λ m. places_from pick (n + 1) cs ++ places_from pick m (c ∷ [])) e)
    ∙ put_behind here (places_from pick (n + 1) cs) (places_from pick (n + length (d ∷ cs)) (c ∷ []))

one_clause : (k : ConstraintKind) (lits : List Literal) (n : ℕ) → places_from clause_in n (of_kind k lits ∷ []) ≡ clause_place k n
one_clause kind.Clause lits n = refl
one_clause kind.Parity lits n = refl
one_clause kind.Assume lits n = refl

one_parity : (k : ConstraintKind) (lits : List Literal) (n : ℕ) → places_from parity_in n (of_kind k lits ∷ []) ≡ parity_place k n
one_parity kind.Clause lits n = refl
one_parity kind.Parity lits n = refl
one_parity kind.Assume lits n = refl

pub places_pushed : (a b a' b' : List ℕ) (cs ds : List Constraint) (k : ConstraintKind) (lits : List Literal) (n : ℕ) → ArePlaces a b cs → ds ≡ cs ++ of_kind k lits ∷ [] → n ≡ length cs
    → a' ≡ a ++ clause_place k n → b' ≡ b ++ parity_place k n → ArePlaces a' b' ds
places_pushed a b a' b' cs ds k lits n p more at e f =
    let same : 0 + length cs ≡ n = omega (arith, at) in
    record {
      of_clauses = e ∙ ap (λ xs. xs ++ clause_place k n) p.of_clauses
          ∙ sym (ap (places_from clause_in 0) more ∙ places_from-push clause_in 0 cs (of_kind k lits)
          ∙ ap (λ m. places_from clause_in 0 cs ++ places_from clause_in m (of_kind k lits ∷ [])) same ∙ ap (λ xs. places_from clause_in 0 cs ++ xs) (one_clause k lits n));
      of_parities = f ∙ ap (λ xs. xs ++ parity_place k n) p.of_parities
          ∙ sym (ap (places_from parity_in 0) more ∙ places_from-push parity_in 0 cs (of_kind k lits)
          ∙ ap (λ m. places_from parity_in 0 cs ++ places_from parity_in m (of_kind k lits ∷ [])) same ∙ ap (λ xs. places_from parity_in 0 cs ++ xs) (one_parity k lits n));
    }

pub no_places : (a b : List ℕ) (cs : List Constraint) → a ≡ [] → b ≡ [] → cs ≡ [] → ArePlaces a b cs
no_places a b cs e f g = record { of_clauses = e ∙ sym (ap (places_from clause_in 0) g); of_parities = f ∙ sym (ap (places_from parity_in 0) g) }

-- ---- how many there are, and what is at each

longer_by : (o : Option (List Literal)) (n : ℕ) (xs : List ℕ) (ys : List (List Literal)) → length xs ≡ length ys → length (cons_option (option_map (λ lits. n) o) xs) ≡ length (cons_option o ys)
longer_by None n xs ys e = e
longer_by (Some lits) n xs ys e = ap suc e

length-places_from : (pick : Pick) (n : ℕ) (cs : List Constraint) → length (places_from pick n cs) ≡ length (filter_map pick cs)
length-places_from pick n [] = refl
length-places_from pick n (c ∷ cs) = longer_by (pick c) n (places_from pick (n + 1) cs) (filter_map pick cs) (length-places_from pick (n + 1) cs)

-- the place is one of a constraint that is picked, whose literals are those of the same number
abbrev StandsAt : Pick → ℕ → List Constraint → ℕ → Option (List Literal) → Type 0
StandsAt pick n cs place lits = (i : ℕ) × (place ≡ n + i) × (i < length cs) × (pick (constraint_at cs i) ≡ lits)

further : (pick : Pick) (n : ℕ) (c : Constraint) (cs : List Constraint) (place : ℕ) (lits : Option (List Literal)) → StandsAt pick (n + 1) cs place lits → StandsAt pick n (c ∷ cs) place lits
further pick n c cs place lits (i, at, less, is) = (suc i, omega arith, omega arith, is)

placed_by : (pick : Pick) (n : ℕ) (c : Constraint) (cs : List Constraint) (o : Option (List Literal)) (k d : ℕ) → pick c ≡ o
    → ((j : ℕ) → j < length (places_from pick (n + 1) cs) → StandsAt pick (n + 1) cs (get_or (places_from pick (n + 1) cs) j d) (slice_get (filter_map pick cs) j))
    → k < length (cons_option (option_map (λ lits. n) o) (places_from pick (n + 1) cs))
    → StandsAt pick n (c ∷ cs) (get_or (cons_option (option_map (λ lits. n) o) (places_from pick (n + 1) cs)) k d) (slice_get (cons_option o (filter_map pick cs)) k)
placed_by pick n c cs None k d e h less = further pick n c cs _ _ (h k less)
placed_by pick n c cs (Some lits) zero d e h less = (0, omega arith, omega arith, e)
placed_by pick n c cs (Some lits) (suc k) d e h less = further pick n c cs _ _ (h k (omega arith))

placed_at : (pick : Pick) (n : ℕ) (cs : List Constraint) (k d : ℕ) → k < length (places_from pick n cs) → StandsAt pick n cs (get_or (places_from pick n cs) k d) (slice_get (filter_map pick cs) k)
placed_at pick n [] k d less = absurd (omega arith)
placed_at pick n (c ∷ cs) k d less = placed_by pick n c cs (pick c) k d refl (λ j. placed_at pick (n + 1) cs j d) less

-- ---- of a whole formula

pub length-clauses_of : (a b : List ℕ) (cs : List Constraint) → ArePlaces a b cs → length a ≡ length (clauses_of cs)
unfolding clauses_of
length-clauses_of a b cs p = ap length p.of_clauses ∙ length-places_from clause_in 0 cs

pub length-parities_of : (a b : List ℕ) (cs : List Constraint) → ArePlaces a b cs → length b ≡ length (parities_of cs)
unfolding parities_of
length-parities_of a b cs p = ap length p.of_parities ∙ length-places_from parity_in 0 cs

some_there : (xs : List (List Literal)) (k : ℕ) → k < length xs → slice_get xs k ≡ None → ⊥
some_there [] k less none = omega arith
some_there (x ∷ xs) zero less none = cc
some_there (x ∷ xs) (suc k) less none = some_there xs k (omega arith) none

clause_lits : (c : Constraint) (xs : List (List Literal)) (k : ℕ) → clause_in c ≡ slice_get xs k → k < length xs → slice_get xs k ≡ Some (literals_of c)
clause_lits (constraint.Clause lits) xs k e less = sym e
clause_lits (constraint.Parity lits) xs k e less = absurd (some_there xs k less (sym e))
clause_lits (constraint.Assume lits) xs k e less = absurd (some_there xs k less (sym e))

parity_lits : (c : Constraint) (xs : List (List Literal)) (k : ℕ) → parity_in c ≡ slice_get xs k → k < length xs → slice_get xs k ≡ Some (literals_of c)
parity_lits (constraint.Clause lits) xs k e less = absurd (some_there xs k less (sym e))
parity_lits (constraint.Parity lits) xs k e less = sym e
parity_lits (constraint.Assume lits) xs k e less = absurd (some_there xs k less (sym e))

-- the constraint at the place of the k-th clause has its literals
pub record HasLiteralsAt (cs : List Constraint) (place : ℕ) (lits : Option (List Literal)) : Type 0 where
  pub less : place < length cs
  pub is : lits ≡ Some (literals_of (constraint_at cs place))

pub clause_at : (a b : List ℕ) (cs : List Constraint) (k place : ℕ) → ArePlaces a b cs → k < length (clauses_of cs) → place ≡ get_or a k place → HasLiteralsAt cs place (slice_get (clauses_of cs) k)
unfolding clauses_of
clause_at a b cs k place p less at =
    let long = length-places_from clause_in 0 cs in
    let there = placed_at clause_in 0 cs k place (omega (arith, long, less)) in
    let here : place ≡ there.0 = at ∙ ap (λ xs. get_or xs k place) p.of_clauses ∙ there.1 ∙ zero-add there.0 in
    record {
      less = omega (arith, here, there.2);
      is = clause_lits (constraint_at cs there.0) (filter_map clause_in cs) k there.3 less ∙ ap (λ i. Some (literals_of (constraint_at cs i))) (sym here);
    }

pub parity_at : (a b : List ℕ) (cs : List Constraint) (k place : ℕ) → ArePlaces a b cs → k < length (parities_of cs) → place ≡ get_or b k place → HasLiteralsAt cs place (slice_get (parities_of cs) k)
unfolding parities_of
parity_at a b cs k place p less at =
    let long = length-places_from parity_in 0 cs in
    let there = placed_at parity_in 0 cs k place (omega (arith, long, less)) in
    let here : place ≡ there.0 = at ∙ ap (λ xs. get_or xs k place) p.of_parities ∙ there.1 ∙ zero-add there.0 in
    record {
      less = omega (arith, here, there.2);
      is = parity_lits (constraint_at cs there.0) (filter_map parity_in cs) k there.3 less ∙ ap (λ i. Some (literals_of (constraint_at cs i))) (sym here);
    }
