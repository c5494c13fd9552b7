-- What is right over the constraints of a log is right over those of its proof, whose content is alike.
use Rattle.std.proofs.Common.{◌≡◌, refl, sym, ap, ◌∙◌, subst, ℕ, ◌+◌, ◌≤◌, ℤ, pos, nat_abs, Bool, true, false, not, ◌&&◌, ◌||◌, List, [], ◌∷◌, map, filter_map, Option, Some, None, is_some, arith, true≢false}
use Rattle.std.specs.List.{list_any, list_all, cons_option}
use Rattle.std.specs.Bool.{⊤}
use Rattle.std.specs.FinSet as set
use Rattle.std.proofs.lemmas.Bool.{and_parts}
use Rattle.cx_base.specs.Literals.{Literal, same_literal}
use Rattle.cx_base.specs.Problem.{clause_met, parity_met}
use Rattle.cx_base.specs.Parity.{normal_form, sum_of}
use Rattle.cx_base.proofs.ParityLaws.{Sums, Sums-from_met, met-from_Sums}
use Rattle.cx_semantics.specs.Chain.{has_literal, is_inside, IsChain, HaveSame}
use Rattle.cx_base.specs.Integers.{is_negative, sizes}
use Rattle.cx_semantics.specs.Judging.{AllHold}
use Rattle.cx_semantics.specs.LogRules.{AreLive}
use Rattle.cx_semantics.specs.ProofRules.{hinting, summing, all_met, clause_of_parity, parity_of_clauses}
use Rattle.cx_semantics.specs.Tables.{Table, get, is_live, named, numbered_from}
use Rattle.cx_semantics.proofs.SameSets.{AllSame, chain_stays_right}
use Rattle.cx_base.proofs.LiteralLaws.{are_one}
use Rattle.cx_semantics.proofs.Closure.{inside_itself}
use Rattle.cx_semantics.proofs.Soundness.{same_clause, roof, below_roof}
use Rattle.fratx_elab.specs.Names.{Naming, stands_for}
use Rattle.fratx_elab.specs.Ties.{Tied, HaveSameForm}

-- two lists of constraints, one by one alike
abbrev pub AllAlike : (List Literal → List Literal → Type 0) → List (List Literal) → List (List Literal) → Type 0
AllAlike Alike [] [] = ⊤
AllAlike Alike [] (b ∷ bs) = ⊥
AllAlike Alike (a ∷ as_) [] = ⊥
AllAlike Alike (a ∷ as_) (b ∷ bs) = Alike a b × AllAlike Alike as_ bs

abbrev pub numbers : Naming → List ℕ → List ℕ
numbers naming ids = filter_map (stands_for naming) ids

module _ (Alike : List Literal → List Literal → Type 0) (lists : List (List Literal)) (log proof : Table) (naming : Naming) (tie : Tied Alike (numbered_from 1 lists) (Rattle.std.proofs.Common.length lists) log proof naming) where
  -- what live ids of the log name, and what stands for them
  pub named_alike : (ids : List ℕ) → AreLive log ids → AllAlike Alike (named log ids) (named proof (numbers naming ids)) × AreLive proof (numbers naming ids)
  named_alike [] h = (tt, tt)
  named_alike (n ∷ ids) h =
      let rest = named_alike ids h.1 in
      go (get log n) refl (stands_for naming n) refl h.0 (sym (tie.keyed n) ∙ h.0) rest
    where
      go : (o : Option (List Literal)) → get log n ≡ o → (q : Option ℕ) → stands_for naming n ≡ q → is_live log n ≡ true → is_some (stands_for naming n) ≡ true
          → AllAlike Alike (named log ids) (named proof (numbers naming ids)) × AreLive proof (numbers naming ids)
          → AllAlike Alike (cons_option (get log n) (named log ids)) (named proof (cons_option (stands_for naming n) (numbers naming ids))) × AreLive proof (cons_option (stands_for naming n) (numbers naming ids))
      go None e q f live some rest = absurd (true≢false (sym live ∙ ap is_some e))
      go (Some lits) e None f live some rest = absurd (true≢false (sym some ∙ ap is_some f))
      go (Some lits) e (Some p) f live some rest =
          let a = tie.alike n p lits e f in
          let P : Option (List Literal) → Option ℕ → Type 0 = λ o q. AllAlike Alike (cons_option o (named log ids)) (named proof (cons_option q (numbers naming ids))) × AreLive proof (cons_option q (numbers naming ids)) in
          let there : AllAlike Alike (lits ∷ named log ids) (cons_option (get proof p) (named proof (numbers naming ids))) =
          subst (λ o. AllAlike Alike (lits ∷ named log ids) (cons_option o (named proof (numbers naming ids)))) (sym a.1) (a.2, rest.0) in
          subst (λ o. P o (stands_for naming n)) (sym e) (subst (P (Some lits)) (sym f) (there, (ap is_some a.1, rest.1)))

-- ---- hints

sizes_pos : (ns : List ℕ) → sizes (map pos ns) ≡ ns
sizes_pos [] = refl
sizes_pos (n ∷ ns) = ap (λ ms. n ∷ ms) (sizes_pos ns)

none_negative : (ns : List ℕ) → list_any is_negative (map pos ns) ≡ false
none_negative [] = refl
none_negative (n ∷ ns) = none_negative ns

all_live : (table : Table) (ns : List ℕ) → AreLive table ns → list_any (λ z. not (is_live table (nat_abs z))) (map pos ns) ≡ false
all_live table [] h = refl
all_live table (n ∷ ns) h = ap (λ b. not b || list_any (λ z. not (is_live table (nat_abs z))) (map pos ns)) h.0 ∙ all_live table ns h.1

pub hints_hold : (table : Table) (ns : List ℕ) → AreLive table ns → AllHold (hinting table (map pos ns))
hints_hold table ns h = (none_negative ns, (all_live table ns h, tt))

pub named_hints : (table : Table) (ns : List ℕ) → named table (sizes (map pos ns)) ≡ named table ns
named_hints table ns = ap (named table) (sizes_pos ns)

-- ---- chains

pub all_same : (as_ bs : List (List Literal)) → AllAlike HaveSame as_ bs → AllSame as_ bs
all_same [] [] h = tt
all_same [] (b ∷ bs) h = absurd h
all_same (a ∷ as_) [] h = absurd h
all_same (a ∷ as_) (b ∷ bs) h = (h.0, all_same as_ bs h.1)

pub chain_alike : (target : List Literal) (as_ bs : List (List Literal)) → AllAlike HaveSame as_ bs → IsChain target as_ → IsChain target bs
chain_alike target as_ bs h e = chain_stays_right target target as_ bs (λ l. refl) (all_same as_ bs h) e

-- ---- sums

forms_alike : (as_ bs : List (List Literal)) → AllAlike HaveSameForm as_ bs → map normal_form as_ ≡ map normal_form bs
forms_alike [] [] h = refl
forms_alike [] (b ∷ bs) h = absurd h
forms_alike (a ∷ as_) [] h = absurd h
forms_alike (a ∷ as_) (b ∷ bs) h = λ i. h.0 i ∷ forms_alike as_ bs h.1 i

pub sum_alike : (target : List Literal) (as_ bs : List (List Literal)) → AllAlike HaveSameForm as_ bs → AllHold (summing target as_) → AllHold (summing target bs)
sum_alike target as_ bs h (e, u) = (e ∙ ap sum_of (forms_alike as_ bs h), tt)

-- ---- clauses of parities

met_alike : (v : List Bool) (a b : List Literal) → HaveSameForm a b → parity_met v b ≡ true → parity_met v a ≡ true
met_alike v a b e h =
    let n = roof a + roof b in
    met-from_Sums n v a (below_roof n a (omega arith)) (subst (Sums n v) (sym e) (Sums-from_met n v b (below_roof n b (omega arith)) h))

all_met_alike : (v : List Bool) (as_ bs : List (List Literal)) → AllAlike HaveSameForm as_ bs → all_met parity_met bs v ≡ true → all_met parity_met as_ v ≡ true
all_met_alike v [] [] h k = refl
all_met_alike v [] (b ∷ bs) h k = absurd h
all_met_alike v (a ∷ as_) [] h k = absurd h
all_met_alike v (a ∷ as_) (b ∷ bs) h k =
    let p = and_parts (parity_met v b) (all_met parity_met bs v) k in
    ap (λ x. x && all_met parity_met as_ v) (met_alike v a b h.0 p.0) ∙ all_met_alike v as_ bs h.1 p.1

pub clause_alike : (target : List Literal) (as_ bs : List (List Literal)) → AllAlike HaveSameForm as_ bs → AllHold (clause_of_parity target as_) → AllHold (clause_of_parity target bs)
clause_alike target as_ bs h (implied, u) = (λ v k. implied v (all_met_alike v as_ bs h k), tt)

-- ---- parities of clauses

inside_alike : (a b : List Literal) → HaveSame a b → is_inside b a ≡ true
inside_alike a b h = (λ i. list_all (λ l. h l i) b) ∙ inside_itself b

none_at : (f : Literal → Bool) (a : List Literal) (m : Literal) → list_any f a ≡ false → has_literal a m ≡ true → f m ≡ false
none_at f [] m h k = absurd (true≢false (sym k))
none_at f (x ∷ a) m h k =
    let p = none_of (f x) (list_any f a) h in
    elim (same_literal m x) as (λ b. same_literal m x ≡ b → (b || has_literal a m) ≡ true → f m ≡ false) [
      | true ↦ λ e _. ap f (are_one m x e) ∙ p.0
      | false ↦ λ e g. none_at f a m p.1 g
    ] refl k
  where
    none_of : (b c : Bool) → (b || c) ≡ false → (b ≡ false) × (c ≡ false)
    none_of true c e = absurd (true≢false e)
    none_of false c e = (refl, e)

none_inside : (f : Literal → Bool) (a b : List Literal) → is_inside b a ≡ true → list_any f a ≡ false → list_any f b ≡ false
none_inside f a [] h k = refl
none_inside f a (m ∷ b) h k =
    let p = and_parts (has_literal a m) (is_inside b a) h in
    ap (λ x. x || list_any f b) (none_at f a m k p.0) ∙ none_inside f a b p.1 k

none_outside : (f : Literal → Bool) (as_ bs : List (List Literal)) → AllAlike HaveSame as_ bs → list_any (list_any f) as_ ≡ false → list_any (list_any f) bs ≡ false
none_outside f [] [] h k = refl
none_outside f [] (b ∷ bs) h k = absurd h
none_outside f (a ∷ as_) [] h k = absurd h
none_outside f (a ∷ as_) (b ∷ bs) h k = go (list_any f a) refl (none_outside f as_ bs h.1)
  where
    go : (c : Bool) → list_any f a ≡ c → (list_any (list_any f) as_ ≡ false → list_any (list_any f) bs ≡ false) → (list_any f b || list_any (list_any f) bs) ≡ false
    go true e rest = absurd (true≢false (sym (ap (λ x. x || list_any (list_any f) as_) e) ∙ k))
    go false e rest = ap (λ x. x || list_any (list_any f) bs) (none_inside f a b (inside_alike a b h.0) e) ∙ rest (sym (ap (λ x. x || list_any (list_any f) as_) e) ∙ k)

all_clauses_alike : (v : List Bool) (as_ bs : List (List Literal)) → AllAlike HaveSame as_ bs → all_met clause_met bs v ≡ true → all_met clause_met as_ v ≡ true
all_clauses_alike v [] [] h k = refl
all_clauses_alike v [] (b ∷ bs) h k = absurd h
all_clauses_alike v (a ∷ as_) [] h k = absurd h
all_clauses_alike v (a ∷ as_) (b ∷ bs) h k =
    let p = and_parts (clause_met v b) (all_met clause_met bs v) k in
    ap (λ x. x && all_met clause_met as_ v) (same_clause v a b (inside_alike a b h.0) p.0) ∙ all_clauses_alike v as_ bs h.1 p.1

pub parity_alike : (target : List Literal) (as_ bs : List (List Literal)) → AllAlike HaveSame as_ bs → AllHold (parity_of_clauses target as_) → AllHold (parity_of_clauses target bs)
parity_alike target as_ bs h (narrow, (inside, (implied, u))) =
    (narrow, (none_outside (λ l. not (set.contains (normal_form target).variables l.variable)) as_ bs h inside, (λ v k. implied v (all_clauses_alike v as_ bs h k), tt)))
