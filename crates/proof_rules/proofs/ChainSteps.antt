-- Chains, one hint at a time, and the rules of a chain by how it ends.
use Rattle.std.proofs.Common.{◌≡◌, refl, sym, ap, ◌∙◌, ◌&&◌, not, cond, Bool, true, false, ℕ, ℤ, nat_abs, ◌+◌, ◌<◌, Option, List, [], ◌∷◌, ◌++◌, append-nil, length, get_or, take, Some, None, inl, inr}
use Rattle.std.proofs.lemmas.List.{take_more}
use Rattle.std.proofs.lemmas.List.Elements.{filter-append}
use Rattle.std.proofs.lemmas.List.Folds.{list_all-append}
use Rattle.std.specs.List.{cons_option, list_all}
use Rattle.cx_base.specs.Literals.{Literal, negate, same_literal}
use Rattle.cx_semantics.specs.declared.cause.Cause.TheVariants as causes
use Rattle.cx_semantics.specs.Chain.{has_literal, negations, left, one, more, count_left, right, not_unit, hints_end, go_on, chain, HaveSame}
use Rattle.cx_semantics.specs.Judging.{AllHold, FirstFailure}
use Rattle.cx_semantics.specs.ProofRules.{is_not_unit, is_hints_end, chaining}
use Rattle.cx_semantics.specs.Tables.{Table, get}
use Rattle.cx_semantics.proofs.SameSets.{AllSame, chain_same}
use Rattle.proof_rules.specs.declared.chain.End.{End}
use Rattle.proof_rules.specs.Ends.{EndsAs, and_one}
use Rattle.proof_rules.specs.Kinds.{hinted, names_live, all_named}

-- ---- what is left of a clause, one literal at a time

count_last : (lits : List Literal) (l : Literal) → count_left (lits ++ l ∷ []) ≡ and_one (count_left lits) l
count_last [] l = refl
count_last (m ∷ lits) l = ap (λ b. cond b (one m) more) (list_all-append (same_literal m) lits (l ∷ [])) ∙ at (list_all (same_literal m) lits)
  where
    and_true : (b : Bool) → (b && true) ≡ b
    and_true true = refl
    and_true false = refl

    at : (a : Bool) → cond (a && (same_literal m l && true)) (one m) more ≡ and_one (cond a (one m) more) l
    at true = ap (λ b. cond b (one m) more) (and_true (same_literal m l))
    at false = refl

module _ (assumed clause : List Literal) (i : ℕ) (x : Literal) (less : i < length clause) (here : x ≡ get_or clause i x) where
  left_last : left assumed (take (i + 1) clause) ≡ left assumed (take i clause) ++ cond (not (has_literal assumed (negate x))) (x ∷ []) []
  left_last =
      ap (left assumed) (take_more clause i x less ∙ ap (λ y. take i clause ++ y ∷ []) (sym here))
      ∙ filter-append (λ l. not (has_literal assumed (negate l))) (take i clause) (x ∷ [])

  pub one_left_more : has_literal assumed (negate x) ≡ false → and_one (count_left (left assumed (take i clause))) x ≡ count_left (left assumed (take (i + 1) clause))
  one_left_more free =
      sym (count_last (left assumed (take i clause)) x)
      ∙ sym (ap count_left (left_last ∙ ap (λ b. left assumed (take i clause) ++ cond (not b) (x ∷ []) []) free))

  pub none_left_more : has_literal assumed (negate x) ≡ true → count_left (left assumed (take i clause)) ≡ count_left (left assumed (take (i + 1) clause))
  none_left_more taken =
      ap count_left (sym (append-nil (left assumed (take i clause))))
      ∙ sym (ap count_left (left_last ∙ ap (λ b. left assumed (take i clause) ++ cond (not b) (x ∷ []) []) taken))

-- ---- chains

all_same : (clauses : List (List Literal)) → AllSame clauses clauses
all_same [] = tt
all_same (c ∷ cs) = (λ l. refl, all_same cs)

pub chain-same : (a b : List Literal) (clauses : List (List Literal)) → HaveSame a b → chain a clauses ≡ chain b clauses
chain-same a b clauses h = chain_same clauses clauses a b (all_same clauses) h

pub chain-hint : (assumed : List Literal) (table : Table) (z : ℤ) (zs : List ℤ) (clause : List Literal) → get table (nat_abs z) ≡ Some clause → chain assumed (clause ∷ hinted table zs) ≡ chain assumed (hinted table (z ∷ zs))
chain-hint assumed table z zs clause h = ap (λ o. chain assumed (cons_option o (hinted table zs))) (sym h)

pub chain-no_hint : (assumed : List Literal) (table : Table) (z : ℤ) (zs : List ℤ) → get table (nat_abs z) ≡ None → chain assumed (hinted table zs) ≡ chain assumed (hinted table (z ∷ zs))
chain-no_hint assumed table z zs h = ap (λ o. chain assumed (cons_option o (hinted table zs))) (sym h)

-- the one literal that is left is assumed from then on
pub chain-one : (assumed new clause : List Literal) (clauses : List (List Literal)) (l : Literal) → one l ≡ count_left (left assumed clause) → HaveSame new (l ∷ assumed) → chain new clauses ≡ chain assumed (clause ∷ clauses)
chain-one assumed new clause clauses l e h = chain-same new (l ∷ assumed) clauses h ∙ ap (λ c. go_on c (λ m. chain (m ∷ assumed) clauses)) e

-- the chain after a hint with one literal left ends as the one from it on
pub ends_on : (table : Table) (assumed new clause : List Literal) (l : Literal) (z : ℤ) (zs : List ℤ) → names_live table z ≡ true → get table (nat_abs z) ≡ Some clause → one l ≡ count_left (left assumed clause) → HaveSame new (l ∷ assumed) → (end : Option End) → EndsAs table new zs end → EndsAs table assumed (z ∷ zs) end
ends_on table assumed new clause l z zs named here is_one same None h = ap (λ b. b && all_named table zs) named ∙ h
ends_on table assumed new clause l z zs named here is_one same (Some end) h =
    (ap (λ b. b && all_named table zs) named ∙ h.0, h.1 ∙ chain-one assumed new clause (hinted table zs) l is_one same ∙ chain-hint assumed table z zs clause here)

module _ (target : List Literal) (clauses : List (List Literal)) where
  pub right_holds : right ≡ chain (negations target) clauses → AllHold (chaining target clauses)
  right_holds e = (ap is_not_unit (sym e), (ap is_hints_end (sym e), tt))

  pub not_unit_fails : not_unit ≡ chain (negations target) clauses → FirstFailure (chaining target clauses) causes.HintNotUnit
  not_unit_fails e = inl (ap is_not_unit (sym e), refl)

  pub hints_end_fails : hints_end ≡ chain (negations target) clauses → FirstFailure (chaining target clauses) causes.HintsEnd
  hints_end_fails e = inr (ap is_not_unit (sym e), inl (ap is_hints_end (sym e), refl))
