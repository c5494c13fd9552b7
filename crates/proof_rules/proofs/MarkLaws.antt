-- Marks at the codes of literals.
use Rattle.std.proofs.Common.{◌≡◌, ◌≢◌, refl, sym, ap, ◌∙◌, ℕ, zero, suc, ◌<◌, ◌||◌, Bool, true, false, List, [], ◌∷◌, ◌++◌, length, get_or, set, inl, inr, arith, true≢false}
use Rattle.std.proofs.lemmas.Bool.{cases_eq, cases_lt, or_cases}
use Rattle.std.proofs.lemmas.List.{get_or-set_same, get_or-set_other, get_or_past, length-set}
use Rattle.std.proofs.lemmas.List.Folds.{list_any-append}
use Rattle.cx_base.specs.Literals.{Literal, code_of, same_literal}
use Rattle.cx_base.proofs.LiteralLaws.{same_code, are_one}
use Rattle.cx_semantics.specs.Chain.{has_literal, HaveSame}
use Rattle.cx_semantics.proofs.Members.{has_at_head}
use Rattle.proof_rules.specs.LiteralSets.{AreMarks, AreMarkedOnly}

-- a place more, without a mark
pub get_or-longer : (marks : List Bool) (p : ℕ) → get_or (marks ++ false ∷ []) p false ≡ get_or marks p false
get_or-longer [] zero = refl
get_or-longer [] (suc p) = refl
get_or-longer (m ∷ marks) zero = refl
get_or-longer (m ∷ marks) (suc p) = get_or-longer marks p

-- one mark is taken away
pub marked_less : (marks : List Bool) (lit : Literal) (rest : List Literal) → AreMarkedOnly marks (lit ∷ rest) → AreMarkedOnly (set marks (code_of lit) false) rest
marked_less marks lit rest only l h = elim (cases_eq (code_of l) (code_of lit)) [
  | inl e ↦ absurd (true≢false (sym h ∙ ap (λ p. get_or (set marks (code_of lit) false) p false) e ∙ set_here))
  | inr ne ↦ elim (or_cases (same_literal l lit) (has_literal rest l) (only l (sym (get_or-set_other marks (code_of lit) (code_of l) false false ne) ∙ h))) [
    | inl is ↦ absurd (ne (ap code_of (are_one l lit is)))
    | inr k ↦ k
  ]
]
  where
    set_here : get_or (set marks (code_of lit) false) (code_of lit) false ≡ false
    set_here = elim (cases_lt (code_of lit) (length marks)) [
      | inl inside ↦ get_or-set_same marks (code_of lit) false false inside
      | inr past ↦ get_or_past (set marks (code_of lit) false) (code_of lit) false (omega (arith, past, length-set marks (code_of lit) false))
    ]

pub none_marked : (marks : List Bool) (rest : List Literal) → rest ≡ [] → AreMarkedOnly marks rest → (l : Literal) → get_or marks (code_of l) false ≡ false
none_marked marks rest done only l = elim (get_or marks (code_of l) false) as (λ b. get_or marks (code_of l) false ≡ b → b ≡ false) [
  | true ↦ λ e. absurd (true≢false (sym (only l e) ∙ ap (λ ms. has_literal ms l) done))
  | false ↦ λ _. refl
] refl

-- one literal more
or_turned : (a b : Bool) → (a || (b || false)) ≡ (b || a)
or_turned true true = refl
or_turned true false = refl
or_turned false true = refl
or_turned false false = refl

pub has_pushed_last : (lits : List Literal) (lit : Literal) → HaveSame (lits ++ lit ∷ []) (lit ∷ lits)
has_pushed_last lits lit q = list_any-append (same_literal q) lits (lit ∷ []) ∙ or_turned (has_literal lits q) (same_literal q lit)

pub marked_more : (marks : List Bool) (lits : List Literal) (lit : Literal) → code_of lit < length marks → AreMarks marks lits → AreMarks (set marks (code_of lit) true) (lits ++ lit ∷ [])
marked_more marks lits lit inside are q = elim (cases_eq (code_of q) (code_of lit)) [
  | inl e ↦ ap (λ p. get_or (set marks (code_of lit) true) p false) e ∙ get_or-set_same marks (code_of lit) true false inside
      ∙ sym (has_pushed_last lits lit q ∙ ap (has_literal (lit ∷ lits)) (same_code q lit e) ∙ has_at_head lit lits)
  | inr ne ↦ get_or-set_other marks (code_of lit) (code_of q) true false ne ∙ are q ∙ sym (has_pushed_last lits lit q ∙ ap (λ b. b || has_literal lits q) (apart ne))
]
  where
    apart : code_of q ≢ code_of lit → same_literal q lit ≡ false
    apart ne = elim (same_literal q lit) as (λ b. same_literal q lit ≡ b → b ≡ false) [
      | true ↦ λ e. absurd (ne (ap code_of (are_one q lit e)))
      | false ↦ λ _. refl
    ] refl

-- a literal that it has already
pub has_already : (lits : List Literal) (lit : Literal) → has_literal lits lit ≡ true → HaveSame lits (lit ∷ lits)
has_already lits lit h q = elim (same_literal q lit) as (λ b. same_literal q lit ≡ b → has_literal lits q ≡ (b || has_literal lits q)) [
  | true ↦ λ e. ap (has_literal lits) (are_one q lit e) ∙ h
  | false ↦ λ _. refl
] refl
