-- Marks that come and go.
use Rattle.std.proofs.Common.{◌≡◌, ◌≢◌, refl, sym, ap, ◌∙◌, ℕ, ◌+◌, ◌<◌, ◌≤◌, Bool, true, false, cond, ◌||◌, List, [], ◌∷◌, ◌++◌, length, set, get_or, take, inl, inr, arith}
use Rattle.std.proofs.lemmas.Bool.{or_left, or_right, or_cases}
use Rattle.std.proofs.lemmas.List.{get_or-set_same, get_or-set_other, take_more}
use Rattle.cx_base.specs.Literals.{Literal, code_of, literal_of_code, same_literal}
use Rattle.cx_base.specs.Codes.{literal_of_code-code_of}
use Rattle.cx_base.proofs.LiteralLaws.{are_one}
use Rattle.cx_semantics.specs.Chain.{has_literal}
use Rattle.cx_semantics.proofs.Members.{has_left, has_right, has_pushed, has_at_head}
use Rattle.clause_tidy.specs.Marks.{is_marked, AreMarksOf, AreClear, HasSoMany}
use Rattle.clause_tidy.proofs.Literals.{not_both, by_cases, both_ways, same_is}

same_code : (l m : Literal) → code_of l ≡ code_of m → l ≡ m
same_code l m e = sym (literal_of_code-code_of l) ∙ ap literal_of_code e ∙ literal_of_code-code_of m

-- ---- one literal
module _ (marks : List Bool) (x : Literal) where
  pub marked_already : is_marked marks x ≡ true → (l : Literal) → is_marked marks l ≡ (same_literal l x || is_marked marks l)
  marked_already h l = both_ways (is_marked marks l) (same_literal l x || is_marked marks l) (λ k. or_right (same_literal l x) (is_marked marks l) k)
      (λ k. elim (or_cases (same_literal l x) (is_marked marks l) k) [ inl e ↦ ap (is_marked marks) (are_one l x e) ∙ h | inr g ↦ g ])

  module _ (low : code_of x < length marks) (b : Bool) (new : List Bool) (is : new ≡ set marks (code_of x) b) where
    pub set_here : is_marked new x ≡ b
    set_here = ap (λ (ms : List Bool). get_or ms (code_of x) false) is ∙ get_or-set_same marks (code_of x) b false low

    pub set_elsewhere : (l : Literal) → l ≢ x → is_marked new l ≡ is_marked marks l
    set_elsewhere l ne = ap (λ (ms : List Bool). get_or ms (code_of l) false) is ∙ get_or-set_other marks (code_of x) (code_of l) b false (λ e. ne (same_code l x e))

  pub marked_now : code_of x < length marks → (new : List Bool) → new ≡ set marks (code_of x) true → (l : Literal) → is_marked new l ≡ (same_literal l x || is_marked marks l)
  marked_now low new is l = by_cases (same_literal l x) (λ e. ap (is_marked new) (are_one l x e) ∙ set_here low true new is ∙ sym (or_left (same_literal l x) (is_marked marks l) e))
      (λ e. set_elsewhere low true new is l (λ same. not_both (same_literal l x) (same_is l x same) e) ∙ sym (ap (λ b. b || is_marked marks l) e))

-- ---- a list that grows
has_more : (lits : List Literal) (i : ℕ) (x l : Literal) → i < length lits → x ≡ get_or lits i x → has_literal (take (i + 1) lits) l ≡ (same_literal l x || has_literal (take i lits) l)
has_more lits i x l low at =
    let grown : take (i + 1) lits ≡ take i lits ++ x ∷ [] = take_more lits i x low ∙ ap (λ (y : Literal). take i lits ++ y ∷ []) (sym at) in
    ap (λ (ms : List Literal). has_literal ms l) grown
    ∙ both_ways (has_literal (take i lits ++ x ∷ []) l) (same_literal l x || has_literal (take i lits) l)
    (λ h. elim (has_pushed (take i lits) x l h) [ inl g ↦ or_right (same_literal l x) (has_literal (take i lits) l) g | inr e ↦ or_left (same_literal l x) (has_literal (take i lits) l) (same_is l x e) ])
    (λ h. elim (or_cases (same_literal l x) (has_literal (take i lits) l) h) [
      | inl e ↦ has_right (take i lits) (x ∷ []) l (ap (has_literal (x ∷ [])) (are_one l x e) ∙ has_at_head x [])
      | inr g ↦ has_left (take i lits) (x ∷ []) l g
    ])

module _ (lits : List Literal) (i : ℕ) (x : Literal) (low : i < length lits) (at : x ≡ get_or lits i x) (marks : List Bool) (before : AreMarksOf marks (take i lits)) where
  pub marks_more : (new : List Bool) → ((l : Literal) → is_marked new l ≡ (same_literal l x || is_marked marks l)) → AreMarksOf new (take (i + 1) lits)
  marks_more new says l = says l ∙ ap (λ b. same_literal l x || b) (before l) ∙ sym (has_more lits i x l low at)

  pub many_more : (n : ℕ) → HasSoMany (take i lits) n → HasSoMany (take (i + 1) lits) (n + cond (is_marked marks x) 0 1)
  many_more n h = by_cases (is_marked marks x)
      (λ e. record {
        different = h.different;
        once = h.once;
        same = λ l.
            h.same l ∙ sym (both_ways (has_literal (take (i + 1) lits) l) (has_literal (take i lits) l)
            (λ k. elim (or_cases (same_literal l x) (has_literal (take i lits) l) (sym (has_more lits i x l low at) ∙ k)) [
              | inl s ↦ ap (has_literal (take i lits)) (are_one l x s) ∙ sym (before x) ∙ e
              | inr g ↦ g
            ])
            (λ k. has_more lits i x l low at ∙ or_right (same_literal l x) (has_literal (take i lits) l) k));
        many = let none : ◌≡◌ {A = ℕ} (cond {A = ℕ} (is_marked marks x) 0 1) 0 = ap (λ b. cond {A = ℕ} b 0 1) e in let was = h.many in omega (arith, none, was);
      })
      (λ e. record {
        different = x ∷ h.different;
        once = (h.same x ∙ sym (before x) ∙ e, h.once);
        same = λ l. ap (λ b. same_literal l x || b) (h.same l) ∙ sym (has_more lits i x l low at);
        many = let one : ◌≡◌ {A = ℕ} (cond {A = ℕ} (is_marked marks x) 0 1) 1 = ap (λ b. cond {A = ℕ} b 0 1) e in let was = h.many in omega (arith, one, was);
      })

pub none_yet : (marks : List Bool) (lits : List Literal) → AreClear marks → AreMarksOf marks (take 0 lits)
none_yet marks lits clear l = clear l

pub no_literal : (lits : List Literal) → HasSoMany (take 0 lits) 0
no_literal lits = record { different = []; once = tt; same = λ l. refl; many = refl }

-- ---- marks that go
-- a literal that is marked is one of the list, and none of the first ones
abbrev pub AreLeft : List Bool → List Literal → ℕ → Type 0
AreLeft marks lits i = (l : Literal) → is_marked marks l ≡ true → (has_literal lits l ≡ true) × (has_literal (take i lits) l ≡ false)

pub all_are_left : (marks : List Bool) (lits : List Literal) → AreMarksOf marks lits → AreLeft marks lits 0
all_are_left marks lits h l k = (sym (h l) ∙ k, refl)

pub fewer_left : (marks : List Bool) (lits : List Literal) (i : ℕ) (x : Literal) → i < length lits → x ≡ get_or lits i x → code_of x < length marks → (new : List Bool) → new ≡ set marks (code_of x) false → AreLeft marks lits i → AreLeft new lits (i + 1)
fewer_left marks lits i x low at room new is before l k =
    let ne : l ≢ x = λ e. not_both (is_marked new x) (ap (is_marked new) (sym e) ∙ k) (set_here marks x room false new is) in
    let was = before l (sym (set_elsewhere marks x room false new is l ne) ∙ k) in
    (was.0, has_more lits i x l low at ∙ by_cases (same_literal l x) (λ s. absurd (ne (are_one l x s))) (λ s. ap (λ b. b || has_literal (take i lits) l) s ∙ was.1))

pub none_is_left : (marks : List Bool) (lits : List Literal) (i : ℕ) → take i lits ≡ lits → AreLeft marks lits i → AreClear marks
none_is_left marks lits i all h l = by_cases (is_marked marks l) (λ k. let w = h l k in not_both (has_literal lits l) w.0 (ap (λ (ms : List Literal). has_literal ms l) (sym all) ∙ w.1)) (λ k. k)

pub at_most_one : (b : Bool) → cond {A = ℕ} b 0 1 ≤ 1
at_most_one true = omega arith
at_most_one false = omega arith
