-- Clauses over sets of literals that hold no clash.
use Rattle.std.proofs.Common.{◌≡◌, refl, sym, ap, ◌∙◌, subst, Bool, true, false, cond, not, ◌||◌, List, [], ◌∷◌, inl, inr, true≢false}
use Rattle.std.specs.List.{list_any, list_all}
use Rattle.std.proofs.lemmas.Bool.{and_right, and_parts, and_from}
use Rattle.cx_base.specs.Literals.{Literal, negate, same_literal}
use Rattle.cx_base.proofs.LiteralLaws.{negate-negate, are_one, same_literal-itself}
use Rattle.cx_semantics.specs.Chain.{has_literal, is_inside, negations, left, one, more, count_left}
use Rattle.cx_semantics.specs.Fresh.{is_tautology, is_falsified, others}
use Rattle.cx_semantics.proofs.Closure.{one_is, left_has}
use Rattle.cx_semantics.proofs.Members.{has_at_head, has_behind, has_split}
use Rattle.search_steps.specs.Quiet.{HasNoClash, RestsOn, HasTrue, HasTwoOpen}
use Rattle.conflict_learn.proofs.ChainOfResolutions.{by_cases, negated_in}

pub not_both : {A : Type 0} (b : Bool) → b ≡ true → b ≡ false → A
not_both b h k = absurd (true≢false (sym h ∙ k))

-- ---- members

pub no_member : (p : Literal → Bool) (ms : List Literal) → ((l : Literal) → has_literal ms l ≡ true → p l ≡ false) → list_any p ms ≡ false
no_member p [] h = refl
no_member p (m ∷ ms) h = ap (λ b. b || list_any p ms) (h m (has_at_head m ms)) ∙ no_member p ms (λ l k. h l (has_behind m ms l k))

pub member_of_all : (p : Literal → Bool) (ms : List Literal) (l : Literal) → list_all p ms ≡ true → has_literal ms l ≡ true → p l ≡ true
member_of_all p [] l h k = not_both false k refl
member_of_all p (m ∷ ms) l h k = let q = and_parts (p m) _ h in elim (has_split m ms l k) [
  | inl e ↦ ap p e ∙ q.0
  | inr g ↦ member_of_all p ms l q.1 g
]

-- the other literals of a clause are in it and are not l
pub others_of : (lits : List Literal) (l m : Literal) → has_literal (others lits l) m ≡ true → (has_literal lits m ≡ true) × (same_literal l m ≡ false)
others_of [] l m h = not_both false h refl
others_of (x ∷ xs) l m h = elim (same_literal l x) as (λ b. same_literal l x ≡ b → has_literal (cond (not b) (x ∷ others xs l) (others xs l)) m ≡ true → (has_literal (x ∷ xs) m ≡ true) × (same_literal l m ≡ false)) [
  | true ↦ λ e g. let r = others_of xs l m g in (has_behind x xs m r.0, r.1)
  | false ↦ λ e g. elim (has_split x (others xs l) m g) [
    | inl f ↦ (ap (has_literal (x ∷ xs)) f ∙ has_at_head x xs, ap (same_literal l) f ∙ e)
    | inr k ↦ let r = others_of xs l m k in (has_behind x xs m r.0, r.1)
  ]
] refl h

-- ---- what is left of a clause

pub one_left : (lits : List Literal) (l m : Literal) → count_left lits ≡ one l → has_literal lits m ≡ true → m ≡ l
one_left lits l m h k = are_one m l (sym_same l m (member_of_all (same_literal l) lits m (all_same lits l h) k))
  where
    sym_same : (a b : Literal) → same_literal a b ≡ true → same_literal b a ≡ true
    sym_same a b h = ap (same_literal b) (are_one a b h) ∙ same_literal-itself b

    all_same : (xs : List Literal) (a : Literal) → count_left xs ≡ one a → list_all (same_literal a) xs ≡ true
    all_same [] a h = cc
    all_same (x ∷ xs) a h = elim (list_all (same_literal x) xs) as (λ b. list_all (same_literal x) xs ≡ b → cond b (one x) more ≡ one a → list_all (same_literal a) (x ∷ xs) ≡ true) [
      | true ↦ λ e f. subst (λ y. list_all (same_literal y) (x ∷ xs) ≡ true) (one_is x a f) (and_from _ _ (same_literal-itself x) e)
      | false ↦ λ e f. cc
    ] refl h

-- a clause with a literal that is not false is not falsified
pub open_not_falsified : (u clause : List Literal) (l : Literal) → has_literal clause l ≡ true → has_literal u (negate l) ≡ false → is_falsified u clause ≡ false
open_not_falsified u clause l h k = by_cases (is_falsified u clause)
    (λ e. not_both (has_literal u (negate l)) (member_of_all (λ m. has_literal u (negate m)) clause l e h) k)
    (λ e. e)

-- ---- clauses that rest
pub true_rests : (u clause : List Literal) → HasNoClash u → HasTrue u clause → RestsOn u clause
true_rests u clause c t =
    let open_it = c t.l t.is_held in
    record {
      not_falsified = open_not_falsified u clause t.l t.has_it open_it;
      unit_held = λ l e. ap (has_literal u) (sym (one_left (left u clause) l t.l e (left_has u clause t.l t.has_it open_it))) ∙ t.is_held;
    }

pub two_open_rests : (u clause : List Literal) → HasTwoOpen u clause → RestsOn u clause
two_open_rests u clause t = record {
  not_falsified = open_not_falsified u clause t.l t.has_l t.open_l;
  unit_held = λ l e.
      let a = one_left (left u clause) l t.l e (left_has u clause t.l t.has_l t.open_l) in
      let b = one_left (left u clause) l t.m e (left_has u clause t.m t.has_m t.open_m) in
      not_both (same_literal t.l t.m) (ap (same_literal t.l) (b ∙ sym a) ∙ same_literal-itself t.l) t.apart;
}

-- a tautology rests on each set without a clash
pub tautology_rests : (u clause : List Literal) (l : Literal) → HasNoClash u → has_literal clause l ≡ true → has_literal clause (negate l) ≡ true → RestsOn u clause
tautology_rests u clause l c h k = by_cases (has_literal u l)
    (λ e. true_rests u clause c (record { l = l; has_it = h; is_held = e }))
    (λ e. by_cases (has_literal u (negate l))
    (λ f. true_rests u clause c (record { l = negate l; has_it = k; is_held = f }))
    (λ f. two_open_rests u clause (record { l = l; m = negate l; has_l = h; has_m = k; apart = not_its_negation l; open_l = f; open_m = ap (has_literal u) (negate-negate l) ∙ e })))
  where
    signs : (b : Bool) → not (Rattle.cx_base.specs.Literals.differ b (not b)) ≡ false
    signs true = refl
    signs false = refl

    not_its_negation : (l : Literal) → same_literal l (negate l) ≡ false
    not_its_negation l = and_right _ _ (signs l.negative)

-- false literals are no tautology
pub false_is_no_tautology : (u lits : List Literal) → HasNoClash u → is_inside (negations lits) u ≡ true → is_tautology lits ≡ false
false_is_no_tautology u lits c h = no_member (λ l. has_literal lits (negate l)) lits (λ l k. by_cases (has_literal lits (negate l))
    (λ e.
    let in_u : has_literal u l ≡ true = ap (has_literal u) (sym (negate-negate l)) ∙ negated_in lits u (negate l) h e in
    not_both (has_literal u (negate l)) (negated_in lits u l h k) (c l in_u))
    (λ e. e))
