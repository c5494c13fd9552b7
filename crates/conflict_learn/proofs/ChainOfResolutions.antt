-- The clauses of a list of resolutions are a right chain, in reverse order.
use Rattle.std.proofs.Common.{◌≡◌, ◌≢◌, refl, sym, ap, ◌∙◌, Bool, true, false, cond, not, IsTrue, IsFalse, List, [], ◌∷◌, true≢false, inl, inr}
use Rattle.std.specs.List.{list_all}
use Rattle.std.proofs.lemmas.Bool.{not-true, and_parts, and_from}
use Rattle.cx_base.specs.Literals.{Literal, negate, same_literal}
use Rattle.cx_base.proofs.LiteralLaws.{negate-negate, are_one}
use Rattle.cx_semantics.specs.Chain.{has_literal, is_inside, negations, left, count_left, right, go_on, chain, ChainEnd, IsChain}
use Rattle.cx_semantics.proofs.Closure.{inside_itself, some_are}
use Rattle.cx_semantics.proofs.Members.{has_at_head, has_behind, has_split}
use Rattle.conflict_learn.specs.Learning.{Serves}

-- The clause has l, its other literals are in the new target, and so are those of the old target but the negation of l.
pub record Resolves (old clause : List Literal) (l : Literal) (new : List Literal) : Type 0 where
  pub from_clause : (m : Literal) → IsTrue (has_literal clause m) → IsFalse (same_literal l m) → IsTrue (has_literal new m)
  pub from_old : (m : Literal) → IsTrue (has_literal old m) → IsFalse (same_literal (negate l) m) → IsTrue (has_literal new m)

pub by_cases : {A : Type 0} (b : Bool) → (b ≡ true → A) → (b ≡ false → A) → A
by_cases true f g = f refl
by_cases false f g = g refl

pub negated_in : (lits u : List Literal) (l : Literal) → is_inside (negations lits) u ≡ true → has_literal lits l ≡ true → has_literal u (negate l) ≡ true
negated_in [] u l h k = absurd (true≢false (sym k))
negated_in (m ∷ ms) u l h k = let q = and_parts (has_literal u (negate m)) _ h in elim (has_split m ms l k) [
  | inl e ↦ ap (λ x. has_literal u (negate x)) e ∙ q.0
  | inr g ↦ negated_in ms u l q.1 g
]

pub negations_by : (lits u : List Literal) → ((l : Literal) → has_literal lits l ≡ true → has_literal u (negate l) ≡ true) → is_inside (negations lits) u ≡ true
negations_by [] u h = refl
negations_by (m ∷ ms) u h = and_from _ _ (h m (has_at_head m ms)) (negations_by ms u (λ l k. h l (has_behind m ms l k)))

-- ---- what is left of a clause whose literals but l are negated
kept : (b : Bool) (m : Literal) (ms : List Literal) (l : Literal) → (b ≡ true → same_literal l m ≡ true) → list_all (same_literal l) ms ≡ true → list_all (same_literal l) (cond b (m ∷ ms) ms) ≡ true
kept true m ms l f g = and_from _ _ (f refl) g
kept false m ms l f g = g

only_it : (u clause : List Literal) (l : Literal) → ((m : Literal) → has_literal clause m ≡ true → same_literal l m ≡ false → has_literal u (negate m) ≡ true) → list_all (same_literal l) (left u clause) ≡ true
only_it u [] l h = refl
only_it u (m ∷ ms) l h = kept (not (has_literal u (negate m))) m (left u ms) l
    (λ e. by_cases (same_literal l m) (λ f. f) (λ f. absurd (true≢false (sym (h m (has_at_head m ms) f) ∙ not-true _ e))))
    (only_it u ms l (λ x k. h x (has_behind m ms x k)))

nothing_left : (u clause : List Literal) → is_inside (negations clause) u ≡ true → left u clause ≡ []
nothing_left u [] h = refl
nothing_left u (m ∷ ms) h = let q = and_parts (has_literal u (negate m)) _ h in ap (λ b. cond (not b) (m ∷ left u ms) (left u ms)) q.0 ∙ nothing_left u ms q.1

-- a list of equal literals counts as none or one
pub goes : (lits : List Literal) (l : Literal) (next : Literal → ChainEnd) → list_all (same_literal l) lits ≡ true → next l ≡ right → go_on (count_left lits) next ≡ right
goes [] l next h k = refl
goes (m ∷ ms) l next h k =
    let n : m ∷ ms ≢ [] = λ e. cc in
    ap (λ c. go_on c next) (some_are (m ∷ ms) l h n) ∙ k

-- ---- the law
pub conflict_serves : (conflict : List Literal) → Serves conflict (conflict ∷ [])
conflict_serves conflict assumed h = ap (λ x. go_on (count_left x) (λ l. chain (l ∷ assumed) [])) (nothing_left assumed conflict h)

pub resolved_serves : (old clause : List Literal) (l : Literal) (new : List Literal) (clauses : List (List Literal)) → Resolves old clause l new → Serves old clauses → Serves new (clause ∷ clauses)
resolved_serves old clause l new clauses r s assumed h =
    goes (left assumed clause) l (λ m. chain (m ∷ assumed) clauses)
    (only_it assumed clause l (λ m k n. negated_in new assumed m h (r.from_clause m k n)))
    (s (l ∷ assumed) (negations_by old (l ∷ assumed) (λ m k. by_cases (same_literal (negate l) m)
    (λ e. ap (has_literal (l ∷ assumed)) (ap negate (sym (are_one (negate l) m e)) ∙ negate-negate l) ∙ has_at_head l assumed)
    (λ e. has_behind l assumed (negate m) (negated_in new assumed m h (r.from_old m k e))))))

pub served_is_chain : (target : List Literal) (clauses : List (List Literal)) → Serves target clauses → IsChain target clauses
served_is_chain target clauses s = s (negations target) (inside_itself (negations target))
