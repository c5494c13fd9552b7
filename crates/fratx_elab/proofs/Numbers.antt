-- The least number of a constraint with some content.
use Rattle.std.proofs.Common.{◌≡◌, refl, sym, ap, ◌∙◌, subst, ℕ, zero, suc, Any, ◌+◌, ◌<◌, ◌≤◌, Bool, true, false, ◌||◌, List, [], ◌∷◌, ◌++◌, length, length-append, Some, arith}
use Rattle.std.specs.List.{list_any, AllByRecursion}
use Rattle.cx_base.specs.Literals.{Literal}
use Rattle.cx_semantics.specs.Tables.{get, numbered_from}
use Rattle.cx_semantics.proofs.Lookups.{lookup, Looks-numbered_from}
use Rattle.fratx_elab.specs.Elaborates.{IsLeast}
use Rattle.fratx_elab.proofs.TieLaws.{lookup_at}

-- no list passes the test
pub none_pass : (test : List Literal → Bool) (lists : List (List Literal)) → AllByRecursion (λ lits. ¬ (test lits ≡ true)) lists → list_any test lists ≡ false
none_pass test [] h = refl
none_pass test (x ∷ lists) h = elim (test x) as (λ b. test x ≡ b → (b || list_any test lists) ≡ false) [ true ↦ λ e. absurd (h.0 e) | false ↦ λ e. none_pass test lists h.1 ] refl

pub none_any : (P : List Literal → Type 0) (lists : List (List Literal)) → AllByRecursion (λ lits. ¬ P lits) lists → ¬ Any P lists
none_any P [] h (k, x, w, is, e) = let i : k < 0 = w in omega arith
none_any P (p ∷ ps) h (zero, x, w, is, e) = h.0 (subst P (sym is) e)
none_any P (p ∷ ps) h (suc k, x, w, is, e) = none_any P ps h.1 (k, x, omega arith, is, e)

-- what the least number gives
module _ (P : List Literal → Type 0) (lists : List (List Literal)) (k : ℕ) (least : IsLeast P lists k) where
  pub least_within : k ≤ length lists
  least_within = omega (arith, least.number, ap length least.split, length-append least.before (least.it ∷ least.later))

  pub least_gets : get (numbered_from 1 lists) k ≡ Some least.it
  least_gets =
      let at : k ≡ 1 + length least.before = omega (arith, least.number) in
      Looks-numbered_from 1 lists k ∙ (λ i. lookup 1 (least.split i) (at i)) ∙ lookup_at 1 least.before least.it least.later

any_there : (test : List Literal → Bool) (before later : List (List Literal)) (it : List Literal) → test it ≡ true → list_any test (before ++ it ∷ later) ≡ true
any_there test [] later it h = ap (λ b. b || list_any test later) h
any_there test (x ∷ before) later it h = elim (test x) as (λ b. (b || list_any test (before ++ it ∷ later)) ≡ true) [ true ↦ refl | false ↦ any_there test before later it h ]

pub least_passes : (test : List Literal → Bool) (lists : List (List Literal)) (k : ℕ) → IsLeast (λ lits. test lits ≡ true) lists k → list_any test lists ≡ true
least_passes test lists k h = ap (list_any test) h.split ∙ any_there test h.before h.later h.it h.has_it

any_at : (P : List Literal → Type 0) (before later : List (List Literal)) (it : List Literal) → P it → Any P (before ++ it ∷ later)
any_at P [] later it h = (0, it, omega arith, refl, h)
any_at P (x ∷ before) later it h = let a = any_at P before later it h in (suc a.0, a.1, let w = a.2 in omega arith, a.3, a.4)

pub least_any : (P : List Literal → Type 0) (lists : List (List Literal)) (k : ℕ) → IsLeast P lists k → Any P lists
least_any P lists k h = subst (Any P) (sym h.split) (any_at P h.before h.later h.it h.has_it)
