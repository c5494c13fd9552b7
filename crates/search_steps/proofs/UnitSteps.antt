-- A unit clause of level 0 is logged, and its literal rests on it; and what the engines' quiet says.
use Rattle.std.proofs.Common.{◌≡◌, refl, sym, ap, ◌∙◌, subst, ℕ, ◌≤◌, nat_le, ℤ, Bool, true, false, cond, eq-eqb, List, [], ◌∷◌, ◌++◌, Some, inl, inr, arith}
use Rattle.std.proofs.lemmas.Bool.{le-leb}
use Rattle.cx_base.specs.Literals.{Literal}
use Rattle.cx_base.specs.Problem.{Problem}
use Rattle.cx_base.specs.declared.steps.LogStep.TheVariants.{ClauseWithHints}
use Rattle.cx_base.specs.declared.steps.LogEvent.TheVariants.{Step}
use Rattle.cx_semantics.specs.Chain.{has_literal}
use Rattle.cx_semantics.specs.Fresh.{IsLive}
use Rattle.cx_base.specs.Integers.{literal}
use Rattle.cx_semantics.specs.LogRules.{derives_ending_clause}
use Rattle.cx_semantics.specs.Tables.{Table, get}
use Rattle.cx_semantics.proofs.Lookups.{Looks-insert}
use Rattle.cx_semantics.proofs.Members.{has_at_head, has_behind}
use Rattle.search_steps.specs.Trail.{Entry, held, all_held, IsTrail, Forces}
use Rattle.search_steps.specs.Quiet.{HasNoClash, Quiet, ClausesQuiet, IsOfParities, IsWatchedWell}
use Rattle.search_steps.specs.Search.{Search, IsSearchIn, told}
use Rattle.search_steps.specs.Hints.{AreHintsFor}
use Rattle.search_steps.specs.LogSteps.{IsAddition, RestOnClauses, unit_told}
use Rattle.search_steps.proofs.Sets.{true_rests, two_open_rests, tautology_rests}
use Rattle.search_steps.proofs.LogLaws.{unit_keeps}
use Rattle.search_steps.proofs.UnitLaws.{held_same, trail_rests_on}

trail_part : (table : Table) (IsRow : List Literal → Type 0) (newer older : List Entry) (e : Entry) → IsTrail table IsRow (newer ++ e ∷ older) → IsTrail table IsRow older
trail_part table IsRow [] older e t = t.2
trail_part table IsRow (x ∷ newer) older e t = trail_part table IsRow newer older e t.2

held_there : (k : ℕ) (newer older : List Entry) (e : Entry) → e.level ≤ k → has_literal (held k (newer ++ e ∷ older)) e.literal ≡ true
held_there k [] older e h = ap (λ b. has_literal (cond b (e.literal ∷ held k older) (held k older)) e.literal) (le-leb e.level k h) ∙ has_at_head e.literal (held k older)
held_there k (x ∷ newer) older e h = go (nat_le x.level k) (held_there k newer older e h)
  where
    go : (b : Bool) → has_literal (held k (newer ++ e ∷ older)) e.literal ≡ true → has_literal (cond b (x.literal ∷ held k (newer ++ e ∷ older)) (held k (newer ++ e ∷ older))) e.literal ≡ true
    go true r = has_behind x.literal (held k (newer ++ e ∷ older)) e.literal r
    go false r = r

pub unit_rests_keeps : {tidies : Bool} (formula : Problem) (parities : List (List Literal)) (s : Search) → IsSearchIn tidies formula parities s → (n : ℕ) (z : ℤ) (hints : List ℤ) (newer older : List Entry) (e : Entry) → s.trail ≡ newer ++ e ∷ older → e.level ≡ 0 → literal z ≡ e.literal
    → IsAddition formula s.moment.tables.clauses n (z ∷ []) → AreHintsFor s.moment.tables.clauses (literal z ∷ []) hints → derives_ending_clause formula (ClauseWithHints n (z ∷ []) hints) ≡ false → s.moment.awaits ≡ false → RestOnClauses older → (clause : List Literal) → IsLive s.moment.tables.clauses clause → Forces clause (all_held older) e.literal
    → IsSearchIn tidies formula parities (unit_told s n z hints newer e older)
unit_rests_keeps formula parities s ok n z hints newer older e same low is a right goes served on_clauses clause live forces =
    let IsRow = IsOfParities formula.variables parities in
    let t : IsTrail s.moment.tables.clauses IsRow (newer ++ e ∷ older) = subst (IsTrail s.moment.tables.clauses IsRow) same ok.serves.stands in
    let here : has_literal (held 0 (newer ++ e ∷ older)) e.literal ≡ true = held_there 0 newer older e (omega (arith, low)) in
    let ok1 = unit_keeps formula parities s ok n z hints older clause a right goes served (trail_part s.moment.tables.clauses IsRow newer older e t)
    (record { level_0 = ap (λ es. has_literal (held 0 es) (literal z)) same ∙ ap (has_literal (held 0 (newer ++ e ∷ older))) is ∙ here; on_clauses = on_clauses; live = live; forces = subst (Forces clause (all_held older)) (sym is) forces }) in
    let after = (told s (Step (ClauseWithHints n (z ∷ []) hints))).moment.tables.clauses in
    let put : get after n ≡ Some (e.literal ∷ []) =
    Looks-insert s.moment.tables.clauses (get s.moment.tables.clauses) n (literal z ∷ []) (λ _. refl) n
    ∙ ap (λ b. cond b (Some (literal z ∷ [])) (get s.moment.tables.clauses n)) (eq-eqb n n refl) ∙ ap (λ l. Some (l ∷ [])) is in
    record {
      log = ok1.log;
      serves = record {
        stands = trail_rests_on after IsRow newer older e n low put (subst (IsTrail after IsRow) same ok1.serves.stands);
        quiet = λ k h. subst (Quiet formula.variables parities after) (ap (held k) same ∙ sym (held_same k newer older e n)) (ok1.serves.quiet k h);
        keeps_parities = ok1.serves.keeps_parities;
      };
      covered = ok1.covered;
      plain = ok1.plain;
    }

-- ---- quiet from what the watches answer
pub watched_quiet : (table : Table) (known : List Literal) → HasNoClash known → ((clause : List Literal) → IsLive table clause → IsWatchedWell known clause) → ClausesQuiet table known
watched_quiet table known clash h clause live = elim (h clause live) [
  | inl t ↦ true_rests known clause clash t
  | inr r ↦ elim r [
    | inl two ↦ two_open_rests known clause two
    | inr (l, has_l, has_n) ↦ tautology_rests known clause l clash has_l has_n
  ]
]
