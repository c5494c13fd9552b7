-- A propagation keeps the search, entry by entry.
use Rattle.std.proofs.Common.{Bool, ◌≡◌, refl, sym, ap, ◌∙◌, subst, ℕ, ◌≤◌, List, [], ◌∷◌, ◌++◌, arith, append-nil}
use Rattle.std.proofs.lemmas.List.{append_assoc}
use Rattle.cx_base.specs.Literals.{Literal}
use Rattle.cx_base.specs.Problem.{Problem}
use Rattle.cx_trail.specs.declared.entry.Entry.{Entry as TrailEntry}
use Rattle.search_steps.specs.Ids.{ReasonsBelow}
use Rattle.search_steps.specs.Propagated.{IsPropagated}
use Rattle.search_steps.specs.Search.{Search, IsSearchIn, forced_on, with_trail}
use Rattle.search_steps.specs.Tied.{IsTied, AreForcedBehind}
use Rattle.search_steps.specs.Trail.{Entry, by_clause, level_of}
use Rattle.search_steps.proofs.Bridge.{open_is_unassigned}
use Rattle.search_steps.proofs.CodeSteps.{forces_by}
use Rattle.search_steps.proofs.ServesLaws.{force_keeps}
use Rattle.search_steps.proofs.IdLaws.{low_reason}

pub propagation_keeps : {tidies : Bool} (formula : Problem) (parities : List (List Literal)) (bound level : ℕ) (s : Search) → IsSearchIn tidies formula parities s → s.quiet_levels ≤ level → level_of s.trail ≡ level → (before : List TrailEntry) → IsTied s.trail before
    → (more : List TrailEntry) → AreForcedBehind s.moment.tables.clauses bound level before more → IsPropagated tidies formula parities bound s (before ++ more)
propagation_keeps {tidies} formula parities bound level s ok low at before tied [] forced =
    record { newer = []; holds = ok; tied = subst (IsTied s.trail) (sym (append-nil before)) tied; level = refl; reasons = λ r. r }
propagation_keeps {tidies} formula parities bound level s ok low at before tied (e ∷ more) (same_level, is_open, (n, clause, small, live, forces), rest) =
    let s1 = forced_on s e.literal (by_clause n) in
    let entry : Entry = record { literal = e.literal; level = level_of s.trail; why = by_clause n } in
    let ok1 : IsSearchIn tidies formula parities s1 = force_keeps formula parities s ok e.literal (by_clause n) (omega (arith, low, at)) (open_is_unassigned s.trail before tied e.literal is_open) (refl, (clause, live, forces_by s.trail before clause e.literal tied forces)) in
    let r = propagation_keeps formula parities bound level s1 ok1 low at (before ++ e ∷ []) (before, e, refl, refl, same_level ∙ sym at, tied) more rest in
    let are = append_assoc r.newer (entry ∷ []) s.trail in
    record {
      newer = r.newer ++ entry ∷ [];
      holds = subst (λ es. IsSearchIn tidies formula parities (with_trail s es)) (sym are) r.holds;
      tied = subst (λ es. IsTied es (before ++ e ∷ more)) (sym are) (subst (IsTied (r.newer ++ entry ∷ s.trail)) (append_assoc before (e ∷ []) more) r.tied);
      level = ap level_of are ∙ r.level;
      reasons = λ below. subst (ReasonsBelow bound) (sym are) (r.reasons (low_reason bound n small, below));
    }
