-- What holds after a whole conflict: the search is tidy, and the code's trail is that of the calculus.
use Rattle.std.proofs.Common.{Bool, ◌≡◌, refl, sym, ap, ◌∙◌, subst, ℕ, ℤ, List, [], ◌++◌, arith}
use Rattle.cx_base.specs.Literals.{Literal}
use Rattle.cx_base.specs.Problem.{Problem}
use Rattle.cx_trail.specs.declared.entry.Reason.{Reason}
use Rattle.cx_trail.specs.Sequence.{TrailState, TakesBack, IsOpenIn, pushed}
use Rattle.search_steps.specs.Trail.{back_to, level_of}
use Rattle.search_steps.specs.Quiet.{IsOfParities}
use Rattle.search_steps.specs.Search.{Search, IsSearchIn, IsServed, IsTidy, IsLearnedOf}
use Rattle.search_steps.specs.LogSteps.{IsRowReason, row_events, all_told, deleted, after_learned, after_round}
use Rattle.search_steps.specs.Tied.{IsTied}
use Rattle.search_steps.proofs.TrailLaws.{back_level}
use Rattle.search_steps.proofs.Rounds.{deleted_trail, deleted_awaits, deleted_old_sums, deleted_new_sums, round_clears_old, round_clears_new, unassigned_then}
use Rattle.search_steps.proofs.RowReasons.{row_cases, sum_leaves_none, sum_leaves_no_old}
use Rattle.search_steps.proofs.CodeSteps.{tied_back}
use Rattle.search_steps.proofs.Bridge.{unassigned_is_open}

both_empty : (xs ys : List ℕ) → xs ≡ [] → ys ≡ [] → xs ++ ys ≡ []
both_empty xs ys a b = ap (λ zs. zs ++ ys) a ∙ b

module _ {tidies : Bool} (formula : Problem) (parities : List (List Literal)) (s : Search) (ok : IsSearchIn tidies formula parities s) (n : ℕ) (zs hints : List ℤ) (back : ℕ) (l : Literal) (learned : IsLearnedOf s.trail back (Rattle.cx_base.specs.Integers.literals zs) l) where
  abbrev IsRow : List Literal → Type 0
  IsRow = IsOfParities formula.variables parities

  level_then : level_of (back_to back s.trail) ≡ back
  level_then = let low = learned.lower in back_level s.moment.tables.clauses IsRow back s.trail ok.serves.stands (omega (arith, low))

  same_trail : (deleted (after_learned s n zs hints back) s.moment.new_clauses).trail ≡ s.trail
  same_trail = deleted_trail (after_learned s n zs hints back) s.moment.new_clauses

  pub round_is_tidy : IsServed s → s.moment.new_sums ≡ [] → IsTidy (after_round s n zs hints back l)
  round_is_tidy served none = record {
    served = deleted_awaits (after_learned s n zs hints back) s.moment.new_clauses;
    no_old_clauses = round_clears_old s n zs hints back l served.no_old_clauses;
    no_new_clauses = round_clears_new s n zs hints back l;
    no_old_sums = deleted_old_sums (after_learned s n zs hints back) s.moment.new_clauses ∙ both_empty s.moment.new_sums s.moment.old_sums none served.no_old_sums;
    no_new_sums = deleted_new_sums (after_learned s n zs hints back) s.moment.new_clauses;
    levels = sym (ap (λ es. level_of (back_to back es)) same_trail ∙ level_then);
  }

  -- the literal that the clause forces is open after the jump, and is added to it
  pub round_stays_tied : (t u : TrailState) → IsTied s.trail t.entries → TakesBack back t u → (reason : Reason)
      → IsOpenIn u.entries l.variable × IsTied (after_round s n zs hints back l).trail (pushed u back l reason).entries
  round_stays_tied t u tied takes reason =
      let rest : IsTied (back_to back s.trail) u.entries = tied_back back s.trail t u takes tied in (
        unassigned_is_open (back_to back s.trail) u.entries rest l (unassigned_then s.moment.tables.clauses IsRow s ok.serves.stands back (Rattle.cx_base.specs.Integers.literals zs) l learned),
        (
          u.entries,
          record { literal = l; level = back; reason = reason },
          refl,
          refl,
          sym (ap (λ es. level_of (back_to back es)) same_trail ∙ level_then),
          subst (λ es. IsTied (back_to back es) u.entries) (sym same_trail) rest,
        ),
      )

-- the reason of a row leaves the search before a mark as it was
pub row_reason_serves : (formula : Problem) (parities : List (List Literal)) (s : Search) (k : ℕ) (rs : List ℤ) (ids : List ℕ) (n : ℕ) (zs : List ℤ) → IsRowReason formula parities s k rs ids n zs
    → IsServed s → s.moment.new_sums ≡ [] → IsServed (all_told s (row_events k rs ids n zs)) × ((all_told s (row_events k rs ids n zs)).moment.new_sums ≡ [])
row_reason_serves formula parities s k rs ids n zs r served none = row_cases (λ es. IsServed (all_told s es) × ((all_told s es).moment.new_sums ≡ [])) k rs ids n zs
    (λ source is. (record { served = served.served; no_old_clauses = served.no_old_clauses; no_old_sums = served.no_old_sums }, none))
    (record { served = served.served; no_old_clauses = served.no_old_clauses; no_old_sums = sum_leaves_no_old s k rs ids n zs served.no_old_sums }, sum_leaves_none s k rs ids n zs none)
