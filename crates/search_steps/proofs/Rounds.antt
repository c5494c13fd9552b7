-- A whole conflict, from the end of its analysis to the literal that its clause forces.
use Rattle.std.proofs.Common.{◌≡◌, refl, sym, ap, ◌∙◌, subst, ℕ, ℤ, Bool, true, false, cond, ◌||◌, nat_eq, eq-eqb, List, [], ◌∷◌, ◌++◌, fold, Some, None, arith, true≢false, append-nil}
use Rattle.std.specs.FinMap as map_
use Rattle.cx_base.specs.Literals.{Literal, negate}
use Rattle.cx_base.specs.Problem.{Problem}
use Rattle.cx_base.specs.declared.steps.LogStep.TheVariants.{ClauseWithHints, Delete}
use Rattle.cx_base.specs.declared.steps.LogEvent.TheVariants.{Step}
use Rattle.cx_semantics.specs.Chain.{has_literal}
use Rattle.cx_base.specs.Integers.{literals}
use Rattle.cx_semantics.specs.LogRules.{derives_ending_clause}
use Rattle.cx_semantics.specs.Marked.{without, is_among}
use Rattle.cx_semantics.specs.Tables.{Table, get}
use Rattle.cx_semantics.proofs.Lookups.{Looks-insert, Looks-remove}
use Rattle.cx_semantics.proofs.Closure.{has_by_inside}
use Rattle.search_steps.specs.Trail.{by_clause, held, all_held, back_to, level_of, IsTrail, IsUnassigned, Forces}
use Rattle.search_steps.specs.Hints.{AreHintsFor}
use Rattle.search_steps.specs.Quiet.{IsOfParities}
use Rattle.search_steps.specs.Search.{Search, IsSearchIn, IsServed, IsLearnedOf, told, marked, jumped}
use Rattle.search_steps.specs.LogSteps.{IsAddition, AreTemporary, deleted, after_learned, after_round}
use Rattle.conflict_learn.proofs.ChainOfResolutions.{by_cases}
use Rattle.search_steps.proofs.Sets.{not_both}
use Rattle.search_steps.proofs.TrailLaws.{trail_no_clash, held_inside, back_holds, back_level}
use Rattle.search_steps.proofs.ServesLaws.{force_keeps, jump_keeps}
use Rattle.search_steps.proofs.CoverLaws.{still_not, covers_none_still}
use Rattle.search_steps.proofs.LogLaws.{mark_keeps, learned_keeps, delete_keeps}
use Rattle.search_steps.proofs.RowReasons.{all_deleted}

pub temporary_still : (s : Search) (n : ℕ) (ids : List ℕ) → AreTemporary s ids → AreTemporary (told s (Step (Delete n []))) ids
temporary_still s n [] t = tt
temporary_still s n (m ∷ ids) t = ((covers_none_still s.moment n m t.0.0, still_not s.moment.learned n m t.0.1, t.0.2), temporary_still s n ids t.1)

pub deleted_keeps : {tidies : Bool} (formula : Problem) (parities : List (List Literal)) (s : Search) → IsSearchIn tidies formula parities s → (ids : List ℕ) → AreTemporary s ids → IsSearchIn tidies formula parities (deleted s ids)
deleted_keeps formula parities s ok [] t = ok
deleted_keeps formula parities s ok (n ∷ ids) t =
    deleted_keeps formula parities (told s (Step (Delete n []))) (delete_keeps formula parities s ok n [] (record { covers_none = t.0.0; not_learned = t.0.1 }) t.0.2) ids (temporary_still s n ids t.1)

-- what each deletion leaves as it was, all of them leave
deletions_leave : {X : Type 0} (part : Search → X) → ((s : Search) (n : ℕ) → part (told s (Step (Delete n []))) ≡ part s) → (s : Search) (ids : List ℕ) → part (deleted s ids) ≡ part s
deletions_leave part each s [] = refl
deletions_leave part each s (n ∷ ids) = deletions_leave part each (told s (Step (Delete n []))) ids ∙ each s n

pub deleted_trail : (s : Search) (ids : List ℕ) → (deleted s ids).trail ≡ s.trail
deleted_trail s ids = deletions_leave (λ u. u.trail) (λ u n. refl) s ids

pub deleted_levels : (s : Search) (ids : List ℕ) → (deleted s ids).quiet_levels ≡ s.quiet_levels
deleted_levels s ids = deletions_leave (λ u. u.quiet_levels) (λ u n. refl) s ids

pub deleted_conflicts : (s : Search) (ids : List ℕ) → (deleted s ids).conflicts ≡ s.conflicts
deleted_conflicts s ids = deletions_leave (λ u. u.conflicts) (λ u n. refl) s ids

pub deleted_awaits : (s : Search) (ids : List ℕ) → (deleted s ids).moment.awaits ≡ s.moment.awaits
deleted_awaits s ids = deletions_leave (λ u. u.moment.awaits) (λ u n. refl) s ids

pub deleted_old_sums : (s : Search) (ids : List ℕ) → (deleted s ids).moment.old_sums ≡ s.moment.old_sums
deleted_old_sums s ids = deletions_leave (λ u. u.moment.old_sums) (λ u n. refl) s ids

pub deleted_new_sums : (s : Search) (ids : List ℕ) → (deleted s ids).moment.new_sums ≡ s.moment.new_sums
deleted_new_sums s ids = deletions_leave (λ u. u.moment.new_sums) (λ u n. refl) s ids

pub deleted_parities : (s : Search) (ids : List ℕ) → (deleted s ids).moment.tables.parities ≡ s.moment.tables.parities
deleted_parities s ids = deletions_leave (λ u. u.moment.tables.parities) (λ u n. refl) s ids

-- what deletions take from the lists
pub deleted_old : (s : Search) (ids : List ℕ) → (deleted s ids).moment.old_clauses ≡ fold without s.moment.old_clauses ids
deleted_old s [] = refl
deleted_old s (n ∷ ids) = deleted_old (told s (Step (Delete n []))) ids

pub deleted_new : (s : Search) (ids : List ℕ) → s.moment.new_clauses ≡ [] → (deleted s ids).moment.new_clauses ≡ []
deleted_new s [] h = h
deleted_new s (n ∷ ids) h = deleted_new (told s (Step (Delete n []))) ids (ap (λ xs. without xs n) h)

pub deleted_get : (s : Search) (ids : List ℕ) (m : ℕ) → is_among ids m ≡ false → get (deleted s ids).moment.tables.clauses m ≡ get s.moment.tables.clauses m
deleted_get s [] m h = refl
deleted_get s (n ∷ ids) m h = go (nat_eq m n) refl h (deleted_get (told s (Step (Delete n []))) ids m)
  where
    go : (b : Bool) → nat_eq m n ≡ b → (b || is_among ids m) ≡ false → (is_among ids m ≡ false → get (deleted (told s (Step (Delete n []))) ids).moment.tables.clauses m ≡ get (map_.remove s.moment.tables.clauses n) m)
        → get (deleted (told s (Step (Delete n []))) ids).moment.tables.clauses m ≡ get s.moment.tables.clauses m
    go true e h rec = absurd (true≢false h)
    go false e h rec = rec h ∙ Looks-remove s.moment.tables.clauses (get s.moment.tables.clauses) n (λ _. refl) m ∙ ap (λ b. cond b None (get s.moment.tables.clauses m)) e

-- ---- after the jump the clause forces its first literal
module _ (table : Table) (IsRow : List Literal → Type 0) (s : Search) (t : IsTrail table IsRow s.trail) (back : ℕ) (clause : List Literal) (l : Literal) (a : IsLearnedOf s.trail back clause l) where
  held_then : all_held (back_to back s.trail) ≡ held back s.trail
  held_then = let low = a.lower in back_holds table IsRow back s.trail t (omega (arith, low))

  pub forces_then : Forces clause (all_held (back_to back s.trail)) l
  forces_then = record { has_it = a.asserting.has_it; others_false = λ m h n. ap (λ u. has_literal u (negate m)) held_then ∙ a.asserting.others_false m h n }

  pub unassigned_then : IsUnassigned (all_held (back_to back s.trail)) l
  unassigned_then = (
    ap (λ u. has_literal u l) held_then ∙ by_cases (has_literal (held back s.trail) l)
        (λ e. not_both (has_literal (all_held s.trail) (negate l)) a.asserting.false_now (trail_no_clash table IsRow s.trail t l (has_by_inside (held back s.trail) (all_held s.trail) l (held_inside back s.trail) e)))
        (λ e. e),
    ap (λ u. has_literal u (negate l)) held_then ∙ a.asserting.open_before,
  )

-- ---- the round
module _ {tidies : Bool} (formula : Problem) (parities : List (List Literal)) (s : Search) (ok : IsSearchIn tidies formula parities s) (n : ℕ) (zs hints : List ℤ) (back : ℕ) (l : Literal) where
  -- The mark, the learned clause, the deletion of what is temporary, the jump back, and the literal that the clause forces.
  pub round_keeps : IsServed s → s.quiet_levels ≡ level_of s.trail → IsAddition formula s.moment.tables.clauses n zs → derives_ending_clause formula (ClauseWithHints n zs hints) ≡ false → AreHintsFor s.moment.tables.clauses (literals zs) hints → IsLearnedOf s.trail back (literals zs) l
      → AreTemporary (after_learned s n zs hints back) s.moment.new_clauses → is_among s.moment.new_clauses n ≡ false → IsSearchIn tidies formula parities (after_round s n zs hints back l)
  round_keeps served levels a goes right learned temporary apart =
      let IsRow = IsOfParities formula.variables parities in
      let s1 = marked s in
      let ok1 = mark_keeps formula parities s ok served in
      let s2 = after_learned s n zs hints back in
      let ok2 = learned_keeps formula parities s1 ok1 n zs hints back l a goes refl levels right learned in
      let s3 = deleted s2 s.moment.new_clauses in
      let ok3 = deleted_keeps formula parities s2 ok2 s.moment.new_clauses temporary in
      let same_levels : s3.quiet_levels ≡ back = deleted_levels s2 s.moment.new_clauses in
      let same_trail : s3.trail ≡ s.trail = deleted_trail s2 s.moment.new_clauses in
      let s4 = jumped s3 back in
      let ok4 = jump_keeps formula parities s3 ok3 back (omega (arith, same_levels)) in
      let here : get s3.moment.tables.clauses n ≡ Some (literals zs) =
      deleted_get s2 s.moment.new_clauses n apart ∙ Looks-insert s.moment.tables.clauses (get s.moment.tables.clauses) n (literals zs) (λ _. refl) n
      ∙ ap (λ b. cond b (Some (literals zs)) (get s.moment.tables.clauses n)) (eq-eqb n n refl) in
      let low = learned.lower in
      let stands = back_level s.moment.tables.clauses IsRow back s.trail ok.serves.stands (omega (arith, low)) in
      let same_level : level_of s4.trail ≡ back = ap (λ es. level_of (back_to back es)) same_trail ∙ stands in
      force_keeps formula parities s4 ok4 l (by_clause n) (omega (arith, same_level))
      (subst (λ es. IsUnassigned (all_held (back_to back es)) l) (sym same_trail) (unassigned_then s.moment.tables.clauses IsRow s ok.serves.stands back (literals zs) l learned))
      (refl, (literals zs, here, subst (λ es. Forces (literals zs) (all_held (back_to back es)) l) (sym same_trail) (forces_then s.moment.tables.clauses IsRow s ok.serves.stands back (literals zs) l learned)))

module _ (s : Search) (n : ℕ) (zs hints : List ℤ) (back : ℕ) (l : Literal) where
  -- nothing temporary is left
  pub round_clears_old : s.moment.old_clauses ≡ [] → (after_round s n zs hints back l).moment.old_clauses ≡ []
  round_clears_old none = deleted_old (after_learned s n zs hints back) s.moment.new_clauses ∙ all_deleted s.moment.new_clauses (s.moment.new_clauses ++ s.moment.old_clauses)
      (λ m h. subst (λ xs. is_among xs m ≡ true) (ap (λ xs. s.moment.new_clauses ++ xs) none ∙ append-nil s.moment.new_clauses) h)

  pub round_clears_new : (after_round s n zs hints back l).moment.new_clauses ≡ []
  round_clears_new = deleted_new (after_learned s n zs hints back) s.moment.new_clauses refl
