-- The steps of the trail, said of the code's trail.
use Rattle.std.proofs.Common.{Bool, ◌≡◌, refl, sym, ap, ◌∙◌, subst, ℕ, suc, ◌+◌, ◌-◌, ◌<◌, ◌≤◌, nat_le, true, false, cond, ◌&&◌, List, [], ◌∷◌, ◌++◌, length, Some, ◌⊎◌, inl, inr, arith, true≢false, append-nil}
use Rattle.std.proofs.lemmas.Bool.{leb-true, leb-false, and_parts}
use Rattle.std.proofs.lemmas.List.{length_push}
use Rattle.cx_base.specs.Literals.{Literal, negate}
use Rattle.cx_base.specs.Problem.{Problem}
use Rattle.cx_base.proofs.Elements.{same_head, same_tail}
use Rattle.cx_semantics.specs.Chain.{has_literal, is_inside}
use Rattle.cx_semantics.specs.Fresh.{is_falsified}
use Rattle.cx_semantics.specs.Tables.{get}
use Rattle.cx_semantics.proofs.Closure.{has_by_inside}
use Rattle.cx_semantics.proofs.Members.{has_at_head, has_behind}
use Rattle.cx_trail.specs.declared.entry.Entry.{Entry as TrailEntry}
use Rattle.cx_trail.specs.declared.entry.Reason.{Reason}
use Rattle.cx_trail.specs.Sequence.{TrailState, TakesBack, entry_at, no_entry, pushed, IsOpenIn}
use Rattle.conflict_learn.specs.Learning.{IsOfLevel}
use Rattle.conflict_learn.proofs.ChainOfResolutions.{by_cases}
use Rattle.search_steps.specs.Trail.{Entry, by_clause, by_row, held, all_held, back_to, level_of, Forces}
use Rattle.search_steps.specs.Quiet.{Quiet, RestsOn, IsOfParities}
use Rattle.search_steps.specs.Search.{Search, IsSearchIn, decided_on, forced_on}
use Rattle.search_steps.specs.Tied.{IsTied, IsLiveSet, Mirrors, ForcesOn}
use Rattle.search_steps.proofs.Sets.{not_both}
use Rattle.search_steps.proofs.QuietLaws.{implied_rests}
use Rattle.search_steps.proofs.ServesLaws.{decide_keeps, force_keeps}
use Rattle.search_steps.proofs.Bridge.{entry_last, to_held, true_is_held, open_is_unassigned, level_tied}

-- a clause that forces a literal on the code's trail forces it in the calculus
pub forces_by : (es : List Entry) (entries : List TrailEntry) (clause : List Literal) (l : Literal) → IsTied es entries → ForcesOn entries clause l → Forces clause (all_held es) l
forces_by es entries clause l t f = record { has_it = f.has_it; others_false = λ m h n. true_is_held es entries t (negate m) (f.others_false m h n) }

module _ {tidies : Bool} (formula : Problem) (parities : List (List Literal)) (s : Search) (ok : IsSearchIn tidies formula parities s) (t : TrailState) (follows : Mirrors s.trail t) (l : Literal) (reason : Reason) (is_open : IsOpenIn t.entries l.variable) where
  same_level : level_of s.trail ≡ t.level
  same_level = level_tied s.trail t follows.tied follows.sound

  -- what the watches put on the trail
  pub clause_step_keeps : (n : ℕ) (clause : List Literal) → s.quiet_levels ≤ t.level → get s.moment.tables.clauses n ≡ Some clause → ForcesOn t.entries clause l
      → IsSearchIn tidies formula parities (forced_on s l (by_clause n)) × IsTied (forced_on s l (by_clause n)).trail (pushed t t.level l reason).entries
  clause_step_keeps n clause low live forces = (
    force_keeps formula parities s ok l (by_clause n) (let e = same_level in omega (arith, e, low)) (open_is_unassigned s.trail t.entries follows.tied l is_open)
        (refl, (clause, live, forces_by s.trail t.entries clause l follows.tied forces)),
    (t.entries, record { literal = l; level = t.level; reason = reason }, refl, refl, sym same_level, follows.tied),
  )

  -- what a row implied
  pub row_step_keeps : (clause : List Literal) → s.quiet_levels ≤ t.level → IsOfParities formula.variables parities clause → ForcesOn t.entries clause l
      → IsSearchIn tidies formula parities (forced_on s l (by_row clause)) × IsTied (forced_on s l (by_row clause)).trail (pushed t t.level l reason).entries
  row_step_keeps clause low of_row forces = (
    force_keeps formula parities s ok l (by_row clause) (let e = same_level in omega (arith, e, low)) (open_is_unassigned s.trail t.entries follows.tied l is_open)
        (refl, (of_row, forces_by s.trail t.entries clause l follows.tied forces)),
    (t.entries, record { literal = l; level = t.level; reason = reason }, refl, refl, sym same_level, follows.tied),
  )

  -- a decision
  pub decision_step_keeps : s.quiet_levels ≡ t.level → Quiet formula.variables parities s.moment.tables.clauses (all_held s.trail)
      → IsSearchIn tidies formula parities (decided_on s l) × IsTied (decided_on s l).trail (pushed t (t.level + 1) l reason).entries
  decision_step_keeps levels quiet = (
    decide_keeps formula parities s ok l (levels ∙ sym same_level) quiet (open_is_unassigned s.trail t.entries follows.tied l is_open),
    (t.entries, record { literal = l; level = t.level + 1; reason = reason }, refl, refl, (let e = same_level in let f : t.level + 1 ≡ suc (level_of s.trail) = omega (arith, e) in f), follows.tied),
  )

-- ---- the code's trail after a jump back

no_rest : (xs ys : List TrailEntry) → xs ++ ys ≡ [] → ys ≡ []
no_rest [] ys e = e
no_rest (x ∷ xs) ys e = cc

-- a last entry is in the second part, or that is empty
split_end : (xs ys before : List TrailEntry) (i : TrailEntry) → xs ++ ys ≡ before ++ i ∷ [] → (ys ≡ []) ⊎ ((d : List TrailEntry) × (ys ≡ d ++ i ∷ []) × (xs ++ d ≡ before))
split_end [] ys before i e = inr (before, e, refl)
split_end (x ∷ xs) ys [] i e = inl (no_rest xs ys (same_tail x i (xs ++ ys) [] e))
split_end (x ∷ xs) ys (b ∷ before) i e = elim (split_end xs ys before i (same_tail x b (xs ++ ys) (before ++ i ∷ []) e)) [
  | inl none ↦ inl none
  | inr (d, are, same) ↦ inr (d, are, (λ j. same_head x b (xs ++ ys) (before ++ i ∷ []) e j ∷ same j))
]

-- the level of each entry is as this says
abbrev AllOf : (ℕ → Type 0) → List TrailEntry → Type 0
AllOf P xs = (k : ℕ) → k < length xs → P (entry_at xs k).level

last_of : (P : ℕ → Type 0) (xs : List TrailEntry) (i : TrailEntry) → AllOf P (xs ++ i ∷ []) → P i.level
last_of P xs i h = subst (λ x. P x.level) (entry_last xs i) (h (length xs) (let long = length_push xs i in omega (arith, long)))

before_last : (P : ℕ → Type 0) (xs : List TrailEntry) (i : TrailEntry) → AllOf P (xs ++ i ∷ []) → AllOf P xs
before_last P xs i h k less = subst (λ x. P x.level) (Rattle.search_steps.proofs.Bridge.entry_before xs i k less) (h k (let long = length_push xs i in omega (arith, long, less)))

tied_back_by : (k : ℕ) (es : List Entry) (kept dropped : List TrailEntry) → AllOf (λ v. v ≤ k) kept → AllOf (λ v. k < v) dropped → IsTied es (kept ++ dropped) → IsTied (back_to k es) kept
tied_back_by k [] kept dropped low high t = none kept dropped t
  where
    none : (xs ys : List TrailEntry) → xs ++ ys ≡ [] → xs ≡ []
    none [] ys e = refl
    none (x ∷ xs) ys e = cc
tied_back_by k (e ∷ es) kept dropped low high (before, i, same, lit, lev, t) = by_cases (nat_le e.level k)
    (λ small. subst (λ b. IsTied (cond b (e ∷ es) (back_to k es)) kept) (sym small) (stays (leb-true e.level k small) (split_end kept dropped before i same)))
    (λ big. subst (λ b. IsTied (cond b (e ∷ es) (back_to k es)) kept) (sym big) (goes (λ d. tied_back_by k es kept d low) (leb-false e.level k big) (split_end kept dropped before i same)))
  where
    stays : e.level ≤ k → (dropped ≡ []) ⊎ ((d : List TrailEntry) × (dropped ≡ d ++ i ∷ []) × (kept ++ d ≡ before)) → IsTied (e ∷ es) kept
    stays small (inl none) = (before, i, sym (append-nil kept) ∙ ap (λ ys. kept ++ ys) (sym none) ∙ same, lit, lev, t)
    stays small (inr (d, are, rest)) = absurd (let above : k < i.level = last_of (λ v. k < v) d i (subst (AllOf (λ v. k < v)) are high) in omega (arith, above, small, lev))

    goes : ((d : List TrailEntry) → AllOf (λ v. k < v) d → IsTied es (kept ++ d) → IsTied (back_to k es) kept) → k < e.level → (dropped ≡ []) ⊎ ((d : List TrailEntry) × (dropped ≡ d ++ i ∷ []) × (kept ++ d ≡ before)) → IsTied (back_to k es) kept
    goes rec big (inl none) = absurd (
        let are : kept ≡ before ++ i ∷ [] = sym (append-nil kept) ∙ ap (λ ys. kept ++ ys) (sym none) ∙ same in
        let below : i.level ≤ k = last_of (λ v. v ≤ k) before i (subst (AllOf (λ v. v ≤ k)) are low) in
        omega (arith, below, big, lev))
    goes rec big (inr (d, are, rest)) = rec d (before_last (λ v. k < v) d i (subst (AllOf (λ v. k < v)) are high)) (subst (IsTied es) (sym rest) t)

pub tied_back : (k : ℕ) (es : List Entry) (old new : TrailState) → TakesBack k old new → IsTied es old.entries → IsTied (back_to k es) new.entries
tied_back k es old new b t = tied_back_by k es new.entries b.dropped (λ i less. b.kept_low i no_entry less) (λ i less. b.dropped_high i no_entry less) (subst (IsTied es) b.parts t)

-- ---- a conflict has a literal of the current level
-- a clause that is not falsified has a literal that is not false
pub open_one : (u clause : List Literal) → is_falsified u clause ≡ false → (m : Literal) × (has_literal clause m ≡ true) × (has_literal u (negate m) ≡ false)
open_one u [] h = absurd (true≢false h)
open_one u (m ∷ ms) h = by_cases (has_literal u (negate m))
    (λ e. let r = open_one u ms (sym (ap (λ b. b && is_falsified u ms) e) ∙ h) in (r.0, has_behind m ms r.0 r.1, r.2))
    (λ e. (m, has_at_head m ms, e))

-- a literal that is not yet false one level below is false at the current level, or not at all
is_now : (es : List Entry) (t : TrailState) → Mirrors es t → 0 < t.level → (m : Literal) → has_literal (held (t.level - 1) es) (negate m) ≡ false → IsOfLevel t m t.level
is_now es t f above m is_open q within at =
    let top = f.sound.levels q within in
    by_cases (nat_le (entry_at t.entries q).level (t.level - 1))
    (λ e. not_both (has_literal (held (t.level - 1) es) (negate m)) (ap (has_literal (held (t.level - 1) es)) (sym at) ∙ to_held (t.level - 1) es t.entries f.tied q within (leb-true _ _ e)) is_open)
    (λ e. let high = leb-false (entry_at t.entries q).level (t.level - 1) e in omega (arith, high, top, above))

module _ {tidies : Bool} (formula : Problem) (parities : List (List Literal)) (s : Search) (ok : IsSearchIn tidies formula parities s) (t : TrailState) (follows : Mirrors s.trail t) (above : 0 < t.level) (levels : s.quiet_levels ≡ t.level) where
  below : t.level - 1 < s.quiet_levels
  below = omega (arith, above, levels)

  now_by : (clause : List Literal) → RestsOn (held (t.level - 1) s.trail) clause → (m : Literal) × (has_literal clause m ≡ true) × IsOfLevel t m t.level
  now_by clause r = let o = open_one (held (t.level - 1) s.trail) clause r.not_falsified in (o.0, o.1, is_now s.trail t follows above o.0 o.2)

  -- above level 0 a clause with the literals of a live one, and a clause that the parities imply, has a literal that is not false below the current level
  pub clause_conflict_is_now : (lits : List Literal) → IsLiveSet s.moment.tables.clauses lits → (m : Literal) × (has_literal lits m ≡ true) × IsOfLevel t m t.level
  clause_conflict_is_now lits (clause, live, same) =
      let r = now_by clause ((ok.serves.quiet (t.level - 1) below).clauses clause live) in
      (r.0, has_by_inside clause lits r.0 (and_parts (is_inside lits clause) (is_inside clause lits) same).1 r.1, r.2)

  pub row_conflict_is_now : (clause : List Literal) → IsOfParities formula.variables parities clause → (m : Literal) × (has_literal clause m ≡ true) × IsOfLevel t m t.level
  row_conflict_is_now clause implied = now_by clause (implied_rests formula.variables parities (held (t.level - 1) s.trail) clause (ok.serves.quiet (t.level - 1) below).rows implied)
