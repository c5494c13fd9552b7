-- What an analysis learned is what the calculus takes for a learned clause, and its hints are right.
use Rattle.std.proofs.Common.{◌≡◌, refl, sym, ap, ◌∙◌, subst, ℕ, ◌-◌, ◌<◌, ◌≤◌, pos, true, false, List, [], ◌∷◌, ◌++◌, length, is_some, ◌⊎◌, inl, inr, arith}
use Rattle.std.specs.Prelude.{reverse}
use Rattle.std.specs.List.{AllByRecursion, cons_option}
use Rattle.std.proofs.lemmas.List.{map-append}
use Rattle.cx_base.specs.Literals.{Literal, negate, same_literal}
use Rattle.cx_base.proofs.LiteralLaws.{negate-negate, are_one, same_literal-itself}
use Rattle.cx_semantics.specs.Chain.{has_literal}
use Rattle.cx_semantics.specs.LogRules.{AreLive}
use Rattle.cx_semantics.specs.Tables.{Table, named}
use Rattle.cx_semantics.proofs.Closure.{has_by_inside}
use Rattle.cx_semantics.proofs.SameSets.{HaveSame-by_test, AllSame, chain_stays_right}
use Rattle.cx_semantics.proofs.Members.{has_at_head, has_behind, has_split}
use Rattle.cx_trail.specs.Sequence.{TrailState, IsTrail as IsCodeTrail}
use Rattle.conflict_learn.specs.declared.learning.Resolved.{Resolved}
use Rattle.conflict_learn.specs.Learning.{IsLearned, Follows, AreAntecedents, ids_of, negated_at, level_at, literal_at, has_place, IsFalling}
use Rattle.conflict_learn.specs.Levels.{Teaches, second, levels_at}
use Rattle.conflict_learn.proofs.ChainOfResolutions.{served_is_chain, by_cases}
use Rattle.conflict_learn.proofs.AnalyseLaws.{negated_from, place_here, place_split}
use Rattle.search_steps.specs.Trail.{Entry, held, all_held, level_of, IsTrail}
use Rattle.search_steps.specs.Hints.{AreHintsFor, IsNamedBy, hints_from}
use Rattle.search_steps.specs.Search.{IsLearnedOf}
use Rattle.search_steps.specs.Tied.{IsTied}
use Rattle.search_steps.proofs.Sets.{not_both}
use Rattle.search_steps.proofs.TrailLaws.{held_inside}
use Rattle.search_steps.proofs.Bridge.{to_held, not_yet_held, level_tied}

-- ---- a chain by clauses under ids of live ones
-- of each of these ids a clause is live, and these have the literals of the clauses
abbrev pub AreNamed : Table → List (List Literal) → List ℕ → Type 0
AreNamed table clauses ids = AreLive table ids × AllSame clauses (named table ids)

named_then : (table : Table) (clause : List Literal) (n : ℕ) (clauses : List (List Literal)) (ids : List ℕ) → IsNamedBy table clause n → AreNamed table clauses ids → AreNamed table (clause ∷ clauses) (n ∷ ids)
named_then table clause n clauses ids by rest = (
  (ap is_some by.live, rest.0),
  subst (AllSame (clause ∷ clauses)) (sym (ap (λ o. cons_option o (named table ids)) by.live)) (HaveSame-by_test clause by.clause by.same, rest.1),
)

module _ (table : Table) (trail : TrailState) (holds : List Literal → ℕ → Type 0) (live : (c : List Literal) (k : ℕ) → holds c k → IsNamedBy table c k) where
  pub all_named : (rs : List Resolved) (clauses : List (List Literal)) → AreAntecedents trail holds rs clauses → AreNamed table clauses (ids_of rs)
  all_named [] [] a = (tt, tt)
  all_named [] (c ∷ cs) a = absurd a
  all_named (r ∷ rs) [] a = absurd a
  all_named (r ∷ rs) (c ∷ cs) a = named_then table c r.id cs (ids_of rs) (live c r.id a.0) (all_named rs cs a.2)

  -- and after them the conflict
  module _ (conflict : List Literal) (n : ℕ) (now : IsNamedBy table conflict n) where
    named_to_conflict : (rs : List Resolved) (clauses : List (List Literal)) → AreAntecedents trail holds rs clauses → AreNamed table (clauses ++ conflict ∷ []) (ids_of rs ++ n ∷ [])
    named_to_conflict [] [] a = named_then table conflict n [] [] now (tt, tt)
    named_to_conflict [] (c ∷ cs) a = absurd a
    named_to_conflict (r ∷ rs) [] a = absurd a
    named_to_conflict (r ∷ rs) (c ∷ cs) a = named_then table c r.id (cs ++ conflict ∷ []) (ids_of rs ++ n ∷ []) (live c r.id a.0) (named_to_conflict rs cs a.2)

    pub followed_is_hinted : (resolved : List Resolved) (lits : List Literal) → Follows trail conflict holds resolved lits → AreHintsFor table lits (hints_from resolved ++ pos n ∷ [])
    followed_is_hinted resolved lits f =
        let ids = ids_of (reverse resolved) ++ n ∷ [] in
        let r = named_to_conflict (reverse resolved) f.0 f.1 in
        record {
          ids = ids;
          are = sym (map-append pos (ids_of (reverse resolved)) (n ∷ []));
          live = r.0;
          chain = chain_stays_right lits lits (f.0 ++ conflict ∷ []) (named table ids) (λ l. refl) r.1 (served_is_chain lits (f.0 ++ conflict ∷ []) f.2);
        }

-- ---- the clause
below_first : (P : ℕ → Type 0) (ps : List ℕ) (q : ℕ) → AllByRecursion P ps → has_place ps q ≡ true → P q
below_first P [] q a h = not_both false h refl
below_first P (p ∷ ps) q a h = elim (place_split p ps q h) [ inl e ↦ subst P (sym e) a.0 | inr g ↦ below_first P ps q a.1 g ]

-- the level of the first place; 0 where there is none
abbrev top_level : TrailState → List ℕ → ℕ
top_level t [] = 0
top_level t (q ∷ qs) = level_at t q

low_level : (t : TrailState) → IsCodeTrail t → (rest : List ℕ) → IsFalling rest → (q : ℕ) → has_place rest q ≡ true → ((x : ℕ) → has_place rest x ≡ true → x < length t.entries) → level_at t q ≤ top_level t rest
low_level t ok [] f q h w = not_both false h refl
low_level t ok (p ∷ ps) f q h w = elim (place_split p ps q h) [
  | inl e ↦ let same : level_at t q ≡ level_at t p = ap (level_at t) e in omega (arith, same)
  | inr g ↦ let less = below_first (λ x. x < p) ps q f.0 g in ok.rising q p (omega (arith, less)) (w p (place_here p ps))
]

second_is : (t : TrailState) (first : ℕ) (rest : List ℕ) → second (levels_at t (first ∷ rest)) ≡ top_level t rest
second_is t first [] = refl
second_is t first (q ∷ qs) = refl

module _ (table : Table) (IsRow : List Literal → Type 0) (es : List Entry) (w : IsTrail table IsRow es) (t : TrailState) (ok : IsCodeTrail t) (tied : IsTied es t.entries) (above : 0 < t.level) where
  places_are_learned : (conflict : List Literal) (holds : List Literal → ℕ → Type 0) (resolved : List Resolved) (lits : List Literal) (learned : IsLearned t conflict holds resolved lits)
      → IsLearnedOf es (top_level t learned.rest) lits (negate (literal_at t learned.first))
  places_are_learned conflict holds resolved lits learned = record {
    lower = lower learned.rest learned.rest_levels;
    asserting = record {
      has_it = subst (λ xs. has_literal xs l ≡ true) (sym learned.are) (has_at_head l (negated_at t learned.rest));
      others_false = λ m h n. elim (has_split l (negated_at t learned.rest) m (subst (λ xs. has_literal xs m ≡ true) learned.are h)) [
        | inl e ↦ not_both (same_literal l m) (ap (same_literal l) e ∙ same_literal-itself l) n
        | inr g ↦
            let r = negated_from t learned.rest m g in
            ap (has_literal (held back es)) (ap negate r.2 ∙ negate-negate (literal_at t r.0)) ∙ to_held back es t.entries tied r.0 (within r.0 r.1) (low_level t ok learned.rest learned.falling.1 r.0 r.1 within)
      ];
      false_now = ap (has_literal (all_held es)) (negate-negate (literal_at t learned.first))
          ∙ has_by_inside (held t.level es) (all_held es) (literal_at t learned.first) (held_inside t.level es)
          (to_held t.level es t.entries tied learned.first learned.within (let e = learned.first_level in omega (arith, e)));
      open_before = ap (has_literal (held back es)) (negate-negate (literal_at t learned.first))
          ∙ not_yet_held back table IsRow es t.entries w tied learned.first learned.within (let e = learned.first_level in let b = lower_now learned.rest learned.rest_levels in omega (arith, e, b));
    };
    second = second_open learned.rest learned.rest_levels learned.are within;
  }
    where
      l : Literal
      l = negate (literal_at t learned.first)

      back : ℕ
      back = top_level t learned.rest

      within : (q : ℕ) → has_place learned.rest q ≡ true → q < length t.entries
      within q h = let less = below_first (λ x. x < learned.first) learned.rest q learned.falling.0 h in let top = learned.within in omega (arith, less, top)

      lower_now : (rest : List ℕ) → AllByRecursion (λ q. (0 < level_at t q) × (level_at t q < t.level)) rest → top_level t rest < t.level
      lower_now [] a = above
      lower_now (q ∷ qs) a = a.0.1

      lower : (rest : List ℕ) → AllByRecursion (λ q. (0 < level_at t q) × (level_at t q < t.level)) rest → top_level t rest < level_of es
      lower rest a = subst (λ n. top_level t rest < n) (sym (level_tied es t tied ok)) (lower_now rest a)

      second_open : (rest : List ℕ) → AllByRecursion (λ q. (0 < level_at t q) × (level_at t q < t.level)) rest → lits ≡ negated_at t (learned.first ∷ rest) → ((q : ℕ) → has_place rest q ≡ true → q < length t.entries)
          → (top_level t rest ≡ 0) ⊎ ((m : Literal) × (has_literal lits m ≡ true) × (same_literal l m ≡ false) × (has_literal (held (top_level t rest - 1) es) (negate m) ≡ false))
      second_open [] a are inside = inl refl
      second_open (q ∷ qs) a are inside = inr (
        negate (literal_at t q),
        subst (λ xs. has_literal xs (negate (literal_at t q)) ≡ true) (sym are) (has_behind l (negated_at t (q ∷ qs)) (negate (literal_at t q)) (has_at_head (negate (literal_at t q)) (negated_at t qs))),
        by_cases (same_literal l (negate (literal_at t q))) (λ e.
            let same : literal_at t learned.first ≡ literal_at t q = sym (negate-negate (literal_at t learned.first)) ∙ ap negate (are_one l (negate (literal_at t q)) e) ∙ negate-negate (literal_at t q) in
            let in_it = to_held (level_at t q) es t.entries tied q (inside q (place_here q qs)) (omega arith) in
            let first = learned.first_level in
            let less = a.0.1 in
            not_both (has_literal (held (level_at t q) es) (literal_at t learned.first)) (ap (has_literal (held (level_at t q) es)) same ∙ in_it)
            (not_yet_held (level_at t q) table IsRow es t.entries w tied learned.first learned.within (omega (arith, first, less))))
            (λ e. e),
        ap (has_literal (held (level_at t q - 1) es)) (negate-negate (literal_at t q)) ∙ not_yet_held (level_at t q - 1) table IsRow es t.entries w tied q (inside q (place_here q qs)) (let pos = a.0.0 in omega (arith, pos)),
      )

  -- the clause that a conflict teaches is asserting by its first literal, above its back level
  pub taught_is_learned : (conflict : List Literal) (holds : List Literal → ℕ → Type 0) (resolved : List Resolved) (lits : List Literal) (back lbd : ℕ) → Teaches t conflict holds resolved lits back lbd
      → (l : Literal) × (more : List Literal) × (lits ≡ l ∷ more) × IsLearnedOf es back lits l
  taught_is_learned conflict holds resolved lits back lbd teaches =
      let learned = teaches.learned in
      let l = negate (literal_at t learned.first) in (
        l,
        negated_at t learned.rest,
        learned.are,
        subst (λ b. IsLearnedOf es b lits l) (sym (teaches.back_is ∙ second_is t learned.first learned.rest)) (places_are_learned conflict holds resolved lits learned),
      )
