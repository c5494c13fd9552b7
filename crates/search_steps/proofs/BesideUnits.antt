-- Unit clauses of the negated literals of a clause that is not told: chains that pass through it show them.
use Rattle.std.proofs.Common.{◌≡◌, refl, sym, ap, ◌∙◌, subst, ℕ, ℤ, Bool, true, false, not, cond, nat_eq, ◌||◌, MatchBool, List, [], ◌∷◌, is_some, ◌⊎◌, inl, inr, true≢false, arith}
use Rattle.std.specs.List.{AllByRecursion, list_any, list_all}
use Rattle.std.proofs.lemmas.Bool.{and_parts, and_from, or_parts, or_left, or_right, or_cases}
use Rattle.std.proofs.Math.Bool.{and-false}
use Rattle.cx_base.specs.Literals.{Literal, negate, same_literal}
use Rattle.cx_base.specs.Integers.{literal}
use Rattle.cx_base.specs.Problem.{Problem}
use Rattle.cx_base.specs.declared.steps.LogEvent.TheVariants.{Step}
use Rattle.cx_base.specs.declared.steps.LogStep.TheVariants.{ClauseWithHints}
use Rattle.cx_base.proofs.LiteralLaws.{negate-negate, are_one, same_literal-itself}
use Rattle.cx_semantics.specs.Chain.{has_literal, is_inside, left, Left, none, one, more, count_left, go_on, right, not_unit, hints_end, chain}
use Rattle.cx_semantics.specs.Fresh.{KeepsUnits, FalsifiesNone, IsLive, is_falsified, is_tautology}
use Rattle.cx_semantics.specs.LogRules.{derives_ending_clause}
use Rattle.cx_semantics.specs.Marked.{IsLearned, IsKnown}
use Rattle.cx_semantics.specs.Tables.{Table}
use Rattle.cx_semantics.proofs.Closure.{left_under, falsified-left, left_nil, none_left, all_are, some_are, one_in, left_open, left_has, no_chain}
use Rattle.cx_semantics.proofs.Members.{has_at_head, has_behind, has_split}
use Rattle.cx_semantics.proofs.SameSets.{AllSame, HaveSame-by_test, chain_same}
use Rattle.conflict_learn.proofs.ChainOfResolutions.{by_cases}
use Rattle.search_steps.specs.Hints.{AreHintsFor}
use Rattle.search_steps.specs.LogSteps.{IsAddition}
use Rattle.search_steps.specs.Search.{Search, IsSearchIn, told}
use Rattle.search_steps.specs.Tied.{IsLiveOr}
use Rattle.search_steps.proofs.LogLaws.{IsReached, reached_is_known, step_goes_on}
use Rattle.search_steps.proofs.ServesLaws.{put_serves}
use Rattle.search_steps.proofs.CoverLaws.{put_covered}
use Rattle.search_steps.proofs.PlainLaws.{unlearned_plain}
use Rattle.search_steps.specs.Covers.{rows_in}
use Rattle.search_steps.proofs.Sets.{not_both}

-- ---- members
any_by : (p : Literal → Bool) (lits : List Literal) (l : Literal) → has_literal lits l ≡ true → p l ≡ true → list_any p lits ≡ true
any_by p [] l h k = not_both false h refl
any_by p (x ∷ lits) l h k = elim (has_split x lits l h) [
  | inl e ↦ or_left (p x) (list_any p lits) (ap p (sym e) ∙ k)
  | inr g ↦ or_right (p x) (list_any p lits) (any_by p lits l g k)
]

all_at : (p : Literal → Bool) (lits : List Literal) (l : Literal) → list_all p lits ≡ true → has_literal lits l ≡ true → p l ≡ true
all_at p [] l h k = not_both false k refl
all_at p (x ∷ lits) l h k = let q = and_parts (p x) (list_all p lits) h in elim (has_split x lits l k) [
  | inl e ↦ ap p e ∙ q.0
  | inr g ↦ all_at p lits l q.1 g
]

pub some_member : (p : Literal → Bool) (lits : List Literal) → list_any p lits ≡ true → (l : Literal) × (has_literal lits l ≡ true) × (p l ≡ true)
some_member p [] h = not_both false h refl
some_member p (x ∷ lits) h = elim (or_cases (p x) (list_any p lits) h) [
  | inl e ↦ (x, has_at_head x lits, e)
  | inr g ↦ let w = some_member p lits g in (w.0, has_behind x lits w.0 w.1, w.2)
]

no_tautology_same : (lits others : List Literal) → ((l : Literal) → has_literal lits l ≡ has_literal others l) → is_tautology lits ≡ false → is_tautology others ≡ false
no_tautology_same lits others same h = by_cases (is_tautology others)
    (λ e. let w = some_member (λ l. has_literal others (negate l)) others e in
    not_both (is_tautology lits) (any_by (λ l. has_literal lits (negate l)) lits w.0 (same w.0 ∙ w.1) (same (negate w.0) ∙ w.2)) h)
    (λ e. e)

apart_signs : (m : Literal) → has_literal (negate m ∷ []) m ≡ false
apart_signs m = ap (λ b. b || false) (go m.negative)
  where
    go : (b : Bool) → same_literal (record { variable = m.variable; negative = b }) (record { variable = m.variable; negative = not b }) ≡ false
    go true = and-false (nat_eq m.variable m.variable)
    go false = and-false (nat_eq m.variable m.variable)

apart : (x : Literal) → has_literal (x ∷ []) (negate x) ≡ false
apart x = ap (λ y. has_literal (y ∷ []) (negate x)) (sym (negate-negate x)) ∙ apart_signs (negate x)

-- ---- a closed set that has a literal of the clause
-- no such set is without conflict, where the chain is right under that literal
module _ (P : List Literal → Type 0) (u : List Literal) (units : KeepsUnits P u) (no_conflict : FalsifiesNone P u) (c : List Literal) (x : Literal) (has : has_literal c x ≡ true) (in_u : has_literal u x ≡ true) where
  pub passes : (clauses : List (List Literal)) (assumed : List Literal) → is_inside assumed u ≡ true → has_literal assumed x ≡ true → has_literal assumed (negate x) ≡ false
      → AllByRecursion (λ d. P d ⊎ (d ≡ c)) clauses → chain assumed clauses ≡ right → ⊥
  passes [] assumed h plus minus k e = let q : hints_end ≡ right = e in cc
  passes (d ∷ clauses) assumed h plus minus k e =
      go (count_left (left assumed d)) refl
      (λ l f g. passes clauses (l ∷ assumed) (and_from _ _ (in_set l f) h) (has_behind l assumed x plus) (other l f) k.1 g) e
    where
      is_left : d ≡ c → has_literal (left assumed d) x ≡ true
      is_left is = left_has assumed d x (ap (λ ls. has_literal ls x) is ∙ has) minus

      in_set : (l : Literal) → count_left (left assumed d) ≡ one l → has_literal u l ≡ true
      in_set l f = elim k.0 [
        | inl p ↦ units d l p (some_are (left u d) l (left_under (same_literal l) assumed u d h (all_are (left assumed d) l f)) (λ e. true≢false (sym (falsified-left u d e) ∙ no_conflict d p)))
        | inr is ↦ ap (has_literal u) (are_one l x (all_at (same_literal l) (left assumed d) x (all_are (left assumed d) l f) (is_left is))) ∙ in_u
      ]

      other : (l : Literal) → count_left (left assumed d) ≡ one l → has_literal (l ∷ assumed) (negate x) ≡ false
      other l f = by_cases (same_literal (negate x) l)
          (λ s. not_both (has_literal assumed (negate l)) (ap (λ y. has_literal assumed (negate y)) (sym (are_one (negate x) l s)) ∙ ap (has_literal assumed) (negate-negate x) ∙ plus)
          (left_open assumed d l (one_in (left assumed d) l f)))
          (λ s. ap (λ b. b || has_literal assumed (negate x)) s ∙ minus)

      ended : count_left (left assumed d) ≡ none → ⊥
      ended f = elim k.0 [
        | inl p ↦ no_chain P u units no_conflict assumed (d ∷ []) h (p, tt) (ap (λ w. go_on w (λ l. chain (l ∷ assumed) [])) f)
        | inr is ↦ true≢false (sym (is_left is) ∙ ap (λ xs. has_literal xs x) (none_left (left assumed d) f))
      ]

      go : (w : Left) → count_left (left assumed d) ≡ w → ((l : Literal) → count_left (left assumed d) ≡ one l → chain (l ∷ assumed) clauses ≡ right → ⊥) → go_on w (λ l. chain (l ∷ assumed) clauses) ≡ right → ⊥
      go none f rest g = ended f
      go (one l) f rest g = rest l f g
      go more f rest g = let q : not_unit ≡ right = g in cc

-- ---- a literal whose negation a clause has not
left_without : (u : List Literal) (x : Literal) (d : List Literal) → has_literal d (negate x) ≡ false → left (x ∷ u) d ≡ left u d
left_without u x [] h = refl
left_without u x (m ∷ ms) h =
    let p = or_parts (same_literal (negate x) m) (has_literal ms (negate x)) h in
    let rest = left_without u x ms p.1 in
    let s : same_literal (negate m) x ≡ false = by_cases (same_literal (negate m) x)
    (λ s. not_both (same_literal (negate x) m) (ap (λ y. same_literal y m) (ap negate (sym (are_one (negate m) x s)) ∙ negate-negate m) ∙ same_literal-itself m) p.0)
    (λ s. s) in
    λ i. cond (not (s i || has_literal u (negate m))) (m ∷ rest i) (rest i)

-- a live clause without a literal
abbrev pub IsLiveWithout : Table → Literal → List Literal → Type 0
IsLiveWithout table l d = IsLive table d × (has_literal d l ≡ false)

module _ (table : Table) (u : List Literal) (units : KeepsUnits (IsLive table) u) (no_conflict : FalsifiesNone (IsLive table) u) (x : Literal) where
  units_with : KeepsUnits (IsLiveWithout table (negate x)) (x ∷ u)
  units_with d l p f = has_behind x u l (units d l p.0 (ap count_left (sym (left_without u x d p.1)) ∙ f))

  none_with : FalsifiesNone (IsLiveWithout table (negate x)) (x ∷ u)
  none_with d p = by_cases (is_falsified (x ∷ u) d)
      (λ e. not_both (is_falsified u d) (falsified-left u d (sym (left_without u x d p.1) ∙ left_nil (x ∷ u) d e)) (no_conflict d p.0))
      (λ e. e)

-- ---- the clauses of a chain, as they are live
record AreChosen (table : Table) (c : List Literal) (clauses : List (List Literal)) : Type 0 where
  pub chosen : List (List Literal)
  pub are : AllByRecursion (λ d. (IsLive table d × (is_tautology d ≡ false)) ⊎ (d ≡ c)) chosen
  pub same : AllSame clauses chosen

choose : (table : Table) (c : List Literal) (clauses : List (List Literal)) → AllByRecursion (IsLiveOr table c) clauses → AreChosen table c clauses
choose table c [] h = record { chosen = []; are = tt; same = tt }
choose table c (d ∷ clauses) (inl ((clause, live, s), plain), h) =
    let r = choose table c clauses h in
    let same = HaveSame-by_test d clause s in
    record { chosen = clause ∷ r.chosen; are = (inl (live, no_tautology_same d clause same plain), r.are); same = (same, r.same) }
choose table c (d ∷ clauses) (inr is, h) = let r = choose table c clauses h in record { chosen = d ∷ r.chosen; are = (inr is, r.are); same = ((λ l. refl), r.same) }

-- a live clause that has the literal and is no tautology
abbrev pub IsInLive : Table → Literal → Type 0
IsInLive table l = (d : List Literal) × IsLive table d × (has_literal d l ≡ true) × (is_tautology d ≡ false)

some_or_all : (table : Table) (c : List Literal) (l : Literal) (ds : List (List Literal)) → AllByRecursion (λ d. (IsLive table d × (is_tautology d ≡ false)) ⊎ (d ≡ c)) ds
    → IsInLive table l ⊎ AllByRecursion (λ d. IsLiveWithout table l d ⊎ (d ≡ c)) ds
some_or_all table c l [] h = inr tt
some_or_all table c l (d ∷ ds) (inr is, h) = elim (some_or_all table c l ds h) [ inl w ↦ inl w | inr all ↦ inr (inr is, all) ]
some_or_all table c l (d ∷ ds) (inl p, h) = by_cases (has_literal d l)
    (λ e. inl (d, p.0, e, p.1))
    (λ e. elim (some_or_all table c l ds h) [ inl w ↦ inl w | inr all ↦ inr (inl (p.0, e), all) ])

all_live : (table : Table) (c : List Literal) (ds : List (List Literal)) → AllByRecursion (λ d. (IsLive table d × (is_tautology d ≡ false)) ⊎ (d ≡ c)) ds → AllByRecursion (λ d. IsLive table d ⊎ (d ≡ c)) ds
all_live table c [] h = tt
all_live table c (d ∷ ds) (inl p, h) = (inl p.0, all_live table c ds h)
all_live table c (d ∷ ds) (inr is, h) = (inr is, all_live table c ds h)

-- ---- the unit clause of a negated literal
module _ (table : Table) (c : List Literal) (clauses : List (List Literal)) (are : AllByRecursion (IsLiveOr table c) clauses) (serves : (assumed : List Literal) → chain assumed clauses ≡ right) (x : Literal) (has : has_literal c x ≡ true) where
  abbrev r : AreChosen table c clauses
  r = choose table c clauses are

  shows : (assumed : List Literal) → chain assumed r.chosen ≡ right
  shows assumed = sym (chain_same clauses r.chosen assumed assumed r.same (λ l. refl)) ∙ serves assumed

  pub beside_is_known : IsInLive table (negate x) ⊎ IsReached table (negate x)
  beside_is_known = elim (some_or_all table c (negate x) r.chosen r.are) [
    | inl w ↦ inl w
    | inr all ↦ inr (λ u units no_conflict. absurd (passes (IsLiveWithout table (negate x)) (x ∷ u) (units_with table u units no_conflict x) (none_with table u units no_conflict x) c x has (has_at_head x u) r.chosen
        (x ∷ []) (and_from _ _ (has_at_head x u) refl) (has_at_head x []) (apart x) all (shows (x ∷ []))))
  ]

-- such a unit clause keeps the search, where no level is quiet
pub beside_unit_keeps : {tidies : Bool} (formula : Problem) (parities : List (List Literal)) (s : Search) → IsSearchIn tidies formula parities s → s.quiet_levels ≡ 0 → (n : ℕ) (z : ℤ) (hints : List ℤ) → IsAddition formula s.moment.tables.clauses n (z ∷ []) → AreHintsFor s.moment.tables.clauses (literal z ∷ []) hints
    → derives_ending_clause formula (ClauseWithHints n (z ∷ []) hints) ≡ false → s.moment.awaits ≡ false
    → (c : List Literal) (clauses : List (List Literal)) → AllByRecursion (IsLiveOr s.moment.tables.clauses c) clauses → ((assumed : List Literal) → chain assumed clauses ≡ right)
    → has_literal c (negate (literal z)) ≡ true → IsSearchIn tidies formula parities (told s (Step (ClauseWithHints n (z ∷ []) hints)))
beside_unit_keeps formula parities s ok level n z hints a hinted goes served c clauses are serves has =
    let l = literal z in
    let table = s.moment.tables.clauses in
    let back : negate (negate l) ≡ l = negate-negate l in
    record {
      log = step_goes_on formula s.events s.moment s.conflicts ok.log (ClauseWithHints n (z ∷ []) hints)
          (a.within, (ap is_some a.free, ((hinted.ids, hinted.live, hinted.chain), tt)))
          goes
          (subst (λ b. MatchBool b (IsLearned s.moment (l ∷ [])) (derives_ending_clause formula (ClauseWithHints n (z ∷ []) hints) ≡ false → IsKnown s.moment (l ∷ []))) (sym served)
          (λ _. elim (beside_is_known table c clauses are serves (negate l) has) [
            | inl w ↦ inr (w.0, w.1, and_from _ _ (ap (has_literal w.0) (sym back) ∙ w.2) refl, w.3)
            | inr reached ↦ inl (refl, reached_is_known table l (subst (IsReached table) back reached))
          ]))
          (λ k ys is among. cc)
          hinted;
      serves = put_serves formula parities s.trail s.quiet_levels s.moment.tables n (l ∷ []) a.free (λ k h. absurd (omega (arith, h, level))) ok.serves;
      covered = put_covered formula s.moment.tables.clauses (rows_in s.moment) n (l ∷ []) a.free ok.covered;
      plain = unlearned_plain s.moment.tables.clauses n (l ∷ []) s.moment.learned s.moment.awaits served a.free ok.plain;
    }
