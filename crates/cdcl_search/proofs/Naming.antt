-- The rows that the engine names, and the literals that it implies.
use Rattle.std.proofs.Common.{◌≡◌, ◌≢◌, refl, sym, ap, ◌∙◌, subst, ℕ, suc, ◌+◌, ◌-◌, ◌<◌, ◌≤◌, nat_eq, Bool, true, false, not, ◌||◌, ◌&&◌, List, [], ◌∷◌, ◌++◌, map, length, take, Option, Some, None, arith, eqb-true, length-append, true≢false, inl, inr}
use Rattle.std.specs.List.{list_all}
use Rattle.std.specs.Prelude.{IsTrue}
use Rattle.std.specs.FinSet as set
use Rattle.std.proofs.lemmas.Bool.{eqb-false, or_right}
use Rattle.std.proofs.lemmas.List.{get_or-set_same, get_or-set_other, length-take}
use Rattle.std.proofs.Math.Seq.{take-length}
use Rattle.cx_base.specs.Literals.{Literal, negate, literal_true, same_literal}
use Rattle.cx_base.specs.Parity.{NormalForm, normal_form}
use Rattle.cx_base.specs.Problem.{Problem, parity_met, clause_met, AreWithin}
use Rattle.cx_semantics.specs.Chain.{has_literal, negations}
use Rattle.cx_base.specs.declared.steps.LogEvent.{LogEvent}
use Rattle.cx_semantics.proofs.ChainLaws.{literal_true-negate}
use Rattle.cx_semantics.proofs.Members.{has_at_head, has_behind, has_split, all_by}
use Rattle.cx_trail.specs.declared.entry.Entry.{Entry as TrailEntry}
use Rattle.cx_trail.specs.declared.entry.Reason.TheVariants as reason
use Rattle.cx_trail.specs.Sequence.{TrailState, pushed, IsTrueIn, IsOpenIn, IsAssignedIn, IsTrail}
use Rattle.cx_trail.proofs.CellLaws.{at_take}
use Rattle.cx_base.proofs.LiteralLaws.{negate-negate, same_literal-itself}
use Rattle.parity_engine.specs.declared.state.Held.{Held}
use Rattle.parity_engine.specs.declared.state.Mood.{Mood}
use Rattle.parity_engine.specs.declared.state.Mood.TheVariants.{Busy, Calm, Broken}
use Rattle.parity_engine.specs.declared.event.ParityEvent.TheVariants.{Implied, Conflict}
use Rattle.parity_engine.specs.State.{State, Reports, Named, names, named_at, known, known_from, held_at, is_unassigned, IsImplied, IsBroken, IsNamedNow, IsSameNamed}
use Rattle.parity_engine.proofs.Known.{has_known, none_is}
use Rattle.parity_engine.specs.Equations.{numbered}
use Rattle.xor_reason.proofs.TrailValues.{trail_values, trail_values_agree}
use Rattle.search_steps.specs.Trail.{Entry, by_row}
use Rattle.search_steps.specs.Quiet.{IsOfParities}
use Rattle.search_steps.specs.Search.{Search, IsSearchIn, forced_on}
use Rattle.search_steps.specs.Tied.{IsTied, ForcesOn}
use Rattle.search_steps.specs.Engine.{HoldsValues}
use Rattle.conflict_learn.proofs.ChainOfResolutions.{by_cases}
use Rattle.search_steps.proofs.Sets.{not_both}
use Rattle.search_steps.proofs.Bridge.{entry_before, level_tied}
use Rattle.search_steps.proofs.EngineLaws.{known_is_true, no_value_is_open}
use Rattle.search_steps.proofs.CodeSteps.{row_step_keeps}
use Rattle.search_steps.proofs.IdLaws.{row_ranged}
use Rattle.cdcl_search.specs.declared.state.SearchState.{SearchState}
use Rattle.cdcl_search.specs.Ties.{Ties, SearchStands, first_row_id, IsRowReasonAt, HaveReasons}
use Rattle.cdcl_search.specs.Finds.{HasAll, IsClash}
use Rattle.cdcl_search.proofs.Engines.{renamed_reason, reasons_stay, other_engine}
use Rattle.cdcl_search.proofs.Feeding.{tied_length}
use Rattle.cdcl_search.proofs.Following.{levels_low}
use Rattle.cdcl_search.proofs.Growing.{put, grown, at_end, before, forced_ties, watched_grows}
use Rattle.cdcl_search.proofs.Sums.{sum_is_written}

-- ---- the clause of an implied literal: it, and the negations of what the engine knows
known_within : (n k : ℕ) (values : List (Option Held)) → 1 ≤ k → k + length values ≤ n + 1 → AreWithin n (map negate (known_from k values))
known_within n k [] low high = tt
known_within n k (None ∷ values) low high = known_within n (k + 1) values (omega (arith, low)) (omega (arith, high))
known_within n k (Some h ∷ values) low high = ((low, omega (arith, high)), known_within n (k + 1) values (omega (arith, low)) (omega (arith, high)))

has_negation : (lits : List Literal) (m : Literal) → has_literal (negations lits) m ≡ true → has_literal lits (negate m) ≡ true
has_negation [] m h = h
has_negation (x ∷ lits) m h = elim (has_split (negate x) (negations lits) m h) [
  | inl is ↦ ap (has_literal (x ∷ lits)) (ap negate is ∙ negate-negate x) ∙ has_at_head x lits
  | inr g ↦ has_behind x lits (negate m) (has_negation lits m g)
]

-- values that miss one of the literals make its negation true
any_negated : (v : List Bool) (lits : List Literal) → list_all (literal_true v) lits ≡ false → clause_met v (negations lits) ≡ true
any_negated v [] none = absurd (true≢false none)
any_negated v (x ∷ lits) some = go (literal_true v x) refl some (any_negated v lits)
  where
    go : (b : Bool) → literal_true v x ≡ b → (b && list_all (literal_true v) lits) ≡ false → (list_all (literal_true v) lits ≡ false → clause_met v (negations lits) ≡ true) → (literal_true v (negate x) || clause_met v (negations lits)) ≡ true
    go true is h rec = or_right (literal_true v (negate x)) (clause_met v (negations lits)) (rec h)
    go false is h rec = ap (λ b. b || clause_met v (negations lits)) (literal_true-negate v x ∙ ap not is)

abbrev pub clause_of : State → Literal → List Literal
clause_of e l = l ∷ negations (known e)

implied_of_parities : (e : State) (l : Literal) (f : NormalForm) → length e.values ≡ e.vars → IsImplied e l f → IsOfParities e.vars e.parities (clause_of e l)
implied_of_parities e l f wide i = record {
  within = ((i.low, i.high), known_within e.vars 1 e.values (omega arith) (omega (arith, wide)));
  implied = λ v met. by_cases (list_all (literal_true v) (known e))
      (λ all. ap (λ b. b || clause_met v (negations (known e))) (i.forced v (record { agrees = all; meets = met })))
      (λ some. or_right (literal_true v l) (clause_met v (negations (known e))) (any_negated v (known e) some));
}

-- ---- what the engine knows is on the trail
module _ (formula : Problem) (c : SearchState) (e : State) (rows : List (List Literal)) (s : Search) (t : Ties formula c e rows s) where
  pub known_stands : (l : Literal) → has_literal (known e) l ≡ true → IsTrueIn c.trail.entries l
  known_stands l h = known_is_true e t.engine.fed.older t.engine.fed.values t.engine.fed.newer c.trail.entries (subst (λ es. IsTied es c.trail.entries) t.engine.fed.parts t.trail.follows.tied) l h

  forces_on : (l : Literal) → ForcesOn c.trail.entries (clause_of e l) l
  forces_on l = record {
    has_it = has_at_head l (negations (known e));
    others_false = λ m h apart. elim (has_split l (negations (known e)) m h) [
      | inl is ↦ not_both (same_literal l m) (ap (same_literal l) is ∙ same_literal-itself l) apart
      | inr g ↦ known_stands (negate m) (has_negation (known e) m g)
    ];
  }

  assigned_stands : (v : ℕ) → 1 ≤ v → is_unassigned (held_at e.values v) ≡ false → IsAssignedIn c.trail.entries v
  assigned_stands v low has = go (held_at e.values v) refl has
    where
      go : (o : Option Held) → held_at e.values v ≡ o → is_unassigned o ≡ false → IsAssignedIn c.trail.entries v
      go None is h = absurd (true≢false h)
      go (Some h) is _ =
          let l : Literal = record { variable = v; negative = not h.value } in
          let r = known_stands l (has_known 1 e.values (v - 1) h l is (omega (arith, low)) refl) in
          (r.0, r.1.0, ap (λ (x : Literal). x.variable) r.1.1)

  -- where the engine has all literals, it has just the values of the trail
  pub all_fed : HasAll c → HoldsValues s.trail e.values
  all_fed all =
      let n = tied_length s.trail c.trail.entries t.trail.follows.tied in
      let m : length s.trail ≡ length t.engine.fed.newer + length t.engine.fed.older = ap length t.engine.fed.parts ∙ length-append t.engine.fed.newer t.engine.fed.older in
      let k = t.engine.fed.count in
      subst (λ es. HoldsValues es e.values) (older_is t.engine.fed.newer t.engine.fed.parts (let a : c.given ≡ length c.trail.entries = all in omega (arith, n, m, k, a))) t.engine.fed.values
    where
      older_is : (newer : List Entry) → s.trail ≡ newer ++ t.engine.fed.older → length newer ≡ 0 → t.engine.fed.older ≡ s.trail
      older_is [] parts none = sym parts
      older_is (x ∷ newer) parts none = absurd (omega (arith, none))

  pub implied_is_open : HasAll c → (l : Literal) → is_unassigned (held_at e.values l.variable) ≡ true → IsOpenIn c.trail.entries l.variable
  implied_is_open all l none = no_value_is_open s.trail e.values (all_fed all) c.trail.entries t.trail.follows.tied l.variable (none_is (held_at e.values l.variable) none)

  -- ---- the rows that are named
  module _ (row : ℕ) (n : Named) (mood : Mood) (less : row < length e.named) (same : IsSameNamed (named_at e row) n) where
    named_here : named_at (names e row n mood) row ≡ Some n
    named_here = get_or-set_same e.named row (Some n) None less

    same_as : (m : Named) → named_at e row ≡ Some m → IsSameNamed (Some m) n
    same_as m is = subst (λ o. IsSameNamed o n) is same

    -- a row that is a reason stays one, where the event names another row, or one as a reason
    names_keep : ((i : ℕ) → i < length c.trail.entries → IsRowReasonAt e c.trail.entries i row → n.in_conflict ≡ false) → HaveReasons c (names e row n mood)
    names_keep calm = reasons_stay c e (names e row n mood) stays t.reasons
      where
        stays : (i r : ℕ) → i < length c.trail.entries → IsRowReasonAt e c.trail.entries i r → IsRowReasonAt (names e row n mood) c.trail.entries i r
        stays i r within h = by_cases (nat_eq r row)
            (λ is.
            let here : IsRowReasonAt e c.trail.entries i row = subst (IsRowReasonAt e c.trail.entries i) (eqb-true r row is) h in
            let alike = same_as here.named here.is in
            subst (IsRowReasonAt (names e row n mood) c.trail.entries i) (sym (eqb-true r row is))
            (renamed_reason e (names e row n mood) c.trail.entries i row here n named_here (calm i within here) alike.0 alike.2 alike.1 refl))
            (λ is.
            let apart : r ≢ row = eqb-false r row is in
            renamed_reason e (names e row n mood) c.trail.entries i r h h.named (get_or-set_other e.named row r (Some n) None apart ∙ h.is) h.implied refl refl refl refl)

    pub names_tied : ((i : ℕ) → i < length c.trail.entries → IsRowReasonAt e c.trail.entries i row → n.in_conflict ≡ false) → Ties formula c (names e row n mood) rows s
    names_tied calm = other_engine formula c rows s e (names e row n mood) refl refl refl refl (names_keep calm) t

    -- a row that the values miss is no reason
    pub missed_is_no_reason : IsNamedNow e n true → IsBroken e n.form → (i : ℕ) → i < length c.trail.entries → IsRowReasonAt e c.trail.entries i row → ⊥
    missed_is_no_reason now broken i within h =
        let v = trail_values c.trail in
        let agrees = trail_values_agree c.trail t.trail.follows.sound in
        let alike = same_as h.named h.is in
        let w = sum_is_written (numbered e.parities n.sources) in
        let is : normal_form w.0 ≡ n.form = w.1 ∙ sym now.sums in
        let met : parity_met v w.0 ≡ true = h.met v (λ l true_in. agrees l (from_front (suc i) l true_in)) w.0 (is ∙ alike.0) in
        let unmet : parity_met v w.0 ≡ false = broken.unmet v (all_by (literal_true v) (known e) (λ l k. agrees l (known_stands l k))) w.0 is in
        true≢false (sym met ∙ unmet)
      where
        from_front : (k : ℕ) (l : Literal) → IsTrueIn (take k c.trail.entries) l → IsTrueIn c.trail.entries l
        from_front k l (p, (less, at)) =
            let n = length-take k c.trail.entries in
            (p, (omega (arith, n, less), ap (λ (x : TrailEntry). x.literal) (sym (at_take k p c.trail.entries (omega (arith, n, less)))) ∙ at))

    -- ---- an implied literal
    module _ (l : Literal) (now : IsNamedNow e n false) (implied : IsImplied e l n.form) where
      whole : take (suc (length c.trail.entries)) (grown c c.trail.level l (reason.Row row)) ≡ grown c c.trail.level l (reason.Row row)
      whole = ap (λ k. take k (grown c c.trail.level l (reason.Row row))) (let m : length (grown c c.trail.level l (reason.Row row)) ≡ length c.trail.entries + 1 = length-append c.trail.entries _ in
          let k : suc (length c.trail.entries) ≡ length (grown c c.trail.level l (reason.Row row)) = omega (arith, m) in k)
          ∙ take-length (grown c c.trail.level l (reason.Row row))

      stands_behind : (m : Literal) → IsTrueIn c.trail.entries m → IsTrueIn (grown c c.trail.level l (reason.Row row)) m
      stands_behind m (p, (less, at)) =
          let long = length-append c.trail.entries (record { literal = l; level = c.trail.level; reason = reason.Row row } ∷ []) in
          (p, (omega (arith, long, less), ap (λ (x : TrailEntry). x.literal) (entry_before c.trail.entries (record { literal = l; level = c.trail.level; reason = reason.Row row }) p less) ∙ at))

      stands_last : IsTrueIn (grown c c.trail.level l (reason.Row row)) l
      stands_last =
          let long = length-append c.trail.entries (record { literal = l; level = c.trail.level; reason = reason.Row row } ∷ []) in
          (length c.trail.entries, (omega (arith, long), ap (λ (x : TrailEntry). x.literal) (at_end c c.trail.level l (reason.Row row))))

      is_reason : IsRowReasonAt (names e row n mood) (grown c c.trail.level l (reason.Row row)) (length c.trail.entries) row
      is_reason = record {
        named = n;
        is = named_here;
        implied = now.kind_is;
        level = subst (λ (x : TrailEntry). n.level ≤ x.level) (sym (at_end c c.trail.level l (reason.Row row)))
            (let a = now.level_is in let b = t.engine.fed.level in let d = level_tied s.trail c.trail t.trail.follows.tied t.trail.follows.sound in omega (arith, a, b, d));
        has = subst (λ (x : TrailEntry). IsTrue (set.contains n.form.variables x.literal.variable)) (sym (at_end c c.trail.level l (reason.Row row))) implied.has;
        others = λ v low apart has. subst (λ es. IsAssignedIn es v) (sym (before c c.trail.level l (reason.Row row) (length c.trail.entries) (omega arith) ∙ take-length c.trail.entries))
            (assigned_stands v low (implied.others v (λ is. apart (is ∙ ap (λ (x : TrailEntry). x.literal.variable) (sym (at_end c c.trail.level l (reason.Row row))))) has));
        met = λ v agrees.
            let on = subst (λ es. (m : Literal) → IsTrueIn es m → IsTrue (literal_true v m)) whole agrees in
            implied.met v (all_by (literal_true v) (known e) (λ m k. on m (stands_behind m (known_stands m k)))) (on l stands_last);
        numbers = now.numbers;
        sums = now.sums;
      }

      pub implied_tied : IsSearchIn c.tidies formula e.parities s → HasAll c → IsTrail (pushed c.trail c.trail.level l (reason.Row row))
          → IsSearchIn c.tidies formula e.parities (forced_on s l (by_row (clause_of e l))) × Ties formula (put c c.trail.level l (reason.Row row)) (names e row n mood) rows (forced_on s l (by_row (clause_of e l)))
      implied_tied ok all sound =
          let levels = levels_low formula c e rows s t in
          let of_theirs : IsOfParities formula.variables e.parities (clause_of e l) =
          subst (λ k. IsOfParities k e.parities (clause_of e l)) t.engine.vars (implied_of_parities e l n.form t.engine.wide implied) in
          let kept = row_step_keeps formula e.parities s ok c.trail t.trail.follows l (reason.Row row) (implied_is_open all l implied.unassigned) (clause_of e l) (omega (arith, levels)) of_theirs (forces_on l) in (
            kept.0,
            forced_ties formula c (names e row n mood) rows s (names_tied (λ _ _ _. now.kind_is)) l (reason.Row row) (by_row (clause_of e l))
                (row_ranged formula (first_row_id c.next) c.next (first_row_id c.next + length rows) s t.log.ranged l (clause_of e l)) kept.1 sound is_reason,
          )

-- ---- the events, for the search that fits the code
module _ (formula : Problem) (c : SearchState) (e u : State) (rows : List (List Literal)) (told : Option (List LogEvent)) where
  pub quiet_stands : u ≡ record e { mood = Calm } → SearchStands formula c e rows told → SearchStands formula c u rows told
  quiet_stands is (s, ok, told_is, t, f) =
      subst (λ w. SearchStands formula c w rows told) (sym is) (
        s,
        ok,
        told_is,
        other_engine formula c rows s e (record e { mood = Calm }) refl refl refl refl
            (reasons_stay c e (record e { mood = Calm }) (λ i row _ h. renamed_reason e (record e { mood = Calm }) c.trail.entries i row h h.named h.is h.implied refl refl refl refl) t.reasons) t,
        f,
      )

  pub implied_stands : (l : Literal) (row : ℕ) → Reports e (Implied l row) u → HasAll c → (trail : TrailState) → trail ≡ pushed c.trail c.trail.level l (reason.Row row) → IsTrail trail → SearchStands formula c e rows told → SearchStands formula (record c { trail = trail }) u rows told
  implied_stands l row a all trail is sound (s, ok, told_is, t, f) =
      let r = implied_tied formula c e rows s t row a.0 Busy a.1 a.3 l a.4 a.5 ok all (subst IsTrail is sound) in
      subst (λ (w : TrailState). SearchStands formula (record c { trail = w }) u rows told) (sym is) (subst (λ w. SearchStands formula (put c c.trail.level l (reason.Row row)) w rows told) (sym a.2) (forced_on s l (by_row (clause_of e l)), r.0, told_is, r.1, watched_grows c c.trail.level l (reason.Row row) (omega arith) f))

  pub conflict_stands : (row : ℕ) → Reports e (Conflict row) u → SearchStands formula c e rows told → SearchStands formula c u rows told
  conflict_stands row a (s, ok, told_is, t, f) =
      subst (λ w. SearchStands formula c w rows told) (sym a.2)
      (s, ok, told_is, names_tied formula c e rows s t row a.0 Broken a.1 a.3 (λ i less h. absurd (missed_is_no_reason formula c e rows s t row a.0 Broken a.1 a.3 a.4 a.5 i less h)), f)

pub conflict_is_clash : (e u : State) (row : ℕ) → Reports e (Conflict row) u → IsClash u row
conflict_is_clash e u row a = subst (λ w. IsClash w row) (sym a.2)
    (a.0, get_or-set_same e.named row (Some a.0) None a.1, a.4.kind_is, record { none = a.5.none; whole = a.5.whole; unmet = a.5.unmet })
