-- Each step of the trail and of the tables keeps what the trail needs.
use Rattle.std.proofs.Common.{◌≡◌, ◌≢◌, refl, sym, ap, ◌∙◌, subst, ℕ, suc, ◌-◌, ◌≤◌, ◌<◌, Bool, false, cond, nat_eq, eqb-true, List, [], ◌∷◌, length, Some, None, arith, ◌⊎◌, inl, inr}
use Rattle.std.proofs.lemmas.Bool.{eqb-false}
use Rattle.std.specs.FinMap as map_
use Rattle.cx_base.specs.Literals.{Literal, negate}
use Rattle.cx_base.specs.Problem.{Problem}
use Rattle.cx_semantics.specs.Chain.{has_literal}
use Rattle.cx_semantics.specs.Fresh.{Fresh}
use Rattle.cx_semantics.specs.Tables.{Table, Tables, get, put_clause, put_parity, drop_clauses, drop_parities}
use Rattle.cx_semantics.proofs.Closure.{has_by_inside}
use Rattle.cx_semantics.proofs.Lookups.{Looks-insert, Looks-remove}
use Rattle.search_steps.specs.Trail.{Entry, Why, decided, by_clause, by_row, held, all_held, level_of, IsTrail, IsSetBy, IsUnassigned}
use Rattle.search_steps.specs.Quiet.{Quiet, RestsOn, HasNoClash, IsOfParities}
use Rattle.search_steps.specs.LogSteps.{IsNoReason}
use Rattle.search_steps.specs.Search.{Search, Serves, IsSearchIn, decided_on, forced_on, jumped, IsLearnedOf}
use Rattle.conflict_learn.proofs.ChainOfResolutions.{by_cases}
use Rattle.search_steps.proofs.Sets.{not_both, two_open_rests}
use Rattle.search_steps.proofs.FreshLaws.{asserting_is_fresh}
use Rattle.search_steps.proofs.TrailLaws.{held_inside, held_rises, held_over, held_back, held_all, trail_no_clash, back_is_trail}
use Rattle.search_steps.proofs.QuietLaws.{quiet_with, quiet_without}

-- ---- reasons stay where their clauses do
module _ (IsRow : List Literal → Type 0) where
  pub trail_by : (table other : Table) (es : List Entry) → ((n : ℕ) (clause : List Literal) → get table n ≡ Some clause → (get other n ≡ Some clause)) → IsTrail table IsRow es → IsTrail other IsRow es
  trail_by table other [] h t = t
  trail_by table other (e ∷ es) h t = (t.0, stands e.why t.1, trail_by table other es h t.2)
    where
      stands : (why : Why) → IsSetBy table IsRow why e.literal e.level es → IsSetBy other IsRow why e.literal e.level es
      stands decided s = s
      stands (by_clause n) (a, (clause, live, f)) = (a, (clause, h n clause live, f))
      stands (by_row c) s = s

  pub trail_without : (table : Table) (n : ℕ) (es : List Entry) → IsNoReason n es → IsTrail table IsRow es → IsTrail (map_.remove table n) IsRow es
  trail_without table n [] h t = t
  trail_without table n (e ∷ es) h t = (t.0, stands e.why h.0 t.1, trail_without table n es h.1 t.2)
    where
      stands : (why : Why) → (why ≡ by_clause n → ⊥) → IsSetBy table IsRow why e.literal e.level es → IsSetBy (map_.remove table n) IsRow why e.literal e.level es
      stands decided g s = s
      stands (by_clause k) g (a, (clause, live, f)) = (
        a,
        (
          clause,
          by_cases (nat_eq k n)
              (λ same. absurd (g (ap by_clause (eqb-true k n same))))
              (λ differs. Looks-remove table (get table) n (λ _. refl) k ∙ ap (λ b. cond b None (get table k)) differs ∙ live),
          f,
        ),
      )
      stands (by_row c) g s = s

pub not_live_stays : (table : Table) (n : ℕ) (lits : List Literal) → get table n ≡ None → (k : ℕ) (clause : List Literal) → get table k ≡ Some clause → get (map_.insert table n lits) k ≡ Some clause
not_live_stays table n lits free k clause live = by_cases (nat_eq k n)
    (λ same. let e : None ≡ Some clause = sym free ∙ ap (get table) (sym (eqb-true k n same)) ∙ live in cc)
    (λ differs. Looks-insert table (get table) n lits (λ _. refl) k ∙ ap (λ b. cond b (Some lits) (get table k)) differs ∙ live)

other_stays : (table : Table) (n : ℕ) (k : ℕ) (clause : List Literal) → k < n → get table k ≡ Some clause → get (map_.remove table n) k ≡ Some clause
other_stays table n k clause less live = by_cases (nat_eq k n)
    (λ same. let e : k ≡ n = eqb-true k n same in absurd (omega (arith, e, less)))
    (λ differs. Looks-remove table (get table) n (λ _. refl) k ∙ ap (λ b. cond b None (get table k)) differs ∙ live)

module _ (formula : Problem) (parities : List (List Literal)) (trail : List Entry) (levels : ℕ) where
  -- a clause more, under an id that is free, which rests at each quiet level
  pub put_serves : (t : Tables) (n : ℕ) (lits : List Literal) → get t.clauses n ≡ None → ((k : ℕ) → k < levels → RestsOn (held k trail) lits)
      → Serves formula parities t trail levels → Serves formula parities (put_clause t n lits) trail levels
  put_serves t n lits free rests s = record {
    stands = trail_by (IsOfParities formula.variables parities) t.clauses (map_.insert t.clauses n lits) trail (not_live_stays t.clauses n lits free) s.stands;
    quiet = λ k h. record { clauses = quiet_with t.clauses (held k trail) n lits (s.quiet k h).clauses (rests k h); rows = (s.quiet k h).rows };
    keeps_parities = s.keeps_parities;
  }

  -- a clause less, which is no reason
  pub drop_serves : (t : Tables) (n : ℕ) → IsNoReason n trail
      → Serves formula parities t trail levels → Serves formula parities (drop_clauses t (n ∷ [])) trail levels
  drop_serves t n no_reason s = record {
    stands = trail_without (IsOfParities formula.variables parities) t.clauses n trail no_reason s.stands;
    quiet = λ k h. record { clauses = quiet_without t.clauses (held k trail) n (s.quiet k h).clauses; rows = (s.quiet k h).rows };
    keeps_parities = s.keeps_parities;
  }

  pub put_parity_serves : (t : Tables) (n : ℕ) (lits : List Literal) → get t.parities n ≡ None → Serves formula parities t trail levels → Serves formula parities (put_parity t n lits) trail levels
  put_parity_serves t n lits free s = record {
    stands = s.stands;
    quiet = s.quiet;
    keeps_parities = λ parity c. let kept = s.keeps_parities parity c in (kept.0, kept.1, not_live_stays t.parities n lits free kept.0 parity kept.2);
  }

  pub drop_parity_serves : (t : Tables) (n : ℕ) → length parities < n → Serves formula parities t trail levels → Serves formula parities (drop_parities t (n ∷ [])) trail levels
  drop_parity_serves t n high s = record {
    stands = s.stands;
    quiet = s.quiet;
    keeps_parities = λ parity c. let kept = s.keeps_parities parity c in (kept.0, kept.1, other_stays t.parities n kept.0 parity (omega (arith, kept.1, high)) kept.2);
  }

module _ {tidies : Bool} (formula : Problem) (parities : List (List Literal)) (s : Search) (ok : IsSearchIn tidies formula parities s) where
  table : Table
  table = s.moment.tables.clauses

  -- ---- a decision, where both engines are quiet
  pub decide_keeps : (l : Literal) → s.quiet_levels ≡ level_of s.trail → Quiet formula.variables parities s.moment.tables.clauses (all_held s.trail) → IsUnassigned (all_held s.trail) l → IsSearchIn tidies formula parities (decided_on s l)
  decide_keeps l levels quiet_now is_open = record {
    log = ok.log;
    serves = record {
      stands = (is_open, refl, ok.serves.stands);
      quiet = λ k h.
          let over = held_over k (record { literal = l; level = suc (level_of s.trail); why = decided }) s.trail (omega (arith, h)) in
          subst (Quiet formula.variables parities s.moment.tables.clauses) (sym over) (elim (split k h) [
            | inl less ↦ ok.serves.quiet k (omega (arith, levels, less))
            | inr same ↦ subst (Quiet formula.variables parities s.moment.tables.clauses) (sym (held_all s.moment.tables.clauses (IsOfParities formula.variables parities) k s.trail ok.serves.stands (omega (arith, same)))) quiet_now
          ]);
      keeps_parities = ok.serves.keeps_parities;
    };
    covered = ok.covered;
    plain = ok.plain;
  }
    where
      less : (a b : ℕ) → a < suc b → nat_eq a b ≡ false → a < b
      less a b h e = let n : a ≢ b = eqb-false a b e in omega (arith, h, n)

      split : (k : ℕ) → k < suc (level_of s.trail) → (k < level_of s.trail) ⊎ (k ≡ level_of s.trail)
      split k h = by_cases (nat_eq k (level_of s.trail)) (λ e. inr (eqb-true k _ e)) (λ e. inl (less k (level_of s.trail) h e))

  -- ---- a literal that a clause or a row forces
  pub force_keeps : (l : Literal) (why : Why) → s.quiet_levels ≤ level_of s.trail → IsUnassigned (all_held s.trail) l
      → IsSetBy s.moment.tables.clauses (IsOfParities formula.variables parities) why l (level_of s.trail) s.trail → IsSearchIn tidies formula parities (forced_on s l why)
  force_keeps l why levels is_open stands = record {
    log = ok.log;
    serves = record {
      stands = (is_open, stands, ok.serves.stands);
      quiet = λ k h. subst (Quiet formula.variables parities s.moment.tables.clauses)
          (sym (held_over k (record { literal = l; level = level_of s.trail; why = why }) s.trail (omega (arith, h, levels)))) (ok.serves.quiet k h);
      keeps_parities = ok.serves.keeps_parities;
    };
    covered = ok.covered;
    plain = ok.plain;
  }

  -- ---- back to a level up to which all levels are quiet
  pub jump_keeps : (back : ℕ) → back ≤ s.quiet_levels → IsSearchIn tidies formula parities (jumped s back)
  jump_keeps back low = record {
    log = ok.log;
    serves = record {
      stands = back_is_trail s.moment.tables.clauses (IsOfParities formula.variables parities) back s.trail ok.serves.stands;
      quiet = λ k h. subst (Quiet formula.variables parities s.moment.tables.clauses) (sym (held_back k back s.trail (omega (arith, h)))) (ok.serves.quiet k (omega (arith, h, low)));
      keeps_parities = ok.serves.keeps_parities;
    };
    covered = ok.covered;
    plain = ok.plain;
  }

  no_clash : HasNoClash (all_held s.trail)
  no_clash = trail_no_clash s.moment.tables.clauses (IsOfParities formula.variables parities) s.trail ok.serves.stands

  -- ---- the learned clause is fresh, and rests at each level below its back level
  pub learned_is_fresh : (back : ℕ) (clause : List Literal) (l : Literal) → s.quiet_levels ≡ level_of s.trail → IsLearnedOf s.trail back clause l → Fresh s.moment.tables.clauses clause
  learned_is_fresh back clause l levels a =
      asserting_is_fresh s.moment.tables.clauses (all_held s.trail) (held back s.trail) no_clash (held_inside back s.trail)
      (ok.serves.quiet back (omega (arith, levels, a.lower))).clauses clause l a.asserting.has_it a.asserting.false_now a.asserting.others_false

  stays_open : (j k : ℕ) (m : Literal) → j ≤ k → has_literal (held k s.trail) m ≡ false → has_literal (held j s.trail) m ≡ false
  stays_open j k m h is_open = by_cases (has_literal (held j s.trail) m) (λ e. not_both (has_literal (held k s.trail) m) (has_by_inside (held j s.trail) (held k s.trail) m (held_rises j k s.trail h) e) is_open) (λ e. e)

  pub learned_rests : (back : ℕ) (clause : List Literal) (l : Literal) → IsLearnedOf s.trail back clause l → (k : ℕ) → k < back → RestsOn (held k s.trail) clause
  learned_rests back clause l a k h = elim a.second [
    | inl zero_back ↦ absurd (omega (arith, zero_back, h))
    | inr (m, has_m, apart, is_open) ↦ two_open_rests (held k s.trail) clause (record {
      l = l;
      m = m;
      has_l = a.asserting.has_it;
      has_m = has_m;
      apart = apart;
      open_l = stays_open k back (negate l) (omega (arith, h)) a.asserting.open_before;
      open_m = stays_open k (back - 1) (negate m) (omega (arith, h)) is_open;
    })
  ]
