-- The trail of the code holds what the trail of the calculus holds, at the same levels.
use Rattle.std.proofs.Common.{◌≡◌, ◌≢◌, refl, sym, ap, ◌∙◌, subst, ℕ, zero, suc, ◌+◌, ◌-◌, ◌<◌, ◌≤◌, nat_le, nat_eq, Bool, true, false, cond, not, List, [], ◌∷◌, ◌++◌, length, ◌⊎◌, inl, inr, eqb-true, arith}
use Rattle.std.proofs.lemmas.Bool.{le-leb, lt-leb, eqb-false}
use Rattle.std.proofs.lemmas.List.{length_push}
use Rattle.cx_base.specs.Literals.{Literal, negate}
use Rattle.cx_semantics.specs.Chain.{has_literal}
use Rattle.cx_semantics.specs.Tables.{Table}
use Rattle.cx_semantics.proofs.Closure.{has_by_inside}
use Rattle.cx_semantics.proofs.Members.{has_at_head, has_behind, has_split}
use Rattle.cx_trail.specs.declared.entry.Entry.{Entry as TrailEntry}
use Rattle.cx_trail.specs.Sequence.{TrailState, entry_at, IsTrueIn, IsOpenIn, IsTrail as IsCodeTrail}
use Rattle.search_steps.specs.Trail.{Entry, held, all_held, level_of, IsTrail, IsUnassigned}
use Rattle.search_steps.specs.Tied.{IsTied}
use Rattle.conflict_learn.proofs.ChainOfResolutions.{by_cases}
use Rattle.search_steps.proofs.Sets.{not_both}
use Rattle.search_steps.proofs.TrailLaws.{held_inside}

-- ---- entries at the end and before it
pub entry_last : (before : List TrailEntry) (i : TrailEntry) → entry_at (before ++ i ∷ []) (length before) ≡ i
entry_last [] i = refl
entry_last (x ∷ before) i = entry_last before i

pub entry_before : (before : List TrailEntry) (i : TrailEntry) (p : ℕ) → p < length before → entry_at (before ++ i ∷ []) p ≡ entry_at before p
entry_before [] i p h = absurd (omega (arith, h))
entry_before (x ∷ before) i zero h = refl
entry_before (x ∷ before) i (suc p) h = entry_before before i p (omega (arith, h))

pub put_held : (k : ℕ) (e : Entry) (es : List Entry) (m : Literal) → has_literal (held k es) m ≡ true → has_literal (held k (e ∷ es)) m ≡ true
put_held k e es m h = elim (nat_le e.level k) as (λ b. has_literal (cond b (e.literal ∷ held k es) (held k es)) m ≡ true) [ true ↦ has_behind e.literal (held k es) m h | false ↦ h ]

-- at the last place, or before it
split_last : (before : List TrailEntry) (i : TrailEntry) (p : ℕ) → p < length (before ++ i ∷ []) → (entry_at (before ++ i ∷ []) p ≡ i) ⊎ ((p < length before) × (entry_at (before ++ i ∷ []) p ≡ entry_at before p))
split_last before i p h = by_cases (nat_eq p (length before))
    (λ is. inl (ap (entry_at (before ++ i ∷ [])) (eqb-true p (length before) is) ∙ entry_last before i))
    (λ is.
    let apart : p ≢ length before = eqb-false p (length before) is in
    let long = length_push before i in
    let less : p < length before = omega (arith, h, long, apart) in
    inr (less, entry_before before i p less))

-- the literal of a place of a level up to k is held there
pub to_held : (k : ℕ) (es : List Entry) (entries : List TrailEntry) → IsTied es entries → (p : ℕ) → p < length entries → (entry_at entries p).level ≤ k → has_literal (held k es) (entry_at entries p).literal ≡ true
to_held k [] entries t p h low = absurd (let z : length entries ≡ 0 = ap length t in omega (arith, h, z))
to_held k (e ∷ es) entries (before, i, same, lit, lev, t) p h low =
    subst (λ xs. p < length xs → (entry_at xs p).level ≤ k → has_literal (held k (e ∷ es)) (entry_at xs p).literal ≡ true) (sym same) (go (to_held k es before t p)) h low
  where
    go : (p < length before → (entry_at before p).level ≤ k → has_literal (held k es) (entry_at before p).literal ≡ true) → p < length (before ++ i ∷ []) → (entry_at (before ++ i ∷ []) p).level ≤ k → has_literal (held k (e ∷ es)) (entry_at (before ++ i ∷ []) p).literal ≡ true
    go rec h low = elim (split_last before i p h) [
      | inl at ↦
          let small : nat_le e.level k ≡ true = le-leb e.level k (subst (λ x. x ≤ k) (ap (λ x. x.level) at ∙ lev) low) in
          ap (λ b. has_literal (cond b (e.literal ∷ held k es) (held k es)) (entry_at (before ++ i ∷ []) p).literal) small
          ∙ ap (has_literal (e.literal ∷ held k es)) (ap (λ x. x.literal) at ∙ lit) ∙ has_at_head e.literal (held k es)
      | inr (less, at) ↦ ap (λ x. has_literal (held k (e ∷ es)) x.literal) at ∙ put_held k e es (entry_at before p).literal (rec less (subst (λ x. x ≤ k) (ap (λ x. x.level) at) low))
    ]

cons_false : (b : Bool) (x : Literal) (xs : List Literal) (m : Literal) → has_literal xs m ≡ false → (m ≡ x → ⊥) → has_literal (cond b (x ∷ xs) xs) m ≡ false
cons_false true x xs m h n = by_cases (has_literal (x ∷ xs) m) (λ e. elim (has_split x xs m e) [ inl f ↦ absurd (n f) | inr g ↦ not_both (has_literal xs m) g h ]) (λ e. e)
cons_false false x xs m h n = h

-- a literal of a place of a level above k is not held there
pub not_yet_held : (k : ℕ) (table : Table) (IsRow : List Literal → Type 0) (es : List Entry) (entries : List TrailEntry) → IsTrail table IsRow es → IsTied es entries → (p : ℕ) → p < length entries → k < (entry_at entries p).level → has_literal (held k es) (entry_at entries p).literal ≡ false
not_yet_held k table IsRow [] entries w t p h high = refl
not_yet_held k table IsRow (e ∷ es) entries w (before, i, same, lit, lev, t) p h high =
    subst (λ xs. p < length xs → k < (entry_at xs p).level → has_literal (held k (e ∷ es)) (entry_at xs p).literal ≡ false) (sym same) (go (not_yet_held k table IsRow es before w.2 t p)) h high
  where
    not_in_part : (m : Literal) → has_literal (all_held es) m ≡ false → has_literal (held k es) m ≡ false
    not_in_part m n = by_cases (has_literal (held k es) m) (λ f. not_both (has_literal (all_held es) m) (has_by_inside (held k es) (all_held es) m (held_inside k es) f) n) (λ f. f)

    go : (p < length before → k < (entry_at before p).level → has_literal (held k es) (entry_at before p).literal ≡ false) → p < length (before ++ i ∷ []) → k < (entry_at (before ++ i ∷ []) p).level → has_literal (held k (e ∷ es)) (entry_at (before ++ i ∷ []) p).literal ≡ false
    go rec h high = elim (split_last before i p h) [
      | inl at ↦
          let big : nat_le e.level k ≡ false = lt-leb e.level k (subst (λ x. k < x) (ap (λ x. x.level) at ∙ lev) high) in
          ap (λ b. has_literal (cond b (e.literal ∷ held k es) (held k es)) (entry_at (before ++ i ∷ []) p).literal) big
          ∙ ap (has_literal (held k es)) (ap (λ x. x.literal) at ∙ lit) ∙ not_in_part e.literal w.0.0
      | inr (less, at) ↦
          let in_es : has_literal (all_held es) (entry_at before p).literal ≡ true =
          has_by_inside (held (entry_at before p).level es) (all_held es) (entry_at before p).literal (held_inside (entry_at before p).level es) (to_held (entry_at before p).level es before t p less (omega arith)) in
          ap (λ x. has_literal (held k (e ∷ es)) x.literal) at
          ∙ cons_false (nat_le e.level k) e.literal (held k es) (entry_at before p).literal (rec less (subst (λ x. k < x) (ap (λ x. x.level) at) high))
          (λ f. not_both (has_literal (all_held es) (entry_at before p).literal) in_es (ap (has_literal (all_held es)) f ∙ w.0.0))
    ]

-- ---- what is true, false and open
pub true_is_held : (es : List Entry) (entries : List TrailEntry) → IsTied es entries → (l : Literal) → IsTrueIn entries l → has_literal (all_held es) l ≡ true
true_is_held es entries t l (p, (less, at)) =
    has_by_inside (held (entry_at entries p).level es) (all_held es) l (held_inside (entry_at entries p).level es)
    (ap (has_literal (held (entry_at entries p).level es)) (sym at) ∙ to_held (entry_at entries p).level es entries t p less (omega arith))

pub held_is_true : (es : List Entry) (entries : List TrailEntry) → IsTied es entries → (l : Literal) → has_literal (all_held es) l ≡ true → IsTrueIn entries l
held_is_true [] entries t l h = not_both false h refl
held_is_true (e ∷ es) entries (before, i, same, lit, lev, t) l h = subst (λ xs. IsTrueIn xs l) (sym same) (elim (has_split e.literal (all_held es) l h) [
  | inl is ↦ let long = length_push before i in (length before, (omega (arith, long), ap (λ x. x.literal) (entry_last before i) ∙ lit ∙ sym is))
  | inr g ↦
      let r = held_is_true es before t l g in
      let less = r.1.0 in
      let long = length_push before i in
      (r.0, (omega (arith, long, less), ap (λ x. x.literal) (entry_before before i r.0 less) ∙ r.1.1))
])

pub open_is_unassigned : (es : List Entry) (entries : List TrailEntry) → IsTied es entries → (l : Literal) → IsOpenIn entries l.variable → IsUnassigned (all_held es) l
open_is_unassigned es entries t l is_open = (none l refl, none (negate l) refl)
  where
    none : (m : Literal) → m.variable ≡ l.variable → has_literal (all_held es) m ≡ false
    none m same = by_cases (has_literal (all_held es) m)
        (λ h. let r = held_is_true es entries t m h in absurd (is_open r.0 r.1.0 (ap (λ x. x.variable) r.1.1 ∙ same)))
        (λ e. e)

pub unassigned_is_open : (es : List Entry) (entries : List TrailEntry) → IsTied es entries → (l : Literal) → IsUnassigned (all_held es) l → IsOpenIn entries l.variable
unassigned_is_open es entries t l none p less same = one_of (entry_at entries p).literal (true_is_held es entries t (entry_at entries p).literal (p, (less, refl))) same (entry_at entries p).literal.negative l.negative refl refl
  where
    one_of : (x : Literal) → has_literal (all_held es) x ≡ true → x.variable ≡ l.variable → (a b : Bool) → x.negative ≡ a → l.negative ≡ b → ⊥
    one_of x h v true true e f = let is : x ≡ l = (λ i. record { variable = v i; negative = (e ∙ sym f) i }) in not_both (has_literal (all_held es) l) (ap (has_literal (all_held es)) (sym is) ∙ h) none.0
    one_of x h v false false e f = let is : x ≡ l = (λ i. record { variable = v i; negative = (e ∙ sym f) i }) in not_both (has_literal (all_held es) l) (ap (has_literal (all_held es)) (sym is) ∙ h) none.0
    one_of x h v true false e f = let is : x ≡ negate l = (λ i. record { variable = v i; negative = (e ∙ sym (ap not f)) i }) in not_both (has_literal (all_held es) (negate l)) (ap (has_literal (all_held es)) (sym is) ∙ h) none.1
    one_of x h v false true e f = let is : x ≡ negate l = (λ i. record { variable = v i; negative = (e ∙ sym (ap not f)) i }) in not_both (has_literal (all_held es) (negate l)) (ap (has_literal (all_held es)) (sym is) ∙ h) none.1

-- ---- levels
pub level_tied : (es : List Entry) (t : TrailState) → IsTied es t.entries → IsCodeTrail t → level_of es ≡ t.level
level_tied [] t tied ok = let z : length t.entries ≡ 0 = ap length tied in let deep = ok.deep in omega (arith, z, deep)
level_tied (e ∷ es) t (before, i, same, lit, lev, tied) ok =
    let long = length_push before i in
    let at : length (before ++ i ∷ []) - 1 ≡ length before = omega (arith, long) in
    sym lev ∙ ap (λ x. x.level) (sym (entry_last before i)) ∙ ap (λ p. (entry_at (before ++ i ∷ []) p).level) (sym at) ∙ ap (λ xs. (entry_at xs (length xs - 1)).level) (sym same) ∙ ok.newest
