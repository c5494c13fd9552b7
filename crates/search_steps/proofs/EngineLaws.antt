-- The engine's values stay those of the trail, and where the engine is quiet the parities are.
use Rattle.std.proofs.Common.{◌≡◌, ◌≢◌, refl, sym, ap, ◌∙◌, subst, ℕ, zero, suc, ◌+◌, ◌-◌, ◌≤◌, ◌<◌, nat_le, nat_eq, Bool, true, false, cond, not, List, [], ◌∷◌, ◌++◌, length, get_or, Option, Some, None, arith, ◌⊎◌, inl, inr, eqb-true}
use Rattle.std.proofs.lemmas.Bool.{leb-true, leb-false, le-leb, eqb-false}
use Rattle.std.proofs.lemmas.List.{get_or-set_same, get_or-set_other}
use Rattle.std.proofs.Math.ListN.{get_or-map}
use Rattle.std.specs.Prelude.{replicate}
use Rattle.std.proofs.Math.Bool.{not-not}
use Rattle.cx_base.specs.Literals.{Literal, negate, literal_true}
use Rattle.cx_semantics.specs.Chain.{has_literal}
use Rattle.cx_semantics.specs.Forced.{Solves}
use Rattle.cx_semantics.specs.Tables.{Table}
use Rattle.cx_semantics.proofs.Closure.{has_by_inside}
use Rattle.cx_semantics.proofs.Members.{has_at_head, has_behind, has_split, all_by}
use Rattle.cx_trail.specs.declared.entry.Entry.{Entry as TrailEntry}
use Rattle.cx_trail.specs.Sequence.{IsTrueIn, IsOpenIn, entry_at}
use Rattle.parity_engine.specs.declared.event.ParityEvent.{ParityEvent}
use Rattle.parity_engine.specs.declared.event.ParityEvent.TheVariants.{Quiet, Implied, Conflict}
use Rattle.parity_engine.specs.declared.state.Held.{Held}
use Rattle.parity_engine.specs.State.{State, IsSilent, Reports, assigned, back, fresh, pushed, keep, held_at, known, known_from}
use Rattle.search_steps.specs.Trail.{Entry, held, all_held, back_to, level_of, IsTrail, IsUnassigned}
use Rattle.search_steps.specs.Quiet.{ParitiesQuiet}
use Rattle.search_steps.specs.Engine.{HasValue, HoldsValues}
use Rattle.search_steps.specs.Tied.{IsTied}
use Rattle.conflict_learn.proofs.ChainOfResolutions.{by_cases}
use Rattle.search_steps.proofs.Sets.{not_both, member_of_all}
use Rattle.search_steps.proofs.TrailLaws.{held_inside, held_all, held_back, back_is_trail}
use Rattle.search_steps.proofs.Bridge.{true_is_held, held_is_true}

-- ---- literals and values
one_sign : (a b : Literal) → a.variable ≡ b.variable → a.negative ≡ b.negative → a ≡ b
one_sign a b v n = λ i. record { variable = v i; negative = n i }

some_one : (h g : Held) → (let o : Option Held = Some h in o) ≡ Some g → h ≡ g
some_one h g e = cc

no_value : (o : Option Held) → o ≡ None → (h : Held) → o ≡ Some h → ⊥
no_value o e h f = let g : (let n : Option Held = None in n) ≡ Some h = sym e ∙ f in cc

-- a literal of the trail is held at some level
pub at_some_level : (es : List Entry) (l : Literal) → has_literal (all_held es) l ≡ true → (k : ℕ) × (has_literal (held k es) l ≡ true)
at_some_level [] l h = not_both false h refl
at_some_level (e ∷ es) l h = elim (has_split e.literal (all_held es) l h) [
  | inl is ↦ (e.level, ap (λ b. has_literal (cond b (e.literal ∷ held e.level es) (held e.level es)) l) (le-leb e.level e.level (omega arith)) ∙ ap (has_literal (e.literal ∷ held e.level es)) is ∙ has_at_head e.literal (held e.level es))
  | inr g ↦ let r = at_some_level es l g in (r.0, more (nat_le e.level r.0) e.literal (held r.0 es) r.1)
]
  where
    more : (b : Bool) (x : Literal) (xs : List Literal) → has_literal xs l ≡ true → has_literal (cond b (x ∷ xs) xs) l ≡ true
    more true x xs g = has_behind x xs l g
    more false x xs g = g

has_value_of : (es : List Entry) (values : List (Option Held)) → HoldsValues es values → (l : Literal) → has_literal (all_held es) l ≡ true → (h : Held) × HasValue values l h
has_value_of es values v l h = let r = at_some_level es l h in let f = v.from_trail r.0 l r.1 in (f.0, f.1)

is_held_by : (es : List Entry) (values : List (Option Held)) → HoldsValues es values → (l : Literal) (h : Held) → HasValue values l h → has_literal (all_held es) l ≡ true
is_held_by es values v l h has_it = has_by_inside (held h.level es) (all_held es) l (held_inside h.level es) (v.to_trail l h has_it)

-- ---- what is unassigned
pub open_has_no_value : (es : List Entry) (values : List (Option Held)) → HoldsValues es values → (l : Literal) → 1 ≤ l.variable → IsUnassigned (all_held es) l → held_at values l.variable ≡ None
open_has_no_value es values v l low is_open = go (held_at values l.variable) refl
  where
    sign_is : (h : Held) → held_at values l.variable ≡ Some h → (b : Bool) → h.value ≡ b → (n : Bool) → l.negative ≡ n → ⊥
    sign_is h at true e false f = not_both (has_literal (all_held es) l) (is_held_by es values v l h (record { low = low; has_it = at; sign = e ∙ sym (ap not f) })) is_open.0
    sign_is h at false e true f = not_both (has_literal (all_held es) l) (is_held_by es values v l h (record { low = low; has_it = at; sign = e ∙ sym (ap not f) })) is_open.0
    sign_is h at true e true f = not_both (has_literal (all_held es) (negate l)) (is_held_by es values v (negate l) h (record { low = low; has_it = at; sign = e ∙ sym (ap (λ n. not (not n)) f) })) is_open.1
    sign_is h at false e false f = not_both (has_literal (all_held es) (negate l)) (is_held_by es values v (negate l) h (record { low = low; has_it = at; sign = e ∙ sym (ap (λ n. not (not n)) f) })) is_open.1

    go : (o : Option Held) → held_at values l.variable ≡ o → held_at values l.variable ≡ None
    go None e = e
    go (Some h) e = absurd (sign_is h e h.value refl l.negative refl)

pub no_value_is_open : (es : List Entry) (values : List (Option Held)) → HoldsValues es values → (entries : List TrailEntry) → IsTied es entries → (v : ℕ) → held_at values v ≡ None → IsOpenIn entries v
no_value_is_open es values h entries t v none p less same =
    let l = (entry_at entries p).literal in
    let r = has_value_of es values h l (true_is_held es entries t l (p, (less, refl))) in
    no_value (held_at values v) none r.0 (ap (held_at values) (sym same) ∙ r.1.has_it)

-- ---- the calls of an engine
nothing_held : (n i : ℕ) → get_or (replicate n (let o : Option Held = None in o)) i None ≡ None
nothing_held zero i = refl
nothing_held (suc n) zero = refl
nothing_held (suc n) (suc i) = nothing_held n i

pub fresh_holds : (vars : ℕ) (parities : List (List Literal)) (rows : ℕ) → HoldsValues [] (fresh vars parities rows).values
fresh_holds vars parities rows = record {
  from_trail = λ k l h. not_both false h refl;
  to_trail = λ l h v. absurd (no_value (held_at (fresh vars parities rows).values l.variable) (nothing_held vars (l.variable - 1)) h v.has_it);
}

module _ (s : State) (es : List Entry) (v : HoldsValues es s.values) where
  -- the literal of the next entry is assigned, at the engine's level
  pub assign_holds : (e : Entry) → e.level ≡ s.level → 1 ≤ e.literal.variable → e.literal.variable ≤ length s.values → IsUnassigned (all_held es) e.literal
      → HoldsValues (e ∷ es) (assigned s e.literal.variable (not e.literal.negative)).values
  assign_holds e level low high is_open = record {
    from_trail = λ k l h. from_parts k l (nat_le e.level k) refl h;
    to_trail = λ l h has_it. by_cases (nat_eq l.variable e.literal.variable)
        (λ same. put_here l h has_it (eqb-true l.variable e.literal.variable same))
        (λ apart. more (nat_le e.level h.level) l (held h.level es) (v.to_trail l h (record { low = has_it.low; has_it = sym (other l has_it.low (eqb-false l.variable e.literal.variable apart)) ∙ has_it.has_it; sign = has_it.sign })));
  }
    where
      new : Held
      new = record { value = not e.literal.negative; level = s.level }

      values : List (Option Held)
      values = (assigned s e.literal.variable (not e.literal.negative)).values

      put : held_at values e.literal.variable ≡ Some new
      put = get_or-set_same s.values (e.literal.variable - 1) (Some new) None (omega (arith, low, high))

      other : (l : Literal) → 1 ≤ l.variable → l.variable ≢ e.literal.variable → held_at values l.variable ≡ held_at s.values l.variable
      other l pos apart = get_or-set_other s.values (e.literal.variable - 1) (l.variable - 1) (Some new) None (let n : l.variable ≢ e.literal.variable = apart in omega (arith, low, pos, n))

      more : (b : Bool) (l : Literal) (xs : List Literal) → has_literal xs l ≡ true → has_literal (cond b (e.literal ∷ xs) xs) l ≡ true
      more true l xs h = has_behind e.literal xs l h
      more false l xs h = h

      -- a literal held before has another variable
      not_this : (l : Literal) → has_literal (all_held es) l ≡ true → l.variable ≢ e.literal.variable
      not_this l h same =
          let r = has_value_of es s.values v l h in
          no_value (held_at s.values e.literal.variable) (open_has_no_value es s.values v e.literal low is_open) r.0 (ap (held_at s.values) (sym same) ∙ r.1.has_it)

      old : (k : ℕ) (l : Literal) → has_literal (held k es) l ≡ true → (h : Held) × HasValue values l h × (h.level ≤ k)
      old k l h =
          let r = v.from_trail k l h in
          let apart = not_this l (has_by_inside (held k es) (all_held es) l (held_inside k es) h) in
          (r.0, record { low = r.1.low; has_it = other l r.1.low apart ∙ r.1.has_it; sign = r.1.sign }, r.2)

      from_parts : (k : ℕ) (l : Literal) (b : Bool) → nat_le e.level k ≡ b → has_literal (cond b (e.literal ∷ held k es) (held k es)) l ≡ true → (h : Held) × HasValue values l h × (h.level ≤ k)
      from_parts k l false small h = old k l h
      from_parts k l true small h = elim (has_split e.literal (held k es) l h) [
        | inl is ↦ subst (λ x. (h : Held) × HasValue values x h × (h.level ≤ k)) (sym is)
            (new, record { low = low; has_it = put; sign = refl }, let at = leb-true e.level k small in omega (arith, at, level))
        | inr g ↦ old k l g
      ]

      put_here : (l : Literal) (h : Held) → HasValue values l h → l.variable ≡ e.literal.variable → has_literal (held h.level (e ∷ es)) l ≡ true
      put_here l h has_it same =
          let is : new ≡ h = some_one new h (sym put ∙ ap (held_at values) (sym same) ∙ has_it.has_it) in
          let sign : l.negative ≡ e.literal.negative = sym (not-not l.negative) ∙ ap not (sym has_it.sign ∙ ap (λ x. x.value) (sym is)) ∙ not-not e.literal.negative in
          let at : s.level ≡ h.level = ap (λ x. x.level) is in
          ap (λ b. has_literal (cond b (e.literal ∷ held h.level es) (held h.level es)) l) (le-leb e.level h.level (omega (arith, level, at)))
          ∙ ap (has_literal (e.literal ∷ held h.level es)) (one_sign l e.literal same sign) ∙ has_at_head e.literal (held h.level es)

  pub push_holds : HoldsValues es (pushed s).values
  push_holds = v

  pub answer_holds : (event : ParityEvent) (new : State) → Reports s event new → HoldsValues es new.values
  answer_holds Quiet new a = subst (HoldsValues es) (sym (ap (λ x. x.values) a.0)) v
  answer_holds (Implied l row) new a = subst (HoldsValues es) (sym (ap (λ x. x.values) a.2)) v
  answer_holds (Conflict row) new a = subst (HoldsValues es) (sym (ap (λ x. x.values) a.2)) v

  pub back_holds_values : (table : Table) (IsRow : List Literal → Type 0) → IsTrail table IsRow es → (k : ℕ) → HoldsValues (back_to k es) (back k s).values
  back_holds_values table IsRow t k = record {
    from_trail = λ j l h. by_cases (nat_le j k)
        (λ low. let r = v.from_trail j l (ap (λ u. has_literal u l) (sym (held_back j k es (leb-true j k low))) ∙ h) in
        let at = leb-true j k low in let under = r.2 in
        (r.0, stays l r.0 r.1 (omega (arith, at, under)), r.2))
        (λ high. let whole = has_by_inside (held j (back_to k es)) (all_held (back_to k es)) l (held_inside j (back_to k es)) h in
        let r = v.from_trail k l (ap (λ u. has_literal u l) (sym (held_back k k es (omega arith)) ∙ held_all table IsRow k (back_to k es) (back_is_trail table IsRow k es t) (level_back es)) ∙ whole) in
        let at = leb-false j k high in let under = r.2 in
        (r.0, stays l r.0 r.1 r.2, omega (arith, at, under)));
    to_trail = λ l h has_it. let r = kept (held_at s.values l.variable) h (sym (looks l.variable) ∙ has_it.has_it) in
        ap (λ u. has_literal u l) (held_back h.level k es r.1) ∙ v.to_trail l h (record { low = has_it.low; has_it = r.0; sign = has_it.sign });
  }
    where
      looks : (x : ℕ) → held_at (back k s).values x ≡ keep k (held_at s.values x)
      looks x = get_or-map (keep k) s.values (x - 1) None

      stays : (l : Literal) (h : Held) → HasValue s.values l h → h.level ≤ k → HasValue (back k s).values l h
      stays l h has_it low = record { low = has_it.low; has_it = looks l.variable ∙ ap (keep k) has_it.has_it ∙ ap (λ b. cond b (Some h) None) (le-leb h.level k low); sign = has_it.sign }

      kept : (o : Option Held) (h : Held) → keep k o ≡ Some h → (o ≡ Some h) × (h.level ≤ k)
      kept None h e = cc
      kept (Some g) h e = go (nat_le g.level k) refl e
        where
          go : (b : Bool) → nat_le g.level k ≡ b → cond b (Some g) None ≡ Some h → (Some g ≡ Some h) × (h.level ≤ k)
          go true at f = let is : g ≡ h = some_one g h f in (f, subst (λ x. x.level ≤ k) is (leb-true g.level k at))
          go false at f = cc

      level_back : (es : List Entry) → level_of (back_to k es) ≤ k
      level_back [] = omega arith
      level_back (e ∷ es) = go (nat_le e.level k) refl (level_back es)
        where
          go : (b : Bool) → nat_le e.level k ≡ b → level_of (back_to k es) ≤ k → level_of (cond b (e ∷ es) (back_to k es)) ≤ k
          go true at r = leb-true e.level k at
          go false at r = r

-- ---- what the engine knows
known_has : (k : ℕ) (values : List (Option Held)) (l : Literal) → has_literal (known_from k values) l ≡ true → (k ≤ l.variable) × ((h : Held) × (get_or values (l.variable - k) None ≡ Some h) × (h.value ≡ not l.negative))
known_has k [] l h = not_both false h refl
known_has k (None ∷ values) l h = behind k None values l (known_has (k + 1) values l h)
  where
    behind : (k : ℕ) (o : Option Held) (values : List (Option Held)) (l : Literal) → (k + 1 ≤ l.variable) × ((h : Held) × (get_or values (l.variable - (k + 1)) None ≡ Some h) × (h.value ≡ not l.negative))
        → (k ≤ l.variable) × ((h : Held) × (get_or (o ∷ values) (l.variable - k) None ≡ Some h) × (h.value ≡ not l.negative))
    behind k o values l r = let low = r.0 in let at : l.variable - k ≡ suc (l.variable - (k + 1)) = omega (arith, low) in (omega (arith, low), (r.1.0, ap (λ i. get_or (o ∷ values) i None) at ∙ r.1.1, r.1.2))
known_has k (Some g ∷ values) l h = go (has_split (record { variable = k; negative = not g.value }) (known_from (k + 1) values) l h) (known_has (k + 1) values l)
  where
    go : (l ≡ record { variable = k; negative = not g.value }) ⊎ (has_literal (known_from (k + 1) values) l ≡ true)
        → (has_literal (known_from (k + 1) values) l ≡ true → (k + 1 ≤ l.variable) × ((h : Held) × (get_or values (l.variable - (k + 1)) None ≡ Some h) × (h.value ≡ not l.negative)))
        → (k ≤ l.variable) × ((h : Held) × (get_or (Some g ∷ values) (l.variable - k) None ≡ Some h) × (h.value ≡ not l.negative))
    go (inl is) rec =
        let same : l.variable ≡ k = ap (λ x. x.variable) is in
        let at : l.variable - k ≡ 0 = omega (arith, same) in
        (omega (arith, same), (g, ap (λ i. get_or (Some g ∷ values) i None) at, sym (not-not g.value) ∙ ap not (ap (λ x. x.negative) (sym is))))
    go (inr f) rec =
        let r = rec f in
        let low = r.0 in
        let at : l.variable - k ≡ suc (l.variable - (k + 1)) = omega (arith, low) in
        (omega (arith, low), (r.1.0, ap (λ i. get_or (Some g ∷ values) i None) at ∙ r.1.1, r.1.2))

has_known : (k : ℕ) (values : List (Option Held)) (x : ℕ) (h : Held) (l : Literal) → get_or values x None ≡ Some h → l.variable ≡ k + x → h.value ≡ not l.negative → has_literal (known_from k values) l ≡ true
has_known k [] x h l is at sign = cc
has_known k (None ∷ values) zero h l is at sign = cc
has_known k (None ∷ values) (suc x) h l is at sign = has_known (k + 1) values x h l is (omega (arith, at)) sign
has_known k (Some g ∷ values) zero h l is at sign =
    let same : l.variable ≡ k = omega (arith, at) in
    let negative : l.negative ≡ not g.value = sym (not-not l.negative) ∙ ap not (sym sign ∙ ap (λ x. x.value) (sym (some_one g h is))) in
    ap (has_literal (record { variable = k; negative = not g.value } ∷ known_from (k + 1) values)) (one_sign l (record { variable = k; negative = not g.value }) same negative)
    ∙ has_at_head (record { variable = k; negative = not g.value }) (known_from (k + 1) values)
has_known k (Some g ∷ values) (suc x) h l is at sign = has_behind (record { variable = k; negative = not g.value }) (known_from (k + 1) values) l (has_known (k + 1) values x h l is (omega (arith, at)) sign)

module _ (s : State) (es : List Entry) (v : HoldsValues es s.values) where
  pub known_is_held : (l : Literal) → has_literal (known s) l ≡ true → has_literal (all_held es) l ≡ true
  known_is_held l h = let r = known_has 1 s.values l h in is_held_by es s.values v l r.1.0 (record { low = r.0; has_it = r.1.1; sign = r.1.2 })

  pub held_is_known : (l : Literal) → has_literal (all_held es) l ≡ true → has_literal (known s) l ≡ true
  held_is_known l h = let r = has_value_of es s.values v l h in let low = r.1.low in has_known 1 s.values (l.variable - 1) r.0 l r.1.has_it (omega (arith, low)) r.1.sign

  -- the literals that the engine knows are true on the code's trail, which may have newer ones
  pub known_is_true : (newer : List Entry) (entries : List TrailEntry) → IsTied (newer ++ es) entries → (l : Literal) → has_literal (known s) l ≡ true → IsTrueIn entries l
  known_is_true newer entries t l h = held_is_true (newer ++ es) entries t l (behind newer (known_is_held l h))
    where
      behind : (newer : List Entry) → has_literal (all_held es) l ≡ true → has_literal (all_held (newer ++ es)) l ≡ true
      behind [] g = g
      behind (x ∷ newer) g = has_behind x.literal (all_held (newer ++ es)) l (behind newer g)

  by_known : (values : List Bool) → Solves s.parities (known s) values → Solves s.parities (all_held es) values
  by_known values solves = record { agrees = all_by (literal_true values) (all_held es) (λ l h. member_of_all (literal_true values) (known s) l solves.agrees (held_is_known l h)); meets = solves.meets }

  pub silent_is_quiet : IsSilent s → ParitiesQuiet s.vars s.parities (all_held es)
  silent_is_quiet silent = record {
    consistent = (silent.consistent.0, by_known silent.consistent.0 silent.consistent.1);
    forced = λ l low high f. known_is_held l (silent.forced l low high (λ values solves. f values (by_known values solves)));
  }

-- entries above a level do not count in a jump back to it
pub lagging_back : (k : ℕ) (newer older : List Entry) → ((e : Entry) → Rattle.std.proofs.Common.Contains newer e → k < e.level) → back_to k (newer ++ older) ≡ back_to k older
lagging_back k [] older h = refl
lagging_back k (x ∷ newer) older h =
    let big : nat_le x.level k ≡ false = Rattle.std.proofs.lemmas.Bool.lt-leb x.level k (h x (0, omega arith, refl)) in
    ap (λ b. cond b (x ∷ newer ++ older) (back_to k (newer ++ older))) big ∙ lagging_back k newer older (λ e c. let less = c.1 in h e (suc c.0, omega (arith, less), c.2))
