-- The clauses of the formula are taken one after another.
use Rattle.std.proofs.Common.{◌≡◌, ◌≢◌, refl, sym, ap, ◌∙◌, subst, ℕ, zero, suc, ◌+◌, ◌-◌, ◌<◌, ◌≤◌, Bool, true, false, not, ◌||◌, nat_eq, eqb-true, is_some, true≢false, List, [], ◌∷◌, ◌++◌, length, take, get_or, Option, Some, None, ◌⊎◌, inl, inr, Contains, arith, length-append}
use Rattle.std.specs.Prelude.{IsSome, IfSome}
use Rattle.std.specs.List.{list_any, AllByRecursion}
use Rattle.std.proofs.lemmas.Bool.{eqb-false, and_parts, or_right}
use Rattle.std.proofs.lemmas.List.{take_more}
use Rattle.std.proofs.lemmas.List.Elements.{filter_map-append, All-from_recursion, Contains-append_left, Contains-push}
use Rattle.cx_base.specs.Literals.{Literal, negate, HasTwo}
use Rattle.cx_base.specs.Problem.{Problem, clauses_of, clause_in, AreWithin}
use Rattle.cx_base.specs.declared.constraint.Constraint.{Constraint}
use Rattle.cx_base.specs.declared.constraint.Constraint.TheVariants as constraint
use Rattle.cx_base.proofs.Elements.{all_append}
use Rattle.cx_semantics.specs.Chain.{has_literal, is_inside, same_literals}
use Rattle.cx_semantics.specs.Fresh.{is_tautology}
use Rattle.cx_semantics.proofs.Closure.{has_by_inside}
use Rattle.cx_semantics.proofs.Members.{has_at_head, has_behind, has_split}
use Rattle.clause_arena.specs.Clauses.{Stored, IsLive, clause_at, literals_in, id_in, learned_in, id_at, literals_at}
use Rattle.cx_trail.specs.Sequence.{TrailState}
use Rattle.conflict_learn.proofs.ChainOfResolutions.{by_cases}
use Rattle.search_steps.proofs.Sets.{not_both}
use Rattle.search_steps.proofs.QuietLaws.{within_member}
use Rattle.watch_lists.specs.Watching.{Fits, IsAttached}
use Rattle.watch_lists.specs.Attaching.{CanBeWatched, literal_at}
use Rattle.search_policy.specs.Standing.{AllStand}
use Rattle.cdcl_search.specs.declared.state.SearchState.{SearchState}
use Rattle.cdcl_search.proofs.RowSteps.{within_by}
use Rattle.cdcl_search.proofs.Silence.{some_literal}
use Rattle.cdcl_core.specs.declared.filling.Single.{Single}
use Rattle.cdcl_core.specs.declared.filling.Filled.{Filled}
use Rattle.cdcl_core.specs.Clauses.{AreDifferent}
use Rattle.cdcl_core.specs.Filling.{IsEmpty, clause_number, IsUnitClause, IsClauseTaken, IsFilledUpTo, IsTakenAt, IsNext, Attaches}
use Rattle.cdcl_core.proofs.Entered.{kept_at, new_at, old_or_new}
use Rattle.cdcl_core.proofs.OriginalLaws.{few_clauses}

-- ---- the numbers of clauses
pub clause_counts : (cs : List Constraint) (i : ℕ) (d : Constraint) (lits : List Literal) → i < length cs → get_or cs i d ≡ constraint.Clause lits → length (clauses_of (take (i + 1) cs)) ≡ length (clauses_of (take i cs)) + 1
unfolding clauses_of
clause_counts cs i d lits less is =
    let more = take_more cs i d less ∙ ap (λ c. take i cs ++ c ∷ []) is in
    let long = ap length (ap clauses_of more ∙ filter_map-append clause_in (take i cs) (constraint.Clause lits ∷ [])) in
    let both = length-append (clauses_of (take i cs)) (lits ∷ []) in
    omega (arith, long, both)

pub parity_passes : (cs : List Constraint) (i : ℕ) (d : Constraint) (lits : List Literal) → i < length cs → get_or cs i d ≡ constraint.Parity lits → length (clauses_of (take (i + 1) cs)) ≡ length (clauses_of (take i cs))
unfolding clauses_of
parity_passes cs i d lits less is =
    let more = take_more cs i d less ∙ ap (λ c. take i cs ++ c ∷ []) is in
    let long = ap length (ap clauses_of more ∙ filter_map-append clause_in (take i cs) (constraint.Parity lits ∷ [])) in
    let both = length-append (clauses_of (take i cs)) [] in
    omega (arith, long, both)

pub assumption_passes : (cs : List Constraint) (i : ℕ) (d : Constraint) (lits : List Literal) → i < length cs → get_or cs i d ≡ constraint.Assume lits → length (clauses_of (take (i + 1) cs)) ≡ length (clauses_of (take i cs))
unfolding clauses_of
assumption_passes cs i d lits less is =
    let more = take_more cs i d less ∙ ap (λ c. take i cs ++ c ∷ []) is in
    let long = ap length (ap clauses_of more ∙ filter_map-append clause_in (take i cs) (constraint.Assume lits ∷ [])) in
    let both = length-append (clauses_of (take i cs)) [] in
    omega (arith, long, both)

pub clause_is_at : (cs : List Constraint) (i : ℕ) (d : Constraint) (lits : List Literal) → i < length cs → get_or cs i d ≡ constraint.Clause lits
    → (length (clauses_of (take i cs)) < length (clauses_of cs)) × (get_or (clauses_of cs) (length (clauses_of (take i cs))) [] ≡ lits)
unfolding clauses_of
clause_is_at [] i d lits less is = absurd (omega (arith, less))
clause_is_at (c ∷ cs) zero d lits less is = subst (λ x. (0 < length (clauses_of (x ∷ cs))) × (get_or (clauses_of (x ∷ cs)) 0 [] ≡ lits)) (sym is) (omega arith, refl)
clause_is_at (constraint.Clause x ∷ cs) (suc i) d lits less is = let r = clause_is_at cs i d lits (omega (arith, less)) is in let low = r.0 in (omega (arith, low), r.1)
clause_is_at (constraint.Parity x ∷ cs) (suc i) d lits less is = clause_is_at cs i d lits (omega (arith, less)) is
clause_is_at (constraint.Assume x ∷ cs) (suc i) d lits less is = clause_is_at cs i d lits (omega (arith, less)) is

pub none_counted : 0 ≡ length (clauses_of [])
unfolding clauses_of
none_counted = refl

-- ---- clauses of the same literals
any_by : (p : Literal → Bool) (lits : List Literal) (l : Literal) → has_literal lits l ≡ true → p l ≡ true → list_any p lits ≡ true
any_by p [] l h k = not_both false h refl
any_by p (m ∷ ms) l h k = elim (has_split m ms l h) [
  | inl e ↦ ap (λ b. b || list_any p ms) (sym (ap p e) ∙ k)
  | inr g ↦ or_right (p m) _ (any_by p ms l g k)
]

pub same_tautology : (a b : List Literal) → same_literals a b ≡ true → is_tautology a ≡ true → is_tautology b ≡ true
same_tautology a b same h =
    let inside = (and_parts (is_inside a b) (is_inside b a) same).0 in
    let both = some_literal (λ l. has_literal a (negate l)) a h in
    any_by (λ l. has_literal b (negate l)) b both.0 (has_by_inside a b both.0 inside both.1) (has_by_inside a b (negate both.0) inside both.2)

same_as_none : (lits : List Literal) → same_literals [] lits ≡ true → lits ≡ []
same_as_none [] h = refl
same_as_none (m ∷ ms) h = absurd (true≢false (sym h))

different_within : (n : ℕ) (a b : List Literal) → same_literals a b ≡ true → AreWithin n b → AreWithin n a
different_within n a b same w = within_by n a (λ l h. within_member n b l w (has_by_inside a b l (and_parts (is_inside a b) (is_inside b a) same).0 h))

-- ---- a clause can be watched while the trail is empty
signs : (a b : Bool) → (a ≡ b) ⊎ (not a ≡ b)
signs true true = inl refl
signs true false = inr refl
signs false true = inr refl
signs false false = inl refl

same_or_negated : (l m : Literal) → l.variable ≡ m.variable → (l ≡ m) ⊎ (negate l ≡ m)
same_or_negated l m v = elim (signs l.negative m.negative) [
  | inl s ↦ inl (λ i. record { variable = v i; negative = s i })
  | inr s ↦ inr (λ i. record { variable = v i; negative = s i })
]

first_two : (lits : List Literal) → 2 ≤ length lits → AreDifferent lits → is_tautology lits ≡ false → (literal_at lits 0).variable ≢ (literal_at lits 1).variable
first_two [] long d h = absurd (omega (arith, long))
first_two (l ∷ []) long d h = absurd (omega (arith, long))
first_two (l ∷ m ∷ lits) long d h = λ v. elim (same_or_negated l m v) [
  | inl e ↦ not_both (has_literal (m ∷ lits) l) (ap (has_literal (m ∷ lits)) e ∙ has_at_head m lits) d.0
  | inr e ↦ not_both (is_tautology (l ∷ m ∷ lits)) (any_by (λ x. has_literal (l ∷ m ∷ lits) (negate x)) (l ∷ m ∷ lits) l (has_at_head l (m ∷ lits)) (ap (has_literal (l ∷ m ∷ lits)) e ∙ has_behind l (m ∷ lits) m (has_at_head m lits))) h
]

pub can_be_watched : (n : ℕ) (t : TrailState) (lits : List Literal) → t.entries ≡ [] → 2 ≤ length lits → AreDifferent lits → is_tautology lits ≡ false → AreWithin n lits → CanBeWatched n t lits
can_be_watched n t lits none long d h w =
    let short = ap length none in
    record {
      long = long;
      within = All-from_recursion (λ l. (1 ≤ l.variable) × (l.variable ≤ n)) lits w;
      apart = first_two lits long d h;
      first = λ f. let low = f.1 in absurd (omega (arith, low, short));
      second = λ i s. let low = s.0 in absurd (omega (arith, low, short));
    }

-- ---- before the first clause
pub nothing_is_filled : (formula : Problem) (c : SearchState) → IsEmpty formula.variables c → IsFilledUpTo formula 0 c [] None
nothing_is_filled formula c e = record {
  trail = e.trail;
  watched = record { fits = e.fits; all = λ r live. absurd (no_clause r live) };
  stand = e.stand;
  phases = e.phases;
  no_units = e.units;
  next = e.next;
  given = e.given;
  conflicts = e.conflicts;
  none_learned = e.none_learned;
  not_reduced = e.not_reduced;
  never_tidies = e.never_tidies;
  none_tidy = e.none_tidy;
  stored = λ r live. absurd (no_clause r live);
  plain = λ r live. absurd (no_clause r live);
  apart = λ r q live more same. absurd (no_clause r live);
  units_are = tt;
  covered = λ k low high. absurd (omega (arith, low, high));
  empty_is = tt;
}
  where
    no_clause : (r : ℕ) → IsLive c.arena r → ⊥
    no_clause r live = true≢false (sym (sym (ap (λ xs. is_some (get_or xs r None)) e.clauses) ∙ live))

-- two different literals come first
two_different : (lits : List Literal) → 2 ≤ length lits → AreDifferent lits → HasTwo lits
two_different [] long d = absurd (omega (arith, long))
two_different (l ∷ []) long d = absurd (omega (arith, long))
two_different (l ∷ m ∷ lits) long d = record {
  first = l;
  second = m;
  has_first = (0, omega arith, refl);
  has_second = (1, omega arith, refl);
  differ = λ same. not_both (has_literal (m ∷ lits) l) (ap (has_literal (m ∷ lits)) same ∙ has_at_head m lits) d.0;
}

-- ---- the next clause
module _ (formula : Problem) (f : Filled) (lits : List Literal) (is : IsNext formula f lits) where
  abbrev n : ℕ
  n = f.state.next

  -- the number is one of those before, or the next
  before_or_next : (k : ℕ) → k ≤ f.state.next → (k ≤ f.state.next - 1) ⊎ (k ≡ f.state.next)
  before_or_next k high = by_cases (nat_eq k f.state.next)
      (λ q. inr (eqb-true k f.state.next q))
      (λ q. inl (let apart : k ≢ f.state.next = eqb-false k f.state.next q in omega (arith, apart, high)))

  low : 1 ≤ f.state.next
  low = let after = is.filled.next in omega (arith, after)

  -- where the arena stays
  module _ (units : List Single) (empty : Option ℕ) (more : (u : Single) → Contains f.units.items u → Contains units u) (still : IsSome f.empty → IsSome empty) where
    pub taken_still : (k : ℕ) → IsClauseTaken formula f.state f.units.items f.empty k → IsClauseTaken formula f.state units empty k
    taken_still k (inl a) = inl a
    taken_still k (inr (inl a)) = inr (inl a)
    taken_still k (inr (inr (inl (u, has, number)))) = inr (inr (inl (u, more u has, number)))
    taken_still k (inr (inr (inr a))) = inr (inr (inr (still a)))

    pub filled_then : AllByRecursion (λ u. IsUnitClause formula u.number u.literal × (1 ≤ u.literal.variable) × (u.literal.variable ≤ formula.variables)) units
        → IfSome empty (λ k. (1 ≤ k) × (k ≤ f.state.next) × (clause_number formula k ≡ []))
        → IsClauseTaken formula f.state units empty f.state.next → IsFilledUpTo formula f.state.next (record f.state { next = f.state.next + 1 }) units empty
    filled_then units_are empty_is taken = record {
      trail = is.filled.trail;
      watched = is.filled.watched;
      stand = is.filled.stand;
      phases = is.filled.phases;
      no_units = is.filled.no_units;
      next = refl;
      given = is.filled.given;
      conflicts = is.filled.conflicts;
      none_learned = is.filled.none_learned;
      not_reduced = is.filled.not_reduced;
      never_tidies = is.filled.never_tidies;
      none_tidy = is.filled.none_tidy;
      stored = λ r live. let st = is.filled.stored r live in let high = st.high in record { wide = st.wide; low = st.low; high = omega (arith, high); same = st.same; original = st.original };
      plain = is.filled.plain;
      apart = is.filled.apart;
      units_are = units_are;
      covered = λ k small high. elim (before_or_next k high) [
        | inl old ↦ taken_still k (is.filled.covered k small old)
        | inr new ↦ subst (IsClauseTaken formula f.state units empty) (sym new) taken
      ];
      empty_is = empty_is;
    }

  empty_before : IfSome f.empty (λ k. (1 ≤ k) × (k ≤ f.state.next) × (clause_number formula k ≡ []))
  empty_before = go f.empty is.filled.empty_is
    where
      go : (empty : Option ℕ) → IfSome empty (λ k. (1 ≤ k) × (k ≤ f.state.next - 1) × (clause_number formula k ≡ [])) → IfSome empty (λ k. (1 ≤ k) × (k ≤ f.state.next) × (clause_number formula k ≡ []))
      go None h = tt
      go (Some k) h = let high = h.1 in (h.0, omega (arith, high), h.2)

  pub tautology_taken : is_tautology lits ≡ true → IsFilledUpTo formula f.state.next (record f.state { next = f.state.next + 1 }) f.units.items f.empty
  tautology_taken h = filled_then f.units.items f.empty (λ u has. has) (λ some. some) is.filled.units_are empty_before
      (inr (inl (same_tautology lits (clause_number formula f.state.next) is.same h)))

  pub empty_taken : lits ≡ [] → IsFilledUpTo formula f.state.next (record f.state { next = f.state.next + 1 }) f.units.items (Some f.state.next)
  empty_taken none = filled_then f.units.items (Some f.state.next) (λ u has. has) (λ some. refl) is.filled.units_are
      (low, omega arith, same_as_none (clause_number formula f.state.next) (sym (ap (λ xs. same_literals xs (clause_number formula f.state.next)) none) ∙ is.same))
      (inr (inr (inr refl)))

  pub unit_taken : (l : Literal) → lits ≡ l ∷ [] → (units : List Single) → units ≡ f.units.items ++ (record { literal = l; number = f.state.next }) ∷ []
      → IsFilledUpTo formula f.state.next (record f.state { next = f.state.next + 1 }) units f.empty
  unit_taken l one units more =
      let u : Single = record { literal = l; number = f.state.next } in
      let same : same_literals (l ∷ []) (clause_number formula f.state.next) ≡ true = sym (ap (λ xs. same_literals xs (clause_number formula f.state.next)) one) ∙ is.same in
      let w : AreWithin formula.variables (l ∷ []) = subst (AreWithin formula.variables) one is.within in
      subst (λ us. IsFilledUpTo formula f.state.next (record f.state { next = f.state.next + 1 }) us f.empty) (sym more)
      (filled_then (f.units.items ++ u ∷ []) f.empty (λ v has. Contains-append_left f.units.items (u ∷ []) v has) (λ some. some)
      (all_append (λ v. IsUnitClause formula v.number v.literal × (1 ≤ v.literal.variable) × (v.literal.variable ≤ formula.variables)) f.units.items (u ∷ []) is.filled.units_are ((record { low = low; high = is.high; same = same }, w.0.0, w.0.1), tt))
      empty_before
      (inr (inr (inl (u, Contains-push f.units.items u, refl)))))

  -- a clause of several literals is attached
  module _ (D : SearchState) (a : Attaches (record f.state { next = f.state.next + 1 }) D lits f.state.next) where
    abbrev stored : Stored
    stored = record { literals = lits; id = f.state.next; lbd = 0; learned = false }

    clause_kept : (r : ℕ) → IsLive f.state.arena r → clause_at D.arena r ≡ clause_at f.state.arena r
    clause_kept r live = ap (λ xs. get_or xs r None) a.added ∙ kept_at f.state.arena.clauses (Some stored) r live

    clause_new : clause_at D.arena (length f.state.arena.clauses) ≡ Some stored
    clause_new = ap (λ xs. get_or xs (length f.state.arena.clauses) None) a.added ∙ new_at f.state.arena.clauses (Some stored)

    attached_still : (r : ℕ) → IsAttached f.state.watches.attached r → IsAttached D.watches.attached r
    attached_still r h = by_cases (nat_eq r (length f.state.arena.clauses))
        (λ q. subst (IsAttached D.watches.attached) (sym (eqb-true r (length f.state.arena.clauses) q)) a.attached)
        (λ q. a.others r (eqb-false r (length f.state.arena.clauses) q) ∙ h)

    old_or_last : (r : ℕ) → IsLive D.arena r → IsLive f.state.arena r ⊎ (r ≡ length f.state.arena.clauses)
    old_or_last r live = old_or_new f.state.arena.clauses (Some stored) r (sym (ap (λ xs. is_some (get_or xs r None)) a.added) ∙ live)

    abbrev IsGood : Option Stored → Type 0
    IsGood x = HasTwo (literals_in x) × (1 ≤ id_in x) × (id_in x ≤ f.state.next) × (same_literals (literals_in x) (clause_number formula (id_in x)) ≡ true) × (learned_in x ≡ false)

    good : 2 ≤ length lits → (r : ℕ) → IsLive D.arena r → IsGood (clause_at D.arena r)
    good long r live = elim (old_or_last r live) [
      | inl old ↦
          let st = is.filled.stored r old in
          let high = st.high in
          subst IsGood (sym (clause_kept r old)) (st.wide, st.low, omega (arith, high), st.same, st.original)
      | inr new ↦ subst IsGood (sym (ap (clause_at D.arena) new ∙ clause_new)) (two_different lits long is.different, low, omega arith, is.same, refl)
    ]

    stored_then : 2 ≤ length lits → (r : ℕ) → IsLive D.arena r → IsTakenAt formula f.state.next D.arena r
    stored_then long r live = let g = good long r live in record { wide = g.0; low = g.1; high = g.2; same = g.3; original = g.4 }

    old_id : (r : ℕ) → IsLive f.state.arena r → id_at D.arena r < f.state.next
    old_id r old = let high = (is.filled.stored r old).high in let same = ap id_in (clause_kept r old) in let first = low in omega (arith, high, same, first)

    last_id : id_at D.arena (length f.state.arena.clauses) ≡ f.state.next
    last_id = ap id_in clause_new

    apart_then : (r q : ℕ) → IsLive D.arena r → IsLive D.arena q → id_at D.arena r ≡ id_at D.arena q → r ≡ q
    apart_then r q r_live q_live same = elim (old_or_last r r_live) [
      | inl r_old ↦ elim (old_or_last q q_live) [
        | inl q_old ↦ is.filled.apart r q r_old q_old (sym (ap id_in (clause_kept r r_old)) ∙ same ∙ ap id_in (clause_kept q q_old))
        | inr q_is ↦ absurd (let small = old_id r r_old in let at = ap (id_at D.arena) q_is in let last = last_id in omega (arith, small, same, at, last))
      ]
      | inr r_is ↦ elim (old_or_last q q_live) [
        | inl q_old ↦ absurd (let small = old_id q q_old in let at = ap (id_at D.arena) r_is in let last = last_id in omega (arith, small, same, at, last))
        | inr q_is ↦ r_is ∙ sym q_is
      ]
    ]

    taken_then : (k : ℕ) → IsClauseTaken formula f.state f.units.items f.empty k → IsClauseTaken formula D f.units.items f.empty k
    taken_then k (inl (r, r_live, id)) = inl (r, ap is_some (clause_kept r r_live) ∙ r_live, ap id_in (clause_kept r r_live) ∙ id)
    taken_then k (inr (inl h)) = inr (inl h)
    taken_then k (inr (inr (inl h))) = inr (inr (inl h))
    taken_then k (inr (inr (inr h))) = inr (inr (inr h))

    new_taken : IsClauseTaken formula D f.units.items f.empty f.state.next
    new_taken = inl (length f.state.arena.clauses, ap is_some clause_new, ap id_in clause_new)

    plain_then : is_tautology lits ≡ false → (r : ℕ) → IsLive D.arena r → is_tautology (literals_at D.arena r) ≡ false
    plain_then proper r live = elim (old_or_last r live) [
      | inl old ↦ ap (λ x. is_tautology (literals_in x)) (clause_kept r old) ∙ is.filled.plain r old
      | inr new ↦ ap (λ x. is_tautology (literals_in x)) (ap (clause_at D.arena) new ∙ clause_new) ∙ proper
    ]

    pub attached_taken : 2 ≤ length lits → is_tautology lits ≡ false → IsFilledUpTo formula f.state.next D f.units.items f.empty
    attached_taken long proper = record {
      trail = a.trail ∙ is.filled.trail;
      watched = record {
        fits = subst (Fits D.watches D.arena) (sym a.trail) a.fits;
        all = λ r live. elim (old_or_last r live) [
          | inl old ↦ attached_still r (is.filled.watched.all r old)
          | inr new ↦ subst (IsAttached D.watches.attached) (sym new) a.attached
        ];
      };
      stand = subst (λ o. AllStand o D.trail) (sym a.order) (subst (AllStand f.state.order) (sym a.trail) is.filled.stand);
      phases = ap length a.phases ∙ is.filled.phases;
      no_units = a.units ∙ is.filled.no_units;
      next = a.next;
      given = a.given ∙ is.filled.given;
      conflicts = a.conflicts ∙ is.filled.conflicts;
      none_learned = a.learned ∙ is.filled.none_learned;
      not_reduced = a.reductions ∙ is.filled.not_reduced;
      never_tidies = a.tidies ∙ is.filled.never_tidies;
      none_tidy = a.tidy_below ∙ is.filled.none_tidy;
      stored = stored_then long;
      plain = plain_then proper;
      apart = apart_then;
      units_are = is.filled.units_are;
      covered = λ k small high. elim (before_or_next k high) [
        | inl old ↦ taken_then k (is.filled.covered k small old)
        | inr new ↦ subst (IsClauseTaken formula D f.units.items f.empty) (sym new) new_taken
      ];
      empty_is = empty_before;
    }

-- ---- a place of the formula
module _ (formula : Problem) (place : ℕ) (d : Constraint) (less : place < length formula.constraints) (f : Filled)
    (filled : IsFilledUpTo formula (length (clauses_of (take place formula.constraints))) f.state f.units.items f.empty) where
  abbrev count : ℕ
  count = length (clauses_of (take place formula.constraints))

  pub next_is_few : length formula.constraints ≤ 4294967295 → (lits : List Literal) → get_or formula.constraints place d ≡ constraint.Clause lits → f.state.next ≤ 4294967295
  next_is_few few lits at =
      let there = (clause_is_at formula.constraints place d lits less at).0 in
      let all = few_clauses formula.constraints in
      let after = filled.next in
      omega (arith, there, all, after, few)

  pub next_clause : (lits given : List Literal) → get_or formula.constraints place d ≡ constraint.Clause given → same_literals lits given ≡ true → AreDifferent lits → AreWithin formula.variables given → IsNext formula f lits
  next_clause lits given at same once w =
      let there = clause_is_at formula.constraints place d given less at in
      let small = there.0 in
      let after = filled.next in
      let back : f.state.next - 1 ≡ count = omega (arith, after) in
      record {
        filled = subst (λ n. IsFilledUpTo formula n f.state f.units.items f.empty) (sym back) filled;
        high = omega (arith, small, after);
        same = ap (same_literals lits) (ap (λ k. get_or (clauses_of formula.constraints) k []) back ∙ there.1) ∙ same;
        different = once;
        within = different_within formula.variables lits given same w;
      }

  pub next_filled : (lits : List Literal) → get_or formula.constraints place d ≡ constraint.Clause lits → (g : Filled) → IsFilledUpTo formula f.state.next g.state g.units.items g.empty
      → IsFilledUpTo formula (length (clauses_of (take (place + 1) formula.constraints))) g.state g.units.items g.empty
  next_filled lits at g then = subst (λ n. IsFilledUpTo formula n g.state g.units.items g.empty) (filled.next ∙ sym (clause_counts formula.constraints place d lits less at)) then

  pub parity_passed : (lits : List Literal) → get_or formula.constraints place d ≡ constraint.Parity lits → IsFilledUpTo formula (length (clauses_of (take (place + 1) formula.constraints))) f.state f.units.items f.empty
  parity_passed lits at = subst (λ n. IsFilledUpTo formula n f.state f.units.items f.empty) (sym (parity_passes formula.constraints place d lits less at)) filled

  pub assumption_passed : (lits : List Literal) → get_or formula.constraints place d ≡ constraint.Assume lits → IsFilledUpTo formula (length (clauses_of (take (place + 1) formula.constraints))) f.state f.units.items f.empty
  assumption_passed lits at = subst (λ n. IsFilledUpTo formula n f.state f.units.items f.empty) (sym (assumption_passes formula.constraints place d lits less at)) filled

pub only_one : (xs : List Literal) (d : Literal) → length xs ≤ 1 → length xs ≢ 0 → xs ≡ get_or xs 0 d ∷ []
only_one [] d few some = absurd (some refl)
only_one (l ∷ []) d few some = refl
only_one (l ∷ m ∷ xs) d few some = absurd (omega (arith, few))

pub none_at_all : (xs : List Literal) → length xs ≡ 0 → xs ≡ []
none_at_all [] none = refl
none_at_all (l ∷ xs) none = absurd (omega (arith, none))
