-- The literals that the core says have failed, in order, as they are told.
use Rattle.std.proofs.Common.{◌≡◌, ℕ, ℤ, ◌+◌, ◌<◌, nat_lt, nat_cmp, Bool, true, false, cond, List, [], ◌∷◌, ◌++◌, length, Option, Some, None, flat_map, inl, inr, refl, ap, sym, subst, ◌∙◌, arith, true≢false, lt-ltb}
use Rattle.std.specs.List.{list_all, AllByRecursion, dedup}
use Rattle.std.specs.List.Sorted.{IsPermutation, IsSorted, IsStrictlySortedBy}
use Rattle.std.specs.Cmp.{IsTotalOrder, nat_cmp_total, on_total, unsigned_tied}
use Rattle.std.specs.declared.cmp.Ordering.{Ordering}
use Rattle.std.specs.declared.cmp.Ordering.TheVariants.{Less, Equal, Greater}
use Rattle.std.proofs.lemmas.Bool.{and_parts, and_from, ltb-true}
use Rattle.std.proofs.lemmas.List.Elements.{filter_map-append}
use Rattle.std.proofs.lemmas.List.Folds.{list_all-append}
use Rattle.std.proofs.lemmas.List.Kept.{IsStrictlySortedBy-dedup}
use Rattle.cx_base.specs.Assumptions.{assumes, IsFailed, without_assumptions, assuming}
use Rattle.cx_base.specs.Events.{steps_of, step_of}
use Rattle.cx_base.specs.Literals.{Literal, code_of, literal_true, positive_of, negative_of}
use Rattle.cx_base.specs.Problem.{Problem, Meets, constraint_met, clauses_of, parities_of}
use Rattle.cx_base.specs.declared.constraint.Constraint.{Constraint}
use Rattle.cx_base.specs.declared.constraint.Constraint.TheVariants as constraint
use Rattle.cx_base.specs.declared.steps.LogEvent.{LogEvent}
use Rattle.cx_base.specs.declared.steps.LogEvent.TheVariants.{Step}
use Rattle.cx_base.proofs.Parts.{both_kinds}
use Rattle.cx_texts.specs.LogText.{EventsRead, LogReads}
use Rattle.cx_texts.proofs.EventSteps.{events_give_steps}
use Rattle.cx_base.specs.Endings.{finished}
use Rattle.cx_desk.specs.Outside.{Bytes}
use Rattle.cx_semantics.specs.Chain.{has_literal, HaveSame}
use Rattle.cx_semantics.proofs.Members.{has_at_head, has_behind, has_split}
use Rattle.cdcl_core.specs.Results.{RefutesIn, EndsFor}
use Rattle.cdcl_core.proofs.SortedLiterals.{sorted_found}
use Rattle.solve_cli.specs.Failed.{has_assumption, AreRising, AreInOrder, FailsAs, NegatesLastStep}

-- ---- the number of assumption constraints

all_are : (cs : List Constraint) → has_assumption cs ≡ false → length (clauses_of cs) + length (parities_of cs) ≡ length cs
unfolding clauses_of parities_of
all_are [] h = refl
all_are (constraint.Clause lits ∷ cs) h = let rest = all_are cs h in omega (arith, rest)
all_are (constraint.Parity lits ∷ cs) h = let rest = all_are cs h in omega (arith, rest)
all_are (constraint.Assume lits ∷ cs) h = absurd (true≢false h)

fewer_are : (cs : List Constraint) → has_assumption cs ≡ true → length (clauses_of cs) + length (parities_of cs) < length cs
unfolding clauses_of parities_of
fewer_are [] h = absurd (true≢false (sym h))
fewer_are (constraint.Clause lits ∷ cs) h = let rest = fewer_are cs h in omega (arith, rest)
fewer_are (constraint.Parity lits ∷ cs) h = let rest = fewer_are cs h in omega (arith, rest)
fewer_are (constraint.Assume lits ∷ cs) h = let rest = both_kinds cs in omega (arith, rest)

pub has_where_fewer : (cs : List Constraint) → nat_lt (length (clauses_of cs) + length (parities_of cs)) (length cs) ≡ has_assumption cs
has_where_fewer cs = elim (has_assumption cs) as (λ b. has_assumption cs ≡ b → nat_lt (length (clauses_of cs) + length (parities_of cs)) (length cs) ≡ b) [
  | true ↦ λ e. lt-ltb (length (clauses_of cs) + length (parities_of cs)) (length cs) (fewer_are cs e)
  | false ↦ λ e. not_less (let all = all_are cs e in λ less. absurd (omega (arith, all, less)))
] refl
  where
    not_less : (length (clauses_of cs) + length (parities_of cs) < length cs → ⊥) → nat_lt (length (clauses_of cs) + length (parities_of cs)) (length cs) ≡ false
    not_less none = elim (nat_lt (length (clauses_of cs) + length (parities_of cs)) (length cs)) as (λ b. nat_lt (length (clauses_of cs) + length (parities_of cs)) (length cs) ≡ b → b ≡ false) [
      | true ↦ λ e. absurd (none (ltb-true (length (clauses_of cs) + length (parities_of cs)) (length cs) e))
      | false ↦ λ e. refl
    ] refl

-- ---- literals in order

abbrev code_cmp : Literal → Literal → Ordering
code_cmp x y = nat_cmp (code_of x) (code_of y)

code_total : IsTotalOrder code_cmp
code_total = on_total code_of nat_cmp_total

less_of : (x y : ℕ) → nat_cmp x y ≡ Less → x < y
less_of x y h = elim (nat_lt x y) as (λ b. nat_lt x y ≡ b → cond b Less (cond (Rattle.std.proofs.Common.nat_eq x y) Equal Greater) ≡ Less → x < y) [
  | true ↦ λ e _. ltb-true x y e
  | false ↦ λ e k. absurd (not_less (Rattle.std.proofs.Common.nat_eq x y) k)
] refl h
  where
    not_less : (b : Bool) → cond b Equal Greater ≡ Less → ⊥
    not_less true e = cc
    not_less false e = cc

all_less : (x : Literal) (xs : List Literal) → AllByRecursion (λ y. code_cmp x y ≡ Less) xs → AllByRecursion (λ y. code_of x < code_of y) xs
all_less x [] h = tt
all_less x (y ∷ xs) h = (less_of (code_of x) (code_of y) h.0, all_less x xs h.1)

strict_rising : (xs : List Literal) → IsStrictlySortedBy code_cmp xs → AreRising xs
unfolding IsStrictlySortedBy
strict_rising [] s = tt
strict_rising (x ∷ xs) s = (all_less x xs s.0, strict_rising xs s.1)

pub sorted_rising : (sorted found : List Literal) → IsSorted code_cmp sorted → found ≡ dedup (λ x y. Rattle.std.proofs.Common.nat_eq (code_of x) (code_of y)) sorted → AreRising found
sorted_rising sorted found up is = strict_rising found (subst (IsStrictlySortedBy code_cmp) (sym is) (IsStrictlySortedBy-dedup code_total (λ x y. sym (unsigned_tied (code_of x) (code_of y))) sorted up))

same_bits : (a b : Bool) → (a ≡ true → b ≡ true) → (b ≡ true → a ≡ true) → a ≡ b
same_bits true b f g = sym (f refl)
same_bits false true f g = g refl
same_bits false false f g = refl

pub sorted_same : (lits sorted found : List Literal) → IsPermutation lits sorted → IsSorted code_cmp sorted → found ≡ dedup (λ x y. Rattle.std.proofs.Common.nat_eq (code_of x) (code_of y)) sorted → HaveSame found lits
sorted_same lits sorted found moved up is = let f = sorted_found lits sorted found moved up is in λ l. same_bits (has_literal found l) (has_literal lits l) (f.there l) (f.back l)

-- two lists of the same literals in order are one
least : (x : Literal) (xs : List Literal) (l : Literal) → AllByRecursion (λ y. code_of x < code_of y) xs → has_literal xs l ≡ true → code_of x < code_of l
least x [] l up h = absurd (true≢false (sym h))
least x (y ∷ xs) l up h = elim (has_split y xs l h) [
  | inl e ↦ subst (λ (m : Literal). code_of x < code_of m) (sym e) up.0
  | inr later ↦ least x xs l up.1 later
]

pub one_rising : (a b : List Literal) → AreRising a → AreRising b → HaveSame a b → a ≡ b
one_rising [] [] up down same = refl
one_rising [] (m ∷ b) up down same = absurd (true≢false (sym (has_at_head m b) ∙ sym (same m)))
one_rising (l ∷ a) [] up down same = absurd (true≢false (sym (has_at_head l a) ∙ same l))
one_rising (l ∷ a) (m ∷ b) up down same = (λ i. head i ∷ one_rising a b up.1 down.1 rest i)
  where
    head : l ≡ m
    head = elim (has_split m b l (sym (same l) ∙ has_at_head l a)) [
      | inl e ↦ e
      | inr later ↦ elim (has_split l a m (same m ∙ has_at_head m b)) [
        | inl e ↦ sym e
        | inr behind ↦ absurd (let p = least m b l down.0 later in let q = least l a m up.0 behind in omega (arith, p, q))
      ]
    ]

    forth : (q : Literal) → has_literal a q ≡ true → has_literal b q ≡ true
    forth q h = elim (has_split m b q (sym (same q) ∙ has_behind l a q h)) [
      | inl e ↦ absurd (let p = least l a q up.0 h in let c : code_of q ≡ code_of l = ap code_of (e ∙ sym head) in omega (arith, p, c))
      | inr later ↦ later
    ]

    back : (q : Literal) → has_literal b q ≡ true → has_literal a q ≡ true
    back q h = elim (has_split l a q (same q ∙ has_behind m b q h)) [
      | inl e ↦ absurd (let p = least m b q down.0 h in let c : code_of q ≡ code_of m = ap code_of (e ∙ head) in omega (arith, p, c))
      | inr later ↦ later
    ]

    rest : HaveSame a b
    rest q = same_bits (has_literal a q) (has_literal b q) (forth q) (back q)

both_rising : (x : ℕ) → AreRising (positive_of x ∷ negative_of x ∷ [])
both_rising x = ((omega arith, tt), (tt, tt))

-- ---- the same literals fail

all_by : (P : Literal → Type 0) (xs : List Literal) → ((l : Literal) → has_literal xs l ≡ true → P l) → AllByRecursion P xs
all_by P [] f = tt
all_by P (x ∷ xs) f = (f x (has_at_head x xs), all_by P xs (λ l h. f l (has_behind x xs l h)))

by_all : (P : Literal → Type 0) (xs : List Literal) (l : Literal) → AllByRecursion P xs → has_literal xs l ≡ true → P l
by_all P [] l all h = absurd (true≢false (sym h))
by_all P (x ∷ xs) l all h = elim (has_split x xs l h) [
  | inl e ↦ subst P (sym e) all.0
  | inr later ↦ by_all P xs l all.1 later
]

true_in : (v : List Bool) (xs : List Literal) (l : Literal) → list_all (literal_true v) xs ≡ true → has_literal xs l ≡ true → literal_true v l ≡ true
true_in v [] l all h = absurd (true≢false (sym h))
true_in v (x ∷ xs) l all h = let p = and_parts (literal_true v x) _ all in elim (has_split x xs l h) [
  | inl e ↦ ap (literal_true v) e ∙ p.0
  | inr later ↦ true_in v xs l p.1 later
]

all_true : (v : List Bool) (xs : List Literal) → ((l : Literal) → has_literal xs l ≡ true → literal_true v l ≡ true) → list_all (literal_true v) xs ≡ true
all_true v [] f = refl
all_true v (x ∷ xs) f = and_from _ _ (f x (has_at_head x xs)) (all_true v xs (λ l h. f l (has_behind x xs l h)))

same_meets : (formula : Problem) (lits others : List Literal) (v : List Bool) → HaveSame lits others → Meets (assuming formula lits) v → Meets (assuming formula others) v
same_meets formula lits others v same m =
    let front = flat_map without_assumptions formula.constraints in
    let both = and_parts (list_all (constraint_met v) front) (list_all (constraint_met v) (constraint.Assume lits ∷ [])) (sym (list_all-append (constraint_met v) front (constraint.Assume lits ∷ [])) ∙ m.all_met) in
    let are = (and_parts (list_all (literal_true v) lits) true both.1).0 in
    record {
      one_each = m.one_each;
      all_met = list_all-append (constraint_met v) front (constraint.Assume others ∷ [])
          ∙ and_from _ _ both.0 (and_from _ _ (all_true v others (λ l h. true_in v lits l are (same l ∙ h))) refl);
    }

same_fail : (formula : Problem) (lits others : List Literal) → HaveSame lits others → IsFailed formula others → IsFailed formula lits
same_fail formula lits others same f = record {
  assumed = all_by (λ l. assumes formula.constraints l ≡ true) lits (λ l h. by_all (λ m. assumes formula.constraints m ≡ true) others l f.assumed (sym (same l) ∙ h));
  unmet = λ v m. f.unmet v (same_meets formula lits others v same m);
}

module _ (tidies : Bool) (formula : Problem) (budget : ℕ) (failed : List Literal) where
  pub fails_as : (told : Option (List ℤ)) (events : Option (List LogEvent)) → RefutesIn tidies formula budget events failed → AreInOrder formula failed told → FailsAs formula told
  fails_as None events r h = h
  fails_as (Some zs) events r h = (
    h.0,
    record {
      lits = h.1.0;
      are = h.1.1;
      rising = h.1.2;
      fails = same_fail formula h.1.0 failed h.1.3 r.fails;
      clash = λ both.
          let c = r.clash both in
          (c.0, c.1, one_rising h.1.0 (positive_of c.0 ∷ negative_of c.0 ∷ []) h.1.2 (both_rising c.0) (λ l. h.1.3 l ∙ ap (λ ls. has_literal ls l) c.2));
    },
  )

  -- they are of the log's last step
  pub negates_last : (told : Option (List ℤ)) (log : Bytes) (events : List LogEvent) → EventsRead log events finished → EndsFor formula events failed → AreInOrder formula failed told → NegatesLastStep formula log told
  negates_last None log events read e h = tt
  negates_last (Some zs) log events read e h = λ apart.
      let last = e.last apart in
      let steps : steps_of events ≡ steps_of last.0 ++ last.1 ∷ [] = ap steps_of last.2 ∙ filter_map-append step_of last.0 (Step last.1 ∷ []) in
      record {
        lits = h.1.0;
        are = h.1.1;
        before = steps_of last.0;
        last = last.1;
        reads = subst (λ ss. LogReads log ss finished) steps (events_give_steps log events read);
        same = λ l. h.1.3 l ∙ ap (λ ls. has_literal ls l) last.3;
      }
