-- One more literal of unit propagation, and what is known where no clause gives more.
use Rattle.std.proofs.Common.{◌≡◌, ◌≢◌, sym, ap, ◌∙◌, subst, ℕ, zero, suc, ◌≤◌, Bool, true, false, not, List, [], ◌∷◌, take, length, get_or, Some, ◌⊎◌, inl, inr, true≢false}
use Rattle.std.specs.Prelude.{MatchBool}
use Rattle.std.specs.List.{list_all, remove}
use Rattle.std.specs.Ordering.{nat_cmp, eq_by_cmp}
use Rattle.std.proofs.lemmas.Bool.{false_from_ne_true, or_cases, or_from, or_left, or_right}
use Rattle.std.proofs.lemmas.List.{take_all}
use Rattle.std.proofs.lemmas.Option.{same_Some}
use Rattle.cx_base.specs.Literals.{Literal, negate, same_literal}
use Rattle.cx_base.proofs.LiteralLaws.{negate-negate, are_one}
use Rattle.cx_semantics.specs.Chain.{has_literal, is_inside, left, none, one, more, count_left, HaveSame}
use Rattle.cx_semantics.specs.Fresh.{is_falsified, NotReached}
use Rattle.cx_semantics.specs.Tables.{Table, get}
use Rattle.cx_semantics.proofs.Closure.{all_are, some_are, left_under, one_in, left_nil, one_is, same_id, left_open, left_has, left_in, none_left, none_false, falsified-left, has_by_inside}
use Rattle.cx_semantics.proofs.Members.{has_at_head, has_split}
use Rattle.cx_semantics.proofs.SameSets.{inside_by}
use Rattle.plain_tests.specs.Propagating.{HasId, AllWait, IsClosed, Clash, Follow, IsSaturation}

-- one literal of the clause is left, and it is known
abbrev pub IsUsed : List Literal → List Literal → Type 0
IsUsed known clause = (l : Literal) × (count_left (left known clause) ≡ one l) × (has_literal known l ≡ true)

-- each live clause is used or waits
abbrev pub IsSeen : Table → List Literal → List ℕ → Type 0
IsSeen table known ids = (n : ℕ) (clause : List Literal) → get table n ≡ Some clause → IsUsed known clause ⊎ HasId ids n

none_are : (lits : List Literal) (l : Literal) → has_literal lits l ≡ true → lits ≢ []
none_are lits l h e = true≢false (sym h ∙ ap (λ xs. has_literal xs l) e)

-- ---- closed sets

module _ (table : Table) (known u : List Literal) (closed : IsClosed table u) (inside : is_inside known u ≡ true) (n : ℕ) (clause : List Literal) (live : get table n ≡ Some clause) where
  some_left : left u clause ≢ []
  some_left e = true≢false (sym (falsified-left u clause e) ∙ closed.no_conflict clause (n, live))

  pub not_none : count_left (left known clause) ≡ none → ⊥
  not_none e = some_left (none_false (left u clause) (left_under (λ l. false) known u clause inside (ap (list_all (λ l. false)) (none_left (left known clause) e))))

  pub has_unit : (lit : Literal) → count_left (left known clause) ≡ one lit → has_literal u lit ≡ true
  has_unit lit e = closed.units clause lit (n, live) (some_are (left u clause) lit (left_under (same_literal lit) known u clause inside (all_are (left known clause) lit e)) some_left)

pub clash : (table : Table) (given known : List Literal) (n : ℕ) (clause : List Literal) → Follow table given known → get table n ≡ Some clause → count_left (left known clause) ≡ none → Clash table given
clash table given known n clause follow live e u closed has = not_none table known u closed (follow u closed has) n clause live e

pub follow_on : (table : Table) (given old new : List Literal) (n : ℕ) (clause : List Literal) (lit : Literal) → Follow table given old → get table n ≡ Some clause → count_left (left old clause) ≡ one lit
    → HaveSame new (lit ∷ old) → Follow table given new
follow_on table given old new n clause lit follow live e same u closed has =
    let before : is_inside old u ≡ true = follow u closed has in
    inside_by new u (λ l h. elim (has_split lit old l (sym (same l) ∙ h)) [
      | inl is ↦ subst (λ x. has_literal u x ≡ true) (sym is) (has_unit table old u closed before n clause live lit e)
      | inr k ↦ has_by_inside old u l before k
    ])

-- ---- the given literals

pub first_follow : (table : Table) (given known : List Literal) → HaveSame known given → Follow table given known
first_follow table given known same u closed has = inside_by known u (λ l h. has_by_inside given u l has (sym (same l) ∙ h))

pub first_inside : (given known : List Literal) → HaveSame known given → is_inside given known ≡ true
first_inside given known same = inside_by given known (λ l h. same l ∙ h)

pub inside_on : (given old new : List Literal) (lit : Literal) → HaveSame new (lit ∷ old) → is_inside given old ≡ true → is_inside given new ≡ true
inside_on given old new lit same h = inside_by given new (λ l k. same l ∙ or_right (same_literal l lit) _ (has_by_inside given old l h k))

-- ---- one more literal, that is left of a clause

module _ (old new : List Literal) (lit : Literal) (same : HaveSame new (lit ∷ old)) (free : has_literal old (negate lit) ≡ false) where
  pub has_more : (l : Literal) → has_literal old l ≡ true → has_literal new l ≡ true
  has_more l h = same l ∙ or_right (same_literal l lit) _ h

  one_stays : (clause : List Literal) (l : Literal) → count_left (left old clause) ≡ one l → (same_literal (negate l) lit ≡ true → ⊥) → count_left (left new clause) ≡ one l
  one_stays clause l e apart =
      let there : has_literal (left old clause) l ≡ true = one_in (left old clause) l e in
      let free_l : has_literal new (negate l) ≡ false = same (negate l) ∙ or_from _ _ (false_from_ne_true (same_literal (negate l) lit) apart) (left_open old clause l there) in
      some_are (left new clause) l
      (left_under (same_literal l) old new clause (inside_by old new has_more) (all_are (left old clause) l e))
      (none_are (left new clause) l (left_has new clause l (left_in old clause l there) free_l))

  used_stays : (clause : List Literal) → IsUsed old clause → IsUsed new clause
  used_stays clause (l, e, h) = (
    l,
    one_stays clause l e (λ f.
        let turned : l ≡ negate lit = sym (negate-negate l) ∙ ap negate (are_one (negate l) lit f) in
        true≢false (sym h ∙ ap (has_literal old) turned ∙ free)),
    has_more l h,
  )

  not_itself : (m : Literal) → same_literal (negate m) m ≡ true → ⊥
  not_itself m h = differs m.negative (ap (λ (x : Literal). x.negative) (are_one (negate m) m h))
    where
      differs : (b : Bool) → not b ≡ b → ⊥
      differs true h = true≢false (sym h)
      differs false h = true≢false h

  used_now : (clause : List Literal) → count_left (left old clause) ≡ one lit → IsUsed new clause
  used_now clause e = (lit, one_stays clause lit e (not_itself lit), same lit ∙ has_at_head lit old)

-- ---- ids

-- an id of the list is the one at the place, or stays when that is taken out
pub stays_or_is : (ids : List ℕ) (i n : ℕ) → HasId ids n → HasId (remove ids i) n ⊎ (n ≡ get_or ids i 0)
stays_or_is [] i n h = absurd (true≢false (sym h))
stays_or_is (x ∷ ids) zero n h = elim (or_cases (eq_by_cmp nat_cmp n x) _ h) [ inl e ↦ inr (same_id n x e) | inr k ↦ inl k ]
stays_or_is (x ∷ ids) (suc i) n h = elim (or_cases (eq_by_cmp nat_cmp n x) _ h) [
  | inl e ↦ inl (or_left _ _ e)
  | inr k ↦ elim (stays_or_is ids i n k) [ inl g ↦ inl (or_right (eq_by_cmp nat_cmp n x) _ g) | inr e ↦ inr e ]
]

pub seen_on : (table : Table) (old new : List Literal) (lit : Literal) (ids : List ℕ) (i : ℕ) (clause : List Literal) → HaveSame new (lit ∷ old) → get table (get_or ids i 0) ≡ Some clause → count_left (left old clause) ≡ one lit
    → IsSeen table old ids → IsSeen table new (remove ids i)
seen_on table old new lit ids i clause same live e seen n c f =
    let free : has_literal old (negate lit) ≡ false = left_open old clause lit (one_in (left old clause) lit e) in
    elim (seen n c f) [
      | inl u ↦ inl (used_stays old new lit same free c u)
      | inr h ↦ elim (stays_or_is ids i n h) [
        | inl k ↦ inr k
        | inr is ↦ inl (subst (IsUsed new) (same_Some clause c (sym live ∙ ap (get table) (sym is) ∙ f)) (used_now old new lit same free clause e))
      ]
    ]

-- ---- no clause gives more

pub closed_now : (table : Table) (known : List Literal) (ids : List ℕ) → IsSeen table known ids → AllWait table known ids → IsClosed table known
closed_now table known ids seen wait = record {
  units = λ clause l (n, e) f. units clause l f (seen_or n clause e);
  no_conflict = λ clause (n, e). false_from_ne_true (is_falsified known clause) (λ f. falsified clause (ap count_left (left_nil known clause f)) (seen_or n clause e));
}
  where
    seen_or : (n : ℕ) (clause : List Literal) → get table n ≡ Some clause → IsUsed known clause ⊎ (count_left (left known clause) ≡ more)
    seen_or n clause e = elim (seen n clause e) [ inl u ↦ inl u | inr h ↦ inr (wait n clause h e) ]

    units : (clause : List Literal) (l : Literal) → count_left (left known clause) ≡ one l → IsUsed known clause ⊎ (count_left (left known clause) ≡ more) → has_literal known l ≡ true
    units clause l f (inl (m, e, h)) = subst (λ x. has_literal known x ≡ true) (one_is m l (sym e ∙ f)) h
    units clause l f (inr e) = let q : more ≡ one l = sym e ∙ f in cc

    falsified : (clause : List Literal) → count_left (left known clause) ≡ none → IsUsed known clause ⊎ (count_left (left known clause) ≡ more) → ⊥
    falsified clause f (inl (m, e, h)) = let q : one m ≡ none = sym e ∙ f in cc
    falsified clause f (inr e) = let q : more ≡ none = sym e ∙ f in cc

-- ---- what a saturation says

pub not_reached : (table : Table) (given known : List Literal) (l : Literal) → IsSaturation table given known → has_literal known l ≡ false → NotReached table given l
not_reached table given known l s h = record {
  closed = known;
  has_given = s.has_given;
  units = s.closed.units;
  no_conflict = s.closed.no_conflict;
  not_in = h;
}

pub reached : (table : Table) (given known : List Literal) (l : Literal) → IsSaturation table given known → has_literal known l ≡ true → ¬ NotReached table given l
reached table given known l s h r =
    let u : List Literal = r.closed in
    let inside : is_inside known u ≡ true = s.least u (record { units = r.units; no_conflict = r.no_conflict }) r.has_given in
    true≢false (sym (has_by_inside known u l inside h) ∙ r.not_in)

pub not_in_clash : (table : Table) (given : List Literal) (l : Literal) → Clash table given → ¬ NotReached table given l
not_in_clash table given l c r = c r.closed (record { units = r.units; no_conflict = r.no_conflict }) r.has_given

-- the answer to whether the literal is reached
pub told : (table : Table) (given known : List Literal) (l : Literal) (b : Bool) → IsSaturation table given known → b ≡ has_literal known l → MatchBool (not b) (NotReached table given l) (¬ NotReached table given l)
told table given known l true s e = reached table given known l s (sym e)
told table given known l false s e = not_reached table given known l s (sym e)

-- ---- all ids

pub wait_all : (table : Table) (known : List Literal) (ids : List ℕ) (i : ℕ) → length ids ≤ i → AllWait table known (take i ids) → AllWait table known ids
wait_all table known ids i long wait = subst (AllWait table known) (take_all i ids long) wait
