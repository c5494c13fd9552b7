-- What a final analysis keeps, from the clause that it begins with to what is left of it.
use Rattle.std.proofs.Common.{◌≡◌, refl, sym, ap, ◌∙◌, subst, ℕ, ◌<◌, ◌≤◌, Bool, true, false, List, [], ◌∷◌, ◌++◌, length, Option, Some, None, set, inl, inr, true≢false, arith, append-nil, append_assoc}
use Rattle.std.specs.List.{AllByRecursion}
use Rattle.std.proofs.lemmas.List.{map-append}
use Rattle.cx_base.specs.Literals.{Literal, negate, same_literal}
use Rattle.cx_base.proofs.LiteralLaws.{negate-negate, are_one, same_literal-itself}
use Rattle.cx_base.proofs.Elements.{all_push}
use Rattle.cx_semantics.specs.Chain.{has_literal}
use Rattle.cx_semantics.proofs.Members.{has_at_head, has_left, has_right, has_either, has_pushed}
use Rattle.cx_trail.specs.Sequence.{TrailState, IsTrail, IsFalseBefore}
use Rattle.conflict_learn.specs.declared.learning.Resolved.{Resolved}
use Rattle.conflict_learn.specs.Final.{IsFinal, StandsBelow, IsDecidedAt, kept_in}
use Rattle.conflict_learn.specs.Learning.{literal_at, negated_at, has_place, skips, AreHeld, IsAntecedent, IsFalling, Follows}
use Rattle.conflict_learn.specs.Marks.{is_marked}
use Rattle.conflict_learn.specs.Touching.{Touched, IsLastMarked}
use Rattle.conflict_learn.proofs.AnalyseLaws.{place_pushed, place_kept, place_last, negated_has, negated_from, follows_more, follows_held, follows_resolved, falling_push, AllByRecursion-weaker}
use Rattle.conflict_learn.proofs.ChainOfResolutions.{by_cases, conflict_serves}
use Rattle.conflict_learn.proofs.MarkLaws.{var_of, marked_below, below_has, below_from, below_cut, cleared_below}

-- how far it has come: what is left so far, and the places still to be looked at
pub record Tracing (trail : TrailState) (below : ℕ) (kept : Option Literal) (clause : List Literal) (holds : List Literal → ℕ → Type 0) (resolved : List Resolved) (lits : List Literal) (keys : List ℕ) : Type 0 where
  pub places : List ℕ
  pub are : lits ≡ kept_in kept ++ negated_at trail places
  pub falling : IsFalling places
  pub placed : AllByRecursion (λ p. p < below) places
  pub decided : AllByRecursion (IsDecidedAt trail) places
  pub lower : (q : ℕ) → has_place keys q ≡ true → AllByRecursion (λ p. q < p) places
  pub within : (q : ℕ) → has_place keys q ≡ true → q < below
  pub follows : Follows trail clause holds resolved (lits ++ negated_at trail keys)

kept_has : (kept : Option Literal) (m : Literal) → skips kept m ≡ true → has_literal (kept_in kept) m ≡ true
kept_has None m h = absurd (true≢false (sym h))
kept_has (Some l) m h = ap (has_literal (l ∷ [])) (sym (are_one l m h)) ∙ has_at_head l []

module _ (trail : TrailState) (below : ℕ) (kept : Option Literal) (clause : List Literal) where
  -- a literal that is false by a key
  by_key : (lits : List Literal) (keys : List ℕ) (m : Literal) (q : ℕ) → has_place keys q ≡ true → literal_at trail q ≡ negate m → has_literal (lits ++ negated_at trail keys) m ≡ true
  by_key lits keys m q h e = has_right lits (negated_at trail keys) m (subst (λ y. has_literal (negated_at trail keys) y ≡ true) (ap negate e ∙ negate-negate m) (negated_has trail keys q h))

  begun_members : (keys : List ℕ) → ((m : Literal) → has_literal clause m ≡ true → skips kept m ≡ false → (q : ℕ) × (has_place keys q ≡ true) × (literal_at trail q ≡ negate m))
      → (m : Literal) → has_literal clause m ≡ true → has_literal (kept_in kept ++ negated_at trail keys) m ≡ true
  begun_members keys has m h = by_cases (skips kept m)
      (λ e. has_left (kept_in kept) (negated_at trail keys) m (kept_has kept m e))
      (λ e. let r = has m h e in by_key (kept_in kept) keys m r.0 r.1 r.2)

  pub tracing_begins : (holds : List Literal → ℕ → Type 0) (old marks : List Bool) → Touched kept old marks clause
      → ((m : Literal) → has_literal clause m ≡ true → skips kept m ≡ false → IsFalseBefore trail.entries below m) → Tracing trail below kept clause holds [] (kept_in kept) (marked_below trail marks below)
  tracing_begins holds old marks t all_false = record {
    places = [];
    are = sym (append-nil (kept_in kept));
    falling = tt;
    placed = tt;
    decided = tt;
    lower = λ q h. tt;
    within = λ q h. (below_from trail marks below q h).0;
    follows = follows_more trail clause holds [] clause (kept_in kept ++ negated_at trail (marked_below trail marks below))
        (begun_members (marked_below trail marks below) (λ m h n. let f = all_false m h n in (f.0, below_has trail marks below f.0 f.1 (ap (is_marked marks) (ap (λ (y : Literal). y.variable) f.2) ∙ t.has m h n), f.2)))
        ([], tt, conflict_serves clause);
  }

  module _ (holds : List Literal → ℕ → Type 0) (resolved : List Resolved) (lits : List Literal) (keys : List ℕ) (p : ℕ) (a : Tracing trail below kept clause holds resolved lits (keys ++ p ∷ [])) (max_place : (q : ℕ) → has_place keys q ≡ true → q < p) where
    decided_members : (m : Literal) → has_literal (lits ++ negated_at trail (keys ++ p ∷ [])) m ≡ true → has_literal ((lits ++ negate (literal_at trail p) ∷ []) ++ negated_at trail keys) m ≡ true
    decided_members m h = elim (has_either lits (negated_at trail (keys ++ p ∷ [])) m h) [
      | inl g ↦ has_left (lits ++ negate (literal_at trail p) ∷ []) (negated_at trail keys) m (has_left lits (negate (literal_at trail p) ∷ []) m g)
      | inr g ↦ let r = negated_from trail (keys ++ p ∷ []) m g in elim (place_pushed keys p r.0 r.1) [
        | inl k ↦ has_right (lits ++ negate (literal_at trail p) ∷ []) (negated_at trail keys) m (subst (λ y. has_literal (negated_at trail keys) y ≡ true) (sym r.2) (negated_has trail keys r.0 k))
        | inr e ↦ has_left (lits ++ negate (literal_at trail p) ∷ []) (negated_at trail keys) m (has_right lits (negate (literal_at trail p) ∷ []) m
            (ap (has_literal (negate (literal_at trail p) ∷ [])) (r.2 ∙ ap (λ x. negate (literal_at trail x)) e) ∙ has_at_head (negate (literal_at trail p)) []))
      ]
    ]

    pub tracing_keeps : IsDecidedAt trail p → Tracing trail below kept clause holds resolved (lits ++ negate (literal_at trail p) ∷ []) keys
    tracing_keeps now = record {
      places = a.places ++ p ∷ [];
      are = ap (λ xs. xs ++ negate (literal_at trail p) ∷ []) a.are ∙ append_assoc (kept_in kept) (negated_at trail a.places) (negate (literal_at trail p) ∷ [])
          ∙ ap (λ xs. kept_in kept ++ xs) (sym (map-append (λ q. negate (literal_at trail q)) a.places (p ∷ [])));
      falling = falling_push a.places p a.falling (a.lower p (place_last keys p));
      placed = all_push (λ x. x < below) a.places p a.placed (a.within p (place_last keys p));
      decided = all_push (IsDecidedAt trail) a.places p a.decided now;
      lower = λ q h. all_push (λ x. q < x) a.places p (a.lower q (place_kept keys p q h)) (max_place q h);
      within = λ q h. a.within q (place_kept keys p q h);
      follows = follows_more trail clause holds resolved (lits ++ negated_at trail (keys ++ p ∷ [])) ((lits ++ negate (literal_at trail p) ∷ []) ++ negated_at trail keys) decided_members a.follows;
    }

    pub tracing_resolves : (after : List Literal → ℕ → Type 0) (new : List ℕ) (implying : List Literal) (n : ℕ) → AreHeld holds after → after implying n → IsAntecedent trail (literal_at trail p) implying
        → ((q : ℕ) → has_place keys q ≡ true → has_place new q ≡ true) → ((q : ℕ) → has_place new q ≡ true → q < p)
        → ((m : Literal) → has_literal implying m ≡ true → same_literal (literal_at trail p) m ≡ false → (q : ℕ) × (has_place new q ≡ true) × (literal_at trail q ≡ negate m))
        → Tracing trail below kept clause after (resolved ++ record { literal = literal_at trail p; id = n } ∷ []) lits new
    tracing_resolves after new implying n held_on k implied still low others = record {
      places = a.places;
      are = a.are;
      falling = a.falling;
      placed = a.placed;
      decided = a.decided;
      lower = λ q h. let less = low q h in AllByRecursion-weaker (λ x. p < x) (λ x. q < x) (λ x above_p. omega (arith, less, above_p)) a.places (a.lower p (place_last keys p));
      within = λ q h. let less = low q h in let b = a.within p (place_last keys p) in omega (arith, less, b);
      follows = follows_resolved trail clause after resolved (lits ++ negated_at trail (keys ++ p ∷ [])) implying (record { literal = literal_at trail p; id = n }) (lits ++ negated_at trail new) k implied
          (record { from_clause = λ m h n. let r = others m h n in by_key lits new m r.0 r.1 r.2; from_old = from_old }) (follows_held trail clause holds after resolved (lits ++ negated_at trail (keys ++ p ∷ [])) held_on a.follows);
    }
      where
        from_old : (m : Literal) → has_literal (lits ++ negated_at trail (keys ++ p ∷ [])) m ≡ true → same_literal (negate (literal_at trail p)) m ≡ false → has_literal (lits ++ negated_at trail new) m ≡ true
        from_old m h n = elim (has_either lits (negated_at trail (keys ++ p ∷ [])) m h) [
          | inl g ↦ has_left lits (negated_at trail new) m g
          | inr g ↦ let r = negated_from trail (keys ++ p ∷ []) m g in elim (place_pushed keys p r.0 r.1) [
            | inl e ↦ has_right lits (negated_at trail new) m (subst (λ y. has_literal (negated_at trail new) y ≡ true) (sym r.2) (negated_has trail new r.0 (still r.0 e)))
            | inr e ↦ absurd (true≢false (sym (ap (same_literal (negate (literal_at trail p))) (r.2 ∙ ap (λ x. negate (literal_at trail x)) e) ∙ same_literal-itself (negate (literal_at trail p))) ∙ n))
          ]
        ]

  pub tracing_ends : (holds : List Literal → ℕ → Type 0) (resolved : List Resolved) (lits : List Literal) → Tracing trail below kept clause holds resolved lits [] → IsFinal trail below kept clause holds resolved lits
  tracing_ends holds resolved lits a = record {
    places = a.places;
    are = a.are;
    falling = a.falling;
    within = a.placed;
    decided = a.decided;
    follows = follows_more trail clause holds resolved (lits ++ []) lits (λ m h. elim (has_either lits [] m h) [ inl g ↦ g | inr g ↦ absurd (true≢false (sym g)) ]) a.follows;
  }

-- ---- over marks
module _ (trail : TrailState) (levels : IsTrail trail) (below : ℕ) (kept : Option Literal) (clause : List Literal) where
  -- the last marked place and those below it, once it is cleared
  pub traced : (marks : List Bool) (lowest from p : ℕ) → from ≤ length trail.entries → IsLastMarked trail marks from lowest p → marked_below trail marks from ≡ marked_below trail (set marks (var_of trail p) false) p ++ p ∷ []
  traced marks lowest from p bound last =
      let less = last.below in
      below_cut trail marks from p last.below last.marked last.others ∙ ap (λ ks. ks ++ p ∷ []) (cleared_below trail levels marks p (omega (arith, less, bound)))

  module _ (holds : List Literal → ℕ → Type 0) (resolved : List Resolved) (lits : List Literal) (marks : List Bool) (p : ℕ) (within : p < length trail.entries)
      (a : Tracing trail below kept clause holds resolved lits (marked_below trail marks p ++ p ∷ [])) where
    low : (q : ℕ) → has_place (marked_below trail marks p) q ≡ true → q < p
    low q h = (below_from trail marks p q h).0

    pub traced_keeps : IsDecidedAt trail p → Tracing trail below kept clause holds resolved (lits ++ negate (literal_at trail p) ∷ []) (marked_below trail marks p)
    traced_keeps now = tracing_keeps trail below kept clause holds resolved lits (marked_below trail marks p) p a low now

    pub traced_resolves : (after : List Literal → ℕ → Type 0) (new : List Bool) (implying : List Literal) (n : ℕ) → AreHeld holds after → after implying n → IsAntecedent trail (literal_at trail p) implying → Touched (Some (literal_at trail p)) marks new implying
        → Tracing trail below kept clause after (resolved ++ record { literal = literal_at trail p; id = n } ∷ []) lits (marked_below trail new p)
    traced_resolves after new implying n held_on k implied t = tracing_resolves trail below kept clause holds resolved lits (marked_below trail marks p) p a low after (marked_below trail new p) implying n held_on k implied
        (λ q h. let r = below_from trail marks p q h in below_has trail new p q r.0 (t.keeps (var_of trail q) r.1))
        (λ q h. (below_from trail new p q h).0)
        (λ m h n. let f = (implied p within refl).others_false m h n in (f.0, below_has trail new p f.0 f.1 (ap (is_marked new) (ap (λ (y : Literal). y.variable) f.2) ∙ t.has m h n), f.2))

-- ---- the resolved literals are below
pub stand_more : (trail : TrailState) (below : ℕ) (resolved : List Literal) (p : ℕ) → p < length trail.entries → p < below → ((m : Literal) → has_literal resolved m ≡ true → StandsBelow trail below m)
    → (m : Literal) → has_literal (resolved ++ literal_at trail p ∷ []) m ≡ true → StandsBelow trail below m
stand_more trail below resolved p within less old m h = elim (has_pushed resolved (literal_at trail p) m h) [
  | inl g ↦ old m g
  | inr e ↦ (p, less, (within, sym e))
]
