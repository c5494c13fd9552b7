-- Going back from a conflict and implying what it taught.
use Rattle.std.proofs.Common.{◌≡◌, sym, ap, ◌∙◌, subst, ℕ, zero, suc, ◌+◌, ◌-◌, ◌<◌, ◌≤◌, ℤ, false, List, [], ◌∷◌, length, get_or, ◌⊎◌, inl, inr, arith, length-append, refl}
use Rattle.cx_base.specs.Literals.{Literal, negate, HasTwo}
use Rattle.cx_base.specs.Problem.{Problem, AreWithin}
use Rattle.cx_semantics.specs.Chain.{has_literal}
use Rattle.cx_base.specs.Integers.{integers_of}
use Rattle.cx_trail.specs.declared.entry.Reason.TheVariants as why
use Rattle.cx_trail.specs.Sequence.{TakesBack, entry_at, IsOpenIn}
use Rattle.cx_trail.proofs.ValueLaws.{entry_kept}
use Rattle.watch_lists.specs.Truths.{AreOthersFalse}
use Rattle.watch_lists.specs.Watching.{no_literal}
use Rattle.search_policy.specs.Standing.{OrderState, AllStand}
use Rattle.search_steps.specs.Trail.{back_to}
use Rattle.search_steps.specs.Quiet.{IsOfParities}
use Rattle.search_steps.specs.Search.{Search, jumped}
use Rattle.search_steps.specs.LogSteps.{after_round}
use Rattle.conflict_learn.specs.Learning.{negated_at, literal_at}
use Rattle.parity_engine.specs.State.{State}
use Rattle.search_steps.proofs.TrailLaws.{back_holds}
use Rattle.search_steps.proofs.Bridge.{held_is_true, level_tied}
use Rattle.search_steps.proofs.Stored.{has_of}
use Rattle.cx_base.proofs.LiteralLaws.{are_one}
use Rattle.cx_base.specs.Literals.{same_literal}
use Rattle.watch_lists.specs.Attaching.{CanBeWatched, literal_at as nth}
use Rattle.conflict_learn.specs.Learning.{IsFalling}
use Rattle.conflict_learn.specs.Touching.{AreTouched}
use Rattle.std.specs.List.{AllByRecursion}
use Rattle.std.proofs.lemmas.List.{length-map, get_or-map}
use Rattle.conflict_learn.specs.Levels.{second, levels_at}
use Rattle.conflict_learn.proofs.ChainOfResolutions.{by_cases}
use Rattle.cdcl_search.specs.declared.state.SearchState.{SearchState}
use Rattle.cdcl_search.specs.Ties.{Ties, IsWatched, IsFallingFrom}
use Rattle.cdcl_core.specs.Entering.{EntersUnit, EntersClause}
use Rattle.cdcl_core.specs.Learning.{IsTaught}
use Rattle.cdcl_core.proofs.Entering.{within}
use Rattle.cdcl_core.proofs.EnteredCases.{clause_ties, clause_watched, unit_ties, unit_watched}
use Rattle.cdcl_core.proofs.Entering.{tied_then}
use Rattle.cdcl_core.specs.Entering.{Enters, HasCounts}

all_within : (n : ℕ) (lits : List Literal) → AreWithin n lits → (k : ℕ) (d : Literal) → k < length lits → (1 ≤ (get_or lits k d).variable) × ((get_or lits k d).variable ≤ n)
all_within n [] w k d h = absurd (omega (arith, h))
all_within n (l ∷ lits) w zero d h = w.0
all_within n (l ∷ lits) w (suc k) d h = all_within n lits w.1 k d (omega (arith, h))

-- what holds of the places holds of the one at an index
at_index : (P : ℕ → Type 0) (places : List ℕ) (k : ℕ) → AllByRecursion P places → k < length places → P (get_or places k 0)
at_index P [] k a h = absurd (omega (arith, h))
at_index P (p ∷ ps) zero a h = a.0
at_index P (p ∷ ps) (suc k) a h = at_index P ps k a.1 (omega (arith, h))

own_default : (xs : List Literal) (k : ℕ) (d : Literal) → k < length xs → get_or xs k (get_or xs k d) ≡ get_or xs k d
own_default [] k d h = absurd (omega (arith, h))
own_default (x ∷ xs) zero d h = refl
own_default (x ∷ xs) (suc k) d h = own_default xs k d (omega (arith, h))

module _ (formula : Problem) (c : SearchState) (e : State) (lits : List Literal) (back : ℕ) (s : Search) (taught : IsTaught formula c e lits back s) where
  pub lower_than_now : back < c.trail.level
  lower_than_now = let low = taught.learned.lower in let now = level_tied s.trail c.trail taught.ties.trail.follows.tied taught.ties.trail.follows.sound in omega (arith, low, now)

  pub first_is : nth lits 0 ≡ taught.first
  first_is = ap (λ xs. nth xs 0) taught.parts

  pub alone_at_zero : length lits ≡ 1 → back ≡ 0
  alone_at_zero one = go taught.placed.rest taught.placed.are taught.placed.back_is
    where
      go : (rest : List ℕ) → lits ≡ negated_at c.trail (taught.placed.first ∷ rest) → back ≡ second (levels_at c.trail (taught.placed.first ∷ rest)) → back ≡ 0
      go [] are b = b
      go (q ∷ qs) are b = absurd (let n = ap length are in omega (arith, n, one))

  module _ (c1 : SearchState) (e1 : State) (t1 : Ties formula c1 e1 taught.rows (jumped s back)) (w1 : IsWatched c1.watches c1.arena c1.trail) (takes : TakesBack back c.trail c1.trail) where
    pub scores_within : (resolved learned : List Literal) (vars : List ℕ) → AreTouched c.trail resolved learned vars → (k d : ℕ) → k < length vars → (1 ≤ get_or vars k d) × (get_or vars k d ≤ length c1.order.scores)
    scores_within resolved learned vars t k d h =
        let f = λ (p : ℕ). (literal_at c.trail p).variable in
        let inside : k < length t.places = (let n = ap length t.are in let m = length-map t.places f in omega (arith, h, n, m)) in
        let less = at_index (λ p. p < length c.trail.entries) t.places k t.within inside in
        let is : get_or vars k d ≡ f (get_or t.places k 0) = ap (λ xs. get_or xs k d) t.are ∙ get_or-map f t.places k 0 d inside in
        let sound = taught.ties.trail.follows.sound in
        let low = sound.low (get_or t.places k 0) less in
        let high = sound.high (get_or t.places k 0) less in
        let was = taught.ties.trail.variables in
        let a = t1.trail.stand.variables in
        let b = t1.trail.variables in
        (omega (arith, low, is), omega (arith, high, is, was, a, b))

    pub first_is_open : IsOpenIn c1.trail.entries (nth lits 0).variable
    first_is_open = subst (λ m. IsOpenIn c1.trail.entries m.variable) (sym first_is) (tied_then formula c e lits back s taught [] c1.trail takes why.Decision).0

    pub first_is_high : (nth lits 0).variable ≤ c1.trail.variables
    first_is_high =
        let long = ap length taught.parts in
        let high = (all_within formula.variables lits (within formula c e lits back s taught []) 0 no_literal (omega (arith, long))).1 in
        let same = t1.trail.variables in
        omega (arith, high, same)

    pub others_are_false : AreOthersFalse c1.trail.entries lits taught.first
    others_are_false m has apart =
        let low = taught.learned.lower in
        let known = taught.learned.asserting.others_false m (has_of lits m has) (by_cases (same_literal taught.first m) (λ q. absurd (apart (sym (are_one taught.first m q)))) (λ q. q)) in
        let holds = back_holds s.moment.tables.clauses (IsOfParities formula.variables e.parities) back s.trail taught.search.serves.stands (omega (arith, low)) in
        held_is_true (back_to back s.trail) c1.trail.entries t1.trail.follows.tied (negate m) (ap (λ u. has_literal u (negate m)) holds ∙ known)

    old_entry : (i : ℕ) → i < length c1.trail.entries → entry_at c.trail.entries i ≡ entry_at c1.trail.entries i
    old_entry i h = ap (λ xs. entry_at xs i) takes.parts ∙ entry_kept c1.trail.entries takes.dropped i h

    pub can_be_watched : 2 ≤ length lits → CanBeWatched c1.watches.variables c1.trail lits
    can_be_watched long = go taught.placed.rest taught.placed.are taught.placed.falling taught.placed.back_is
      where
        p : ℕ
        p = taught.placed.first

        go : (rest : List ℕ) → lits ≡ negated_at c.trail (p ∷ rest) → IsFalling (p ∷ rest) → back ≡ second (levels_at c.trail (p ∷ rest)) → CanBeWatched c1.watches.variables c1.trail lits
        go [] are falling b = absurd (let n = ap length are in omega (arith, n, long))
        go (q ∷ qs) are falling b =
            let sound = taught.ties.trail.follows.sound in
            let at0 : nth lits 0 ≡ negate (literal_at c.trail p) = ap (λ xs. nth xs 0) are in
            let at1 : nth lits 1 ≡ negate (literal_at c.trail q) = ap (λ xs. nth xs 1) are in
            let less = falling.0.0 in
            let top = taught.placed.within in
            let vars : c1.watches.variables ≡ formula.variables = w1.fits.variables ∙ t1.trail.variables in
            record {
              long = long;
              within = λ k d h. subst (λ n. (1 ≤ (get_or lits k d).variable) × ((get_or lits k d).variable ≤ n)) (sym vars) (all_within formula.variables lits (within formula c e lits back s taught []) k d h);
              apart = λ same. (
                  let one = sound.distinct p q top (omega (arith, less, top)) (sym (ap (λ m. m.variable) at0) ∙ same ∙ ap (λ m. m.variable) at1) in
                  omega (arith, one, less));
              first = λ f. first_is_open f.0 f.1.0 (ap (λ m. m.variable) f.1.1);
              second = λ i at.
                  let more = ap length takes.parts in
                  let both = length-append c1.trail.entries takes.dropped in
                  let h = at.0 in
                  let same = old_entry i at.0 in
                  let one : i ≡ q = sound.distinct i q (omega (arith, h, more, both)) (omega (arith, less, top)) (ap (λ x. x.literal.variable) same ∙ ap (λ m. m.variable) at.1 ∙ ap (λ m. m.variable) at1) in
                  ap (λ x. x.level) (sym same) ∙ ap (λ k. (entry_at c.trail.entries k).level) one ∙ sym b ∙ sym takes.level;
            }

    module _ (o : OrderState) (standing : o.standing ≡ c1.order.standing) (scores : length o.scores ≡ length c1.order.scores) where
      stands_still : AllStand o c1.trail
      stands_still = record { variables = scores ∙ t1.trail.stand.variables; stand = λ v low high is_open. ap (λ b. get_or b (v - 1) false) standing ∙ t1.trail.stand.stand v low high is_open }

      -- a clause of several literals has two different ones
      two_of : 2 ≤ length lits → HasTwo lits
      two_of long =
          let watched = can_be_watched long in
          record {
            first = nth lits 0;
            second = nth lits 1;
            has_first = (0, omega (arith, long), own_default lits 0 no_literal (omega (arith, long)));
            has_second = (1, omega (arith, long), own_default lits 1 no_literal (omega (arith, long)));
            differ = λ same. watched.apart (ap (λ m. m.variable) same);
          }

      pub enters_stands : (D : SearchState) (lbd : ℕ) (hints : List ℤ) → (same : HasCounts c1 c) → (back ≡ 0 → length c1.units.items ≡ length c1.trail.entries)
          → Enters (record c1 { order = o; next = c1.next + 1; conflicts = c1.conflicts + 1; learned = c1.learned + 1 }) D lits c1.next lbd
          → Ties formula D e1 [] (after_round s c.next (integers_of lits) hints back taught.first) × IsWatched D.watches D.arena D.trail
      enters_stands D lbd hints same units enters =
          let Law : ℕ → ℕ → ℕ → Literal → Type 0 = λ m k n x. ((length lits ≡ 1) × EntersUnit (record c1 { order = o; next = m + 1; conflicts = k + 1; learned = n + 1 }) D x m) ⊎ ((2 ≤ length lits) × EntersClause (record c1 { order = o; next = m + 1; conflicts = k + 1; learned = n + 1 }) D lits x m lbd) in
          elim (subst (Law c.next c.conflicts c.learned) first_is (subst (λ m. Law m c.conflicts c.learned (nth lits 0)) same.next (subst (λ k. Law c1.next k c.learned (nth lits 0)) same.conflicts (subst (λ n. Law c1.next c1.conflicts n (nth lits 0)) same.learned enters)))) [
            | inl (one, unit) ↦ (
              unit_ties formula c e lits back s taught hints c1 e1 t1 takes o stands_still D same one (alone_at_zero one) (units (alone_at_zero one)) unit,
              unit_watched formula c e lits back s taught hints c1 e1 t1 takes o stands_still D same one (alone_at_zero one) (units (alone_at_zero one)) unit w1,
            )
            | inr (several, clause) ↦ (
              clause_ties formula c e lits back s taught hints c1 e1 t1 takes o stands_still D same lbd clause (two_of several) others_are_false,
              clause_watched formula c e lits back s taught hints c1 e1 t1 takes o stands_still D same lbd clause w1,
            )
          ]

-- the first of a list that is not empty
pub first_any : (xs : List Literal) (d e : Literal) → 1 ≤ length xs → get_or xs 0 d ≡ get_or xs 0 e
first_any [] d e h = absurd (omega (arith, h))
first_any (x ∷ xs) d e h = refl

-- numbers that fall are not more than those below the first bound
pub falling_short : (top : ℕ) (ns : List ℕ) → IsFallingFrom top ns → length ns ≤ top
falling_short top [] f = omega arith
falling_short top (n ∷ ns) f = let low = f.0 in let rest = falling_short n ns f.1 in omega (arith, low, rest)
