-- Watches that are made anew.
use Rattle.std.proofs.Common.{◌≡◌, ◌≢◌, ℕ, ◌<◌, ◌+◌, ◌*◌, ◌≤◌, Bool, true, false, List, [], ◌∷◌, length, get_or, set, take, sym, ap, ◌∙◌, subst, refl, ⊎_elim, arith}
use Rattle.std.specs.List.{All, Contains}
use Rattle.std.proofs.lemmas.Bool.{cases_eq, false≢true}
use Rattle.std.proofs.lemmas.List.{get_or-set_same, get_or-set_other, get_or_default}
use Rattle.std.proofs.lemmas.List.Elements.{All-get_or}
use Rattle.cx_base.specs.Literals.{Literal, HasTwo}
use Rattle.cx_trail.specs.Sequence.{TrailState}
use Rattle.std.specs.Prelude.{Option, Some, None, IsSome}
use Rattle.clause_arena.specs.Clauses.{ArenaState, Stored, clause_at, literals_at, literals_in, IsLive}
use Rattle.watch_lists.specs.Anew.{AreChosenBelow, AreWatchable, IsWatchable}
use Rattle.watch_lists.specs.Attaching.{literal_at}
use Rattle.watch_lists.specs.declared.lists.Side.{Side}
use Rattle.watch_lists.specs.Watching.{clause_of, partner, held_at, side_at, no_literal, IsAttached, IsThird, looked_at, Fits}
use Rattle.watch_lists.proofs.AttachLaws.{IsEntered, partner_first, partner_second, entered_as, node_cases, third_along}
use Rattle.watch_lists.proofs.NodeLaws.{clause_in, clause_of_partner}

-- ---- a clause with two different literals
pub has_front : (lits : List Literal) → HasTwo lits → 0 < length lits
has_front lits d = let less = d.has_first.1 in omega (arith, less)

-- not all are the front one
pub not_alike : (lits : List Literal) (front : Literal) → HasTwo lits → ((k : ℕ) → k < length lits → literal_at lits k ≡ front) → ⊥
not_alike lits front d same = d.differ (is d.first d.has_first ∙ sym (is d.second d.has_second))
  where
    is : (l : Literal) → Contains lits l → l ≡ front
    is l (i, less, at) = sym at ∙ sym (get_or_default lits i no_literal l less) ∙ same i less

pub there_are_variables : (variables : ℕ) (lits : List Literal) → IsWatchable variables lits → 1 ≤ variables
there_are_variables variables lits w =
    let it = All-get_or (λ (l : Literal). (1 ≤ l.variable) × (l.variable ≤ variables)) lits w.different.has_first.0 no_literal w.different.has_first.1 w.within in
    omega (arith, it.0, it.1)

pub within_any : (variables : ℕ) (a : ArenaState) (r : ℕ) → AreWatchable variables a → All (λ l. (1 ≤ l.variable) × (l.variable ≤ variables)) (literals_at a r)
within_any variables a r k = at (clause_at a r) (λ live. (k r live).within)
  where
    at : (o : Option Stored) → (IsSome o → All (λ l. (1 ≤ l.variable) × (l.variable ≤ variables)) (literals_in o)) → All (λ l. (1 ≤ l.variable) × (l.variable ≤ variables)) (literals_in o)
    at None h = λ i d less. absurd (omega (arith, less))
    at (Some stored) h = h refl

-- ---- one clause more
pub chosen_none : (a : ArenaState) (held : List Side) (attached : List Bool) → AreChosenBelow a 0 held attached
chosen_none a held attached = record {
  only = λ r less h. absurd (omega (arith, less));
  all = λ r less h. absurd (omega (arith, less));
  inside = λ n less h. absurd (omega (arith, less));
  apart = λ n less h. absurd (omega (arith, less));
  thirds = λ n less h. absurd (omega (arith, less));
}

-- it is not in the arena
pub chosen_past : (a : ArenaState) (place : ℕ) (held : List Side) (b b2 : List Bool) → place < length b → b2 ≡ set b place false → (IsLive a place → ⊥) → AreChosenBelow a place held b → AreChosenBelow a (place + 1) held b2
chosen_past a place held b b2 inside eb gone p =
    let here : get_or b2 place false ≡ false = ap (λ (xs : List Bool). get_or xs place false) eb ∙ get_or-set_same b place false false inside in
    let elsewhere : (r : ℕ) → r ≢ place → get_or b2 r false ≡ get_or b r false = λ r ne. ap (λ (xs : List Bool). get_or xs r false) eb ∙ get_or-set_other b place r false false ne in
    let not_here : (r : ℕ) → IsAttached b2 r → r ≢ place = λ r h e. false≢true (sym here ∙ ap (λ x. get_or b2 x false) (sym e) ∙ h) in
    record {
      only = λ r less h. let ne = not_here r h in p.only r (omega (arith, less, ne)) (sym (elsewhere r ne) ∙ h);
      all = λ r less live.
          let ne : r ≢ place = λ e. gone (subst (IsLive a) e live) in
          elsewhere r ne ∙ p.all r (omega (arith, less, ne)) live;
      inside = λ n less h. let ne = not_here (clause_of n) h in p.inside n (omega (arith, less, ne)) (sym (elsewhere (clause_of n) ne) ∙ h);
      apart = λ n less h. let ne = not_here (clause_of n) h in p.apart n (omega (arith, less, ne)) (sym (elsewhere (clause_of n) ne) ∙ h);
      thirds = λ n less h. let ne = not_here (clause_of n) h in p.thirds n (omega (arith, less, ne)) (sym (elsewhere (clause_of n) ne) ∙ h);
    }

-- a side that says nothing of how long its clause is
abbrev pub long_side : Literal → Side
long_side l = record { watched = l; third = l }

-- it is
module _ (a : ArenaState) (place : ℕ) (held h2 : List Side) (b b2 : List Bool) (first second : Literal) (inside : place < length b) (pairs : length held ≡ 2 * length b) (live : IsLive a place)
    (has_first : Contains (literals_at a place) first) (has_second : Contains (literals_at a place) second) (differ : first ≢ second)
    (eh : h2 ≡ set (set held (2 * place) (long_side first)) (2 * place + 1) (long_side second)) (eb : b2 ≡ set b place true) (p : AreChosenBelow a place held b) where
  i : IsEntered held b place (long_side first) (long_side second) h2 b2
  i = entered_as held b place (long_side first) (long_side second) h2 b2 inside pairs eh eb

  was : (r : ℕ) → r ≢ place → IsAttached b2 r → IsAttached b r
  was r ne h = sym (i.other_clauses r ne) ∙ h

  inside_here : (m : ℕ) → clause_of m ≡ place → Contains (literals_at a (clause_of m)) (held_at h2 m)
  inside_here m e = subst (λ x. Contains (literals_at a x) (held_at h2 m)) (sym e) (⊎_elim
      (λ (q : m ≡ 2 * place). subst (λ x. Contains (literals_at a place) (held_at h2 x)) (sym q) (subst (λ (x : Side). Contains (literals_at a place) x.watched) (sym i.at_first) has_first))
      (λ (q : m ≡ 2 * place + 1). subst (λ x. Contains (literals_at a place) (held_at h2 x)) (sym q) (subst (λ (x : Side). Contains (literals_at a place) x.watched) (sym i.at_second) has_second)) (node_cases m place e))

  first_now : held_at h2 (2 * place) ≡ first
  first_now = ap (λ (x : Side). x.watched) i.at_first

  second_now : held_at h2 (2 * place + 1) ≡ second
  second_now = ap (λ (x : Side). x.watched) i.at_second

  thirds_here : (m : ℕ) → clause_of m ≡ place → IsThird (literals_at a (clause_of m)) (side_at h2 m) (side_at h2 (partner m))
  thirds_here m e = subst (λ x. IsThird (literals_at a x) (side_at h2 m) (side_at h2 (partner m))) (sym e) (⊎_elim
      (λ (z : m ≡ 2 * place). subst (λ x. IsThird (literals_at a place) (side_at h2 x) (side_at h2 (partner x))) (sym z)
      (third_along (literals_at a place) h2 (2 * place) (2 * place + 1) (long_side first) (long_side second) (partner_first place) i.at_first i.at_second
      (record { inside = has_first; alone = λ e. absurd (differ e) })))
      (λ (z : m ≡ 2 * place + 1). subst (λ x. IsThird (literals_at a place) (side_at h2 x) (side_at h2 (partner x))) (sym z)
      (third_along (literals_at a place) h2 (2 * place + 1) (2 * place) (long_side second) (long_side first) (partner_second place) i.at_second i.at_first
      (record { inside = has_second; alone = λ e. absurd (differ (sym e)) }))) (node_cases m place e))

  apart_here : (m : ℕ) → clause_of m ≡ place → held_at h2 m ≢ held_at h2 (partner m)
  apart_here m e q = ⊎_elim
      (λ (z : m ≡ 2 * place). differ (sym first_now ∙ ap (held_at h2) (sym z) ∙ q ∙ ap (λ x. held_at h2 (partner x)) z ∙ ap (held_at h2) (partner_first place) ∙ second_now))
      (λ (z : m ≡ 2 * place + 1). differ (sym (sym second_now ∙ ap (held_at h2) (sym z) ∙ q ∙ ap (λ x. held_at h2 (partner x)) z ∙ ap (held_at h2) (partner_second place) ∙ first_now))) (node_cases m place e)

  pub chosen_more : AreChosenBelow a (place + 1) h2 b2
  chosen_more = record {
    only = λ r less h. ⊎_elim (λ (e : r ≡ place). subst (IsLive a) (sym e) live) (λ (ne : r ≢ place). p.only r (omega (arith, less, ne)) (was r ne h)) (cases_eq r place);
    all = λ r less l. ⊎_elim (λ (e : r ≡ place). subst (IsAttached b2) (sym e) i.mine) (λ (ne : r ≢ place). i.other_clauses r ne ∙ p.all r (omega (arith, less, ne)) l) (cases_eq r place);
    inside = λ m less h. ⊎_elim
        (λ (e : clause_of m ≡ place). inside_here m e)
        (λ (ne : clause_of m ≢ place). subst (λ (x : Side). Contains (literals_at a (clause_of m)) x.watched) (sym (i.others m ne)) (p.inside m (omega (arith, less, ne)) (was (clause_of m) ne h))) (cases_eq (clause_of m) place);
    apart = λ m less h q. ⊎_elim
        (λ (e : clause_of m ≡ place). apart_here m e q)
        (λ (ne : clause_of m ≢ place). p.apart m (omega (arith, less, ne)) (was (clause_of m) ne h) (sym (ap (λ (x : Side). x.watched) (i.others m ne)) ∙ q ∙ ap (λ (x : Side). x.watched) (i.others (partner m) (λ z. ne (sym (clause_of_partner m) ∙ z))))) (cases_eq (clause_of m) place);
    thirds = λ m less h. ⊎_elim
        (λ (e : clause_of m ≡ place). thirds_here m e)
        (λ (ne : clause_of m ≢ place). subst (λ (x : Side). IsThird (literals_at a (clause_of m)) x (side_at h2 (partner m))) (sym (i.others m ne))
        (subst (λ (x : Side). IsThird (literals_at a (clause_of m)) (side_at held m) x) (sym (i.others (partner m) (λ z. ne (sym (clause_of_partner m) ∙ z)))) (p.thirds m (omega (arith, less, ne)) (was (clause_of m) ne h)))) (cases_eq (clause_of m) place);
  }

-- ---- all of them
pub nothing_looked_at : (looked : List ℕ) → 1 ≤ length looked → set (take 1 looked) 0 0 ≡ 0 ∷ []
nothing_looked_at [] some = absurd (omega (arith, some))
nothing_looked_at (x ∷ looked) some = refl

none_below : (k i : ℕ) → i < looked_at (0 ∷ []) k → ⊥
none_below k i less = ⊎_elim
    (λ (e : k ≡ 0). let z : looked_at (0 ∷ []) k ≡ 0 = ap (looked_at (0 ∷ [])) e in omega (arith, less, z))
    (λ (ne : k ≢ 0). let z : looked_at (0 ∷ []) k ≡ 0 = Rattle.std.proofs.lemmas.List.get_or_past (0 ∷ []) k 0 (omega (arith, ne)) in omega (arith, less, z)) (cases_eq k 0)

pub chosen_fits : (variables : ℕ) (a : ArenaState) (held : List Side) (attached : List Bool) → length held ≡ 2 * length attached → AreWatchable variables a → AreChosenBelow a (length attached) held attached
    → (t : TrailState) → t.variables ≡ variables → Fits (record { variables = variables; looked = 0 ∷ []; held = held; attached = attached }) a t
chosen_fits variables a held attached pairs able p t e =
    let live : (r : ℕ) → IsAttached attached r → IsLive a r = λ r h. p.only r (clause_in r attached h) h in
    record {
      variables = sym e;
      nodes = record {
        pairs = pairs;
        live = live;
        within = λ r h. (able r (live r h)).within;
        inside = λ n h. p.inside n (clause_in (clause_of n) attached h) h;
        apart = λ n h. p.apart n (clause_in (clause_of n) attached h) h;
        thirds = λ n h. p.thirds n (clause_in (clause_of n) attached h) h;
      };
      guarded = λ n k i h hk hi q. absurd (none_below k i hi);
      behind = record {
        some = omega arith;
        reach = omega arith;
        few = λ k h. ⊎_elim (λ (z : looked_at (0 ∷ []) k ≡ 0). omega (arith, z)) (λ (ne : looked_at (0 ∷ []) k ≢ 0). absurd (none_below k 0 (omega (arith, ne)))) (cases_eq (looked_at (0 ∷ []) k) 0);
        low = λ k i h less. absurd (none_below k i less);
      };
    }
