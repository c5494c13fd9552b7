-- Counting the levels of a clause whose literals have values.
use Rattle.std.proofs.Common.{◌≡◌, refl, sym, ap, ◌∙◌, subst, ℕ, zero, suc, ◌+◌, ◌<◌, ◌≤◌, Bool, true, false, nat_eq, eqb-true, List, [], ◌∷◌, ◌++◌, length, take, drop, get_or, set, inl, inr, arith, true≢false, length-append, if◌then◌else◌}
use Rattle.std.specs.List.{All}
use Rattle.std.proofs.lemmas.Bool.{eqb-false, eq-eqb}
use Rattle.std.proofs.lemmas.List.{take_more, drop_more, length-map, get_or-map, length-set}
use Rattle.cx_base.specs.Literals.{Literal}
use Rattle.cx_trail.specs.declared.entry.Entry.{Entry}
use Rattle.cx_trail.specs.Sequence.{TrailState, IsTrail, HasEntry, IsAssignedIn, entry_at}
use Rattle.conflict_learn.specs.Learning.{has_place}
use Rattle.conflict_learn.specs.Levels.{distinct, level_in, levels_in}
use Rattle.conflict_learn.specs.Marks.{is_marked}
use Rattle.conflict_learn.proofs.ChainOfResolutions.{by_cases}
use Rattle.conflict_learn.proofs.AnalyseLaws.{place_last, place_split}
use Rattle.conflict_learn.proofs.LevelLaws.{same_but, distinct_push_new, distinct_push_old}
use Rattle.conflict_learn.proofs.MarkLaws.{set_mark, other_mark}

-- the level is that of an entry of the variable, where there is one
found_in : (es : List Entry) (v i : ℕ) → i < length es → (entry_at es i).literal.variable ≡ v → (e : Entry) × HasEntry es v e × (level_in es v ≡ e.level)
found_in [] v i h is = absurd (omega (arith, h))
found_in (e ∷ es) v zero h is = (e, (zero, omega arith, refl, is), ap (λ b. if b then e.level else level_in es v) (eq-eqb e.literal.variable v is))
found_in (e ∷ es) v (suc i) h is = by_cases (nat_eq e.literal.variable v)
    (λ same. (e, (zero, omega arith, refl, eqb-true e.literal.variable v same), ap (λ b. if b then e.level else level_in es v) same))
    (λ other. let r = found_in es v i (omega (arith, h)) is in (r.0, (suc r.1.0, (let less = r.1.1 in omega (arith, less)), r.1.2, r.1.3), ap (λ b. if b then e.level else level_in es v) other ∙ r.2))

pub level_found : (es : List Entry) (v level : ℕ) → IsAssignedIn es v → ((e : Entry) → HasEntry es v e → level ≡ e.level) → level ≡ level_in es v
level_found es v level a is = let r = found_in es v a.0 a.1 a.2 in is r.0 r.1 ∙ sym r.2

pub level_within : (t : TrailState) → IsTrail t → (v level : ℕ) → IsAssignedIn t.entries v → ((e : Entry) → HasEntry t.entries v e → level ≡ e.level) → level ≤ t.variables
level_within t sound v level a is =
    let same = is (entry_at t.entries a.0) (a.0, a.1, refl, a.2) in
    let low = sound.levels a.0 a.1 in
    let deep = sound.deep in
    let short = sound.short in
    omega (arith, same, low, deep, short)

-- ---- the levels of some first literals are marked, and counted
pub record AreMet (done : List ℕ) (old new : List Bool) (count : ℕ) : Type 0 where
  pub size : length new ≡ length old
  pub marked : (k : ℕ) → is_marked new k ≡ has_place done k
  pub count_is : count ≡ length (distinct done)
  pub few : count ≤ length done

pub none_met : (marks : List Bool) → ((k : ℕ) → is_marked marks k ≡ false) → AreMet [] marks marks 0
none_met marks clear = record { size = refl; marked = clear; count_is = refl; few = omega arith }

pub one_met : (done : List ℕ) (old new : List Bool) (count x : ℕ) → AreMet done old new count → x < length old → (was : Bool) → was ≡ is_marked new x → AreMet (done ++ x ∷ []) old (set new x true) (if was then count else count + 1)
one_met done old new count x m inside was is = record {
  size = length-set new x true ∙ m.size;
  marked = λ k. by_cases (nat_eq k x)
      (λ e. let same = eqb-true k x e in ap (is_marked (set new x true)) same ∙ set_mark new x true (let s = m.size in omega (arith, s, inside)) ∙ sym (ap (has_place (done ++ x ∷ [])) same ∙ place_last done x))
      (λ e. let apart = eqb-false k x e in other_mark new x k true apart ∙ m.marked k ∙ sym (same_but done x k apart));
  count_is = counted was (is ∙ m.marked x);
  few = fewer was;
}
  where
    counted : (b : Bool) → b ≡ has_place done x → (if b then count else count + 1) ≡ length (distinct (done ++ x ∷ []))
    counted true e = m.count_is ∙ sym (distinct_push_old done x (sym e))
    counted false e = ap (λ n. n + 1) m.count_is ∙ sym (distinct_push_new done x (sym e))

    fewer : (b : Bool) → (if b then count else count + 1) ≤ length (done ++ x ∷ [])
    fewer true = let a = m.few in let n = length-append done (x ∷ []) in omega (arith, a, n)
    fewer false = let a = m.few in let n = length-append done (x ∷ []) in omega (arith, a, n)

-- ---- marks are taken away
-- only levels of the literals that are left are marked
abbrev pub AreLeft : List ℕ → List Bool → Type 0
AreLeft left marks = (k : ℕ) → is_marked marks k ≡ true → has_place left k ≡ true

-- ---- the next level
pub next_level : (t : TrailState) (lits : List Literal) (i : ℕ) (x : Literal) → i < length lits → x ≡ get_or lits i x → take (i + 1) (levels_in t lits) ≡ take i (levels_in t lits) ++ level_in t.entries x.variable ∷ []
next_level t lits i x h is =
    let f = λ (l : Literal). level_in t.entries l.variable in
    let long = length-map lits f in
    take_more (levels_in t lits) i 0 (omega (arith, h, long)) ∙ ap (λ y. take i (levels_in t lits) ++ y ∷ []) (get_or-map f lits i x 0 h ∙ ap f (sym is))

pub one_left : (t : TrailState) (lits : List Literal) (i : ℕ) (x : Literal) (marks : List Bool) → i < length lits → x ≡ get_or lits i x → level_in t.entries x.variable < length marks
    → AreLeft (drop i (levels_in t lits)) marks → AreLeft (drop (i + 1) (levels_in t lits)) (set marks (level_in t.entries x.variable) false)
one_left t lits i x marks h is inside left k m = by_cases (nat_eq k level)
    (λ e. absurd (true≢false (sym m ∙ ap (is_marked (set marks level false)) (eqb-true k level e) ∙ set_mark marks level false inside)))
    (λ e.
    let apart = eqb-false k level e in
    let there : has_place (level ∷ drop (i + 1) (levels_in t lits)) k ≡ true = ap (λ ks. has_place ks k) (sym next) ∙ left k (sym (other_mark marks level k false apart) ∙ m) in
    elim (place_split level (drop (i + 1) (levels_in t lits)) k there) [ inl same ↦ absurd (apart same) | inr g ↦ g ])
  where
    level : ℕ
    level = level_in t.entries x.variable

    next : drop i (levels_in t lits) ≡ level ∷ drop (i + 1) (levels_in t lits)
    next =
        let long = length-map lits (λ (l : Literal). level_in t.entries l.variable) in
        drop_more (levels_in t lits) i 0 (omega (arith, h, long)) ∙ ap (λ y. y ∷ drop (i + 1) (levels_in t lits)) (get_or-map (λ (l : Literal). level_in t.entries l.variable) lits i x 0 h ∙ ap (λ (l : Literal). level_in t.entries l.variable) (sym is))

-- ---- the literal at hand has a value
pub item_assigned : (es : List Entry) (lits : List Literal) (i : ℕ) (x : Literal) (v : ℕ) → All (λ l. IsAssignedIn es l.variable) lits → i < length lits → x ≡ get_or lits i x → v ≡ x.variable → IsAssignedIn es v
item_assigned es lits i x v all h is same = subst (λ n. IsAssignedIn es n) (sym same) (subst (λ (l : Literal). IsAssignedIn es l.variable) (sym is) (all i x h))
