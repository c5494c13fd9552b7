-- What is under each id once ids were moved.
use Rattle.std.proofs.Common.{◌≡◌, ◌≢◌, refl, sym, ap, ◌∙◌, subst, ℕ, Bool, true, false, cond, not, ◌||◌, eqb, eqb-true, eq-eqb, List, [], ◌∷◌, ◌++◌, map, fold, nat_eq, Option, Some, None, is_some, ◌⊎◌, inl, inr, true≢false}
use Rattle.std.specs.List.{list_any}
use Rattle.std.specs.Ordering.{nat_cmp, eq_by_cmp}
use Rattle.std.specs.Cmp.{nat_cmp_total, unsigned_tied}
use Rattle.std.specs.FinMap as map_
use Rattle.std.proofs.lemmas.Bool.{or_parts}
use Rattle.cx_base.specs.declared.id_moves.IdMove.{IdMove}
use Rattle.cx_base.specs.Literals.{Literal}
use Rattle.cx_semantics.specs.Judging.{AllHold}
use Rattle.cx_semantics.specs.LogRules.{moving}
use Rattle.cx_semantics.specs.Moves.{old_ids, new_ids, names_twice, moved_id, without_ids, put_if, put_moved, moved}
use Rattle.cx_semantics.specs.Tables.{Table, get, is_live}

pub same_nat : (n m : ℕ) → nat_eq n m ≡ true → n ≡ m
same_nat n m h = eqb-true n m h

pub itself : (n : ℕ) → nat_eq n n ≡ true
itself n = eq-eqb n n refl

-- the old id whose content comes under this one; none where no move puts anything there
abbrev pub source : List IdMove → ℕ → Option ℕ
source [] k = None
source (m ∷ moves) k = elim (source moves k) [ Some j ↦ Some j | None ↦ cond (nat_eq k m.to) (Some m.from) None ]

module _ {V : Type 0} where
  -- under some old id there is something
  abbrev pub AreThere : map_.FinMap nat_cmp V → List IdMove → Type 0
  AreThere contents [] = Unit {0}
  AreThere contents (m ∷ moves) = (is_some (map_.get contents m.from) ≡ true) × AreThere contents moves

  abbrev pub from_source : map_.FinMap nat_cmp V → Option V → Option ℕ → Option V
  from_source first other (Some j) = map_.get first j
  from_source first other None = other

  get-put_if : (contents : map_.FinMap nat_cmp V) (n : ℕ) (o : Option V) (k : ℕ) → is_some o ≡ true → map_.get (put_if contents n o) k ≡ cond (nat_eq k n) o (map_.get contents k)
  get-put_if contents n None k h = absurd (true≢false (sym h))
  get-put_if contents n (Some v) k h = map_.get-insert nat_cmp_total contents n v k ∙ ap (λ b. cond b (Some v) (map_.get contents k)) (unsigned_tied k n)

  pub get-put_moved : (first : map_.FinMap nat_cmp V) (moves : List IdMove) (contents : map_.FinMap nat_cmp V) (k : ℕ) → AreThere first moves
      → map_.get (put_moved first contents moves) k ≡ from_source first (map_.get contents k) (source moves k)
  get-put_moved first [] contents k h = refl
  get-put_moved first (m ∷ moves) contents k h =
      get-put_moved first moves (put_if contents m.to (map_.get first m.from)) k h.1
      ∙ ap (λ o. from_source first o (source moves k)) (get-put_if contents m.to (map_.get first m.from) k h.0)
      ∙ at (source moves k) (nat_eq k m.to)
    where
      at : (s : Option ℕ) (b : Bool) → from_source first (cond b (map_.get first m.from) (map_.get contents k)) s ≡ from_source first (map_.get contents k) (elim s [ Some j ↦ Some j | None ↦ cond b (Some m.from) None ])
      at (Some j) b = refl
      at None true = refl
      at None false = refl

  pub get-without : (ids : List ℕ) (contents : map_.FinMap nat_cmp V) (k : ℕ) → map_.get (without_ids contents ids) k ≡ cond (list_any (nat_eq k) ids) None (map_.get contents k)
  get-without [] contents k = refl
  get-without (n ∷ ids) contents k =
      get-without ids (map_.remove contents n) k
      ∙ ap (λ o. cond (list_any (nat_eq k) ids) None o) (map_.get-remove nat_cmp_total contents n k ∙ ap (λ b. cond b None (map_.get contents k)) (unsigned_tied k n))
      ∙ at (nat_eq k n) (list_any (nat_eq k) ids)
    where
      at : (a b : Bool) → cond b None (cond a None (map_.get contents k)) ≡ cond (a || b) None (map_.get contents k)
      at true true = refl
      at true false = refl
      at false b = refl

  -- under each id is what was under its source, or what was there, if that was not taken out
  pub get-moved : (contents : map_.FinMap nat_cmp V) (moves : List IdMove) (k : ℕ) → AreThere contents moves
      → map_.get (moved contents moves) k ≡ from_source contents (cond (list_any (nat_eq k) (old_ids moves)) None (map_.get contents k)) (source moves k)
  get-moved contents moves k h = get-put_moved contents moves (without_ids contents (old_ids moves)) k h ∙ ap (λ o. from_source contents o (source moves k)) (get-without (old_ids moves) contents k)

-- ---- sources

pub source_is_old : (moves : List IdMove) (k j : ℕ) → source moves k ≡ Some j → list_any (nat_eq j) (old_ids moves) ≡ true
source_is_old [] k j e = cc
source_is_old (m ∷ moves) k j e = at (source moves k) refl (nat_eq k m.to) e (source_is_old moves k)
  where
    or_true : (b : Bool) → (b || true) ≡ true
    or_true true = refl
    or_true false = refl

    at : (s : Option ℕ) → source moves k ≡ s → (b : Bool) → elim s [ Some i ↦ Some i | None ↦ cond b (Some m.from) None ] ≡ Some j
        → ((i : ℕ) → source moves k ≡ Some i → list_any (nat_eq i) (old_ids moves) ≡ true) → (nat_eq j m.from || list_any (nat_eq j) (old_ids moves)) ≡ true
    at (Some i) is b e rest =
        let same : i ≡ j = cc (e) in
        ap (λ x. nat_eq j m.from || x) (rest j (is ∙ ap Some same)) ∙ or_true (nat_eq j m.from)
    at None is true e rest =
        let same : m.from ≡ j = cc (e) in
        ap (λ x. x || list_any (nat_eq j) (old_ids moves)) (subst (λ x. nat_eq j x ≡ true) (sym same) (itself j))
    at None is false e rest = cc

-- each old id comes under one new id
pub one_target : (moves : List IdMove) (n k j : ℕ) → names_twice (old_ids moves) ≡ false → source moves n ≡ Some j → source moves k ≡ Some j → n ≡ k
one_target [] n k j once a b = cc
one_target (m ∷ moves) n k j once a b =
    let parts = or_parts (list_any (nat_eq m.from) (old_ids moves)) (names_twice (old_ids moves)) once in
    at (source moves n) refl (nat_eq n m.to) refl a (source moves k) refl (nat_eq k m.to) refl b parts.0 (one_target moves n k j parts.1)
  where
    named_twice : (i : ℕ) → source moves i ≡ Some j → m.from ≡ j → list_any (nat_eq m.from) (old_ids moves) ≡ false → ⊥
    named_twice i s same none = true≢false (sym (subst (λ x. list_any (nat_eq x) (old_ids moves) ≡ true) (sym same) (source_is_old moves i j s)) ∙ none)

    at : (s : Option ℕ) → source moves n ≡ s → (c : Bool) → nat_eq n m.to ≡ c → elim s [ Some i ↦ Some i | None ↦ cond c (Some m.from) None ] ≡ Some j
        → (t : Option ℕ) → source moves k ≡ t → (d : Bool) → nat_eq k m.to ≡ d → elim t [ Some i ↦ Some i | None ↦ cond d (Some m.from) None ] ≡ Some j
        → list_any (nat_eq m.from) (old_ids moves) ≡ false → (source moves n ≡ Some j → source moves k ≡ Some j → n ≡ k) → n ≡ k
    at (Some i) is c ic e (Some h) ish d id f none rest =
        let x : i ≡ j = cc (e) in
        let y : h ≡ j = cc (f) in
        rest (is ∙ ap Some x) (ish ∙ ap Some y)
    at (Some i) is c ic e None ish true id f none rest =
        let x : i ≡ j = cc (e) in
        let y : m.from ≡ j = cc (f) in
        absurd (named_twice n (is ∙ ap Some x) y none)
    at (Some i) is c ic e None ish false id f none rest = cc
    at None is true ic e (Some h) ish d id f none rest =
        let x : m.from ≡ j = cc (e) in
        let y : h ≡ j = cc (f) in
        absurd (named_twice k (ish ∙ ap Some y) x none)
    at None is false ic e (Some h) ish d id f none rest = cc
    at None is true ic e None ish true id f none rest = same_nat n m.to ic ∙ sym (same_nat k m.to id)
    at None is true ic e None ish false id f none rest = cc
    at None is false ic e None ish d id f none rest = cc

-- ---- at once

or_true : (b : Bool) → (b || true) ≡ true
or_true true = refl
or_true false = refl

no_true : (n k : ℕ) → nat_eq n k ≡ true → n ≡ k
no_true n k h = eqb-true n k h

-- an id that no move is of keeps its own
pub moved_id-other : (moves : List IdMove) (k : ℕ) → list_any (nat_eq k) (old_ids moves) ≡ false → moved_id moves k ≡ k
moved_id-other [] k h = refl
moved_id-other (m ∷ moves) k h =
    let p = or_parts (nat_eq k m.from) (list_any (nat_eq k) (old_ids moves)) h in
    ap (λ b. elim b [ true ↦ m.to | false ↦ moved_id moves k ]) p.0 ∙ moved_id-other moves k p.1

-- an id that no move puts anything under has no source
pub no_source : (moves : List IdMove) (k : ℕ) → list_any (nat_eq k) (new_ids moves) ≡ false → source moves k ≡ None
no_source [] k h = refl
no_source (m ∷ moves) k h =
    let p = or_parts (nat_eq k m.to) (list_any (nat_eq k) (new_ids moves)) h in
    (λ i. elim (no_source moves k p.1 i) [ Some j ↦ Some j | None ↦ cond (p.0 i) (Some m.from) None ])

-- an old id is the source of its new one
pub source-moved_id : (moves : List IdMove) (k : ℕ) → names_twice (new_ids moves) ≡ false → list_any (nat_eq k) (old_ids moves) ≡ true → source moves (moved_id moves k) ≡ Some k
source-moved_id [] k once old = absurd (true≢false (sym old))
source-moved_id (m ∷ moves) k once old =
    let p = or_parts (list_any (nat_eq m.to) (new_ids moves)) (names_twice (new_ids moves)) once in
    at (nat_eq k m.from) refl (no_source moves m.to p.0) (source-moved_id moves k p.1) old
  where
    at : (b : Bool) → nat_eq k m.from ≡ b → source moves m.to ≡ None → (list_any (nat_eq k) (old_ids moves) ≡ true → source moves (moved_id moves k) ≡ Some k) → (nat_eq k m.from || list_any (nat_eq k) (old_ids moves)) ≡ true
        → source (m ∷ moves) (elim (nat_eq k m.from) [ true ↦ m.to | false ↦ moved_id moves k ]) ≡ Some k
    at true is none rest h =
        ap (λ b. source (m ∷ moves) (elim b [ true ↦ m.to | false ↦ moved_id moves k ])) is
        ∙ (λ i. elim (none i) [ Some j ↦ Some j | None ↦ cond (itself m.to i) (Some m.from) None ])
        ∙ ap Some (sym (no_true k m.from is))
    at false is none rest h =
        ap (λ b. source (m ∷ moves) (elim b [ true ↦ m.to | false ↦ moved_id moves k ])) is
        ∙ ap (λ s. elim s [ Some j ↦ Some j | None ↦ cond (nat_eq (moved_id moves k) m.to) (Some m.from) None ]) (rest (sym (ap (λ b. b || list_any (nat_eq k) (old_ids moves)) is) ∙ h))

pub there_by : (table : Table) (moves : List IdMove) → list_any (λ n. not (is_live table n)) (old_ids moves) ≡ false → AreThere table moves
there_by table [] h = tt
there_by table (m ∷ moves) h = let p = or_parts (not (is_live table m.from)) _ h in (is_so (is_live table m.from) p.0, there_by table moves p.1)
  where
    is_so : (b : Bool) → not b ≡ false → b ≡ true
    is_so true h = refl
    is_so false h = absurd (true≢false h)

-- an id that is among some, and live in a table, keeps that no one of them is live from being so
none_live : (p : ℕ → Bool) (ns : List ℕ) (k : ℕ) → list_any p ns ≡ false → p k ≡ true → list_any (nat_eq k) ns ≡ false
none_live p [] k h live = refl
none_live p (n ∷ ns) k h live = at (nat_eq k n) refl (or_parts (p n) (list_any p ns) h) (none_live p ns k)
  where
    at : (b : Bool) → nat_eq k n ≡ b → (p n ≡ false) × (list_any p ns ≡ false) → (list_any p ns ≡ false → p k ≡ true → list_any (nat_eq k) ns ≡ false) → (nat_eq k n || list_any (nat_eq k) ns) ≡ false
    at true is q rest = absurd (true≢false (sym live ∙ ap p (no_true k n is) ∙ q.0))
    at false is q rest = ap (λ b. b || list_any (nat_eq k) ns) is ∙ rest q.1 live

-- each content comes under the new id of its id
pub moves_are_at_once : (table : Table) (moves : List IdMove) → AllHold (moving table moves) → (k : ℕ) (lits : List Literal) → get table k ≡ Some lits → get (moved table moves) (moved_id moves k) ≡ Some lits
moves_are_at_once table moves right k lits h = at (list_any (nat_eq k) (old_ids moves)) refl
  where
    olds : (list_any (λ n. not (is_live table n)) (old_ids moves) ≡ false) × (names_twice (old_ids moves) ≡ false)
    olds = or_parts (list_any (λ n. not (is_live table n)) (old_ids moves)) (names_twice (old_ids moves)) right.0

    news : (list_any (is_live (without_ids table (old_ids moves))) (new_ids moves) ≡ false) × (names_twice (new_ids moves) ≡ false)
    news = or_parts (list_any (is_live (without_ids table (old_ids moves))) (new_ids moves)) (names_twice (new_ids moves)) right.1.0

    at : (b : Bool) → list_any (nat_eq k) (old_ids moves) ≡ b → get (moved table moves) (moved_id moves k) ≡ Some lits
    at true is =
        get-moved table moves (moved_id moves k) (there_by table moves olds.0)
        ∙ ap (from_source table _) (source-moved_id moves k news.1 is) ∙ h
    at false is =
        let left : get (without_ids table (old_ids moves)) k ≡ Some lits = get-without (old_ids moves) table k ∙ ap (λ b. cond b None (get table k)) is ∙ h in
        let none = no_source moves k (none_live (is_live (without_ids table (old_ids moves))) (new_ids moves) k news.0 (ap is_some left)) in
        ap (get (moved table moves)) (moved_id-other moves k is)
        ∙ get-moved table moves k (there_by table moves olds.0)
        ∙ (λ i. from_source table (cond (is i) None (get table k)) (none i)) ∙ h
