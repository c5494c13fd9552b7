-- What ties the tables of a log to those of its proof, step by step.
use Rattle.std.proofs.Common.{◌≡◌, ◌≢◌, refl, sym, ap, ◌∙◌, subst, ℕ, zero, suc, ◌+◌, ◌<◌, ◌≤◌, Bool, true, false, cond, nat_eq, eqb-true, List, [], ◌∷◌, ◌++◌, length, Option, Some, None, is_some, arith, true≢false, ◌⊎◌, inl, inr}
use Rattle.std.proofs.lemmas.Bool.{ne_eqb}
use Rattle.std.specs.Ordering.{nat_cmp}
use Rattle.std.specs.Cmp.{nat_cmp_total, unsigned_tied}
use Rattle.std.specs.FinMap as map_
use Rattle.std.proofs.lemmas.Option.{same_Some, none-some}
use Rattle.cx_base.specs.Literals.{Literal}
use Rattle.cx_semantics.specs.Tables.{Table, get, is_live, numbered_from}
use Rattle.cx_semantics.proofs.Lookups.{lookup, Looks-numbered_from}
use Rattle.fratx_elab.specs.Names.{Naming, stands_for, first_naming, name_original, name_next, drop_name}
use Rattle.fratx_elab.specs.Ties.{Tied}

-- ---- maps by what they answer

get_put : {X : Type 0} (m : map_.FinMap nat_cmp X) (k : ℕ) (v : X) (q : ℕ) → map_.get (map_.insert m k v) q ≡ cond (nat_eq q k) (Some v) (map_.get m q)
get_put m k v q = map_.get-insert nat_cmp_total m k v q ∙ ap (λ b. cond b (Some v) (map_.get m q)) (unsigned_tied q k)

get_drop : {X : Type 0} (m : map_.FinMap nat_cmp X) (k : ℕ) (q : ℕ) → map_.get (map_.remove m k) q ≡ cond (nat_eq q k) None (map_.get m q)
get_drop m k q = map_.get-remove nat_cmp_total m k q ∙ ap (λ b. cond b None (map_.get m q)) (unsigned_tied q k)

-- what is at q after a put or a drop at k
pub data At {X : Type 0} (q k : ℕ) (here : Option X) (old new : Option X) : Type 0 where
  at_it : q ≡ k → new ≡ here → At q k here old new
  elsewhere : (q ≡ k → ⊥) → new ≡ old → At q k here old new

at_by : {X : Type 0} (q k : ℕ) (here old new : Option X) → new ≡ cond (nat_eq q k) here old → At q k here old new
at_by q k here old new e = elim (nat_eq q k) as (λ b. nat_eq q k ≡ b → new ≡ cond b here old → At q k here old new) [
  | true ↦ λ f g. at_it (eqb-true q k f) g
  | false ↦ λ f g. elsewhere (λ h. true≢false (sym (Rattle.std.proofs.Common.eq-eqb q k h) ∙ f)) g
] refl e

pub at_put : {X : Type 0} (m : map_.FinMap nat_cmp X) (k : ℕ) (v : X) (q : ℕ) → At q k (Some v) (map_.get m q) (map_.get (map_.insert m k v) q)
at_put m k v q = at_by q k (Some v) (map_.get m q) _ (get_put m k v q)

pub at_drop : {X : Type 0} (m : map_.FinMap nat_cmp X) (k : ℕ) (q : ℕ) → At q k None (map_.get m q) (map_.get (map_.remove m k) q)
at_drop m k q = at_by q k None (map_.get m q) _ (get_drop m k q)

-- ---- numbered lists

above_none : (n : ℕ) (lists : List (List Literal)) (k : ℕ) → n + length lists ≤ k → lookup n lists k ≡ None
above_none n [] k h = refl
above_none n (x ∷ lists) k h = let d : k ≢ n = omega arith in ap (λ b. cond b (Some x) (lookup (suc n) lists k)) (ne_eqb k n d) ∙ above_none (suc n) lists k (omega arith)

pub lookup_at : (n : ℕ) (before : List (List Literal)) (it : List Literal) (later : List (List Literal)) → lookup n (before ++ it ∷ later) (n + length before) ≡ Some it
lookup_at n [] it later = let e : n + 0 ≡ n = omega arith in ap (λ b. cond b (Some it) (lookup (suc n) later (n + 0))) (Rattle.std.proofs.Common.eq-eqb (n + 0) n e)
lookup_at n (x ∷ before) it later =
    let d : n + suc (length before) ≢ n = omega arith in
    let e : n + suc (length before) ≡ suc n + length before = omega arith in
    ap (λ b. cond b (Some x) (lookup (suc n) (before ++ it ∷ later) (n + suc (length before)))) (ne_eqb _ n d)
    ∙ ap (lookup (suc n) (before ++ it ∷ later)) e ∙ lookup_at (suc n) before it later

live_below : (lists : List (List Literal)) (p : ℕ) → is_live (numbered_from 1 lists) p ≡ true → p ≤ length lists
live_below lists p h = elim (Rattle.std.proofs.Common.nat_lt (length lists) p) as (λ b. Rattle.std.proofs.Common.nat_lt (length lists) p ≡ b → p ≤ length lists) [
  | true ↦ λ e.
      let above : 1 + length lists ≤ p = let l = Rattle.std.proofs.Common.ltb-true (length lists) p e in omega arith in
      absurd (true≢false (sym h ∙ ap is_some (Looks-numbered_from 1 lists p ∙ above_none 1 lists p above)))
  | false ↦ λ e. Rattle.std.proofs.Common.ltb-false (length lists) p e
] refl

-- ---- the tie

module _ (Alike : List Literal → List Literal → Type 0) (lists : List (List Literal)) where
  abbrev Tie : Table → Table → Naming → Type 0
  Tie log proof naming = Tied Alike (numbered_from 1 lists) (length lists) log proof naming

  pub tied_first : (log : Table) → log ≡ map_.empty → Tie log (numbered_from 1 lists) (first_naming (length lists))
  tied_first log e =
      let nothing = λ (n : ℕ). ap (λ (t : Table). get t n) e ∙ map_.get-empty nat_cmp n in
      let no_name : (n : ℕ) → stands_for (first_naming (length lists)) n ≡ None = λ n. map_.get-empty nat_cmp n in
      record {
        keyed = λ n. ap is_some (nothing n) ∙ sym (ap is_some (no_name n));
        alike = λ n p lits h k. absurd (none-some p (sym (no_name n) ∙ k));
        bounded = live_below lists;
        originals = λ k h. refl;
        apart = λ n m p h k l. absurd (none-some p (sym (no_name n) ∙ h));
        covers = Rattle.std.proofs.Common.le_refl (length lists);
      }

  module _ (log proof : Table) (naming : Naming) (tie : Tie log proof naming) where
    -- an id that stands for one of the log is live
    pub named_is_live : (n p : ℕ) → stands_for naming n ≡ Some p → (lits : List Literal) × (other : List Literal) × (get log n ≡ Some lits) × (get proof p ≡ Some other) × Alike lits other
    named_is_live n p h =
        let live : is_some (get log n) ≡ true = tie.keyed n ∙ ap is_some h in
        elim (get log n) as (λ o. get log n ≡ o → is_some o ≡ true → (lits : List Literal) × (other : List Literal) × (get log n ≡ Some lits) × (get proof p ≡ Some other) × Alike lits other) [
          | Some lits ↦ λ e _. let a = tie.alike n p lits e h in (lits, a.0, e, a.1, a.2)
          | None ↦ λ e f. absurd (true≢false (sym f))
        ] refl live

    pub named_below : (n p : ℕ) → stands_for naming n ≡ Some p → p ≤ naming.last
    named_below n p h = let a = named_is_live n p h in tie.bounded p (ap is_some a.3)

    pub next_is_free : is_live proof (naming.last + 1) ≡ false
    next_is_free = elim (is_live proof (naming.last + 1)) as (λ b. is_live proof (naming.last + 1) ≡ b → b ≡ false) [
      | true ↦ λ e. absurd (let h : naming.last + 1 ≤ naming.last = tie.bounded _ e in omega arith)
      | false ↦ λ e. refl
    ] refl

    pub tied_original : (n k : ℕ) (lits other : List Literal) → k ≤ length lists → get (numbered_from 1 lists) k ≡ Some other → Alike lits other → Tie (map_.insert log n lits) proof (name_original naming n k)
    tied_original n k lits other within is alike = record {
      keyed = λ q. keyed q (at_put log n lits q) (at_put naming.ids n k q);
      alike = λ q p found h g. alike_at q p found h g (at_put log n lits q) (at_put naming.ids n k q);
      bounded = tie.bounded;
      originals = tie.originals;
      apart = λ q m p h g above. apart q m p h g above (at_put naming.ids n k q) (at_put naming.ids n k m);
      covers = tie.covers;
    }
      where
        keyed : (q : ℕ) → At q n (Some lits) (get log q) (get (map_.insert log n lits) q) → At q n (Some k) (stands_for naming q) (stands_for (name_original naming n k) q)
            → is_live (map_.insert log n lits) q ≡ is_some (stands_for (name_original naming n k) q)
        keyed q (at_it e f) (at_it g h) = ap is_some f ∙ sym (ap is_some h)
        keyed q (at_it e f) (elsewhere g h) = absurd (g e)
        keyed q (elsewhere e f) (at_it g h) = absurd (e g)
        keyed q (elsewhere e f) (elsewhere g h) = ap is_some f ∙ tie.keyed q ∙ sym (ap is_some h)

        alike_at : (q p : ℕ) (found : List Literal) → get (map_.insert log n lits) q ≡ Some found → stands_for (name_original naming n k) q ≡ Some p
            → At q n (Some lits) (get log q) (get (map_.insert log n lits) q) → At q n (Some k) (stands_for naming q) (stands_for (name_original naming n k) q)
            → (o : List Literal) × (get proof p ≡ Some o) × Alike found o
        alike_at q p found a b (at_it e f) (at_it g h) =
            let at : k ≡ p = same_Some k p (sym h ∙ b) in
            let what : lits ≡ found = same_Some lits found (sym f ∙ a) in
            (other, ap (get proof) (sym at) ∙ tie.originals k within ∙ is, subst (λ l. Alike l other) what alike)
        alike_at q p found a b (at_it e f) (elsewhere g h) = absurd (g e)
        alike_at q p found a b (elsewhere e f) (at_it g h) = absurd (e g)
        alike_at q p found a b (elsewhere e f) (elsewhere g h) = tie.alike q p found (sym f ∙ a) (sym h ∙ b)

        apart : (q m p : ℕ) → stands_for (name_original naming n k) q ≡ Some p → stands_for (name_original naming n k) m ≡ Some p → length lists < p
            → At q n (Some k) (stands_for naming q) (stands_for (name_original naming n k) q) → At m n (Some k) (stands_for naming m) (stands_for (name_original naming n k) m) → q ≡ m
        apart q m p a b above (at_it e f) y = absurd (let at : k ≡ p = same_Some k p (sym f ∙ a) in omega arith)
        apart q m p a b above (elsewhere e f) (at_it g h) = absurd (let at : k ≡ p = same_Some k p (sym h ∙ b) in omega arith)
        apart q m p a b above (elsewhere e f) (elsewhere g h) = tie.apart q m p (sym f ∙ a) (sym h ∙ b) above

    pub tied_next : (n : ℕ) (lits other : List Literal) → Alike lits other → Tie (map_.insert log n lits) (map_.insert proof (naming.last + 1) other) (name_next naming n)
    tied_next n lits other alike = record {
      keyed = λ q. keyed q (at_put log n lits q) (at_put naming.ids n (naming.last + 1) q);
      alike = λ q p found h g. alike_at q p found h g (at_put log n lits q) (at_put naming.ids n (naming.last + 1) q) (at_put proof (naming.last + 1) other p);
      bounded = λ p h. bounded p h (at_put proof (naming.last + 1) other p);
      originals = λ k h. originals k h (at_put proof (naming.last + 1) other k);
      apart = λ q m p h g above. apart q m p h g above (at_put naming.ids n (naming.last + 1) q) (at_put naming.ids n (naming.last + 1) m);
      covers = let h = tie.covers in omega arith;
    }
      where
        keyed : (q : ℕ) → At q n (Some lits) (get log q) (get (map_.insert log n lits) q) → At q n (Some (naming.last + 1)) (stands_for naming q) (stands_for (name_next naming n) q) → is_live (map_.insert log n lits) q ≡ is_some (stands_for (name_next naming n) q)
        keyed q (at_it e f) (at_it g h) = ap is_some f ∙ sym (ap is_some h)
        keyed q (at_it e f) (elsewhere g h) = absurd (g e)
        keyed q (elsewhere e f) (at_it g h) = absurd (e g)
        keyed q (elsewhere e f) (elsewhere g h) = ap is_some f ∙ tie.keyed q ∙ sym (ap is_some h)

        alike_at : (q p : ℕ) (found : List Literal) → get (map_.insert log n lits) q ≡ Some found → stands_for (name_next naming n) q ≡ Some p
            → At q n (Some lits) (get log q) (get (map_.insert log n lits) q) → At q n (Some (naming.last + 1)) (stands_for naming q) (stands_for (name_next naming n) q)
            → At p (naming.last + 1) (Some other) (get proof p) (get (map_.insert proof (naming.last + 1) other) p)
            → (o : List Literal) × (get (map_.insert proof (naming.last + 1) other) p ≡ Some o) × Alike found o
        alike_at q p found a b (at_it e f) (at_it g h) (at_it i j) = (other, j, subst (λ l. Alike l other) (same_Some lits found (sym f ∙ a)) alike)
        alike_at q p found a b (at_it e f) (at_it g h) (elsewhere i j) = absurd (i (sym (same_Some (naming.last + 1) p (sym h ∙ b))))
        alike_at q p found a b (at_it e f) (elsewhere g h) z = absurd (g e)
        alike_at q p found a b (elsewhere e f) (at_it g h) z = absurd (e g)
        alike_at q p found a b (elsewhere e f) (elsewhere g h) (at_it i j) = absurd (let low : p ≤ naming.last = named_below q p (sym h ∙ b) in omega arith)
        alike_at q p found a b (elsewhere e f) (elsewhere g h) (elsewhere i j) = let x = tie.alike q p found (sym f ∙ a) (sym h ∙ b) in (x.0, j ∙ x.1, x.2)

        bounded : (p : ℕ) → is_live (map_.insert proof (naming.last + 1) other) p ≡ true → At p (naming.last + 1) (Some other) (get proof p) (get (map_.insert proof (naming.last + 1) other) p) → p ≤ naming.last + 1
        bounded p h (at_it i j) = omega arith
        bounded p h (elsewhere i j) = let low : p ≤ naming.last = tie.bounded p (sym (ap is_some j) ∙ h) in omega arith

        originals : (k : ℕ) → k ≤ length lists → At k (naming.last + 1) (Some other) (get proof k) (get (map_.insert proof (naming.last + 1) other) k) → get (map_.insert proof (naming.last + 1) other) k ≡ get (numbered_from 1 lists) k
        originals k h (at_it i j) = absurd (let low = tie.covers in omega arith)
        originals k h (elsewhere i j) = j ∙ tie.originals k h

        apart : (q m p : ℕ) → stands_for (name_next naming n) q ≡ Some p → stands_for (name_next naming n) m ≡ Some p → length lists < p
            → At q n (Some (naming.last + 1)) (stands_for naming q) (stands_for (name_next naming n) q) → At m n (Some (naming.last + 1)) (stands_for naming m) (stands_for (name_next naming n) m) → q ≡ m
        apart q m p a b above (at_it e f) (at_it g h) = e ∙ sym g
        apart q m p a b above (at_it e f) (elsewhere g h) = absurd (let at : naming.last + 1 ≡ p = same_Some _ p (sym f ∙ a) in let low : p ≤ naming.last = named_below m p (sym h ∙ b) in omega arith)
        apart q m p a b above (elsewhere e f) (at_it g h) = absurd (let at : naming.last + 1 ≡ p = same_Some _ p (sym h ∙ b) in let low : p ≤ naming.last = named_below q p (sym f ∙ a) in omega arith)
        apart q m p a b above (elsewhere e f) (elsewhere g h) = tie.apart q m p (sym f ∙ a) (sym h ∙ b) above

    -- an id of the log goes, and what is left of the proof still has what stands for the others
    module _ (n : ℕ) (new : Table)
        (stays : (q p : ℕ) → (q ≡ n → ⊥) → stands_for naming q ≡ Some p → get new p ≡ get proof p)
        (below : (p : ℕ) → is_live new p ≡ true → is_live proof p ≡ true)
        (first : (k : ℕ) → k ≤ length lists → get new k ≡ get proof k) where
      tied_dropped : Tie (map_.remove log n) new (drop_name naming n)
      tied_dropped = record {
        keyed = λ q. keyed q (at_drop log n q) (at_drop naming.ids n q);
        alike = λ q p found h g. alike_at q p found h g (at_drop log n q) (at_drop naming.ids n q);
        bounded = λ p h. tie.bounded p (below p h);
        originals = λ k h. first k h ∙ tie.originals k h;
        apart = λ q m p h g above. apart q m p h g above (at_drop naming.ids n q) (at_drop naming.ids n m);
        covers = tie.covers;
      }
        where
          keyed : (q : ℕ) → At q n None (get log q) (get (map_.remove log n) q) → At q n None (stands_for naming q) (stands_for (drop_name naming n) q) → is_live (map_.remove log n) q ≡ is_some (stands_for (drop_name naming n) q)
          keyed q (at_it e f) (at_it g h) = ap is_some f ∙ sym (ap is_some h)
          keyed q (at_it e f) (elsewhere g h) = absurd (g e)
          keyed q (elsewhere e f) (at_it g h) = absurd (e g)
          keyed q (elsewhere e f) (elsewhere g h) = ap is_some f ∙ tie.keyed q ∙ sym (ap is_some h)

          alike_at : (q p : ℕ) (found : List Literal) → get (map_.remove log n) q ≡ Some found → stands_for (drop_name naming n) q ≡ Some p
              → At q n None (get log q) (get (map_.remove log n) q) → At q n None (stands_for naming q) (stands_for (drop_name naming n) q)
              → (o : List Literal) × (get new p ≡ Some o) × Alike found o
          alike_at q p found a b (at_it e f) y = absurd (none-some found (sym f ∙ a))
          alike_at q p found a b (elsewhere e f) (at_it g h) = absurd (e g)
          alike_at q p found a b (elsewhere e f) (elsewhere g h) = let x = tie.alike q p found (sym f ∙ a) (sym h ∙ b) in (x.0, stays q p e (sym h ∙ b) ∙ x.1, x.2)

          apart : (q m p : ℕ) → stands_for (drop_name naming n) q ≡ Some p → stands_for (drop_name naming n) m ≡ Some p → length lists < p
              → At q n None (stands_for naming q) (stands_for (drop_name naming n) q) → At m n None (stands_for naming m) (stands_for (drop_name naming n) m) → q ≡ m
          apart q m p a b above (at_it e f) y = absurd (none-some p (sym f ∙ a))
          apart q m p a b above (elsewhere e f) (at_it g h) = absurd (none-some p (sym h ∙ b))
          apart q m p a b above (elsewhere e f) (elsewhere g h) = tie.apart q m p (sym f ∙ a) (sym h ∙ b) above

    -- nothing is deleted in the proof
    pub tied_kept : (n : ℕ) → Tie (map_.remove log n) proof (drop_name naming n)
    tied_kept n = tied_dropped n proof (λ q p h g. refl) (λ p h. h) (λ k h. refl)

    -- what was added for n is deleted
    pub tied_deleted : (n p : ℕ) → stands_for naming n ≡ Some p → length lists < p → Tie (map_.remove log n) (map_.remove proof p) (drop_name naming n)
    tied_deleted n p is above = tied_dropped n (map_.remove proof p)
        (λ q r d h. stays q r d h (at_drop proof p r))
        (λ r h. below r h (at_drop proof p r))
        (λ k h. first k h (at_drop proof p k))
      where
        stays : (q r : ℕ) → (q ≡ n → ⊥) → stands_for naming q ≡ Some r → At r p None (get proof r) (get (map_.remove proof p) r) → get (map_.remove proof p) r ≡ get proof r
        stays q r d h (at_it e f) = absurd (d (tie.apart q n p (h ∙ ap Some e) is above))
        stays q r d h (elsewhere e f) = f

        below : (r : ℕ) → is_live (map_.remove proof p) r ≡ true → At r p None (get proof r) (get (map_.remove proof p) r) → is_live proof r ≡ true
        below r h (at_it e f) = absurd (true≢false (sym h ∙ ap is_some f))
        below r h (elsewhere e f) = sym (ap is_some f) ∙ h

        first : (k : ℕ) → k ≤ length lists → At k p None (get proof k) (get (map_.remove proof p) k) → get (map_.remove proof p) k ≡ get proof k
        first k h (at_it e f) = absurd (omega arith)
        first k h (elsewhere e f) = f
