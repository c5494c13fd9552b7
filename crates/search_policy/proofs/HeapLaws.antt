-- The order of a heap, through swaps.
use Rattle.std.proofs.Common.{◌≡◌, ◌≢◌, ℕ, ◌+◌, ◌*◌, ◌-◌, ◌%◌, ◌<◌, ◌≤◌, List, length, set, sym, ap, ◌∙◌, subst, refl, inl, inr, ◌⊎◌, ⊎_elim, arith, zero, suc}
use Rattle.std.proofs.lemmas.Bool.{cases_eq}
use Rattle.std.proofs.lemmas.List.{get_or-set_same, get_or-set_other}
use Rattle.search_policy.specs.Heaps.{item_at, IsAhead, AreShuffled, parent, IsHeap, IsRising, IsSinking, IsSwapped, IsBetterChild}

-- ---- coming before
pub ahead_itself : (scores : List ℕ) (u : ℕ) → IsAhead scores u u
ahead_itself scores u = inr (refl, omega arith)

pub ahead_then : (scores : List ℕ) (u v w : ℕ) → IsAhead scores u v → IsAhead scores v w → IsAhead scores u w
ahead_then scores u v w (inl a) (inl b) = inl (omega arith)
ahead_then scores u v w (inl a) (inr b) = let e = b.0 in inl (omega (arith, e))
ahead_then scores u v w (inr a) (inl b) = let e = a.0 in inl (omega (arith, e))
ahead_then scores u v w (inr a) (inr b) = let x = a.1 in let y = b.1 in inr (a.0 ∙ b.0, omega (arith, x, y))

ahead_as : (scores : List ℕ) (u v u' v' : ℕ) → u' ≡ u → v' ≡ v → IsAhead scores u v → IsAhead scores u' v'
ahead_as scores u v u' v' e f h = subst (λ x. IsAhead scores x v') (sym e) (subst (λ y. IsAhead scores u y) (sym f) h)

-- ---- parents
pub parent_below : (i : ℕ) → 1 ≤ i → parent i < i
parent_below i h = omega arith

pub children : (i k : ℕ) → 1 ≤ i → parent i ≡ k → (i ≡ 2 * k + 1) ⊎ (i ≡ 2 * k + 1 + 1)
children i k h e = ⊎_elim (λ (z : (i - 1) % 2 ≡ 0). inl (omega arith)) (λ (z : (i - 1) % 2 ≢ 0). inr (omega arith)) (cases_eq ((i - 1) % 2) 0)

parent_of_child : (k child : ℕ) → (child ≡ 2 * k + 1) ⊎ (child ≡ 2 * k + 1 + 1) → parent child ≡ k
parent_of_child k child (inl e) = omega arith
parent_of_child k child (inr e) = omega arith

child_above : (k child : ℕ) → (child ≡ 2 * k + 1) ⊎ (child ≡ 2 * k + 1 + 1) → k < child
child_above k child (inl e) = omega arith
child_above k child (inr e) = omega arith

-- the first cell comes before all
top_within : (scores cells : List ℕ) (count bound i : ℕ) → IsHeap scores cells count → i < bound → i < count → IsAhead scores (item_at cells 0) (item_at cells i)
top_within scores cells count zero i h b lt = absurd (omega arith)
top_within scores cells count (suc bound) i h b lt = ⊎_elim
    (λ (e : i ≡ 0). subst (λ x. IsAhead scores (item_at cells 0) (item_at cells x)) (sym e) (ahead_itself scores (item_at cells 0)))
    (λ (ne : i ≢ 0).
    let some : 1 ≤ i = omega arith in
    let less = parent_below i some in
    ahead_then scores (item_at cells 0) (item_at cells (parent i)) (item_at cells i) (top_within scores cells count bound (parent i) h (omega (arith, less)) (omega (arith, less))) (h i some lt)) (cases_eq i 0)

pub top_ahead : (scores cells : List ℕ) (count i : ℕ) → IsHeap scores cells count → i < count → IsAhead scores (item_at cells 0) (item_at cells i)
top_ahead scores cells count i h lt = top_within scores cells count (i + 1) i h (omega arith) lt

-- ---- rising
pub rises : (scores old new : List ℕ) (count at up : ℕ) → IsRising scores old count at → 1 ≤ at → up ≡ parent at → at < count → IsSwapped up at old new → IsAhead scores (item_at old at) (item_at old up) → IsRising scores new count up
rises scores old new count at up r some eu inside s ahead =
    let less : up < at = omega (arith, parent_below at some) in
    record {
      others = λ i low high nu. ⊎_elim
          (λ (e : i ≡ at).
          subst (λ x. IsAhead scores (item_at new (parent x)) (item_at new x)) (sym e)
          (ahead_as scores (item_at old at) (item_at old up) _ _ (ap (item_at new) (sym eu) ∙ s.first) s.second ahead))
          (λ (na : i ≢ at).
          let here = s.others i nu na in
          ⊎_elim
          (λ (p : parent i ≡ up).
          ahead_as scores (item_at old at) (item_at old i) _ _ (ap (item_at new) p ∙ s.first) here
          (ahead_then scores (item_at old at) (item_at old up) (item_at old i) ahead (ahead_as scores (item_at old (parent i)) (item_at old i) _ _ (ap (item_at old) (sym p)) refl (r.others i low high na))))
          (λ (np : parent i ≢ up). ⊎_elim
          (λ (p : parent i ≡ at).
          ahead_as scores (item_at old (parent at)) (item_at old i) _ _ (ap (item_at new) p ∙ s.second ∙ ap (item_at old) eu) here (r.below i low high p some))
          (λ (nq : parent i ≢ at).
          ahead_as scores (item_at old (parent i)) (item_at old i) _ _ (s.others (parent i) np nq) here (r.others i low high na))
          (cases_eq (parent i) at)) (cases_eq (parent i) up)) (cases_eq i at);
      below = λ i low high p up_some.
          let above : parent up < up = parent_below up up_some in
          let top : item_at new (parent up) ≡ item_at old (parent up) = s.others (parent up) (λ e. omega arith) (λ e. omega arith) in
          let base = r.others up up_some (omega arith) (λ e. omega arith) in
          ⊎_elim
          (λ (e : i ≡ at). ahead_as scores (item_at old (parent up)) (item_at old up) _ _ top (ap (item_at new) e ∙ s.second) base)
          (λ (na : i ≢ at).
          let nu : i ≢ up = λ e. omega (arith, parent_below i low) in
          ahead_as scores (item_at old (parent up)) (item_at old i) _ _ top (s.others i nu na)
          (ahead_then scores (item_at old (parent up)) (item_at old up) (item_at old i) base
          (ahead_as scores (item_at old (parent i)) (item_at old i) _ _ (ap (item_at old) (sym p)) refl (r.others i low high na)))) (cases_eq i at);
    }

pub risen_top : (scores cells : List ℕ) (count at : ℕ) → at < 1 → IsRising scores cells count at → IsHeap scores cells count
risen_top scores cells count at z r = λ i low high. r.others i low high (λ e. omega arith)

pub risen : (scores cells : List ℕ) (count at up : ℕ) → up ≡ parent at → IsAhead scores (item_at cells up) (item_at cells at) → IsRising scores cells count at → IsHeap scores cells count
risen scores cells count at up eu ahead r = λ i low high. ⊎_elim
    (λ (e : i ≡ at). subst (λ x. IsAhead scores (item_at cells (parent x)) (item_at cells x)) (sym e) (subst (λ x. IsAhead scores (item_at cells x) (item_at cells at)) eu ahead))
    (λ (ne : i ≢ at). r.others i low high ne) (cases_eq i at)

-- ---- the better one of two children
pub second_is_better : (scores cells : List ℕ) (count first : ℕ) → first + 1 < count → IsAhead scores (item_at cells (first + 1)) (item_at cells first) → IsBetterChild scores cells count first (first + 1)
second_is_better scores cells count first inside ahead = record {
  is = inr refl;
  within = inside;
  ahead = λ i high e. ⊎_elim
      (λ (q : i ≡ first). subst (λ x. IsAhead scores (item_at cells (first + 1)) (item_at cells x)) (sym q) ahead)
      (λ (q : i ≡ first + 1). subst (λ x. IsAhead scores (item_at cells (first + 1)) (item_at cells x)) (sym q) (ahead_itself scores (item_at cells (first + 1)))) e;
}

pub first_is_better : (scores cells : List ℕ) (count first : ℕ) → first < count → IsAhead scores (item_at cells first) (item_at cells (first + 1)) → IsBetterChild scores cells count first first
first_is_better scores cells count first inside ahead = record {
  is = inl refl;
  within = inside;
  ahead = λ i high e. ⊎_elim
      (λ (q : i ≡ first). subst (λ x. IsAhead scores (item_at cells first) (item_at cells x)) (sym q) (ahead_itself scores (item_at cells first)))
      (λ (q : i ≡ first + 1). subst (λ x. IsAhead scores (item_at cells first) (item_at cells x)) (sym q) ahead) e;
}

pub only_child : (scores cells : List ℕ) (count first : ℕ) → first < count → count ≤ first + 1 → IsBetterChild scores cells count first first
only_child scores cells count first inside last = record {
  is = inl refl;
  within = inside;
  ahead = λ i high e. ⊎_elim
      (λ (q : i ≡ first). subst (λ x. IsAhead scores (item_at cells first) (item_at cells x)) (sym q) (ahead_itself scores (item_at cells first)))
      (λ (q : i ≡ first + 1). absurd (omega arith)) e;
}

-- ---- sinking
pub sinks : (scores old new : List ℕ) (count at child : ℕ) → IsSinking scores old count at → IsBetterChild scores old count (2 * at + 1) child → IsSwapped at child old new → IsAhead scores (item_at old child) (item_at old at) → IsSinking scores new count child
sinks scores old new count at child r b s ahead =
    let up : parent child ≡ at = parent_of_child at child b.is in
    let less : at < child = child_above at child b.is in
    record {
      others = λ i low high np.
          let under : parent i < i = parent_below i low in
          ⊎_elim
          (λ (p : parent i ≡ at). ⊎_elim
          (λ (e : i ≡ child). ahead_as scores (item_at old child) (item_at old at) _ _ (ap (item_at new) p ∙ s.first) (ap (item_at new) e ∙ s.second) ahead)
          (λ (ne : i ≢ child).
          ahead_as scores (item_at old child) (item_at old i) _ _ (ap (item_at new) p ∙ s.first) (s.others i (λ e. omega arith) ne) (b.ahead i high (children i at low p))) (cases_eq i child))
          (λ (na : parent i ≢ at). ⊎_elim
          (λ (e : i ≡ at).
          let some : 1 ≤ at = omega arith in
          let above : parent at < at = parent_below at some in
          ahead_as scores (item_at old (parent at)) (item_at old child) _ _
          (ap (λ x. item_at new (parent x)) e ∙ s.others (parent at) (λ q. omega arith) (λ q. omega arith))
          (ap (item_at new) e ∙ s.first) (r.below child (omega arith) b.within up some))
          (λ (ne : i ≢ at).
          let nc : i ≢ child = λ q. na (ap parent q ∙ up) in
          ahead_as scores (item_at old (parent i)) (item_at old i) _ _ (s.others (parent i) na np) (s.others i ne nc) (r.others i low high na)) (cases_eq i at)) (cases_eq (parent i) at);
      below = λ i low high p some.
          let under : parent i < i = parent_below i low in
          ahead_as scores (item_at old child) (item_at old i) _ _ (ap (item_at new) up ∙ s.first) (s.others i (λ e. omega arith) (λ e. omega arith))
          (ahead_as scores (item_at old (parent i)) (item_at old i) _ _ (ap (item_at old) (sym p)) refl (r.others i low high (λ e. omega arith)));
    }

pub sunk_end : (scores cells : List ℕ) (count at : ℕ) → count ≤ 2 * at + 1 → IsSinking scores cells count at → IsHeap scores cells count
sunk_end scores cells count at past r = λ i low high. r.others i low high (λ e. ⊎_elim (λ (q : i ≡ 2 * at + 1). omega arith) (λ (q : i ≡ 2 * at + 1 + 1). omega arith) (children i at low e))

pub sunk : (scores cells : List ℕ) (count at child : ℕ) → IsBetterChild scores cells count (2 * at + 1) child → IsAhead scores (item_at cells at) (item_at cells child) → IsSinking scores cells count at → IsHeap scores cells count
sunk scores cells count at child b ahead r = λ i low high. ⊎_elim
    (λ (e : parent i ≡ at). subst (λ x. IsAhead scores (item_at cells x) (item_at cells i)) (sym e)
    (ahead_then scores (item_at cells at) (item_at cells child) (item_at cells i) ahead (b.ahead i high (children i at low e))))
    (λ (ne : parent i ≢ at). r.others i low high ne) (cases_eq (parent i) at)

-- ---- the first cell taken off, a cell put after the last
pub popped_sinks : (scores old new : List ℕ) (left : ℕ) → IsHeap scores old (left + 1) → IsSwapped 0 left old new → IsSinking scores new left 0
popped_sinks scores old new left h s = record {
  others = λ i low high np.
      let less : parent i < i = parent_below i low in
      ahead_as scores (item_at old (parent i)) (item_at old i) _ _ (s.others (parent i) np (λ e. omega arith)) (s.others i (λ e. omega arith) (λ e. omega arith)) (h i low (omega arith));
  below = λ i low high p some. absurd (omega arith);
}

pub inserted_rises : (scores old new : List ℕ) (count from : ℕ) → IsHeap scores old count → count ≤ from → IsSwapped count from old new → IsRising scores new (count + 1) count
inserted_rises scores old new count from h far s = record {
  others = λ i low high ne.
      let less : parent i < i = parent_below i low in
      ahead_as scores (item_at old (parent i)) (item_at old i) _ _ (s.others (parent i) (λ e. omega arith) (λ e. omega arith)) (s.others i ne (λ e. omega arith)) (h i low (omega arith));
  below = λ i low high p some. absurd (omega (arith, parent_below i low));
}

pub next_rises : (scores cells : List ℕ) (k : ℕ) → IsHeap scores cells k → IsRising scores cells (k + 1) k
next_rises scores cells k h = record {
  others = λ i low high ne. h i low (omega arith);
  below = λ i low high p some. absurd (omega (arith, parent_below i low));
}

-- ---- a score that rises
raised_ahead : (scores : List ℕ) (v times u w : ℕ) → v < length scores → w ≢ v → IsAhead scores u w → IsAhead (set scores v (item_at scores v + times)) u w
raised_ahead scores v times u w h nw a =
    let more = set scores v (item_at scores v + times) in
    let same_w : item_at (set scores v (item_at scores v + times)) w ≡ item_at scores w = get_or-set_other scores v w (item_at scores v + times) 0 nw in
    ⊎_elim
    (λ (e : u ≡ v).
    let mine : item_at (set scores v (item_at scores v + times)) u ≡ item_at scores u + times = ap (item_at more) e ∙ get_or-set_same scores v (item_at scores v + times) 0 h ∙ ap (λ x. item_at scores x + times) (sym e) in
    ⊎_elim (λ (b : item_at scores w < item_at scores u). inl (omega arith))
    (λ (b : (item_at scores u ≡ item_at scores w) × (u ≤ w)).
    let q = b.0 in
    let r = b.1 in
    ⊎_elim (λ (z : times ≡ 0). inr (omega (arith, q), omega (arith, r))) (λ (nz : times ≢ 0). inl (omega (arith, q))) (cases_eq times 0)) a)
    (λ (ne : u ≢ v).
    let same_u : item_at (set scores v (item_at scores v + times)) u ≡ item_at scores u = get_or-set_other scores v u (item_at scores v + times) 0 ne in
    ⊎_elim (λ (b : item_at scores w < item_at scores u). inl (omega arith)) (λ (b : (item_at scores u ≡ item_at scores w) × (u ≤ w)). inr (same_u ∙ b.0 ∙ sym same_w, b.1)) a) (cases_eq u v)

apart_cells : (n : ℕ) (cells places : List ℕ) (i k : ℕ) → AreShuffled n cells places → i < n → k < n → i ≢ k → item_at cells i ≢ item_at cells k
apart_cells n cells places i k s hi hk ne e = ne (sym (s.placed i hi) ∙ ap (item_at places) e ∙ s.placed k hk)

pub raised_rises : (scores cells places : List ℕ) (count v times k : ℕ) → AreShuffled (length scores) cells places → count ≤ length scores → v < length scores → item_at places v ≡ k → IsHeap scores cells count → IsRising (set scores v (item_at scores v + times)) cells count k
raised_rises scores cells places count v times k s few hv at h =
    let kn : k < length scores = subst (λ x. x < length scores) at (s.in_cells v hv) in
    let here : item_at cells k ≡ v = ap (item_at cells) (sym at) ∙ s.has v hv in
    let other : (i : ℕ) → i < count → i ≢ k → item_at cells i ≢ v = λ i b ne e. apart_cells (length scores) cells places i k s (omega arith) kn ne (e ∙ sym here) in
    record {
      others = λ i low high ne. raised_ahead scores v times (item_at cells (parent i)) (item_at cells i) hv (other i high ne) (h i low high);
      below = λ i low high p some.
          let less : parent i < i = parent_below i low in
          let inside : k < count = omega arith in
          raised_ahead scores v times (item_at cells (parent k)) (item_at cells i) hv (other i high (λ e. omega arith))
          (ahead_then scores (item_at cells (parent k)) (item_at cells k) (item_at cells i) (h k some inside)
          (subst (λ x. IsAhead scores (item_at cells x) (item_at cells i)) p (h i low high)));
    }

-- a variable that is not in the heap
pub raised_outside : (scores cells places : List ℕ) (count v times k : ℕ) → AreShuffled (length scores) cells places → count ≤ length scores → v < length scores → item_at places v ≡ k → count ≤ k → IsHeap scores cells count → IsHeap (set scores v (item_at scores v + times)) cells count
raised_outside scores cells places count v times k s few hv at far h =
    let r = raised_rises scores cells places count v times k s few hv at h in
    λ i low high. r.others i low high (λ e. omega arith)
