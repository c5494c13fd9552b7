-- The variables in the heap.
use Rattle.std.proofs.Common.{◌≡◌, ◌≢◌, ℕ, [], ◌∷◌, ◌+◌, ◌-◌, ◌<◌, ◌≤◌, Bool, true, false, List, ◌++◌, length, get_or, map, replicate, nat_lt, sym, ap, ◌∙◌, subst, refl, inl, inr, ⊎_elim, arith}
use Rattle.std.proofs.Math.Seq.{get_or-append_seam}
use Rattle.std.proofs.lemmas.Bool.{cases_eq, cases_lt, lt-ltb, ltb-true}
use Rattle.std.proofs.lemmas.List.{get_or-map, length-map, ext_get_or, get_or-replicate, length-replicate, get_or_append_left, get_or-append_right, length-append}
use Rattle.std.proofs.lemmas.List.Elements.{All-get_or}
use Rattle.cx_trail.specs.declared.entry.Entry.{Entry}
use Rattle.cx_base.specs.Literals.{Literal}
use Rattle.cx_trail.specs.declared.entry.Reason.{Reason}
use Rattle.cx_trail.specs.Sequence.{TrailState, TakesBack, IsOpenIn, entry_at, no_entry, pushed}
use Rattle.cx_trail.proofs.ValueLaws.{open_or_assigned}
use Rattle.search_policy.specs.declared.scores.TheConstants.{SCORE_LIMIT}
use Rattle.search_policy.specs.Scores.{IsBest, NoneIsOpen, ComesBefore}
use Rattle.search_policy.specs.Heaps.{item_at, IsAhead, AreShuffled, IsHeap, IsOrder, HasOpenOnes, parent}
use Rattle.search_policy.specs.Standing.{OrderState, AllStand}
use Rattle.search_policy.proofs.HeapLaws.{parent_below, top_ahead}

pub same_state : (s s' : List ℕ) (b b' : List Bool) (weight : ℕ) → s ≡ s' → b ≡ b' → ◌≡◌ {A = OrderState} (record { scores = s; standing = b; weight = weight }) (record { scores = s'; standing = b'; weight = weight })
same_state s s' b b' weight e f =
    let mk : List ℕ → List Bool → OrderState = λ x y. record { scores = x; standing = y; weight = weight } in
    ap (λ x. mk x b) e ∙ ap (λ y. mk s' y) f

pub new_standing : (n : ℕ) (places : List ℕ) → length places ≡ n → ((k : ℕ) → k < n → item_at places k ≡ k) → map (λ p. nat_lt p n) places ≡ replicate n true
new_standing n places e at =
    let f : ℕ → Bool = λ p. nat_lt p n in
    let l1 : length (map f places) ≡ length places = length-map places f in
    let l2 : length (replicate n true) ≡ n = length-replicate n true in
    ext_get_or false (map f places) (replicate n true) (omega arith)
    (λ k h.
    let b : k < n = omega arith in
    get_or-map f places k 0 false (omega arith) ∙ ap f (at k b) ∙ lt-ltb k n b ∙ sym (get_or-replicate n k true false b))

-- ---- an order as it is made
pub counted : (xs ys : List ℕ) (n : ℕ) → length xs ≡ n → ys ≡ xs ++ n ∷ [] → length ys ≡ n + 1
counted xs ys n long is = ap length is ∙ length-append xs (n ∷ []) ∙ ap (λ k. k + 1) long

pub numbered : (xs ys : List ℕ) (n : ℕ) → length xs ≡ n → ys ≡ xs ++ n ∷ [] → ((k : ℕ) → k < n → item_at xs k ≡ k) → (k : ℕ) → k < n + 1 → item_at ys k ≡ k
numbered xs ys n long is each k lt =
    ap (λ zs. item_at zs k) is
    ∙ ⊎_elim
    (λ (e : k ≡ n). ap (item_at (xs ++ n ∷ [])) (e ∙ sym long) ∙ get_or-append_seam xs n [] 0 ∙ sym e)
    (λ (ne : k ≢ n). get_or_append_left xs (n ∷ []) 0 k (omega arith) ∙ each k (omega arith)) (cases_eq k n)

pub new_is_order : (scores cells places : List ℕ) (n : ℕ) → scores ≡ replicate n 0 → length cells ≡ n → length places ≡ n → ((k : ℕ) → k < n → item_at cells k ≡ k)
    → ((k : ℕ) → k < n → item_at places k ≡ k) → IsOrder scores cells places n
new_is_order scores cells places n is cells_long places_long cell place =
    let long : length scores ≡ n = ap length is ∙ length-replicate n 0 in
    let zero : (u : ℕ) → u < n → item_at scores u ≡ 0 = λ u lt. ap (λ xs. item_at xs u) is ∙ get_or-replicate n u 0 0 lt in
    record {
      shuffled = record {
        cell_count = cells_long ∙ sym long;
        place_count = places_long ∙ sym long;
        inside = λ i h. let e = cell i (omega arith) in omega arith;
        placed = λ i h. ap (item_at places) (cell i (omega arith)) ∙ place i (omega arith);
        in_cells = λ v h. let e = place v (omega arith) in omega arith;
        has = λ v h. ap (item_at cells) (place v (omega arith)) ∙ cell v (omega arith);
      };
      heap = λ i low high.
          let up = parent_below i low in
          let here = cell i high in
          let there = cell (parent i) (omega arith) in
          inr (zero (item_at cells (parent i)) (omega arith) ∙ sym (zero (item_at cells i) (omega arith)), omega arith);
      few = omega arith;
    }

pub all_small : (scores : List ℕ) (n : ℕ) → scores ≡ replicate n 0 → (k d : ℕ) → k < length scores → get_or scores k d < SCORE_LIMIT
all_small scores n is k d lt =
    let long : length scores ≡ n = ap length is ∙ length-replicate n 0 in
    let e : get_or scores k d ≡ 0 = ap (λ xs. get_or xs k d) is ∙ get_or-replicate n k 0 d (omega arith) in
    omega arith

pub open_ones : (scores places : List ℕ) (count weight : ℕ) (t : TrailState) → length places ≡ length scores → AllStand (record { scores = scores; standing = map (λ p. nat_lt p count) places; weight = weight }) t → HasOpenOnes (length scores) t.entries places count
open_ones scores places count weight t e a = λ v h o.
    let f : ℕ → Bool = λ p. nat_lt p count in
    let z : v + 1 - 1 ≡ v = omega arith in
    let s : get_or (map f places) (v + 1 - 1) false ≡ true = a.stand (v + 1) (omega arith) (omega (arith, a.variables)) o in
    ltb-true (item_at places v) count (sym (get_or-map f places v 0 false (omega arith)) ∙ ap (λ x. get_or (map f places) x false) (sym z) ∙ s)

pub stand_of : (scores places : List ℕ) (count weight : ℕ) (t : TrailState) → length scores ≡ t.variables → length places ≡ length scores → HasOpenOnes (length scores) t.entries places count → AllStand (record { scores = scores; standing = map (λ p. nat_lt p count) places; weight = weight }) t
stand_of scores places count weight t e p a = record {
  variables = e;
  stand = λ v low high o.
      let f : ℕ → Bool = λ q. nat_lt q count in
      let z : v - 1 + 1 ≡ v = omega arith in
      let b : v - 1 < length scores = omega arith in
      get_or-map f places (v - 1) 0 false (omega arith) ∙ lt-ltb (item_at places (v - 1)) count (a (v - 1) b (subst (IsOpenIn t.entries) (sym z) o));
}

comes_before : (scores : List ℕ) (a b : ℕ) → IsAhead scores a b → ComesBefore scores (a + 1) (b + 1)
comes_before scores a b h =
    let za : a + 1 - 1 ≡ a = omega arith in
    let zb : b + 1 - 1 ≡ b = omega arith in
    let ea : item_at scores (a + 1 - 1) ≡ item_at scores a = ap (item_at scores) za in
    let eb : item_at scores (b + 1 - 1) ≡ item_at scores b = ap (item_at scores) zb in
    ⊎_elim (λ (l : item_at scores b < item_at scores a). inl (omega arith))
    (λ (r : (item_at scores a ≡ item_at scores b) × (a ≤ b)). let le = r.1 in inr (eb ∙ sym r.0 ∙ sym ea, omega (arith, le))) h

pub picks_none : (n : ℕ) (entries : List Entry) (places : List ℕ) (count : ℕ) → count ≡ 0 → HasOpenOnes n entries places count → NoneIsOpen n entries
picks_none n entries places count e a = λ u low high o.
    let z : u - 1 + 1 ≡ u = omega arith in
    let b : u - 1 < n = omega arith in
    let less = a (u - 1) b (subst (IsOpenIn entries) (sym z) o) in
    omega (arith, less)

pub picks_top : (scores cells places : List ℕ) (count : ℕ) (entries : List Entry) → AreShuffled (length scores) cells places → IsHeap scores cells count → HasOpenOnes (length scores) entries places count → 0 < count → count ≤ length scores → IsOpenIn entries (item_at cells 0 + 1)
    → IsBest (length scores) scores entries (item_at cells 0 + 1)
picks_top scores cells places count entries s h a some few o = record {
  low = omega arith;
  high = omega (arith, s.inside 0 (omega arith));
  unassigned = o;
  best = λ u low high ou.
      let z : u - 1 + 1 ≡ u = omega arith in
      let b : u - 1 < length scores = omega arith in
      let place = a (u - 1) b (subst (IsOpenIn entries) (sym z) ou) in
      let ahead : IsAhead scores (item_at cells 0) (u - 1) = subst (λ x. IsAhead scores (item_at cells 0) x) (s.has (u - 1) b) (top_ahead scores cells count (item_at places (u - 1)) h place) in
      subst (λ x. ComesBefore scores (item_at cells 0 + 1) x) z (comes_before scores (item_at cells 0) (u - 1) ahead);
}

-- what the trail takes back was put back
pub back_stand : (n level count left : ℕ) (places new_places : List ℕ) (t u : TrailState) → TakesBack level t u → HasOpenOnes n t.entries places count
    → ((v : ℕ) → v < n → item_at places v < count → item_at new_places v < left)
    → ((i : ℕ) → i < length t.entries → level < (entry_at t.entries i).level → item_at new_places ((entry_at t.entries i).literal.variable - 1) < left)
    → HasOpenOnes n u.entries new_places left
back_stand n level count left places new_places t u b a stays put = λ v h o. ⊎_elim
    (λ (f : (i : ℕ) → i < length t.entries → (entry_at t.entries i).literal.variable ≢ v + 1). stays v h (a v h f))
    (λ (w : (i : ℕ) × (i < length t.entries) × ((entry_at t.entries i).literal.variable ≡ v + 1)).
    let i = w.0 in
    let inside = w.1 in
    let z : (entry_at t.entries i).literal.variable - 1 ≡ v = omega (arith, w.2) in
    let whole : entry_at t.entries i ≡ entry_at (u.entries ++ b.dropped) i = ap (λ (xs : List Entry). entry_at xs i) b.parts in
    let size : length t.entries ≡ length u.entries + length b.dropped = ap length b.parts ∙ length-append u.entries b.dropped in
    ⊎_elim
    (λ (low : i < length u.entries). absurd (o i low (ap (λ (x : Entry). x.literal.variable) (sym (whole ∙ get_or_append_left u.entries b.dropped no_entry i low)) ∙ w.2)))
    (λ (high : length u.entries ≤ i).
    let gone : entry_at t.entries i ≡ get_or b.dropped (i - length u.entries) no_entry = whole ∙ get_or-append_right u.entries b.dropped (length u.entries) i no_entry refl high in
    let above : level < (entry_at t.entries i).level = subst (λ (x : Entry). level < x.level) (sym gone) (All-get_or (λ (e : Entry). level < e.level) b.dropped (i - length u.entries) no_entry (omega arith) b.dropped_high) in
    subst (λ x. item_at new_places x < left) z (put i inside above)) (cases_lt i (length u.entries)))
    (open_or_assigned t.entries (v + 1))

-- ---- a literal more on the trail
open_before : (entries : List Entry) (e : Entry) (v : ℕ) → IsOpenIn (entries ++ e ∷ []) v → IsOpenIn entries v
open_before entries e v h i lt q = h i (omega (arith, length-append entries (e ∷ []))) (ap (λ (x : Entry). x.literal.variable) (get_or_append_left entries (e ∷ []) no_entry i lt) ∙ q)

pub longer_stands : (o : OrderState) (t : TrailState) (level : ℕ) (l : Literal) (reason : Reason) → AllStand o t → AllStand o (pushed t level l reason)
longer_stands o t level l reason a =
    record { variables = a.variables; stand = λ v low high h. a.stand v low high (open_before t.entries (record { literal = l; level = level; reason = reason }) v h) }
