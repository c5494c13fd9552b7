-- Cells and places, through swaps.
use Rattle.std.proofs.Common.{◌≡◌, ◌≢◌, ℕ, ◌+◌, ◌<◌, ◌≤◌, Bool, false, List, length, set, map, nat_lt, sym, ap, ◌∙◌, subst, ⊎_elim, arith}
use Rattle.std.proofs.lemmas.Bool.{cases_eq, cases_lt, lt-ltb, le-ltb}
use Rattle.std.proofs.lemmas.List.{get_or-set_same, get_or-set_other, length-set, get_or-map, length-map, ext_get_or}
use Rattle.cx_trail.specs.declared.entry.Entry.{Entry}
use Rattle.cx_trail.specs.Sequence.{IsOpenIn}
use Rattle.search_policy.specs.Heaps.{item_at, AreShuffled, IsSwapped, AreSameFrom, HasOpenOnes}

pub cells_swapped : (cells : List ℕ) (i j : ℕ) → i < length cells → j < length cells → IsSwapped i j cells (set (set cells i (item_at cells j)) j (item_at cells i))
cells_swapped cells i j hi hj =
    let c1 = set cells i (item_at cells j) in
    let n : length (set cells i (item_at cells j)) ≡ length cells = length-set cells i (item_at cells j) in
    record {
      first = ⊎_elim
          (λ (e : i ≡ j). ap (item_at (set c1 j (item_at cells i))) e ∙ get_or-set_same c1 j (item_at cells i) 0 (omega arith) ∙ ap (item_at cells) e)
          (λ (ne : i ≢ j). get_or-set_other c1 j i (item_at cells i) 0 ne ∙ get_or-set_same cells i (item_at cells j) 0 hi) (cases_eq i j);
      second = get_or-set_same c1 j (item_at cells i) 0 (omega arith);
      others = λ k ni nj. get_or-set_other c1 j k (item_at cells i) 0 nj ∙ get_or-set_other cells i k (item_at cells j) 0 ni;
    }

pub shuffled_swapped : (n : ℕ) (cells places : List ℕ) (i j : ℕ) → AreShuffled n cells places → i < n → j < n → AreShuffled n (set (set cells i (item_at cells j)) j (item_at cells i)) (set (set places (item_at cells j) i) (item_at cells i) j)
shuffled_swapped n cells places i j s hi hj =
    let a = item_at cells i in
    let b = item_at cells j in
    let c2 = set (set cells i (item_at cells j)) j (item_at cells i) in
    let p1 = set places (item_at cells j) i in
    let p2 = set (set places (item_at cells j) i) (item_at cells i) j in
    let w = cells_swapped cells i j (omega (arith, s.cell_count)) (omega (arith, s.cell_count)) in
    let la : item_at cells i < n = s.inside i hi in
    let lb : item_at cells j < n = s.inside j hj in
    let np : length (set places (item_at cells j) i) ≡ length places = length-set places (item_at cells j) i in
    let np2 : length (set (set places (item_at cells j) i) (item_at cells i) j) ≡ length (set places (item_at cells j) i) = length-set p1 a j in
    let nc : length (set (set cells i (item_at cells j)) j (item_at cells i)) ≡ length cells = length-set (set cells i (item_at cells j)) j (item_at cells i) ∙ length-set cells i (item_at cells j) in
    let at_a : item_at p2 a ≡ j = get_or-set_same p1 a j 0 (omega (arith, s.place_count)) in
    let at_b : b ≢ a → item_at p2 b ≡ i = λ ne. get_or-set_other p1 a b j 0 ne ∙ get_or-set_same places b i 0 (omega (arith, s.place_count)) in
    let at_o : (v : ℕ) → v ≢ a → v ≢ b → item_at p2 v ≡ item_at places v = λ v na nb. get_or-set_other p1 a v j 0 na ∙ get_or-set_other places b v i 0 nb in
    let one_place : (x y : ℕ) → x < n → y < n → item_at cells x ≡ item_at cells y → x ≡ y = λ x y hx hy e. sym (s.placed x hx) ∙ ap (item_at places) e ∙ s.placed y hy in
    record {
      cell_count = nc ∙ s.cell_count;
      place_count = np2 ∙ np ∙ s.place_count;
      inside = λ k h. ⊎_elim (λ (e : k ≡ j). subst (λ x. x < n) (sym (ap (item_at c2) e ∙ w.second)) la)
          (λ (nj : k ≢ j). ⊎_elim (λ (e : k ≡ i). subst (λ x. x < n) (sym (ap (item_at c2) e ∙ w.first)) lb)
          (λ (ni : k ≢ i). subst (λ x. x < n) (sym (w.others k ni nj)) (s.inside k h)) (cases_eq k i)) (cases_eq k j);
      placed = λ k h. ⊎_elim (λ (e : k ≡ j). ap (item_at p2) (ap (item_at c2) e ∙ w.second) ∙ at_a ∙ sym e)
          (λ (nj : k ≢ j). ⊎_elim
          (λ (e : k ≡ i). ap (item_at p2) (ap (item_at c2) e ∙ w.first) ∙ at_b (λ q. nj (e ∙ sym (one_place j i hj hi q))) ∙ sym e)
          (λ (ni : k ≢ i). ap (item_at p2) (w.others k ni nj) ∙ at_o (item_at cells k) (λ q. ni (one_place k i h hi q)) (λ q. nj (one_place k j h hj q)) ∙ s.placed k h) (cases_eq k i)) (cases_eq k j);
      in_cells = λ v h. ⊎_elim (λ (e : v ≡ a). subst (λ x. x < n) (sym (ap (item_at p2) e ∙ at_a)) hj)
          (λ (na : v ≢ a). ⊎_elim (λ (e : v ≡ b). subst (λ x. x < n) (sym (ap (item_at p2) e ∙ at_b (λ q. na (e ∙ q)))) hi)
          (λ (nb : v ≢ b). subst (λ x. x < n) (sym (at_o v na nb)) (s.in_cells v h)) (cases_eq v b)) (cases_eq v a);
      has = λ v h. ⊎_elim (λ (e : v ≡ a). ap (item_at c2) (ap (item_at p2) e ∙ at_a) ∙ w.second ∙ sym e)
          (λ (na : v ≢ a). ⊎_elim (λ (e : v ≡ b). ap (item_at c2) (ap (item_at p2) e ∙ at_b (λ q. na (e ∙ q))) ∙ w.first ∙ sym e)
          (λ (nb : v ≢ b).
          let p = item_at places v in
          let ni : p ≢ i = λ q. na (sym (s.has v h) ∙ ap (item_at cells) q) in
          let nj : p ≢ j = λ q. nb (sym (s.has v h) ∙ ap (item_at cells) q) in
          ap (item_at c2) (at_o v na nb) ∙ w.others p ni nj ∙ s.has v h) (cases_eq v b)) (cases_eq v a);
    }

pub same_back : (count : ℕ) (old new : List ℕ) → AreSameFrom count old new → AreSameFrom count new old
same_back count old new h i b = sym (h i b)

pub same_then : (count : ℕ) (a b c : List ℕ) → AreSameFrom count a b → AreSameFrom count b c → AreSameFrom count a c
same_then count a b c f g i h = g i h ∙ f i h

pub swapped_same : (count i j : ℕ) (old new : List ℕ) → i < count → j < count → IsSwapped i j old new → AreSameFrom count old new
swapped_same count i j old new hi hj s k h = s.others k (λ e. omega arith) (λ e. omega arith)

-- a variable of the first count cells stays among them
pub stays_below : (n count : ℕ) (cells places new_cells new_places : List ℕ) → AreShuffled n cells places → AreShuffled n new_cells new_places → AreSameFrom count cells new_cells → (v : ℕ) → v < n → item_at places v < count → item_at new_places v < count
stays_below n count cells places new_cells new_places s t same v h b = ⊎_elim (λ (q : item_at new_places v < count). q)
    (λ (q : count ≤ item_at new_places v).
    let p = item_at new_places v in
    let z : item_at places v ≡ p = ap (item_at places) (sym (t.has v h) ∙ same p q) ∙ s.placed p (t.in_cells v h) in
    absurd (omega (arith, z))) (cases_lt (item_at new_places v) count)

same_test : (a b c : ℕ) → (a < c → b < c) → (b < c → a < c) → nat_lt a c ≡ nat_lt b c
same_test a b c f g = ⊎_elim (λ (h : a < c). lt-ltb a c h ∙ sym (lt-ltb b c (f h)))
    (λ (h : c ≤ a). ⊎_elim (λ (k : b < c). absurd (omega (arith, g k))) (λ (k : c ≤ b). le-ltb a c h ∙ sym (le-ltb b c k)) (cases_lt b c)) (cases_lt a c)

-- so the same variables are in the heap
pub same_standing : (n count : ℕ) (cells places new_cells new_places : List ℕ) → AreShuffled n cells places → AreShuffled n new_cells new_places → AreSameFrom count cells new_cells → map (λ p. nat_lt p count) new_places ≡ map (λ p. nat_lt p count) places
same_standing n count cells places new_cells new_places s t same =
    let f : ℕ → Bool = λ p. nat_lt p count in
    let l1 : length (map f new_places) ≡ length new_places = length-map new_places f in
    let l2 : length (map f places) ≡ length places = length-map places f in
    ext_get_or false (map f new_places) (map f places) (omega (arith, s.place_count, t.place_count))
    (λ v h.
    let b : v < n = omega (arith, t.place_count) in
    get_or-map f new_places v 0 false (omega (arith, t.place_count))
    ∙ same_test (item_at new_places v) (item_at places v) count (stays_below n count new_cells new_places cells places t s (same_back count cells new_cells same) v b) (stays_below n count cells places new_cells new_places s t same v b)
    ∙ sym (get_or-map f places v 0 false (omega (arith, s.place_count))))

-- the first cell was taken off, and its variable is assigned
pub popped_stand : (n : ℕ) (entries : List Entry) (cells places c1 c2 p2 : List ℕ) (left : ℕ) → AreShuffled n cells places → AreShuffled n c2 p2 → IsSwapped 0 left cells c1 → AreSameFrom left c1 c2 → (IsOpenIn entries (item_at cells 0 + 1) → ⊥) → HasOpenOnes n entries places (left + 1) → HasOpenOnes n entries p2 left
popped_stand n entries cells places c1 c2 p2 left s t w same taken stand = λ v h o. ⊎_elim (λ (q : item_at p2 v < left). q)
    (λ (q : left ≤ item_at p2 v).
    let p = item_at p2 v in
    let e : item_at c1 p ≡ v = sym (same p q) ∙ t.has v h in
    ⊎_elim
    (λ (z : p ≡ left). absurd (taken (subst (λ x. IsOpenIn entries (x + 1)) (sym (sym w.second ∙ ap (item_at c1) (sym z) ∙ e)) o)))
    (λ (nz : p ≢ left).
    let here : item_at cells p ≡ v = sym (w.others p (λ r. omega arith) nz) ∙ e in
    let z : item_at places v ≡ p = ap (item_at places) (sym here) ∙ s.placed p (t.in_cells v h) in
    absurd (omega (arith, z, stand v h o))) (cases_eq p left)) (cases_lt (item_at p2 v) left)
