-- The cells and the places of a trail, through a put.
use Rattle.std.proofs.Common.{◌≡◌, ◌≢◌, ℕ, ◌<◌, ◌≤◌, List, length, get_or, take, set, sym, ap, ◌∙◌, subst, ⊎_elim, arith}
use Rattle.std.proofs.lemmas.List.{length-take-le, get_or-take, get_or-set_same, get_or-set_other, length-set}
use Rattle.std.proofs.lemmas.Bool.{cases_eq, cases_lt}
use Rattle.cx_trail.specs.declared.entry.Entry.{Entry}
use Rattle.cx_trail.specs.Sequence.{IsOpenIn, entry_at, no_entry}
use Rattle.cx_trail.specs.Cells.{ArePaired, AreApart, var_at}

pub at_take : (len i : ℕ) (cells : List Entry) → i < len → entry_at (take len cells) i ≡ entry_at cells i
at_take len i cells h = get_or-take len cells i no_entry h

pub put_paired : (vars : ℕ) (cells : List Entry) (places : List ℕ) (count v from w : ℕ) (other entry : Entry) → ArePaired vars cells places → 1 ≤ v → v ≤ vars → count ≤ from → entry.literal.variable ≡ v → get_or places v 0 ≡ from → other.literal.variable ≡ w → var_at cells count ≡ w → ArePaired vars (set (set cells from other) count entry) (set (set places w from) v count)
put_paired vars cells places count v from w other entry k lv hv le ev ef eo ew =
    let from_in : from < vars = subst (λ x. x < vars) ef (k.in_cells v lv hv) in
    let at_from : var_at cells from ≡ v = subst (λ x. var_at cells x ≡ v) ef (k.has v lv hv) in
    let count_in : count < vars = omega arith in
    let low_w : 1 ≤ w = subst (λ x. 1 ≤ x) ew (k.low count count_in) in
    let high_w : w ≤ vars = subst (λ x. x ≤ vars) ew (k.high count count_in) in
    let place_w : get_or places w 0 ≡ count = subst (λ x. get_or places x 0 ≡ count) ew (k.placed count count_in) in
    let c1 = set cells from other in
    let c2 = set c1 count entry in
    let p1 = set places w from in
    let p2 = set p1 v count in
    let lc : length c1 ≡ length cells = length-set cells from other in
    let lc2 : length c2 ≡ length c1 = length-set c1 count entry in
    let lp : length p1 ≡ length places = length-set places w from in
    let lp2 : length p2 ≡ length p1 = length-set p1 v count in
    let p_v : get_or p2 v 0 ≡ count = get_or-set_same p1 v count 0 (omega (arith, k.place_count)) in
    let p_w : w ≢ v → get_or p2 w 0 ≡ from = λ ne. get_or-set_other p1 v w count 0 ne ∙ get_or-set_same places w from 0 (omega (arith, k.place_count)) in
    let p_o : (u : ℕ) → u ≢ v → u ≢ w → get_or p2 u 0 ≡ get_or places u 0 = λ u a b. get_or-set_other p1 v u count 0 a ∙ get_or-set_other places w u from 0 b in
    let c_c : var_at c2 count ≡ v = ap (λ (x : Entry). x.literal.variable) (get_or-set_same c1 count entry no_entry (omega (arith, k.cell_count))) ∙ ev in
    let c_f : from ≢ count → var_at c2 from ≡ w = λ ne. ap (λ (x : Entry). x.literal.variable) (get_or-set_other c1 count from entry no_entry ne ∙ get_or-set_same cells from other no_entry (omega (arith, k.cell_count))) ∙ eo in
    let c_o : (i : ℕ) → i ≢ count → i ≢ from → var_at c2 i ≡ var_at cells i = λ i a b. ap (λ (x : Entry). x.literal.variable) (get_or-set_other c1 count i entry no_entry a ∙ get_or-set_other cells from i other no_entry b) in
    -- the two places are one exactly where the two variables are
    let apart : w ≢ v → from ≢ count = λ ne e. ne (sym ew ∙ ap (var_at cells) (sym e) ∙ at_from) in
    record {
      cell_count = omega (arith, k.cell_count);
      place_count = omega (arith, k.place_count);
      in_cells = λ u a b. ⊎_elim (λ (e : u ≡ v). subst (λ x. get_or p2 x 0 < vars) (sym e) (subst (λ x. x < vars) (sym p_v) count_in))
          (λ (ne : u ≢ v). ⊎_elim (λ (e : u ≡ w). subst (λ x. get_or p2 x 0 < vars) (sym e) (subst (λ x. x < vars) (sym (p_w (λ q. ne (e ∙ q)))) from_in))
          (λ (nw : u ≢ w). subst (λ x. x < vars) (sym (p_o u ne nw)) (k.in_cells u a b)) (cases_eq u w)) (cases_eq u v);
      has = λ u a b. ⊎_elim (λ (e : u ≡ v). ap (λ x. var_at c2 (get_or p2 x 0)) e ∙ ap (var_at c2) p_v ∙ c_c ∙ sym e)
          (λ (ne : u ≢ v). ⊎_elim (λ (e : u ≡ w). let nwv : w ≢ v = λ q. ne (e ∙ q) in ap (λ x. var_at c2 (get_or p2 x 0)) e ∙ ap (var_at c2) (p_w nwv) ∙ c_f (apart nwv) ∙ sym e)
          (λ (nw : u ≢ w).
          let q : get_or places u 0 ≢ count = λ r. nw (sym (k.has u a b) ∙ ap (var_at cells) r ∙ ew) in
          let q' : get_or places u 0 ≢ from = λ r. ne (sym (k.has u a b) ∙ ap (var_at cells) r ∙ at_from) in
          ap (var_at c2) (p_o u ne nw) ∙ c_o (get_or places u 0) q q' ∙ k.has u a b) (cases_eq u w)) (cases_eq u v);
      placed = λ i h. ⊎_elim (λ (e : i ≡ count). ap (λ x. get_or p2 (var_at c2 x) 0) e ∙ ap (λ x. get_or p2 x 0) c_c ∙ p_v ∙ sym e)
          (λ (ne : i ≢ count). ⊎_elim (λ (e : i ≡ from).
          let fc : from ≢ count = λ q. ne (e ∙ q) in
          let nwv : w ≢ v = λ q. fc (sym ef ∙ ap (λ x. get_or places x 0) (sym q) ∙ place_w) in
          ap (λ x. get_or p2 (var_at c2 x) 0) e ∙ ap (λ x. get_or p2 x 0) (c_f fc) ∙ p_w nwv ∙ sym e)
          (λ (nf : i ≢ from).
          let nv : var_at cells i ≢ v = λ q. nf (sym (k.placed i h) ∙ ap (λ x. get_or places x 0) q ∙ ef) in
          let nw : var_at cells i ≢ w = λ q. ne (sym (k.placed i h) ∙ ap (λ x. get_or places x 0) q ∙ place_w) in
          ap (λ x. get_or p2 x 0) (c_o i ne nf) ∙ p_o (var_at cells i) nv nw ∙ k.placed i h) (cases_eq i from)) (cases_eq i count);
      low = λ i h. ⊎_elim (λ (e : i ≡ count). subst (λ x. 1 ≤ var_at c2 x) (sym e) (subst (λ x. 1 ≤ x) (sym c_c) lv))
          (λ (ne : i ≢ count). ⊎_elim (λ (e : i ≡ from). subst (λ x. 1 ≤ var_at c2 x) (sym e) (subst (λ x. 1 ≤ x) (sym (c_f (λ q. ne (e ∙ q)))) low_w))
          (λ (nf : i ≢ from). subst (λ x. 1 ≤ x) (sym (c_o i ne nf)) (k.low i h)) (cases_eq i from)) (cases_eq i count);
      high = λ i h. ⊎_elim (λ (e : i ≡ count). subst (λ x. var_at c2 x ≤ vars) (sym e) (subst (λ x. x ≤ vars) (sym c_c) hv))
          (λ (ne : i ≢ count). ⊎_elim (λ (e : i ≡ from). subst (λ x. var_at c2 x ≤ vars) (sym e) (subst (λ x. x ≤ vars) (sym (c_f (λ q. ne (e ∙ q)))) high_w))
          (λ (nf : i ≢ from). subst (λ x. x ≤ vars) (sym (c_o i ne nf)) (k.high i h)) (cases_eq i from)) (cases_eq i count);
    }

-- an open variable's place is after the assigned ones
pub open_place : (vars count v : ℕ) (cells : List Entry) (places : List ℕ) → ArePaired vars cells places → count ≤ vars → 1 ≤ v → v ≤ vars → IsOpenIn (take count cells) v → count ≤ get_or places v 0
open_place vars count v cells places k few lv hv open_v =
    ⊎_elim (λ (h : get_or places v 0 < count).
    let n : length (take count cells) ≡ count = length-take-le count cells (omega (arith, k.cell_count)) in
    absurd (open_v (get_or places v 0) (omega arith) (ap (λ (x : Entry). x.literal.variable) (at_take count (get_or places v 0) cells h) ∙ k.has v lv hv)))
    (λ (h : count ≤ get_or places v 0). h) (cases_lt (get_or places v 0) count)

-- cells that are paired with places are apart
pub paired_apart : (vars : ℕ) (cells : List Entry) (places : List ℕ) → ArePaired vars cells places → AreApart cells
paired_apart vars cells places k = record {
  once = λ i j hi hj e. sym (k.placed i (omega (arith, k.cell_count))) ∙ ap (λ v. get_or places v 0) e ∙ k.placed j (omega (arith, k.cell_count));
  within = λ i h. omega (arith, k.cell_count, k.high i (omega (arith, k.cell_count)));
}

-- the place of a variable that has a cell
pub place_is : (vars v i : ℕ) (cells : List Entry) (places : List ℕ) → ArePaired vars cells places → i < vars → var_at cells i ≡ v → get_or places v 0 ≡ i
place_is vars v i cells places k h e = ap (λ x. get_or places x 0) (sym e) ∙ k.placed i h
