-- An order of all variables, and what it says of the trail that it begins with.
use Rattle.std.proofs.Common.{◌≡◌, ◌≢◌, ℕ, ◌+◌, ◌*◌, ◌-◌, ◌<◌, ◌≤◌, List, ◌++◌, false, map, length, get_or, take, drop, set, sym, ap, ◌∙◌, subst, refl, ⊎_elim, arith}
use Rattle.std.proofs.lemmas.List.{length-take-le, get_or-drop, take-append-drop, length-drop, take-take}
use Rattle.std.specs.List.{range_with_len}
use Rattle.std.proofs.lemmas.List.Elements.{All-from_get_or}
use Rattle.std.proofs.lemmas.List.FromFn.{get_or-map-range_with_len, length-map-range_with_len}
use Rattle.std.proofs.lemmas.Bool.{cases_lt}
use Rattle.cx_base.specs.Literals.{negate, code_of}
use Rattle.cx_base.specs.declared.literal.TheConstants.{MAX_VARIABLE}
use Rattle.cx_trail.specs.declared.entry.Entry.{Entry}
use Rattle.cx_trail.specs.declared.entry.Reason.TheVariants.{Decision}
use Rattle.cx_trail.specs.declared.entry.Truth.{Truth}
use Rattle.cx_trail.specs.declared.entry.Truth.TheVariants.{True, False, Open}
use Rattle.cx_trail.specs.Sequence.{IsTrail, entry_at, no_entry, TakesBack, IsFull, HasOpen}
use Rattle.cx_trail.specs.Cells.{ArePaired, AreLevels, IsWhole, var_at, truth_at}
use Rattle.cx_trail.proofs.CellLaws.{at_take}
use Rattle.cx_trail.proofs.LevelLaws.{level_count, last_level, push_levels, cut_levels}
use Rattle.cx_trail.proofs.TruthLaws.{put_truths}

newest_of_none : (level len : ℕ) (cells : List Entry) → AreLevels level len cells → len < 1 → (entry_at (take len cells) (length (take len cells) - 1)).level ≡ level
newest_of_none level len cells k z =
    let none : len ≡ 0 = omega arith in
    let zero : level ≡ 0 = omega (arith, level_count level len cells k) in
    subst (λ n. (entry_at (take n cells) (length (take n cells) - 1)).level ≡ level) (sym none) (sym zero)

pub sound_from_kept : (vars level len : ℕ) (cells : List Entry) (places : List ℕ) (truths : List Truth) → IsWhole vars level len cells places truths → IsTrail (record { variables = vars; level = level; entries = take len cells })
sound_from_kept vars level len cells places truths k =
    let n : length (take len cells) ≡ len = length-take-le len cells (omega (arith, k.short, k.paired.cell_count)) in
    record {
      few = k.few;
      short = omega (arith, k.short);
      distinct = λ i j hi hj e.
          let a : i < len = omega arith in
          let b : j < len = omega arith in
          let ei = at_take len i cells a in
          let ej = at_take len j cells b in
          let e' : var_at cells i ≡ var_at cells j = sym (ap (λ (x : Entry). x.literal.variable) ei) ∙ e ∙ ap (λ (x : Entry). x.literal.variable) ej in
          sym (k.paired.placed i (omega (arith, k.short))) ∙ ap (λ v. get_or places v 0) e' ∙ k.paired.placed j (omega (arith, k.short));
      low = λ i h. let a : i < len = omega arith in subst (λ (x : Entry). 1 ≤ x.literal.variable) (sym (at_take len i cells a)) (k.paired.low i (omega (arith, k.short)));
      high = λ i h. let a : i < len = omega arith in subst (λ (x : Entry). x.literal.variable ≤ vars) (sym (at_take len i cells a)) (k.paired.high i (omega (arith, k.short)));
      levels = λ i h. let a : i < len = omega arith in subst (λ (x : Entry). x.level ≤ level) (sym (at_take len i cells a)) (k.levels.top i a);
      rising = λ i j h hj.
          let b : j < len = omega arith in
          let a : i < len = omega arith in
          subst (λ (x : Entry). x.level ≤ (entry_at (take len cells) j).level) (sym (at_take len i cells a))
          (subst (λ (x : Entry). (entry_at cells i).level ≤ x.level) (sym (at_take len j cells b)) (k.levels.rising i j h b));
      deep = omega (arith, level_count level len cells k.levels);
      newest = ⊎_elim (λ (z : len < 1). newest_of_none level len cells k.levels z)
          (λ (some : 1 ≤ len).
          let last : length (take len cells) - 1 ≡ len - 1 = omega arith in
          ap (λ i. (entry_at (take len cells) i).level) last ∙ ap (λ (x : Entry). x.level) (at_take len (len - 1) cells (omega arith)) ∙ last_level level len cells k.levels some) (cases_lt len 1);
      opens = λ i j lt hj pos dec.
          let b : j < len = omega arith in
          let a : i < len = omega arith in
          let ei = ap (λ (x : Entry). x.level) (at_take len i cells a) in
          let ej = ap (λ (x : Entry). x.level) (at_take len j cells b) in
          omega (arith, ei, ej, k.levels.opens i j lt b (omega (arith, ej)) (ap (λ (x : Entry). x.reason) (sym (at_take len j cells b)) ∙ dec));
      decided = λ l some le. let w = k.levels.decided l some le in
          let e = at_take len w.0 cells w.1 in
          (w.0, omega (arith, w.1), ap (λ (x : Entry). x.level) e ∙ w.2, ap (λ (x : Entry). x.reason) e ∙ w.3);
    }

pub takes_back : (vars level new_level count m : ℕ) (cells : List Entry) (places : List ℕ) (truths : List Truth) → IsWhole vars level count cells places truths → m ≤ count → new_level ≤ level → (0 < m → (entry_at cells (m - 1)).level ≤ new_level) → ((i : ℕ) → m ≤ i → i < count → new_level < (entry_at cells i).level) → TakesBack new_level (record { variables = vars; level = level; entries = take count cells }) (record { variables = vars; level = new_level; entries = take m cells })
takes_back vars level new_level count m cells places truths k few low last_low above =
    let lv = cut_levels level new_level count m cells k.levels few low last_low above in
    let e : take m (take count cells) ≡ take m cells = take-take m count cells few in
    let nm : length (take m cells) ≡ m = length-take-le m cells (omega (arith, k.short, k.paired.cell_count)) in
    let nc : length (take count cells) ≡ count = length-take-le count cells (omega (arith, k.short, k.paired.cell_count)) in
    record {
      variables = refl;
      level = refl;
      dropped = drop m (take count cells);
      parts = sym (take-append-drop m (take count cells)) ∙ ap (λ (xs : List Entry). xs ++ drop m (take count cells)) e;
      kept_low = All-from_get_or (λ (x : Entry). x.level ≤ new_level) (take m cells) no_entry (λ i h. let a : i < m = omega arith in subst (λ (x : Entry). x.level ≤ new_level) (sym (at_take m i cells a)) (lv.top i a));
      dropped_high = All-from_get_or (λ (x : Entry). new_level < x.level) (drop m (take count cells)) no_entry
          (λ i h. let n = length-drop m (take count cells) in
          let a : m + i < count = omega arith in
          subst (λ (x : Entry). new_level < x.level) (sym (get_or-drop m (take count cells) i no_entry ∙ at_take count (m + i) cells a)) (above (m + i) (omega arith) a));
    }

pub push_kept : (vars level new_level count : ℕ) (cells new_cells : List Entry) (places new_places : List ℕ) (truths : List Truth) (entry : Entry) → IsWhole vars level count cells places truths → ArePaired (length cells) new_cells new_places → take count new_cells ≡ take count cells → entry_at new_cells count ≡ entry → count < length cells
    → count ≤ get_or places entry.literal.variable 0 → entry.literal.variable ≤ vars → entry.level ≡ new_level → level ≤ new_level → new_level ≤ level + 1 → (level < new_level → entry.reason ≡ Decision) → (0 < new_level → new_level ≡ level → entry.reason ≢ Decision)
    → IsWhole vars new_level (count + 1) new_cells new_places (set (set truths (code_of entry.literal) True) (code_of (negate entry.literal)) False)
push_kept vars level new_level count cells new_cells places new_places truths entry k paired same put room free high is_level up step opens stays =
    let paired' : ArePaired vars new_cells new_places = subst (λ n. ArePaired n new_cells new_places) k.paired.cell_count paired in
    record {
      few = k.few;
      short = omega (arith, k.paired.cell_count);
      paired = paired';
      levels = push_levels level new_level count cells new_cells entry k.levels same put is_level up step opens stays;
      valued = put_truths vars count cells new_cells places new_places truths entry.literal k.paired paired' k.valued same (ap (λ (x : Entry). x.literal) put) (omega (arith, k.paired.cell_count)) free high;
    }

-- ---- the order of all variables before the first assignment
abbrev first_entry : ℕ → Entry
first_entry i = record { literal = record { variable = i + 1; negative = false }; level = 0; reason = Decision }

abbrev pub first_cells : ℕ → List Entry
first_cells vars = map first_entry (range_with_len 0 vars)

abbrev pub first_places : ℕ → List ℕ
first_places vars = map (λ v. v - 1) (range_with_len 0 (vars + 1))

first_cell : (vars i : ℕ) → i < vars → var_at (first_cells vars) i ≡ i + 1
first_cell vars i h = ap (λ (x : Entry). x.literal.variable) (get_or-map-range_with_len first_entry 0 vars i i no_entry h (omega arith))

first_place : (vars i : ℕ) → i < vars → get_or (first_places vars) (i + 1) 0 ≡ i
first_place vars i h = omega (arith, get_or-map-range_with_len (λ v. v - 1) 0 (vars + 1) (i + 1) (i + 1) 0 (omega arith) (omega arith))

pub fresh : (vars : ℕ) (truths : List Truth) → vars ≤ MAX_VARIABLE → length truths ≡ 2 * vars + 2 → ((k : ℕ) → truth_at truths k ≡ Open) → IsWhole vars 0 0 (first_cells vars) (first_places vars) truths
fresh vars truths few size unset =
    record {
      few = few;
      short = omega arith;
      paired = record {
        cell_count = length-map-range_with_len first_entry 0 vars;
        place_count = length-map-range_with_len (λ v. v - 1) 0 (vars + 1);
        in_cells = λ v a b. let z : v - 1 + 1 ≡ v = omega arith in
            subst (λ x. get_or (first_places vars) x 0 < vars) z (subst (λ x. x < vars) (sym (first_place vars (v - 1) (omega arith))) (omega arith));
        has = λ v a b. let z : v - 1 + 1 ≡ v = omega arith in
            subst (λ x. var_at (first_cells vars) (get_or (first_places vars) x 0) ≡ x) z (ap (var_at (first_cells vars)) (first_place vars (v - 1) (omega arith)) ∙ first_cell vars (v - 1) (omega arith));
        placed = λ i h. ap (λ x. get_or (first_places vars) x 0) (first_cell vars i h) ∙ first_place vars i h;
        low = λ i h. subst (λ x. 1 ≤ x) (sym (first_cell vars i h)) (omega arith);
        high = λ i h. subst (λ x. x ≤ vars) (sym (first_cell vars i h)) (omega arith);
      };
      levels = record {
        top = λ i h. absurd (omega arith);
        rising = λ i j h g. absurd (omega arith);
        low = λ i h. absurd (omega arith);
        opens = λ i j h g. absurd (omega arith);
        decided = λ n some le. absurd (omega arith);
      };
      valued = record {
        size = size;
        held = λ i h. absurd (omega arith);
        denied = λ i h. absurd (omega arith);
        unset = λ i from h l e. unset (code_of l);
      };
    }

pub full_from_kept : (vars level count : ℕ) (cells : List Entry) (places : List ℕ) (truths : List Truth) → IsWhole vars level count cells places truths → count ≡ vars → IsFull (record { variables = vars; level = level; entries = take count cells })
full_from_kept vars level count cells places truths k e v low high =
    let n : length (take count cells) ≡ count = length-take-le count cells (omega (arith, k.short, k.paired.cell_count)) in
    let here : get_or places v 0 < count = omega (arith, k.paired.in_cells v low high) in
    (get_or places v 0, omega arith, ap (λ (x : Entry). x.literal.variable) (at_take count (get_or places v 0) cells here) ∙ k.paired.has v low high)

pub open_from_kept : (vars level count : ℕ) (cells : List Entry) (places : List ℕ) (truths : List Truth) → IsWhole vars level count cells places truths → count ≢ vars → HasOpen (record { variables = vars; level = level; entries = take count cells })
open_from_kept vars level count cells places truths k ne =
    let n : length (take count cells) ≡ count = length-take-le count cells (omega (arith, k.short, k.paired.cell_count)) in
    let c : count < vars = omega (arith, k.short) in (
      var_at cells count,
      k.paired.low count c,
      k.paired.high count c,
      λ i h q.
          let b : i < count = omega arith in
          let same : var_at cells i ≡ var_at cells count = sym (ap (λ (x : Entry). x.literal.variable) (at_take count i cells b)) ∙ q in
          let z : i ≡ count = sym (k.paired.placed i (omega arith)) ∙ ap (λ x. get_or places x 0) same ∙ k.paired.placed count c in
          omega arith,
    )
