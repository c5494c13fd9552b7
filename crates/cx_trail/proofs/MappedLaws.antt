-- What a trail keeps, with entries changed one by one: literals and levels stay, and so do the decisions above level 0.
use Rattle.std.proofs.Common.{◌≡◌, ℕ, ◌+◌, ◌-◌, ◌<◌, ◌≤◌, List, ◌++◌, length, get_or, map, take, drop, sym, ap, ◌∙◌, subst, ⊎_elim, arith}
use Rattle.std.proofs.lemmas.Bool.{cases_lt}
use Rattle.std.proofs.lemmas.List.{get_or_append_left, get_or-append_right, get_or-map, get_or-drop, length-map, length-append, length-drop, length-take-le, take-append-le, take_all}
use Rattle.cx_base.specs.Literals.{Literal, negate, code_of}
use Rattle.cx_trail.specs.declared.entry.Entry.{Entry}
use Rattle.cx_trail.specs.declared.entry.Reason.TheVariants.{Decision}
use Rattle.cx_trail.specs.declared.entry.Truth.{Truth}
use Rattle.cx_trail.specs.Sequence.{entry_at, no_entry}
use Rattle.cx_trail.specs.Cells.{IsWhole, var_at, truth_at}
use Rattle.cx_trail.proofs.CellLaws.{at_take}

-- a change of entries that a trail stays one under
pub record KeepsEntries (f : Entry → Entry) : Type 0 where
  pub literals : (e : Entry) → (f e).literal ≡ e.literal
  pub levels : (e : Entry) → (f e).level ≡ e.level
  pub decided : (e : Entry) → e.reason ≡ Decision → (f e).reason ≡ Decision
  pub undecided : (e : Entry) → 0 < e.level → (f e).reason ≡ Decision → e.reason ≡ Decision

-- both have the same literals and levels, and above level 0 the same decisions
record AreAlike (old new : List Entry) : Type 0 where
  size : length new ≡ length old
  literals : (i : ℕ) → (entry_at new i).literal ≡ (entry_at old i).literal
  levels : (i : ℕ) → (entry_at new i).level ≡ (entry_at old i).level
  decided : (i : ℕ) → (entry_at old i).reason ≡ Decision → (entry_at new i).reason ≡ Decision
  undecided : (i : ℕ) → 0 < (entry_at old i).level → (entry_at new i).reason ≡ Decision → (entry_at old i).reason ≡ Decision

alike_kept : (vars level len : ℕ) (cells new : List Entry) (places : List ℕ) (truths : List Truth) → AreAlike cells new → IsWhole vars level len cells places truths → IsWhole vars level len new places truths
alike_kept vars level len cells new places truths a k =
    let var : (i : ℕ) → var_at new i ≡ var_at cells i = λ i. ap (λ (l : Literal). l.variable) (a.literals i) in
    record {
      few = k.few;
      short = k.short;
      paired = record {
        cell_count = a.size ∙ k.paired.cell_count;
        place_count = k.paired.place_count;
        in_cells = k.paired.in_cells;
        has = λ v low high. var (get_or places v 0) ∙ k.paired.has v low high;
        placed = λ i h. ap (λ v. get_or places v 0) (var i) ∙ k.paired.placed i h;
        low = λ i h. subst (λ v. 1 ≤ v) (sym (var i)) (k.paired.low i h);
        high = λ i h. subst (λ v. v ≤ vars) (sym (var i)) (k.paired.high i h);
      };
      levels = record {
        top = λ i h. subst (λ v. v ≤ level) (sym (a.levels i)) (k.levels.top i h);
        rising = λ i j le h. omega (arith, a.levels i, a.levels j, k.levels.rising i j le h);
        low = λ i h. subst (λ v. v ≤ i + 1) (sym (a.levels i)) (k.levels.low i h);
        opens = λ i j less h some d. omega (arith, a.levels i, a.levels j, k.levels.opens i j less h (omega (arith, a.levels j)) (a.undecided j (omega (arith, a.levels j)) d));
        decided = λ n some few. let w = k.levels.decided n some few in (w.0, w.1, a.levels w.0 ∙ w.2, a.decided w.0 w.3);
      };
      valued = record {
        size = k.valued.size;
        held = λ i h. ap (λ (l : Literal). truth_at truths (code_of l)) (a.literals i) ∙ k.valued.held i h;
        denied = λ i h. ap (λ (l : Literal). truth_at truths (code_of (negate l))) (a.literals i) ∙ k.valued.denied i h;
        unset = λ i low high l e. k.valued.unset i low high l (e ∙ var i);
      };
    }

-- ---- the first n changed
abbrev pub mapped_up_to : (Entry → Entry) → ℕ → List Entry → List Entry
mapped_up_to f n cells = map f (take n cells) ++ drop n cells

front_long : (f : Entry → Entry) (n : ℕ) (cells : List Entry) → n ≤ length cells → length (map f (take n cells)) ≡ n
front_long f n cells few = length-map (take n cells) f ∙ length-take-le n cells few

pub as_long : (f : Entry → Entry) (n : ℕ) (cells : List Entry) → n ≤ length cells → length (mapped_up_to f n cells) ≡ length cells
as_long f n cells few =
    let a = length-append (map f (take n cells)) (drop n cells) in
    let b = front_long f n cells few in
    let c = length-drop n cells in
    omega (arith, a, b, c)

within : (f : Entry → Entry) (n : ℕ) (cells : List Entry) (i : ℕ) → n ≤ length cells → i < n → entry_at (mapped_up_to f n cells) i ≡ f (entry_at cells i)
within f n cells i few h =
    get_or_append_left (map f (take n cells)) (drop n cells) no_entry i (omega (arith, front_long f n cells few))
    ∙ get_or-map f (take n cells) i no_entry no_entry (omega (arith, length-take-le n cells few))
    ∙ ap f (at_take n i cells h)

past : (f : Entry → Entry) (n : ℕ) (cells : List Entry) (i : ℕ) → n ≤ length cells → n ≤ i → entry_at (mapped_up_to f n cells) i ≡ entry_at cells i
past f n cells i few h =
    let back : n + (i - n) ≡ i = omega arith in
    get_or-append_right (map f (take n cells)) (drop n cells) n i no_entry (front_long f n cells few) h
    ∙ get_or-drop n cells (i - n) no_entry ∙ ap (entry_at cells) back

are_alike : (f : Entry → Entry) → KeepsEntries f → (n : ℕ) (cells : List Entry) → n ≤ length cells → AreAlike cells (mapped_up_to f n cells)
are_alike f keeps n cells few = record {
  size = as_long f n cells few;
  literals = λ i. ⊎_elim
      (λ (h : i < n). ap (λ (x : Entry). x.literal) (within f n cells i few h) ∙ keeps.literals (entry_at cells i))
      (λ (h : n ≤ i). ap (λ (x : Entry). x.literal) (past f n cells i few h)) (cases_lt i n);
  levels = λ i. ⊎_elim
      (λ (h : i < n). ap (λ (x : Entry). x.level) (within f n cells i few h) ∙ keeps.levels (entry_at cells i))
      (λ (h : n ≤ i). ap (λ (x : Entry). x.level) (past f n cells i few h)) (cases_lt i n);
  decided = λ i d. ⊎_elim
      (λ (h : i < n). ap (λ (x : Entry). x.reason) (within f n cells i few h) ∙ keeps.decided (entry_at cells i) d)
      (λ (h : n ≤ i). ap (λ (x : Entry). x.reason) (past f n cells i few h) ∙ d) (cases_lt i n);
  undecided = λ i some d. ⊎_elim
      (λ (h : i < n). keeps.undecided (entry_at cells i) some (sym (ap (λ (x : Entry). x.reason) (within f n cells i few h)) ∙ d))
      (λ (h : n ≤ i). sym (ap (λ (x : Entry). x.reason) (past f n cells i few h)) ∙ d) (cases_lt i n);
}

module _ (f : Entry → Entry) (keeps : KeepsEntries f) where
  pub variables_stay : (n : ℕ) (cells : List Entry) (i : ℕ) → n ≤ length cells → var_at (mapped_up_to f n cells) i ≡ var_at cells i
  variables_stay n cells i few = ap (λ (l : Literal). l.variable) ((are_alike f keeps n cells few).literals i)

  pub mapped_kept : (vars level len : ℕ) (cells new : List Entry) (places : List ℕ) (truths : List Truth) → IsWhole vars level len cells places truths → new ≡ mapped_up_to f len cells → IsWhole vars level len new places truths
  mapped_kept vars level len cells new places truths k e =
      let few : len ≤ length cells = omega (arith, k.short, k.paired.cell_count) in
      subst (λ (xs : List Entry). IsWhole vars level len xs places truths) (sym e) (alike_kept vars level len cells (mapped_up_to f len cells) places truths (are_alike f keeps len cells few) k)

pub mapped_front : (f : Entry → Entry) (len : ℕ) (cells new : List Entry) → len ≤ length cells → new ≡ mapped_up_to f len cells → take len new ≡ map f (take len cells)
mapped_front f len cells new few e =
    let long = front_long f len cells few in
    ap (take len) e
    ∙ take-append-le len (map f (take len cells)) (drop len cells) (omega (arith, long))
    ∙ take_all len (map f (take len cells)) (omega (arith, long))
