-- What a trail keeps, and what its readers see of it.
use Rattle.std.proofs.Common.{◌≡◌, ◌≢◌, ℕ, ◌+◌, ◌*◌, ◌-◌, ◌<◌, ◌≤◌, List, [], ◌∷◌, ◌++◌, length, get_or, replicate, take, set, map, sym, ap, ◌∙◌, subst, refl, ⊎_elim, arith}
use Rattle.std.proofs.lemmas.List.{get_or_read, get_or-set_same, get_or-set_other, get_or-replicate, get_or_past, length-replicate, length-set, length-take-le, take-take, take-set-le, take_more_set}
use Rattle.std.proofs.lemmas.Bool.{cases_eq, cases_lt}
use Rattle.cx_base.specs.Literals.{Literal, negate, code_of}
use Rattle.cx_base.specs.declared.literal.TheConstants.{MAX_VARIABLE}
use Rattle.cx_trail.specs.declared.entry.Entry.{Entry}
use Rattle.cx_trail.specs.declared.entry.Reason.TheVariants.{Decision}
use Rattle.cx_trail.specs.declared.entry.Truth.{Truth}
use Rattle.cx_trail.specs.declared.entry.Truth.TheVariants.{True, False, Open}
use Rattle.cx_trail.specs.Sequence.{TrailState, IsTrail, IsOpenIn, IsFalseIn, IsAssignedIn, HasEntry, Means, TakesBack, IsFull, HasOpen, entry_at, no_entry}
use Rattle.cx_trail.specs.Cells.{ArePaired, AreApart, AreTruths, IsKept, var_at, truth_at}
use Rattle.cx_trail.proofs.CellLaws.{at_take, put_paired, open_place, paired_apart}
use Rattle.cx_trail.proofs.LevelLaws.{cut_levels}
use Rattle.cx_trail.proofs.TruthLaws.{means_at}
use Rattle.cx_trail.proofs.KeptLaws.{sound_from_kept, full_from_kept, open_from_kept, takes_back, push_kept, first_cells, first_places, fresh}
use Rattle.cx_trail.proofs.MappedLaws.{KeepsEntries, mapped_up_to, mapped_kept, mapped_front, as_long, variables_stay}

-- ---- two lists that begin alike
pub same_at : (len i : ℕ) (whole cells : List Entry) → take len whole ≡ take len cells → i < len → entry_at whole i ≡ entry_at cells i
same_at len i whole cells e h = sym (at_take len i whole h) ∙ ap (λ (xs : List Entry). entry_at xs i) e ∙ at_take len i cells h

shorter : (m len : ℕ) (whole cells : List Entry) → take len whole ≡ take len cells → m ≤ len → take m whole ≡ take m cells
shorter m len whole cells e le = sym (take-take m len whole le) ∙ ap (take m) e ∙ take-take m len cells le

all_open : (n k : ℕ) → truth_at (replicate n Open) k ≡ Open
all_open n k = ⊎_elim (λ (h : k < n). get_or-replicate n k Open Open h)
    (λ (h : n ≤ k). get_or_past (replicate n Open) k Open (omega (arith, length-replicate n Open))) (cases_lt k n)

-- no literal is assigned, so what the cells and the places are filled with says nothing
pub begins : (vars : ℕ) (cells : List Entry) (places : List ℕ) (truths : List Truth) → vars ≤ MAX_VARIABLE → length cells ≡ vars → length places ≡ vars + 1 → truths ≡ replicate (2 * vars + 2) Open → IsKept vars 0 0 cells places truths
begins vars cells places truths few room slots unset = record {
  whole = first_cells vars;
  spots = first_places vars;
  is_whole = fresh vars truths few (ap length unset ∙ length-replicate (2 * vars + 2) Open)
      (λ k. ap (λ (ts : List Truth). truth_at ts k) unset ∙ all_open (2 * vars + 2) k);
  begins = refl;
  room = room;
  slots = slots;
  placed = λ i h. absurd (omega arith);
}

module _ (vars level len : ℕ) (cells : List Entry) (places : List ℕ) (truths : List Truth) (k : IsKept vars level len cells places truths) where
  abbrev pub shown : List Entry → TrailState
  shown entries = record { variables = vars; level = level; entries = entries }

  -- ---- what the readers see
  pub front_sound : IsTrail (shown (take len cells))
  front_sound = subst (λ (es : List Entry). IsTrail (shown es)) k.begins (sound_from_kept vars level len k.whole k.spots truths k.is_whole)

  pub sound_shown : (t : TrailState) → shown (take len cells) ≡ t → IsTrail t
  sound_shown t view = subst IsTrail view front_sound

  pub front_full : len ≡ vars → IsFull (shown (take len cells))
  front_full e = subst (λ (es : List Entry). IsFull (shown es)) k.begins (full_from_kept vars level len k.whole k.spots truths k.is_whole e)

  pub front_open : len ≢ vars → HasOpen (shown (take len cells))
  front_open ne = subst (λ (es : List Entry). HasOpen (shown es)) k.begins (open_from_kept vars level len k.whole k.spots truths k.is_whole ne)

  pub front_means : (l : Literal) → 1 ≤ l.variable → l.variable ≤ vars → Means (take len cells) l (truth_at truths (code_of l))
  front_means l low high =
      subst (λ (es : List Entry). Means es l (truth_at truths (code_of l))) k.begins (means_at vars len k.whole k.spots truths l k.is_whole.paired k.is_whole.valued k.is_whole.short low high)

  long : length (take len cells) ≡ len
  long = length-take-le len cells (omega (arith, k.is_whole.short, k.room))

  pub cells_high : (i : ℕ) → i < len → var_at cells i ≤ length cells
  cells_high i h = omega (arith, ap (λ (x : Entry). x.literal.variable) (same_at len i k.whole cells k.begins h), k.is_whole.paired.high i (omega (arith, k.is_whole.short)), k.room)

  -- ---- places
  -- a false literal's negation is at its variable's place
  pub false_place : (l : Literal) → IsFalseIn (take len cells) l → (get_or places l.variable 0 < len) × ((entry_at (take len cells) (get_or places l.variable 0)).literal ≡ negate l)
  false_place l w =
      let n = long in
      let i = w.0 in
      let a : i < len = omega (arith, n, w.1.0) in
      let e : (entry_at (take len cells) i).literal ≡ negate l = w.1.1 in
      let z : get_or places l.variable 0 ≡ i = ap (λ x. get_or places x 0) (sym (ap (λ (x : Literal). x.variable) e) ∙ ap (λ (x : Entry). x.literal.variable) (at_take len i cells a)) ∙ k.placed i a in
      (subst (λ x. x < len) (sym z) a, subst (λ x. (entry_at (take len cells) x).literal ≡ negate l) (sym z) e)

  -- an assigned variable is within the number of variables, and its place is one of the first
  pub assigned_high : (v : ℕ) → IsAssignedIn (take len cells) v → v ≤ vars
  assigned_high v w = subst (λ x. x ≤ vars) w.2 (front_sound.high w.0 w.1)

  pub assigned_place : (v : ℕ) → IsAssignedIn (take len cells) v → get_or places v 0 < len
  assigned_place v w =
      let n = long in
      let a : w.0 < len = omega (arith, n, w.1) in
      let z : get_or places v 0 ≡ w.0 = ap (λ x. get_or places x 0) (sym w.2 ∙ ap (λ (x : Entry). x.literal.variable) (at_take len w.0 cells a)) ∙ k.placed w.0 a in
      subst (λ x. x < len) (sym z) a

  -- the cell at a variable's place is the variable's entry
  pub entry_of : (v place : ℕ) (found e : Entry) → place ≡ get_or places v 0 → found ≡ entry_at cells place → HasEntry (take len cells) v e → found ≡ e
  entry_of v place found e at is w =
      let n = long in
      let i = w.0 in
      let a : i < len = omega (arith, n, w.1) in
      let here : entry_at (take len cells) i ≡ e = w.2 in
      let z : get_or places v 0 ≡ i = ap (λ x. get_or places x 0) (sym w.3 ∙ ap (λ (x : Entry). x.literal.variable) (sym here ∙ at_take len i cells a)) ∙ k.placed i a in
      is ∙ ap (entry_at cells) (at ∙ z) ∙ sym (at_take len i cells a) ∙ here

  -- what is read at a false literal's variable is its place
  pub place_read : (v : ℕ) (l : Literal) (x : ℕ) → x ≡ get_or places v x → v ≡ l.variable → 1 ≤ v → IsFalseIn (take len cells) l → x ≡ get_or places l.variable 0
  place_read v l x read is low w =
      let assigned : IsAssignedIn (take len cells) l.variable = (w.0, w.1.0, ap (λ (y : Literal). y.variable) w.1.1) in
      let high : v ≤ vars = omega (arith, is, assigned_high l.variable assigned) in
      get_or_read places v x (omega (arith, k.slots)) read 0 ∙ ap (λ u. get_or places u 0) is

  -- ---- a cut
  module _ (new_level m : ℕ) (few : m ≤ len) (low : new_level ≤ level) (last_low : 0 < m → (entry_at cells (m - 1)).level ≤ new_level) (above : (i : ℕ) → m ≤ i → i < len → new_level < (entry_at cells i).level) where
    last_there : 0 < m → (entry_at k.whole (m - 1)).level ≤ new_level
    last_there some = subst (λ (x : Entry). x.level ≤ new_level) (sym (same_at len (m - 1) k.whole cells k.begins (omega arith))) (last_low some)

    above_there : (i : ℕ) → m ≤ i → i < len → new_level < (entry_at k.whole i).level
    above_there i from h = subst (λ (x : Entry). new_level < x.level) (sym (same_at len i k.whole cells k.begins h)) (above i from h)

    pub front_taken_back : TakesBack new_level (shown (take len cells)) (record { variables = vars; level = new_level; entries = take m cells })
    front_taken_back =
        subst (λ (es : List Entry). TakesBack new_level (shown es) (record { variables = vars; level = new_level; entries = take m cells })) k.begins
        (subst (λ (es : List Entry). TakesBack new_level (shown (take len k.whole)) (record { variables = vars; level = new_level; entries = es })) (shorter m len k.whole cells k.begins few)
        (takes_back vars level new_level len m k.whole k.spots truths k.is_whole few low last_there above_there))

    pub front_cut : (new_truths : List Truth) → AreTruths vars m k.whole new_truths → IsKept vars new_level m cells places new_truths
    front_cut new_truths valued = record {
      whole = k.whole;
      spots = k.spots;
      is_whole = record {
        few = k.is_whole.few;
        short = omega (arith, few, k.is_whole.short);
        paired = k.is_whole.paired;
        levels = cut_levels level new_level len m k.whole k.is_whole.levels few low last_there above_there;
        valued = valued;
      };
      begins = shorter m len k.whole cells k.begins few;
      room = k.room;
      slots = k.slots;
      placed = λ i h. k.placed i (omega arith);
    }

  -- what `cut` asks for, and what it leaves
  pub cut_count : len ≤ length cells
  cut_count = omega (arith, k.is_whole.short, k.room)

  pub cut_size : length truths ≡ 2 * length cells + 2
  cut_size = omega (arith, k.is_whole.valued.size, k.room)

  pub cut_high : (i : ℕ) → i < len → var_at cells i ≤ length cells
  cut_high i h =
      let few = k.is_whole.short in
      let same : var_at k.whole i ≡ var_at cells i = ap (λ (x : Entry). x.literal.variable) (same_at len i k.whole cells k.begins h) in
      omega (arith, same, k.room, k.is_whole.paired.high i (omega arith))

  pub truths_left : (m : ℕ) (read : List Entry) (new_truths : List Truth) → read ≡ cells
      → ((whole : List Entry) → AreApart whole → length whole ≡ length read → take len whole ≡ take len read → AreTruths (length whole) len whole truths → AreTruths (length whole) m whole new_truths)
      → AreTruths vars m k.whole new_truths
  truths_left m read new_truths e left =
      let all = k.is_whole.paired.cell_count in
      subst (λ n. AreTruths n m k.whole new_truths) all
      (left k.whole (paired_apart vars k.whole k.spots k.is_whole.paired) (all ∙ sym (ap length e ∙ k.room)) (k.begins ∙ sym (ap (take len) e))
      (subst (λ n. AreTruths n len k.whole truths) (sym all) k.is_whole.valued))

  -- ---- entries that are changed one by one
  pub front_mapped : (f : Entry → Entry) → KeepsEntries f → (new : List Entry) → new ≡ mapped_up_to f len cells → IsKept vars level len new places truths
  front_mapped f keeps new e =
      let few : len ≤ length cells = omega (arith, k.is_whole.short, k.room) in
      let few_there : len ≤ length k.whole = omega (arith, k.is_whole.short, k.is_whole.paired.cell_count) in
      record {
        whole = mapped_up_to f len k.whole;
        spots = k.spots;
        is_whole = mapped_kept f keeps vars level len k.whole (mapped_up_to f len k.whole) k.spots truths k.is_whole refl;
        begins = mapped_front f len k.whole (mapped_up_to f len k.whole) few_there refl ∙ ap (map f) k.begins ∙ sym (mapped_front f len cells new few e);
        room = ap length e ∙ as_long f len cells few ∙ k.room;
        slots = k.slots;
        placed = λ i h. ap (λ v. get_or places v 0) (ap (λ (xs : List Entry). var_at xs i) e ∙ variables_stay f keeps len cells i few) ∙ k.placed i h;
      }

  -- ---- a push
  module _ (new_level : ℕ) (entry : Entry) (low : 1 ≤ entry.literal.variable) (high : entry.literal.variable ≤ vars) (free : IsOpenIn (take len cells) entry.literal.variable) where
    abbrev pub v : ℕ
    v = entry.literal.variable

    behind : len ≤ get_or k.spots v 0
    behind = open_place vars len v k.whole k.spots k.is_whole.paired k.is_whole.short low high (subst (λ (es : List Entry). IsOpenIn es v) (sym k.begins) free)

    -- there is room for one more
    pub room_left : len < vars
    room_left = omega (arith, behind, k.is_whole.paired.in_cells v low high)

    pub front_pushed : entry.level ≡ new_level → level ≤ new_level → new_level ≤ level + 1 → (level < new_level → entry.reason ≡ Decision) → (0 < new_level → new_level ≡ level → entry.reason ≢ Decision)
        → IsKept vars new_level (len + 1) (set cells len entry) (set places v len) (set (set truths (code_of entry.literal) True) (code_of (negate entry.literal)) False)
    front_pushed is_level up step opens stays =
        let w = k.is_whole in
        let left = room_left in
        let from = get_or k.spots v 0 in
        let other = entry_at k.whole len in
        let moved = set k.whole from other in
        let whole = set moved len entry in
        let spots = set (set k.spots (var_at k.whole len) from) v len in
        let paired : ArePaired vars whole spots = put_paired vars k.whole k.spots len v from (var_at k.whole len) other entry w.paired low high behind refl refl refl refl in
        let inside : len < length moved = omega (arith, left, w.paired.cell_count, length-set k.whole from other) in
        let before : take len moved ≡ take len k.whole = take-set-le len k.whole from other behind in
        let kept : take len whole ≡ take len k.whole = take-set-le len moved len entry (omega arith) ∙ before in
        let put : entry_at whole len ≡ entry = get_or-set_same moved len entry no_entry inside in
        record {
          whole = whole;
          spots = spots;
          is_whole = push_kept vars level new_level len k.whole whole k.spots spots truths entry w (subst (λ n. ArePaired n whole spots) (sym w.paired.cell_count) paired) kept put (omega (arith, left, w.paired.cell_count)) behind high is_level up step opens stays;
          begins = take_more_set moved len entry inside ∙ ap (λ (xs : List Entry). xs ++ entry ∷ []) (before ∙ k.begins) ∙ sym (take_more_set cells len entry (omega (arith, left, k.room)));
          room = length-set cells len entry ∙ k.room;
          slots = length-set places v len ∙ k.slots;
          placed = λ i h. ⊎_elim
              (λ (e : i ≡ len).
              let mine : var_at (set cells len entry) i ≡ v = ap (var_at (set cells len entry)) e ∙ ap (λ (x : Entry). x.literal.variable) (get_or-set_same cells len entry no_entry (omega (arith, left, k.room))) in
              ap (λ x. get_or (set places v len) x 0) mine ∙ get_or-set_same places v len 0 (omega (arith, high, k.slots)) ∙ sym e)
              (λ (ne : i ≢ len).
              let a : i < len = omega arith in
              let same : var_at (set cells len entry) i ≡ var_at cells i = ap (λ (x : Entry). x.literal.variable) (get_or-set_other cells len i entry no_entry ne) in
              let n = long in
              let apart : var_at cells i ≢ v = λ q. free i (omega (arith, n, a)) (ap (λ (x : Entry). x.literal.variable) (at_take len i cells a) ∙ q) in
              ap (λ x. get_or (set places v len) x 0) same ∙ get_or-set_other places v (var_at cells i) len 0 apart ∙ k.placed i a) (cases_eq i len);
        }
