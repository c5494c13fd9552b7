-- A cursor in a list of nodes, and the list when the node at the cursor is gone.
use Rattle.std.proofs.Common.{◌≡◌, ◌≢◌, ℕ, zero, suc, ◌<◌, ◌+◌, ◌-◌, ◌≤◌, Bool, false, List, [], ◌∷◌, length, get_or, set, map, sym, ap, ◌∙◌, subst, refl, ⊎_elim, arith}
use Rattle.std.specs.List.{Contains, remove}
use Rattle.std.proofs.lemmas.Bool.{cases_eq, cases_lt}
use Rattle.std.proofs.lemmas.List.{get_or_read, get_or_past, get_or-set_same, get_or-set_other, length-set, length-map}
use Rattle.std.proofs.lemmas.List.Edits.{length-remove, get_or-remove_below, get_or-remove_above}
use Rattle.std.proofs.lemmas.List.Elements.{Contains-get_or}
use Rattle.cx_base.specs.Literals.{code_of, Literal}
use Rattle.cx_base.proofs.Elements.{in_head, in_tail}
use Rattle.watch_lists.specs.declared.lists.Cursor.{Cursor}
use Rattle.watch_lists.specs.declared.lists.ListHead.{ListHead}
use Rattle.watch_lists.specs.Lists.{list_at, list_of, IsCursor, IsUnlinked, StandsNowhere}
use Rattle.watch_lists.specs.Links.{nodes_from, nodes_of, HasNoRepeat, AreApart, AreChains, HaveFlags, AreFlagged}
use Rattle.watch_lists.proofs.MemberLaws.{in_cases, none_in}
use Rattle.watch_lists.proofs.ChainLaws.{nodes_from-set, length-nodes_from, list_is, list_past, head_list, few_distinct}

-- the node after one of a chain
link_is : (next : List ℕ) (n k i : ℕ) → suc i < k → get_or (nodes_from next n k) (suc i) 0 ≡ get_or next (get_or (nodes_from next n k) i 0) 0
link_is next n zero i h = absurd (omega arith)
link_is next n (suc zero) i h = absurd (omega arith)
link_is next n (suc (suc k)) zero h = refl
link_is next n (suc (suc k)) (suc i) h = link_is next (get_or next n 0) (suc k) i (omega arith)

-- where the link of a node leads past the next one, this one is gone from the chain
cut_chain : (next : List ℕ) (n k p : ℕ) → p < k → HasNoRepeat (nodes_from next n (suc k)) → ((q : ℕ) → Contains (nodes_from next n (suc k)) q → q < length next)
    → nodes_from (set next (get_or (nodes_from next n (suc k)) p 0) (get_or next (get_or (nodes_from next n (suc k)) (suc p) 0) 0)) n k ≡ remove (nodes_from next n (suc k)) (suc p)
cut_chain next n zero p h d b = absurd (omega arith)
cut_chain next n (suc k) zero h d b =
    let m = get_or next n 0 in
    let after = get_or next (get_or next n 0) 0 in
    let here : get_or (set next n after) n 0 ≡ after = get_or-set_same next n after 0 (b n (in_head n (nodes_from next m (suc k)))) in
    let none : Contains (nodes_from next after k) n → ⊥ = λ h. d.0 (in_tail m (nodes_from next after k) n h) in
    ap (λ y. n ∷ nodes_from (set next n after) y k) here ∙ ap (λ (ys : List ℕ). n ∷ ys) (nodes_from-set next after k n after none)
cut_chain next n (suc k) (suc p) h d b =
    let m = get_or next n 0 in
    let ys = nodes_from next m (suc k) in
    let previous = get_or ys p 0 in
    let after = get_or next (get_or ys (suc p) 0) 0 in
    let ne : n ≢ previous = λ e. d.0 (subst (Contains ys) (sym e) (Contains-get_or ys p 0 (omega (arith, length-nodes_from next m (suc k))))) in
    let same : get_or (set next previous after) n 0 ≡ m = get_or-set_other next previous n after 0 ne in
    ap (λ y. n ∷ nodes_from (set next previous after) y k) same ∙ ap (λ (zs : List ℕ). n ∷ zs) (cut_chain next m k p (omega arith) d.1 (λ q h. b q (in_tail n ys q h)))

-- a list without one of its nodes
pub in_removed : (xs : List ℕ) (i n : ℕ) → Contains (remove xs i) n → Contains xs n
in_removed [] zero n h = h
in_removed [] (suc i) n h = h
in_removed (x ∷ xs) zero n h = in_tail x xs n h
in_removed (x ∷ xs) (suc i) n h = ⊎_elim (λ (e : x ≡ n). subst (Contains (x ∷ xs)) e (in_head x xs)) (λ (r : Contains (remove xs i) n). in_tail x xs n (in_removed xs i n r)) (in_cases x n (remove xs i) h)

no_repeat_removed : (xs : List ℕ) (i : ℕ) → HasNoRepeat xs → HasNoRepeat (remove xs i)
no_repeat_removed [] zero d = tt
no_repeat_removed [] (suc i) d = tt
no_repeat_removed (x ∷ xs) zero d = d.1
no_repeat_removed (x ∷ xs) (suc i) d = (λ h. d.0 (in_removed xs i x h), no_repeat_removed xs i d.1)

removed_out : (xs : List ℕ) (i : ℕ) → i < length xs → HasNoRepeat xs → Contains (remove xs i) (get_or xs i 0) → ⊥
removed_out [] i b d h = absurd (omega arith)
removed_out (x ∷ xs) zero b d h = d.0 h
removed_out (x ∷ xs) (suc i) b d h =
    let inside : i < length xs = omega arith in
    ⊎_elim (λ (e : x ≡ get_or xs i 0). d.0 (subst (Contains xs) (sym e) (Contains-get_or xs i 0 inside))) (λ (r : Contains (remove xs i) (get_or xs i 0)). removed_out xs i inside d.1 r) (in_cases x (get_or xs i 0) (remove xs i) h)

pub stays_in : (xs : List ℕ) (i n : ℕ) → n ≢ get_or xs i 0 → Contains xs n → Contains (remove xs i) n
stays_in [] i n ne h = absurd (none_in [] n refl h)
stays_in (x ∷ xs) zero n ne h = ⊎_elim (λ (e : x ≡ n). absurd (ne (sym e))) (λ (r : Contains xs n). r) (in_cases x n xs h)
stays_in (x ∷ xs) (suc i) n ne h = ⊎_elim (λ (e : x ≡ n). subst (Contains (x ∷ remove xs i)) e (in_head x (remove xs i))) (λ (r : Contains xs n). in_tail x (remove xs i) n (stays_in xs i n ne r)) (in_cases x n xs h)

pub current_in : (lists : List (List ℕ)) (c : Cursor) → IsCursor lists c → 0 < c.left → Contains (list_of lists c) c.current
current_in lists c k some = subst (Contains (list_of lists c)) (k.current some) (Contains-get_or (list_of lists c) c.passed 0 (omega (arith, k.parts)))

pub previous_in : (lists : List (List ℕ)) (c : Cursor) → IsCursor lists c → 0 < c.passed → Contains (list_of lists c) c.previous
previous_in lists c k some = subst (Contains (list_of lists c)) (k.previous some) (Contains-get_or (list_of lists c) (c.passed - 1) 0 (omega (arith, k.parts)))

-- a list that has a node is one of the lists
pub list_has : (lists : List (List ℕ)) (l n : ℕ) → Contains (list_at lists l) n → l < length lists
list_has lists l n h = ⊎_elim (λ (b : l < length lists). b) (λ (b : length lists ≤ l). absurd (none_in (list_at lists l) n (get_or_past lists l [] b) h)) (cases_lt l (length lists))

-- a cursor is in front of a node of its list
pub record CanPass (next : List ℕ) (heads : List ListHead) (c : Cursor) : Type 0 where
  pub chains : AreChains next heads
  pub cursor : IsCursor (map (nodes_of next) heads) c
  pub some : 0 < c.left

pub can_pass : (next : List ℕ) (heads : List ListHead) (shown : List (List ℕ)) (c : Cursor) → AreChains next heads → map (nodes_of next) heads ≡ shown → IsCursor shown c → 0 < c.left → CanPass next heads c
can_pass next heads shown c k view cursor some = record { chains = k; cursor = subst (λ (x : List (List ℕ)). IsCursor x c) (sym view) cursor; some = some }

pub current_below : (next : List ℕ) (heads : List ListHead) (c : Cursor) → CanPass next heads c → c.current < length next
current_below next heads c m = m.chains.apart.below (code_of c.literal) c.current (current_in _ c m.cursor m.some)

pub previous_below : (next : List ℕ) (heads : List ListHead) (c : Cursor) → CanPass next heads c → 0 < c.passed → c.previous < length next
previous_below next heads c m b = m.chains.apart.below (code_of c.literal) c.previous (previous_in _ c m.cursor b)

pub head_in : (next : List ℕ) (heads : List ListHead) (c : Cursor) → CanPass next heads c → code_of c.literal < length heads
head_in next heads c m = omega (arith, list_has (map (nodes_of next) heads) (code_of c.literal) c.current (current_in _ c m.cursor m.some), length-map heads (nodes_of next))

pub list_is_chain : (next : List ℕ) (heads : List ListHead) (c : Cursor) (head : ListHead) → CanPass next heads c → head ≡ get_or heads (code_of c.literal) head → list_of (map (nodes_of next) heads) c ≡ nodes_from next head.first head.count
list_is_chain next heads c head m e = head_list next heads (code_of c.literal) head head (head_in next heads c m) e

-- the node after the next one
behind_is : (next : List ℕ) (heads : List ListHead) (c : Cursor) (after : ℕ) → CanPass next heads c → after ≡ get_or next c.current 0 → 1 < c.left → get_or (list_of (map (nodes_of next) heads) c) (c.passed + 1) 0 ≡ after
behind_is next heads c after m read more =
    let lists = map (nodes_of next) heads in
    let d : ListHead = record { first = 0; count = 0 } in
    let head = get_or heads (code_of c.literal) d in
    let is : list_of lists c ≡ nodes_from next head.first head.count = list_is next heads (code_of c.literal) d (head_in next heads c m) in
    let up : c.passed + 1 ≡ suc c.passed = omega arith in
    let long : suc c.passed < head.count = omega (arith, m.cursor.parts, ap length is, length-nodes_from next head.first head.count) in
    let here : get_or (nodes_from next head.first head.count) c.passed 0 ≡ c.current = ap (λ (xs : List ℕ). get_or xs c.passed 0) (sym is) ∙ m.cursor.current m.some in
    ap (λ (xs : List ℕ). get_or xs (c.passed + 1) 0) is ∙ ap (λ i. get_or (nodes_from next head.first head.count) i 0) up
    ∙ link_is next head.first head.count c.passed long ∙ ap (λ i. get_or next i 0) here ∙ sym read

pub cursor_past : (next : List ℕ) (heads : List ListHead) (c : Cursor) (after : ℕ) → CanPass next heads c → after ≡ get_or next c.current after
    → IsCursor (map (nodes_of next) heads) (record { literal = c.literal; passed = c.passed + 1; previous = c.current; current = after; left = c.left - 1 })
cursor_past next heads c after m read =
    let read0 = get_or_read next c.current after (current_below next heads c m) read 0 in
    let one : c.passed + 1 - 1 ≡ c.passed = omega arith in
    record {
      parts = omega (arith, m.cursor.parts, m.some);
      current = λ h. behind_is next heads c after m read0 (omega arith);
      previous = λ h. ap (λ i. get_or (list_of (map (nodes_of next) heads) c) i 0) one ∙ m.cursor.current m.some;
    }

-- the next node is the first one, and the list begins after it
pub unlinked_front : (next : List ℕ) (heads : List ListHead) (c : Cursor) (head : ListHead) (after : ℕ) → CanPass next heads c → head ≡ get_or heads (code_of c.literal) head → after ≡ get_or next c.current after → c.passed ≡ 0
    → IsUnlinked c (map (nodes_of next) heads) (map (nodes_of next) (set heads (code_of c.literal) (record { first = after; count = head.count - 1 })))
unlinked_front next heads c head after m e read z =
    let l = code_of c.literal in
    let inside : l < length heads = head_in next heads c m in
    let h2 : ListHead = record { first = after; count = head.count - 1 } in
    let hs2 = set heads l h2 in
    let n2 : length hs2 ≡ length heads = length-set heads l h2 in
    let is = list_is_chain next heads c head m e in
    let nz : head.count ≡ suc (head.count - 1) = omega (arith, m.cursor.parts, m.some, ap length is, length-nodes_from next head.first head.count) in
    let split : list_of (map (nodes_of next) heads) c ≡ head.first ∷ nodes_from next (get_or next head.first 0) (head.count - 1) = is ∙ ap (nodes_from next head.first) nz in
    let here : head.first ≡ c.current = sym (ap (λ (xs : List ℕ). get_or xs 0 0) split) ∙ ap (λ i. get_or (list_of (map (nodes_of next) heads) c) i 0) (sym z) ∙ m.cursor.current m.some in
    let behind : get_or next head.first 0 ≡ after = ap (λ i. get_or next i 0) here ∙ sym (get_or_read next c.current after (current_below next heads c m) read 0) in
    record {
      left = list_is next hs2 l head (omega arith) ∙ ap (nodes_of next) (get_or-set_same heads l h2 head inside) ∙ ap (λ y. nodes_from next y (head.count - 1)) (sym behind)
          ∙ ap (λ (xs : List ℕ). remove xs 0) (sym split) ∙ ap (remove (list_of (map (nodes_of next) heads) c)) (sym z);
      others = λ k a. ⊎_elim
          (λ (h : k < length heads). list_is next hs2 k head (omega arith) ∙ ap (nodes_of next) (get_or-set_other heads l k h2 head a) ∙ sym (list_is next heads k head h))
          (λ (h : length heads ≤ k). list_past next hs2 k (omega arith) ∙ sym (list_past next heads k h)) (cases_lt k (length heads));
      count = omega (arith, length-map hs2 (nodes_of next), length-map heads (nodes_of next));
    }

-- the node before the next one leads past it
pub unlinked_behind : (next : List ℕ) (heads : List ListHead) (c : Cursor) (head : ListHead) (after : ℕ) → CanPass next heads c → head ≡ get_or heads (code_of c.literal) head → after ≡ get_or next c.current after → 0 < c.passed
    → IsUnlinked c (map (nodes_of next) heads) (map (nodes_of (set next c.previous after)) (set heads (code_of c.literal) (record { first = head.first; count = head.count - 1 })))
unlinked_behind next heads c head after m e read some =
    let l = code_of c.literal in
    let lists = map (nodes_of next) heads in
    let inside : l < length heads = head_in next heads c m in
    let h2 : ListHead = record { first = head.first; count = head.count - 1 } in
    let hs2 = set heads l h2 in
    let next2 = set next c.previous after in
    let n2 : length hs2 ≡ length heads = length-set heads l h2 in
    let is = list_is_chain next heads c head m e in
    let counted = length-nodes_from next head.first head.count in
    let nz : head.count ≡ suc (head.count - 1) = omega (arith, m.cursor.parts, m.some, ap length is, counted) in
    let low : c.passed - 1 < head.count - 1 = omega (arith, m.cursor.parts, m.some, ap length is, counted) in
    let is' : list_of lists c ≡ nodes_from next head.first (suc (head.count - 1)) = is ∙ ap (nodes_from next head.first) nz in
    let chain = nodes_from next head.first (suc (head.count - 1)) in
    let up : suc (c.passed - 1) ≡ c.passed = omega arith in
    let before : get_or chain (c.passed - 1) 0 ≡ c.previous = ap (λ (xs : List ℕ). get_or xs (c.passed - 1) 0) (sym is') ∙ m.cursor.previous some in
    let here : get_or chain (suc (c.passed - 1)) 0 ≡ c.current = ap (λ (xs : List ℕ). get_or xs (suc (c.passed - 1)) 0) (sym is') ∙ ap (λ i. get_or (list_of lists c) i 0) up ∙ m.cursor.current m.some in
    let behind : get_or next (get_or chain (suc (c.passed - 1)) 0) 0 ≡ after = ap (λ i. get_or next i 0) here ∙ sym (get_or_read next c.current after (current_below next heads c m) read 0) in
    let distinct = subst HasNoRepeat is' (m.chains.apart.once l) in
    let cut = cut_chain next head.first (head.count - 1) (c.passed - 1) low distinct (λ q h. m.chains.apart.below l q (subst (λ (xs : List ℕ). Contains xs q) (sym is') h)) in
    let cut' : nodes_from (set next c.previous after) head.first (head.count - 1) ≡ remove (list_of lists c) c.passed =
    ap (λ y. nodes_from (set next y after) head.first (head.count - 1)) (sym before) ∙ ap (λ y. nodes_from (set next (get_or chain (c.passed - 1) 0) y) head.first (head.count - 1)) (sym behind)
    ∙ cut ∙ ap (λ (xs : List ℕ). remove xs (suc (c.passed - 1))) (sym is') ∙ ap (remove (list_of lists c)) up in
    record {
      left = list_is next2 hs2 l head (omega arith) ∙ ap (nodes_of next2) (get_or-set_same heads l h2 head inside) ∙ cut';
      others = λ k a. ⊎_elim
          (λ (h : k < length heads).
          let none : Contains (nodes_of next (get_or heads k head)) c.previous → ⊥ = λ g. a (m.chains.apart.alone k l c.previous (subst (λ (ys : List ℕ). Contains ys c.previous) (sym (list_is next heads k head h)) g) (previous_in lists c m.cursor some)) in
          list_is next2 hs2 k head (omega arith) ∙ ap (nodes_of next2) (get_or-set_other heads l k h2 head a) ∙ nodes_from-set next (get_or heads k head).first (get_or heads k head).count c.previous after none ∙ sym (list_is next heads k head h))
          (λ (h : length heads ≤ k). list_past next2 hs2 k (omega arith) ∙ sym (list_past next heads k h)) (cases_lt k (length heads));
      count = omega (arith, length-map hs2 (nodes_of next2), length-map heads (nodes_of next));
    }

-- what is in a list now was in it before
pub unlinked_back : (c : Cursor) (old new : List (List ℕ)) → IsUnlinked c old new → (l n : ℕ) → Contains (list_at new l) n → Contains (list_at old l) n
unlinked_back c old new u l n h = ⊎_elim
    (λ (e : l ≡ code_of c.literal). subst (λ x. Contains (list_at old x) n) (sym e) (in_removed (list_of old c) c.passed n (subst (λ (xs : List ℕ). Contains xs n) u.left (subst (λ x. Contains (list_at new x) n) e h))))
    (λ (ne : l ≢ code_of c.literal). subst (λ (xs : List ℕ). Contains xs n) (u.others l ne) h) (cases_eq l (code_of c.literal))

pub unlinked_apart : (nodes : ℕ) (c : Cursor) (old new : List (List ℕ)) → IsUnlinked c old new → AreApart nodes old → AreApart nodes new
unlinked_apart nodes c old new u k = record {
  below = λ l n h. k.below l n (unlinked_back c old new u l n h);
  once = λ l. ⊎_elim
      (λ (e : l ≡ code_of c.literal). subst (λ x. HasNoRepeat (list_at new x)) (sym e) (subst HasNoRepeat (sym u.left) (no_repeat_removed (list_of old c) c.passed (k.once (code_of c.literal)))))
      (λ (ne : l ≢ code_of c.literal). subst HasNoRepeat (sym (u.others l ne)) (k.once l)) (cases_eq l (code_of c.literal));
  alone = λ l m n h g. k.alone l m n (unlinked_back c old new u l n h) (unlinked_back c old new u m n g);
}

pub unlinked_free : (nodes : ℕ) (c : Cursor) (old new : List (List ℕ)) → IsUnlinked c old new → AreApart nodes old → IsCursor old c → 0 < c.left → StandsNowhere new c.current
unlinked_free nodes c old new u k cursor some l h =
    let mine = current_in old c cursor some in
    let e : l ≡ code_of c.literal = k.alone l (code_of c.literal) c.current (unlinked_back c old new u l c.current h) mine in
    let r : Contains (remove (list_of old c) c.passed) c.current = subst (λ (xs : List ℕ). Contains xs c.current) u.left (subst (λ x. Contains (list_at new x) c.current) e h) in
    removed_out (list_of old c) c.passed (omega (arith, cursor.parts)) (k.once (code_of c.literal)) (subst (Contains (remove (list_of old c) c.passed)) (sym (cursor.current some)) r)

pub unlinked_cursor : (next : List ℕ) (heads : List ListHead) (c : Cursor) (after : ℕ) (new : List (List ℕ)) → CanPass next heads c → after ≡ get_or next c.current after → IsUnlinked c (map (nodes_of next) heads) new
    → IsCursor new (record { literal = c.literal; passed = c.passed; previous = c.previous; current = after; left = c.left - 1 })
unlinked_cursor next heads c after new m read u =
    let read0 = get_or_read next c.current after (current_below next heads c m) read 0 in
    let xs = list_of (map (nodes_of next) heads) c in
    let inside : c.passed < length xs = omega (arith, m.cursor.parts, m.some) in
    record {
      parts = omega (arith, m.cursor.parts, m.some, ap length u.left, length-remove xs c.passed inside);
      current = λ h. ap (λ (ys : List ℕ). get_or ys c.passed 0) u.left ∙ get_or-remove_above xs c.passed 0 c.passed (omega arith) inside ∙ behind_is next heads c after m read0 (omega arith);
      previous = λ h. ap (λ (ys : List ℕ). get_or ys (c.passed - 1) 0) u.left ∙ get_or-remove_below xs c.passed 0 (c.passed - 1) (omega arith) inside ∙ m.cursor.previous h;
    }

pub unlinked_flags : (c : Cursor) (old new : List (List ℕ)) (flags : List Bool) → IsUnlinked c old new → HaveFlags old flags → HaveFlags new flags
unlinked_flags c old new flags u k l n h = k l n (unlinked_back c old new u l n h)

-- the flag of a node that is in no list may be cleared
pub released_flags : (lists : List (List ℕ)) (flags : List Bool) (node : ℕ) → StandsNowhere lists node → HaveFlags lists flags → HaveFlags lists (set flags node false)
released_flags lists flags node free k l n h = get_or-set_other flags node n false false (λ e. free l (subst (Contains (list_at lists l)) e h)) ∙ k l n h

pub list_short : (next : List ℕ) (heads : List ListHead) (c : Cursor) → CanPass next heads c → c.passed + 1 ≤ length next
list_short next heads c m =
    let lists = map (nodes_of next) heads in
    omega (arith, m.cursor.parts, m.some, few_distinct (length next) (list_of lists c) (m.chains.apart.once (code_of c.literal)) (λ q h. m.chains.apart.below (code_of c.literal) q h))

pub cursor_front : (next : List ℕ) (heads : List ListHead) (l : Literal) (head : ListHead) → code_of l < length heads → head ≡ get_or heads (code_of l) head
    → IsCursor (map (nodes_of next) heads) (record { literal = l; passed = 0; previous = 0; current = head.first; left = head.count })
cursor_front next heads l head inside e =
    let is = head_list next heads (code_of l) head head inside e in
    record {
      parts = omega (arith, ap length is, length-nodes_from next head.first head.count);
      current = λ h.
          let s : head.count ≡ suc (head.count - 1) = omega arith in
          ap (λ (xs : List ℕ). get_or xs 0 0) (is ∙ ap (nodes_from next head.first) s);
      previous = λ h. absurd (omega arith);
    }

-- `unlinked_front`, where the list's place is named otherwise
pub unlinked_front_at : (next : List ℕ) (heads : List ListHead) (c : Cursor) (l : ℕ) (head : ListHead) (after : ℕ) → CanPass next heads c → l ≡ code_of c.literal → head ≡ get_or heads l head → after ≡ get_or next c.current after → c.passed ≡ 0
    → IsUnlinked c (map (nodes_of next) heads) (map (nodes_of next) (set heads l (record { first = after; count = head.count - 1 })))
unlinked_front_at next heads c l head after m el e read z =
    subst (λ x. IsUnlinked c (map (nodes_of next) heads) (map (nodes_of next) (set heads x (record { first = after; count = head.count - 1 })))) (sym el)
    (unlinked_front next heads c head after m (e ∙ ap (λ x. get_or heads x head) el) read z)

pub unlinked_behind_at : (next : List ℕ) (heads : List ListHead) (c : Cursor) (l : ℕ) (head : ListHead) (after : ℕ) → CanPass next heads c → l ≡ code_of c.literal → head ≡ get_or heads l head → after ≡ get_or next c.current after → 0 < c.passed
    → IsUnlinked c (map (nodes_of next) heads) (map (nodes_of (set next c.previous after)) (set heads l (record { first = head.first; count = head.count - 1 })))
unlinked_behind_at next heads c l head after m el e read some =
    subst (λ x. IsUnlinked c (map (nodes_of next) heads) (map (nodes_of (set next c.previous after)) (set heads x (record { first = head.first; count = head.count - 1 })))) (sym el)
    (unlinked_behind next heads c head after m (e ∙ ap (λ x. get_or heads x head) el) read some)

pub unlinked_flagged : (next next2 : List ℕ) (heads heads2 : List ListHead) (flags : List Bool) (c : Cursor) → length next2 ≡ length next → IsUnlinked c (map (nodes_of next) heads) (map (nodes_of next2) heads2) → AreFlagged next heads flags → AreFlagged next2 heads2 flags
unlinked_flagged next next2 heads heads2 flags c long u k = record {
  chains = record {
    few = omega (arith, k.chains.few);
    apart = subst (λ x. AreApart x (map (nodes_of next2) heads2)) (sym long) (unlinked_apart (length next) c _ _ u k.chains.apart);
  };
  enough = omega (arith, k.enough);
  told = unlinked_flags c _ _ flags u k.told;
}

pub head_counts : (next : List ℕ) (heads : List ListHead) (c : Cursor) (l : ℕ) (head : ListHead) → CanPass next heads c → l ≡ code_of c.literal → head ≡ get_or heads l head → 1 ≤ head.count
head_counts next heads c l head m el e =
    let is = list_is_chain next heads c head m (e ∙ ap (λ x. get_or heads x head) el) in
    omega (arith, m.cursor.parts, m.some, ap length is, length-nodes_from next head.first head.count)
