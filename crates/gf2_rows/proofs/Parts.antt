-- A row as a part of the pool.
use Rattle.std.proofs.Common.{◌≡◌, ℕ, ◌+◌, ◌-◌, ◌*◌, ◌/◌, ◌%◌, ◌<◌, ◌≤◌, ◌++◌, min, List, length, get_or, set, take, drop, replicate, refl, subst, sym, ap, ◌∙◌, Some, None, ◌⊎◌, arith, inl, inr}
use Rattle.std.proofs.lemmas.List.{ext_get_or, get_or-set_same, get_or-set_other, length-set, length-append, length-take, length-drop, get_or-take, get_or-drop, get_or-append-add, length-replicate, set-append_left}
use Rattle.std.proofs.Math.ListN.{get_or-append}
use Rattle.std.proofs.Math.Seq.{take-append_seam}
use Rattle.std.specs.Simd.Lanes.{zip2}
use borrow.Rule.Slice.PartMut.{mid_of, post_of, put_mid}
use Rattle.std.proofs.lemmas.Bool.{cases_eq, cases_lt}
use Rattle.cx_base.specs.Literals.{differ}
use Rattle.gf2_rows.specs.declared.head.Layout.{Layout}
use Rattle.gf2_rows.specs.declared.head.Layout.TheVariants.{Few, Short, Whole}
use Rattle.gf2_rows.specs.Bits.{word_bit, bit_of, bits_of}
use Rattle.gf2_rows.specs.Few.{AddsWithin, AddsPart, padded}
use Rattle.gf2_rows.specs.Heads.{words_from, begin_of, extent_in, IsShort}
use Rattle.gf2_rows.proofs.Words.{bit_past_end, bit_of_sum}
use Rattle.gf2_rows.proofs.Laying.{length-part, get_or-part, padded_at}

-- a word of a part changes
pub part-set : (pool : List ℕ) (n s p v : ℕ) → s + n ≤ length pool → p < n → take n (drop s (set pool (s + p) v)) ≡ set (take n (drop s pool)) p v
part-set pool n s p v room lt =
    let new : List ℕ = set pool (s + p) v in
    let words : List ℕ = take n (drop s pool) in
    let same_long : length new ≡ length pool = length-set pool (s + p) v in
    let long : length (take n (drop s new)) ≡ n = length-part new n s (omega arith) in
    let before : length words ≡ n = length-part pool n s room in
    ext_get_or 0 (take n (drop s new)) (set words p v) (long ∙ sym before ∙ sym (length-set words p v))
    (λ i h.
    let in' : i < n = omega arith in
    get_or-part new n s i in'
    ∙ elim (cases_eq i p) as (λ _. get_or new (s + i) 0 ≡ get_or (set words p v) i 0) [
      | inl e ↦
          let inside : s + p < length pool = omega arith in
          let inside' : p < length words = omega arith in
          rw e (get_or-set_same pool (s + p) v 0 inside ∙ sym (get_or-set_same words p v 0 inside'))
      | inr ne ↦
          get_or-set_other pool (s + p) (s + i) v 0 (λ e. ne (let f : s + i ≡ s + p = e in omega arith))
          ∙ sym (get_or-part pool n s i in') ∙ sym (get_or-set_other words p i v 0 ne)
    ])

bit_of_part : (xs : List ℕ) (n s k : ℕ) → k < 64 * n → bit_of (take n (drop s xs)) k ≡ bit_of xs (64 * s + k)
bit_of_part xs n s k lt =
    let q : s + k / 64 ≡ (64 * s + k) / 64 = omega arith in
    let r : k % 64 ≡ (64 * s + k) % 64 = omega arith in
    ap (λ w. word_bit w (k % 64)) (get_or-part xs n s (k / 64) (omega arith)) ∙ ap (λ i. word_bit (get_or xs i 0) (k % 64)) q
    ∙ ap (word_bit (get_or xs ((64 * s + k) / 64) 0)) r

-- words are added to some of a part
module _ (pool new words : List ℕ) (n s low high : ℕ) (room : s + n ≤ length pool) (order : low ≤ high) (within : high ≤ n) (same : n ≤ length words)
    (adds : AddsPart pool (s + low) (take (high - low) (drop low words)) new) where
  part_long : length (take (high - low) (drop low words)) ≡ high - low
  part_long = length-part words (high - low) low (omega arith)

  same_word : (i : ℕ) → i < n → (i < low) ⊎ (high ≤ i) → get_or (take n (drop s new)) i 0 ≡ get_or (take n (drop s pool)) i 0
  same_word i lt out =
      get_or-part new n s i lt
      ∙ elim out as (λ _. get_or new (s + i) 0 ≡ get_or pool (s + i) 0) [
        | inl before ↦ adds.before (s + i) (omega arith)
        | inr past ↦ adds.after (s + i) (let l = part_long in omega arith)
      ]
      ∙ sym (get_or-part pool n s i lt)

  new_long : length (take n (drop s new)) ≡ n
  new_long = length-part new n s (let l = adds.len in omega arith)

  old_long : length (take n (drop s pool)) ≡ n
  old_long = length-part pool n s room

  added_bit : (k : ℕ) → 64 * low ≤ k → k < 64 * high → bit_of (take n (drop s new)) k ≡ differ (bit_of (take n (drop s pool)) k) (bit_of words k)
  added_bit k from to =
      let m : ℕ = k - 64 * low in
      let in_row : k < 64 * n = omega arith in
      let in_words : m < 64 * (high - low) = omega arith in
      let in_part : m < 64 * length (take (high - low) (drop low words)) = let l = part_long in omega arith in
      let at : 64 * (s + low) + m ≡ 64 * s + k = omega arith in
      let back : 64 * low + m ≡ k = omega arith in
      bit_of_part new n s k in_row ∙ ap (bit_of new) (sym at) ∙ adds.added m in_part
      ∙ ap (λ b. differ (bit_of pool (64 * (s + low) + m)) b) (bit_of_part words (high - low) low m in_words ∙ ap (bit_of words) back)
      ∙ ap (λ i. differ (bit_of pool i) (bit_of words k)) at
      ∙ ap (λ b. differ b (bit_of words k)) (sym (bit_of_part pool n s k in_row))

  pub part_added : AddsWithin (take n (drop s pool)) words low high (take n (drop s new))
  part_added = record {
    len = new_long ∙ sym old_long;
    added = added_bit;
    before = λ k to. ap (λ w. word_bit w (k % 64)) (same_word (k / 64) (omega arith) (inl (omega arith)));
    after = λ k from.
        elim (cases_lt (k / 64) n) [
          | inl lt ↦ ap (λ w. word_bit w (k % 64)) (same_word (k / 64) lt (inr (omega arith)))
          | inr ge ↦
              bit_past_end (take n (drop s new)) k (let l = new_long in omega arith) ∙ sym (bit_past_end (take n (drop s pool)) k (let l = old_long in omega arith))
        ];
  }

-- ---- words of a row that is laid out
bit_padded : (n : ℕ) (xs : List ℕ) (k : ℕ) → bit_of (padded n xs) k ≡ bit_of xs k
bit_padded n xs k = ap (λ w. word_bit w (k % 64)) (padded_at n xs (k / 64))

adds_padded : (n : ℕ) (old new words : List ℕ) (low high : ℕ) → AddsWithin old words low high new → AddsWithin (padded n old) words low high (padded n new)
adds_padded n old new words low high h = record {
  len = let l = h.len in omega (arith, length-append old (replicate (n - length old) 0), length-append new (replicate (n - length new) 0), length-replicate {A = ℕ} (n - length old) 0, length-replicate {A = ℕ} (n - length new) 0);
  added = λ k from to. bit_padded n new k ∙ h.added k from to ∙ ap (λ b. differ b (bit_of words k)) (sym (bit_padded n old k));
  before = λ k to. bit_padded n new k ∙ h.before k to ∙ sym (bit_padded n old k);
  after = λ k from. bit_padded n new k ∙ h.after k from ∙ sym (bit_padded n old k);
}

pub added_from : (pool new few words : List ℕ) (layout : Layout) (start low high : ℕ) → begin_of layout ≡ Some start → start + extent_in few layout ≤ length pool → IsShort few layout
    → low ≤ high → high ≤ extent_in few layout → length words ≡ length few → AddsPart pool (start + low) (take (high - low) (drop low words)) new
    → AddsWithin (words_from pool few layout) words low high (words_from new few layout)
added_from pool new few words Few start low high begins room short order within same adds = let n : None ≡ Some start = begins in absurd (cc)
added_from pool new few words (Short s n) start low high begins room short order within same adds =
    let at : start ≡ s = let b : Some s ≡ Some start = begins in cc in
    let many = short s n refl in
    let its : AddsPart pool (s + low) (take (high - low) (drop low words)) new = subst (λ k. AddsPart pool (k + low) (take (high - low) (drop low words)) new) at adds in
    adds_padded (length few) (take n (drop s pool)) (take n (drop s new)) words low high (part_added pool new words n s low high (omega arith) order within (omega arith) its)
added_from pool new few words (Whole s) start low high begins room short order within same adds =
    let at : start ≡ s = let b : Some s ≡ Some start = begins in cc in
    let its : AddsPart pool (s + low) (take (high - low) (drop low words)) new = subst (λ k. AddsPart pool (k + low) (take (high - low) (drop low words)) new) at adds in
    part_added pool new words (length few) s low high (omega arith) order within (omega arith) its

padded-set : (n : ℕ) (xs : List ℕ) (p v : ℕ) → p < length xs → padded n (set xs p v) ≡ set (padded n xs) p v
padded-set n xs p v lt = ap (λ k. set xs p v ++ replicate (n - k) 0) (length-set xs p v) ∙ sym (set-append_left xs (replicate (n - length xs) 0) p v lt)

-- a word of such a row
pub word_from : (pool few : List ℕ) (layout : Layout) (start p : ℕ) → begin_of layout ≡ Some start → p < extent_in few layout → get_or (words_from pool few layout) p 0 ≡ get_or pool (start + p) 0
word_from pool few Few start p begins lt = let n : None ≡ Some start = begins in absurd (cc)
word_from pool few (Short s n) start p begins lt =
    let at : s ≡ start = let b : Some s ≡ Some start = begins in cc in
    padded_at (length few) (take n (drop s pool)) p ∙ get_or-part pool n s p lt ∙ ap (λ k. get_or pool (k + p) 0) at
word_from pool few (Whole s) start p begins lt =
    let at : s ≡ start = let b : Some s ≡ Some start = begins in cc in
    get_or-part pool (length few) s p lt ∙ ap (λ k. get_or pool (k + p) 0) at

pub set_from : (pool few : List ℕ) (layout : Layout) (start p v : ℕ) → begin_of layout ≡ Some start → start + extent_in few layout ≤ length pool → p < extent_in few layout
    → words_from (set pool (start + p) v) few layout ≡ set (words_from pool few layout) p v
set_from pool few Few start p v begins room lt = let n : None ≡ Some start = begins in absurd (cc)
set_from pool few (Short s n) start p v begins room lt =
    let at : start ≡ s = let b : Some s ≡ Some start = begins in cc in
    let long = length-part pool n s (omega arith) in
    ap (λ k. padded (length few) (take n (drop s (set pool (k + p) v)))) at
    ∙ ap (padded (length few)) (part-set pool n s p v (omega arith) lt) ∙ padded-set (length few) (take n (drop s pool)) p v (omega arith)
set_from pool few (Whole s) start p v begins room lt =
    let at : start ≡ s = let b : Some s ≡ Some start = begins in cc in
    ap (λ k. take (length few) (drop s (set pool (k + p) v))) at ∙ part-set pool (length few) s p v (omega arith) lt

-- ---- words are added to a part
module _ (pool words sub : List ℕ) (start n : ℕ) (many : n ≡ length words) (room : start + n ≤ length pool) (long : length sub ≡ n)
    (sum : bits_of sub ≡ zip2 differ (bits_of (mid_of start n pool)) (bits_of words)) where
  front_long : length (take start pool) ≡ start
  front_long = length-take start pool ∙ (let m : min start (length pool) ≡ start = omega arith in m)

  mid_long : length (mid_of start n pool) ≡ n
  mid_long = length-part pool n start room

  post_long : length (post_of start n pool) ≡ length pool - start - n
  post_long = length-drop n (drop start pool) ∙ ap (λ k. k - n) (length-drop start pool)

  all_long : length (put_mid start n pool sub) ≡ length pool
  all_long =
      let a = length-append (take start pool) (sub ++ post_of start n pool) in
      let b = length-append sub (post_of start n pool) in
      let f = front_long in
      let p = post_long in
      omega (arith, a, b, f, p)

  word_before : (q : ℕ) → q < start → get_or (put_mid start n pool sub) q 0 ≡ get_or pool q 0
  word_before q lt = get_or-append (take start pool) (sub ++ post_of start n pool) 0 q (let f = front_long in omega arith) ∙ get_or-take start pool q 0 lt

  word_within : (j : ℕ) → j < n → get_or (put_mid start n pool sub) (start + j) 0 ≡ get_or sub j 0
  word_within j lt =
      ap (λ k. get_or (put_mid start n pool sub) (k + j) 0) (sym front_long)
      ∙ get_or-append-add (take start pool) (sub ++ post_of start n pool) j 0
      ∙ get_or-append sub (post_of start n pool) 0 j (omega arith)

  word_after : (q : ℕ) → start + length words ≤ q → get_or (put_mid start n pool sub) q 0 ≡ get_or pool q 0
  word_after q ge =
      let j : ℕ = q - (start + n) in
      let at : q ≡ length (take start pool) + (length sub + j) = let f = front_long in omega arith in
      let back : start + (n + j) ≡ q = omega arith in
      ap (λ k. get_or (put_mid start n pool sub) k 0) at
      ∙ get_or-append-add (take start pool) (sub ++ post_of start n pool) (length sub + j) 0
      ∙ get_or-append-add sub (post_of start n pool) j 0
      ∙ get_or-drop n (drop start pool) j 0 ∙ get_or-drop start pool (n + j) 0 ∙ ap (λ k. get_or pool k 0) back

  bit_within : (k : ℕ) → k < 64 * length words → bit_of (put_mid start n pool sub) (64 * start + k) ≡ differ (bit_of pool (64 * start + k)) (bit_of words k)
  bit_within k lt =
      let q : (64 * start + k) / 64 ≡ start + k / 64 = omega arith in
      let r : (64 * start + k) % 64 ≡ k % 64 = omega arith in
      ap (λ i. word_bit (get_or (put_mid start n pool sub) i 0) ((64 * start + k) % 64)) q
      ∙ ap (word_bit (get_or (put_mid start n pool sub) (start + k / 64) 0)) r
      ∙ ap (λ w. word_bit w (k % 64)) (word_within (k / 64) (omega arith))
      ∙ bit_of_sum sub (mid_of start n pool) words (long ∙ sym mid_long) (mid_long ∙ many) sum k
      ∙ ap (λ b. differ b (bit_of words k)) (bit_of_part pool n start k (omega arith))

  pub part_summed : AddsPart pool start words (put_mid start n pool sub)
  part_summed = record {
    len = all_long;
    added = bit_within;
    before = word_before;
    after = word_after;
  }

-- what a vector has once all its elements were written
pub vec_write : (old new : List ℕ) (len : ℕ) → len ≡ length new → take len (new ++ drop (length new) old) ≡ new
vec_write old new len e = ap (λ n. take n (new ++ drop (length new) old)) e ∙ take-append_seam new (drop (length new) old)
