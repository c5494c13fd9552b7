-- Rows to which some of the words of another are added.
use Rattle.std.proofs.Common.{◌≡◌, ℕ, ◌+◌, ◌*◌, ◌/◌, ◌%◌, ◌<◌, ◌≤◌, Bool, List, length, get_or, set, map, sym, ap, ◌∙◌, arith, inl, inr}
use Rattle.std.specs.Int.RustNames.{bit_xor}
use Rattle.std.specs.Int.Bits.{xor_zero_l}
use Rattle.std.specs.List.{range_with_len}
use Rattle.std.specs.Simd.Lanes.{zip2}
use Rattle.std.proofs.lemmas.Simd.{zip2-map}
use Rattle.std.proofs.lemmas.List.{get_or-set_same, get_or-set_other, length-set}
use Rattle.std.proofs.lemmas.Bool.{cases_lt}
use Rattle.cx_base.specs.Literals.{differ}
use Rattle.cx_base.proofs.ParityLaws.{differ_false}
use Rattle.gf2_rows.specs.Bits.{word_bit, bit_of, bits_of}
use Rattle.gf2_rows.specs.Few.{laid_out, AddsWithin}
use Rattle.gf2_rows.specs.Tables.{IsZeroOutside}
use Rattle.gf2_rows.proofs.Words.{range_same, word_bit-differ}
use Rattle.gf2_rows.proofs.Entries.{AreWithin, AreApart, laid_at, laid_none, laid_set, laid_push}
use Rattle.gf2_rows.proofs.PutWords.{no_bit}

-- ---- one word of few
-- the word has a place already
pub word_added : (len n : ℕ) (ps ws row : List ℕ) (i place word : ℕ) → laid_out len n ps ws ≡ row → AreWithin len n ps → AreApart n ps → i < n → n ≤ length ws → get_or ps i 0 ≡ place
    → laid_out len n ps (set ws i (bit_xor (get_or ws i 0) word)) ≡ set row place (bit_xor (get_or row place 0) word)
word_added len n ps ws row i place word view within apart lt room at =
    let all : List ℕ = laid_out len n ps ws in
    laid_set len n ps ws i (bit_xor (get_or ws i 0) word) apart lt room
    ∙ ap (λ w. set all (get_or ps i 0) (bit_xor w word)) (sym (laid_at len n ps ws i within apart lt))
    ∙ ap (λ p. set all p (bit_xor (get_or all p 0) word)) at
    ∙ ap (λ l. set l place (bit_xor (get_or l place 0) word)) view

-- the word gets a place
pub word_placed : (len n : ℕ) (ps ws row : List ℕ) (place word : ℕ) → laid_out len n ps ws ≡ row → n < length ps → n < length ws → ((i : ℕ) → i < n → get_or ps i 0 ≡ place → ⊥)
    → laid_out len (n + 1) (set ps n place) (set ws n word) ≡ set row place (bit_xor (get_or row place 0) word)
word_placed len n ps ws row place word view places words none =
    let all : List ℕ = laid_out len n ps ws in
    laid_push len n ps ws place word places words
    ∙ ap (λ w. set all place w) (sym (xor_zero_l word))
    ∙ ap (λ z. set all place (bit_xor z word)) (sym (laid_none len n ps ws place none))
    ∙ ap (λ l. set l place (bit_xor (get_or l place 0) word)) view

-- ---- words in turn
-- a word that is zero turns no bit
zero_turns : (a : Bool) (words : List ℕ) (k : ℕ) → get_or words (k / 64) 0 ≡ 0 → a ≡ differ a (bit_of words k)
zero_turns a words k none = sym (differ_false a) ∙ ap (differ a) (sym (ap (λ w. word_bit w (k % 64)) none ∙ no_bit (k % 64)))

pub adds_word : (old words new : List ℕ) (low at : ℕ) → low ≤ at → at < length new → AddsWithin old words low at new
    → AddsWithin old words low (at + 1) (set new at (bit_xor (get_or new at 0) (get_or words at 0)))
adds_word old words new low at order room h =
    let word : ℕ = bit_xor (get_or new at 0) (get_or words at 0) in
    let other = λ (k : ℕ) (ne : k / 64 ≡ at → ⊥). ap (λ w. word_bit w (k % 64)) (get_or-set_other new at (k / 64) word 0 ne) in
    record {
      len = length-set new at word ∙ h.len;
      added = λ k from to.
          elim (cases_lt k (64 * at)) [
            | inl lt ↦ other k (λ e. let f : k / 64 ≡ at = e in omega arith) ∙ h.added k from lt
            | inr ge ↦
                let e : k / 64 ≡ at = omega arith in
                ap (λ i. word_bit (get_or (set new at word) i 0) (k % 64)) e
                ∙ ap (λ w. word_bit w (k % 64)) (get_or-set_same new at word 0 room)
                ∙ word_bit-differ (get_or new at 0) (get_or words at 0) (k % 64)
                ∙ ap (λ i. differ (word_bit (get_or new i 0) (k % 64)) (word_bit (get_or words i 0) (k % 64))) (sym e)
                ∙ ap (λ b. differ b (bit_of words k)) (h.after k ge)
          ];
      before = λ k to. other k (λ e. let f : k / 64 ≡ at = e in omega arith) ∙ h.before k to;
      after = λ k from. other k (λ e. let f : k / 64 ≡ at = e in omega arith) ∙ h.after k (omega arith);
    }

-- some first, and then the others
pub adds_in_two : (old words mid new : List ℕ) (low at high : ℕ) → low ≤ at → at ≤ high → AddsWithin old words low at mid → AddsWithin mid words at high new → AddsWithin old words low high new
adds_in_two old words mid new low at high first rest p q = record {
  len = q.len ∙ p.len;
  added = λ k from to.
      elim (cases_lt k (64 * at)) [
        | inl lt ↦ q.before k lt ∙ p.added k from lt
        | inr ge ↦ q.added k ge to ∙ ap (λ b. differ b (bit_of words k)) (p.after k ge)
      ];
  before = λ k to. q.before k (omega arith) ∙ p.before k to;
  after = λ k from. q.after k from ∙ p.after k (omega arith);
}

-- ---- the sum of two rows
-- the sum of two rows, of which each bit is the sum of two bits
sum_of_bits : (new old other : List ℕ) → length new ≡ length old → length old ≡ length other
    → ((k : ℕ) → bit_of new k ≡ differ (bit_of old k) (bit_of other k)) → bits_of new ≡ zip2 differ (bits_of old) (bits_of other)
unfolding bits_of
sum_of_bits new old other same alike each =
    ap (λ n. map (bit_of new) (range_with_len 0 (64 * n))) same
    ∙ range_same (bit_of new) (λ k. differ (bit_of old k) (bit_of other k)) 0 (64 * length old) (λ k low high. each k)
    ∙ sym (zip2-map differ (bit_of old) (bit_of other) (range_with_len 0 (64 * length old)))
    ∙ ap (λ n. zip2 differ (bits_of old) (map (bit_of other) (range_with_len 0 (64 * n)))) alike

pub adds_all : (old words new : List ℕ) (low high : ℕ) → length words ≡ length old → IsZeroOutside words low high → AddsWithin old words low high new
    → bits_of new ≡ zip2 differ (bits_of old) (bits_of words)
adds_all old words new low high same zero h =
    sum_of_bits new old words h.len (sym same)
    (λ k.
    elim (cases_lt k (64 * low)) [
      | inl lt ↦ h.before k lt ∙ zero_turns (bit_of old k) words k (zero.before (k / 64) (omega arith))
      | inr ge ↦
          elim (cases_lt k (64 * high)) [
            | inl lt ↦ h.added k ge lt
            | inr past ↦ h.after k past ∙ zero_turns (bit_of old k) words k (zero.after (k / 64) (omega arith))
          ]
    ])
