-- The words of a row's bits and of its sources.
use Rattle.std.proofs.Common.{◌≡◌, ℕ, ◌+◌, ◌-◌, ◌*◌, ◌/◌, ◌%◌, ◌<◌, ◌≤◌, Bool, true, false, cond, eqb, nat_eq, min, List, [], ◌++◌, take, drop, length, get_or, replicate, refl, sym, ap, ◌∙◌, subst, arith, inl, inr}
use Rattle.std.proofs.lemmas.List.{append-nil, nil_from_length, length-append, length-take, length-drop, get_or-take, get_or-drop, get_or-append-add, ext_get_or, get_or-replicate, length-replicate}
use Rattle.std.proofs.Math.ListN.{get_or-append, get_or-eq_default}
use Rattle.std.proofs.Math.Seq.{take-append_seam, drop-append_seam}
use Rattle.std.proofs.lemmas.Bool.{cases_eq, cases_lt, le-leb, lt-leb, eq-eqb, ne_eqb}
use Rattle.std.proofs.lemmas.Nat.Bits.{bit_at-zero}
use Rattle.cx_base.specs.Literals.{differ}
use Rattle.gf2_rows.specs.declared.few.TheConstants.{FEW}
use Rattle.gf2_rows.specs.Bits.{bit_of, word_bit}
use Rattle.gf2_rows.specs.Tables.{AreOtherWords, IsZeroOutside}
use Rattle.gf2_rows.proofs.Words.{bit_past_end}
use Rattle.gf2_matrix.specs.Stretches.{AreJoined, IsSplit, first_count, apart_count, sources_in}

-- ---- bits of parts
pub bit_of_front : (xs ys : List ℕ) (k : ℕ) → k < 64 * length xs → bit_of (xs ++ ys) k ≡ bit_of xs k
bit_of_front xs ys k lt = ap (λ w. word_bit w (k % 64)) (get_or-append xs ys 0 (k / 64) (omega arith))

pub bit_of_back : (xs ys : List ℕ) (k : ℕ) → 64 * length xs ≤ k → bit_of (xs ++ ys) k ≡ bit_of ys (k - 64 * length xs)
bit_of_back xs ys k ge =
    let j : ℕ = k - 64 * length xs in
    let at : k / 64 ≡ length xs + j / 64 = omega arith in
    let rest : k % 64 ≡ j % 64 = omega arith in
    ap (λ i. word_bit (get_or (xs ++ ys) i 0) (k % 64)) at
    ∙ ap (λ w. word_bit w (k % 64)) (get_or-append-add xs ys (j / 64) 0)
    ∙ ap (word_bit (get_or ys (j / 64) 0)) rest

pub bit_of_take : (n : ℕ) (xs : List ℕ) (k : ℕ) → k < 64 * n → bit_of (take n xs) k ≡ bit_of xs k
bit_of_take n xs k lt = ap (λ w. word_bit w (k % 64)) (get_or-take n xs (k / 64) 0 (omega arith))

pub bit_past_take : (n : ℕ) (xs : List ℕ) (k : ℕ) → 64 * n ≤ k → bit_of (take n xs) k ≡ false
bit_past_take n xs k ge = bit_past_end (take n xs) k (let l = length-take n xs in omega arith)

pub bit_of_drop : (n : ℕ) (xs : List ℕ) (k : ℕ) → bit_of (drop n xs) k ≡ bit_of xs (64 * n + k)
bit_of_drop n xs k =
    let at : n + k / 64 ≡ (64 * n + k) / 64 = omega arith in
    let rest : k % 64 ≡ (64 * n + k) % 64 = omega arith in
    ap (λ w. word_bit w (k % 64)) (get_or-drop n xs (k / 64) 0)
    ∙ ap (λ i. word_bit (get_or xs i 0) (k % 64)) at
    ∙ ap (word_bit (get_or xs ((64 * n + k) / 64) 0)) rest

-- ---- how many words there are
pub length_of_bits : (n : ℕ) (words : List ℕ) → n ≤ length words → length (take n words) ≡ n
length_of_bits n words within = let l = length-take n words in omega arith

pub length_of_sources : (n : ℕ) (words apart : List ℕ) → length (sources_in n words apart) ≡ (length words - n) + length apart
length_of_sources n words apart = length-append (drop n words) apart ∙ ap (λ l. l + length apart) (length-drop n words)

-- what is split by its lengths alone
pub split_kept : (n : ℕ) (words apart new new_apart : List ℕ) → IsSplit n words apart → length new ≡ length words → length new_apart ≡ length apart → IsSplit n new new_apart
split_kept n words apart new new_apart is long apart_long = record {
  within = let w = is.within in omega arith;
  few = λ le. let f = is.few (omega arith) in omega arith;
  many = λ lt. let m = is.many (omega arith) in omega arith;
}

-- two rows of the same widths are split alike
pub split_alike : (n m : ℕ) (words apart others others_apart : List ℕ) → IsSplit n words apart → IsSplit m others others_apart
    → length (take m others) ≡ length (take n words) → length (sources_in m others others_apart) ≡ length (sources_in n words apart)
    → (m ≡ n) × (length others ≡ length words) × (length others_apart ≡ length apart)
split_alike n m words apart others others_apart a b bits sources =
    let w = a.within in
    let v = b.within in
    let same : m ≡ n = sym (length_of_bits m others v) ∙ bits ∙ length_of_bits n words w in
    let all : (length others - m) + length others_apart ≡ (length words - n) + length apart = sym (length_of_sources m others others_apart) ∙ sources ∙ length_of_sources n words apart in
    elim (cases_lt FEW (length words + length apart)) [
      | inl many ↦
          let p = a.many many in
          let q = b.many (omega arith) in
          (same, omega arith, omega arith)
      | inr few ↦
          let p = a.few few in
          let q = b.few (omega arith) in
          (same, omega arith, omega arith)
    ]

-- no sources are apart where some follow the bits
pub none_apart : (n : ℕ) (words apart : List ℕ) → IsSplit n words apart → n < length words → apart ≡ []
none_apart n words apart is more =
    nil_from_length apart
    (elim (cases_lt FEW (length words + length apart)) [
      | inl many ↦ let m = is.many many in absurd (omega arith)
      | inr few ↦ is.few few
    ])

-- and then the row has few words
pub few_joined : (n : ℕ) (words apart : List ℕ) → IsSplit n words apart → n < length words → length words ≤ FEW
few_joined n words apart is more =
    elim (cases_lt FEW (length words + length apart)) [
      | inl many ↦ let m = is.many many in absurd (omega arith)
      | inr few ↦ omega arith
    ]

-- no sources follow the bits in a row of many words
pub none_after : (n : ℕ) (words apart : List ℕ) → IsSplit n words apart → FEW < length words → length words ≤ n
none_after n words apart is many = let m = is.many (omega arith) in omega arith

pub joined_sources : (n : ℕ) (words apart : List ℕ) → apart ≡ [] → sources_in n words apart ≡ drop n words
joined_sources n words apart none = ap (λ ys. drop n words ++ ys) none ∙ append-nil (drop n words)

pub apart_sources : (n : ℕ) (words apart : List ℕ) → length words ≤ n → sources_in n words apart ≡ apart
apart_sources n words apart all = ap (λ xs. xs ++ apart) (nil_from_length (drop n words) (let l = length-drop n words in omega arith))

pub all_bits : (n : ℕ) (words : List ℕ) → length words ≤ n → take n words ≡ words
all_bits n words all =
    let l = length-take n words in
    ext_get_or 0 (take n words) words (omega arith) (λ i lt. get_or-take n words i 0 (omega arith))

-- ---- sums
differ_none : false ≡ differ false false
differ_none = refl

pub sum_of_bits : (n : ℕ) (new old other : List ℕ) → ((k : ℕ) → bit_of new k ≡ differ (bit_of old k) (bit_of other k))
    → (k : ℕ) → bit_of (take n new) k ≡ differ (bit_of (take n old) k) (bit_of (take n other) k)
sum_of_bits n new old other sum k =
    elim (cases_lt k (64 * n)) [
      | inl lt ↦ rw (bit_of_take n new k lt, bit_of_take n old k lt, bit_of_take n other k lt) (sum k)
      | inr ge ↦ rw (bit_past_take n new k ge, bit_past_take n old k ge, bit_past_take n other k ge) differ_none
    ]

pub sum_of_sources : (n : ℕ) (new old other new_apart old_apart other_apart : List ℕ) → length new ≡ length old → length other ≡ length old
    → ((k : ℕ) → bit_of new k ≡ differ (bit_of old k) (bit_of other k)) → ((k : ℕ) → bit_of new_apart k ≡ differ (bit_of old_apart k) (bit_of other_apart k))
    → (k : ℕ) → bit_of (sources_in n new new_apart) k ≡ differ (bit_of (sources_in n old old_apart) k) (bit_of (sources_in n other other_apart) k)
sum_of_sources n new old other new_apart old_apart other_apart long other_long sum apart_sum k =
    let a = length-drop n new in
    let b = length-drop n old in
    let c = length-drop n other in
    let ab : length (drop n new) ≡ length (drop n old) = omega arith in
    let cb : length (drop n other) ≡ length (drop n old) = omega arith in
    elim (cases_lt k (64 * length (drop n old))) [
      | inl lt ↦
          let one = bit_of_front (drop n new) new_apart k (omega arith) ∙ bit_of_drop n new k in
          let two = bit_of_front (drop n old) old_apart k lt ∙ bit_of_drop n old k in
          let three = bit_of_front (drop n other) other_apart k (omega arith) ∙ bit_of_drop n other k in
          one ∙ sum (64 * n + k) ∙ ap (λ x. differ x (bit_of other (64 * n + k))) (sym two) ∙ ap (differ (bit_of (sources_in n old old_apart) k)) (sym three)
      | inr ge ↦
          let j : ℕ = k - 64 * length (drop n old) in
          let one = bit_of_back (drop n new) new_apart k (omega arith) ∙ ap (λ l. bit_of new_apart (k - 64 * l)) ab in
          let two = bit_of_back (drop n old) old_apart k ge in
          let three = bit_of_back (drop n other) other_apart k (omega arith) ∙ ap (λ l. bit_of other_apart (k - 64 * l)) cb in
          one ∙ apart_sum j ∙ ap (λ x. differ x (bit_of other_apart j)) (sym two) ∙ ap (differ (bit_of (sources_in n old old_apart) k)) (sym three)
    ]

-- ---- one bit is turned over
pub turned_in_bits : (n : ℕ) (new old : List ℕ) (k : ℕ) → k < 64 * n → ((j : ℕ) → bit_of new j ≡ differ (bit_of old j) (eqb j k))
    → (j : ℕ) → bit_of (take n new) j ≡ differ (bit_of (take n old) j) (eqb j k)
turned_in_bits n new old k in' turned j =
    elim (cases_lt j (64 * n)) [
      | inl lt ↦ rw (bit_of_take n new j lt, bit_of_take n old j lt) (turned j)
      | inr ge ↦
          let other : eqb j k ≡ false = ne_eqb j k (λ e. let f : j ≡ k = e in absurd (omega arith)) in
          rw (bit_past_take n new j ge, bit_past_take n old j ge, other) differ_none
    ]

-- the sources are as they were
pub same_sources : (n : ℕ) (new old apart : List ℕ) (place : ℕ) → length new ≡ length old → place < n → AreOtherWords place old new → sources_in n new apart ≡ sources_in n old apart
same_sources n new old apart place long in' others =
    let a = length-drop n new in
    let b = length-drop n old in
    ap (λ xs. xs ++ apart)
    (ext_get_or 0 (drop n new) (drop n old) (omega arith)
    (λ i lt. get_or-drop n new i 0 ∙ others (n + i) (λ e. let f : n + i ≡ place = e in absurd (omega arith)) ∙ sym (get_or-drop n old i 0)))

-- ---- one source is put
pub same_bits : (n : ℕ) (new old : List ℕ) (place : ℕ) → length new ≡ length old → n ≤ place → AreOtherWords place old new → take n new ≡ take n old
same_bits n new old place long ge others =
    let a = length-take n new in
    let b = length-take n old in
    ext_get_or 0 (take n new) (take n old) (omega arith)
    (λ i lt.
    let in' : i < n = omega arith in
    get_or-take n new i 0 in' ∙ others i (λ e. let f : i ≡ place = e in absurd (omega arith)) ∙ sym (get_or-take n old i 0 in'))

eqb_moved : (a j k : ℕ) → eqb (a + j) (a + k) ≡ eqb j k
eqb_moved a j k =
    elim (cases_eq j k) [
      | inl e ↦ eq-eqb (a + j) (a + k) (let f : j ≡ k = e in omega arith) ∙ sym (eq-eqb j k e)
      | inr ne ↦ ne_eqb (a + j) (a + k) (λ e. ne (let f : a + j ≡ a + k = e in omega arith)) ∙ sym (ne_eqb j k ne)
    ]

-- a source after the bits
pub put_after : (n : ℕ) (new old : List ℕ) (place : ℕ) → ((j : ℕ) → bit_of new j ≡ cond (nat_eq j (64 * n + place)) true (bit_of old j))
    → (j : ℕ) → bit_of (drop n new) j ≡ cond (nat_eq j place) true (bit_of (drop n old) j)
put_after n new old place put j =
    bit_of_drop n new j ∙ put (64 * n + j)
    ∙ ap (λ e. cond e true (bit_of old (64 * n + j))) (eqb_moved (64 * n) j place)
    ∙ ap (cond (eqb j place) true) (sym (bit_of_drop n old j))

-- ---- widths
pub first_few : (bits sources : ℕ) → bits + sources ≤ FEW → first_count bits sources ≡ bits + sources
first_few bits sources few = ap (λ b. cond b (bits + sources) bits) (le-leb (bits + sources) FEW few)

pub first_many : (bits sources : ℕ) → FEW < bits + sources → first_count bits sources ≡ bits
first_many bits sources many = ap (λ b. cond b (bits + sources) bits) (lt-leb (bits + sources) FEW many)

pub apart_few : (bits sources : ℕ) → bits + sources ≤ FEW → apart_count bits sources ≡ 0
apart_few bits sources few = ap (λ b. cond b 0 sources) (le-leb (bits + sources) FEW few)

pub apart_many : (bits sources : ℕ) → FEW < bits + sources → apart_count bits sources ≡ sources
apart_many bits sources many = ap (λ b. cond b 0 sources) (lt-leb (bits + sources) FEW many)

-- words of these widths are split
pub split_of : (bits sources : ℕ) (words apart : List ℕ) → length words ≡ first_count bits sources → length apart ≡ apart_count bits sources
    → IsSplit bits words apart × (length (take bits words) ≡ bits) × (length (sources_in bits words apart) ≡ sources)
split_of bits sources words apart long apart_long =
    elim (cases_lt FEW (bits + sources)) [
      | inl many ↦
          let a = first_many bits sources many in
          let b = apart_many bits sources many in
          let l = length_of_sources bits words apart in
          (record { within = omega arith; few = λ le. absurd (omega arith); many = λ lt. omega arith }, length_of_bits bits words (omega arith), omega arith)
      | inr few ↦
          let a = first_few bits sources few in
          let b = apart_few bits sources few in
          let l = length_of_sources bits words apart in
          (record { within = omega arith; few = λ le. omega arith; many = λ lt. absurd (omega arith) }, length_of_bits bits words (omega arith), omega arith)
    ]

-- words that are zero
pub zero_word : (words : List ℕ) → ((i : ℕ) → get_or words i 0 ≡ 0) → (k : ℕ) → bit_of words k ≡ false
zero_word words zero k = ap (λ w. word_bit w (k % 64)) (zero (k / 64)) ∙ rw (bit_at-zero (k % 64)) refl

zeros : (n i : ℕ) → get_or (replicate {A = ℕ} n 0) i 0 ≡ 0
zeros n i =
    let words : List ℕ = replicate n 0 in
    elim (cases_lt i n) as (λ _. get_or words i 0 ≡ 0) [
      | inl lt ↦ get_or-replicate n i 0 0 lt
      | inr ge ↦ get_or-eq_default words 0 (let l : length words ≡ n = length-replicate {A = ℕ} n 0 in omega arith)
    ]

pub no_bits : (n width k : ℕ) → bit_of (take n (replicate width 0)) k ≡ false
no_bits n width k =
    let words : List ℕ = replicate width 0 in
    elim (cases_lt k (64 * n)) as (λ _. bit_of (take n words) k ≡ false) [
      | inl lt ↦ bit_of_take n words k lt ∙ zero_word words (zeros width) k
      | inr ge ↦ bit_past_take n words k ge
    ]

pub no_sources : (n width apart k : ℕ) → bit_of (sources_in n (replicate width 0) (replicate apart 0)) k ≡ false
no_sources n width apart k =
    let words : List ℕ = replicate width 0 in
    let others : List ℕ = replicate apart 0 in
    elim (cases_lt k (64 * length (drop n words))) as (λ _. bit_of (sources_in n words others) k ≡ false) [
      | inl lt ↦ bit_of_front (drop n words) others k lt ∙ bit_of_drop n words k ∙ zero_word words (zeros width) (64 * n + k)
      | inr ge ↦ bit_of_back (drop n words) others k ge ∙ zero_word others (zeros apart) (k - 64 * length (drop n words))
    ]

-- words that are zero outside an empty span
pub zero_in_all : (words : List ℕ) (low high : ℕ) → IsZeroOutside words low high → high ≤ low → (k : ℕ) → bit_of words k ≡ false
zero_in_all words low high zero le =
    zero_word words
    (λ i.
    elim (cases_lt i low) [
      | inl lt ↦ zero.before i lt
      | inr ge ↦ zero.after i (omega arith)
    ])

-- what a vector has once all its elements were written
pub vec_write : (old new : List ℕ) (len : ℕ) → len ≡ length new → take len (new ++ drop (length new) old) ≡ new
vec_write old new len e = ap (λ n. take n (new ++ drop (length new) old)) e ∙ take-append_seam new (drop (length new) old)

-- words that are written anew
pub written_joined : (n : ℕ) (words apart bits sources : List ℕ) → IsSplit n words apart → n < length words → length bits ≡ n
    → (take n (bits ++ sources) ≡ bits) × (sources_in n (bits ++ sources) apart ≡ sources)
written_joined n words apart bits sources is more long = (
  subst (λ m. take m (bits ++ sources) ≡ bits) long (take-append_seam bits sources),
  joined_sources n (bits ++ sources) apart (none_apart n words apart is more) ∙ subst (λ m. drop m (bits ++ sources) ≡ sources) long (drop-append_seam bits sources),
)

pub written_apart : (n : ℕ) (bits sources : List ℕ) → length bits ≡ n → (take n bits ≡ bits) × (sources_in n bits sources ≡ sources)
written_apart n bits sources long = (all_bits n bits (omega arith), apart_sources n bits sources (omega arith))

-- widths that are joined are small
pub joined_small : (bits sources new_bits new_sources : List ℕ) → AreJoined bits sources new_bits new_sources (length bits) → length sources ≡ length bits
    → ((k : ℕ) → k < length bits → get_or bits k 0 < 4294967296) → ((k : ℕ) → k < length sources → get_or sources k 0 < 4294967296)
    → ((k : ℕ) → k < length new_bits → get_or new_bits k 0 < 4294967296) × ((k : ℕ) → k < length new_sources → get_or new_sources k 0 < 4294967296)
joined_small bits sources new_bits new_sources joined same few few_sources = (
  λ k lt.
      let l = joined.long in
      let f = joined.first k (omega arith) in
      let b = few k (omega arith) in
      elim (cases_lt FEW (get_or bits k 0 + get_or sources k 0)) [
        | inl many ↦ let w = first_many (get_or bits k 0) (get_or sources k 0) many in omega arith
        | inr le ↦
            let small : get_or bits k 0 + get_or sources k 0 ≤ 16 = le in
            let w = first_few (get_or bits k 0) (get_or sources k 0) le in
            omega arith
      ],
  λ k lt.
      let l = joined.sources_long in
      let f = joined.apart k (omega arith) in
      let b = few_sources k (omega arith) in
      elim (cases_lt FEW (get_or bits k 0 + get_or sources k 0)) [
        | inl many ↦ let w = apart_many (get_or bits k 0) (get_or sources k 0) many in omega arith
        | inr le ↦ let w = apart_few (get_or bits k 0) (get_or sources k 0) le in omega arith
      ],
)

-- an empty row
pub empty_split : (bits sources : ℕ) → IsSplit bits (replicate (first_count bits sources) 0) (replicate (apart_count bits sources) 0)
    × (length {A = ℕ} (take bits (replicate (first_count bits sources) 0)) ≡ bits)
    × (length {A = ℕ} (sources_in bits (replicate (first_count bits sources) 0) (replicate (apart_count bits sources) 0)) ≡ sources)
empty_split bits sources =
    let words : List ℕ = replicate (first_count bits sources) 0 in
    let apart : List ℕ = replicate (apart_count bits sources) 0 in
    split_of bits sources words apart (length-replicate {A = ℕ} (first_count bits sources) 0) (length-replicate {A = ℕ} (apart_count bits sources) 0)
