-- Words that are put at their places.
use Rattle.std.proofs.Common.{◌≡◌, ℕ, zero, suc, ◌+◌, ◌<◌, ◌≤◌, List, length, get_or, set, replicate, refl, sym, ap, ◌∙◌, arith, inl, inr}
use Rattle.std.proofs.lemmas.List.{length-set, length-replicate, get_or-replicate, get_or-set_same, get_or-set_other, set-set, set_comm}
use Rattle.std.proofs.Math.ListN.{get_or-eq_default}
use Rattle.std.proofs.lemmas.Bool.{cases_eq, cases_lt}
use Rattle.gf2_rows.specs.Few.{laid_out}

abbrev pub AreWithin : ℕ → ℕ → List ℕ → Type 0
AreWithin len n ps = (i : ℕ) → i < n → get_or ps i 0 < len

abbrev pub AreApart : ℕ → List ℕ → Type 0
AreApart n ps = (i j : ℕ) → i < n → j < n → get_or ps i 0 ≡ get_or ps j 0 → i ≡ j

pub zeros_at : (n i : ℕ) → get_or {A = ℕ} (replicate n 0) i 0 ≡ 0
zeros_at n i =
    let zs : List ℕ = replicate n 0 in
    elim (cases_lt i n) [
      | inl lt ↦ get_or-replicate {A = ℕ} n i 0 0 lt
      | inr ge ↦ let out : length zs ≤ i = omega (arith, length-replicate {A = ℕ} n 0) in get_or-eq_default zs 0 out
    ]

pub length-laid_out : (len n : ℕ) (ps ws : List ℕ) → length (laid_out len n ps ws) ≡ len
unfolding laid_out
length-laid_out len zero ps ws = length-replicate len 0
length-laid_out len (suc n) ps ws = length-set (laid_out len n ps ws) (get_or ps n 0) (get_or ws n 0) ∙ length-laid_out len n ps ws

pub laid_out-zero : (len : ℕ) (ps ws : List ℕ) → laid_out len 0 ps ws ≡ replicate len 0
unfolding laid_out
laid_out-zero len ps ws = refl

pub laid_out-more : (len n : ℕ) (ps ws : List ℕ) → laid_out len (n + 1) ps ws ≡ set (laid_out len n ps ws) (get_or ps n 0) (get_or ws n 0)
unfolding laid_out
laid_out-more len n ps ws = let e : n + 1 ≡ suc n = omega arith in rw e refl

-- a place that no word is put at
pub laid_none : (len n : ℕ) (ps ws : List ℕ) (p : ℕ) → ((i : ℕ) → i < n → get_or ps i 0 ≡ p → ⊥) → get_or (laid_out len n ps ws) p 0 ≡ 0
unfolding laid_out
laid_none len zero ps ws p none = zeros_at len p
laid_none len (suc n) ps ws p none =
    get_or-set_other (laid_out len n ps ws) (get_or ps n 0) p (get_or ws n 0) 0 (λ e. none n (omega arith) (sym e))
    ∙ laid_none len n ps ws p (λ i lt. none i (omega arith))

-- the place of a word
pub laid_at : (len n : ℕ) (ps ws : List ℕ) (j : ℕ) → AreWithin len n ps → AreApart n ps → j < n → get_or (laid_out len n ps ws) (get_or ps j 0) 0 ≡ get_or ws j 0
unfolding laid_out
laid_at len zero ps ws j within apart lt = absurd (omega arith)
laid_at len (suc n) ps ws j within apart lt =
    elim (cases_eq j n) [
      | inl e ↦
          let room : get_or ps n 0 < length (laid_out len n ps ws) = omega (arith, within n (omega arith), length-laid_out len n ps ws) in
          rw e (get_or-set_same (laid_out len n ps ws) (get_or ps n 0) (get_or ws n 0) 0 room)
      | inr ne ↦
          get_or-set_other (laid_out len n ps ws) (get_or ps n 0) (get_or ps j 0) (get_or ws n 0) 0 (λ e. ne (apart j n lt (omega arith) e))
          ∙ laid_at len n ps ws j (λ i h. within i (omega arith)) (λ i k hi hk. apart i k (omega arith) (omega arith)) (omega arith)
    ]

-- the place of the next word, at which none is yet
pub laid_next : (len n : ℕ) (ps ws : List ℕ) (m : ℕ) → n < m → AreApart m ps → get_or (laid_out len n ps ws) (get_or ps n 0) 0 ≡ 0
laid_next len n ps ws m more apart = laid_none len n ps ws (get_or ps n 0) (λ i lt e. let same : i ≡ n = apart i n (omega arith) (omega arith) e in omega arith)

laid_same : (len n : ℕ) (ps ws qs vs : List ℕ) → ((i : ℕ) → i < n → get_or ps i 0 ≡ get_or qs i 0) → ((i : ℕ) → i < n → get_or ws i 0 ≡ get_or vs i 0)
    → laid_out len n ps ws ≡ laid_out len n qs vs
unfolding laid_out
laid_same len zero ps ws qs vs places words = refl
laid_same len (suc n) ps ws qs vs places words =
    ap (λ l. set l (get_or ps n 0) (get_or ws n 0)) (laid_same len n ps ws qs vs (λ i lt. places i (omega arith)) (λ i lt. words i (omega arith)))
    ∙ ap (λ p. set (laid_out len n qs vs) p (get_or ws n 0)) (places n (omega arith))
    ∙ ap (λ w. set (laid_out len n qs vs) (get_or qs n 0) w) (words n (omega arith))

-- one of the words changes
pub laid_set : (len n : ℕ) (ps ws : List ℕ) (j x : ℕ) → AreApart n ps → j < n → n ≤ length ws → laid_out len n ps (set ws j x) ≡ set (laid_out len n ps ws) (get_or ps j 0) x
unfolding laid_out
laid_set len zero ps ws j x apart lt room = absurd (omega arith)
laid_set len (suc n) ps ws j x apart lt room =
    elim (cases_eq j n) [
      | inl e ↦
          let inside : n < length ws = omega arith in
          rw e
          (ap (λ l. set l (get_or ps n 0) (get_or (set ws n x) n 0))
          (laid_same len n ps (set ws n x) ps ws (λ i h. refl) (λ i h. get_or-set_other ws n i x 0 (λ q. let same : i ≡ n = q in omega arith)))
          ∙ ap (λ w. set (laid_out len n ps ws) (get_or ps n 0) w) (get_or-set_same ws n x 0 inside)
          ∙ sym (set-set (laid_out len n ps ws) (get_or ps n 0) (get_or ws n 0) x))
      | inr ne ↦
          ap (λ l. set l (get_or ps n 0) (get_or (set ws j x) n 0)) (laid_set len n ps ws j x (λ i k hi hk. apart i k (omega arith) (omega arith)) (omega arith) (omega arith))
          ∙ ap (λ w. set (set (laid_out len n ps ws) (get_or ps j 0) x) (get_or ps n 0) w) (get_or-set_other ws j n x 0 (λ q. ne (sym q)))
          ∙ set_comm (laid_out len n ps ws) (get_or ps j 0) (get_or ps n 0) x (get_or ws n 0) (λ q. ne (apart j n lt (omega arith) q))
    ]

-- one word more
pub laid_push : (len n : ℕ) (ps ws : List ℕ) (p v : ℕ) → n < length ps → n < length ws → laid_out len (n + 1) (set ps n p) (set ws n v) ≡ set (laid_out len n ps ws) p v
laid_push len n ps ws p v places words =
    laid_out-more len n (set ps n p) (set ws n v)
    ∙ ap (λ l. set l (get_or (set ps n p) n 0) (get_or (set ws n v) n 0))
    (laid_same len n (set ps n p) (set ws n v) ps ws (λ i h. get_or-set_other ps n i p 0 (λ q. let same : i ≡ n = q in omega arith)) (λ i h. get_or-set_other ws n i v 0 (λ q. let same : i ≡ n = q in omega arith)))
    ∙ ap (λ q. set (laid_out len n ps ws) q (get_or (set ws n v) n 0)) (get_or-set_same ps n p 0 places)
    ∙ ap (λ w. set (laid_out len n ps ws) p w) (get_or-set_same ws n v 0 words)

-- the places stay different ones
pub apart_push : (len n : ℕ) (ps : List ℕ) (p : ℕ) → n < length ps → p < len → AreWithin len n ps → AreApart n ps → ((i : ℕ) → i < n → get_or ps i 0 ≡ p → ⊥)
    → AreWithin len (n + 1) (set ps n p) × AreApart (n + 1) (set ps n p)
apart_push len n ps p room small within apart none =
    let same : get_or (set ps n p) n 0 ≡ p = get_or-set_same ps n p 0 room in
    let other = λ (i : ℕ) (lt : i < n). get_or-set_other ps n i p 0 (λ q. let same : i ≡ n = q in omega arith) in (
      λ i lt.
          elim (cases_eq i n) [
            | inl e ↦ rw (e, same) small
            | inr ne ↦ let h : i < n = omega arith in rw (other i h) (within i h)
          ],
      λ i j hi hj q.
          elim (cases_eq i n) [
            | inl e ↦
                elim (cases_eq j n) [
                  | inl f ↦ e ∙ sym f
                  | inr ne ↦
                      let h : j < n = omega arith in
                      absurd (none j h (sym (other j h) ∙ sym q ∙ ap (λ k. get_or (set ps n p) k 0) e ∙ same))
                ]
            | inr ne ↦
                let h : i < n = omega arith in
                elim (cases_eq j n) [
                  | inl f ↦ absurd (none i h (sym (other i h) ∙ q ∙ ap (λ k. get_or (set ps n p) k 0) f ∙ same))
                  | inr other_j ↦ let g : j < n = omega arith in apart i j h g (sym (other i h) ∙ q ∙ other j g)
                ]
          ],
    )
