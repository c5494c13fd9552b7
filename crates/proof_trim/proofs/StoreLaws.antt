-- Steps as integers, and back.
use Rattle.std.proofs.Common.{◌≡◌, refl, sym, ap, ◌∙◌, subst, ℕ, ℤ, pos, zero, suc, ◌+◌, ◌-◌, ◌<◌, ◌≤◌, true, false, cond, List, [], ◌∷◌, ◌++◌, length, take, drop, map, get_or, length-append, Result, Ok, Err, IfOk, arith}
use Rattle.std.specs.List.{AllByRecursion}
use Rattle.std.proofs.lemmas.Bool.{ne_eqb}
use Rattle.std.proofs.lemmas.List.{take_at, drop_at, take-take, drop-take}
use Rattle.cx_base.specs.declared.steps.ProofStep.{ProofStep}
use Rattle.cx_base.specs.declared.steps.ProofStep.TheVariants as step
use Rattle.proof_trim.specs.declared.head.StepKind.{StepKind}
use Rattle.proof_trim.specs.declared.head.StepKind.TheVariants as kind
use Rattle.proof_trim.specs.Heads.{deletes, head_of, kind_in, literals_in}
use Rattle.proof_trim.specs.Integers.{part, signed, unsigned}
use Rattle.proof_trim.specs.Stored.{first_of, listed, packed, step_by, unpacked, IsPacked, AreStored, steps_at, start_at, FitsIn}
use Rattle.proof_trim.proofs.HeadLaws.{kind_in-head_of, literals_in-head_of}
use Rattle.proof_trim.proofs.PartLaws.{part_stays, part_last, part_begins, length-part, unsigned-signed}

-- ---- one step

ids_back : (ids : List ℕ) → map unsigned (map signed ids) ≡ ids
ids_back [] = refl
ids_back (n ∷ ids) = λ i. unsigned-signed n i ∷ ids_back ids i

-- the head among a step's integers
abbrev head_in : StepKind → List ℤ → ℕ
head_in k xs = unsigned (signed (head_of k (length xs)))

pub kind_packed : (k : StepKind) (xs : List ℤ) → kind_in (head_in k xs) ≡ k
kind_packed k xs = ap kind_in (unsigned-signed (head_of k (length xs))) ∙ kind_in-head_of k (length xs)

pub literals_packed : (k : StepKind) (xs : List ℤ) → literals_in (head_in k xs) ≡ length xs
literals_packed k xs = ap literals_in (unsigned-signed (head_of k (length xs))) ∙ literals_in-head_of k (length xs)

pub hints_packed : (k : StepKind) (xs ys : List ℤ) → drop (literals_in (head_in k xs)) (xs ++ ys) ≡ ys
hints_packed k xs ys = ap (λ j. drop j (xs ++ ys)) (literals_packed k xs) ∙ drop_at xs ys (length xs) refl

listed_back : (k : StepKind) (n : ℕ) (xs ys : List ℤ) → unpacked (listed k n xs ys) ≡ step_by k n xs ys (map unsigned (xs ++ ys))
listed_back k n xs ys =
    let front : take (literals_in (head_in k xs)) (xs ++ ys) ≡ xs = ap (λ j. take j (xs ++ ys)) (literals_packed k xs) ∙ take_at xs ys (length xs) refl in
    λ i. step_by (kind_packed k xs i) (unsigned-signed n i) (front i) (hints_packed k xs ys i) (map unsigned (xs ++ ys))

pub unpacked-packed : (s : ProofStep) → unpacked (packed s) ≡ s
unpacked-packed (step.Clause n lits hints) = listed_back kind.Clause n lits hints
unpacked-packed (step.DeleteClauses n ids) = listed_back kind.DeleteClauses n [] (map signed ids) ∙ ap (step.DeleteClauses n) (ids_back ids)
unpacked-packed (step.Parity n lits hints) = listed_back kind.Parity n lits hints
unpacked-packed (step.DeleteParities ids) = listed_back kind.DeleteParities 0 [] (map signed ids) ∙ ap step.DeleteParities (ids_back ids)
unpacked-packed (step.ClauseOfParity n lits hint) = listed_back kind.ClauseOfParity n lits (hint ∷ [])
unpacked-packed (step.ParityOfClauses n lits hints) = listed_back kind.ParityOfClauses n lits hints

-- a head and an id come first, and there are no more literals than other integers
abbrev pub HasHead : List ℤ → Type 0
HasHead zs = (2 ≤ length zs) × (literals_in (unsigned (get_or zs 0 (pos 0))) + 2 ≤ length zs)

listed_head : (k : StepKind) (n : ℕ) (xs ys : List ℤ) → HasHead (listed k n xs ys)
listed_head k n xs ys = (omega arith, omega (arith, literals_packed k xs, length-append xs ys))

packed_head : (s : ProofStep) → HasHead (packed s)
packed_head (step.Clause n lits hints) = listed_head kind.Clause n lits hints
packed_head (step.DeleteClauses n ids) = listed_head kind.DeleteClauses n [] (map signed ids)
packed_head (step.Parity n lits hints) = listed_head kind.Parity n lits hints
packed_head (step.DeleteParities ids) = listed_head kind.DeleteParities 0 [] (map signed ids)
packed_head (step.ClauseOfParity n lits hint) = listed_head kind.ClauseOfParity n lits (hint ∷ [])
packed_head (step.ParityOfClauses n lits hints) = listed_head kind.ParityOfClauses n lits hints

packed_again : (most : ℕ) (zs : List ℤ) → IsPacked most zs → packed (unpacked zs) ≡ zs
packed_again most zs p = ap (λ x. packed (unpacked x)) p.is ∙ ap packed (unpacked-packed p.step) ∙ sym p.is

-- ids play no part in a step that deletes nothing, and the two lists none in a deletion
same_parts : (k : StepKind) (n : ℕ) (xs ys more others : List ℤ) (ids names : List ℕ) → (deletes k ≡ false → (xs ≡ more) × (ys ≡ others)) → (deletes k ≡ true → ids ≡ names)
    → step_by k n xs ys ids ≡ step_by k n more others names
same_parts kind.Clause n xs ys more others ids names h g = λ i. step.Clause n ((h refl).0 i) ((h refl).1 i)
same_parts kind.DeleteClauses n xs ys more others ids names h g = ap (step.DeleteClauses n) (g refl)
same_parts kind.Parity n xs ys more others ids names h g = λ i. step.Parity n ((h refl).0 i) ((h refl).1 i)
same_parts kind.DeleteParities n xs ys more others ids names h g = ap step.DeleteParities (g refl)
same_parts kind.ClauseOfParity n xs ys more others ids names h g = λ i. step.ClauseOfParity n ((h refl).0 i) (first_of ((h refl).1 i))
same_parts kind.ParityOfClauses n xs ys more others ids names h g = λ i. step.ParityOfClauses n ((h refl).0 i) ((h refl).1 i)

same_head : (x s : ProofStep) (xs rest : List ProofStep) → x ∷ xs ≡ s ∷ rest → x ≡ s
same_head x s xs rest e = cc

-- ---- a step that is taken out of the others

module _ (zs : List ℤ) (s e : ℕ) (low : s ≤ e) (high : e ≤ length zs) where
  -- its first two integers
  pub begins : 2 ≤ length (part zs s e) → part zs s e ≡ get_or zs s (pos 0) ∷ get_or zs (s + 1) (pos 0) ∷ part zs (s + 2) e
  begins h =
      let long = length-part zs s e low high in
      let two : (s + 1) + 1 ≡ s + 2 = omega arith in
      part_begins zs s e (pos 0) (omega (arith, long)) high
      ∙ ap (λ x. get_or zs s (pos 0) ∷ x)
      (part_begins zs (s + 1) e (pos 0) (omega (arith, long)) high ∙ ap (λ n. get_or zs (s + 1) (pos 0) ∷ part zs n e) two)

  pub has_room : (most : ℕ) → IsPacked most (part zs s e) → (s + 2 ≤ e) × (literals_in (unsigned (get_or zs s (pos 0))) ≤ e - (s + 2)) × (e - (s + 2) ≤ most)
  has_room most p =
      let long = length-part zs s e low high in
      let h = subst (λ (x : List ℤ). HasHead x) (sym p.is) (packed_head p.step) in
      let first : get_or (part zs s e) 0 (pos 0) ≡ get_or zs s (pos 0) = ap (λ x. get_or x 0 (pos 0)) (begins h.0) in
      (omega (arith, long, h.0), omega (arith, long, h.0, h.1, ap (λ z. literals_in (unsigned z)) first), omega (arith, long, p.short))

  -- the step of its head and of the places over which its lists were copied
  pub opened_as : (k : StepKind) (n middle : ℕ) (integers : List ℤ) (ids : List ℕ) → s + 2 ≤ e → middle ≤ e - (s + 2)
      → k ≡ kind_in (unsigned (get_or zs s (pos 0))) → n ≡ unsigned (get_or zs (s + 1) (pos 0)) → middle ≡ literals_in (unsigned (get_or zs s (pos 0)))
      → (deletes k ≡ false → take (e - (s + 2)) integers ≡ part zs (s + 2) e) → (deletes k ≡ true → take (e - (s + 2)) ids ≡ map unsigned (part zs (s + 2) e))
      → step_by k n (take middle integers) (part integers middle (e - (s + 2))) (take (e - (s + 2)) ids) ≡ unpacked (part zs s e)
  opened_as k n middle integers ids head inside is_k is_n is_m copied copied_ids =
      let rest = part zs (s + 2) e in
      let end = e - (s + 2) in
      let all : middle + (end - middle) ≡ end = omega arith in
      let front = λ (h : deletes k ≡ false). sym (take-take middle end integers inside) ∙ ap (take middle) (copied h) in
      let back = λ (h : deletes k ≡ false). sym (drop-take middle (end - middle) integers) ∙ ap (λ j. drop middle (take j integers)) all ∙ ap (drop middle) (copied h) in
      let whole : part zs s e ≡ get_or zs s (pos 0) ∷ get_or zs (s + 1) (pos 0) ∷ rest = begins (omega (arith, length-part zs s e low high)) in
      same_parts k n (take middle integers) (part integers middle end) (take middle rest) (drop middle rest) (take end ids) (map unsigned rest) (λ h. (front h, back h)) copied_ids
      ∙ (λ i. step_by (is_k i) (is_n i) (take (is_m i) rest) (drop (is_m i) rest) (map unsigned rest)) ∙ ap unpacked (sym whole)

-- ---- a step after the others

module _ (zs : List ℤ) (s : ProofStep) (most more : ℕ) (wider : most ≤ more) (fits : length (packed s) ≤ more) (last : ℤ) (end : unsigned last ≡ length (zs ++ packed s)) where
  packed_wider : (xs : List ℤ) → IsPacked most xs → IsPacked more xs
  packed_wider xs p = record { step = p.step; is = p.is; short = omega (arith, p.short, wider) }

  there : (start : ℕ) → start ≡ length zs → part (zs ++ packed s) start (unsigned last) ≡ packed s
  there start e = part_last zs (packed s) start (unsigned last) e (end ∙ length-append zs (packed s))

  stored_more : (ends : List ℤ) (start : ℕ) → AreStored zs start ends most → AreStored (zs ++ packed s) start (ends ++ last ∷ []) more
  stored_more [] start e =
      (omega (arith, e, end, length-append zs (packed s)), omega (arith, end), record { step = s; is = there start e; short = omega (arith, ap length (there start e), fits) }, end)
  stored_more (e ∷ ends) start (a, b, p, rest) = (
    a,
    omega (arith, b, length-append zs (packed s)),
    subst (λ (x : List ℤ). IsPacked more x) (sym (part_stays zs (packed s) start (unsigned e) a b)) (packed_wider (part zs start (unsigned e)) p),
    stored_more ends (unsigned e) rest,
  )

  steps_more : (ends : List ℤ) (start : ℕ) → AreStored zs start ends most → steps_at (zs ++ packed s) start (ends ++ last ∷ []) ≡ steps_at zs start ends ++ s ∷ []
  steps_more [] start e = ap (λ x. unpacked x ∷ []) (there start e) ∙ ap (λ t. t ∷ []) (unpacked-packed s)
  steps_more (e ∷ ends) start (a, b, p, rest) = λ i. unpacked (part_stays zs (packed s) start (unsigned e) a b i) ∷ steps_more ends (unsigned e) rest i

module _ (zs all : List ℤ) (ends after : List ℤ) (s : ProofStep) (most more : ℕ) (grown : all ≡ zs ++ packed s) (put : after ≡ ends ++ signed (length all) ∷ []) (stored : AreStored zs 0 ends most)
    (wider : most ≤ more) (fits : length all - length zs ≤ more) where
  short : length (packed s) ≤ more
  short = omega (arith, ap length grown, length-append zs (packed s), fits)

  end_is : unsigned (signed (length all)) ≡ length (zs ++ packed s)
  end_is = unsigned-signed (length all) ∙ ap length grown

  pub told_stored : AreStored all 0 after more
  told_stored =
      subst (λ (x : List ℤ). AreStored x 0 after more) (sym grown)
      (subst (λ (x : List ℤ). AreStored (zs ++ packed s) 0 x more) (sym put) (stored_more zs s most more wider short (signed (length all)) end_is ends 0 stored))

  pub told_steps : steps_at all 0 after ≡ steps_at zs 0 ends ++ s ∷ []
  told_steps = (λ i. steps_at (grown i) 0 (put i)) ∙ steps_more zs s most more wider short (signed (length all)) end_is ends 0 stored

-- ---- the step at a place

pub length-steps : (zs : List ℤ) (start : ℕ) (ends : List ℤ) → length (steps_at zs start ends) ≡ length ends
length-steps zs start [] = refl
length-steps zs start (e ∷ ends) = ap suc (length-steps zs (unsigned e) ends)

pub all_fit : (zs : List ℤ) (start : ℕ) (ends : List ℤ) (most : ℕ) → AreStored zs start ends most → AllByRecursion (FitsIn most) (steps_at zs start ends)
all_fit zs start [] most h = tt
all_fit zs start (e ∷ ends) most (a, b, p, rest) = (omega (arith, ap length (packed_again most (part zs start (unsigned e)) p), p.short), all_fit zs (unsigned e) ends most rest)

-- the integers of the step at a place lie there
pub record StandsAt (zs : List ℤ) (steps : List ProofStep) (most place start end : ℕ) : Type 0 where
  pub low : start ≤ end
  pub high : end ≤ length zs
  pub is_packed : IsPacked most (part zs start end)
  pub there : drop place steps ≡ unpacked (part zs start end) ∷ drop (suc place) steps

next_start : (start : ℕ) (ends : List ℤ) (k : ℕ) → start_at start ends (suc k) ≡ unsigned (get_or ends k (pos 0))
next_start start ends k =
    let one : suc k - 1 ≡ k = omega arith in
    ap (λ b. cond b start (unsigned (get_or ends (suc k - 1) (pos 0)))) (ne_eqb (suc k) 0 (λ e. omega (arith, e))) ∙ ap (λ n. unsigned (get_or ends n (pos 0))) one

start_step : (start : ℕ) (e : ℤ) (ends : List ℤ) (k : ℕ) → start_at (unsigned e) ends k ≡ start_at start (e ∷ ends) (suc k)
start_step start e ends zero = sym (next_start start (e ∷ ends) zero)
start_step start e ends (suc k) = next_start (unsigned e) ends k ∙ sym (next_start start (e ∷ ends) (suc k))

pub stands : (zs : List ℤ) (ends : List ℤ) (start most place : ℕ) → AreStored zs start ends most → place < length ends
    → StandsAt zs (steps_at zs start ends) most place (start_at start ends place) (unsigned (get_or ends place (pos 0)))
stands zs [] start most place h less = absurd (omega arith)
stands zs (e ∷ ends) start most zero (a, b, p, rest) less = record { low = a; high = b; is_packed = p; there = refl }
stands zs (e ∷ ends) start most (suc k) (a, b, p, rest) less =
    let r = stands zs ends (unsigned e) most k rest (omega arith) in
    subst (λ n. StandsAt zs (unpacked (part zs start (unsigned e)) ∷ steps_at zs (unsigned e) ends) most (suc k) n (unsigned (get_or ends k (pos 0)))) (start_step start e ends k)
    (record { low = r.low; high = r.high; is_packed = r.is_packed; there = r.there })

fits_at : (room : ℕ) (steps rest : List ProofStep) (place : ℕ) (s : ProofStep) → AllByRecursion (FitsIn room) steps → drop place steps ≡ s ∷ rest → FitsIn room s
fits_at room [] rest zero s a e = absurd (omega (arith, ap length e))
fits_at room [] rest (suc k) s a e = absurd (omega (arith, ap length e))
fits_at room (x ∷ steps) rest zero s a e = subst (λ (y : ProofStep). FitsIn room y) (same_head x s steps rest e) a.0
fits_at room (x ∷ steps) rest (suc k) s a e = fits_at room steps rest k s a.1 e

-- there is room for it
pub fits_there : (zs : List ℤ) (steps : List ProofStep) (most place start end room : ℕ) → StandsAt zs steps most place start end → AllByRecursion (FitsIn room) steps → IsPacked room (part zs start end)
fits_there zs steps most place start end room at all =
    let here = fits_at room steps (drop (suc place) steps) place (unpacked (part zs start end)) all at.there in
    record { step = at.is_packed.step; is = at.is_packed.is; short = omega (arith, ap length (packed_again most (part zs start end) at.is_packed), here) }

pub stands_at : (zs ends : List ℤ) (most place start end : ℕ) → AreStored zs 0 ends most → place < length ends → start ≡ start_at 0 ends place → end ≡ unsigned (get_or ends place (pos 0))
    → StandsAt zs (steps_at zs 0 ends) most place start end
stands_at zs ends most place start end h less s e =
    subst (λ n. StandsAt zs (steps_at zs 0 ends) most place n end) (sym s)
    (subst (λ n. StandsAt zs (steps_at zs 0 ends) most place (start_at 0 ends place) n) (sym e) (stands zs ends 0 most place h less))

pub if_ok : {T E : Type 0} (r : Result T E) (P Q : T → Type 0) → ((t : T) → P t → Q t) → IfOk r P → IfOk r Q
if_ok (Ok t) P Q f p = f t p
if_ok (Err e) P Q f p = tt
