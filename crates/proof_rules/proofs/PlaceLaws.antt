-- Lists at their places, and entries after them.
use Rattle.std.proofs.Common.{◌≡◌, ◌≢◌, refl, sym, ap, ◌∙◌, ℕ, zero, suc, ◌+◌, ◌<◌, ◌≤◌, cond, Bool, true, false, List, [], ◌∷◌, ◌++◌, length, get_or, set, drop, Option, Some, None, nat_cmp, is_eq, is_some, arith, ◌||◌, inl, inr, append_assoc, append-nil}
use Rattle.std.specs.Cmp.{unsigned_tied}
use Rattle.std.specs.Option.{option_or}
use Rattle.std.proofs.Math.Seq.{drop-cons}
use Rattle.std.specs.Map.{keys_of}
use Rattle.std.proofs.lemmas.Bool.{eq-eqb, ne_eqb}
use Rattle.std.proofs.lemmas.Bool.Decides.{eqb_tells}
use Rattle.std.proofs.lemmas.List.Folds.{list_any-append}
use Rattle.std.proofs.lemmas.Map.Made.{is_some-lookup}
use Rattle.std.specs.List.{list_any}
use Rattle.std.specs.Ordering.{eq_by_cmp}
use Rattle.std.proofs.lemmas.List.{get_or-set_same, get_or-set_other, get_or_past}
use Rattle.std.specs.FinMap as map
use Rattle.cx_semantics.proofs.MapEntries.{look, get-from_entries}
use Rattle.proof_rules.specs.Places.{entries_from, entries_of, value_under, IsTakenOut}

pub is_eq-same : (n : ℕ) → is_eq (nat_cmp n n) ≡ true
is_eq-same n = unsigned_tied n n ∙ eq-eqb n n refl

pub is_eq-other : (n m : ℕ) → n ≢ m → is_eq (nat_cmp n m) ≡ false
is_eq-other n m h = unsigned_tied n m ∙ ne_eqb n m h

-- no place from n on has a number below n
look-below : {V : Type 0} (q n : ℕ) (xs : List (Option V)) (es : List (ℕ × V)) → q < n → look q (entries_from n xs ++ es) ≡ look q es
look-below q n [] es h = refl
look-below q n (None ∷ xs) es h = look-below q (suc n) xs es (omega arith)
look-below q n (Some v ∷ xs) es h =
    ap (λ b. cond b (Some v) (look q (entries_from (suc n) xs ++ es))) (is_eq-other q n (omega arith)) ∙ look-below q (suc n) xs es (omega arith)

look-from : {V : Type 0} (i q n : ℕ) (xs : List (Option V)) (es : List (ℕ × V)) → q ≡ n + i → look q (entries_from n xs ++ es) ≡ option_or (get_or xs i None) (look q es)
look-from i q n [] es h = refl
look-from zero q n (None ∷ xs) es h = look-below q (suc n) xs es (omega arith)
look-from zero q n (Some v ∷ xs) es h =
    let here : is_eq (nat_cmp q n) ≡ true = unsigned_tied q n ∙ eq-eqb q n (omega arith) in
    ap (λ b. cond b (Some v) (look q (entries_from (suc n) xs ++ es))) here
look-from (suc i) q n (None ∷ xs) es h = look-from i q (suc n) xs es (omega arith)
look-from (suc i) q n (Some v ∷ xs) es h =
    ap (λ b. cond b (Some v) (look q (entries_from (suc n) xs ++ es))) (is_eq-other q n (omega arith)) ∙ look-from i q (suc n) xs es (omega arith)

-- what is in the place of an id, and otherwise the entry after the places
pub look-places : {V : Type 0} (q : ℕ) (xs : List (Option V)) (es : List (ℕ × V)) → look q (entries_of xs ++ es) ≡ option_or (get_or xs q None) (look q es)
look-places q xs es = look-from q q 0 xs es (omega arith)

-- The answers after a change at one id: at that id the new ones, and at each other the old ones.
pub look-changed : {V : Type 0} (k : ℕ) (o : Option V) (xs ys : List (Option V)) (es fs : List (ℕ × V))
    → option_or (get_or ys k None) (look k fs) ≡ o
    → ((q : ℕ) → q ≢ k → get_or ys q None ≡ get_or xs q None)
    → ((q : ℕ) → q ≢ k → look q fs ≡ look q es)
    → (q : ℕ) → look q (entries_of ys ++ fs) ≡ cond (is_eq (nat_cmp k q)) o (look q (entries_of xs ++ es))
look-changed k o xs ys es fs here near far q =
    look-places q ys fs ∙ elim (eqb_tells k q) [
      | inl same ↦
          ap (λ j. option_or (get_or ys j None) (look j fs)) (sym same.1) ∙ here
          ∙ sym (ap (λ b. cond b o (look q (entries_of xs ++ es))) (unsigned_tied k q ∙ same.0))
      | inr other ↦
          let apart : q ≢ k = λ e. other.1 (sym e) in
          (λ i. option_or (near q apart i) (far q apart i)) ∙ sym (look-places q xs es)
          ∙ sym (ap (λ b. cond b o (look q (entries_of xs ++ es))) (unsigned_tied k q ∙ other.0))
    ]

-- a list put in its place
pub look-put : {V : Type 0} (k : ℕ) (v : V) (xs : List (Option V)) (es : List (ℕ × V)) → k < length xs → (q : ℕ) → look q (entries_of (set xs k (Some v)) ++ es) ≡ cond (is_eq (nat_cmp k q)) (Some v) (look q (entries_of xs ++ es))
look-put k v xs es h =
    look-changed k (Some v) xs (set xs k (Some v)) es es
    (ap (λ o. option_or o (look k es)) (get_or-set_same xs k (Some v) None h))
    (λ q apart. get_or-set_other xs k q (Some v) None apart)
    (λ q apart. refl)

other-answer : {V : Type 0} (k q : ℕ) (o : Option V) (es fs : List (ℕ × V)) → look q fs ≡ cond (is_eq (nat_cmp k q)) o (look q es) → q ≢ k → look q fs ≡ look q es
other-answer k q o es fs h apart = h ∙ ap (λ b. cond b o (look q es)) (is_eq-other k q (λ e. apart (sym e)))

same-answer : {V : Type 0} (k : ℕ) (o : Option V) (es fs : List (ℕ × V)) → look k fs ≡ cond (is_eq (nat_cmp k k)) o (look k es) → look k fs ≡ o
same-answer k o es fs h = h ∙ ap (λ b. cond b o (look k es)) (is_eq-same k)

-- a list put after the places, under an id that has none
pub look-put_behind : {V : Type 0} (k : ℕ) (v : V) (xs : List (Option V)) (es fs : List (ℕ × V)) → length xs ≤ k → ((q : ℕ) → look q fs ≡ cond (is_eq (nat_cmp k q)) (Some v) (look q es)) → (q : ℕ) → look q (entries_of xs ++ fs) ≡ cond (is_eq (nat_cmp k q)) (Some v) (look q (entries_of xs ++ es))
look-put_behind k v xs es fs past h =
    look-changed k (Some v) xs xs es fs
    (ap (λ o. option_or o (look k fs)) (get_or_past xs k None past) ∙ same-answer k (Some v) es fs (h k))
    (λ q apart. refl)
    (λ q apart. other-answer k q (Some v) es fs (h q) apart)

-- nothing is left of an id once it is out of its place and out of what comes after
pub emptied : {V : Type 0} (xs : List (Option V)) (k : ℕ) → get_or (set xs k None) k None ≡ None
emptied [] k = refl
emptied (x ∷ xs) zero = refl
emptied (x ∷ xs) (suc k) = emptied xs k

pub look-removed : {V : Type 0} (k : ℕ) (xs : List (Option V)) (es fs : List (ℕ × V)) → ((q : ℕ) → look q fs ≡ cond (is_eq (nat_cmp k q)) None (look q es)) → (q : ℕ) → look q (entries_of (set xs k None) ++ fs) ≡ cond (is_eq (nat_cmp k q)) None (look q (entries_of xs ++ es))
look-removed k xs es fs h =
    look-changed k None xs (set xs k None) es fs
    (ap (λ o. option_or o (look k fs)) (emptied xs k) ∙ same-answer k None es fs (h k))
    (λ q apart. get_or-set_other xs k q None None apart)
    (λ q apart. other-answer k q None es fs (h q) apart)

-- the numbers of the places that are taken, as a loop gathers them
pub keys_of-place : {V : Type 0} (b : Bool) (xs : List (Option V)) (m n : ℕ) (ids all : List ℕ) → n < length xs → b ≡ is_some (get_or xs n None)
    → ids ++ keys_of (entries_from m (drop n xs)) ≡ all
    → cond b (ids ++ m ∷ []) ids ++ keys_of (entries_from (m + 1) (drop (n + 1) xs)) ≡ all
keys_of-place {V} b xs m n ids all h e before =
    let later : m + 1 ≡ suc m = omega arith in
    let next : n + 1 ≡ suc n = omega arith in
    (λ i. cond (e i) (ids ++ m ∷ []) ids ++ keys_of (entries_from (later i) (drop (next i) xs)))
    ∙ by (get_or xs n None) ∙ (λ i. ids ++ keys_of (entries_from m (sym (drop-cons xs n None h) i))) ∙ before
  where
    by : (o : Option V) → cond (is_some o) (ids ++ m ∷ []) ids ++ keys_of (entries_from (suc m) (drop (suc n) xs)) ≡ ids ++ keys_of (entries_from m (o ∷ drop (suc n) xs))
    by None = refl
    by (Some v) = append_assoc ids (m ∷ []) (keys_of (entries_from (suc m) (drop (suc n) xs)))

either : {V : Type 0} (a b : Option V) → is_some (option_or a b) ≡ (is_some a || is_some b)
either None b = refl
either (Some v) b = refl

pub or_none : {V : Type 0} (o : Option V) → option_or o None ≡ o
or_none None = refl
or_none (Some v) = refl

-- an id is among the keys of the entries in turn exactly where it has an answer
pub keys-answer : {V : Type 0} (n : ℕ) (es : List (ℕ × V)) (ids : List ℕ) → list_any (eq_by_cmp nat_cmp n) ids ≡ is_some (look n es) → (xs : List (Option V)) → list_any (eq_by_cmp nat_cmp n) (keys_of (entries_of xs) ++ ids) ≡ is_some (look n (entries_of xs ++ es))
keys-answer n es ids h xs =
    list_any-append (eq_by_cmp nat_cmp n) (keys_of (entries_of xs)) ids
    ∙ (λ i. sym (is_some-lookup (eq_by_cmp nat_cmp n) (entries_of xs)) i || h i)
    ∙ (λ i. is_some (here i) || is_some (look n es))
    ∙ sym (either (get_or xs n None) (look n es))
    ∙ ap is_some (sym (look-places n xs es))
  where
    here : look n (entries_of xs) ≡ get_or xs n None
    here = ap (look n) (sym (append-nil (entries_of xs))) ∙ look-places n xs [] ∙ or_none (get_or xs n None)

-- what a table of places, and of entries after them, answers
pub get-places : {V : Type 0} (q : ℕ) (xs : List (Option V)) (es : List (ℕ × V)) → map.get {R = nat_cmp} (map.from_entries (entries_of xs ++ es)) q ≡ option_or (get_or xs q None) (look q es)
get-places q xs es = get-from_entries (entries_of xs ++ es) q ∙ look-places q xs es

-- nothing is to be taken out of no entries
pub nothing_to_take : {V : Type 0} (k : ℕ) (es : List (ℕ × V)) → length es ≡ 0 → IsTakenOut k es es
nothing_to_take {V} k [] h = λ q. at (is_eq (nat_cmp k q))
  where
    at : (b : Bool) → ◌≡◌ {A = Option V} None (cond b None None)
    at true = refl
    at false = refl
nothing_to_take k (e ∷ es) h = absurd (omega (arith, h))

-- nothing is under an id in no entries
pub nothing_under : {V : Type 0} (k : ℕ) (es : List (ℕ × V)) → length es ≡ 0 → value_under k es ≡ None
nothing_under k [] h = refl
nothing_under k (e ∷ es) h = absurd (omega (arith, h))
