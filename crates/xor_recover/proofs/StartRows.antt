-- The rows of clauses by their starts.
use Rattle.std.proofs.Common.{◌≡◌, refl, sym, ap, ◌∙◌, subst, ℕ, zero, suc, ◌+◌, ◌-◌, ◌<◌, ◌≤◌, List, [], ◌∷◌, ◌++◌, length, get_or, take, arith, ◌⊎◌, inl, inr, Some, length-append, append_assoc}
use Rattle.std.specs.List.{AllByRecursion, Contains, slice_get}
use Rattle.std.proofs.Math.Seq.{take-suc}
use Rattle.std.proofs.lemmas.List.{append-nil}
use Rattle.std.proofs.lemmas.List.Concat.{flat_map-append}
use Rattle.std.proofs.lemmas.Bool.{cases_order}
use Rattle.std.proofs.lemmas.List.Elements.{Contains-append_cases, Contains-append_left, Contains-append_right}
use Rattle.cx_base.specs.Literals.{Literal}
use Rattle.cx_base.proofs.Elements.{all_append, in_head, in_tail}
use Rattle.xor_recover.specs.declared.starts.Start.{Start}
use Rattle.xor_recover.specs.Rows.{Row, rows_if, rows_of, gathered}
use Rattle.xor_recover.specs.Starts.{Begins, IsStart, AreStarts, row_at, rows_at}
use Rattle.xor_recover.proofs.Bounds.{one_row}

pub take_more : {X : Type 0} (xs : List X) (k : ℕ) (x : X) → k < length xs → x ≡ get_or xs k x → take (k + 1) xs ≡ take k xs ++ x ∷ []
take_more xs k x lt e = (let next : k + 1 ≡ suc k = omega arith in ap (λ n. take n xs) next) ∙ take-suc xs k x lt ∙ ap (λ y. take k xs ++ y ∷ []) (sym e)

-- the clause that is read
pub read_at : (C : List (List Literal)) (k : ℕ) (lits : List Literal) → slice_get C k ≡ Some lits → get_or C k [] ≡ lits
read_at [] k lits e = absurd (none_is e)
  where
    none_is : {b : List Literal} → ◌≡◌ {A = Rattle.std.proofs.Common.Option (List Literal)} Rattle.std.proofs.Common.None (Some b) → ⊥
    none_is g = cc
read_at (c ∷ C) zero lits e = cc
read_at (c ∷ C) (suc k) lits e = read_at C k lits e

-- ---- members of the rows

pub in_rows_at : (C : List (List Literal)) (ss : List Start) (x : Row) → Contains (rows_at C ss) x → (s : Start) × Contains ss s × Contains (row_at C s.number) x
in_rows_at C [] x c = absurd (let lt = c.1 in omega arith)
in_rows_at C (s ∷ ss) x c = elim (Contains-append_cases (row_at C s.number) (rows_at C ss) x c) [
  | inl here ↦ (s, in_head s ss, here)
  | inr later ↦ let rest = in_rows_at C ss x later in (rest.0, in_tail s ss rest.0 rest.1, rest.2)
]

pub has_rows_at : (C : List (List Literal)) (ss : List Start) (s : Start) (x : Row) → Contains ss s → Contains (row_at C s.number) x → Contains (rows_at C ss) x
has_rows_at C [] s x (k, lt, e) c = absurd (omega arith)
has_rows_at C (t ∷ ss) s x (zero, lt, e) c = Contains-append_left (row_at C t.number) (rows_at C ss) x (subst (λ (u : Start). Contains (row_at C u.number) x) (sym e) c)
has_rows_at C (t ∷ ss) s x (suc k, lt, e) c = Contains-append_right (row_at C t.number) (rows_at C ss) x (has_rows_at C ss s x (k, omega arith, e) c)

pub rows_at-append : (C : List (List Literal)) (ss ts : List Start) → rows_at C (ss ++ ts) ≡ rows_at C ss ++ rows_at C ts
rows_at-append C ss ts = flat_map-append (λ (s : Start). row_at C s.number) ss ts

pub few_at : (C : List (List Literal)) (ss : List Start) → length (rows_at C ss) ≤ length ss
few_at C [] = omega arith
few_at C (s ∷ ss) =
    let one = one_row (gathered [] (get_or C (s.number - 1) [])) s.number in
    let rest = few_at C ss in
    let both = length-append (row_at C s.number) (rows_at C ss) in
    omega (arith, one, rest, both)

pub start_is : (C : List (List Literal)) (ss : List Start) (s : Start) → AllByRecursion (IsStart C) ss → Contains ss s → IsStart C s
start_is C [] s h (k, lt, e) = absurd (omega arith)
start_is C (t ∷ ss) s h (zero, lt, e) = subst (IsStart C) e h.0
start_is C (t ∷ ss) s h (suc k, lt, e) = start_is C ss s h.1 (k, omega arith, e)

-- one start more
pub rows_more : (C : List (List Literal)) (ss : List Start) (k : ℕ) (s : Start) (lits : List Literal) (base old new : List Row) → k < length ss → s ≡ get_or ss k s → get_or C (s.number - 1) [] ≡ lits
    → old ≡ base ++ rows_at C (take k ss) → new ≡ old ++ rows_if (gathered [] lits) s.number → new ≡ base ++ rows_at C (take (k + 1) ss)
rows_more C ss k s lits base old new lt is read e pushed =
    pushed ∙ (λ i. e i ++ rows_if (gathered [] (sym read i)) s.number) ∙ append_assoc base (rows_at C (take k ss)) (row_at C s.number)
    ∙ ap (λ (rs : List Row). base ++ rs) (ap (λ (rs : List Row). rows_at C (take k ss) ++ rs) (sym (append-nil (row_at C s.number)))
    ∙ sym (rows_at-append C (take k ss) (s ∷ [])) ∙ ap (rows_at C) (sym (take_more ss k s lt is)))

-- ---- the starts of the first clauses

-- the starts of the first clauses: those of some, and of the others
pub record AreUpTo (C : List (List Literal)) (starts others : List Start) (k : ℕ) : Type 0 where
  pub each : AllByRecursion (IsStart C) starts
  pub other : AllByRecursion (IsStart C) others
  pub all : (n : ℕ) → 1 ≤ n → n ≤ k → (x : Row) → Contains (row_at C n) x → Contains (rows_at C (starts ++ others)) x
  pub few : length starts + length others ≤ k
  pub inside : k ≤ length C

last_or : (n k : ℕ) → n ≤ k + 1 → (n ≡ k + 1) ⊎ (n ≤ k)
last_or n k le = elim (cases_order n (k + 1)) [
  | inl e ↦ inl e
  | inr apart ↦ elim apart [ inl below ↦ inr (omega arith) | inr over ↦ absurd (omega arith) ]
]

-- the row of a start among others
row_among_starts : (C : List (List Literal)) (ss ts : List Start) (x : Row) → ((s : Start) → Contains ss s → Contains ts s) → Contains (rows_at C ss) x → Contains (rows_at C ts) x
row_among_starts C ss ts x more c = let found = in_rows_at C ss x c in has_rows_at C ts found.0 x (more found.0 found.1) found.2

pub one_start : (C : List (List Literal)) (old new others : List Start) (k : ℕ) (lits : List Literal) (s : Start) → k < length C → get_or C (k + 1 - 1) [] ≡ lits → s.number ≡ k + 1 → s.second < 4294967296
    → AllByRecursion (Begins s) (rows_if (gathered [] lits) (k + 1)) → new ≡ old ++ s ∷ [] → AreUpTo C old others k → AreUpTo C new others (k + 1)
one_start C old new others k lits s lt read number fits begins pushed h = subst (λ (ss : List Start). AreUpTo C ss others (k + 1)) (sym pushed) (record {
  each = all_append (IsStart C) old (s ∷ []) h.each (record { low = omega (arith, number); high = omega (arith, number); fits = fits; begins = subst (AllByRecursion (Begins s)) row begins }, tt);
  other = h.other;
  all = λ n low high x c. elim (last_or n k high) [
    | inl e ↦ has_rows_at C ((old ++ s ∷ []) ++ others) s x (Contains-append_left (old ++ s ∷ []) others s (Contains-append_right old (s ∷ []) s (in_head s []))) (subst (λ m. Contains (row_at C m) x) (e ∙ sym number) c)
    | inr le ↦ row_among_starts C (old ++ others) ((old ++ s ∷ []) ++ others) x (λ t ct. elim (Contains-append_cases old others t ct) [
      | inl here ↦ Contains-append_left (old ++ s ∷ []) others t (Contains-append_left old (s ∷ []) t here)
      | inr there ↦ Contains-append_right (old ++ s ∷ []) others t there
    ]) (h.all n low le x c)
  ];
  few = (let n = length-append old (s ∷ []) in let f = h.few in omega (arith, n, f));
  inside = omega arith;
})
  where
    row : rows_if (gathered [] lits) (k + 1) ≡ row_at C s.number
    row = ap (λ (c : List Literal). rows_if (gathered [] c) (k + 1)) (sym read) ∙ ap (row_at C) (sym number)

pub no_start : (C : List (List Literal)) (old new others : List Start) (k : ℕ) (lits : List Literal) → k < length C → get_or C (k + 1 - 1) [] ≡ lits → rows_if (gathered [] lits) (k + 1) ≡ [] → new ≡ old → AreUpTo C old others k → AreUpTo C new others (k + 1)
no_start C old new others k lits lt read none is h = subst (λ (ss : List Start). AreUpTo C ss others (k + 1)) (sym is) (record {
  each = h.each;
  other = h.other;
  all = λ n low high x c. elim (last_or n k high) [
    | inl e ↦ absurd (no_member x (subst (λ (rs : List Row). Contains rs x) (ap (row_at C) e ∙ ap (λ (l : List Literal). rows_if (gathered [] l) (k + 1)) read ∙ none) c))
    | inr le ↦ h.all n low le x c
  ];
  few = (let f = h.few in omega (arith, f));
  inside = omega arith;
})
  where
    no_member : (x : Row) → Contains [] x → ⊥
    no_member x c = let lt = c.1 in omega arith

low_or : (n k : ℕ) → (n ≤ k) ⊎ (k < n)
low_or n k = elim (cases_order n k) [ inl e ↦ inl (omega arith) | inr apart ↦ elim apart [ inl below ↦ inl (omega arith) | inr over ↦ inr over ] ]

-- the starts of this many more clauses
pub more_starts : (C : List (List Literal)) (starts old new more : List Start) (k count : ℕ) → AllByRecursion (IsStart C) more → length more ≡ count → ((n : ℕ) → k < n → n ≤ k + count → (s : Start) × Contains more s × (s.number ≡ n)) → k + count ≤ length C
    → new ≡ old ++ more → AreUpTo C starts old k → AreUpTo C starts new (k + count)
more_starts C starts old new more k count each long has high pushed h = subst (λ (ss : List Start). AreUpTo C starts ss (k + count)) (sym pushed) (record {
  each = h.each;
  other = all_append (IsStart C) old more h.other each;
  all = λ n low le x c. elim (low_or n k) [
    | inl before ↦ row_among_starts C (starts ++ old) (starts ++ (old ++ more)) x (λ t ct. elim (Contains-append_cases starts old t ct) [
      | inl here ↦ Contains-append_left starts (old ++ more) t here
      | inr there ↦ Contains-append_right starts (old ++ more) t (Contains-append_left old more t there)
    ]) (h.all n low before x c)
    | inr now ↦ let s = has n now le in has_rows_at C (starts ++ (old ++ more)) s.0 x (Contains-append_right starts (old ++ more) s.0 (Contains-append_right old more s.0 s.1)) (subst (λ m. Contains (row_at C m) x) (sym s.2) c)
  ];
  few = (let n = length-append old more in let f = h.few in omega (arith, n, f, long));
  inside = high;
})

pub all_starts : (C : List (List Literal)) (starts others : List Start) (k : ℕ) → length C ≤ k → AreUpTo C starts others k → AreStarts C (starts ++ others)
all_starts C starts others k le h = record {
  each = all_append (IsStart C) starts others h.each h.other;
  all = λ n low high x c. h.all n low (omega arith) x c;
  few = (let n = length-append starts others in let f = h.few in let i = h.inside in omega (arith, n, f, i, le));
}

-- starts of the same members
pub starts_moved : (C : List (List Literal)) (old new : List Start) → ((s : Start) → Contains old s → Contains new s) → ((s : Start) → Contains new s → Contains old s) → length new ≤ length old → AreStarts C old → AreStarts C new
starts_moved C old new there back few h = record {
  each = all_by (λ s c. start_is C old s h.each (back s c));
  all = λ n low high x c. row_among_starts C old new x there (h.all n low high x c);
  few = (let f = h.few in omega (arith, f, few));
}
  where
    all_by : ((s : Start) → Contains new s → IsStart C s) → AllByRecursion (IsStart C) new
    all_by h = go new h
      where
        go : (ss : List Start) → ((s : Start) → Contains ss s → IsStart C s) → AllByRecursion (IsStart C) ss
        go [] g = tt
        go (s ∷ ss) g = (g s (in_head s ss), go ss (λ t c. g t (in_tail s ss t c)))

-- ---- they are the rows of the clauses

row_among : (C : List (List Literal)) (n k : ℕ) (x : Row) → k < length C → Contains (rows_if (gathered [] (get_or C k [])) (n + k)) x → Contains (rows_of n C) x
row_among [] n k x lt c = absurd (omega arith)
row_among (d ∷ C) n zero x lt c = Contains-append_left (rows_if (gathered [] d) n) (rows_of (n + 1) C) x (let e : n + 0 ≡ n = omega arith in subst (λ m. Contains (rows_if (gathered [] d) m) x) e c)
row_among (d ∷ C) n (suc k) x lt c = Contains-append_right (rows_if (gathered [] d) n) (rows_of (n + 1) C) x
    (row_among C (n + 1) k x (omega arith) (let e : n + suc k ≡ n + 1 + k = omega arith in subst (λ m. Contains (rows_if (gathered [] (get_or C k [])) m) x) e c))

row_stands : (C : List (List Literal)) (n : ℕ) (x : Row) → Contains (rows_of n C) x → (k : ℕ) × (k < length C) × Contains (rows_if (gathered [] (get_or C k [])) (n + k)) x
row_stands [] n x c = absurd (let lt = c.1 in omega arith)
row_stands (d ∷ C) n x c = elim (Contains-append_cases (rows_if (gathered [] d) n) (rows_of (n + 1) C) x c) [
  | inl here ↦ (0, omega arith, (let e : n ≡ n + 0 = omega arith in subst (λ m. Contains (rows_if (gathered [] d) m) x) e here))
  | inr later ↦
      let rest = row_stands C (n + 1) x later in
      let lt = rest.1 in
      (suc rest.0, omega (arith, lt), (let e : n + 1 + rest.0 ≡ n + suc rest.0 = omega arith in subst (λ m. Contains (rows_if (gathered [] (get_or C rest.0 [])) m) x) e rest.2))
]

pub of_clause : (C : List (List Literal)) (s : Start) (x : Row) → IsStart C s → Contains (row_at C s.number) x → Contains (rows_of 1 C) x
of_clause C s x h c =
    let low = h.low in
    let high = h.high in
    row_among C 1 (s.number - 1) x (omega (arith, low, high)) (let e : s.number ≡ 1 + (s.number - 1) = omega (arith, low) in subst (λ m. Contains (rows_if (gathered [] (get_or C (s.number - 1) [])) m) x) e c)

pub of_starts : (C : List (List Literal)) (ss : List Start) (x : Row) → AllByRecursion (IsStart C) ss → Contains (rows_at C ss) x → (s : Start) × Contains ss s × Begins s x × Contains (rows_of 1 C) x
of_starts C ss x each c =
    let found = in_rows_at C ss x c in
    let is = start_is C ss found.0 each found.1 in
    (found.0, found.1, begins_it found.0 (row_at C found.0.number) x is.begins found.2, of_clause C found.0 x is found.2)
  where
    begins_it : (s : Start) (rs : List Row) (x : Row) → AllByRecursion (Begins s) rs → Contains rs x → Begins s x
    begins_it s [] x h (k, lt, e) = absurd (omega arith)
    begins_it s (r ∷ rs) x h (zero, lt, e) = subst (Begins s) e h.0
    begins_it s (r ∷ rs) x h (suc k, lt, e) = begins_it s rs x h.1 (k, omega arith, e)

pub all_rows : (C : List (List Literal)) (starts : List Start) (x : Row) → AreStarts C starts → Contains (rows_of 1 C) x → Contains (rows_at C starts) x
all_rows C starts x h c =
    let at = row_stands C 1 x c in
    let lt = at.1 in
    h.all (1 + at.0) (omega arith) (omega (arith, lt)) x (let e : at.0 ≡ 1 + at.0 - 1 = omega arith in subst (λ k. Contains (rows_if (gathered [] (get_or C k [])) (1 + at.0)) x) e at.2)
