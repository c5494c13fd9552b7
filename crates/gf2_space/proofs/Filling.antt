-- The owners of variables, and those without one, as they are found.
use Rattle.std.proofs.Common.{◌≡◌, ◌≢◌, ℕ, ◌+◌, ◌-◌, ◌<◌, ◌≤◌, zero, suc, false, List, [], ◌∷◌, ◌++◌, length, get_or, set, refl, sym, ap, ◌∙◌, subst, arith, inl, inr, true≢false}
use Rattle.std.proofs.lemmas.List.{get_or-set_same, get_or-set_other, get_or_push}
use Rattle.std.proofs.lemmas.Bool.{cases_lt, cases_eq}
use Rattle.parity_engine.specs.Written.{AreRising}
use Rattle.gf2_matrix.specs.Content.{Content, row_at, has, IsLeastOf, IsEchelonRow}
use Rattle.cx_base.specs.Literals.{Literal}
use Rattle.gf2_lists.specs.Echelon.{IsEchelonOf}
use Rattle.gf2_space.specs.Kept.{AreOwners, AreUnowned, HasNoClash, IsKept}
use Rattle.gf2_space.proofs.Echelons.{least_unique}

-- ---- owners
-- those of the first n rows
pub record OwnersSoFar (c : Content) (owners : List ℕ) (n : ℕ) : Type 0 where
  pub long : length owners ≡ c.vars
  pub owned : (x r : ℕ) → x < c.vars → get_or owners x 0 ≡ r + 1 → (r < n) × IsLeastOf c r x
  pub found : (x r : ℕ) → r < n → IsLeastOf c r x → get_or owners x 0 ≡ r + 1

pub owners_none : (c : Content) (owners : List ℕ) → length owners ≡ c.vars → ((x : ℕ) → x < c.vars → get_or owners x 0 ≡ 0) → OwnersSoFar c owners 0
owners_none c owners long zeros = record {
  long = long;
  owned = λ x r lt is. absurd (let h = zeros x lt in omega arith);
  found = λ x r lt least. absurd (omega arith);
}

pub owners_all : (c : Content) (owners : List ℕ) (n : ℕ) → n ≡ length c.rows → OwnersSoFar c owners n → AreOwners c owners
owners_all c owners n is far = record {
  long = far.long;
  owned = λ x r lt e. let h = far.owned x r lt e in (let l = h.0 in omega arith, h.1);
  found = λ x r lt least. far.found x r (omega arith) least;
}

pub owners_without : (c : Content) (owners : List ℕ) (n : ℕ) → OwnersSoFar c owners n → ((x : ℕ) → has (row_at c.rows n) x ≡ false) → OwnersSoFar c owners (n + 1)
owners_without c owners n far closed = record {
  long = far.long;
  owned = λ x r lt e. let h = far.owned x r lt e in (let l = h.0 in omega arith, h.1);
  found = λ x r lt least.
      elim (cases_eq r n) [
        | inl same ↦ absurd (true≢false (sym least.0 ∙ ap (λ j. has (row_at c.rows j) x) same ∙ closed x))
        | inr other ↦ far.found x r (omega arith) least
      ];
}

pub owners_more : (c : Content) (owners : List ℕ) (n at : ℕ) → OwnersSoFar c owners n → n < length c.rows → ((r : ℕ) → r < length c.rows → IsEchelonRow c r) → at < c.vars → IsLeastOf c n at
    → OwnersSoFar c (set owners at (n + 1)) (n + 1)
owners_more c owners n at far n_in echelon at_in least_at =
    let long = far.long in
    let at_len : at < length owners = omega arith in
    record {
      long = length-set owners at (n + 1) ∙ far.long;
      owned = λ x r lt e.
          elim (cases_eq x at) [
            | inl same ↦
                let here : n + 1 ≡ r + 1 = sym (ap (λ i. get_or (set owners at (n + 1)) i 0) same ∙ get_or-set_same owners at (n + 1) 0 at_len) ∙ e in
                let row : r ≡ n = omega arith in
                (omega arith, subst (λ j. IsLeastOf c j x) (sym row) (subst (IsLeastOf c n) (sym same) least_at))
            | inr other ↦ let h = far.owned x r lt (sym (get_or-set_other owners at x (n + 1) 0 other) ∙ e) in (let l = h.0 in omega arith, h.1)
          ];
      found = λ x r lt least.
          elim (cases_eq r n) [
            | inl same ↦
                let place : x ≡ at = least_unique c n x at (subst (λ j. IsLeastOf c j x) same least) least_at in
                ap (λ i. get_or (set owners at (n + 1)) i 0) place ∙ get_or-set_same owners at (n + 1) 0 at_len ∙ ap (λ j. j + 1) (sym same)
            | inr other ↦
                let apart : x ≢ at = λ q. alone x r (omega arith) least other q in
                get_or-set_other owners at x (n + 1) 0 apart ∙ far.found x r (omega arith) least
          ];
    }
  where
    length-set : (xs : List ℕ) (i y : ℕ) → length (set xs i y) ≡ length xs
    length-set [] i y = refl
    length-set (x ∷ xs) zero y = refl
    length-set (x ∷ xs) (suc i) y = ap suc (length-set xs i y)

    alone : (x r : ℕ) → r < length c.rows → IsLeastOf c r x → r ≢ n → x ≡ at → ⊥
    alone x r lt least other same =
        elim (echelon r lt) [
          | inl closed ↦ true≢false (sym least.0 ∙ closed x)
          | inr own ↦
              let place : own.0 ≡ at = least_unique c r own.0 x own.1 least ∙ same in
              true≢false (sym least_at.0 ∙ ap (has (row_at c.rows n)) (sym place) ∙ own.2 n n_in (λ q. other (sym q)))
        ]

-- ---- variables without a row
rise_push : (least most : ℕ) (ns : List ℕ) → AreRising least most ns → least ≤ most + 1 → AreRising least (most + 1) (ns ++ (most + 1) ∷ [])
rise_push least most [] rise le = (le, omega arith, tt)
rise_push least most (n ∷ ns) rise le = let high = rise.1 in (rise.0, omega arith, rise_push (n + 1) most ns rise.2 (omega arith))

rise_on : (least most : ℕ) (ns : List ℕ) → AreRising least most ns → AreRising least (most + 1) ns
rise_on least most [] rise = tt
rise_on least most (n ∷ ns) rise = let high = rise.1 in (rise.0, omega arith, rise_on (n + 1) most ns rise.2)

read_front : (xs : List ℕ) (y i : ℕ) → i < length xs → get_or (xs ++ y ∷ []) i 0 ≡ get_or xs i 0
read_front [] y i lt = absurd (omega arith)
read_front (x ∷ xs) y zero lt = refl
read_front (x ∷ xs) y (suc i) lt = read_front xs y i (omega arith)

length_push : (xs : List ℕ) (y : ℕ) → length (xs ++ y ∷ []) ≡ length xs + 1
length_push [] y = refl
length_push (x ∷ xs) y = let h = length_push xs y in omega arith

pub unowned_none : (owners : List ℕ) → AreUnowned owners [] 0
unowned_none owners = record { rising = tt; unowned = λ i lt. absurd (omega arith); all = λ x lt none. absurd (omega arith) }

pub unowned_passed : (owners free : List ℕ) (n : ℕ) → AreUnowned owners free n → get_or owners n 0 ≢ 0 → AreUnowned owners free (n + 1)
unowned_passed owners free n far owner = record {
  rising = rise_on 1 n free far.rising;
  unowned = far.unowned;
  all = λ x lt none.
      elim (cases_eq x n) [ inl same ↦ absurd (owner (ap (λ i. get_or owners i 0) (sym same) ∙ none)) | inr other ↦ far.all x (omega arith) none ];
}

pub unowned_more : (owners free : List ℕ) (n : ℕ) → AreUnowned owners free n → get_or owners n 0 ≡ 0 → AreUnowned owners (free ++ (n + 1) ∷ []) (n + 1)
unowned_more owners free n far none =
    let long = length_push free (n + 1) in
    record {
      rising = rise_push 1 n free far.rising (omega arith);
      unowned = λ i lt.
          elim (cases_lt i (length free)) [
            | inl front ↦ ap (λ v. get_or owners (v - 1) 0) (read_front free (n + 1) i front) ∙ far.unowned i front
            | inr last ↦
                let is : length free ≡ i = omega arith in
                let back : n + 1 - 1 ≡ n = omega arith in
                ap (λ v. get_or owners (v - 1) 0) (get_or_push free (n + 1) 0 i is) ∙ ap (λ x. get_or owners x 0) back ∙ none
          ];
      all = λ x lt off.
          elim (cases_eq x n) [
            | inl same ↦ (length free, omega arith, get_or_push free (n + 1) 0 (length free) refl ∙ ap (λ y. y + 1) (sym same))
            | inr other ↦ let h = far.all x (omega arith) off in let lt' = h.1 in (h.0, omega arith, read_front free (n + 1) h.0 h.1 ∙ h.2)
          ];
    }

-- ---- both
pub kept_from : (vars : ℕ) (parities : List (List Literal)) (c : Content) (owners slice free : List ℕ) → IsEchelonOf vars parities c → HasNoClash c → AreOwners c owners → slice ≡ owners
    → AreUnowned slice free (length slice) → IsKept c owners free
kept_from vars parities c owners slice free echelon no_clash are same unowned = record {
  say = echelon.say;
  echelon = echelon.echelon;
  no_clash = no_clash;
  owners_are = are;
  free_are = subst (λ (n : ℕ). AreUnowned owners free n) are.long (subst (λ (o : List ℕ). AreUnowned o free (length o)) same unowned);
}
