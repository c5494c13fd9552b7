-- A row with others added, as far as it has come.
use Rattle.std.proofs.Common.{◌≡◌, ◌≢◌, ◌⊎◌, ℕ, ◌+◌, ◌-◌, ◌<◌, ◌≤◌, zero, suc, Bool, true, false, not, List, [], ◌∷◌, ◌++◌, length, get_or, take, drop, refl, sym, ap, ◌∙◌, subst, arith, append_assoc, append-nil, inl, inr}
use mathlib.Core.Bool.{beq}
use Rattle.std.proofs.lemmas.Bool.{cases_lt}
use Rattle.cx_base.specs.Literals.{differ, value_of}
use Rattle.cx_base.proofs.ParityLaws.{differ_false, differ_swap}
use Rattle.cx_base.proofs.Differences.{differ_assoc, differ_turned, differ_itself, same-differ}
use Rattle.parity_engine.specs.Written.{AreRising}
use Rattle.gf2_lists.specs.declared.row.ListedRow.{ListedRow}
use Rattle.gf2_lists.specs.Sums.{sum_over, excess, IsSumOf}
use Rattle.gf2_lists.specs.Listed.{vars_at, right_at, AreListed, AreMetBut}
use Rattle.gf2_lists.specs.Reducing.{OwnFirsts, IsClear, IsReduced}
use Rattle.gf2_lists.proofs.Rises.{rise_rest, rise_replaced, drop_at, drop_past, cut_rest}
use Rattle.gf2_lists.proofs.Merging.{sum_over-append}

-- done is final, and rest is still to be looked at
pub record Reducing (owners : List ℕ) (rows : List ListedRow) (row : ℕ) (done rest : List ℕ) (right : Bool) : Type 0 where
  pub rises : AreRising 1 (length owners) (done ++ rest)
  pub same : (v : List Bool) → AreMetBut rows row v → excess (done ++ rest) right v ≡ excess (vars_at rows row) (right_at rows row) v
  pub clear : IsClear owners (row + 1) done
  pub own : (x : ℕ) → x < length owners → get_or owners x 0 ≡ row + 1 → get_or (done ++ rest) 0 0 ≡ x + 1

pub reducing_none : (owners : List ℕ) (rows : List ListedRow) (row : ℕ) (vars : List ℕ) (right : Bool) → row < length rows → AreListed (length owners) rows → OwnFirsts owners rows
    → vars ≡ vars_at rows row → right ≡ right_at rows row → Reducing owners rows row [] vars right
reducing_none owners rows row vars right row_in listed owned vars_are right_is = record {
  rises = subst (AreRising 1 (length owners)) (sym vars_are) (listed row row_in);
  same = λ v but. (λ i. excess (vars_are i) (right_is i) v);
  clear = λ i lt. absurd (omega arith);
  own = λ x lt is. ap (λ (l : List ℕ). get_or l 0 0) vars_are ∙ (owned x row lt is).1;
}

-- ---- a variable that stays
read_front : (xs : List ℕ) (y i : ℕ) → i < length xs → get_or (xs ++ y ∷ []) i 0 ≡ get_or xs i 0
read_front [] y i lt = absurd (omega arith)
read_front (x ∷ xs) y zero lt = refl
read_front (x ∷ xs) y (suc i) lt = read_front xs y i (omega arith)

read_last : (xs : List ℕ) (y i : ℕ) → length xs ≤ i → i < length (xs ++ y ∷ []) → get_or (xs ++ y ∷ []) i 0 ≡ y
read_last [] y zero le lt = refl
read_last [] y (suc i) le lt = absurd (omega arith)
read_last (x ∷ xs) y zero le lt = absurd (omega arith)
read_last (x ∷ xs) y (suc i) le lt = read_last xs y i (omega arith) (omega arith)

clear_more : (owners : List ℕ) (own : ℕ) (done : List ℕ) (y : ℕ) → IsClear owners own done → ((get_or owners (y - 1) 0 ≡ 0) ⊎ (get_or owners (y - 1) 0 ≡ own)) → IsClear owners own (done ++ y ∷ [])
clear_more owners own done y clear here = λ i lt.
    elim (cases_lt i (length done)) [
      | inl front ↦ subst (λ (z : ℕ). (get_or owners (z - 1) 0 ≡ 0) ⊎ (get_or owners (z - 1) 0 ≡ own)) (sym (read_front done y i front)) (clear i front)
      | inr last ↦ subst (λ (z : ℕ). (get_or owners (z - 1) 0 ≡ 0) ⊎ (get_or owners (z - 1) 0 ≡ own)) (sym (read_last done y i last lt)) here
    ]

reducing_stays : (owners : List ℕ) (rows : List ListedRow) (row : ℕ) (done : List ℕ) (y : ℕ) (rest : List ℕ) (right : Bool) → Reducing owners rows row done (y ∷ rest) right
    → ((get_or owners (y - 1) 0 ≡ 0) ⊎ (get_or owners (y - 1) 0 ≡ row + 1)) → Reducing owners rows row (done ++ y ∷ []) rest right
reducing_stays owners rows row done y rest right far here =
    let e : done ++ y ∷ [] ++ rest ≡ done ++ y ∷ rest = append_assoc done (y ∷ []) rest in
    record {
      rises = subst (AreRising 1 (length owners)) (sym e) far.rises;
      same = λ v but. ap (λ (l : List ℕ). excess l right v) e ∙ far.same v but;
      clear = clear_more owners (row + 1) done y far.clear here;
      own = λ x lt is. ap (λ (l : List ℕ). get_or l 0 0) e ∙ far.own x lt is;
    }

pub walk_stays : (owners : List ℕ) (rows : List ListedRow) (row : ℕ) (done rest : List ℕ) (at : ℕ) (right : Bool) → Reducing owners rows row done (drop at rest) right → at < length rest
    → ((get_or owners (get_or rest at 0 - 1) 0 ≡ 0) ⊎ (get_or owners (get_or rest at 0 - 1) 0 ≡ row + 1)) → Reducing owners rows row (done ++ get_or rest at 0 ∷ []) (drop (at + 1) rest) right
walk_stays owners rows row done rest at right far lt here =
    reducing_stays owners rows row done (get_or rest at 0) (drop (at + 1) rest) right (subst (λ (l : List ℕ). Reducing owners rows row done l right) (drop_at rest at lt) far) here

-- ---- a row added
added : (d x r t q o : Bool) → differ (differ x t) o ≡ false → differ (differ d (differ r t)) (differ q o) ≡ differ (differ d (differ x r)) q
added d x r t q o met =
    ap (λ b. differ (differ d (differ r t)) (differ q b)) (sym (same-differ (differ x t) o met))
    ∙ differ_swap d (differ r t) q (differ x t)
    ∙ ap (differ (differ d q)) (differ_swap r t x t ∙ ap (differ (differ r x)) (differ_itself t) ∙ differ_false (differ r x) ∙ differ_turned r x)
    ∙ differ_assoc d q (differ x r) ∙ ap (differ d) (differ_turned q (differ x r)) ∙ sym (differ_assoc d (differ x r) q)

first_of : (done rest other : List ℕ) (y x : ℕ) → get_or (done ++ y ∷ rest) 0 0 ≡ x + 1 → y ≢ x + 1 → get_or (done ++ other) 0 0 ≡ x + 1
first_of [] rest other y x is ne = absurd (ne is)
first_of (d ∷ done) rest other y x is ne = is

-- the row s, which has y first, is added
reducing_added : (owners : List ℕ) (rows : List ListedRow) (row : ℕ) (done : List ℕ) (y : ℕ) (rest : List ℕ) (right : Bool) (s : ℕ) (tail sum : List ℕ) (other : Bool)
    → Reducing owners rows row done (y ∷ rest) right → s < length rows → s ≢ row → get_or owners (y - 1) 0 ≡ s + 1 → AreListed (length owners) rows → vars_at rows s ≡ y ∷ tail → right_at rows s ≡ other
    → IsSumOf rest tail sum → Reducing owners rows row done sum (differ right other)
reducing_added owners rows row done y rest right s tail sum other far s_in ne owner listed vars_are right_is is_sum =
    let n : ℕ = length owners in
    let here : AreRising 1 n (y ∷ rest) = rise_rest 1 n done (y ∷ rest) far.rises in
    let there : AreRising 1 n (y ∷ tail) = subst (AreRising 1 n) vars_are (listed s s_in) in
    record {
      rises = rise_replaced 1 n done y rest sum far.rises (is_sum.rises (y + 1) n here.2 there.2);
      same = λ v but.
          let met : excess (y ∷ tail) other v ≡ false = (λ i. excess (sym vars_are i) (sym right_is i) v) ∙ but s s_in ne in
          ap (λ b. differ b (differ right other)) (sum_over-append done sum v ∙ ap (differ (sum_over done v)) (is_sum.sums v))
          ∙ added (sum_over done v) (value_of v y) (sum_over rest v) (sum_over tail v) right other met
          ∙ ap (λ b. differ b right) (sym (sum_over-append done (y ∷ rest) v))
          ∙ far.same v but;
      clear = far.clear;
      own = λ x lt is. first_of done rest sum y x (far.own x lt is) (λ e.
          let back : y - 1 ≡ x = omega arith in
          let at : get_or owners x 0 ≡ s + 1 = ap (λ (k : ℕ). get_or owners k 0) (sym back) ∙ owner in
          ne (omega arith));
    }

split : (xs : List ℕ) (y : ℕ) → get_or xs 0 0 ≡ y + 1 → xs ≡ (y + 1) ∷ drop 1 xs
split [] y is = absurd (omega arith)
split (x ∷ xs) y is = ap (λ (z : ℕ). z ∷ xs) is

pub walk_added : (owners : List ℕ) (rows : List ListedRow) (row : ℕ) (done rest : List ℕ) (at : ℕ) (right : Bool) (s : ℕ) (vars sum : List ℕ) (other : Bool)
    → Reducing owners rows row done (drop at rest) right → at < length rest → s ≢ row → get_or owners (get_or rest at 0 - 1) 0 ≡ s + 1 → AreListed (length owners) rows → OwnFirsts owners rows
    → vars ≡ vars_at rows s → other ≡ right_at rows s → IsSumOf (drop (at + 1) rest) (drop 1 vars) sum → Reducing owners rows row done (drop 0 sum) (differ right other)
walk_added owners rows row done rest at right s vars sum other far lt ne owner listed owned vars_are right_is is_sum =
    let n : ℕ = length owners in
    let y : ℕ = get_or rest at 0 in
    let now : Reducing owners rows row done (y ∷ drop (at + 1) rest) right = subst (λ (l : List ℕ). Reducing owners rows row done l right) (drop_at rest at lt) far in
    let here : AreRising 1 n (y ∷ drop (at + 1) rest) = rise_rest 1 n done (y ∷ drop (at + 1) rest) now.rises in
    let low = here.0 in
    let high = here.1 in
    let of_s = owned (y - 1) s (omega arith) owner in
    let back : y - 1 + 1 ≡ y = omega arith in
    let head : get_or vars 0 0 ≡ y - 1 + 1 = ap (λ (l : List ℕ). get_or l 0 0) vars_are ∙ of_s.1 in
    let whole : vars_at rows s ≡ y ∷ drop 1 vars = sym vars_are ∙ split vars (y - 1) head ∙ ap (λ (z : ℕ). z ∷ drop 1 vars) back in
    reducing_added owners rows row done y (drop (at + 1) rest) right s (drop 1 vars) sum other now of_s.0 ne owner listed whole (sym right_is) is_sum

-- ---- the end
pub walk_ends : (owners : List ℕ) (rows : List ListedRow) (row : ℕ) (done rest : List ℕ) (at : ℕ) (right : Bool) → Reducing owners rows row done (drop at rest) right → length rest ≤ at
    → IsReduced owners rows row done right
walk_ends owners rows row done rest at right far past =
    let e : done ++ drop at rest ≡ done = ap (λ (l : List ℕ). done ++ l) (drop_past rest at past) ∙ append-nil done in
    record {
      rises = subst (AreRising 1 (length owners)) e far.rises;
      same = λ v but. ap (λ (l : List ℕ). excess l right v) (sym e) ∙ far.same v but;
      clear = far.clear;
      own = λ x lt is. ap (λ (l : List ℕ). get_or l 0 0) (sym e) ∙ far.own x lt is;
    }

-- ---- that it ends: the next variable rises
abbrev pub reach : ℕ → List ℕ → ℕ
reach n [] = 0
reach n (x ∷ xs) = suc n - x

reach_less : (n y : ℕ) (rest : List ℕ) → y ≤ n → AreRising (y + 1) n rest → reach n rest < suc n - y
reach_less n y [] le rise = omega arith
reach_less n y (z ∷ rest) le rise = let low = rise.0 in let high = rise.1 in omega arith

at_rest : (owners : List ℕ) (rows : List ListedRow) (row : ℕ) (done rest : List ℕ) (at : ℕ) (right : Bool) → Reducing owners rows row done (drop at rest) right → at < length rest
    → AreRising 1 (length owners) (get_or rest at 0 ∷ drop (at + 1) rest)
at_rest owners rows row done rest at right far lt = subst (AreRising 1 (length owners)) (drop_at rest at lt) (rise_rest 1 (length owners) done (drop at rest) far.rises)

pub variable_low : (owners : List ℕ) (rows : List ListedRow) (row : ℕ) (done rest : List ℕ) (at : ℕ) (right : Bool) → Reducing owners rows row done (drop at rest) right → at < length rest → 1 ≤ get_or rest at 0
variable_low owners rows row done rest at right far lt = (at_rest owners rows row done rest at right far lt).0

pub variable_high : (owners : List ℕ) (rows : List ListedRow) (row : ℕ) (done rest : List ℕ) (at : ℕ) (right : Bool) → Reducing owners rows row done (drop at rest) right → at < length rest
    → get_or rest at 0 ≤ length owners
variable_high owners rows row done rest at right far lt = (at_rest owners rows row done rest at right far lt).1

pub stays_smaller : (owners : List ℕ) (rows : List ListedRow) (row : ℕ) (done rest : List ℕ) (at : ℕ) (right : Bool) → Reducing owners rows row done (drop at rest) right → at < length rest
    → reach (length owners) (drop (at + 1) rest) < reach (length owners) (drop at rest)
stays_smaller owners rows row done rest at right far lt =
    let here = at_rest owners rows row done rest at right far lt in
    subst (λ (l : List ℕ). reach (length owners) (drop (at + 1) rest) < reach (length owners) l) (sym (drop_at rest at lt)) (reach_less (length owners) (get_or rest at 0) (drop (at + 1) rest) here.1 here.2)

pub added_smaller : (owners : List ℕ) (rows : List ListedRow) (row : ℕ) (done rest : List ℕ) (at : ℕ) (right : Bool) (s : ℕ) (vars sum : List ℕ) → Reducing owners rows row done (drop at rest) right
    → at < length rest → get_or owners (get_or rest at 0 - 1) 0 ≡ s + 1 → AreListed (length owners) rows → OwnFirsts owners rows → vars ≡ vars_at rows s
    → IsSumOf (drop (at + 1) rest) (drop 1 vars) sum → reach (length owners) (drop 0 sum) < reach (length owners) (drop at rest)
added_smaller owners rows row done rest at right s vars sum far lt owner listed owned vars_are is_sum =
    let n : ℕ = length owners in
    let y : ℕ = get_or rest at 0 in
    let here = at_rest owners rows row done rest at right far lt in
    let low = here.0 in
    let high = here.1 in
    let of_s = owned (y - 1) s (omega arith) owner in
    let back : y - 1 + 1 ≡ y = omega arith in
    let head : get_or vars 0 0 ≡ y - 1 + 1 = ap (λ (l : List ℕ). get_or l 0 0) vars_are ∙ of_s.1 in
    let whole : vars_at rows s ≡ y ∷ drop 1 vars = sym vars_are ∙ split vars (y - 1) head ∙ ap (λ (z : ℕ). z ∷ drop 1 vars) back in
    let there : AreRising 1 n (y ∷ drop 1 vars) = subst (AreRising 1 n) whole (listed s of_s.0) in
    subst (λ (l : List ℕ). reach n (drop 0 sum) < reach n l) (sym (drop_at rest at lt)) (reach_less n y (drop 0 sum) here.1 (is_sum.rises (y + 1) n here.2 there.2))

-- the row that owns the variable
pub owner_row : (owners : List ℕ) (rows : List ListedRow) (y : ℕ) → OwnFirsts owners rows → 1 ≤ y → y ≤ length owners → get_or owners (y - 1) 0 ≢ 0 → get_or owners (y - 1) 0 - 1 < length rows
owner_row owners rows y owned low high some =
    let of_s = owned (y - 1) (get_or owners (y - 1) 0 - 1) (omega arith) (omega arith) in of_s.0

pub owner_some : (owners : List ℕ) (rows : List ListedRow) (y : ℕ) → OwnFirsts owners rows → 1 ≤ y → y ≤ length owners → get_or owners (y - 1) 0 ≢ 0
    → 1 ≤ length (vars_at rows (get_or owners (y - 1) 0 - 1))
owner_some owners rows y owned low high some =
    let of_s = owned (y - 1) (get_or owners (y - 1) 0 - 1) (omega arith) (omega arith) in has_some (vars_at rows (get_or owners (y - 1) 0 - 1)) (y - 1) of_s.1
  where
    has_some : (xs : List ℕ) (x : ℕ) → get_or xs 0 0 ≡ x + 1 → 1 ≤ length xs
    has_some [] x is = absurd (omega arith)
    has_some (z ∷ xs) x is = omega arith

-- ---- as the machine has it
pub differ_is : (a b : Bool) → differ a b ≡ not (beq a b)
differ_is true true = refl
differ_is true false = refl
differ_is false true = refl
differ_is false false = refl

pub cut_sum : (rest r vars vs sum : List ℕ) (at : ℕ) → r ≡ rest → vs ≡ vars → IsSumOf (take (length r - (at + 1)) (drop (at + 1) r)) (take (length vs - 1) (drop 1 vs)) sum
    → IsSumOf (drop (at + 1) rest) (drop 1 vars) sum
cut_sum rest r vars vs sum at r_is vs_is h =
    subst (λ (a : List ℕ). IsSumOf a (drop 1 vars) sum) (cut_rest r (at + 1) ∙ ap (drop (at + 1)) r_is)
    (subst (λ (b : List ℕ). IsSumOf (take (length r - (at + 1)) (drop (at + 1) r)) b sum) (cut_rest vs 1 ∙ ap (drop 1) vs_is) h)
