-- A formula has all clauses of a parity just where the plain look finds them.
use Rattle.std.proofs.Common.{◌≡◌, ◌≢◌, refl, sym, ap, ◌∙◌, subst, ℕ, ◌+◌, ◌<◌, ◌≤◌, Bool, true, false, not, ◌&&◌, List, [], ◌∷◌, ◌++◌, length, arith, true≢false, inl, inr}
use Rattle.std.specs.Prelude.{MatchBool, IfOk, Result, Ok, Err}
use Rattle.std.specs.List.{list_any}
use Rattle.std.specs.FinSet as set
use Rattle.std.proofs.lemmas.Bool.{cases_Bool, or_cases, or_parts, or_left, or_right, and_parts}
use Rattle.std.proofs.lemmas.List.{append_assoc, append-nil}
use Rattle.cx_base.specs.Literals.{Literal, differ, positive_of, negative_of}
use Rattle.cx_base.specs.Problem.{Problem, clauses_of}
use Rattle.cx_base.specs.Parity.{HasOneOfEach}
use Rattle.cx_base.specs.declared.literal.TheConstants.{MAX_VARIABLE}
use Rattle.cx_semantics.specs.Chain.{same_literals, HaveSame}
use Rattle.cx_semantics.specs.Recovered.{excluded_sum}
use Rattle.cx_semantics.proofs.RecoveredLaws.{len-distinct}
use Rattle.cx_semantics.proofs.SameSets.{HaveSame-by_test}
use Rattle.cx_semantics.proofs.Widths.{variables, length-variables}
use Rattle.parity_engine.specs.Written.{AreRising}
use Rattle.parity_engine.proofs.Rising.{columns_rise}
use Rattle.xor_recover.proofs.FindLaws.{distinct_rising, in_order, excluded_is, set_of, one_of_each, ordered_variables}
use Rattle.xor_recover.proofs.Numbers.{test_same}
use Rattle.plain_tests.specs.Standing.{stands, all_stand, IsRecovered}

-- ---- one literal of each variable, in order

-- the literals in the order of the variables
record Ordered (vs : List ℕ) (lits : List Literal) : Type 0 where
  r : List Literal
  vars : variables r ≡ vs
  same : HaveSame r lits
  sum : excluded_sum r ≡ excluded_sum lits

ordered : (vs : List ℕ) (lits : List Literal) → AreRising 1 MAX_VARIABLE vs → HasOneOfEach (set_of vs) lits → Ordered vs lits
ordered vs lits rise each =
    let one = one_of_each vs lits rise each in
    let order = in_order lits one.within one.distinct in
    record {
      r = order.0;
      vars = ordered_variables vs lits order.0 rise one order.1;
      same = order.1.same;
      sum = excluded_is order.0 ∙ order.1.sum ∙ sym (excluded_is lits);
    }

-- ---- what the look finds

one_more : (formula : Problem) (right : Bool) (chosen : List Literal) (x : ℕ) (xs : List ℕ) → all_stand formula right chosen (x ∷ xs) ≡ true → (b : Bool)
    → all_stand formula right (chosen ++ record { variable = x; negative = b } ∷ []) xs ≡ true
one_more formula right chosen x xs h true = (and_parts _ _ h).1
one_more formula right chosen x xs h false = (and_parts _ _ h).0

pub each_stands : (formula : Problem) (right : Bool) (chosen : List Literal) (vs : List ℕ) → all_stand formula right chosen vs ≡ true → (r : List Literal) → variables r ≡ vs
    → differ right (excluded_sum (chosen ++ r)) ≡ true → stands formula (chosen ++ r) ≡ true
each_stands formula right chosen [] h [] e w = subst (λ xs. stands formula xs ≡ true) (sym (append-nil chosen)) (elim (or_cases (not (differ right (excluded_sum chosen))) (stands formula chosen) h) [
  | inl n ↦ absurd (true≢false (sym n ∙ ap not (subst (λ xs. differ right (excluded_sum xs) ≡ true) (append-nil chosen) w)))
  | inr s ↦ s
])
each_stands formula right chosen [] h (l ∷ r) e w = cc
each_stands formula right chosen (x ∷ xs) h [] e w = cc
each_stands formula right chosen (x ∷ xs) h (l ∷ r) e w =
    let first : l.variable ≡ x = cc in
    let rest : variables r ≡ xs = cc in
    let here : all_stand formula right (chosen ++ l ∷ []) xs ≡ true =
    subst (λ v. all_stand formula right (chosen ++ record { variable = v; negative = l.negative } ∷ []) xs ≡ true) (sym first) (one_more formula right chosen x xs h l.negative) in
    let there = append_assoc chosen (l ∷ []) r in
    subst (λ ys. stands formula ys ≡ true) there (each_stands formula right (chosen ++ l ∷ []) xs here r rest (subst (λ ys. differ right (excluded_sum ys) ≡ true) (sym there) w))

-- a clause that is missing
record Missing (formula : Problem) (right : Bool) (chosen : List Literal) (vs : List ℕ) : Type 0 where
  r : List Literal
  vars : variables r ≡ vs
  wrong : differ right (excluded_sum (chosen ++ r)) ≡ true
  none : stands formula (chosen ++ r) ≡ false

more_missing : (formula : Problem) (right : Bool) (chosen : List Literal) (l : Literal) (xs : List ℕ) → Missing formula right (chosen ++ l ∷ []) xs → Missing formula right chosen (l.variable ∷ xs)
more_missing formula right chosen l xs m =
    let there = append_assoc chosen (l ∷ []) m.r in
    record {
      r = l ∷ m.r;
      vars = ap (λ ys. l.variable ∷ ys) m.vars;
      wrong = subst (λ ys. differ right (excluded_sum ys) ≡ true) there m.wrong;
      none = subst (λ ys. stands formula ys ≡ false) there m.none;
    }

missing : (formula : Problem) (right : Bool) (chosen : List Literal) (vs : List ℕ) → all_stand formula right chosen vs ≡ false → Missing formula right chosen vs
missing formula right chosen [] h =
    let p = or_parts (not (differ right (excluded_sum chosen))) (stands formula chosen) h in
    record {
      r = [];
      vars = refl;
      wrong = subst (λ ys. differ right (excluded_sum ys) ≡ true) (sym (append-nil chosen)) (turned (differ right (excluded_sum chosen)) p.0);
      none = subst (λ ys. stands formula ys ≡ false) (sym (append-nil chosen)) p.1;
    }
  where
    turned : (b : Bool) → not b ≡ false → b ≡ true
    turned true e = refl
    turned false e = absurd (true≢false e)
missing formula right chosen (x ∷ xs) h = elim (cases_Bool (all_stand formula right (chosen ++ positive_of x ∷ []) xs)) [
  | inl t ↦ more_missing formula right chosen (negative_of x) xs (missing formula right (chosen ++ negative_of x ∷ []) xs
      (sym (ap (λ b. b && all_stand formula right (chosen ++ negative_of x ∷ []) xs) t) ∙ h))
  | inr f ↦ more_missing formula right chosen (positive_of x) xs (missing formula right (chosen ++ positive_of x ∷ []) xs f)
]

-- ---- the definition

same_any : (a b : List Literal) (C : List (List Literal)) → HaveSame a b → list_any (same_literals a) C ≡ true → list_any (same_literals b) C ≡ true
same_any a b [] h k = absurd (true≢false (sym k))
same_any a b (d ∷ C) h k = elim (or_cases (same_literals a d) (list_any (same_literals a) C) k) [
  | inl e ↦ or_left (same_literals b d) _ (test_same b d (λ q. sym (h q) ∙ HaveSame-by_test a d e q))
  | inr later ↦ or_right (same_literals b d) _ (same_any a b C h later)
]

apart : (a b : Bool) → b ≢ a → differ a b ≡ true
apart true true n = absurd (n refl)
apart true false n = refl
apart false true n = refl
apart false false n = absurd (n refl)

not_same : (a b : Bool) → differ a b ≡ true → b ≢ a
not_same a true h e = true≢false (sym h ∙ ap (λ x. differ x true) (sym e))
not_same a false h e = true≢false (sym h ∙ ap (λ x. differ x false) (sym e))

len_rising : (vs : List ℕ) → AreRising 1 MAX_VARIABLE vs → set.len (set_of vs) ≡ length vs
len_rising vs rise = len-distinct vs (distinct_rising 1 vs (columns_rise 1 MAX_VARIABLE vs rise))

all_there : (formula : Problem) (vs : List ℕ) (right : Bool) → AreRising 1 MAX_VARIABLE vs → 2 ≤ length vs → length vs ≤ 6 → all_stand formula right [] vs ≡ true → IsRecovered formula vs right
all_there formula vs right rise two six h =
    let long = len_rising vs rise in
    record {
      rising = rise;
      recovered = record {
        two = omega (arith, long);
        six = omega (arith, long);
        stands = λ lits each wrong.
            let o = ordered vs lits rise each in
            same_any o.r lits (clauses_of formula.constraints) o.same (each_stands formula right [] vs h o.r o.vars (apart right (excluded_sum o.r) (λ e. wrong (sym o.sum ∙ e))));
      };
    }

one_missing : (formula : Problem) (vs : List ℕ) (right : Bool) → all_stand formula right [] vs ≡ false → ¬ IsRecovered formula vs right
one_missing formula vs right h rec =
    let m = missing formula right [] vs h in
    let each : HasOneOfEach (set_of vs) m.r = record {
      same = ap set.from_list m.vars;
      once = sym (length-variables m.r) ∙ ap length m.vars ∙ sym (len_rising vs rec.rising);
    } in
    true≢false (sym (rec.recovered.stands m.r each (not_same right (excluded_sum m.r) m.wrong)) ∙ m.none)

-- the answer, by what the look finds
pub recovered_by : (formula : Problem) (vs : List ℕ) (right b : Bool) → AreRising 1 MAX_VARIABLE vs → 2 ≤ length vs → length vs ≤ 6 → b ≡ all_stand formula right [] vs
    → MatchBool b (IsRecovered formula vs right) (¬ IsRecovered formula vs right)
recovered_by formula vs right true rise two six e = all_there formula vs right rise two six (sym e)
recovered_by formula vs right false rise two six e = one_missing formula vs right (sym e)

pub too_short : (formula : Problem) (vs : List ℕ) (right : Bool) → length vs < 2 → ¬ IsRecovered formula vs right
too_short formula vs right h rec = let long = len_rising vs rec.rising in let two = rec.recovered.two in omega (arith, long, two, h)

pub too_long : (formula : Problem) (vs : List ℕ) (right : Bool) → 6 < length vs → ¬ IsRecovered formula vs right
too_long formula vs right h rec = let long = len_rising vs rec.rising in let six = rec.recovered.six in omega (arith, long, six, h)

-- one more variable in front
pub rising_by : (least v : ℕ) (vs : List ℕ) (b : Bool) → least ≤ v → v ≤ MAX_VARIABLE → MatchBool b (AreRising (v + 1) MAX_VARIABLE vs) (¬ AreRising (v + 1) MAX_VARIABLE vs)
    → MatchBool b (AreRising least MAX_VARIABLE (v ∷ vs)) (¬ AreRising least MAX_VARIABLE (v ∷ vs))
rising_by least v vs true low high h = (low, high, h)
rising_by least v vs false low high h = λ rise. h rise.2

-- what holds of each value with the one holds with the other
pub ok_maps : {T E : Type 0} {P Q : T → Type 0} (r : Result T E) → IfOk r P → ((x : T) → P x → Q x) → IfOk r Q
ok_maps (Ok x) h f = f x h
ok_maps (Err e) h f = h
