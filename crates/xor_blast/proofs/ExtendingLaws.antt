-- Values of a formula's variables meet it just where one list that begins with them meets its clauses.
use Rattle.std.proofs.Common.{◌≡◌, refl, sym, ap, ◌∙◌, subst, ℕ, zero, suc, ◌+◌, ◌-◌, ◌≤◌, Bool, true, false, not, ◌&&◌, List, [], ◌∷◌, ◌++◌, map, length, take, drop, append_assoc, length-append, length-drop, take-append-drop, arith}
use Rattle.std.specs.List.{list_all, AllByRecursion}
use Rattle.std.proofs.lemmas.Bool.{and_parts, and_from}
use Rattle.cx_base.specs.Literals.{differ, value_of}
use Rattle.cx_base.specs.Parity.{normal_form}
use Rattle.cx_base.specs.Problem.{Problem, clause_met, constraint_met, literals_of, AreWithin, IsWithinVariables}
use Rattle.cx_base.specs.declared.constraint.Constraint.{Constraint}
use Rattle.cx_base.specs.declared.constraint.Constraint.TheVariants.{Clause, Parity, Assume}
use Rattle.xor_blast.specs.Pieces.{rising_variables, clauses_of_pieces}
use Rattle.xor_blast.specs.Blasted.{pieces_of, new_count, in_clauses, all_in_clauses, variables_behind, blasted}
use Rattle.xor_blast.specs.Extending.{BeginsWith, Extends, ExtendInOneWay}
use Rattle.xor_blast.proofs.PieceLaws.{all_of_append, all_of_map}
use Rattle.xor_blast.proofs.ChainLaws.{new_values, agree, pieces_met, count_of}
use Rattle.xor_blast.proofs.SumLaws.{parity_by_sum}
use Rattle.xor_blast.proofs.AgreeLaws.{AreAlike, all_alike, rising_alike, front_alike}

-- ---- the values of all new variables

-- the values of the new variables of a constraint, and of all
abbrev added_by : ℕ → List Bool → Constraint → List Bool
added_by vars values (Clause lits) = []
added_by vars values (Parity lits) = new_values (map (value_of values) (rising_variables vars lits))
added_by vars values (Assume lits) = []

abbrev added : ℕ → List Bool → List Constraint → List Bool
added vars values [] = []
added vars values (c ∷ cs) = added_by vars values c ++ added vars values cs

count_added_by : (vars n : ℕ) (values : List Bool) (c : Constraint) → new_count vars n c ≡ length (added_by vars values c)
count_added_by vars n values (Clause lits) = refl
count_added_by vars n values (Parity lits) = let e = count_of n (rising_variables vars lits) (normal_form lits).right_side (value_of values) in omega (arith, e)
count_added_by vars n values (Assume lits) = refl

count_added : (vars n : ℕ) (values : List Bool) (cs : List Constraint) → variables_behind vars n cs ≡ n + length (added vars values cs)
count_added vars n values [] = omega arith
count_added vars n values (c ∷ cs) =
    let here = count_added_by vars n values c in
    let rest = count_added vars (n + new_count vars n c) values cs in
    omega (arith, here, rest, length-append (added_by vars values c) (added vars values cs))

agree_append : (values : List Bool) (n : ℕ) (xs ys : List Bool) → agree values n (xs ++ ys) ≡ (agree values n xs && agree values (n + length xs) ys)
agree_append values n [] ys = let e : n ≡ n + zero = omega arith in ap (λ k. agree values k ys) e
agree_append values n (x ∷ xs) ys =
    let e : n + 1 + length xs ≡ n + suc (length xs) = omega arith in
    ap (λ b. not (differ (value_of values (n + 1)) x) && b) (agree_append values (n + 1) xs ys ∙ ap (λ k. agree values (n + 1) xs && agree values k ys) e)
    ∙ sym (and_assoc (not (differ (value_of values (n + 1)) x)) (agree values (n + 1) xs) (agree values (n + suc (length xs)) ys))
  where
    and_assoc : (a b c : Bool) → ((a && b) && c) ≡ (a && (b && c))
    and_assoc true b c = refl
    and_assoc false b c = refl

-- ---- the clauses are met where the constraints are and the new variables have these values

in_clauses_met : (vars n : ℕ) (values : List Bool) (c : Constraint) → AreWithin vars (literals_of c)
    → list_all (constraint_met values) (in_clauses vars n c) ≡ (agree values n (added_by vars values c) && constraint_met values c)
in_clauses_met vars n values (Clause lits) h = and_true (clause_met values lits)
  where
    and_true : (b : Bool) → (b && true) ≡ b
    and_true true = refl
    and_true false = refl
in_clauses_met vars n values (Parity lits) h =
    all_of_map (constraint_met values) Clause (clauses_of_pieces (pieces_of vars n lits))
    ∙ pieces_met values n (rising_variables vars lits) (normal_form lits).right_side
    ∙ ap (λ b. agree values n (new_values (map (value_of values) (rising_variables vars lits))) && b) (sym (parity_by_sum vars values lits h))
in_clauses_met vars n values (Assume lits) h = and_true (constraint_met values (Assume lits))
  where
    and_true : (b : Bool) → (b && true) ≡ b
    and_true true = refl
    and_true false = refl

two_and_two : (a b c d : Bool) → ((a && b) && (c && d)) ≡ ((a && c) && (b && d))
two_and_two true true c d = refl
two_and_two true false true d = refl
two_and_two true false false d = refl
two_and_two false b c d = refl

all_in_clauses_met : (vars n : ℕ) (values : List Bool) (cs : List Constraint) → AllByRecursion (λ c. AreWithin vars (literals_of c)) cs
    → list_all (constraint_met values) (all_in_clauses vars n cs) ≡ (agree values n (added vars values cs) && list_all (constraint_met values) cs)
all_in_clauses_met vars n values [] h = refl
all_in_clauses_met vars n values (c ∷ cs) h =
    all_of_append (constraint_met values) (in_clauses vars n c) (all_in_clauses vars (n + new_count vars n c) cs)
    ∙ (λ i. in_clauses_met vars n values c h.0 i && all_in_clauses_met vars (n + new_count vars n c) values cs h.1 i)
    ∙ two_and_two (agree values n (added_by vars values c)) (constraint_met values c) (agree values (n + new_count vars n c) (added vars values cs)) (list_all (constraint_met values) cs)
    ∙ ap (λ k. (agree values n (added_by vars values c) && agree values (n + k) (added vars values cs)) && (constraint_met values c && list_all (constraint_met values) cs)) (count_added_by vars n values c)
    ∙ ap (λ b. b && (constraint_met values c && list_all (constraint_met values) cs)) (sym (agree_append values n (added_by vars values c) (added vars values cs)))

-- ---- they depend on the first variables alone

added_alike : (n : ℕ) (v w : List Bool) (cs : List Constraint) → AreAlike n v w → added n v cs ≡ added n w cs
added_alike n v w [] same = refl
added_alike n v w (Clause lits ∷ cs) same = added_alike n v w cs same
added_alike n v w (Parity lits ∷ cs) same = (λ i. new_values (rising_alike n v w lits same i) ++ added_alike n v w cs same i)
added_alike n v w (Assume lits ∷ cs) same = added_alike n v w cs same

-- ---- values after others

value_behind : (v u : List Bool) (b : Bool) → value_of (v ++ b ∷ u) (length v + 1) ≡ b
value_behind v u b = let e : length v + 1 - 1 ≡ length v = omega arith in ap (λ i. Rattle.std.proofs.Common.get_or (v ++ b ∷ u) i false) e ∙ at_end v u b
  where
    at_end : (v u : List Bool) (b : Bool) → Rattle.std.proofs.Common.get_or (v ++ b ∷ u) (length v) false ≡ b
    at_end [] u b = refl
    at_end (a ∷ v) u b = at_end v u b

one_longer : (v : List Bool) (b : Bool) → length (v ++ b ∷ []) ≡ length v + 1
one_longer v b = length-append v (b ∷ [])

from_alike : (a b : Bool) → not (differ a b) ≡ true → a ≡ b
from_alike true true h = refl
from_alike true false h = cc
from_alike false true h = cc
from_alike false false h = refl

is_alike : (a : Bool) → not (differ a a) ≡ true
is_alike true = refl
is_alike false = refl

behind_are : (v u bits : List Bool) → length u ≡ length bits → agree (v ++ u) (length v) bits ≡ true → u ≡ bits
behind_are v [] [] long h = refl
behind_are v [] (b ∷ bits) long h = absurd (omega (arith, long))
behind_are v (a ∷ u) [] long h = absurd (omega (arith, long))
behind_are v (a ∷ u) (b ∷ bits) long h =
    let parts = and_parts _ _ h in
    let first : a ≡ b = sym (value_behind v u a) ∙ from_alike _ b parts.0 in
    let moved : v ++ a ∷ u ≡ (v ++ a ∷ []) ++ u = sym (append_assoc v (a ∷ []) u) in
    let rest : u ≡ bits = behind_are (v ++ a ∷ []) u bits (omega (arith, long))
    ((λ i. agree (sym moved i) (one_longer v a i) bits) ∙ parts.1) in
    (λ i. first i ∷ rest i)

agree_themselves : (v bits : List Bool) → agree (v ++ bits) (length v) bits ≡ true
agree_themselves v [] = refl
agree_themselves v (b ∷ bits) =
    let moved : v ++ b ∷ bits ≡ (v ++ b ∷ []) ++ bits = sym (append_assoc v (b ∷ []) bits) in
    and_from _ _ (ap (λ a. not (differ a b)) (value_behind v bits b) ∙ is_alike b)
    ((λ i. agree (moved i) (sym (one_longer v b) i) bits) ∙ agree_themselves (v ++ b ∷ []) bits)

begins : (v u : List Bool) → take (length v) (v ++ u) ≡ v
begins [] u = refl
begins (b ∷ v) u = ap (λ w. b ∷ w) (begins v u)

-- ---- exactly one

module _ (vars : ℕ) (cs : List Constraint) (h : AllByRecursion (λ c. AreWithin vars (literals_of c)) cs) (v : List Bool) (long : length v ≡ vars) where
  met_behind : (u : List Bool) → list_all (constraint_met (v ++ u)) (all_in_clauses vars vars cs) ≡ (agree (v ++ u) vars (added vars v cs) && list_all (constraint_met v) cs)
  met_behind u =
      let same = front_alike vars v u long in
      all_in_clauses_met vars vars (v ++ u) cs h
      ∙ (λ i. agree (v ++ u) vars (sym (added_alike vars v (v ++ u) cs same) i) && sym (all_alike vars v (v ++ u) cs same h) i)

  abbrev others : Problem
  others = record { variables = variables_behind vars vars cs; constraints = all_in_clauses vars vars cs }

  extended : list_all (constraint_met v) cs ≡ true → Extends others v (v ++ added vars v cs)
  extended met = (
    begins v (added vars v cs),
    record {
      one_each = omega (arith, length-append v (added vars v cs), count_added vars vars v cs, long);
      all_met = met_behind (added vars v cs) ∙ and_from _ _ ((λ i. agree (v ++ added vars v cs) (sym long i) (added vars v cs)) ∙ agree_themselves v (added vars v cs)) met;
    },
  )

  splits : (w : List Bool) → BeginsWith v w → v ++ drop (length v) w ≡ w
  splits w begin = ap (λ t. t ++ drop (length v) w) (sym begin) ∙ take-append-drop (length v) w

  parts_of : (w : List Bool) → Extends others v w → (agree (v ++ drop (length v) w) vars (added vars v cs) ≡ true) × (list_all (constraint_met v) cs ≡ true)
  parts_of w e =
      let m = e.1 in
      let all : list_all (constraint_met (v ++ drop (length v) w)) (all_in_clauses vars vars cs) ≡ true = ap (λ t. list_all (constraint_met t) (all_in_clauses vars vars cs)) (splits w e.0) ∙ m.all_met in
      and_parts _ _ (sym (met_behind (drop (length v) w)) ∙ all)

  only : (w : List Bool) → Extends others v w → w ≡ v ++ added vars v cs
  only w e =
      let m = e.1 in
      let p = parts_of w e in
      let behind : drop (length v) w ≡ added vars v cs = behind_are v (drop (length v) w) (added vars v cs)
      (let k : length w ≡ variables_behind vars vars cs = m.one_each in omega (arith, length-drop (length v) w, k, count_added vars vars v cs, long))
      ((λ i. agree (v ++ drop (length v) w) (long i) (added vars v cs)) ∙ p.0) in
      sym (splits w e.0) ∙ ap (λ t. v ++ t) behind

pub extend_in_one_way : (formula : Problem) → IsWithinVariables formula.variables formula.constraints → ExtendInOneWay formula (blasted formula)
unfolding blasted
extend_in_one_way formula h = record {
  one = λ v meets. (
    v ++ added formula.variables v formula.constraints,
    extended formula.variables formula.constraints h.1 v meets.one_each meets.all_met,
    λ w e. only formula.variables formula.constraints h.1 v meets.one_each w e,
  );
  none = λ v long unmet w e. unmet (record { one_each = long; all_met = (parts_of formula.variables formula.constraints h.1 v long w e).1 });
}
