-- The literals chosen for a written parity are a reason's clause.
use Rattle.std.proofs.Common.{◌≡◌, ℕ, ◌+◌, ◌<◌, ◌≤◌, suc, Bool, true, false, not, ◌||◌, eqb-true, nat_eq, List, [], ◌∷◌, ◌++◌, length, Option, Some, None, refl, sym, ap, ◌∙◌, subst, arith, true≢false, inl, inr, get_or, set, take}
use Rattle.std.specs.List.{list_any}
use Rattle.std.specs.Cmp.{nat_cmp_total}
use Rattle.std.specs.FinSet as set
use Rattle.std.proofs.lemmas.Bool.{cases_eq, cases_lt, eq-eqb, ne_eqb, or_parts}
use Rattle.std.proofs.Math.Seq.{take-suc}
use Rattle.std.proofs.lemmas.List.Elements.{AllZip-push}
use Rattle.std.proofs.lemmas.List.{get_or-set_other, length-set, take_all, take_more_set}
use Rattle.cx_base.specs.Literals.{Literal, differ, same_literal, value_of, literal_true}
use Rattle.cx_base.specs.Problem.{clause_met, parity_met}
use Rattle.cx_base.specs.Parity.{NormalForm, HasOneOfEach, occurs_odd}
use Rattle.cx_base.proofs.Odd.{parity_met-cons, is_odd-count}
use Rattle.cx_base.proofs.ParityLaws.{contains-normal_form}
use Rattle.cx_base.proofs.Differences.{differ_assoc, differ_move}
use Rattle.cx_semantics.specs.Chain.{has_literal}
use Rattle.cx_base.proofs.LiteralLaws.{same_literal-itself}
use Rattle.cx_semantics.proofs.RecoveredLaws.{Distinct, len-distinct, or_apart}
use Rattle.cx_semantics.proofs.Members.{has_at_head, has_behind, has_split}
use Rattle.cx_semantics.proofs.Widths.{variable_in, length-variables, variables}
use Rattle.cx_trail.specs.Sequence.{TrailState, IsTrail, IsTrueIn, IsFalseIn}
use Rattle.parity_engine.specs.Written.{IsWritten, Rises, literals_with}
use Rattle.parity_engine.proofs.Rising.{none_below, rising_low}
use Rattle.xor_reason.specs.LiteralChoice.{IsLiteralFor, AreLiteralsFor}
use Rattle.xor_reason.specs.ReasonClause.{AgreesWithTrail, AreFalseBut, IsReasonFor, IsReasonClause}
use Rattle.xor_reason.proofs.TrailValues.{trail_values, trail_values_agree, false_under}

-- ---- literals of a list

-- ---- choices, one at a time
pub choice_more : (trail : TrailState) (implied : Option Literal) (lits clause more : List Literal) (i v : ℕ) (l m : Literal) → AreLiteralsFor trail implied (take i lits) clause → i < length lits
    → l ≡ get_or lits i l → v ≡ l.variable → IsLiteralFor trail implied v m → more ≡ clause ++ m ∷ [] → AreLiteralsFor trail implied (take (i + 1) lits) more
choice_more trail implied lits clause more i v l m are lt read at is pushed =
    let one : i + 1 ≡ suc i = omega arith in
    let longer : take (i + 1) lits ≡ take i lits ++ l ∷ [] = ap (λ n. take n lits) one ∙ take-suc lits i l lt ∙ ap (λ x. take i lits ++ x ∷ []) (sym read) in
    subst (λ ls. AreLiteralsFor trail implied ls more) (sym longer)
    (subst (λ ms. AreLiteralsFor trail implied (take i lits ++ l ∷ []) ms) (sym pushed)
    (AllZip-push (λ (x y : Literal). IsLiteralFor trail implied x.variable y) (take i lits) clause l m are (subst (λ x. IsLiteralFor trail implied x m) at is)))

-- the literals below a place are those for the list's, and the others are the list's
pub record AreTurnedBelow (trail : TrailState) (implied : Option Literal) (lits turned : List Literal) (place : ℕ) : Type 0 where
  pub long : length turned ≡ length lits
  pub below : AreLiteralsFor trail implied (take place lits) (take place turned)
  pub above : (i : ℕ) (d : Literal) → place ≤ i → get_or turned i d ≡ get_or lits i d

pub none_turned : (trail : TrailState) (implied : Option Literal) (lits turned : List Literal) → turned ≡ lits → AreTurnedBelow trail implied lits turned 0
none_turned trail implied lits turned same = record {
  long = ap length same;
  below = tt;
  above = λ i d high. ap (λ ls. get_or ls i d) same;
}

pub one_turned : (trail : TrailState) (implied : Option Literal) (lits turned : List Literal) (place v : ℕ) (l m : Literal) → AreTurnedBelow trail implied lits turned place → place < length turned
    → l ≡ get_or turned place l → v ≡ l.variable → IsLiteralFor trail implied v m → AreTurnedBelow trail implied lits (set turned place m) (place + 1)
one_turned trail implied lits turned place v l m t less read at is =
    let inside : place < length lits = omega (arith, t.long) in
    record {
      long = length-set turned place m ∙ t.long;
      below = choice_more trail implied lits (take place turned) (take (place + 1) (set turned place m)) place v l m t.below inside (read ∙ t.above place l (omega arith)) at is (take_more_set turned place m less);
      above = λ i d high. get_or-set_other turned place i m d (λ (same : i ≡ place). omega arith) ∙ t.above i d (omega arith);
    }

pub all_turned : (trail : TrailState) (implied : Option Literal) (lits turned : List Literal) (place : ℕ) → AreTurnedBelow trail implied lits turned place → length turned ≤ place → AreLiteralsFor trail implied lits turned
all_turned trail implied lits turned place t all =
    subst (λ ls. AreLiteralsFor trail implied ls turned) (take_all place lits (omega (arith, t.long)))
    (subst (λ ms. AreLiteralsFor trail implied (take place lits) ms) (take_all place turned all) t.below)

same_variable : (trail : TrailState) (implied : Option Literal) (v : ℕ) (m : Literal) → IsLiteralFor trail implied v m → m.variable ≡ v
same_variable trail None v m is = is.0
same_variable trail (Some l) v m is = is.0

same_variables : (trail : TrailState) (implied : Option Literal) (ls ms : List Literal) → AreLiteralsFor trail implied ls ms → variables ms ≡ variables ls
same_variables trail implied [] [] are = refl
same_variables trail implied [] (m ∷ ms) are = absurd are
same_variables trail implied (l ∷ ls) [] are = absurd are
same_variables trail implied (l ∷ ls) (m ∷ ms) are = λ i. same_variable trail implied l.variable m are.0 i ∷ same_variables trail implied ls ms are.1 i

-- ---- one literal for each variable
distinct_rising : (least : ℕ) (vs : List ℕ) → Rises least vs → Distinct vs
distinct_rising least [] rise = tt
distinct_rising least (v ∷ vs) rise = (none_below (v + 1) vs v rise.1 (omega arith), distinct_rising (v + 1) vs rise.1)

pub occurs_rising : (least : ℕ) (lits : List Literal) (y : ℕ) → Rises least (variables lits) → occurs_odd lits y ≡ list_any (λ z. nat_eq z y) (variables lits)
occurs_rising least [] y rise = refl
occurs_rising least (l ∷ lits) y rise =
    is_odd-count (λ (m : Literal). nat_eq m.variable y) l lits
    ∙ ap (differ (nat_eq l.variable y)) (occurs_rising (l.variable + 1) lits y rise.1)
    ∙ sym (or_apart (nat_eq l.variable y) (list_any (λ z. nat_eq z y) (variables lits))
    (λ e. none_below (l.variable + 1) (variables lits) y rise.1 (let q : l.variable ≡ y = eqb-true l.variable y e in omega arith)))

pub contains_written : (form : NormalForm) (lits : List Literal) → IsWritten form lits → (y : ℕ) → set.contains form.variables y ≡ list_any (λ z. nat_eq z y) (variables lits)
contains_written form lits written y =
    ap (λ (f : NormalForm). set.contains f.variables y) (sym written.normal) ∙ contains-normal_form lits y ∙ occurs_rising 1 lits y written.rises

-- the variables of a written parity are at least 1, and the form has them
pub low_written : (form : NormalForm) (lits : List Literal) → IsWritten form lits → (l : Literal) → has_literal lits l ≡ true → 1 ≤ l.variable
low_written form lits written l h = rising_low 1 (variables lits) l.variable written.rises (variable_in lits l h)

pub has_written : (form : NormalForm) (lits : List Literal) → IsWritten form lits → (l : Literal) → has_literal lits l ≡ true → set.contains form.variables l.variable ≡ true
has_written form lits written l h = contains_written form lits written l.variable ∙ variable_in lits l h

-- numbers that rise are told by which are among them
no_less : (x y : ℕ) (xs ys : List ℕ) → Rises (y + 1) ys → list_any (λ z. nat_eq z x) (x ∷ xs) ≡ list_any (λ z. nat_eq z x) (y ∷ ys) → x < y → ⊥
no_less x y xs ys rises same less =
    let there : list_any (λ z. nat_eq z x) (x ∷ xs) ≡ true = ap (λ b. b || list_any (λ z. nat_eq z x) xs) (eq-eqb x x refl) in
    true≢false (sym there ∙ same ∙ none_below y (y ∷ ys) x (omega arith, rises) less)

same_rising : (least : ℕ) (xs ys : List ℕ) → Rises least xs → Rises least ys → ((n : ℕ) → list_any (λ z. nat_eq z n) xs ≡ list_any (λ z. nat_eq z n) ys) → xs ≡ ys
same_rising least [] [] rx ry same = refl
same_rising least [] (y ∷ ys) rx ry same = absurd (true≢false (sym (same y ∙ ap (λ b. b || list_any (λ z. nat_eq z y) ys) (eq-eqb y y refl))))
same_rising least (x ∷ xs) [] rx ry same = absurd (true≢false (sym (ap (λ b. b || list_any (λ z. nat_eq z x) xs) (eq-eqb x x refl)) ∙ same x))
same_rising least (x ∷ xs) (y ∷ ys) rx ry same = λ i. first i ∷ same_rising (x + 1) xs ys rx.1 rises rest i
  where
    first : x ≡ y
    first =
        elim (cases_lt x y) [
          | inl less ↦ absurd (no_less x y xs ys ry.1 (same x) less)
          | inr most ↦ elim (cases_lt y x) [
            | inl less ↦ absurd (no_less y x ys xs rx.1 (sym (same y)) less)
            | inr least_too ↦ omega arith
          ]
        ]

    rises : Rises (x + 1) ys
    rises = subst (λ n. Rises (n + 1) ys) (sym first) ry.1

    rest : (n : ℕ) → list_any (λ z. nat_eq z n) xs ≡ list_any (λ z. nat_eq z n) ys
    rest n =
        elim (cases_lt n (x + 1)) [
          | inl low ↦ none_below (x + 1) xs n rx.1 low ∙ sym (none_below (x + 1) ys n rises low)
          | inr high ↦
              sym (ap (λ b. b || list_any (λ z. nat_eq z n) xs) (ne_eqb x n (λ e. omega arith))) ∙ same n
              ∙ ap (λ b. b || list_any (λ z. nat_eq z n) ys) (ne_eqb y n (λ e. omega (arith, first)))
        ]

-- a form is written in one way
pub written_once : (form : NormalForm) (a b : List Literal) → IsWritten form a → IsWritten form b → a ≡ b
written_once form a b wa wb =
    let same = same_rising 1 (variables a) (variables b) wa.rises wb.rises (λ n. sym (contains_written form a wa n) ∙ contains_written form b wb n) in
    wa.signs ∙ ap (literals_with form.right_side) same ∙ sym wb.signs

written_set : (form : NormalForm) (lits : List Literal) → IsWritten form lits → set.from_list (variables lits) ≡ form.variables
written_set form lits written =
    set.same_set nat_cmp_total set.nat_cmp-IsAntisymmetric _ form.variables
    (λ y. set.contains-from_list_nat (variables lits) y ∙ sym (contains_written form lits written y))

one_of_each : (trail : TrailState) (implied : Option Literal) (form : NormalForm) (lits clause : List Literal) → IsWritten form lits → AreLiteralsFor trail implied lits clause → HasOneOfEach form.variables clause
one_of_each trail implied form lits clause written are =
    let same = same_variables trail implied lits clause are in
    record {
      same = ap set.from_list same ∙ written_set form lits written;
      once = sym (length-variables clause) ∙ ap length same ∙ sym (len-distinct (variables lits) (distinct_rising 1 (variables lits) written.rises)) ∙ ap set.len (written_set form lits written);
    }

-- ---- which are false
all_false : (trail : TrailState) (lits clause : List Literal) → AreLiteralsFor trail None lits clause → AreFalseBut trail None clause
all_false trail [] [] are m h = absurd (true≢false (sym h))
all_false trail [] (x ∷ clause) are m h = absurd are
all_false trail (l ∷ lits) [] are m h = absurd are
all_false trail (l ∷ lits) (x ∷ clause) are m h =
    elim (has_split x clause m h) [
      | inl e ↦ subst (IsFalseIn trail.entries) (sym e) are.0.1
      | inr g ↦ all_false trail lits clause are.1 m g
    ]

has_implied : (trail : TrailState) (l : Literal) (lits clause : List Literal) → AreLiteralsFor trail (Some l) lits clause → list_any (λ z. nat_eq z l.variable) (variables lits) ≡ true
    → has_literal clause l ≡ true
has_implied trail l [] [] are h = absurd (true≢false (sym h))
has_implied trail l [] (x ∷ clause) are h = absurd are
has_implied trail l (y ∷ lits) [] are h = absurd are
has_implied trail l (y ∷ lits) (x ∷ clause) are h = pick (nat_eq y.variable l.variable) refl (has_implied trail l lits clause are.1) h
  where
    pick : (b : Bool) → nat_eq y.variable l.variable ≡ b → (list_any (λ z. nat_eq z l.variable) (variables lits) ≡ true → has_literal clause l ≡ true)
        → (b || list_any (λ z. nat_eq z l.variable) (variables lits)) ≡ true → has_literal (x ∷ clause) l ≡ true
    pick true e behind g = ap (has_literal (x ∷ clause)) (sym (are.0.1 (eqb-true y.variable l.variable e))) ∙ has_at_head x clause
    pick false e behind g = has_behind x clause l (behind g)

others_false : (trail : TrailState) (l : Literal) (lits clause : List Literal) → AreLiteralsFor trail (Some l) lits clause → (m : Literal) → has_literal clause m ≡ true → same_literal l m ≡ false
    → IsFalseIn trail.entries m
others_false trail l [] [] are m h ne = absurd (true≢false (sym h))
others_false trail l [] (x ∷ clause) are m h ne = absurd are
others_false trail l (y ∷ lits) [] are m h ne = absurd are
others_false trail l (y ∷ lits) (x ∷ clause) are m h ne =
    elim (has_split x clause m h) [
      | inl e ↦
          subst (IsFalseIn trail.entries) (sym e)
          (are.0.2 (λ q. true≢false (sym (same_literal-itself l) ∙ ap (same_literal l) (sym (are.0.1 q)) ∙ ap (same_literal l) (sym e) ∙ ne)))
      | inr g ↦ others_false trail l lits clause are.1 m g ne
    ]

-- ---- values that make the clause false

-- values under which a literal is false alike have the same value of its variable
same_value : (n a b : Bool) → differ n a ≡ false → differ n b ≡ false → a ≡ b
same_value true true true h g = refl
same_value true true false h g = absurd (true≢false g)
same_value true false b h g = absurd (true≢false h)
same_value false a b h g = h ∙ sym g

value_between : (v w : List Bool) (m : Literal) (x : ℕ) → m.variable ≡ x → literal_true v m ≡ false → literal_true w m ≡ false → value_of v x ≡ value_of w x
value_between v w m x e h g = subst (λ y. value_of v y ≡ value_of w y) e (same_value m.negative (value_of v m.variable) (value_of w m.variable) h g)

turned_value : (n a b : Bool) → differ n a ≡ true → differ n b ≡ false → a ≡ not b
turned_value true true b h g = absurd (true≢false (sym h))
turned_value true false true h g = refl
turned_value true false false h g = absurd (true≢false g)
turned_value false a true h g = absurd (true≢false g)
turned_value false a false h g = h

-- all are false: the parity has the trail's sum
sum_same : (trail : TrailState) (v w : List Bool) (lits clause : List Literal) → AgreesWithTrail trail v → AreLiteralsFor trail None lits clause → clause_met w clause ≡ false
    → parity_met v lits ≡ parity_met w lits
sum_same trail v w [] [] agrees are none = refl
sum_same trail v w [] (m ∷ clause) agrees are none = absurd are
sum_same trail v w (l ∷ lits) [] agrees are none = absurd are
sum_same trail v w (l ∷ lits) (m ∷ clause) agrees are none =
    let parts = or_parts (literal_true w m) (clause_met w clause) none in
    let here : value_of v l.variable ≡ value_of w l.variable = value_between v w m l.variable are.0.0 (false_under trail v m agrees are.0.1) parts.0 in
    parity_met-cons v l lits
    ∙ (λ i. differ (differ l.negative (here i)) (sum_same trail v w lits clause agrees are.1 parts.1 i))
    ∙ sym (parity_met-cons w l lits)

differ_four : (n t b o r : Bool) → differ (differ n (differ t b)) (differ o r) ≡ differ (differ t o) (differ (differ n b) r)
differ_four n t b o r =
    ap (λ x. differ x (differ o r)) (differ_move n t b)
    ∙ differ_assoc t (differ n b) (differ o r)
    ∙ ap (differ t) (differ_move (differ n b) o r)
    ∙ sym (differ_assoc t o (differ (differ n b) r))

-- the implied one is false too: the sum is turned over once for each place of its variable
sum_turned : (trail : TrailState) (l : Literal) (v w : List Bool) (lits clause : List Literal) → AgreesWithTrail trail v → IsTrueIn trail.entries l → AreLiteralsFor trail (Some l) lits clause
    → clause_met w clause ≡ false → parity_met v lits ≡ differ (occurs_odd lits l.variable) (parity_met w lits)
sum_turned trail l v w [] [] agrees is are none = refl
sum_turned trail l v w [] (m ∷ clause) agrees is are none = absurd are
sum_turned trail l v w (x ∷ lits) [] agrees is are none = absurd are
sum_turned trail l v w (x ∷ lits) (m ∷ clause) agrees is are none =
    let parts = or_parts (literal_true w m) (clause_met w clause) none in
    let here : value_of v x.variable ≡ differ (nat_eq x.variable l.variable) (value_of w x.variable) = value_here parts.0 in
    parity_met-cons v x lits
    ∙ (λ i. differ (differ x.negative (here i)) (sum_turned trail l v w lits clause agrees is are.1 parts.1 i))
    ∙ differ_four x.negative (nat_eq x.variable l.variable) (value_of w x.variable) (occurs_odd lits l.variable) (parity_met w lits)
    ∙ (λ i. differ (sym (is_odd-count (λ (y : Literal). nat_eq y.variable l.variable) x lits) i) (sym (parity_met-cons w x lits) i))
  where
    value_here : literal_true w m ≡ false → value_of v x.variable ≡ differ (nat_eq x.variable l.variable) (value_of w x.variable)
    value_here no_m =
        elim (cases_eq x.variable l.variable) [
          | inl e ↦
              let m_is : m ≡ l = are.0.1 e in
              let turned : value_of v l.variable ≡ not (value_of w l.variable) =
              turned_value l.negative (value_of v l.variable) (value_of w l.variable) (agrees l is) (ap (literal_true w) (sym m_is) ∙ no_m) in
              ap (value_of v) e ∙ turned ∙ ap (λ y. not (value_of w y)) (sym e) ∙ sym (ap (λ b. differ b (value_of w x.variable)) (eq-eqb x.variable l.variable e))
          | inr ne ↦
              value_between v w m x.variable are.0.0 (false_under trail v m agrees (are.0.2 ne)) no_m ∙ sym (ap (λ b. differ b (value_of w x.variable)) (ne_eqb x.variable l.variable ne))
        ]

-- ---- the law
follows_conflict : (trail : TrailState) (form : NormalForm) (lits clause : List Literal) → IsTrail trail → IsWritten form lits → IsReasonFor trail None form → AreLiteralsFor trail None lits clause
    → (w : List Bool) → parity_met w lits ≡ true → clause_met w clause ≡ true
follows_conflict trail form lits clause sound written misses are w met = pick (clause_met w clause) refl
  where
    pick : (b : Bool) → clause_met w clause ≡ b → b ≡ true
    pick true e = refl
    pick false e =
        let v : List Bool = trail_values trail in
        let agrees = trail_values_agree trail sound in
        absurd (true≢false (sym met ∙ sym (sum_same trail v w lits clause agrees are e) ∙ misses v agrees lits written.normal))

follows_implied : (trail : TrailState) (l : Literal) (form : NormalForm) (lits clause : List Literal) → IsTrail trail → IsWritten form lits → IsReasonFor trail (Some l) form → AreLiteralsFor trail (Some l) lits clause
    → (w : List Bool) → parity_met w lits ≡ true → clause_met w clause ≡ true
follows_implied trail l form lits clause sound written implies are w met = pick (clause_met w clause) refl
  where
    pick : (b : Bool) → clause_met w clause ≡ b → b ≡ true
    pick true e = refl
    pick false e =
        let v : List Bool = trail_values trail in
        let agrees = trail_values_agree trail sound in
        let odd : occurs_odd lits l.variable ≡ true = sym (contains-normal_form lits l.variable) ∙ ap (λ (f : NormalForm). set.contains f.variables l.variable) written.normal ∙ implies.has in
        let turned : parity_met v lits ≡ false = sum_turned trail l v w lits clause agrees implies.is_true are e ∙ (λ i. differ (odd i) (met i)) in
        absurd (true≢false (sym (implies.met v agrees lits written.normal) ∙ turned))

pub is_reason_clause : (trail : TrailState) (implied : Option Literal) (form : NormalForm) (lits clause : List Literal) → IsTrail trail → IsWritten form lits → IsReasonFor trail implied form
    → AreLiteralsFor trail implied lits clause → IsReasonClause trail implied form lits clause
is_reason_clause trail None form lits clause sound written reason are = record {
  one_of_each = one_of_each trail None form lits clause written are;
  are_false = all_false trail lits clause are;
  follows = follows_conflict trail form lits clause sound written reason are;
}
is_reason_clause trail (Some l) form lits clause sound written reason are = record {
  one_of_each = one_of_each trail (Some l) form lits clause written are;
  are_false = (has_implied trail l lits clause are (sym (contains_written form lits written l.variable) ∙ reason.has), others_false trail l lits clause are);
  follows = follows_implied trail l form lits clause sound written reason are;
}
