-- The sum of two written parities, and what it says under a trail.
use Rattle.std.proofs.Common.{◌≡◌, ℕ, ◌+◌, ◌≤◌, suc, Bool, true, false, not, eqb-true, nat_eq, List, [], ◌∷◌, map, length, Option, Some, None, refl, sym, ap, ◌∙◌, subst, arith, true≢false}
use Rattle.std.specs.List.{list_any, AllByRecursion}
use Rattle.std.specs.Prelude.{slice_get, is_some}
use Rattle.std.specs.Ordering.{nat_cmp}
use Rattle.std.specs.Cmp.{nat_cmp_total}
use Rattle.std.specs.FinSet as set
use Rattle.cx_base.specs.Literals.{Literal, differ, positive_of}
use Rattle.cx_base.specs.Parity.{NormalForm, normal_form, sum_of, odd_sum, HasOneOfEach}
use Rattle.cx_base.specs.Problem.{parity_met}
use Rattle.cx_base.proofs.Differences.{differ_assoc, differ_itself}
use Rattle.cx_base.proofs.ParityLaws.{contains-normal_form, contains-symmetric_difference, differ_false, AreBelow, Sums, Sums-from_met, met-from_Sums, Sums-sum_of}
use Rattle.cx_semantics.proofs.RecoveredLaws.{or_apart}
use Rattle.cx_trail.specs.Sequence.{TrailState, IsTrail}
use Rattle.parity_engine.specs.Equations.{parity_number, numbered, sum_of_numbers}
use Rattle.parity_engine.specs.State.{MeetsForm, MissesForm}
use Rattle.parity_engine.specs.Written.{literals_with, Rises, AreRising, IsWritten}
use Rattle.parity_engine.proofs.Literals.{right_parity}
use Rattle.parity_engine.proofs.Rising.{columns_rise, none_below}
use Rattle.xor_reason.specs.LiteralChoice.{AreLiteralsFor}
use Rattle.xor_reason.specs.ReasonClause.{AreAssigned, IsReasonFor}
use Rattle.xor_reason.specs.Reasons.{IsReasonBy}
use Rattle.xor_reason.specs.Sums.{sum_over, IsSumOf, has_variable, HasVariablesOfSum}
use Rattle.xor_reason.specs.declared.reason.ReasonOf.{ReasonOf}
use Rattle.xor_reason.proofs.ClauseLaws.{contains_written, occurs_rising, is_reason_clause}

by_cases : {A : Type 0} (b : Bool) → (b ≡ true → A) → (b ≡ false → A) → A
by_cases true f g = f refl
by_cases false f g = g refl

abbrev variables : List Literal → List ℕ
variables lits = map (λ (l : Literal). l.variable) lits

-- ---- sums of two forms
abbrev pub sum_of_two : NormalForm → NormalForm → NormalForm
sum_of_two f g = sum_of (f ∷ g ∷ [])

contains_sum : (f g : NormalForm) (y : ℕ) → set.contains (sum_of_two f g).variables y ≡ differ (set.contains f.variables y) (set.contains g.variables y)
unfolding sum_of
contains_sum f g y =
    contains-symmetric_difference f.variables (sum_of (g ∷ [])).variables y
    ∙ ap (differ (set.contains f.variables y))
    (contains-symmetric_difference g.variables set.empty y ∙ ap (differ (set.contains g.variables y)) (set.contains-empty nat_cmp y) ∙ differ_false (set.contains g.variables y))

right_sum : (f g : NormalForm) → (sum_of_two f g).right_side ≡ differ f.right_side g.right_side
unfolding sum_of
right_sum f g = ap (differ f.right_side) (differ_false g.right_side)

same_form : (f g : NormalForm) → ((y : ℕ) → set.contains f.variables y ≡ set.contains g.variables y) → f.right_side ≡ g.right_side → f ≡ g
same_form f g c r = λ i. record { variables = set.same_set nat_cmp_total set.nat_cmp-IsAntisymmetric f.variables g.variables c i; right_side = r i }

differ_back : (a b : Bool) → differ (differ a b) b ≡ a
differ_back a b = differ_assoc a b b ∙ ap (differ a) (differ_itself b) ∙ differ_false a

taken_back : (f g : NormalForm) → sum_of_two (sum_of_two f g) g ≡ f
taken_back f g = same_form (sum_of_two (sum_of_two f g) g) f
    (λ y. contains_sum (sum_of_two f g) g y ∙ ap (λ b. differ b (set.contains g.variables y)) (contains_sum f g y) ∙ differ_back (set.contains f.variables y) (set.contains g.variables y))
    (right_sum (sum_of_two f g) g ∙ ap (λ b. differ b g.right_side) (right_sum f g) ∙ differ_back f.right_side g.right_side)

-- ---- sums of numbered parities
contains_all : (fs : List NormalForm) (y : ℕ) → set.contains (sum_of fs).variables y ≡ odd_sum (map (λ f. set.contains f.variables y) fs)
unfolding sum_of
contains_all [] y = set.contains-empty nat_cmp y
contains_all (f ∷ fs) y = contains-symmetric_difference f.variables (sum_of fs).variables y ∙ ap (differ (set.contains f.variables y)) (contains_all fs y)

right_all : (fs : List NormalForm) → (sum_of fs).right_side ≡ odd_sum (map (λ f. f.right_side) fs)
unfolding sum_of
right_all [] = refl
right_all (f ∷ fs) = ap (differ f.right_side) (right_all fs)

through : {X Y : Type 0} (f : Y → Bool) (g : X → Y) (xs : List X) → odd_sum (map f (map g xs)) ≡ odd_sum (map (λ x. f (g x)) xs)
through f g [] = refl
through f g (x ∷ xs) = ap (differ (f (g x))) (through f g xs)

module _ (given : List (List Literal)) where
  abbrev form_at : ℕ → NormalForm
  form_at k = normal_form (parity_number given k)

  contains_numbers : (numbers : List ℕ) (y : ℕ) → set.contains (sum_of_numbers given numbers).variables y ≡ sum_over numbers (λ k. set.contains (form_at k).variables y)
  contains_numbers numbers y =
      contains_all (map normal_form (numbered given numbers)) y ∙ through (λ f. set.contains f.variables y) normal_form (numbered given numbers)
      ∙ through (λ ls. set.contains (normal_form ls).variables y) (parity_number given) numbers

  right_numbers : (numbers : List ℕ) → (sum_of_numbers given numbers).right_side ≡ sum_over numbers (λ k. (form_at k).right_side)
  right_numbers numbers =
      right_all (map normal_form (numbered given numbers)) ∙ through (λ f. f.right_side) normal_form (numbered given numbers)
      ∙ through (λ ls. (normal_form ls).right_side) (parity_number given) numbers

  pub sum_numbers : (f g : NormalForm) (a b s : List ℕ) → f ≡ sum_of_numbers given a → g ≡ sum_of_numbers given b → IsSumOf a b s → sum_of_two f g ≡ sum_of_numbers given s
  sum_numbers f g a b s fa gb is = same_form (sum_of_two f g) (sum_of_numbers given s)
      (λ y. contains_sum f g y
      ∙ (λ i. differ ((ap (λ (h : NormalForm). set.contains h.variables y) fa ∙ contains_numbers a y) i) ((ap (λ (h : NormalForm). set.contains h.variables y) gb ∙ contains_numbers b y) i))
      ∙ sym (is.sums (λ k. set.contains (form_at k).variables y)) ∙ sym (contains_numbers s y))
      (right_sum f g
      ∙ (λ i. differ ((ap (λ (h : NormalForm). h.right_side) fa ∙ right_numbers a) i) ((ap (λ (h : NormalForm). h.right_side) gb ∙ right_numbers b) i))
      ∙ sym (is.sums (λ k. (form_at k).right_side)) ∙ sym (right_numbers s))

-- ---- written parities
variables_positive : (vs : List ℕ) → variables (map positive_of vs) ≡ vs
variables_positive [] = refl
variables_positive (v ∷ vs) = ap (λ xs. v ∷ xs) (variables_positive vs)

variables_written : (right : Bool) (vs : List ℕ) → variables (literals_with right vs) ≡ vs
variables_written right [] = refl
variables_written true (v ∷ vs) = ap (λ xs. v ∷ xs) (variables_positive vs)
variables_written false (v ∷ vs) = ap (λ xs. v ∷ xs) (variables_positive vs)

none_negative : (vs : List ℕ) → odd_sum (map (λ (l : Literal). l.negative) (map positive_of vs)) ≡ false
none_negative [] = refl
none_negative (v ∷ vs) = none_negative vs

negatives_written : (right : Bool) (v : ℕ) (vs : List ℕ) → odd_sum (map (λ (l : Literal). l.negative) (literals_with right (v ∷ vs))) ≡ not right
negatives_written true v vs = none_negative vs
negatives_written false v vs = ap not (none_negative vs)

twice : (b : Bool) → not (not b) ≡ b
twice true = refl
twice false = refl

right_written : (right : Bool) (v : ℕ) (vs : List ℕ) → (normal_form (literals_with right (v ∷ vs))).right_side ≡ right
right_written right v vs = right_parity (literals_with right (v ∷ vs)) ∙ ap not (negatives_written right v vs) ∙ twice right

right_of_some : (right : Bool) (vs : List ℕ) (y : ℕ) → list_any (λ z. nat_eq z y) vs ≡ true → (normal_form (literals_with right vs)).right_side ≡ right
right_of_some right [] y h = absurd (true≢false (sym h))
right_of_some right (v ∷ vs) y h = right_written right v vs

-- the right side as the code reads it
pub right_of_none : (f : NormalForm) (lits : List Literal) → IsWritten f lits → lits ≡ [] → true ≡ f.right_side
right_of_none f lits w none = sym (right_parity []) ∙ ap (λ ls. (normal_form ls).right_side) (sym none) ∙ ap (λ (h : NormalForm). h.right_side) w.normal

any_sum : (least : ℕ) (vs : List ℕ) (y : ℕ) → Rises least vs → sum_over vs (λ n. nat_eq n y) ≡ list_any (λ z. nat_eq z y) vs
any_sum least [] y rise = refl
any_sum least (v ∷ vs) y rise =
    ap (differ (nat_eq v y)) (any_sum (v + 1) vs y rise.1)
    ∙ sym (or_apart (nat_eq v y) (list_any (λ z. nat_eq z y) vs) (λ e. none_below (v + 1) vs y rise.1 (let q : v ≡ y = eqb-true v y e in omega (arith, q))))

rising_within : (least most : ℕ) (vs : List ℕ) → Rises least vs → AllByRecursion (λ v. (1 ≤ v) × (v ≤ most)) vs → AreRising least most vs
rising_within least most [] r w = tt
rising_within least most (v ∷ vs) r w = (r.0, w.0.1, rising_within (v + 1) most vs r.1 w.1)

low_and_high : (least most : ℕ) (vs : List ℕ) → 1 ≤ least → AreRising least most vs → AllByRecursion (λ v. (1 ≤ v) × (v ≤ most)) vs
low_and_high least most [] low r = tt
low_and_high least most (v ∷ vs) low r = let first = r.0 in ((omega (arith, low, first), r.1), low_and_high (v + 1) most vs (omega arith) r.2)

module _ (f g : NormalForm) (p q : List Literal) (wp : IsWritten f p) (wq : IsWritten g q) (most : ℕ) (s : List ℕ) (is : IsSumOf (variables p) (variables q) s)
    (in_p : AllByRecursion (λ v. (1 ≤ v) × (v ≤ most)) (variables p)) (in_q : AllByRecursion (λ v. (1 ≤ v) × (v ≤ most)) (variables q)) where
  rises : AreRising 1 most s
  rises = is.rises 1 most (rising_within 1 most (variables p) wp.rises in_p) (rising_within 1 most (variables q) wq.rises in_q)

  pub sum_within : AllByRecursion (λ v. (1 ≤ v) × (v ≤ most)) s
  sum_within = low_and_high 1 most s (omega arith) rises

  low : Rises 1 s
  low = columns_rise 1 most s rises

  any : (y : ℕ) → list_any (λ z. nat_eq z y) s ≡ set.contains (sum_of_two f g).variables y
  any y =
      sym (any_sum 1 s y low) ∙ is.sums (λ n. nat_eq n y)
      ∙ (λ i. differ ((any_sum 1 (variables p) y wp.rises ∙ sym (contains_written f p wp y)) i) ((any_sum 1 (variables q) y wq.rises ∙ sym (contains_written g q wq y)) i))
      ∙ sym (contains_sum f g y)

  pub sum_is_written : (right : Bool) → right ≡ differ f.right_side g.right_side → (y : ℕ) → set.contains (sum_of_two f g).variables y ≡ true → IsWritten (sum_of_two f g) (literals_with right s)
  sum_is_written right at y has = record {
    normal = same_form (normal_form (literals_with right s)) (sum_of_two f g)
        (λ x. contains-normal_form (literals_with right s) x ∙ occurs_rising 1 (literals_with right s) x (subst (Rises 1) (sym (variables_written right s)) low)
        ∙ ap (list_any (λ z. nat_eq z x)) (variables_written right s) ∙ any x)
        (right_of_some right s y (any y ∙ has) ∙ at ∙ sym (right_sum f g));
    rises = subst (Rises 1) (sym (variables_written right s)) low;
    signs = λ i. literals_with ((at ∙ sym (right_sum f g)) i) (sym (variables_written right s) i);
  }

-- ---- values
abbrev bound : List Literal → ℕ
bound [] = 0
bound (l ∷ lits) = suc l.variable + bound lits

below_bound : (lits : List Literal) (n : ℕ) → bound lits ≤ n → AreBelow n lits
below_bound [] n h = tt
below_bound (l ∷ lits) n h = let k : suc l.variable + bound lits ≤ n = h in (omega (arith, k), below_bound lits n (omega (arith, k)))

module _ (v : List Bool) (f g : NormalForm) (p q : List Literal) (np : normal_form p ≡ f) (nq : normal_form q ≡ g) where
  meets_sum : MeetsForm v f → MeetsForm v g → MeetsForm v (sum_of_two f g)
  meets_sum mf mg lits is =
      let n = bound p + bound q + bound lits in
      met-from_Sums n v lits (below_bound lits n (omega arith)) (subst (Sums n v) (sym is) (Sums-sum_of n v (f ∷ g ∷ [])
      (subst (Sums n v) np (Sums-from_met n v p (below_bound p n (omega arith)) (mf p np)), (subst (Sums n v) nq (Sums-from_met n v q (below_bound q n (omega arith)) (mg q nq)), tt))))

  misses_sum : MissesForm v f → MeetsForm v g → MissesForm v (sum_of_two f g)
  misses_sum mf mg lits is = by_cases (parity_met v lits)
      (λ met.
      let n = bound p + bound q + bound lits in
      let all = Sums-sum_of n v (sum_of_two f g ∷ g ∷ []) (subst (Sums n v) is (Sums-from_met n v lits (below_bound lits n (omega arith)) met), (subst (Sums n v) nq (Sums-from_met n v q (below_bound q n (omega arith)) (mg q nq)), tt)) in
      absurd (true≢false (sym (met-from_Sums n v p (below_bound p n (omega arith)) (subst (Sums n v) (taken_back f g ∙ sym np) all)) ∙ mf p np)))
      (λ e. e)

-- ---- the sum as a reason
clause_has : (form : NormalForm) (clause : List Literal) → HasOneOfEach form.variables clause → (v : ℕ) → has_variable clause v ≡ set.contains form.variables v
clause_has form clause each v = sym (set.contains-from_list_nat (variables clause) v) ∙ ap (λ s. set.contains s v) each.same

module _ (given : List (List Literal)) (t : TrailState) (implied : Option Literal) (l : Literal) (f g : NormalForm) (one other : ReasonOf) (x : IsReasonBy given t implied f one) (y : IsReasonBy given t (Some l) g other) where
  abbrev form : NormalForm
  form = sum_of_two f g

  assigned : AreAssigned t form
  assigned v low has = by_cases (set.contains f.variables v)
      (λ e. x.assigned v low e)
      (λ e. y.assigned v low (ap (λ b. differ b (set.contains g.variables v)) (sym e) ∙ sym (contains_sum f g v) ∙ has))

  kind : (i : Option Literal) → IsReasonFor t i f → Rattle.std.specs.Prelude.IfSome i (λ m. has_variable other.clause m.variable ≡ false) → IsReasonFor t i form
  kind None k apart = λ values agrees. misses_sum values f g one.parity other.parity x.written.normal y.written.normal (k values agrees) (y.kind.met values agrees)
  kind (Some m) k apart = record {
    is_true = k.is_true;
    has = contains_sum f g m.variable ∙ (λ i. differ (k.has i) ((sym (clause_has g other.clause y.clause.one_of_each m.variable) ∙ apart) i));
    met = λ values agrees. meets_sum values f g one.parity other.parity x.written.normal y.written.normal (k.met values agrees) (y.kind.met values agrees);
  }

  -- some variable is in one and not in the other
  pub some_variable : (v : ℕ) → differ (has_variable one.clause v) (has_variable other.clause v) ≡ true → set.contains form.variables v ≡ true
  some_variable v h = contains_sum f g v ∙ (λ i. differ (sym (clause_has f one.clause x.clause.one_of_each v) i) (sym (clause_has g other.clause y.clause.one_of_each v) i)) ∙ h

  pub assigned_in : (lits : List Literal) → IsWritten form lits → (m : Literal) → Rattle.cx_semantics.specs.Chain.has_literal lits m ≡ true → Rattle.cx_trail.specs.Sequence.IsAssignedIn t.entries m.variable
  assigned_in lits w m h = assigned m.variable (Rattle.xor_reason.proofs.ClauseLaws.low_written form lits w m h) (Rattle.xor_reason.proofs.ClauseLaws.has_written form lits w m h)

  module _ (sound : IsTrail t) (apart : Rattle.std.specs.Prelude.IfSome implied (λ m. has_variable other.clause m.variable ≡ false)) (r : ReasonOf) (w : IsWritten form r.parity)
      (sources : IsSumOf one.sources other.sources r.sources) (are : AreLiteralsFor t implied r.parity r.clause) where
    pub sum_is_reason : IsReasonBy given t implied form r
    sum_is_reason = record {
      written = w;
      numbers = sources.rises 1 (length given) x.numbers y.numbers;
      sums = sum_numbers given f g one.sources other.sources r.sources x.sums y.sums sources;
      assigned = assigned;
      kind = kind implied x.kind apart;
      clause = is_reason_clause t implied form r.parity r.clause sound w (kind implied x.kind apart) are;
    }

    pub sum_has : HasVariablesOfSum one.clause other.clause r.clause
    sum_has v =
        clause_has form r.clause sum_is_reason.clause.one_of_each v ∙ contains_sum f g v
        ∙ (λ i. differ (sym (clause_has f one.clause x.clause.one_of_each v) i) (sym (clause_has g other.clause y.clause.one_of_each v) i))

pub none_first : (lits : List Literal) → None ≡ slice_get lits 0 → lits ≡ []
none_first [] h = refl
none_first (l ∷ lits) h = absurd (true≢false (sym (ap is_some h)))
