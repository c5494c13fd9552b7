-- The constraints that are put into clauses, one after another.
use Rattle.std.proofs.Common.{◌≡◌, refl, sym, ap, ◌∙◌, subst, ℕ, zero, suc, ◌+◌, ◌-◌, ◌<◌, ◌≤◌, Bool, true, false, cond, max, nat_lt, if◌then◌else◌, List, [], ◌∷◌, ◌++◌, map, filter, flat_map, fold, length, take, take_all, append_assoc, append-nil, arith}
use Rattle.std.specs.List.{AllByRecursion, filter_map}
use Rattle.std.proofs.lemmas.List.{take_more}
use Rattle.std.proofs.lemmas.List.Elements.{filter_map-append}
use Rattle.cx_base.specs.Literals.{Literal}
use Rattle.cx_base.specs.Parity.{normal_form}
use Rattle.cx_base.specs.Drafts.{Draft}
use Rattle.cx_base.specs.Borrowed.{constraint_at}
use Rattle.cx_base.specs.Problem.{Problem, literals_of, greatest_variable, AreWithin, parity_in, parities_of}
use Rattle.cx_base.specs.declared.literal.TheConstants.{MAX_VARIABLE}
use Rattle.cx_base.specs.declared.constraint.Constraint.{Constraint}
use Rattle.cx_base.specs.declared.constraint.Constraint.TheVariants.{Clause, Parity, Assume}
use Rattle.cx_base.proofs.Elements.{all_append}
use Rattle.xor_blast.specs.Pieces.{Piece, rising_variables, pieces, pieces_from, falsified, assignments, is_wrong, clauses_of_piece, clauses_of_pieces}
use Rattle.xor_blast.specs.Blasted.{pieces_of, new_count, in_clauses, all_in_clauses, variables_behind, variables_after, blasted, PassesLimit}
use Rattle.xor_blast.specs.Adding.{AreAdded}
use Rattle.xor_blast.proofs.PushingLaws.{some_from}
use Rattle.xor_blast.proofs.RisingLaws.{rising_within}

-- ---- a constraint more

behind_more : (vars n : ℕ) (cs : List Constraint) (c : Constraint) → variables_behind vars n (cs ++ c ∷ []) ≡ variables_behind vars n cs + new_count vars (variables_behind vars n cs) c
behind_more vars n [] c = refl
behind_more vars n (d ∷ cs) c = behind_more vars (n + new_count vars n d) cs c

clauses_more : (vars n : ℕ) (cs : List Constraint) (c : Constraint) → all_in_clauses vars n (cs ++ c ∷ []) ≡ all_in_clauses vars n cs ++ in_clauses vars (variables_behind vars n cs) c
clauses_more vars n [] c = append-nil (in_clauses vars n c)
clauses_more vars n (d ∷ cs) c = ap (λ t. in_clauses vars n d ++ t) (clauses_more vars (n + new_count vars n d) cs c) ∙ sym (append_assoc (in_clauses vars n d) (all_in_clauses vars (n + new_count vars n d) cs) (in_clauses vars (variables_behind vars n (d ∷ cs)) c))

-- the first constraints are in the builder, and they pass no limit
pub record Blasting (formula : Problem) (place vars : ℕ) (now : Draft) : Type 0 where
  pub added : now ≡ record { constraints = all_in_clauses formula.variables formula.variables (take place formula.constraints); unfinished = [] }
  pub counted : vars ≡ variables_after formula place
  pub few : vars ≤ MAX_VARIABLE
  pub none : (k : ℕ) → k ≤ place → variables_after formula k ≤ MAX_VARIABLE

pub blasting_none : (formula : Problem) (vars : ℕ) (now : Draft) → vars ≡ formula.variables → vars ≤ MAX_VARIABLE → now ≡ record { constraints = []; unfinished = [] } → Blasting formula 0 vars now
blasting_none formula vars now is few e = record {
  added = e;
  counted = is;
  few = few;
  none = λ k le. none k le;
}
  where
    none : (k : ℕ) → k ≤ 0 → variables_after formula k ≤ MAX_VARIABLE
    none zero le = omega (arith, is, few)
    none (suc k) le = absurd (omega arith)

module _ (formula : Problem) (place vars : ℕ) (now : Draft) (h : Blasting formula place vars now) (inside : place < length formula.constraints) (item : Constraint) (is : item ≡ constraint_at formula.constraints place) where
  front_more : take (place + 1) formula.constraints ≡ take place formula.constraints ++ item ∷ []
  front_more = take_more formula.constraints place (Clause []) inside ∙ ap (λ c. take place formula.constraints ++ c ∷ []) (sym is)

  after_more : variables_after formula (place + 1) ≡ vars + new_count formula.variables vars item
  after_more =
      ap (variables_behind formula.variables formula.variables) front_more ∙ behind_more formula.variables formula.variables (take place formula.constraints) item
      ∙ ap (λ k. k + new_count formula.variables k item) (sym h.counted)

  up_to_next : variables_after formula (place + 1) ≤ MAX_VARIABLE → (k : ℕ) → k ≤ place + 1 → variables_after formula k ≤ MAX_VARIABLE
  up_to_next few k le = elim (Rattle.std.proofs.lemmas.Bool.cases_lt place k) [
    | Rattle.std.proofs.Common.inl lt ↦ let e : place + 1 ≡ k = omega arith in subst (λ j. variables_after formula j ≤ MAX_VARIABLE) e few
    | Rattle.std.proofs.Common.inr low ↦ h.none k low
  ]

  pub blasting_more : (after : Draft) (last : ℕ) → AreAdded now after (in_clauses formula.variables vars item) vars (new_count formula.variables vars item) last → Blasting formula (place + 1) last after
  blasting_more after last a = record {
    added = a.added
        ∙ ap {B = Draft} (λ cs. record { constraints = cs; unfinished = [] })
        ((λ i. (h.added i).constraints ++ in_clauses formula.variables (h.counted i) item)
        ∙ sym (clauses_more formula.variables formula.variables (take place formula.constraints) item)
        ∙ ap (all_in_clauses formula.variables formula.variables) (sym front_more));
    counted = a.counted ∙ sym after_more;
    few = a.few;
    none = up_to_next (let counted = a.counted in let few = a.few in omega (arith, counted, few, after_more));
  }

  pub passes_here : MAX_VARIABLE < vars + new_count formula.variables vars item → PassesLimit formula (place + 1)
  passes_here above = record { low = omega arith; high = omega arith; above = omega (arith, above, after_more); before = λ k lt. h.none k (omega arith) }

-- ---- no variable is above the last

abbrev AreUpTo : ℕ → List ℕ → Type 0
AreUpTo n xs = AllByRecursion (λ x. x ≤ n) xs

abbrev LiteralsUpTo : ℕ → List Literal → Type 0
LiteralsUpTo n lits = AllByRecursion (λ l. l.variable ≤ n) lits

falsified_up : (n : ℕ) (xs : List ℕ) (bits : List Bool) → AreUpTo n xs → LiteralsUpTo n (falsified xs bits)
falsified_up n [] bits h = tt
falsified_up n (x ∷ xs) [] h = tt
falsified_up n (x ∷ xs) (b ∷ bits) h = (h.0, falsified_up n xs bits h.1)

each_mapped : {X Y : Type 0} (P : Y → Type 0) (f : X → Y) (xs : List X) → ((x : X) → P (f x)) → AllByRecursion P (map f xs)
each_mapped P f [] h = tt
each_mapped P f (x ∷ xs) h = (h x, each_mapped P f xs h)

piece_up : (n : ℕ) (p : Piece) → AreUpTo n p.variables → AllByRecursion (LiteralsUpTo n) (clauses_of_piece p)
piece_up n p h = each_mapped (LiteralsUpTo n) (falsified p.variables) (filter (is_wrong p.right_side) (assignments (length p.variables))) (λ bits. falsified_up n p.variables bits h)

abbrev PiecesUpTo : ℕ → List Piece → Type 0
PiecesUpTo n ps = AllByRecursion (λ p. AreUpTo n p.variables) ps

pieces_up : (n : ℕ) (ps : List Piece) → PiecesUpTo n ps → AllByRecursion (LiteralsUpTo n) (clauses_of_pieces ps)
pieces_up n [] h = tt
pieces_up n (p ∷ ps) h = all_append (LiteralsUpTo n) (clauses_of_piece p) (clauses_of_pieces ps) (piece_up n p h.0) (pieces_up n ps h.1)

cut_up_from : (top n x : ℕ) (xs : List ℕ) (right : Bool) → n + length (pieces_from n x xs right) ≤ top + 1 → x ≤ top → AreUpTo top xs → PiecesUpTo top (pieces_from n x xs right)
cut_up_from top n x [] right le first h = ((first, tt), tt)
cut_up_from top n x (y ∷ []) right le first h = ((first, (h.0, tt)), tt)
cut_up_from top n x (y ∷ z ∷ rest) right le first h =
    cases (nat_lt 1 (length rest)) (some_from (n + 1) (n + 1) rest right) (cut_up_from top (n + 1) (n + 1) rest right) le
  where
    cases : (t : Bool) → 1 ≤ length (pieces_from (n + 1) (n + 1) rest right)
        → (n + 1 + length (pieces_from (n + 1) (n + 1) rest right) ≤ top + 1 → n + 1 ≤ top → AreUpTo top rest → PiecesUpTo top (pieces_from (n + 1) (n + 1) rest right))
        → n + length (if t then record { variables = x ∷ y ∷ z ∷ (n + 1) ∷ []; right_side = false } ∷ pieces_from (n + 1) (n + 1) rest right else record { variables = x ∷ y ∷ z ∷ rest; right_side = right } ∷ []) ≤ top + 1
        → PiecesUpTo top (if t then record { variables = x ∷ y ∷ z ∷ (n + 1) ∷ []; right_side = false } ∷ pieces_from (n + 1) (n + 1) rest right else record { variables = x ∷ y ∷ z ∷ rest; right_side = right } ∷ [])
    cases true some behind le =
        let shorter : n + suc (length (pieces_from (n + 1) (n + 1) rest right)) ≤ top + 1 = le in
        let new : n + 1 ≤ top = omega (arith, shorter, some) in
        ((first, (h.0, (h.1.0, (new, tt)))), behind (omega (arith, shorter)) new h.1.1)
    cases false some behind le = ((first, (h.0, (h.1.0, h.1.1))), tt)

cut_up : (top n : ℕ) (xs : List ℕ) (right : Bool) → n + length (pieces n xs right) ≤ top + 1 → AreUpTo top xs → PiecesUpTo top (pieces n xs right)
cut_up top n [] right le h = (tt, tt)
cut_up top n (x ∷ xs) right le h = cut_up_from top n x xs right le h.0 h.1

abbrev ConstraintsUpTo : ℕ → List Constraint → Type 0
ConstraintsUpTo n cs = AllByRecursion (λ c. LiteralsUpTo n (literals_of c)) cs

as_clauses : (n : ℕ) (lists : List (List Literal)) → AllByRecursion (LiteralsUpTo n) lists → ConstraintsUpTo n (map Clause lists)
as_clauses n [] h = tt
as_clauses n (lits ∷ lists) h = (h.0, as_clauses n lists h.1)

literals_up : (vars top : ℕ) (lits : List Literal) → AreWithin vars lits → vars ≤ top → LiteralsUpTo top lits
literals_up vars top [] h le = tt
literals_up vars top (l ∷ lits) h le = (let high = h.0.1 in omega arith, literals_up vars top lits h.1 le)

rising_up : (vars top : ℕ) (xs : List ℕ) → AllByRecursion (λ x. (1 ≤ x) × (x ≤ vars)) xs → vars ≤ top → AreUpTo top xs
rising_up vars top [] h le = tt
rising_up vars top (x ∷ xs) h le = (let high = h.0.1 in omega arith, rising_up vars top xs h.1 le)

constraint_up : (vars n top : ℕ) (c : Constraint) → AreWithin vars (literals_of c) → vars ≤ top → n + new_count vars n c ≤ top → ConstraintsUpTo top (in_clauses vars n c)
constraint_up vars n top (Clause lits) h le less = (literals_up vars top lits h le, tt)
constraint_up vars n top (Parity lits) h le less =
    as_clauses top (clauses_of_pieces (pieces_of vars n lits)) (pieces_up top (pieces_of vars n lits)
    (cut_up top n (rising_variables vars lits) (normal_form lits).right_side (omega (arith, less)) (rising_up vars top (rising_variables vars lits) (rising_within vars lits) le)))
constraint_up vars n top (Assume lits) h le less = (literals_up vars top lits h le, tt)

from_on : (vars n : ℕ) (cs : List Constraint) → n ≤ variables_behind vars n cs
from_on vars n [] = omega arith
from_on vars n (c ∷ cs) = let rest = from_on vars (n + new_count vars n c) cs in omega (arith, rest)

all_up : (vars n top : ℕ) (cs : List Constraint) → AllByRecursion (λ c. AreWithin vars (literals_of c)) cs → vars ≤ top → variables_behind vars n cs ≤ top → ConstraintsUpTo top (all_in_clauses vars n cs)
all_up vars n top [] h le less = tt
all_up vars n top (c ∷ cs) h le less =
    let here = from_on vars (n + new_count vars n c) cs in
    all_append (λ d. LiteralsUpTo top (literals_of d)) (in_clauses vars n c) (all_in_clauses vars (n + new_count vars n c) cs)
    (constraint_up vars n top c h.0 le (omega (arith, here, less))) (all_up vars (n + new_count vars n c) top cs h.1 le less)

all_literals : (n : ℕ) (cs : List Constraint) → ConstraintsUpTo n cs → LiteralsUpTo n (flat_map literals_of cs)
all_literals n [] h = tt
all_literals n (c ∷ cs) h = all_append (λ l. l.variable ≤ n) (literals_of c) (flat_map literals_of cs) h.0 (all_literals n cs h.1)

none_greater : (n : ℕ) (lits : List Literal) → LiteralsUpTo n lits → fold max n (map (λ l. l.variable) lits) ≡ n
none_greater n [] h = refl
none_greater n (l ∷ lits) h = let low = h.0 in let e : max n l.variable ≡ n = omega arith in ap (λ m. fold max m (map (λ k. k.variable) lits)) e ∙ none_greater n lits h.1

-- ---- no parity

abbrev no_parities : List Constraint → List (List Literal)
no_parities cs = filter_map parity_in cs

clauses_alone : (lists : List (List Literal)) → no_parities (map Clause lists) ≡ []
clauses_alone [] = refl
clauses_alone (lits ∷ lists) = clauses_alone lists

in_clauses_alone : (vars n : ℕ) (c : Constraint) → no_parities (in_clauses vars n c) ≡ []
in_clauses_alone vars n (Clause lits) = refl
in_clauses_alone vars n (Parity lits) = clauses_alone (clauses_of_pieces (pieces_of vars n lits))
in_clauses_alone vars n (Assume lits) = refl

all_alone : (vars n : ℕ) (cs : List Constraint) → no_parities (all_in_clauses vars n cs) ≡ []
all_alone vars n [] = refl
all_alone vars n (c ∷ cs) =
    filter_map-append parity_in (in_clauses vars n c) (all_in_clauses vars (n + new_count vars n c) cs)
    ∙ (λ i. in_clauses_alone vars n c i ++ all_alone vars (n + new_count vars n c) cs i)

pub blasted_alone : (formula : Problem) → parities_of (blasted formula).constraints ≡ []
unfolding blasted parities_of
blasted_alone formula = all_alone formula.variables formula.variables formula.constraints

-- ---- the whole

pub blasting_all : (formula made : Problem) (place vars : ℕ) (now : Draft) → Blasting formula place vars now → length formula.constraints ≤ place
    → AllByRecursion (λ c. AreWithin formula.variables (literals_of c)) formula.constraints
    → made ≡ record { variables = greatest_variable vars now.constraints; constraints = now.constraints } → made ≡ blasted formula
unfolding blasted
blasting_all formula made place vars now h past within e =
    let all = take_all place formula.constraints past in
    let clauses : now.constraints ≡ all_in_clauses formula.variables formula.variables formula.constraints = ap (λ t. t.constraints) h.added ∙ ap (all_in_clauses formula.variables formula.variables) all in
    let last : vars ≡ variables_behind formula.variables formula.variables formula.constraints = h.counted ∙ ap (variables_behind formula.variables formula.variables) all in
    let top = variables_behind formula.variables formula.variables formula.constraints in
    e
    ∙ (λ i. record { variables = greatest_variable (last i) (clauses i); constraints = clauses i })
    ∙ ap {B = Problem} (λ n. record { variables = n; constraints = all_in_clauses formula.variables formula.variables formula.constraints })
    (none_greater top (flat_map literals_of (all_in_clauses formula.variables formula.variables formula.constraints)) (all_literals top _ (all_up formula.variables formula.variables top formula.constraints within (from_on formula.variables formula.variables formula.constraints) (omega arith))))

pub none_passes : (formula : Problem) (place vars : ℕ) (now : Draft) → Blasting formula place vars now → length formula.constraints ≤ place → (number : ℕ) → ¬ PassesLimit formula number
none_passes formula place vars now h past number p =
    let high = p.high in
    let above = p.above in
    let low = h.none number (omega arith) in
    omega (arith, above, low)

pub within_limit : (n : ℕ) (lits : List Literal) → AreWithin n lits → n ≤ MAX_VARIABLE → AreWithin MAX_VARIABLE lits
within_limit n [] h le = tt
within_limit n (l ∷ lits) h le = ((h.0.0, let high = h.0.1 in omega arith), within_limit n lits h.1 le)
