-- The pieces that are still to come, one after another.
use Rattle.std.proofs.Common.{◌≡◌, refl, sym, ap, ◌∙◌, ℕ, zero, suc, ◌+◌, ◌-◌, ◌<◌, ◌≤◌, Bool, true, false, nat_lt, lt-ltb, List, [], ◌∷◌, ◌++◌, map, length, get_or, drop, set, length-set, length-drop, append_assoc, append-nil, arith, if◌then◌else◌}
use Rattle.std.specs.List.{All}
use Rattle.std.proofs.lemmas.List.{map-append, drop_more, drop-set-lt, get_or_default}
use Rattle.cx_base.specs.Drafts.{Draft}
use Rattle.cx_base.specs.declared.literal.TheConstants.{MAX_VARIABLE}
use Rattle.cx_base.specs.declared.constraint.Constraint.{Constraint}
use Rattle.cx_base.specs.declared.constraint.Constraint.TheVariants.{Clause}
use Rattle.xor_blast.specs.Pieces.{Piece, pieces, pieces_from, clauses_of_piece, clauses_of_pieces}
use Rattle.xor_blast.specs.Rising.{IsVariable}
use Rattle.xor_blast.specs.Adding.{with_more, AreAdded}

abbrev clauses_for : List Piece → List Constraint
clauses_for ps = map Clause (clauses_of_pieces ps)

-- what was added, and the pieces of the variables from start on, are the pieces of all variables
pub record Pushing (first : ℕ) (xs : List ℕ) (right : Bool) (before : Draft) (n : ℕ) (m : List ℕ) (start : ℕ) (now : Draft) : Type 0 where
  pub inside : start ≤ length m
  pub few : n ≤ MAX_VARIABLE
  pub variables : All IsVariable m
  pub ended : now.unfinished ≡ []
  pub clauses : now.constraints ++ clauses_for (pieces n (drop start m) right) ≡ before.constraints ++ clauses_for (pieces first xs right)
  pub count : n + length (pieces n (drop start m) right) ≡ first + length (pieces first xs right)

pub pushing_none : (first : ℕ) (xs : List ℕ) (right : Bool) (before : Draft) → first ≤ MAX_VARIABLE → All IsVariable xs → before.unfinished ≡ [] → Pushing first xs right before first xs 0 before
pushing_none first xs right before few vars ended = record { inside = omega arith; few = few; variables = vars; ended = ended; clauses = refl; count = refl }

-- ---- the first piece of more than four variables

abbrev first_piece : ℕ → ℕ → ℕ → ℕ → Piece
first_piece n a b c = record { variables = a ∷ b ∷ c ∷ (n + 1) ∷ []; right_side = false }

first_of : (n a b c : ℕ) (rest : List ℕ) (right : Bool) → 1 < length rest → pieces n (a ∷ b ∷ c ∷ rest) right ≡ first_piece n a b c ∷ pieces (n + 1) ((n + 1) ∷ rest) right
first_of n a b c rest right more = ap (λ t. if t then first_piece n a b c ∷ pieces_from (n + 1) (n + 1) rest right else record { variables = a ∷ b ∷ c ∷ rest; right_side = right } ∷ []) (lt-ltb 1 (length rest) more)

split_three : (m : List ℕ) (start d : ℕ) → start + 3 ≤ length m → drop start m ≡ get_or m start d ∷ get_or m (start + 1) d ∷ get_or m (start + 2) d ∷ drop (start + 3) m
split_three m start d le =
    let two : start + 1 + 1 ≡ start + 2 = omega arith in
    let three : start + 2 + 1 ≡ start + 3 = omega arith in
    drop_more m start d (omega arith)
    ∙ ap (λ t. get_or m start d ∷ t) (drop_more m (start + 1) d (omega arith) ∙ ap (λ t. get_or m (start + 1) d ∷ t)
    (ap (λ k. drop k m) two ∙ drop_more m (start + 2) d (omega arith) ∙ ap (λ k. get_or m (start + 2) d ∷ drop k m) three))

new_first : (m : List ℕ) (i v : ℕ) → i < length m → drop i (set m i v) ≡ v ∷ drop (i + 1) m
new_first m i v lt =
    drop_more (set m i v) i v (omega (arith, length-set m i v))
    ∙ (λ j. set_there m i v v lt j ∷ drop-set-lt (i + 1) m i v (omega arith) j)
  where
    set_there : (m : List ℕ) (i v d : ℕ) → i < length m → get_or (set m i v) i d ≡ v
    set_there [] i v d lt = absurd (omega arith)
    set_there (x ∷ m) zero v d lt = refl
    set_there (x ∷ m) (suc i) v d lt = set_there m i v d (omega arith)

all_set : (m : List ℕ) (i v : ℕ) → All IsVariable m → IsVariable v → All IsVariable (set m i v)
all_set [] i v all is k d lt = all k d lt
all_set (x ∷ m) zero v all is zero d lt = is
all_set (x ∷ m) zero v all is (suc k) d lt = all (suc k) d lt
all_set (x ∷ m) (suc i) v all is zero d lt = all zero d (omega arith)
all_set (x ∷ m) (suc i) v all is (suc k) d lt = all_set m i v (λ j e less. all (suc j) e (omega arith)) is k d (omega arith)

more_clauses : (p : Piece) (ps : List Piece) → clauses_for (p ∷ ps) ≡ map Clause (clauses_of_piece p) ++ clauses_for ps
more_clauses p ps = map-append Clause (clauses_of_piece p) (clauses_of_pieces ps)

pub pushing_more : (first : ℕ) (xs : List ℕ) (right : Bool) (before : Draft) (n : ℕ) (m : List ℕ) (start : ℕ) (now after : Draft) (a b c : ℕ)
    → Pushing first xs right before n m start now → 4 < length m - start → n < MAX_VARIABLE
    → a ≡ get_or m start a → b ≡ get_or m (start + 1) b → c ≡ get_or m (start + 2) c
    → after ≡ with_more now (map Clause (clauses_of_piece (record { variables = a ∷ b ∷ c ∷ (n + 1) ∷ []; right_side = false })))
    → Pushing first xs right before (n + 1) (set m (start + 2) (n + 1)) (start + 2) after
pushing_more first xs right before n m start now after a b c h more less at_a at_b at_c e =
    let is_a : get_or m start 0 ≡ a = get_or_default m start 0 a (omega arith) ∙ sym at_a in
    let is_b : get_or m (start + 1) 0 ≡ b = get_or_default m (start + 1) 0 b (omega arith) ∙ sym at_b in
    let is_c : get_or m (start + 2) 0 ≡ c = get_or_default m (start + 2) 0 c (omega arith) ∙ sym at_c in
    let rest = drop (start + 3) m in
    let three : start + 2 + 1 ≡ start + 3 = omega arith in
    let long : 1 < length rest = omega (arith, length-drop (start + 3) m) in
    let split : drop start m ≡ a ∷ b ∷ c ∷ rest = split_three m start 0 (omega arith) ∙ (λ i. is_a i ∷ is_b i ∷ is_c i ∷ rest) in
    let left : drop (start + 2) (set m (start + 2) (n + 1)) ≡ (n + 1) ∷ rest = new_first m (start + 2) (n + 1) (omega arith) ∙ ap (λ k. (n + 1) ∷ drop k m) three in
    let next = pieces (n + 1) ((n + 1) ∷ rest) right in
    let cut : pieces n (drop start m) right ≡ first_piece n a b c ∷ next = ap (λ t. pieces n t right) split ∙ first_of n a b c rest right long in
    let gained : List Constraint = map Clause (clauses_of_piece (first_piece n a b c)) in
    record {
      inside = omega (arith, length-set m (start + 2) (n + 1));
      few = omega arith;
      variables = all_set m (start + 2) (n + 1) h.variables (omega arith, omega arith);
      ended = ap (λ t. t.unfinished) e;
      clauses =
          (λ i. (e i).constraints ++ clauses_for (pieces (n + 1) (left i) right))
          ∙ append_assoc now.constraints gained (clauses_for next)
          ∙ ap (λ t. now.constraints ++ t) (sym (more_clauses (first_piece n a b c) next) ∙ ap clauses_for (sym cut))
          ∙ h.clauses;
      count =
          let same = ap (λ t. length (pieces (n + 1) t right)) left in
          let cut_length = ap length cut in
          let counted = h.count in
          omega (arith, same, cut_length, counted);
    }

-- ---- the last piece

pub some_from : (n x : ℕ) (xs : List ℕ) (right : Bool) → 1 ≤ length (pieces_from n x xs right)
some_from n x [] right = omega arith
some_from n x (y ∷ []) right = omega arith
some_from n x (y ∷ z ∷ rest) right = elim (nat_lt 1 (length rest)) as (λ t. 1 ≤ length (if t then first_piece n x y z ∷ pieces_from (n + 1) (n + 1) rest right else record { variables = x ∷ y ∷ z ∷ rest; right_side = right } ∷ [])) [
  | true ↦ omega arith
  | false ↦ omega arith
]

pub some_piece : (n : ℕ) (xs : List ℕ) (right : Bool) → 1 ≤ length (pieces n xs right)
some_piece n [] right = omega arith
some_piece n (x ∷ xs) right = some_from n x xs right

last_of : (n : ℕ) (xs : List ℕ) (right : Bool) → length xs ≤ 4 → pieces n xs right ≡ record { variables = xs; right_side = right } ∷ []
last_of n [] right le = refl
last_of n (a ∷ []) right le = refl
last_of n (a ∷ b ∷ []) right le = refl
last_of n (a ∷ b ∷ c ∷ []) right le = refl
last_of n (a ∷ b ∷ c ∷ e ∷ []) right le = refl
last_of n (a ∷ b ∷ c ∷ e ∷ f ∷ rest) right le = absurd (omega arith)

pub all_pushed : (first : ℕ) (xs : List ℕ) (right : Bool) (before : Draft) (n : ℕ) (m : List ℕ) (start : ℕ) (now after : Draft)
    → Pushing first xs right before n m start now → length m - start ≤ 4
    → after ≡ with_more now (map Clause (clauses_of_piece (record { variables = drop start m; right_side = right })))
    → AreAdded before after (clauses_for (pieces first xs right)) first (length (pieces first xs right) - 1) n
all_pushed first xs right before n m start now after h le e =
    let last = last_of n (drop start m) right (omega (arith, length-drop start m)) in
    let one = ap length last in
    let counted = h.count in
    record {
      added = e ∙ ap {B = Draft} (λ t. record { constraints = t; unfinished = [] })
          (ap (λ t. now.constraints ++ t) (sym (append-nil (map Clause (clauses_of_piece (record { variables = drop start m; right_side = right }))))
          ∙ sym (more_clauses (record { variables = drop start m; right_side = right }) []) ∙ ap clauses_for (sym last))
          ∙ h.clauses);
      counted = omega (arith, one, counted, some_piece first xs right);
      few = h.few;
    }

pub passes : (first : ℕ) (xs : List ℕ) (right : Bool) (before : Draft) (n : ℕ) (m : List ℕ) (start : ℕ) (now : Draft) (d : ℕ)
    → Pushing first xs right before n m start now → 4 < length m - start → MAX_VARIABLE ≤ n → MAX_VARIABLE < first + (length (pieces first xs right) - 1)
passes first xs right before n m start now d h more full =
    let rest = drop (start + 3) m in
    let long : 1 < length rest = omega (arith, length-drop (start + 3) m) in
    let split = split_three m start d (omega arith) in
    let cut = ap length (ap (λ t. pieces n t right) split ∙ first_of n (get_or m start d) (get_or m (start + 1) d) (get_or m (start + 2) d) rest right long) in
    let some = some_from (n + 1) (n + 1) rest right in
    let counted = h.count in
    omega (arith, cut, some, counted)
