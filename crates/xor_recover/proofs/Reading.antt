-- Reading clauses one after the other.
use Rattle.std.proofs.Common.{◌≡◌, refl, sym, ap, ◌∙◌, ℕ, suc, ◌+◌, ◌<◌, Bool, true, false, not, List, [], ◌∷◌, ◌++◌, length, get_or, take, map, arith, append_assoc}
use Rattle.std.proofs.lemmas.List.{append-nil, map-append}
use Rattle.std.proofs.Math.Seq.{take-suc}
use mathlib.Core.Bool.{beq}
use Rattle.cx_base.specs.Literals.{Literal, differ}
use Rattle.cx_base.specs.Parity.{odd_sum}
use Rattle.cx_base.specs.Problem.{clauses_of}
use Rattle.cx_base.specs.Borrowed.{constraint_at}
use Rattle.cx_base.specs.declared.constraint.Constraint.{Constraint}
use Rattle.cx_base.specs.declared.constraint.Constraint.TheVariants.{Clause, Parity}
use Rattle.cx_base.proofs.Parts.{clauses_of-clause, clauses_of-parity}
use Rattle.xor_recover.specs.Rows.{Row, gathered, rows_if, rows_of}

pub odd_push : (xs : List Bool) (b : Bool) → odd_sum (xs ++ b ∷ []) ≡ differ (odd_sum xs) b
odd_push [] true = refl
odd_push [] false = refl
odd_push (x ∷ xs) b = ap (differ x) (odd_push xs b) ∙ grouped x (odd_sum xs) b
  where
    grouped : (x y z : Bool) → differ x (differ y z) ≡ differ (differ x y) z
    grouped true true true = refl
    grouped true true false = refl
    grouped true false z = refl
    grouped false y z = refl

turned : (o b : Bool) → not (beq (not o) b) ≡ not (differ o b)
turned true true = refl
turned true false = refl
turned false true = refl
turned false false = refl

pub right_more : (right b : Bool) (xs more : List Bool) → right ≡ not (odd_sum xs) → more ≡ xs ++ b ∷ [] → not (beq right b) ≡ not (odd_sum more)
right_more right b xs more e pushed = ap (λ r. not (beq r b)) e ∙ turned (odd_sum xs) b ∙ ap not (sym (odd_push xs b)) ∙ ap (λ x. not (odd_sum x)) (sym pushed)

pub take_map_more : {X Y : Type 0} (f : X → Y) (xs : List X) (k : ℕ) (x : X) → k < length xs → x ≡ get_or xs k x → map f (take (k + 1) xs) ≡ map f (take k xs) ++ f x ∷ []
take_map_more f xs k x lt e =
    (let next : k + 1 ≡ suc k = omega arith in ap (λ n. map f (take n xs)) next)
    ∙ ap (map f) (take-suc xs k x lt ∙ ap (λ y. take k xs ++ y ∷ []) (sym e))
    ∙ map-append f (take k xs) (x ∷ [])

rows_of-push : (n : ℕ) (cs : List (List Literal)) (c : List Literal) → rows_of n (cs ++ c ∷ []) ≡ rows_of n cs ++ rows_if (gathered [] c) (n + length cs)
rows_of-push n [] c = append-nil (rows_if (gathered [] c) n) ∙ (let e : n ≡ n + 0 = omega arith in ap (rows_if (gathered [] c)) e)
rows_of-push n (d ∷ cs) c =
    ap (λ x. rows_if (gathered [] d) n ++ x) (rows_of-push (n + 1) cs c ∙ (let e : n + 1 + length cs ≡ n + suc (length cs) = omega arith in ap (λ m. rows_of (n + 1) cs ++ rows_if (gathered [] c) m) e))
    ∙ sym (append_assoc (rows_if (gathered [] d) n) (rows_of (n + 1) cs) (rows_if (gathered [] c) (n + suc (length cs))))

take_more : (cs : List Constraint) (k : ℕ) → k < length cs → take (k + 1) cs ≡ take k cs ++ constraint_at cs k ∷ []
take_more cs k lt = (let next : k + 1 ≡ suc k = omega arith in ap (λ n. take n cs) next) ∙ take-suc cs k (Clause []) lt

pub clauses_more : (cs : List Constraint) (k : ℕ) (lits : List Literal) → k < length cs → Clause lits ≡ constraint_at cs k → clauses_of (take (k + 1) cs) ≡ clauses_of (take k cs) ++ lits ∷ []
clauses_more cs k lits lt e = ap clauses_of (take_more cs k lt ∙ ap (λ c. take k cs ++ c ∷ []) (sym e)) ∙ clauses_of-clause (take k cs) lits

pub clauses_stay : (cs : List Constraint) (k : ℕ) (lits : List Literal) → k < length cs → Parity lits ≡ constraint_at cs k → clauses_of (take (k + 1) cs) ≡ clauses_of (take k cs)
clauses_stay cs k lits lt e = ap clauses_of (take_more cs k lt ∙ ap (λ c. take k cs ++ c ∷ []) (sym e)) ∙ clauses_of-parity (take k cs) lits

pub rows_more : (cs : List (List Literal)) (c : List Literal) (old new : List Row) (n : ℕ) → old ≡ rows_of 1 cs → n ≡ length cs + 1 → new ≡ old ++ rows_if (gathered [] c) n → new ≡ rows_of 1 (cs ++ c ∷ [])
rows_more cs c old new n e m pushed =
    let at : n ≡ 1 + length cs = omega arith in
    pushed ∙ (λ i. e i ++ rows_if (gathered [] c) (at i)) ∙ sym (rows_of-push 1 cs c)

pub no_rows : [] ≡ rows_of 1 (clauses_of [])
unfolding clauses_of
no_rows = refl

pub no_clauses : 0 ≡ length (clauses_of [])
unfolding clauses_of
no_clauses = refl
