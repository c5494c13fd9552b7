-- Where a reference is found among moves.
use Rattle.std.proofs.Common.{◌≡◌, ◌≢◌, ℕ, zero, suc, ◌<◌, ◌≤◌, cond, List, [], ◌∷◌, length, None, Some, refl, sym, ap, ◌∙◌, ⊎_elim, arith}
use Rattle.std.proofs.lemmas.Bool.{cases_eq, cases_lt, eq-eqb, ne_eqb}
use Rattle.cx_base.specs.declared.moved.Move.{Move}
use Rattle.cx_base.specs.Moved.{moved_to, move_at, IsRising}

moved_head : (m : Move) (moves : List Move) (r : ℕ) → m.old ≡ r → moved_to (m ∷ moves) r ≡ Some m.new
moved_head m moves r e = ap (λ b. cond b (Some m.new) (moved_to moves r)) (eq-eqb m.old r e)

moved_tail : (m : Move) (moves : List Move) (r : ℕ) → m.old ≢ r → moved_to (m ∷ moves) r ≡ moved_to moves r
moved_tail m moves r ne = ap (λ b. cond b (Some m.new) (moved_to moves r)) (ne_eqb m.old r ne)

rising_tail : (m : Move) (moves : List Move) → IsRising (m ∷ moves) → IsRising moves
rising_tail m moves h = record { rises = λ i j less inside. h.rises (suc i) (suc j) (omega arith) (omega arith) }

-- an old reference is at one place
pub moved_at : (moves : List Move) (i : ℕ) → IsRising moves → i < length moves → moved_to moves (move_at moves i).old ≡ Some (move_at moves i).new
moved_at [] i h inside = absurd (omega arith)
moved_at (m ∷ moves) zero h inside = moved_head m moves m.old refl
moved_at (m ∷ moves) (suc i) h inside =
    let above : m.old < (move_at moves i).old = h.rises 0 (suc i) (omega arith) inside in
    moved_tail m moves (move_at moves i).old (λ e. omega arith) ∙ moved_at moves i (rising_tail m moves h) (omega arith)

pub moved_nowhere : (moves : List Move) (r : ℕ) → ((i : ℕ) → i < length moves → (move_at moves i).old ≢ r) → moved_to moves r ≡ None
moved_nowhere [] r none = refl
moved_nowhere (m ∷ moves) r none = moved_tail m moves r (none 0 (omega arith)) ∙ moved_nowhere moves r (λ i h. none (suc i) (omega arith))

-- what has moved is somewhere
pub moved_from : (moves : List Move) (r s : ℕ) → moved_to moves r ≡ Some s → (i : ℕ) × (i < length moves) × ((move_at moves i).old ≡ r) × ((move_at moves i).new ≡ s)
moved_from [] r s e = cc
moved_from (m ∷ moves) r s e = ⊎_elim
    (λ (h : m.old ≡ r). let same : Some m.new ≡ Some s = sym (moved_head m moves r h) ∙ e in (0, omega arith, h, cc))
    (λ (h : m.old ≢ r). let w = moved_from moves r s (sym (moved_tail m moves r h) ∙ e) in (suc w.0, omega (arith, w.1), w.2, w.3)) (cases_eq m.old r)

-- the first place that is not below a reference is another's
pub moved_past : (moves : List Move) (r place : ℕ) → IsRising moves → ((i : ℕ) → i < place → (move_at moves i).old < r) → ((i : ℕ) → place ≤ i → i < length moves → r ≤ (move_at moves i).old)
    → (place < length moves → (move_at moves place).old ≢ r) → moved_to moves r ≡ None
moved_past moves r place h below above other = moved_nowhere moves r (λ i inside e. ⊎_elim
    (λ (less : i < place). omega (arith, below i less))
    (λ (more : place ≤ i). ⊎_elim
    (λ (same : i ≡ place). other (omega arith) (ap (λ x. (move_at moves x).old) (sym same) ∙ e))
    (λ (ne : i ≢ place). omega (arith, above place (omega arith) (omega arith), h.rises place i (omega arith) inside)) (cases_eq i place)) (cases_lt i place))
