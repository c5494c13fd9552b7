-- The masks of the columns, filled one column after the other.
use Rattle.std.proofs.Common.{◌≡◌, ◌∙◌, ℕ, ◌+◌, ◌<◌, Bool, not, cond, nat_eq, List, get_or, Option, Some, None, inl, inr, refl, sym, ap, arith}
use Rattle.std.specs.Option.{is_some}
use Rattle.std.proofs.lemmas.Bool.{cases_eq, eq-eqb, ne_eqb}
use Rattle.gf2_rows.specs.Bits.{bit_of}
use Rattle.parity_engine.specs.declared.state.Held.{Held}
use Rattle.parity_engine.specs.State.{is_unassigned}
use Rattle.gauss_jordan.specs.Right.{column_at}
use Rattle.gauss_jordan.specs.Slots.{AreMasks, value_or_false}

pub masks_none : (columns : List ℕ) (held : List (Option Held)) (on ts : List ℕ) → AreMasks columns held on ts 0
masks_none columns held on ts = (λ k lt. absurd (omega arith), λ k lt. absurd (omega arith))

bit_more : (f : ℕ → Bool) (now next : List ℕ) (n : ℕ) (b : Bool) → ((k : ℕ) → k < n → bit_of now k ≡ f k)
    → ((j : ℕ) → bit_of next j ≡ cond (nat_eq j n) b (bit_of now j)) → b ≡ f n → (k : ℕ) → k < n + 1 → bit_of next k ≡ f k
bit_more f now next n b before put is k lt =
    put k
    ∙ elim (cases_eq k n) [
      | inl e ↦ ap (λ t. cond t b (bit_of now k)) (eq-eqb k n e) ∙ is ∙ ap f (sym e)
      | inr ne ↦ ap (λ t. cond t b (bit_of now k)) (ne_eqb k n ne) ∙ before k (omega arith)
    ]

some_is : (o : Option Held) → is_some o ≡ not (is_unassigned o)
some_is None = refl
some_is (Some h) = refl

-- the bits of one more column are put
pub masks_more : (columns : List ℕ) (held : List (Option Held)) (on ts on_next ts_next : List ℕ) (n at : ℕ) (a t : Bool) → AreMasks columns held on ts n
    → ((j : ℕ) → bit_of on_next j ≡ cond (nat_eq j n) a (bit_of on j)) → ((j : ℕ) → bit_of ts_next j ≡ cond (nat_eq j n) t (bit_of ts j))
    → at ≡ column_at columns n → a ≡ is_some (get_or held at None) → t ≡ value_or_false (get_or held at None) → AreMasks columns held on_next ts_next (n + 1)
masks_more columns held on ts on_next ts_next n at a t before on_put ts_put at_is a_is t_is = (
  bit_more (λ k. not (is_unassigned (get_or held (column_at columns k) None))) on on_next n a before.0 on_put (a_is ∙ some_is (get_or held at None) ∙ ap (λ i. not (is_unassigned (get_or held i None))) at_is),
  bit_more (λ k. value_or_false (get_or held (column_at columns k) None)) ts ts_next n t before.1 ts_put (t_is ∙ ap (λ i. value_or_false (get_or held i None)) at_is),
)
