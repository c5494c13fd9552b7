-- Rows copied bit by bit, and what the copies stand for.
use Rattle.std.proofs.Common.{◌≡◌, ℕ, ◌+◌, ◌<◌, ◌≤◌, zero, suc, Bool, true, false, cond, nat_eq, ◌&&◌, List, [], ◌∷◌, ◌++◌, map, length, get_or, Option, Some, None, inl, inr, refl, sym, ap, ◌∙◌, arith}
use Rattle.std.specs.List.{range_with_len}
use Rattle.std.proofs.lemmas.List.{append-nil}
use Rattle.std.proofs.lemmas.List.FromFn.{length-map-range_with_len, map-range_with_len_more, fill_by_all, length-range_with_len, get_or-range_with_len}
use Rattle.std.proofs.lemmas.Bool.{cases_eq, eq-eqb, ne_eqb}
use Rattle.cx_base.specs.Literals.{differ}
use Rattle.cx_base.specs.declared.literal.TheConstants.{MAX_VARIABLE}
use Rattle.cx_base.specs.Parity.{odd_sum}
use Rattle.cx_base.proofs.ParityLaws.{differ_false}
use Rattle.gf2_rows.specs.Bits.{bit_of}
use Rattle.gf2_rows.proofs.Words.{range_same, parity-append}
use Rattle.parity_engine.specs.Equations.{Equation, form_of, numbers_from}
use Rattle.parity_engine.specs.Written.{AreRising}
use Rattle.parity_engine.specs.declared.state.Held.{Held}
use Rattle.parity_engine.proofs.Rising.{columns_rise}
use Rattle.gf2_matrix.specs.Columns.{place}
use Rattle.gf2_matrix.specs.Views.{IsView, viewed_form}
use Rattle.gf2_matrix.specs.Content.{Content, IsOfGiven, has, row_at, form}
use Rattle.gf2_matrix.proofs.Columns.{place_found}
use Rattle.gf2_matrix.proofs.Numbered.{numbers-append}
use Rattle.gauss_jordan.specs.declared.slot.RowSlot.{RowSlot}
use Rattle.parity_engine.specs.declared.state.Naming.{Naming}
use Rattle.gauss_jordan.specs.Slots.{first_bits, row_of, value_or_false, IsSlotOf, AreTerms, AreSources, IsCopy, IsSlotSum}

-- ---- the loops
pub terms_none : (c : Content) (row : ℕ) (words : List ℕ) → AreTerms c row words words 0
terms_none c row words = record { long = refl; done = λ k lt. absurd (omega arith); left = λ k ge. refl }

pub terms_more : (c : Content) (row : ℕ) (old now next : List ℕ) (n : ℕ) (b : Bool) → AreTerms c row old now n → length next ≡ length now
    → ((j : ℕ) → bit_of next j ≡ cond (nat_eq j n) b (bit_of now j)) → b ≡ has (row_at c.rows row) n → AreTerms c row old next (n + 1)
terms_more c row old now next n b before long put is = record {
  long = long ∙ before.long;
  done = λ k lt.
      put k
      ∙ elim (cases_eq k n) [
        | inl e ↦ ap (λ t. cond t b (bit_of now k)) (eq-eqb k n e) ∙ is ∙ ap (has (row_at c.rows row)) (sym e)
        | inr ne ↦ ap (λ t. cond t b (bit_of now k)) (ne_eqb k n ne) ∙ before.done k (omega arith)
      ];
  left = λ k ge. put k ∙ ap (λ t. cond t b (bit_of now k)) (ne_eqb k n (λ e. omega arith)) ∙ before.left k (omega arith);
}

pub sources_none : (c : Content) (row : ℕ) (words : List ℕ) → AreSources c row words 0
sources_none c row words = record { done = λ k lt. absurd (omega arith) }

pub sources_more : (c : Content) (row : ℕ) (now next : List ℕ) (n : ℕ) (b : Bool) → AreSources c row now n
    → ((j : ℕ) → bit_of next j ≡ cond (nat_eq j n) b (bit_of now j)) → b ≡ get_or (row_at c.rows row).sources n false → AreSources c row next (n + 1)
sources_more c row now next n b before put is = record {
  done = λ k lt.
      put k
      ∙ elim (cases_eq k n) [
        | inl e ↦ ap (λ t. cond t b (bit_of now k)) (eq-eqb k n e) ∙ is ∙ ap (λ i. get_or (row_at c.rows row).sources i false) (sym e)
        | inr ne ↦ ap (λ t. cond t b (bit_of now k)) (ne_eqb k n ne) ∙ before.done k (omega arith)
      ];
}

swap_last : (s f r : Bool) → differ (differ s f) r ≡ differ (differ s r) f
swap_last true true true = refl
swap_last true true false = refl
swap_last true false true = refl
swap_last true false false = refl
swap_last false true true = refl
swap_last false true false = refl
swap_last false false true = refl
swap_last false false false = refl

pub sum_more : (slot : RowSlot) (held : List (Option Held)) (n : ℕ) (b : Bool) → IsSlotSum slot held n b
    → IsSlotSum slot held (n + 1) (differ b (bit_of slot.terms.items n && value_or_false (get_or held n None)))
sum_more slot held n b before =
    let f : ℕ → Bool = λ x. bit_of slot.terms.items x && value_or_false (get_or held x None) in
    ap (λ s. differ s slot.right)
    (ap odd_sum (map-range_with_len_more f 0 n n (omega arith)) ∙ parity-append (map f (range_with_len 0 n)) (f n ∷ [])
    ∙ ap (differ (odd_sum (map f (range_with_len 0 n)))) (differ_false (f n)))
    ∙ swap_last (odd_sum (map f (range_with_len 0 n))) (f n) slot.right ∙ ap (λ s. differ s (f n)) before

-- ---- the copy
pub copied : (c : Content) (row : ℕ) (naming : Naming) (old new : RowSlot) → IsOfGiven c → row < length c.rows → IsSlotOf c old → AreTerms c row old.terms.items new.terms.items c.vars
    → AreSources c row new.sources.items (length c.given) → length new.sources.items ≡ length old.sources.items → new.right ≡ (row_at c.rows row).right → new.naming ≡ Some naming
    → IsCopy c row naming new
copied c row naming old new of_given lt fits terms sources long right naming_is =
    let sized = of_given.long row lt in
    let ts : (row_at c.rows row).terms ≡ first_bits c.vars new.terms.items =
    fill_by_all (bit_of new.terms.items) (row_at c.rows row).terms c.vars false sized.0 (λ k small. sym (terms.done k small)) in
    let ss : (row_at c.rows row).sources ≡ first_bits (length c.given) new.sources.items =
    fill_by_all (bit_of new.sources.items) (row_at c.rows row).sources (length c.given) false sized.1 (λ k small. sym (sources.done k small)) in
    record {
      fits = record { terms = terms.long ∙ fits.terms; sources = long ∙ fits.sources; padded = λ k ge. terms.left k ge ∙ fits.padded k ge };
      naming_is = naming_is;
      row_is = λ i. record { terms = sym ts i; right = right i; sources = sym ss i };
    }

-- ---- the copy as a row over all variables
rise_range : (n a greatest : ℕ) → a + n ≤ greatest + 1 → AreRising a greatest (range_with_len a n)
rise_range zero a greatest le = tt
rise_range (suc n) a greatest le = (omega arith, omega arith, rise_range n (a + 1) greatest (omega arith))

place-all : (n x : ℕ) → x < n → place (range_with_len 1 n) (x + 1) ≡ x
place-all n x lt =
    let at : get_or (range_with_len 1 n) x 0 ≡ x + 1 = get_or-range_with_len 1 n x 0 lt ∙ (let e : 1 + x ≡ x + 1 = omega arith in e) in
    ap (place (range_with_len 1 n)) (sym at)
    ∙ place_found 1 (range_with_len 1 n) x (columns_rise 1 n (range_with_len 1 n) (rise_range n 1 n (omega arith))) (omega (arith, length-range_with_len 1 n))

pub slot_view : (c : Content) (slot : RowSlot) → c.vars ≤ MAX_VARIABLE → IsSlotOf c slot → IsView c.vars (range_with_len 1 c.vars) 0 slot.terms.items
slot_view c slot few fits = record {
  few = few;
  low = omega arith;
  rise = rise_range c.vars 1 c.vars (omega arith);
  room = let h = fits.terms in omega (arith, length-range_with_len 1 c.vars);
  padded = λ k ge. fits.padded k (omega (arith, length-range_with_len 1 c.vars));
}

pub slot_form : (c : Content) (slot : RowSlot) → viewed_form c.vars (range_with_len 1 c.vars) 0 slot.terms.items slot.right ≡ form (row_of c slot)
slot_form c slot =
    ap (λ ts. let e : Equation = record { terms = ts; right = slot.right } in form_of e)
    (range_same (λ x. bit_of slot.terms.items (0 + place (range_with_len 1 c.vars) (x + 1))) (bit_of slot.terms.items) 0 c.vars
    (λ x low high. ap (bit_of slot.terms.items) (let p = place-all c.vars x (omega arith) in omega arith)))

-- ---- lists of sources
sources-push : (words : List ℕ) (k : ℕ) → numbers_from 1 (first_bits (k + 1) words) ≡ numbers_from 1 (first_bits k words) ++ numbers_from (k + 1) (bit_of words k ∷ [])
sources-push words k =
    let e : 1 + k ≡ k + 1 = omega arith in
    ap (numbers_from 1) (map-range_with_len_more (bit_of words) 0 k k (omega arith))
    ∙ numbers-append 1 (first_bits k words) (bit_of words k ∷ [])
    ∙ ap (λ n. numbers_from 1 (first_bits k words) ++ numbers_from n (bit_of words k ∷ [])) (ap (λ n. 1 + n) (length-map-range_with_len (bit_of words) 0 k) ∙ e)

pub source_taken : (words : List ℕ) (k : ℕ) (ns : List ℕ) → ns ≡ numbers_from 1 (first_bits k words) → bit_of words k ≡ true
    → ns ++ (k + 1) ∷ [] ≡ numbers_from 1 (first_bits (k + 1) words)
source_taken words k ns is on = ap (λ xs. xs ++ (k + 1) ∷ []) is ∙ sym (sources-push words k ∙ ap (λ b. numbers_from 1 (first_bits k words) ++ numbers_from (k + 1) (b ∷ [])) on)

pub source_passed : (words : List ℕ) (k : ℕ) (ns : List ℕ) → ns ≡ numbers_from 1 (first_bits k words) → bit_of words k ≡ false
    → ns ≡ numbers_from 1 (first_bits (k + 1) words)
source_passed words k ns is off =
    is ∙ sym (sources-push words k ∙ ap (λ b. numbers_from 1 (first_bits k words) ++ numbers_from (k + 1) (b ∷ [])) off ∙ append-nil (numbers_from 1 (first_bits k words)))
