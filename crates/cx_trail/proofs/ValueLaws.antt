-- A literal is true, false or unassigned, and no two of these; what is true stays true on a longer trail.
use Rattle.std.proofs.Common.{◌≡◌, ◌≢◌, ℕ, zero, suc, ◌<◌, ◌≤◌, List, [], ◌∷◌, ◌++◌, length, sym, ap, ◌∙◌, subst, refl, inl, inr, ◌⊎◌, ⊎_elim, arith}
use Rattle.std.proofs.lemmas.Bool.{cases_eq}
use Rattle.std.proofs.lemmas.List.{get_or_append_left, get_or_push, length-append}
use Rattle.cx_base.specs.Literals.{Literal, negate}
use Rattle.cx_base.proofs.LiteralLaws.{same_or_negated, apart_from_negation}
use Rattle.cx_trail.specs.declared.entry.Entry.{Entry}
use Rattle.cx_trail.specs.declared.entry.Reason.{Reason}
use Rattle.cx_trail.specs.Sequence.{TrailState, IsTrail, IsTrueIn, IsFalseIn, IsOpenIn, IsAssignedIn, IsTrueBy, entry_at, no_entry, pushed}

-- ---- no two of the three
pub not_both : (t : TrailState) (l : Literal) → IsTrail t → IsTrueIn t.entries l → IsFalseIn t.entries l → ⊥
not_both t l k (i, (hi, ei)) (j, (hj, ej)) =
    let same : i ≡ j = k.distinct i j hi hj (ap (λ (x : Literal). x.variable) ei ∙ sym (ap (λ (x : Literal). x.variable) ej)) in
    apart_from_negation l (sym ei ∙ ap (λ x. (entry_at t.entries x).literal) same ∙ ej)

pub open_not_false : (entries : List Entry) (l : Literal) → IsOpenIn entries l.variable → IsFalseIn entries l → ⊥
open_not_false entries l o (i, (h, e)) = o i h (ap (λ (x : Literal). x.variable) e)

pub open_not_true : (entries : List Entry) (l : Literal) → IsOpenIn entries l.variable → IsTrueIn entries l → ⊥
open_not_true entries l o (i, (h, e)) = o i h (ap (λ (x : Literal). x.variable) e)

-- ---- one of the three
up_to : (entries : List Entry) (v n : ℕ) → ((i : ℕ) → i < n → (entry_at entries i).literal.variable ≢ v) ⊎ ((i : ℕ) × (i < n) × ((entry_at entries i).literal.variable ≡ v))
up_to entries v zero = inl (λ i h e. omega arith)
up_to entries v (suc n) = ⊎_elim
    (λ (f : (i : ℕ) → i < n → (entry_at entries i).literal.variable ≢ v). ⊎_elim
    (λ (e : (entry_at entries n).literal.variable ≡ v). inr (n, omega arith, e))
    (λ (ne : (entry_at entries n).literal.variable ≢ v). inl (λ i h. ⊎_elim (λ (q : i ≡ n). subst (λ x. (entry_at entries x).literal.variable ≢ v) (sym q) ne) (λ (q : i ≢ n). f i (omega arith)) (cases_eq i n)))
    (cases_eq ((entry_at entries n).literal.variable) v))
    (λ (w : (i : ℕ) × (i < n) × ((entry_at entries i).literal.variable ≡ v)). inr (w.0, omega (arith, w.1), w.2))
    (up_to entries v n)

pub open_or_assigned : (entries : List Entry) (v : ℕ) → IsOpenIn entries v ⊎ IsAssignedIn entries v
open_or_assigned entries v = up_to entries v (length entries)

pub truth_cases : (entries : List Entry) (l : Literal) → IsOpenIn entries l.variable ⊎ (IsTrueIn entries l ⊎ IsFalseIn entries l)
truth_cases entries l = ⊎_elim (λ (o : IsOpenIn entries l.variable). inl o)
    (λ (w : IsAssignedIn entries l.variable).
    let m = (entry_at entries w.0).literal in
    inr (⊎_elim (λ (e : m ≡ l). inl (w.0, (w.1, e))) (λ (e : m ≡ negate l). inr (w.0, (w.1, e))) (same_or_negated m l w.2)))
    (open_or_assigned entries l.variable)

-- ---- a longer trail
pub entry_kept : (entries more : List Entry) (i : ℕ) → i < length entries → entry_at (entries ++ more) i ≡ entry_at entries i
entry_kept entries more i h = get_or_append_left entries more no_entry i h

pub true_kept : (entries more : List Entry) (l : Literal) → IsTrueIn entries l → IsTrueIn (entries ++ more) l
true_kept entries more l (i, (h, e)) = (i, (omega (arith, length-append entries more), ap (λ (x : Entry). x.literal) (entry_kept entries more i h) ∙ e))

pub true_by_kept : (k : ℕ) (entries more : List Entry) (l : Literal) → IsTrueBy k entries l → IsTrueBy k (entries ++ more) l
true_by_kept k entries more l (i, h, e, q) =
    let same = entry_kept entries more i h in
    (i, omega (arith, length-append entries more), ap (λ (x : Entry). x.literal) same ∙ e, subst (λ (x : Entry). x.level ≤ k) (sym same) q)

pub true_from_by : (k : ℕ) (entries : List Entry) (l : Literal) → IsTrueBy k entries l → IsTrueIn entries l
true_from_by k entries l (i, h, e, q) = (i, (h, e))

pub true_pushed : (t new : TrailState) (level : ℕ) (l : Literal) (reason : Reason) → new ≡ pushed t level l reason → IsTrueIn new.entries l
true_pushed t new level l reason e =
    let it : Entry = record { literal = l; level = level; reason = reason } in
    let grown : new.entries ≡ t.entries ++ it ∷ [] = ap (λ (x : TrailState). x.entries) e in
    (length t.entries, (omega (arith, ap length grown, length-append t.entries (it ∷ [])), ap (λ (xs : List Entry). (entry_at xs (length t.entries)).literal) grown ∙ ap (λ (x : Entry). x.literal) (get_or_push t.entries it no_entry (length t.entries) refl)))
