-- The rows of a run's clauses and of the parities that start alike, one parity after the other.
use Rattle.std.proofs.Common.{◌≡◌, ℕ, ◌+◌, ◌<◌, List, [], ◌∷◌, ◌++◌, length, get_or, take, sym, ap, ◌∙◌, append_assoc}
use Rattle.std.proofs.lemmas.List.{append-nil}
use Rattle.std.proofs.lemmas.List.Concat.{flat_map-append}
use Rattle.cx_base.specs.Literals.{Literal}
use Rattle.xor_recover.specs.declared.starts.Start.{Start}
use Rattle.xor_recover.specs.declared.wholes.Whole.{Whole}
use Rattle.xor_recover.specs.Rows.{Row}
use Rattle.xor_recover.specs.Starts.{rows_at}
use Rattle.xor_recover.specs.Wholes.{starts_of, starts_of_all}
use Rattle.xor_recover.proofs.StartRows.{rows_at-append, take_more}

pub wholes_none : (C : List (List Literal)) (run : List Start) (old new : List Row) → old ≡ [] → new ≡ old ++ rows_at C run → new ≡ rows_at C (run ++ [])
wholes_none C run old new none is = is ∙ ap (λ (rs : List Row). rs ++ rows_at C run) none ∙ ap (rows_at C) (sym (append-nil run))

pub wholes_more : (C : List (List Literal)) (run : List Start) (wholes : List Whole) (k : ℕ) (w : Whole) (old new : List Row) → k < length wholes → w ≡ get_or wholes k w
    → old ≡ rows_at C (run ++ starts_of_all (take k wholes)) → new ≡ old ++ rows_at C (starts_of w) → new ≡ rows_at C (run ++ starts_of_all (take (k + 1) wholes))
wholes_more C run wholes k w old new lt is before added =
    let so = starts_of_all (take k wholes) in
    let tail : starts_of_all (take (k + 1) wholes) ≡ so ++ starts_of w =
    ap starts_of_all (take_more wholes k w lt is) ∙ flat_map-append starts_of (take k wholes) (w ∷ []) ∙ ap (λ (ss : List Start). so ++ ss) (append-nil (starts_of w)) in
    added
    ∙ ap (λ (rs : List Row). rs ++ rows_at C (starts_of w)) before
    ∙ sym (rows_at-append C (run ++ so) (starts_of w))
    ∙ ap (rows_at C) (append_assoc run so (starts_of w) ∙ ap (λ (ss : List Start). run ++ ss) (sym tail))
