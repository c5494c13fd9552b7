-- A clause's literals, put to their places one after the other.
use Rattle.std.proofs.Common.{◌≡◌, ℕ, ◌+◌, ◌<◌, ◌≤◌, List, [], length, drop, get_or, Option, Some, None, sym, ap, ◌∙◌}
use Rattle.std.proofs.lemmas.List.{drop_more}
use Rattle.cx_base.specs.Literals.{Literal}
use Rattle.xor_recover.specs.Rows.{inserted, placed, and_place, gathered}
use Rattle.xor_recover.proofs.Normal.{placed_is}

-- the next literal is put to its place
place_next : (lits old : List Literal) (i : ℕ) (l : Literal) (next : Option (List Literal)) → i < length lits → l ≡ get_or lits i l → placed l old ≡ next
    → gathered [] lits ≡ gathered old (drop i lits) → gathered [] lits ≡ and_place next (λ more. gathered more (drop (i + 1) lits))
place_next lits old i l next lt is placed_to before =
    before
    ∙ ap (gathered old) (drop_more lits i l lt)
    ∙ ap (λ x. and_place (placed x old) (λ more. gathered more (drop (i + 1) lits))) (sym is)
    ∙ ap (λ o. and_place o (λ more. gathered more (drop (i + 1) lits))) placed_to

pub place_more : (lits old new : List Literal) (i : ℕ) (l : Literal) → i < length lits → l ≡ get_or lits i l → placed l old ≡ Some new
    → gathered [] lits ≡ gathered old (drop i lits) → gathered [] lits ≡ gathered new (drop (i + 1) lits)
place_more lits old new i l lt is put before = place_next lits old i l (Some new) lt is put before

pub place_none : (lits old : List Literal) (i : ℕ) (l : Literal) → i < length lits → l ≡ get_or lits i l → placed l old ≡ None
    → gathered [] lits ≡ gathered old (drop i lits) → gathered [] lits ≡ None
place_none lits old i l lt is none before = place_next lits old i l None lt is none before

pub placed_short : (l : Literal) (old new : List Literal) → placed l old ≡ Some new → length new ≤ 6
placed_short l old new put = (placed_is (inserted l old) new put).1
