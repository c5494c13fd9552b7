-- Arguments without default values, and one that has some.
use Rattle.std.proofs.Common.{◌≡◌, Bool, List, [], ◌∷◌, ◌++◌, false, true, refl, if◌then◌else◌, fold, ap, ◌∙◌}
use Rattle.std.proofs.Math.Bool.{or-true}
use Rattle.clap.specs.Walk.{Row, Rule, has_row, with_default}
use Rattle.clap.specs.Faults.{default_fault, defaults_fault}

abbrev pub Defaultless : List Rule → Type 0
Defaultless [] = Unit {0}
Defaultless (a ∷ rest) = (a.defaults ≡ []) × Defaultless rest

pub if_same : {X : Type 0} (b : Bool) (x : X) → (if b then x else x) ≡ x
if_same true x = refl
if_same false x = refl

keeps : (rows : List Row) (a : Rule) → a.defaults ≡ [] → with_default rows a ≡ rows
keeps rows a none = rw (none, if_same (has_row a.id rows) rows) refl

pub same_rows : (rules : List Rule) (rows : List Row) → Defaultless rules → fold with_default rows rules ≡ rows
same_rows [] rows none = refl
same_rows (a ∷ rest) rows none = ap (λ (r : List Row). fold with_default r rest) (keeps rows a none.0) ∙ same_rows rest rows none.1

pub no_fault : (rules : List Rule) (rows : List Row) → Defaultless rules → defaults_fault rows rules ≡ []
unfolding defaults_fault
no_fault [] rows none = refl
no_fault (a ∷ rest) rows none = rw (none.0, or-true (has_row a.id rows), if_same (has_row a.id rows) rows, no_fault rest rows none.1) refl

-- one argument among those without default values
pub filled_at : (before : List Rule) (a : Rule) (after : List Rule) (rows : List Row) → Defaultless before → Defaultless after
    → fold with_default rows (before ++ a ∷ after) ≡ with_default rows a
filled_at [] a after rows none others = same_rows after (with_default rows a) others
filled_at (x ∷ xs) a after rows none others =
    ap (λ (r : List Row). fold with_default r (xs ++ a ∷ after)) (keeps rows x none.0) ∙ filled_at xs a after rows none.1 others

pub fine_at : (before : List Rule) (a : Rule) (after : List Rule) (rows : List Row) → Defaultless before → Defaultless after → default_fault rows a ≡ []
    → defaults_fault rows (before ++ a ∷ after) ≡ []
unfolding defaults_fault
fine_at [] a after rows none others fine = rw (fine, no_fault after (with_default rows a) others) refl
fine_at (x ∷ xs) a after rows none others fine =
    rw (none.0, or-true (has_row x.id rows), if_same (has_row x.id rows) rows, fine_at xs a after rows none.1 others fine) refl
