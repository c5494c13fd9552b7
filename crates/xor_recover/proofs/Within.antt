-- The clauses of a formula have variables of the range, and so have the rows that are kept.
use Rattle.std.proofs.Common.{◌≡◌, sym, ℕ, suc, ◌<◌, ◌≤◌, List, [], ◌∷◌, length, arith, get_or, map, drop, take, ap, refl, ◌∙◌, ◌-◌, Some}
use Rattle.std.specs.List.{AllByRecursion, Contains, All}
use Rattle.cx_base.specs.Literals.{Literal}
use Rattle.cx_base.specs.Problem.{AreWithin, IsWithinVariables, literals_of, clauses_of}
use Rattle.cx_base.specs.declared.literal.TheConstants.{MAX_VARIABLE}
use Rattle.cx_base.specs.declared.constraint.Constraint.{Constraint}
use Rattle.cx_base.specs.declared.constraint.Constraint.TheVariants.{Clause, Parity, Assume}
use Rattle.cx_base.proofs.Elements.{in_head, in_tail}
use Rattle.xor_recover.specs.Rows.{Row, rows_of, IsProper}
use Rattle.std.proofs.Math.Seq.{drop-cons}
use Rattle.std.proofs.lemmas.List.{drop-map}
use Rattle.std.proofs.lemmas.List.Elements.{All-from_recursion}
use Rattle.xor_recover.specs.declared.entry.ClauseEntry.{ClauseEntry}
use Rattle.xor_recover.specs.Entries.{row_of}
use Rattle.xor_recover.specs.Groups.{group_of, needed}
use Rattle.xor_recover.proofs.Kept.{AreKept}
use Rattle.xor_recover.proofs.GroupLaws.{group_first}
use Rattle.xor_recover.proofs.Numbers.{AllWithin, proper}

pub widened : (n : ℕ) (lits : List Literal) → n ≤ MAX_VARIABLE → AreWithin n lits → AreWithin MAX_VARIABLE lits
widened n [] few h = tt
widened n (l ∷ lits) few h = ((h.0.0, let high = h.0.1 in omega arith), widened n lits few h.1)

clauses_within : (n : ℕ) (cs : List Constraint) → n ≤ MAX_VARIABLE → AllByRecursion (λ c. AreWithin n (literals_of c)) cs → AllWithin (clauses_of cs)
unfolding clauses_of
clauses_within n [] few h = tt
clauses_within n (Clause lits ∷ cs) few h = (widened n lits few h.0, clauses_within n cs few h.1)
clauses_within n (Parity lits ∷ cs) few h = clauses_within n cs few h.1
clauses_within n (Assume lits ∷ cs) few h = clauses_within n cs few h.1

pub formula_within : (n : ℕ) (cs : List Constraint) → IsWithinVariables n cs → AllWithin (clauses_of cs)
formula_within n cs h = clauses_within n cs h.0 h.1

pub all_by_contains : (P : Row → Type 0) (xs : List Row) → ((x : Row) → Contains xs x → P x) → AllByRecursion P xs
all_by_contains P [] h = tt
all_by_contains P (x ∷ xs) h = (h x (in_head x xs), all_by_contains P xs (λ y c. h y (in_tail x xs y c)))

pub kept_proper : (C : List (List Literal)) (kept : List Row) → AllWithin C → AreKept (rows_of 1 C) kept → AllByRecursion IsProper kept
kept_proper C kept within firsts = all_by_contains IsProper kept (λ x c. (proper C 1 within x (firsts.from x c)).0)

pub all_entries : (es : List ClauseEntry) → AllByRecursion IsProper (map row_of es) → All (λ (e : ClauseEntry). IsProper (row_of e)) es
all_entries es h = All-from_recursion (λ (e : ClauseEntry). IsProper (row_of e)) es (go es h)
  where
    go : (es : List ClauseEntry) → AllByRecursion IsProper (map row_of es) → AllByRecursion (λ (e : ClauseEntry). IsProper (row_of e)) es
    go [] h = tt
    go (e ∷ es) h = (h.0, go es h.1)

pub numbers_of : (es : List ClauseEntry) → map (λ (e : ClauseEntry). e.number) es ≡ map (λ (x : Row). x.number) (map row_of es)
numbers_of [] = refl
numbers_of (e ∷ es) = ap (λ ns. e.number ∷ ns) (numbers_of es)

-- the group at a place begins with its row
pub group_begins : (es : List ClauseEntry) (start : ℕ) (d : ClauseEntry) (g : List Row) → start < length es → IsProper (row_of (get_or es start d)) → group_of (drop start (map row_of es)) ≡ Some g
    → g ≡ row_of (get_or es start d) ∷ take (needed (row_of (get_or es start d)) - 1) (map row_of (drop (suc start) es))
group_begins es start d g lt p h =
    group_first (row_of (get_or es start d)) (map row_of (drop (suc start) es)) g p (sym (ap group_of (drop-map row_of start es ∙ ap (map row_of) (drop-cons es start d lt))) ∙ h)
