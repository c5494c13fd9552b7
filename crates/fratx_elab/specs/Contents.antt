-- Numbers of constraints by what these say.
use Rattle.std.specs.Prelude.{◌≡◌, ◌<◌, ◌≤◌, ◌+◌, ◌-◌, ℕ, List, length, get_or, slice_get, Some}
use Rattle.std.specs.List.{All, Contains}
use Rattle.std.specs.List.Sorted.{IsPermutation, IsSorted}
use Rattle.std.specs.Ordering.{nat_cmp, ordering_then}
use Rattle.std.specs.declared.cmp.Ordering.{Ordering}
use Rattle.std.specs.Cmp.Lexicographic.{slice_cmp}
use Rattle.cx_base.specs.Literals.{Literal}
use Rattle.cx_base.specs.Problem.{Problem, clauses_of, parities_of}
use Rattle.proof_rules.specs.Contents.{IsClauseContent, IsParityContent}
use Rattle.fratx_elab.specs.declared.content_index.ContentEntry.{ContentEntry}
use Rattle.fratx_elab.specs.declared.content_index.ContentIndex.{ContentIndex}
use Rattle.fratx_elab.specs.declared.originals.Originals.{Originals}

-- it has the first two numbers of its content, zeros where this has fewer
pub record HasFront (e : ContentEntry) : Type 0 where
  pub first : e.first ≡ get_or e.content.items 0 0
  pub second : e.second ≡ get_or e.content.items 1 0

-- by the first two numbers, by all that is said, and then by the number
abbrev pub by_content : ContentEntry → ContentEntry → Ordering
by_content x y =
    ordering_then (nat_cmp x.first y.first) (ordering_then (nat_cmp x.second y.second)
    (ordering_then (slice_cmp nat_cmp x.content.items y.content.items) (nat_cmp x.number y.number)))

-- of the entries, the one of this number says this, and none of a lower number does
pub record IsLeastOf (entries : List ContentEntry) (content : List ℕ) (number : ℕ) : Type 0 where
  pub it : ContentEntry
  pub among : Contains entries it
  pub says : it.content.items ≡ content
  pub numbered : it.number ≡ number
  pub least : (e : ContentEntry) → Contains entries e → e.content.items ≡ content → number ≤ e.number

abbrev pub IsNowhere : List ContentEntry → List ℕ → Type 0
IsNowhere entries content = (e : ContentEntry) → Contains entries e → ¬ (e.content.items ≡ content)

-- at the number of each of the first so many entries is the least number of one that says the same
abbrev pub LeastBefore : ℕ → List ContentEntry → List ℕ → Type 0
LeastBefore count entries firsts = (i : ℕ) (d : ContentEntry) → i < count → IsLeastOf entries (get_or entries i d).content.items (get_or firsts ((get_or entries i d).number - 1) 0)

-- the numbers are some of 1, 2, .. up to the bound
abbrev pub NumbersWithin : ℕ → List ContentEntry → Type 0
NumbersWithin bound entries = (i : ℕ) (d : ContentEntry) → i < length entries → (1 ≤ (get_or entries i d).number) × ((get_or entries i d).number ≤ bound)

-- no two entries have one number
abbrev pub EachOnce : List ContentEntry → Type 0
EachOnce entries = (i j : ℕ) (d : ContentEntry) → i < length entries → j < length entries → (get_or entries i d).number ≡ (get_or entries j d).number → get_or entries i d ≡ get_or entries j d

-- the numbers are 1, 2, ..
abbrev pub AreNumbered : List ContentEntry → Type 0
AreNumbered entries = (i : ℕ) (d : ContentEntry) → i < length entries → (get_or entries i d).number ≡ i + 1

-- the index has these entries, in order, and of each what is the least number of one that says the same
pub record Orders (entries : List ContentEntry) (index : ContentIndex) : Type 0 where
  pub same : IsPermutation entries index.entries.items
  pub sorted : IsSorted by_content index.entries.items
  pub count : length index.firsts.items ≡ length entries
  pub firsts : (i : ℕ) (d : ContentEntry) → i < length entries → IsLeastOf entries (get_or entries i d).content.items (get_or index.firsts.items i 0)

-- the entries say what the first so many lists say
abbrev pub SayFirst : (List Literal → List ℕ → Type 0) → List (List Literal) → List ContentEntry → Type 0
SayFirst HasContent lists entries = (i : ℕ) (lits : List Literal) (d : ContentEntry) → i < length entries → slice_get lists i ≡ Some lits → HasContent lits (get_or entries i d).content.items

-- they say what all of them say
pub record Say (HasContent : List Literal → List ℕ → Type 0) (lists : List (List Literal)) (entries : List ContentEntry) : Type 0 where
  pub count : length entries ≡ length lists
  pub each : SayFirst HasContent lists entries

-- an index of the lists by what they say
pub record IsIndexOf (HasContent : List Literal → List ℕ → Type 0) (lists : List (List Literal)) (index : ContentIndex) : Type 0 where
  pub entries : List ContentEntry
  pub fronts : All HasFront entries
  pub numbered : AreNumbered entries
  pub say : Say HasContent lists entries
  pub orders : Orders entries index

-- the numbers are those of the formula's clauses and of its parities
pub record StandsFor (originals : Originals) (formula : Problem) : Type 0 where
  pub clauses : IsIndexOf IsClauseContent (clauses_of formula.constraints) originals.clauses
  pub parities : IsIndexOf IsParityContent (parities_of formula.constraints) originals.parities
