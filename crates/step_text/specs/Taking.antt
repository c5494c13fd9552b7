-- Parts of a step that are taken from a text's words, and how the words refuse what must follow.
use Rattle.std.specs.Prelude.{◌≡◌, ℕ, List, [], ◌∷◌, ◌++◌, flat_map, ⊤, Result, MatchResult, Option, MatchOption}
use Rattle.std.specs.List.{AllByRecursion}
use Rattle.cx_texts.specs.Words.{Placed, words, IsWithin}
use Rattle.cx_base.specs.declared.id_moves.IdMove.{IdMove}
use Rattle.cx_texts.specs.Grammar.{Field, id, end, spelled, IsProper}
use Rattle.cx_texts.proofs.Shapes.{Kind, Move, closes, stays, opens, refuses, move}
use Rattle.cx_texts.proofs.Remaining.{after_word, remaining}
use Rattle.step_text.specs.declared.source.TextRefusal.{TextRefusal}
use Rattle.step_text.specs.declared.source.TextRefusal.TheVariants.{BadToken, Unterminated, TooBig, TooLong, Memory, Failed}
use Rattle.step_text.specs.Seen.{limit}

-- each number's magnitude is within the limit
abbrev pub AreSmall : List Placed → Type 0
AreSmall placed = AllByRecursion (λ p. IsWithin limit p.word) placed

-- the words are the fields' spelling and then the rest
pub record Takes (fields : List Field) (placed rest : List Placed) : Type 0 where
  pub front : List Placed
  pub split : placed ≡ front ++ rest
  pub proper : AllByRecursion IsProper fields
  pub spells : flat_map spelled fields ≡ words front
  pub within : AreSmall front

-- the ids of some pairs
abbrev pub fields_of_pair : IdMove → List Field
fields_of_pair m = id m.from ∷ id m.to ∷ []

abbrev pub fields_of_pairs : List IdMove → List Field
fields_of_pairs moves = flat_map fields_of_pair moves

abbrev pub IsFit : Move → Type 0
IsFit (closes f) = ⊤
IsFit (stays z) = ⊤
IsFit (opens n) = ⊤
IsFit refuses = ⊥

-- the first word is none that a field of this kind can begin with, or it is too big, or there is none
abbrev pub HeadFails : Kind → ℕ → TextRefusal → List Placed → Type 0
HeadFails k size (BadToken place) placed = (p : Placed) × (rest : List Placed) × (placed ≡ p ∷ rest) × (place ≡ p.place) × (move k p.word ≡ refuses)
HeadFails k size (TooBig place) placed = (p : Placed) × (rest : List Placed) × (placed ≡ p ∷ rest) × (place ≡ p.place) × IsFit (move k p.word) × (¬ IsWithin limit p.word)
HeadFails k size (Unterminated place) placed = (placed ≡ []) × (place ≡ size)
HeadFails k size TooLong placed = ⊥
HeadFails k size Memory placed = ⊥
HeadFails k size Failed placed = ⊥

-- some kind of field may follow
abbrev pub MayGoOn : List (List Kind) → Type 0
MayGoOn [] = ⊥
MayGoOn ([] ∷ rows) = ⊥
MayGoOn ((k ∷ ks) ∷ rows) = ⊤

-- Before the words the lists of kinds `rows` may follow.
module _ (rows : List (List Kind)) where
  -- the first word that does not fit
  pub record BadIn (placed : List Placed) (place : ℕ) : Type 0 where
    pub front : List Placed
    pub bad : Placed
    pub rest : List Placed
    pub split : placed ≡ front ++ bad ∷ rest
    pub at : place ≡ bad.place
    pub unfinished : MayGoOn (remaining rows (words front))
    pub within : AreSmall front
    pub fits_not : flat_map (after_word bad.word) (remaining rows (words front)) ≡ []

  -- the first word whose magnitude alone does not fit
  pub record BigIn (placed : List Placed) (place : ℕ) : Type 0 where
    pub front : List Placed
    pub big : Placed
    pub rest : List Placed
    pub split : placed ≡ front ++ big ∷ rest
    pub at : place ≡ big.place
    pub within : AreSmall front
    pub fits : (row : List Kind) × (more : List (List Kind)) × (flat_map (after_word big.word) (remaining rows (words front)) ≡ row ∷ more)
    pub above : ¬ IsWithin limit big.word

  -- the words refuse to go on so; out of memory says nothing of them
  abbrev pub RefusedIn : ℕ → TextRefusal → List Placed → Type 0
  RefusedIn size (BadToken place) placed = BadIn placed place
  RefusedIn size (TooBig place) placed = BigIn placed place
  RefusedIn size (Unterminated place) placed = (place ≡ size) × MayGoOn (remaining rows (words placed)) × AreSmall placed
  RefusedIn size TooLong placed = ⊥
  RefusedIn size Memory placed = ⊤
  RefusedIn size Failed placed = ⊥

-- one word is a field
abbrev pub TakesOne : {T : Type 0} → (T → Field) → Kind → ℕ → List Placed → Result T TextRefusal → List Placed → Type 0
TakesOne field k size old result new = MatchResult result (λ v. Takes (field v ∷ []) old new) (λ r. HeadFails k size r old)

-- one word is a member of a list, or the zero that ends it
abbrev pub TakesMember : {T : Type 0} → (T → Field) → Kind → ℕ → List Placed → Result (Option T) TextRefusal → List Placed → Type 0
TakesMember field k size old result new =
    MatchResult result (λ o. MatchOption o (Takes (end ∷ []) old new) (λ v. Takes (field v ∷ []) old new)) (λ r. HeadFails k size r old)

-- some words are these fields, whatever may follow
abbrev pub TakesAll : {T : Type 0} → (T → List Field) → List Kind → ℕ → List Placed → Result T TextRefusal → List Placed → Type 0
TakesAll fields kinds size old result new =
    MatchResult result (λ v. Takes (fields v) old new) (λ r. (ks : List Kind) → RefusedIn ((kinds ++ ks) ∷ []) size r old)
