-- Grammars of steps that are spelled one after another, as relations between words and steps.
use Rattle.std.specs.Prelude.{◌≡◌, ◌≢◌, ℕ, ◌<◌, ℤ, pos, List, [], ◌∷◌, ◌++◌, map, flat_map, ⊤}
use Rattle.std.specs.List.{AllByRecursion}
use Rattle.cx_base.specs.declared.id_moves.IdMove.{IdMove}
use Rattle.cx_base.specs.Endings.{Ending, finished, bad_token, too_big, unterminated}
use Rattle.cx_texts.specs.Words.{Word, number, letter, conflict, Placed, words, IsWithin}

-- a part of a step's spelling
pub data Field : Type 0 where
  -- this letter
  mark : ℕ → Field
  -- this conflict line
  conflict_line : ℕ → Field
  -- a positive integer, or one that is not zero
  id : ℕ → Field
  integer : ℤ → Field
  -- the zero that ends a list
  end : Field
  -- positive integers up to a zero, or integers up to a zero
  ids : List ℕ → Field
  integers : List ℤ → Field
  -- pairs of positive integers, up to a zero
  pairs : List IdMove → Field

abbrev pub spelled_list : List ℤ → List Word
spelled_list zs = map number zs ++ number (pos 0) ∷ []

-- the two integers of a pair
abbrev pub both_ids : IdMove → List ℤ
both_ids m = pos m.from ∷ pos m.to ∷ []

abbrev pub spelled : Field → List Word
spelled (mark c) = letter c ∷ []
spelled (conflict_line k) = conflict k ∷ []
spelled (id n) = number (pos n) ∷ []
spelled (integer z) = number z ∷ []
spelled end = number (pos 0) ∷ []
spelled (ids ns) = spelled_list (map pos ns)
spelled (integers zs) = spelled_list zs
spelled (pairs ms) = spelled_list (flat_map both_ids ms)

-- ids are positive, and integers are not zero
abbrev pub IsProper : Field → Type 0
IsProper (mark c) = ⊤
IsProper (conflict_line k) = ⊤
IsProper (id n) = 0 < n
IsProper (integer z) = z ≢ pos 0
IsProper end = ⊤
IsProper (ids ns) = AllByRecursion (λ n. 0 < n) ns
IsProper (integers zs) = AllByRecursion (λ z. z ≢ pos 0) zs
IsProper (pairs ms) = AllByRecursion (λ m. (0 < m.from) × (0 < m.to)) ms

-- steps of a type S by their fields, and the greatest magnitude of a number
pub record Grammar (S : Type 0) : Type 1 where
  pub fields : S → List Field
  pub limit : ℕ

module _ {S : Type 0} (g : Grammar S) where
  abbrev pub spelling : S → List Word
  spelling s = flat_map spelled (g.fields s)

  -- the words are a step, the words begin a step
  abbrev pub IsStep : List Word → S → Type 0
  IsStep ws s = AllByRecursion IsProper (g.fields s) × (spelling s ≡ ws)

  abbrev pub Begins : List Word → Type 0
  Begins ws = (s : S) × (rest : List Word) × IsStep (ws ++ rest) s

  -- they begin a step and are none yet
  abbrev pub IsUnfinished : List Word → Type 0
  IsUnfinished ws = Begins ws × ((s : S) → ¬ IsStep ws s)

  -- the next word does not go on with the step
  abbrev pub Stops : List Word → List Placed → Type 0
  Stops ws [] = ⊤
  Stops ws (next ∷ rest) = ¬ Begins (ws ++ next.word ∷ [])

  -- no word goes on with the step
  abbrev pub IsClosed : S → Type 0
  IsClosed s = (ws : List Word) (next : Word) → IsStep ws s → ¬ Begins (ws ++ next ∷ [])

  abbrev pub AreInLimit : List Placed → Type 0
  AreInLimit placed = AllByRecursion (λ p. IsWithin g.limit p.word) placed

  -- the placed words are the step's spelling and then the rest
  pub record Spells (s : S) (placed rest : List Placed) : Type 0 where
    pub front : List Placed
    pub split : placed ≡ front ++ rest
    pub step : IsStep (words front) s
    pub within : AreInLimit front
    pub stops : Stops (words front) rest

  -- the first word that fits no step, or whose magnitude alone does not fit
  pub record FirstBad (placed : List Placed) (place : ℕ) : Type 0 where
    pub front : List Placed
    pub bad : Placed
    pub rest : List Placed
    pub split : placed ≡ front ++ bad ∷ rest
    pub at : place ≡ bad.place
    pub unfinished : IsUnfinished (words front)
    pub within : AreInLimit front
    pub fits_not : ¬ Begins (words front ++ bad.word ∷ [])

  pub record FirstBig (placed : List Placed) (place : ℕ) : Type 0 where
    pub front : List Placed
    pub big : Placed
    pub rest : List Placed
    pub split : placed ≡ front ++ big ∷ rest
    pub at : place ≡ big.place
    pub within : AreInLimit front
    pub fits : Begins (words front ++ big.word ∷ [])
    pub above : ¬ IsWithin g.limit big.word

module _ {S : Type 0} (g : Grammar S) (len : ℕ) where
  -- no step is read of these words: there are none, or the first offence is this one. len is the text's length.
  abbrev pub EndsAs : Ending → List Placed → Type 0
  EndsAs finished placed = placed ≡ []
  EndsAs (bad_token place) placed = FirstBad g placed place
  EndsAs (too_big place) placed = FirstBig g placed place
  EndsAs (unterminated place) placed = (place ≡ len) × (placed ≢ []) × IsUnfinished g (words placed) × AreInLimit g placed

  -- the words are these steps in order, and then the ending
  abbrev pub Reading : List Placed → List S → Ending → Type 0
  Reading placed [] ending = EndsAs ending placed
  Reading placed (s ∷ steps) ending = (rest : List Placed) × Spells g s placed rest × Reading rest steps ending
