-- The reading of a formula's body, one word at a time.
use Rattle.std.specs.Prelude.{◌≡◌, ℕ, zero, suc, ℤ, pos, negsuc, List, [], ◌∷◌, ◌++◌, nat_lt, if◌then◌else◌, ◌==◌, ⊤}
use Rattle.cx_base.specs.Drafts.{Draft}
use Rattle.cx_base.specs.Literals.{Literal}
use Rattle.cx_base.specs.declared.literal.TheConstants.{MAX_VARIABLE}
use Rattle.cx_base.specs.declared.constraint.Constraint.{Constraint}
use Rattle.cx_base.specs.declared.constraint.Constraint.TheVariants as constraint
use Rattle.cx_base.specs.Integers.{literal}
use Rattle.cx_texts.specs.Words.{Word, number, letter, conflict, other, Placed}
use Rattle.cx_base.specs.Endings.{Ending, finished, bad_token, too_big, unterminated}
use Rattle.cnfx_reader.specs.declared.pending.Pending.{Pending}
use Rattle.cnfx_reader.specs.declared.pending.Pending.TheVariants.{Nothing, Clause, Parity, Assume}
use Rattle.cnfx_reader.specs.declared.refusal.ReadRefusal.{ReadRefusal}
use Rattle.cnfx_reader.specs.declared.refusal.ReadRefusal.TheVariants.{NoHeader, BadHeader, BadToken, Unterminated, VarLimit, Memory}

-- the constraints of a body and its ending
pub record Outcome : Type 0 where
  pub constraints : List Constraint
  pub ending : Ending

-- a word leaves a constraint pending or not, with what is made so far, or ends the reading
pub data Step : Type 0 where
  goes_on : Pending → Draft → Step
  stops : Ending → Step

abbrev pub closed_as : Pending → List Literal → Constraint
closed_as Nothing lits = constraint.Clause lits
closed_as Clause lits = constraint.Clause lits
closed_as Parity lits = constraint.Parity lits
closed_as Assume lits = constraint.Assume lits

abbrev pub closed : Pending → Draft → Draft
closed state d = record { constraints = d.constraints ++ closed_as state d.unfinished ∷ []; unfinished = [] }

abbrev pub with_literal : Draft → Literal → Draft
with_literal d l = record { constraints = d.constraints; unfinished = d.unfinished ++ l ∷ [] }

-- a literal opens a clause where nothing is pending
abbrev pub opened : Pending → Pending
opened Nothing = Clause
opened Clause = Clause
opened Parity = Parity
opened Assume = Assume

abbrev pub at_literal : ℕ → Pending → Draft → ℕ → ℤ → Step
at_literal place state d n z = if nat_lt MAX_VARIABLE n then stops (too_big place) else goes_on (opened state) (with_literal d (literal z))

abbrev pub at_integer : ℕ → Pending → Draft → ℤ → Step
at_integer place state d (pos zero) = goes_on Nothing (closed state d)
at_integer place state d (pos (suc n)) = at_literal place state d (suc n) (pos (suc n))
at_integer place state d (negsuc n) = at_literal place state d (suc n) (negsuc n)

-- where nothing is pending an `x` opens a parity, and an `a` an assumption constraint
abbrev pub at_letter : ℕ → Pending → Draft → ℕ → Step
at_letter place Nothing d c = if c == 120 then goes_on Parity d else (if c == 97 then goes_on Assume d else stops (bad_token place))
at_letter place Clause d c = stops (bad_token place)
at_letter place Parity d c = stops (bad_token place)
at_letter place Assume d c = stops (bad_token place)

abbrev pub at_word : ℕ → Pending → Draft → Word → Step
at_word place state d (number z) = at_integer place state d z
at_word place state d (letter c) = at_letter place state d c
at_word place state d (conflict k) = stops (bad_token place)
at_word place state d other = stops (bad_token place)

-- the end of the text, whose length is len
abbrev pub at_end : ℕ → Pending → Ending
at_end len Nothing = finished
at_end len Clause = unterminated len
at_end len Parity = unterminated len
at_end len Assume = unterminated len

-- the words that are left, read from here on
abbrev pub outcome : ℕ → Pending → Draft → List Placed → Outcome
outcome len state d [] = record { constraints = d.constraints; ending = at_end len state }
outcome len state d (p ∷ ps) = elim (at_word p.place state d p.word) [ goes_on o e ↦ outcome len o e ps | stops ending ↦ record { constraints = d.constraints; ending = ending } ]

-- where nothing is pending there are no literals of an unfinished constraint
abbrev pub IsPendingIn : Pending → Draft → Type 0
IsPendingIn Nothing d = d.unfinished ≡ []
IsPendingIn Clause d = ⊤
IsPendingIn Parity d = ⊤
IsPendingIn Assume d = ⊤

-- a refusal says the ending; out of memory says nothing of it
abbrev pub IsEndedBy : ReadRefusal → Ending → Type 0
IsEndedBy (NoHeader place) ending = ⊥
IsEndedBy (BadHeader place) ending = ⊥
IsEndedBy (BadToken place) ending = ending ≡ bad_token place
IsEndedBy (Unterminated place) ending = ending ≡ unterminated place
IsEndedBy (VarLimit place) ending = ending ≡ too_big place
IsEndedBy Memory ending = ⊤
