-- The heads of packed steps.
use Rattle.std.specs.Prelude.{ℕ, ◌+◌, ◌*◌, ◌/◌, ◌%◌, Bool, true, false, nat_eq, if◌then◌else◌}
use Rattle.proof_trim.specs.declared.head.StepKind.{StepKind}
use Rattle.proof_trim.specs.declared.head.StepKind.TheVariants as kind

abbrev pub code_of : StepKind → ℕ
code_of kind.Clause = 0
code_of kind.DeleteClauses = 1
code_of kind.Parity = 2
code_of kind.DeleteParities = 3
code_of kind.ClauseOfParity = 4
code_of kind.ParityOfClauses = 5

abbrev pub kind_of : ℕ → StepKind
kind_of n =
    if nat_eq n 0 then kind.Clause
    else (if nat_eq n 1 then kind.DeleteClauses
    else (if nat_eq n 2 then kind.Parity
    else (if nat_eq n 3 then kind.DeleteParities
    else (if nat_eq n 4 then kind.ClauseOfParity
    else kind.ParityOfClauses))))

-- a step of this kind deletes
abbrev pub deletes : StepKind → Bool
deletes kind.Clause = false
deletes kind.DeleteClauses = true
deletes kind.Parity = false
deletes kind.DeleteParities = true
deletes kind.ClauseOfParity = false
deletes kind.ParityOfClauses = false

-- a step's kind, and how many literals it has, as one number
abbrev pub head_of : StepKind → ℕ → ℕ
head_of k literals = literals * 8 + code_of k

-- the kind of such a head
abbrev pub kind_in : ℕ → StepKind
kind_in head = kind_of (head % 8)

-- how many literals such a head tells
abbrev pub literals_in : ℕ → ℕ
literals_in head = head / 8
