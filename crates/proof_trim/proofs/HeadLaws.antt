-- The heads of packed steps, and back.
use Rattle.std.proofs.Common.{◌≡◌, refl, ap, ◌∙◌, ℕ, ◌<◌, arith}
use Rattle.std.proofs.lemmas.Nat.{div-mul-add, mod-mul-add}
use Rattle.proof_trim.specs.declared.head.StepKind.{StepKind}
use Rattle.proof_trim.specs.declared.head.StepKind.TheVariants as kind
use Rattle.proof_trim.specs.Heads.{code_of, kind_of, head_of, kind_in, literals_in}

code_below : (k : StepKind) → code_of k < 8
code_below kind.Clause = omega arith
code_below kind.DeleteClauses = omega arith
code_below kind.Parity = omega arith
code_below kind.DeleteParities = omega arith
code_below kind.ClauseOfParity = omega arith
code_below kind.ParityOfClauses = omega arith

kind_back : (k : StepKind) → kind_of (code_of k) ≡ k
kind_back kind.Clause = refl
kind_back kind.DeleteClauses = refl
kind_back kind.Parity = refl
kind_back kind.DeleteParities = refl
kind_back kind.ClauseOfParity = refl
kind_back kind.ParityOfClauses = refl

pub kind_in-head_of : (k : StepKind) (literals : ℕ) → kind_in (head_of k literals) ≡ k
kind_in-head_of k literals = ap kind_of (mod-mul-add literals 8 (code_of k) (code_below k)) ∙ kind_back k

pub literals_in-head_of : (k : StepKind) (literals : ℕ) → literals_in (head_of k literals) ≡ literals
literals_in-head_of k literals = div-mul-add literals 8 (code_of k) (code_below k)
