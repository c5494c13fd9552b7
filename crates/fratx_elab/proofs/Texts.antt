-- Steps that a text can have.
use Rattle.std.proofs.Common.{◌≢◌, ◌≤◌, ℕ, ℤ, pos, nat_abs, List, [], ◌∷◌, ◌++◌, arith}
use Rattle.std.specs.List.{AllByRecursion}
use Rattle.cx_base.specs.Numbers.{AreStepIntegers}
use Rattle.cx_base.proofs.Elements.{integers_are_proper}
use Rattle.cx_texts.specs.Grammar.{spelled_list}
use Rattle.cx_texts.specs.Printed.{HasProofText}
use Rattle.cx_texts.specs.Words.{Word, IsWithin}
use Rattle.cx_base.specs.declared.steps.ProofStep.TheVariants as step

abbrev Limit : ℕ
Limit = 9223372036854775807

within : (zs : List ℤ) (rest : List Word) → AreStepIntegers zs → AllByRecursion (IsWithin Limit) rest → AllByRecursion (IsWithin Limit) (spelled_list zs ++ rest)
within [] rest h k = (omega arith, k)
within (z ∷ zs) rest h k = (h.0.1, within zs rest h.1 k)

module _ (n : ℕ) (lits hints : List ℤ) (low : 1 ≤ n) (high : n ≤ Limit) (proper : AreStepIntegers lits) where
  pub clause_text : AreStepIntegers hints → HasProofText (step.Clause n lits hints)
  clause_text h = ((omega arith, (integers_are_proper lits proper, (integers_are_proper hints h, tt))), (high, within lits _ proper (within hints [] h tt)))

  pub parity_text : AreStepIntegers hints → HasProofText (step.Parity n lits hints)
  parity_text h = ((tt, (omega arith, (integers_are_proper lits proper, (integers_are_proper hints h, tt)))), (tt, (high, within lits _ proper (within hints [] h tt))))

  pub parity_of_clauses_text : AreStepIntegers hints → HasProofText (step.ParityOfClauses n lits hints)
  parity_of_clauses_text h = ((tt, (tt, (omega arith, (integers_are_proper lits proper, (integers_are_proper hints h, tt))))), (tt, (tt, (high, within lits _ proper (within hints [] h tt)))))

  pub clause_of_parity_text : (hint : ℤ) → hint ≢ pos 0 → nat_abs hint ≤ Limit → HasProofText (step.ClauseOfParity n lits hint)
  clause_of_parity_text hint some small = ((tt, (omega arith, (integers_are_proper lits proper, (some, (tt, tt))))), (tt, (high, within lits _ proper (small, (omega arith, tt)))))
