-- The grammar of proofs.
use Rattle.std.specs.Prelude.{ℕ, List, [], ◌∷◌, length}
use Rattle.cx_base.specs.declared.steps.ProofStep.{ProofStep}
use Rattle.cx_base.specs.declared.steps.ProofStep.TheVariants.{Clause, DeleteClauses, Parity, DeleteParities, ClauseOfParity, ParityOfClauses}
use Rattle.cx_texts.specs.Tokens.{tokens}
use Rattle.cx_texts.specs.Words.{placed_words}
use Rattle.cx_texts.specs.Grammar.{Field, mark, id, integer, end, ids, integers, Grammar, Reading}
use Rattle.cx_base.specs.Endings.{Ending}

-- `d`, `i` and `x` are the bytes 100, 105 and 120
abbrev pub proof_fields : ProofStep → List Field
proof_fields (Clause n lits hints) = id n ∷ integers lits ∷ integers hints ∷ []
proof_fields (DeleteClauses n names) = id n ∷ mark 100 ∷ ids names ∷ []
proof_fields (Parity n lits hints) = mark 120 ∷ id n ∷ integers lits ∷ integers hints ∷ []
proof_fields (DeleteParities names) = mark 120 ∷ mark 100 ∷ ids names ∷ []
proof_fields (ClauseOfParity n lits hint) = mark 105 ∷ id n ∷ integers lits ∷ integer hint ∷ end ∷ []
proof_fields (ParityOfClauses n lits hints) = mark 105 ∷ mark 120 ∷ id n ∷ integers lits ∷ integers hints ∷ []

abbrev pub proof_steps : Grammar ProofStep
proof_steps = record { fields = proof_fields; limit = 9223372036854775807 }

-- the text is these steps and this ending
abbrev pub ProofReads : List ℕ → List ProofStep → Ending → Type 0
ProofReads text steps ending = Reading proof_steps (length text) (placed_words (tokens text)) steps ending
