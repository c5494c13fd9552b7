-- Steps are spelled with numbers and with letters that stand for themselves.
use Rattle.std.proofs.Common.{◌≡◌, refl, ℤ, pos, false, List, [], ◌∷◌, ◌++◌, map, flat_map}
use Rattle.std.specs.List.{AllByRecursion}
use Rattle.std.specs.Bool.{⊤}
use Rattle.cx_base.specs.declared.steps.LogStep.{LogStep}
use Rattle.cx_base.specs.declared.steps.LogStep.TheVariants as log
use Rattle.cx_base.specs.declared.steps.ProofStep.{ProofStep}
use Rattle.cx_base.specs.declared.steps.ProofStep.TheVariants as proof
use Rattle.cx_texts.specs.Tokens.{is_blank}
use Rattle.cx_texts.specs.Words.{Word, number, letter, conflict, other, word_of}
use Rattle.cx_texts.specs.Grammar.{both_ids, spelled_list, spelling}
use Rattle.cx_texts.specs.LogText.{log_steps}
use Rattle.cx_texts.specs.ProofText.{proof_steps}

abbrev pub IsSpoken : Word → Type 0
IsSpoken (number z) = ⊤
IsSpoken (letter c) = (is_blank c ≡ false) × (word_of (c ∷ []) ≡ letter c)
IsSpoken (conflict k) = ⊥
IsSpoken other = ⊥

spoken_then : (zs : List ℤ) (ws : List Word) → AllByRecursion IsSpoken ws → AllByRecursion IsSpoken (spelled_list zs ++ ws)
spoken_then [] ws h = (tt, h)
spoken_then (z ∷ zs) ws h = (tt, spoken_then zs ws h)

pub spoken_log_step : (s : LogStep) → AllByRecursion IsSpoken (spelling log_steps s)
spoken_log_step (log.Original n lits) = ((refl, refl), (tt, spoken_then lits [] tt))
spoken_log_step (log.OriginalParity n lits) = ((refl, refl), ((refl, refl), (tt, spoken_then lits [] tt)))
spoken_log_step (log.Clause n lits) = ((refl, refl), (tt, spoken_then lits [] tt))
spoken_log_step (log.ClauseWithHints n lits hints) = ((refl, refl), (tt, spoken_then lits _ ((refl, refl), spoken_then hints [] tt)))
spoken_log_step (log.Parity n lits sources) = ((refl, refl), ((refl, refl), (tt, spoken_then lits _ ((refl, refl), spoken_then (map pos sources) [] tt))))
spoken_log_step (log.ClauseOfParity n lits source) = ((refl, refl), (tt, spoken_then lits _ ((refl, refl), (tt, (tt, tt)))))
spoken_log_step (log.ParityOfClauses n lits sources) = ((refl, refl), ((refl, refl), (tt, spoken_then lits _ ((refl, refl), spoken_then (map pos sources) [] tt))))
spoken_log_step (log.Delete n lits) = ((refl, refl), (tt, spoken_then lits [] tt))
spoken_log_step (log.DeleteParity n lits) = ((refl, refl), ((refl, refl), (tt, spoken_then lits [] tt)))
spoken_log_step (log.Final n lits) = ((refl, refl), (tt, spoken_then lits [] tt))
spoken_log_step (log.FinalParity n lits) = ((refl, refl), ((refl, refl), (tt, spoken_then lits [] tt)))
spoken_log_step (log.MoveClauses ms) = ((refl, refl), spoken_then (flat_map both_ids ms) [] tt)
spoken_log_step (log.MoveParities ms) = ((refl, refl), ((refl, refl), spoken_then (flat_map both_ids ms) [] tt))

pub spoken_proof_step : (s : ProofStep) → AllByRecursion IsSpoken (spelling proof_steps s)
spoken_proof_step (proof.Clause n lits hints) = (tt, spoken_then lits _ (spoken_then hints [] tt))
spoken_proof_step (proof.DeleteClauses n names) = (tt, ((refl, refl), spoken_then (map pos names) [] tt))
spoken_proof_step (proof.Parity n lits hints) = ((refl, refl), (tt, spoken_then lits _ (spoken_then hints [] tt)))
spoken_proof_step (proof.DeleteParities names) = ((refl, refl), ((refl, refl), spoken_then (map pos names) [] tt))
spoken_proof_step (proof.ClauseOfParity n lits hint) = ((refl, refl), (tt, spoken_then lits _ (tt, (tt, tt))))
spoken_proof_step (proof.ParityOfClauses n lits hints) = ((refl, refl), ((refl, refl), (tt, spoken_then lits _ (spoken_then hints [] tt))))
