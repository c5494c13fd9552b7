-- Worked cases of steps that move ids.
use Rattle.std.proofs.Common.{◌≡◌, refl, ℕ, pos, List, [], ◌∷◌, codes, drop}
use Rattle.cx_base.specs.declared.steps.LogStep.TheVariants as log
use Rattle.cx_base.specs.Endings.{finished, bad_token, unterminated}
use Rattle.cx_texts.specs.Tokens.{tokens}
use Rattle.cx_texts.specs.Words.{number, letter, Placed, placed_words}
use Rattle.cx_texts.specs.LogText.{log_steps, LogReads}
use Rattle.cx_texts.proofs.Evaluate.{step_here, bad_here, unfinished_here}
use Rattle.cx_texts.proofs.Grammars.{log_forms}

-- two clause ids change places, and no parity id is moved
swap_text : List ℕ
swap_text = codes "r 10 11 11 10 0\nr x 0\n"

swap_reads : LogReads swap_text (log.MoveClauses (record { from = 10; to = 11 } ∷ record { from = 11; to = 10 } ∷ []) ∷ log.MoveParities [] ∷ []) finished
unfolding swap_text tokens log_forms
swap_reads =
    let placed : List Placed = placed_words (tokens swap_text) in (
      _,
      step_here log_steps log_forms 6 placed (log.MoveClauses (record { from = 10; to = 11 } ∷ record { from = 11; to = 10 } ∷ [])) refl refl refl,
      (_, step_here log_steps log_forms 3 (drop 6 placed) (log.MoveParities []) refl refl refl, refl),
    )

-- an odd number of ids: the zero does not fit
odd_ids : LogReads (codes "r 1 0") [] (bad_token 4)
unfolding tokens log_forms
odd_ids =
    let placed : List Placed = placed_words (tokens (codes "r 1 0")) in
    bad_here log_steps log_forms 2 placed (record { place = 4; word = number (pos 0) }) [] refl refl refl refl refl

-- no id is negative
negative_id : LogReads (codes "r -1 2 0") [] (bad_token 2)
unfolding tokens log_forms
negative_id =
    let placed : List Placed = placed_words (tokens (codes "r -1 2 0")) in
    bad_here log_steps log_forms 1 placed (record { place = 2; word = number (Rattle.std.proofs.Common.negsuc 0) }) (drop 2 placed) refl refl refl refl refl

cut_moves : LogReads (codes "r x 1") [] (unterminated 5)
unfolding tokens log_forms
cut_moves =
    let u = unfinished_here log_steps log_forms (placed_words (tokens (codes "r x 1"))) refl refl refl in
    (refl, (λ e. cc), u.0, u.1)
