-- Lines of a log in their pieces.
use Rattle.std.proofs.Common.{◌≡◌, sym, ap, ◌∙◌, ℕ, List, [], ◌∷◌, ◌++◌, decimal, codes, append_assoc, append-nil}
use Rattle.cx_texts.specs.Words.{Word, letter, conflict}
use Rattle.cx_texts.specs.Printed.{printed_line}
use Rattle.step_text.specs.Spaced.{spaced}
use Rattle.step_text.proofs.Puts.{line_spaced}

pub clause_moves_line : (ws : List Word) → (114 ∷ []) ++ (spaced ws ++ 10 ∷ []) ≡ printed_line (letter 114 ∷ (ws ++ []))
clause_moves_line ws = ap (λ us. 114 ∷ (spaced us ++ 10 ∷ [])) (sym (append-nil ws)) ∙ sym (line_spaced (letter 114) (ws ++ []))

pub parity_moves_line : (ws : List Word) → (114 ∷ 32 ∷ 120 ∷ []) ++ (spaced ws ++ 10 ∷ []) ≡ printed_line (letter 114 ∷ letter 120 ∷ (ws ++ []))
parity_moves_line ws = ap (λ us. 114 ∷ 32 ∷ 120 ∷ (spaced us ++ 10 ∷ [])) (sym (append-nil ws)) ∙ sym (line_spaced (letter 114) (letter 120 ∷ (ws ++ [])))

pub mark_line : (k : ℕ) → codes "c conflict " ++ (decimal k ++ 10 ∷ []) ≡ printed_line (conflict k ∷ [])
mark_line k = sym (append_assoc (codes "c conflict ") (decimal k) (10 ∷ []))
