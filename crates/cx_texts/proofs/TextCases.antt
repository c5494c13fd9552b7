-- Worked cases of texts: formulas that are read, and first offences with their places.
use Rattle.std.proofs.Common.{◌≡◌, refl, ℕ, pos, negsuc, List, [], ◌∷◌, map, codes, inl, inr, drop}
use Rattle.cx_base.specs.declared.constraint.Constraint.TheVariants.{Clause, Parity, Assume}
use Rattle.cx_texts.specs.declared.offence.Offence.TheVariants.{NoHeader, BadHeader, BadToken, Unterminated, VarLimit}
use Rattle.cx_base.specs.declared.steps.ProofStep.TheVariants as proof
use Rattle.cx_base.specs.Integers.{literals}
use Rattle.cx_texts.specs.Tokens.{Token, formula_tokens, tokens}
use Rattle.cx_texts.specs.Words.{number, letter, other, Placed, placed_words, placed_formula_words}
use Rattle.cx_base.specs.Endings.{bad_token, too_big, unterminated}
use Rattle.cx_texts.specs.FormulaText.{constraints, Reads, FirstOffence}
use Rattle.cx_texts.specs.ProofText.{proof_steps, ProofReads}
use Rattle.cx_texts.proofs.Evaluate.{step_here, bad_here, big_here, unfinished_here}
use Rattle.cx_texts.proofs.Grammars.{constraint_forms, proof_forms}

-- `c hi`, CR LF, a `%` line: the tokens and their places
places : map (λ t. t.place) (formula_tokens (codes "c hi\r\np cnf 1 1\r\n1 0\r\n%\r\n0\r\n")) ≡ 6 ∷ 8 ∷ 12 ∷ 14 ∷ 17 ∷ 19 ∷ []
unfolding formula_tokens constraint_forms
places = refl

module _ (text : List ℕ) where
  abbrev body : List Token → List Placed
  body ts = placed_formula_words ts

-- a joined and a lone `x`, a repeated literal, and a variable above the header's number
repeated_text : List ℕ
repeated_text = codes "p cnf 1 2\nx-1 1 2 0\n1 0\n"

repeated_reads : Reads repeated_text (record { variables = 2; constraints = Parity (literals (negsuc 0 ∷ pos 1 ∷ pos 2 ∷ [])) ∷ Clause (literals (pos 1 ∷ [])) ∷ [] })
unfolding repeated_text formula_tokens constraint_forms
repeated_reads = record {
  v = 1;
  items = record {
    body = drop 4 (formula_tokens repeated_text);
    behind = refl;
    reading = (
      _,
      step_here constraints constraint_forms 5 (placed_formula_words (drop 4 (formula_tokens repeated_text))) (Parity (literals (negsuc 0 ∷ pos 1 ∷ pos 2 ∷ []))) refl refl refl,
      (_, step_here constraints constraint_forms 2 (drop 5 (placed_formula_words (drop 4 (formula_tokens repeated_text)))) (Clause (literals (pos 1 ∷ []))) refl refl refl, refl),
    );
  };
  variables = refl;
}

-- `x0` is the empty parity
empty_parity_text : List ℕ
empty_parity_text = codes "p cnf 2 1\nx0"

empty_parity_reads : Reads empty_parity_text (record { variables = 2; constraints = Parity [] ∷ [] })
unfolding empty_parity_text formula_tokens constraint_forms
empty_parity_reads = record {
  v = 2;
  items = record { body = drop 4 (formula_tokens empty_parity_text); behind = refl; reading = (_, step_here constraints constraint_forms 2 (placed_formula_words (drop 4 (formula_tokens empty_parity_text))) (Parity []) refl refl refl, refl) };
  variables = refl;
}

-- the text ends inside a clause
cut_clause : FirstOffence (codes "p cnf 2 1\n1 2") (Unterminated 13)
unfolding formula_tokens constraint_forms
cut_clause =
    let placed : List Placed = placed_formula_words (drop 4 (formula_tokens (codes "p cnf 2 1\n1 2"))) in
    let u = unfinished_here constraints constraint_forms placed refl refl refl in
    inr (2, [], unterminated 13, record { body = drop 4 (formula_tokens (codes "p cnf 2 1\n1 2")); behind = refl; reading = (refl, (λ e. cc), u.0, u.1) }, refl)

letter_in_clause : FirstOffence (codes "p cnf 2 1\n1 a 0") (BadToken 12)
unfolding formula_tokens constraint_forms
letter_in_clause =
    let placed : List Placed = placed_formula_words (drop 4 (formula_tokens (codes "p cnf 2 1\n1 a 0"))) in
    inr (2, [], bad_token 12, record { body = drop 4 (formula_tokens (codes "p cnf 2 1\n1 a 0")); behind = refl; reading = bad_here constraints constraint_forms 1 placed (record { place = 12; word = letter 97 }) (drop 2 placed) refl refl refl refl refl }, refl)

parity_in_clause : FirstOffence (codes "p cnf 2 1\n1 x2 0") (BadToken 12)
unfolding formula_tokens constraint_forms
parity_in_clause =
    let placed : List Placed = placed_formula_words (drop 4 (formula_tokens (codes "p cnf 2 1\n1 x2 0"))) in
    inr (2, [], bad_token 12, record { body = drop 4 (formula_tokens (codes "p cnf 2 1\n1 x2 0")); behind = refl; reading = bad_here constraints constraint_forms 1 placed (record { place = 12; word = letter 120 }) (drop 2 placed) refl refl refl refl refl }, refl)

-- an `a` alone begins an assumption constraint
assumption_text : List ℕ
assumption_text = codes "p cnf 2 2\nx1 2 0\na 1 2 0\n"

assumption_reads : Reads assumption_text (record { variables = 2; constraints = Parity (literals (pos 1 ∷ pos 2 ∷ [])) ∷ Assume (literals (pos 1 ∷ pos 2 ∷ [])) ∷ [] })
unfolding assumption_text formula_tokens constraint_forms
assumption_reads = record {
  v = 2;
  items = record {
    body = drop 4 (formula_tokens assumption_text);
    behind = refl;
    reading = (
      _,
      step_here constraints constraint_forms 4 (placed_formula_words (drop 4 (formula_tokens assumption_text))) (Parity (literals (pos 1 ∷ pos 2 ∷ []))) refl refl refl,
      (_, step_here constraints constraint_forms 4 (drop 4 (placed_formula_words (drop 4 (formula_tokens assumption_text)))) (Assume (literals (pos 1 ∷ pos 2 ∷ []))) refl refl refl, refl),
    );
  };
  variables = refl;
}

-- joined to an integer it is no letter, it goes on with no constraint, and it is no constraint alone
joined_assumption : FirstOffence (codes "p cnf 1 1\na1 0") (BadToken 10)
unfolding formula_tokens constraint_forms
joined_assumption =
    let placed : List Placed = placed_formula_words (drop 4 (formula_tokens (codes "p cnf 1 1\na1 0"))) in
    inr (1, [], bad_token 10, record { body = drop 4 (formula_tokens (codes "p cnf 1 1\na1 0")); behind = refl; reading = bad_here constraints constraint_forms 0 placed (record { place = 10; word = other }) (drop 1 placed) refl refl refl refl refl }, refl)

parity_in_assumption : FirstOffence (codes "p cnf 2 1\na 1 x2 0") (BadToken 14)
unfolding formula_tokens constraint_forms
parity_in_assumption =
    let placed : List Placed = placed_formula_words (drop 4 (formula_tokens (codes "p cnf 2 1\na 1 x2 0"))) in
    inr (2, [], bad_token 14, record { body = drop 4 (formula_tokens (codes "p cnf 2 1\na 1 x2 0")); behind = refl; reading = bad_here constraints constraint_forms 2 placed (record { place = 14; word = letter 120 }) (drop 3 placed) refl refl refl refl refl }, refl)

lone_assumption : FirstOffence (codes "p cnf 1 1\na\n") (Unterminated 12)
unfolding formula_tokens constraint_forms
lone_assumption =
    let placed : List Placed = placed_formula_words (drop 4 (formula_tokens (codes "p cnf 1 1\na\n"))) in
    let u = unfinished_here constraints constraint_forms placed refl refl refl in
    inr (1, [], unterminated 12, record { body = drop 4 (formula_tokens (codes "p cnf 1 1\na\n")); behind = refl; reading = (refl, (λ e. cc), u.0, u.1) }, refl)

no_token : FirstOffence [] (NoHeader 0)
unfolding formula_tokens constraint_forms
no_token = inl refl

no_header : FirstOffence (codes "1 0") (NoHeader 0)
unfolding formula_tokens constraint_forms
no_header = inl refl

bad_number : FirstOffence (codes "p cnf x 1") (BadHeader 6)
unfolding formula_tokens constraint_forms
bad_number = inl refl

-- a variable above the limit, in a clause and in the header
big_variable : FirstOffence (codes "p cnf 1 1\n268435456 a 0") (VarLimit 10)
unfolding formula_tokens constraint_forms
big_variable =
    let placed : List Placed = placed_formula_words (drop 4 (formula_tokens (codes "p cnf 1 1\n268435456 a 0"))) in
    inr (1, [], too_big 10, record { body = drop 4 (formula_tokens (codes "p cnf 1 1\n268435456 a 0")); behind = refl; reading = big_here constraints constraint_forms 0 placed (record { place = 10; word = number (pos 268435456) }) (drop 1 placed) refl refl refl refl }, refl)

big_count : FirstOffence (codes "p cnf 268435456 0") (VarLimit 6)
unfolding formula_tokens constraint_forms
big_count = inl refl

-- ---- proofs

two_steps_text : List ℕ
two_steps_text = codes "5 2 0 1 2 0\n6 0 5 3 4 0\nzzz\n"

-- two steps, and a token after them that fits none
two_steps_read : ProofReads two_steps_text (proof.Clause 5 (pos 2 ∷ []) (pos 1 ∷ pos 2 ∷ []) ∷ proof.Clause 6 [] (pos 5 ∷ pos 3 ∷ pos 4 ∷ []) ∷ []) (bad_token 24)
unfolding two_steps_text tokens proof_forms
two_steps_read =
    let placed : List Placed = placed_words (tokens two_steps_text) in (
      _,
      step_here proof_steps proof_forms 6 placed (proof.Clause 5 (pos 2 ∷ []) (pos 1 ∷ pos 2 ∷ [])) refl refl refl,
      (
        _,
        step_here proof_steps proof_forms 6 (drop 6 placed) (proof.Clause 6 [] (pos 5 ∷ pos 3 ∷ pos 4 ∷ [])) refl refl refl,
        bad_here proof_steps proof_forms 0 (drop 12 placed) (record { place = 24; word = other }) [] refl refl refl refl refl,
      ),
    )

letter_in_step : ProofReads (codes "5 a 0") [] (bad_token 2)
unfolding tokens proof_forms
letter_in_step =
    let placed : List Placed = placed_words (tokens (codes "5 a 0")) in
    bad_here proof_steps proof_forms 1 placed (record { place = 2; word = letter 97 }) (drop 2 placed) refl refl refl refl refl

cut_step : ProofReads (codes "5 2 0 1\n") [] (unterminated 8)
unfolding tokens proof_forms
cut_step =
    let u = unfinished_here proof_steps proof_forms (placed_words (tokens (codes "5 2 0 1\n"))) refl refl refl in
    (refl, (λ e. cc), u.0, u.1)

big_id : ProofReads (codes "9223372036854775808 0 1 0") [] (too_big 0)
unfolding tokens proof_forms
big_id =
    let placed : List Placed = placed_words (tokens (codes "9223372036854775808 0 1 0")) in
    big_here proof_steps proof_forms 0 placed (record { place = 0; word = number (pos 9223372036854775808) }) (drop 1 placed) refl refl refl refl
