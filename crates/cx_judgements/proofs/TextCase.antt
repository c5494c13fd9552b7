-- A worked case: three parities that no values meet, and a proof of them that is accepted, from its text.
use Rattle.std.proofs.Common.{◌≡◌, refl, sym, ap, ◌∙◌, subst, ℕ, pos, false, List, [], ◌∷◌, Option, Some, is_some, true≢false, codes, drop, inr}
use Rattle.std.specs.List.{list_all}
use Rattle.cx_base.specs.Literals.{Literal}
use Rattle.cx_base.specs.Problem.{Problem, clauses_of, parities_of, parity_met}
use Rattle.cx_base.specs.Assumptions.{assumptions_of}
use Rattle.cx_base.specs.declared.constraint.Constraint.TheVariants as constraint
use Rattle.cx_base.specs.declared.steps.ProofStep.TheVariants as proof
use Rattle.cx_semantics.specs.Tables.{Tables, is_live, first_tables}
use Rattle.cx_semantics.specs.ProofRules.{IsSum, after_step}
use Rattle.cx_judgements.specs.ProofTexts.{Accepted}
use Rattle.cx_base.specs.Endings.{finished}
use Rattle.cx_texts.specs.Words.{Placed, placed_words}
use Rattle.cx_texts.specs.Tokens.{tokens}
use Rattle.cx_texts.specs.ProofText.{proof_steps}
use Rattle.cx_semantics.proofs.Lookups.{Looks, put_at, lookup, Looks-empty, Looks-insert, Looks-numbered_from, is_live_by, hints_by, named_by}
use Rattle.cx_semantics.proofs.ProofCases.{p12, p23, p13, three_sum}
use Rattle.cx_texts.proofs.Evaluate.{step_here}
use Rattle.cx_texts.proofs.Grammars.{proof_forms}

abbrev triangle : Problem
triangle = record { variables = 3; constraints = constraint.Parity p12 ∷ constraint.Parity p23 ∷ constraint.Parity p13 ∷ [] }

abbrev at_start : ℕ → Option (List Literal)
at_start = lookup 1 (p12 ∷ p23 ∷ p13 ∷ [])

looks_start : Looks (first_tables triangle).parities at_start
unfolding parities_of
looks_start = Looks-numbered_from 1 (p12 ∷ p23 ∷ p13 ∷ [])

no_clause : (n : ℕ) → is_live (first_tables triangle).clauses n ≡ false
unfolding clauses_of
no_clause n = ap is_some (Looks-empty n)

abbrev summed : Tables
summed = after_step (first_tables triangle) (proof.Parity 4 [] (pos 1 ∷ pos 2 ∷ pos 3 ∷ []))

looks_summed : Looks summed.parities (put_at at_start 4 (Some []))
looks_summed = Looks-insert _ _ 4 _ looks_start

triangle_text : List ℕ
triangle_text = codes "x 4 0 1 2 3 0\ni 1 0 4 0\n"

triangle_accepted : Accepted triangle triangle_text 2
unfolding triangle_text tokens proof_forms assumptions_of
triangle_accepted = record {
  steps = proof.Parity 4 [] (pos 1 ∷ pos 2 ∷ pos 3 ∷ []) ∷ proof.ClauseOfParity 1 [] (pos 4) ∷ [];
  ending = finished;
  reads =
      let placed : List Placed = placed_words (tokens triangle_text) in (
        _,
        step_here proof_steps proof_forms 7 placed (proof.Parity 4 [] (pos 1 ∷ pos 2 ∷ pos 3 ∷ [])) refl refl refl,
        (_, step_here proof_steps proof_forms 5 (drop 7 placed) (proof.ClauseOfParity 1 [] (pos 4)) refl refl refl, refl),
      );
  judged = inr (
    refl,
    record {
      before = proof.Parity 4 [] (pos 1 ∷ pos 2 ∷ pos 3 ∷ []) ∷ [];
      step = proof.ClauseOfParity 1 [] (pos 4);
      later = [];
      tables = summed;
      split = refl;
      runs = (
        (
          refl,
          (
            is_live_by (first_tables triangle).parities at_start looks_start 4,
            (
              refl,
              (
                hints_by (first_tables triangle).parities at_start looks_start (pos 1 ∷ pos 2 ∷ pos 3 ∷ []),
                (subst (IsSum []) (sym (named_by (first_tables triangle).parities at_start looks_start (1 ∷ 2 ∷ 3 ∷ []))) three_sum, tt),
              ),
            ),
          ),
        ),
        refl,
        refl,
      );
      right = (
        refl,
        (
          no_clause 1,
          (
            refl,
            (
              hints_by summed.parities (put_at at_start 4 (Some [])) looks_summed (pos 4 ∷ []),
              ((λ v h. absurd (true≢false (sym h ∙ ap (list_all (parity_met v)) (named_by summed.parities (put_at at_start 4 (Some [])) looks_summed (4 ∷ []))))), tt),
            ),
          ),
        ),
      );
      ends = refl;
      number = refl;
    },
  );
}
