-- The answer of a whole text, from its header and what its body says word by word.
use Rattle.std.proofs.Common.{◌≡◌, refl, ap, ◌∙◌, subst, ℕ, List, [], length, Ok, Err, Some, inl, inr}
use Rattle.cx_base.specs.Problem.{greatest_variable}
use Rattle.cx_base.specs.declared.constraint.Constraint.{Constraint}
use Rattle.cx_texts.specs.Tokens.{Token, formula_tokens}
use Rattle.cx_texts.specs.Words.{placed_formula_words}
use Rattle.cx_base.specs.Endings.{Ending, finished}
use Rattle.cx_texts.specs.FormulaText.{header, HasBody, Reads, FirstOffence, offence_of}
use Rattle.cx_texts.specs.declared.offence.Offence.{Offence}
use Rattle.cx_texts.specs.declared.offence.Offence.TheVariants as offence
use Rattle.cnfx_reader.specs.declared.pending.Pending.TheVariants as pending
use Rattle.cnfx_reader.specs.declared.refusal.ReadRefusal.{ReadRefusal}
use Rattle.cnfx_reader.specs.declared.refusal.ReadRefusal.TheVariants.{NoHeader, BadHeader, BadToken, Unterminated, VarLimit, Memory}
use Rattle.cnfx_reader.specs.ReadsTo.{IsRefusedAs}
use Rattle.cnfx_reader.specs.Refusals.{refusal_of}
use Rattle.cnfx_reader.specs.TokensLeft.{formula_tokens_from}
use Rattle.cnfx_reader.specs.Body.{Outcome, outcome, IsEndedBy}
use Rattle.cnfx_reader.proofs.BodyReading.{outcome_is_reading}

formula_tokens_are : (text : List ℕ) → formula_tokens text ≡ formula_tokens_from 0 text
unfolding formula_tokens
formula_tokens_are text = refl

module _ (text : List ℕ) where
  -- what is read of some words where nothing comes before them
  abbrev read_of : List Token → Outcome
  read_of body = outcome (length text) pending.Nothing (record { constraints = []; unfinished = [] }) (placed_formula_words body)

  of_whole : {A : Type 0} (f : List Token → A) (x : A) → f (formula_tokens_from 0 text) ≡ x → f (formula_tokens text) ≡ x
  of_whole f x e = ap f (formula_tokens_are text) ∙ e

  pub refused_header : (o : Offence) → header (length text) (formula_tokens_from 0 text) ≡ Err o → IsRefusedAs text (refusal_of o)
  refused_header o e = go o (inl (of_whole (header (length text)) (Err o) e))
    where
      go : (o : Offence) → FirstOffence text o → IsRefusedAs text (refusal_of o)
      go (offence.NoHeader place) h = h
      go (offence.BadHeader place) h = h
      go (offence.BadToken place) h = h
      go (offence.Unterminated place) h = h
      go (offence.VarLimit place) h = h

  module _ (v : ℕ) (body : List Token) (e : header (length text) (formula_tokens_from 0 text) ≡ Ok (v, body)) where
    has_body : HasBody text v (read_of body).constraints (read_of body).ending
    has_body = record { body = body; behind = of_whole (header (length text)) (Ok (v, body)) e; reading = outcome_is_reading (length text) (placed_formula_words body) }

    by_ending : (ending : Ending) (o : Offence) → (read_of body).ending ≡ ending → offence_of ending ≡ Some o → FirstOffence text o
    by_ending ending o h k = inr (v, (read_of body).constraints, (read_of body).ending, has_body, ap offence_of h ∙ k)

    pub refused_body : (r : ReadRefusal) → IsEndedBy r (read_of body).ending → IsRefusedAs text r
    refused_body (NoHeader place) h = absurd h
    refused_body (BadHeader place) h = absurd h
    refused_body (BadToken place) h = by_ending _ _ h refl
    refused_body (Unterminated place) h = by_ending _ _ h refl
    refused_body (VarLimit place) h = by_ending _ _ h refl
    refused_body Memory h = tt

    pub read_formula_is : (cs : List Constraint) → read_of body ≡ record { constraints = cs; ending = finished } → Reads text (record { variables = greatest_variable v cs; constraints = cs })
    read_formula_is cs h = record {
      v = v;
      items = subst (λ (o : Outcome). HasBody text v o.constraints o.ending) h has_body;
      variables = refl;
    }
