-- Each text is read in exactly one way.
use Rattle.std.proofs.Common.{◌≡◌, refl, sym, ap, ◌∙◌, subst, ℕ, List, length, Option, Some, None, Result, Ok, Err, inl, inr}
use Rattle.cx_base.specs.Problem.{Problem}
use Rattle.cx_base.specs.declared.constraint.Constraint.{Constraint}
use Rattle.cx_texts.specs.declared.offence.Offence.{Offence}
use Rattle.cx_texts.specs.declared.offence.Offence.TheVariants.{BadToken, Unterminated, VarLimit}
use Rattle.cx_base.specs.ExactlyOne.{ExactlyOne}
use Rattle.cx_texts.specs.Tokens.{Token, formula_tokens}
use Rattle.cx_texts.specs.Words.{placed_formula_words}
use Rattle.cx_base.specs.Endings.{Ending, finished, bad_token, too_big, unterminated}
use Rattle.cx_texts.specs.Grammar.{Reading}
use Rattle.cx_texts.specs.FormulaText.{constraints, header, HasBody, ReadsAs, offence_of}
use Rattle.cx_base.specs.Problem.{greatest_variable}
use Rattle.cx_texts.specs.ProofText.{proof_steps, ProofReads}
use Rattle.cx_texts.specs.LogText.{log_steps, LogReads, log_events, EventsRead}
use Rattle.cx_base.specs.declared.steps.ProofStep.{ProofStep}
use Rattle.cx_base.specs.declared.steps.LogStep.{LogStep}
use Rattle.cx_base.specs.declared.steps.LogEvent.{LogEvent}
use Rattle.cx_texts.proofs.Readings.{reading_of, same_reading, one_reading}
use Rattle.cx_texts.proofs.Grammars.{constraint_forms, proof_forms, log_forms, event_forms}

module _ (text : List ℕ) where
  abbrev len : ℕ
  len = length text

  abbrev Header : Type 0
  Header = Result (ℕ × List Token) Offence

  -- a body has one reading
  same_body : (v : ℕ) (body : List Token) → header len (formula_tokens text) ≡ Ok (v, body) → (items : List Constraint) (ending : Ending) → Reading constraints len (placed_formula_words body) items ending
      → (w : ℕ) (others : List Constraint) (other : Ending) → HasBody text w others other → (w ≡ v) × (others ≡ items) × (other ≡ ending)
  same_body v body e items ending r w others other b =
      let h : ◌≡◌ {A = Header} (Ok (v, body)) (Ok (w, b.body)) = sym e ∙ b.behind in
      let pair : ◌≡◌ {A = ℕ × List Token} (v, body) (w, b.body) = cc (h) in
      let is_w : v ≡ w = ap (λ (x : ℕ × List Token). x.0) pair in
      let is_body : body ≡ b.body = ap (λ (x : ℕ × List Token). x.1) pair in
      let s = same_reading constraints constraint_forms len (placed_formula_words body) others items other ending
      (subst (λ t. Reading constraints len (placed_formula_words t) others other) (sym is_body) b.reading) r in
      (sym is_w, s.0, s.1)

  err_not_ok : (o : Offence) (x : ℕ × List Token) → header len (formula_tokens text) ≡ Err o → header len (formula_tokens text) ≡ Ok x → ⊥
  err_not_ok o x e f = let h : ◌≡◌ {A = Header} (Err o) (Ok x) = sym e ∙ f in cc

  bad_header : (o : Offence) → header len (formula_tokens text) ≡ Err o → (b : Result Problem Offence) → ReadsAs text b → b ≡ Err o
  bad_header o e (Ok f) r = absurd (err_not_ok o _ e r.items.behind)
  bad_header o e (Err p) (inl f) = let h : ◌≡◌ {A = Header} (Err p) (Err o) = sym f ∙ e in cc
  bad_header o e (Err p) (inr (v, items, ending, b, f)) = absurd (err_not_ok o _ e b.behind)

  module _ (v : ℕ) (body : List Token) (e : header len (formula_tokens text) ≡ Ok (v, body)) (items : List Constraint) where
    abbrev formula : Problem
    formula = record { variables = greatest_variable v items; constraints = items }

    only_formula : Reading constraints len (placed_formula_words body) items finished → (b : Result Problem Offence) → ReadsAs text b → b ≡ Ok formula
    only_formula r (Ok f) q =
        let s = same_body v body e items finished r q.v f.constraints finished q.items in
        let k : f.variables ≡ greatest_variable v items = q.variables ∙ ap (λ w. greatest_variable w f.constraints) s.0 ∙ ap (greatest_variable v) s.1 in
        ap Ok (λ i. record { variables = k i; constraints = s.1 i })
    only_formula r (Err p) (inl f) = absurd (err_not_ok p _ f e)
    only_formula r (Err p) (inr (w, others, other, b, f)) =
        let s = same_body v body e items finished r w others other b in
        let k : ◌≡◌ {A = Option Offence} None (Some p) = ap offence_of (sym s.2) ∙ f in cc

    only_offence : (ending : Ending) (o : Offence) → offence_of ending ≡ Some o → Reading constraints len (placed_formula_words body) items ending → (b : Result Problem Offence) → ReadsAs text b → b ≡ Err o
    only_offence ending o is r (Ok f) q =
        let s = same_body v body e items ending r q.v f.constraints finished q.items in
        let k : ◌≡◌ {A = Option Offence} None (Some o) = ap offence_of s.2 ∙ is in cc
    only_offence ending o is r (Err p) (inl f) = absurd (err_not_ok p _ f e)
    only_offence ending o is r (Err p) (inr (w, others, other, b, f)) =
        let s = same_body v body e items ending r w others other b in
        let k : Some p ≡ Some o = sym f ∙ ap offence_of s.2 ∙ is in cc

    by_ending : (ending : Ending) → Reading constraints len (placed_formula_words body) items ending → ExactlyOne (ReadsAs text)
    by_ending finished r = (Ok formula, record { v = v; items = record { body = body; behind = e; reading = r }; variables = refl }, only_formula r)
    by_ending (bad_token place) r = (Err (BadToken place), inr (v, items, bad_token place, record { body = body; behind = e; reading = r }, refl), only_offence (bad_token place) _ refl r)
    by_ending (too_big place) r = (Err (VarLimit place), inr (v, items, too_big place, record { body = body; behind = e; reading = r }, refl), only_offence (too_big place) _ refl r)
    by_ending (unterminated place) r = (Err (Unterminated place), inr (v, items, unterminated place, record { body = body; behind = e; reading = r }, refl), only_offence (unterminated place) _ refl r)

  by_header : (h : Result (ℕ × List Token) Offence) → header len (formula_tokens text) ≡ h → ExactlyOne (ReadsAs text)
  by_header (Ok (v, body)) e =
      let r = reading_of constraints constraint_forms len (placed_formula_words body) in
      by_ending v body e r.0 r.1 r.2
  by_header (Err o) e = (Err o, inl e, bad_header o e)

  pub one_formula_reading : ExactlyOne (ReadsAs text)
  one_formula_reading = by_header (header len (formula_tokens text)) refl

  pub one_proof_reading : ExactlyOne (λ (x : List ProofStep × Ending). ProofReads text x.0 x.1)
  one_proof_reading = one_reading proof_steps proof_forms len _

  pub one_log_reading : ExactlyOne (λ (x : List LogStep × Ending). LogReads text x.0 x.1)
  one_log_reading = one_reading log_steps log_forms len _

  pub one_event_reading : ExactlyOne (λ (x : List LogEvent × Ending). EventsRead text x.0 x.1)
  one_event_reading = one_reading log_events event_forms len _
