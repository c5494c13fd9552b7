-- What the whole tokens of a piece tell, whatever follows the piece.
use Rattle.std.proofs.Common.{◌≡◌, refl, sym, ap, ◌∙◌, subst, ℕ, ◌+◌, ◌-◌, ◌<◌, ◌≤◌, List, [], ◌∷◌, ◌++◌, length, take, drop, Result, Ok, Err, MatchResult, arith, append_assoc, length-take, length-drop, take-append-drop}
use Rattle.std.proofs.lemmas.List.{drop-append-le}
use Rattle.cx_base.specs.Drafts.{Draft}
use Rattle.cx_base.specs.declared.literal.TheConstants.{MAX_VARIABLE}
use Rattle.cx_texts.specs.Pieces.{EndsBlank}
use Rattle.cx_texts.specs.Tokens.{Token, NoBlank, EndsRun}
use Rattle.cx_texts.specs.declared.line_state.EndLines.TheVariants as end_line
use Rattle.cx_texts.specs.declared.line_state.LineState.TheVariants.{Kept}
use Rattle.cnfx_reader.specs.PieceReading.{AllButLast}
use Rattle.cnfx_reader.specs.PieceSteps.{answer_from, IsRefusedBy, StepTaken, StepRefused, TokenTaken, TokenRefused}
use Rattle.cnfx_reader.specs.TokensLeft.{formula_tokens_within}
use Rattle.cx_texts.proofs.PieceLaws.{StandsAt, cut_behind_blank, left_from_token}
use Rattle.cx_texts.proofs.TokenLaws.{within-run}
use Rattle.cnfx_reader.specs.declared.body.PieceRead.{PieceRead}
use Rattle.cnfx_reader.specs.declared.pending.Pending.{Pending}
use Rattle.cnfx_reader.specs.declared.piece.Phase.{Phase}
use Rattle.cnfx_reader.specs.declared.piece.Phase.TheVariants.{Body}
use Rattle.cnfx_reader.specs.declared.piece.PieceStep.{PieceStep}
use Rattle.cnfx_reader.specs.declared.refusal.ReadRefusal.{ReadRefusal}

-- ---- a piece in its text

module _ (place len : ℕ) (bytes : List ℕ) (tokens : List Token) (blank : EndsBlank (take len bytes)) (within : len ≤ length bytes) (are : tokens ≡ formula_tokens_within place (take len bytes)) where
  followed : (more : List ℕ) → (behind : List Token) × (formula_tokens_within place (bytes ++ more) ≡ tokens ++ behind)
  followed more =
      let cut = cut_behind_blank end_line.End Kept place (take len bytes) (drop len bytes ++ more) blank in
      (cut.0, ap (formula_tokens_within place) (ap (λ b. b ++ more) (sym (take-append-drop len bytes)) ∙ append_assoc (take len bytes) (drop len bytes) more) ∙ cut.1 ∙ ap (λ ts. ts ++ cut.0) (sym are))

  pub piece_refused : (phase : Phase) (old : Draft) (e : ReadRefusal) → ((size : ℕ) (more : List Token) → IsRefusedBy e (answer_from phase size old (tokens ++ more))) → StepRefused phase old place bytes e
  piece_refused phase old e refused = λ size more.
      let f = followed more in
      subst (λ ts. IsRefusedBy e (answer_from phase size old ts)) (sym f.1) (refused size f.0)

  module _ (v : ℕ) (pending : Pending) (old : Draft) (read : PieceRead) (new : Draft) (p : AllButLast pending old tokens read new) where
    here : StandsAt end_line.End place (take len bytes) p.last []
    here = left_from_token end_line.End Kept place (take len bytes) p.before p.last [] (sym are ∙ p.split)

    pub piece_behind : place ≤ read.last
    piece_behind = omega (arith, p.at, here.at)

    pub piece_step : v ≤ MAX_VARIABLE → (k : ℕ) → k ≡ read.last - place → StepTaken (Body v pending) old place bytes (record { phase = Body v read.pending; len = k }) new
    piece_step small k is = record { high = inside; fits = (small, p.fits); same = λ size more. same size more (followed more).0 (followed more).1 }
      where
        at : read.last ≡ place + k
        at = omega (arith, is, piece_behind)

        inside : k ≤ length bytes
        inside = omega (arith, at, p.at, here.at, here.inside, length-take len bytes, within)

        left : (more : List ℕ) (behind : List Token) → formula_tokens_within place (bytes ++ more) ≡ tokens ++ behind → formula_tokens_within (place + k) (drop k bytes ++ more) ≡ p.last ∷ behind
        left more behind are_these =
            let there = left_from_token end_line.End Kept place (bytes ++ more) p.before p.last behind (are_these ∙ ap (λ ts. ts ++ behind) p.split ∙ append_assoc p.before (p.last ∷ []) behind) in
            let same_k : there.behind ≡ k = omega (arith, there.at, at, p.at) in
            let bytes_left : drop there.behind (bytes ++ more) ≡ drop k bytes ++ more = ap (λ n. drop n (bytes ++ more)) same_k ∙ drop-append-le k bytes more inside in
            (λ i. formula_tokens_within ((sym at ∙ p.at) i) (sym bytes_left i)) ∙ there.left

        same : (size : ℕ) (more : List ℕ) (behind : List Token) → formula_tokens_within place (bytes ++ more) ≡ tokens ++ behind
            → answer_from (Body v pending) size old (formula_tokens_within place (bytes ++ more)) ≡ answer_from (Body v read.pending) size new (formula_tokens_within (place + k) (drop k bytes ++ more))
        same size more behind are_these =
            ap (answer_from (Body v pending) size old) are_these ∙ ap (λ o. Ok (v, o)) (p.same size behind) ∙ ap (answer_from (Body v read.pending) size new) (sym (left more behind are_these))

-- none were taken, and then some
module _ (place : ℕ) (bytes : List ℕ) (phase mid : Phase) (old d : Draft) (first : StepTaken phase old place bytes (record { phase = mid; len = 0 }) d) where
  same_there : (size : ℕ) (more : List ℕ) → answer_from phase size old (formula_tokens_within place (bytes ++ more)) ≡ answer_from mid size d (formula_tokens_within place (bytes ++ more))
  same_there size more = first.same size more ∙ ap (λ n. answer_from mid size d (formula_tokens_within n (bytes ++ more))) (let e : place + 0 ≡ place = omega arith in e)

  pub then_result : (r : Result PieceStep ReadRefusal) (new : Draft) → MatchResult r (λ t. StepTaken mid d place bytes t new) (λ e. StepRefused mid d place bytes e) → MatchResult r (λ t. StepTaken phase old place bytes t new) (λ e. StepRefused phase old place bytes e)
  then_result (Ok t) new h = record { high = h.high; fits = h.fits; same = λ size more. same_there size more ∙ h.same size more }
  then_result (Err e) new h = λ size more. subst (IsRefusedBy e) (sym (same_there size more)) (h size more)

-- ---- one token

ends_more : (rest more : List ℕ) → 0 < length rest → EndsRun rest → EndsRun (rest ++ more)
ends_more [] more h e = absurd (omega (arith, h))
ends_more (b ∷ rest) more h e = e

module _ (place len : ℕ) (bytes : List ℕ) (some : 0 < len) (few : len < length bytes) (run : NoBlank (take len bytes)) (ends : EndsRun (drop len bytes)) where
  abbrev first : Token
  first = record { place = place; text = take len bytes }

  first_run : (more : List ℕ) → formula_tokens_within place (bytes ++ more) ≡ first ∷ formula_tokens_within (place + len) (drop len bytes ++ more)
  first_run more = ap (formula_tokens_within place) (ap (λ b. b ++ more) (sym (take-append-drop len bytes)) ∙ append_assoc (take len bytes) (drop len bytes) more) ∙ go (take len bytes) refl
    where
      behind : EndsRun (drop len bytes ++ more)
      behind = ends_more (drop len bytes) more (omega (arith, length-drop len bytes, few)) ends

      go : (t : List ℕ) → take len bytes ≡ t → formula_tokens_within place (take len bytes ++ (drop len bytes ++ more)) ≡ first ∷ formula_tokens_within (place + len) (drop len bytes ++ more)
      go [] e = let k : length (take len bytes) ≡ 0 = ap length e in absurd (omega (arith, k, length-take len bytes, some, few))
      go (b ∷ t) e =
          let k : length (b ∷ t) ≡ len = ap length (sym e) ∙ (let f : length (take len bytes) ≡ len = omega (arith, length-take len bytes, few) in f) in
          ap (λ x. formula_tokens_within place (x ++ (drop len bytes ++ more))) e ∙ within-run end_line.End place b t (drop len bytes ++ more) (subst NoBlank e run) behind
          ∙ (λ i. record { place = place; text = sym e i } ∷ formula_tokens_within (place + k i) (drop len bytes ++ more))

  pub first_step : (phase next : Phase) (old new : Draft) → TokenTaken phase old first next new → StepTaken phase old place bytes (record { phase = next; len = len }) new
  first_step phase next old new (fits, same) = record {
    high = omega (arith, few);
    fits = fits;
    same = λ size more. ap (answer_from phase size old) (first_run more) ∙ same size (formula_tokens_within (place + len) (drop len bytes ++ more));
  }

  pub first_refused : (phase : Phase) (old : Draft) (e : ReadRefusal) → TokenRefused phase old first e → StepRefused phase old place bytes e
  first_refused phase old e refused = λ size more. subst (λ ts. IsRefusedBy e (answer_from phase size old ts)) (sym (first_run more)) (refused size (formula_tokens_within (place + len) (drop len bytes ++ more)))
