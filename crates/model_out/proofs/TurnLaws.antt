-- One token of the `v` lines.
use Rattle.std.proofs.Common.{◌≡◌, ◌≢◌, refl, ap, ◌∙◌, ℕ, zero, suc, ℤ, pos, negsuc, true, false, cond, List, [], ◌∷◌, ◌++◌, Option, Some, None, MatchOption, Result, Ok, Err, codes, bytes_eq}
use Rattle.cx_texts.specs.Words.{integer}
use Rattle.model_out.specs.LineTokens.{LineToken}
use Rattle.model_out.specs.Answers.{Part, mark, number, strange, part_of, number_or_strange}
use Rattle.model_out.specs.Mentions.{AreMentionsOf}
use Rattle.model_out.specs.Reading.{scan, at_part, seen, ahead, TakesTo, TurnsTo, EndsTo, ScansTo}
use Rattle.model_out.specs.declared.line_tokens.LineTokenAt.{LineTokenAt}
use Rattle.model_out.specs.declared.mentions.Mention.{Mention}
use Rattle.model_out.specs.declared.read.TokenEffect.{TokenEffect}
use Rattle.model_out.specs.declared.read.TokenEffect.TheVariants.{GoesOn, Ends}
use Rattle.model_out.specs.declared.refusal.AnswerRefusal.{AnswerRefusal}
use Rattle.model_out.specs.declared.refusal.AnswerRefusal.TheVariants.{NoStatusLine, BadToken, Missing, Twice, Unmet, Memory}

part_mark : (t : LineToken) → t.begins ≡ true → bytes_eq t.text (codes "v") ≡ true → part_of t ≡ mark
part_mark t b v = ap (λ x. cond x (cond (bytes_eq t.text (codes "v")) mark strange) (number_or_strange (integer t.text))) b ∙ ap (λ x. cond x mark strange) v

part_no_mark : (t : LineToken) → t.begins ≡ true → bytes_eq t.text (codes "v") ≡ false → part_of t ≡ strange
part_no_mark t b v = ap (λ x. cond x (cond (bytes_eq t.text (codes "v")) mark strange) (number_or_strange (integer t.text))) b ∙ ap (λ x. cond x mark strange) v

part_inside : (t : LineToken) (o : Option ℤ) → t.begins ≡ false → integer t.text ≡ o → part_of t ≡ number_or_strange o
part_inside t o b e = ap (λ x. cond x (cond (bytes_eq t.text (codes "v")) mark strange) (number_or_strange (integer t.text))) b ∙ ap number_or_strange e

module _ (len : ℕ) (lits : List ℤ) (t : LineToken) (rest : List LineToken) where
  by_part : (p : Part) → part_of t ≡ p → scan len lits (t ∷ rest) ≡ at_part t.place lits rest (λ more. scan len more rest) p
  by_part p e = ap (at_part t.place lits rest (λ more. scan len more rest)) e

  pub turn_mark : (table : List Mention) → t.begins ≡ true → bytes_eq t.text (codes "v") ≡ true → AreMentionsOf lits table → TurnsTo len lits t rest (Ok GoesOn) table
  turn_mark table b v h = (lits, by_part mark (part_mark t b v), h)

  pub turn_no_mark : (table : List Mention) → t.begins ≡ true → bytes_eq t.text (codes "v") ≡ false → TurnsTo len lits t rest (Err (BadToken t.place)) table
  turn_no_mark table b v = by_part strange (part_no_mark t b v)

  pub turn_strange : (table : List Mention) → t.begins ≡ false → integer t.text ≡ None → TurnsTo len lits t rest (Err (BadToken t.place)) table
  turn_strange table b e = by_part strange (part_inside t None b e)

  after_number : (z : ℤ) → z ≢ pos 0 → at_part t.place lits rest (λ more. scan len more rest) (number z) ≡ scan len (lits ++ z ∷ []) rest
  after_number (pos zero) n = absurd (n refl)
  after_number (pos (suc m)) n = refl
  after_number (negsuc m) n = refl

  pub scan_integer : (z : ℤ) → t.begins ≡ false → integer t.text ≡ Some z → z ≢ pos 0 → scan len lits (t ∷ rest) ≡ scan len (lits ++ z ∷ []) rest
  scan_integer z b e n = by_part (number z) (part_inside t (Some z) b e) ∙ after_number z n

  pub turn_integer : (z : ℤ) (r : TokenEffect) (table : List Mention) → t.begins ≡ false → integer t.text ≡ Some z → TakesTo z lits r table → TurnsTo len lits t rest (Ok r) table
  turn_integer z GoesOn table b e h = (lits ++ z ∷ [], scan_integer z b e h.0, h.1)
  turn_integer z Ends table b e h = (by_part (number (pos 0)) (part_inside t (Some z) b e ∙ ap number h.0), h.1)

-- ---- the loop over the tokens

pub ahead_is : (o : Option LineTokenAt) (old new : List LineToken) → MatchOption o ((old ≡ []) × (new ≡ [])) (λ t. old ≡ seen t ∷ new) → old ≡ ahead o new
ahead_is None old new h = h.0
ahead_is (Some t) old new h = h

module _ (len : ℕ) (body : List LineToken) (lits : List ℤ) (t : LineToken) (rest : List LineToken) (so_far : scan len [] body ≡ scan len lits (t ∷ rest)) (table : List Mention) where
  pub turn_refused : (e : AnswerRefusal) → TurnsTo len lits t rest (Err e) table → ScansTo {T = Unit {0}} len body (Err e) table
  turn_refused NoStatusLine h = absurd h
  turn_refused (BadToken place) h = so_far ∙ h
  turn_refused (Missing x) h = absurd h
  turn_refused (Twice x) h = absurd h
  turn_refused (Unmet k) h = absurd h
  turn_refused Memory h = absurd h

  pub turn_goes_on : (r : TokenEffect) → r ≡ GoesOn → TurnsTo len lits t rest (Ok r) table → (more : List ℤ) × (scan len [] body ≡ scan len more rest) × AreMentionsOf more table
  turn_goes_on GoesOn e h = (h.0, so_far ∙ h.1, h.2)
  turn_goes_on Ends e h = cc

  pub turn_ends : {T : Type 0} (r : TokenEffect) (end : Result T AnswerRefusal) → r ≡ Ends → TurnsTo len lits t rest (Ok r) table → EndsTo lits rest end → ScansTo len body end table
  turn_ends GoesOn end e h k = cc
  turn_ends Ends (Ok done) e h k = (lits, so_far ∙ h.0 ∙ k, h.1)
  turn_ends Ends (Err NoStatusLine) e h k = absurd k
  turn_ends Ends (Err (BadToken place)) e h k = so_far ∙ h.0 ∙ k
  turn_ends Ends (Err (Missing x)) e h k = absurd k
  turn_ends Ends (Err (Twice x)) e h k = absurd k
  turn_ends Ends (Err (Unmet i)) e h k = absurd k
  turn_ends Ends (Err Memory) e h k = absurd k
