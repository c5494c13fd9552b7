-- The scan of the `v` lines gives what the form of answers says.
use Rattle.std.proofs.Common.{◌≡◌, ◌≢◌, refl, sym, ap, ◌∙◌, subst, ℕ, zero, suc, ℤ, pos, negsuc, List, [], ◌∷◌, ◌++◌, append_assoc, append-nil}
use Rattle.cx_texts.proofs.Shapes.{pos_not_zero, neg_not_zero}
use Rattle.model_out.specs.LineTokens.{LineToken}
use Rattle.model_out.specs.Answers.{Part, mark, number, strange, part_of, GoesOn, AllGoOn, onto_numbers, numbers, FirstBad, at_strange, behind_zero, at_end}
use Rattle.model_out.specs.Reading.{whole, bad, scan_end, at_part, scan}

-- the body ends with the first zero, after integers that come after these
pub record Ended (body : List LineToken) (lits all : List ℤ) : Type 0 where
  pub front : List LineToken
  pub last : LineToken
  pub split : body ≡ front ++ last ∷ []
  pub goes_on : AllGoOn front
  pub ends : part_of last ≡ number (pos 0)
  pub is : all ≡ lits ++ numbers front

one_more : (lits all : List ℤ) (t : LineToken) (z : ℤ) (front : List LineToken) → part_of t ≡ number z → all ≡ (lits ++ z ∷ []) ++ numbers front → all ≡ lits ++ numbers (t ∷ front)
one_more lits all t z front k e = e ∙ append_assoc lits (z ∷ []) (numbers front) ∙ ap (λ p. lits ++ onto_numbers p (numbers front)) (sym k)

longer : (len : ℕ) (t : LineToken) (ts : List LineToken) (place : ℕ) → GoesOn (part_of t) → FirstBad len ts place → FirstBad len (t ∷ ts) place
longer len t ts place g (at_strange b) = at_strange (record { front = t ∷ b.front; bad = b.bad; rest = b.rest; split = ap (λ l. t ∷ l) b.split; goes_on = (g, b.goes_on); is_strange = b.is_strange; at = b.at })
longer len t ts place g (behind_zero b) = behind_zero (record { front = t ∷ b.front; zero = b.zero; bad = b.bad; rest = b.rest; split = ap (λ l. t ∷ l) b.split; goes_on = (g, b.goes_on); ends = b.ends; at = b.at })
longer len t ts place g (at_end b) = at_end (record { goes_on = (g, b.goes_on); at = b.at })

module _ (len : ℕ) where
  abbrev EndsSo : List LineToken → Type 0
  EndsSo ts = (lits all : List ℤ) → scan len lits ts ≡ whole all → Ended ts lits all

  last_ended : (t : LineToken) (ts : List LineToken) (lits all : List ℤ) → part_of t ≡ number (pos 0) → scan_end lits ts ≡ whole all → Ended (t ∷ ts) lits all
  last_ended t [] lits all k g = let same : lits ≡ all = cc (g) in record { front = []; last = t; split = refl; goes_on = tt; ends = k; is = sym same ∙ sym (append-nil lits) }
  last_ended t (u ∷ us) lits all k g = cc

  more_ended : (t : LineToken) (ts : List LineToken) (lits all : List ℤ) (z : ℤ) → part_of t ≡ number z → z ≢ pos 0 → Ended ts (lits ++ z ∷ []) all → Ended (t ∷ ts) lits all
  more_ended t ts lits all z k n w = record { front = t ∷ w.front; last = w.last; split = ap (λ l. t ∷ l) w.split; goes_on = (subst GoesOn (sym k) n, w.goes_on); ends = w.ends; is = one_more lits all t z w.front k w.is }

  ended_step : (t : LineToken) (ts : List LineToken) → EndsSo ts → (lits all : List ℤ) (p : Part) → part_of t ≡ p → at_part t.place lits ts (λ more. scan len more ts) p ≡ whole all → Ended (t ∷ ts) lits all
  ended_step t ts more lits all mark k f =
      let w = more lits all f in
      record { front = t ∷ w.front; last = w.last; split = ap (λ l. t ∷ l) w.split; goes_on = (subst GoesOn (sym k) tt, w.goes_on); ends = w.ends; is = w.is ∙ ap (λ p. lits ++ onto_numbers p (numbers w.front)) (sym k) }
  ended_step t ts more lits all (number (pos zero)) k f = last_ended t ts lits all k f
  ended_step t ts more lits all (number (pos (suc n))) k f = more_ended t ts lits all (pos (suc n)) k (pos_not_zero n) (more (lits ++ pos (suc n) ∷ []) all f)
  ended_step t ts more lits all (number (negsuc n)) k f = more_ended t ts lits all (negsuc n) k (neg_not_zero n) (more (lits ++ negsuc n ∷ []) all f)
  ended_step t ts more lits all strange k f = cc

  ends_so : (body : List LineToken) → EndsSo body
  ends_so [] lits all e = cc
  ends_so (t ∷ ts) lits all e = ended_step t ts (ends_so ts) lits all (part_of t) refl e

  abbrev BadSo : List LineToken → Type 0
  BadSo ts = (lits : List ℤ) (place : ℕ) → scan len lits ts ≡ bad place → FirstBad len ts place

  bad_end : (t : LineToken) (ts : List LineToken) (lits : List ℤ) (place : ℕ) → part_of t ≡ number (pos 0) → scan_end lits ts ≡ bad place → FirstBad len (t ∷ ts) place
  bad_end t [] lits place k g = cc
  bad_end t (u ∷ us) lits place k g = let same : u.place ≡ place = cc (g) in behind_zero (record { front = []; zero = t; bad = u; rest = us; split = refl; goes_on = tt; ends = k; at = sym same })

  bad_step : (t : LineToken) (ts : List LineToken) → BadSo ts → (lits : List ℤ) (place : ℕ) (p : Part) → part_of t ≡ p → at_part t.place lits ts (λ more. scan len more ts) p ≡ bad place → FirstBad len (t ∷ ts) place
  bad_step t ts more lits place mark k f = longer len t ts place (subst GoesOn (sym k) tt) (more lits place f)
  bad_step t ts more lits place (number (pos zero)) k f = bad_end t ts lits place k f
  bad_step t ts more lits place (number (pos (suc n))) k f = longer len t ts place (subst GoesOn (sym k) (pos_not_zero n)) (more (lits ++ pos (suc n) ∷ []) place f)
  bad_step t ts more lits place (number (negsuc n)) k f = longer len t ts place (subst GoesOn (sym k) (neg_not_zero n)) (more (lits ++ negsuc n ∷ []) place f)
  bad_step t ts more lits place strange k f = let same : t.place ≡ place = cc (f) in at_strange (record { front = []; bad = t; rest = ts; split = refl; goes_on = tt; is_strange = k; at = sym same })

  bad_so : (body : List LineToken) → BadSo body
  bad_so [] lits place e = let same : len ≡ place = cc (e) in at_end (record { goes_on = tt; at = sym same })
  bad_so (t ∷ ts) lits place e = bad_step t ts (bad_so ts) lits place (part_of t) refl e

pub ended_of : (len : ℕ) (lits : List ℤ) (body : List LineToken) (all : List ℤ) → scan len lits body ≡ whole all → Ended body lits all
ended_of len lits body all e = ends_so len body lits all e

pub bad_of : (len : ℕ) (lits : List ℤ) (body : List LineToken) (place : ℕ) → scan len lits body ≡ bad place → FirstBad len body place
bad_of len lits body place e = bad_so len body lits place e

-- ---- the other way

module _ (len : ℕ) (rest : List LineToken) where
  abbrev PassesSo : List LineToken → Type 0
  PassesSo front = (lits : List ℤ) → scan len lits (front ++ rest) ≡ scan len (lits ++ numbers front) rest

  pass_step : (t : LineToken) (ts : List LineToken) → PassesSo ts → (lits : List ℤ) (p : Part) → GoesOn p → at_part t.place lits (ts ++ rest) (λ more. scan len more (ts ++ rest)) p ≡ scan len (lits ++ onto_numbers p (numbers ts)) rest
  pass_step t ts more lits mark g = more lits
  pass_step t ts more lits (number (pos zero)) g = absurd (g refl)
  pass_step t ts more lits (number (pos (suc n))) g = more (lits ++ pos (suc n) ∷ []) ∙ ap (λ l. scan len l rest) (append_assoc lits (pos (suc n) ∷ []) (numbers ts))
  pass_step t ts more lits (number (negsuc n)) g = more (lits ++ negsuc n ∷ []) ∙ ap (λ l. scan len l rest) (append_assoc lits (negsuc n ∷ []) (numbers ts))
  pass_step t ts more lits strange g = absurd g

  passes_so : (front : List LineToken) → AllGoOn front → PassesSo front
  passes_so [] h lits = ap (λ l. scan len l rest) (sym (append-nil lits))
  passes_so (t ∷ ts) h lits = pass_step t ts (passes_so ts h.1) lits (part_of t) h.0

pub scan_front : (len : ℕ) (lits : List ℤ) (front rest : List LineToken) → AllGoOn front → scan len lits (front ++ rest) ≡ scan len (lits ++ numbers front) rest
scan_front len lits front rest h = passes_so len rest front h lits

pub scan_whole : (len : ℕ) (front : List LineToken) (last : LineToken) → AllGoOn front → part_of last ≡ number (pos 0) → scan len [] (front ++ last ∷ []) ≡ whole (numbers front)
scan_whole len front last h k = scan_front len [] front (last ∷ []) h ∙ ap (at_part last.place (numbers front) [] (λ more. bad len)) k

pub scan_bad : (len : ℕ) (body : List LineToken) (place : ℕ) → FirstBad len body place → scan len [] body ≡ bad place
scan_bad len body place (at_strange b) =
    ap (scan len []) b.split ∙ scan_front len [] b.front (b.bad ∷ b.rest) b.goes_on ∙ ap (at_part b.bad.place (numbers b.front) b.rest (λ more. scan len more b.rest)) b.is_strange ∙ ap bad (sym b.at)
scan_bad len body place (behind_zero b) =
    ap (scan len []) b.split ∙ scan_front len [] b.front (b.zero ∷ b.bad ∷ b.rest) b.goes_on
    ∙ ap (at_part b.zero.place (numbers b.front) (b.bad ∷ b.rest) (λ more. scan len more (b.bad ∷ b.rest))) b.ends ∙ ap bad (sym b.at)
scan_bad len body place (at_end b) = ap (scan len []) (sym (append-nil body)) ∙ scan_front len [] body [] b.goes_on ∙ ap bad (sym b.at)
