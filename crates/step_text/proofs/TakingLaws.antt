-- Parts of a step one after another.
use Rattle.std.proofs.Common.{◌≡◌, refl, sym, ap, ◌∙◌, subst, ℕ, ◌<◌, zero, suc, ℤ, pos, negsuc, List, [], ◌∷◌, ◌++◌, map, flat_map, append_assoc, append-nil, arith}
use Rattle.std.specs.List.{AllByRecursion}
use Rattle.std.proofs.lemmas.List.{map-append}
use Rattle.std.proofs.lemmas.Grind.{flat_map-append}
use Rattle.cx_texts.specs.Words.{Word, number, letter, conflict, other, Placed, words}
use Rattle.cx_texts.specs.Grammar.{Field, id, integer, end, ids, integers, pairs, both_ids, spelled, IsProper}
use Rattle.cx_base.specs.declared.id_moves.IdMove.{IdMove}
use Rattle.cx_texts.proofs.Shapes.{Kind, an_id, some_ids, some_integers, some_pairs, kind, Move, closes, stays, opens, refuses, move}
use Rattle.cx_texts.proofs.Remaining.{behind, after_word, remaining, remaining-more, all_passed, ids_stay, integers_stay, pairs_stay}
use Rattle.cx_base.proofs.Elements.{all_append}
use Rattle.step_text.specs.declared.source.TextRefusal.{TextRefusal}
use Rattle.step_text.specs.declared.source.TextRefusal.TheVariants.{BadToken, Unterminated, TooBig, TooLong, Memory, Failed}
use Rattle.step_text.specs.Taking.{AreSmall, Takes, fields_of_pair, fields_of_pairs, IsFit, HeadFails, MayGoOn, RefusedIn}

words-append : (a b : List Placed) → words (a ++ b) ≡ words a ++ words b
words-append a b = map-append _ a b

-- ---- what was taken in a row

pub takes_append : (fs gs : List Field) (a b c : List Placed) → Takes fs a b → Takes gs b c → Takes (fs ++ gs) a c
takes_append fs gs a b c x y = record {
  front = x.front ++ y.front;
  split = x.split ∙ ap (λ r. x.front ++ r) y.split ∙ sym (append_assoc x.front y.front c);
  proper = all_append IsProper fs gs x.proper y.proper;
  spells = flat_map-append spelled fs gs ∙ (λ i. x.spells i ++ y.spells i) ∙ sym (words-append x.front y.front);
  within = all_append _ x.front y.front x.within y.within;
}

spelled_integers : (zs : List ℤ) → flat_map spelled (map integer zs) ≡ map number zs
spelled_integers [] = refl
spelled_integers (z ∷ zs) = ap (λ ws. number z ∷ ws) (spelled_integers zs)

spelled_ids : (ns : List ℕ) → flat_map spelled (map id ns) ≡ map number (map pos ns)
spelled_ids [] = refl
spelled_ids (n ∷ ns) = ap (λ ws. number (pos n) ∷ ws) (spelled_ids ns)

all_proper : {T : Type 0} (field : T → Field) (ts : List T) → AllByRecursion IsProper (map field ts) → AllByRecursion (λ t. IsProper (field t)) ts
all_proper field [] h = tt
all_proper field (t ∷ ts) h = (h.0, all_proper field ts h.1)

-- a list is its members and the zero
closed : (list : Field) (members : List Field) → (AllByRecursion IsProper members → IsProper list) → spelled list ≡ flat_map spelled members ++ number (pos 0) ∷ []
    → (a b c : List Placed) → Takes members a b → Takes (end ∷ []) b c → Takes (list ∷ []) a c
closed list members proper is a b c x y =
    let t = takes_append members (end ∷ []) a b c x y in
    record {
      front = t.front;
      split = t.split;
      proper = (proper x.proper, tt);
      spells = append-nil (spelled list) ∙ is ∙ sym (flat_map-append spelled members (end ∷ [])) ∙ t.spells;
      within = t.within;
    }

pub closed_integers : (zs : List ℤ) (a b c : List Placed) → Takes (map integer zs) a b → Takes (end ∷ []) b c → Takes (integers zs ∷ []) a c
closed_integers zs = closed (integers zs) (map integer zs) (all_proper integer zs) (ap (λ ws. ws ++ number (pos 0) ∷ []) (sym (spelled_integers zs)))

pub closed_ids : (ns : List ℕ) (a b c : List Placed) → Takes (map id ns) a b → Takes (end ∷ []) b c → Takes (ids ns ∷ []) a c
closed_ids ns = closed (ids ns) (map id ns) (all_proper id ns) (ap (λ ws. ws ++ number (pos 0) ∷ []) (sym (spelled_ids ns)))

pub one_more : {T : Type 0} (field : T → Field) (ts : List T) (t : T) (a b c : List Placed) → Takes (map field ts) a b → Takes (field t ∷ []) b c → Takes (map field (ts ++ t ∷ [])) a c
one_more field ts t a b c x y = subst (λ fs. Takes fs a c) (sym (map-append field ts (t ∷ []))) (takes_append (map field ts) (field t ∷ []) a b c x y)

pub more_integers : (zs more all : List ℤ) (a b c : List Placed) → all ≡ zs ++ more → Takes (map integer zs) a b → Takes (map integer more) b c → Takes (map integer all) a c
more_integers zs more all a b c e x y = subst (λ fs. Takes fs a c) (sym (ap (map integer) e ∙ map-append integer zs more)) (takes_append (map integer zs) (map integer more) a b c x y)

-- ---- what may follow

remaining-words : (rows : List (List Kind)) (a b : List Placed) (next : List (List Kind)) → remaining rows (words a) ≡ next → remaining rows (words (a ++ b)) ≡ remaining next (words b)
remaining-words rows a b next e = ap (remaining rows) (words-append a b) ∙ remaining-more rows (words a) (words b) ∙ ap (λ r. remaining r (words b)) e

-- after words that fit, what is refused there is refused
pub refused_behind : (rows next : List (List Kind)) (size : ℕ) (r : TextRefusal) (front a b : List Placed) → a ≡ front ++ b → AreSmall front → remaining rows (words front) ≡ next
    → RefusedIn next size r b → RefusedIn rows size r a
refused_behind rows next size (BadToken place) front a b e w k h =
    let m = remaining-words rows front h.front next k in
    record {
      front = front ++ h.front;
      bad = h.bad;
      rest = h.rest;
      split = e ∙ ap (λ x. front ++ x) h.split ∙ sym (append_assoc front h.front (h.bad ∷ h.rest));
      at = h.at;
      unfinished = subst MayGoOn (sym m) h.unfinished;
      within = all_append _ front h.front w h.within;
      fits_not = ap (flat_map (after_word h.bad.word)) m ∙ h.fits_not;
    }
refused_behind rows next size (TooBig place) front a b e w k h =
    let m = remaining-words rows front h.front next k in
    record {
      front = front ++ h.front;
      big = h.big;
      rest = h.rest;
      split = e ∙ ap (λ x. front ++ x) h.split ∙ sym (append_assoc front h.front (h.big ∷ h.rest));
      at = h.at;
      within = all_append _ front h.front w h.within;
      fits = (h.fits.0, h.fits.1, ap (flat_map (after_word h.big.word)) m ∙ h.fits.2);
      above = h.above;
    }
refused_behind rows next size (Unterminated place) front a b e w k h = (
  h.0,
  subst MayGoOn (sym (ap (λ x. remaining rows (words x)) e ∙ remaining-words rows front b next k)) h.1,
  subst (AreSmall) (sym e) (all_append _ front b w h.2),
)
refused_behind rows next size TooLong front a b e w k h = absurd h
refused_behind rows next size Memory front a b e w k h = tt
refused_behind rows next size Failed front a b e w k h = absurd h

pub refused_then : (fs : List Field) (rows next : List (List Kind)) (size : ℕ) (r : TextRefusal) (a b : List Placed) → Takes fs a b → remaining rows (flat_map spelled fs) ≡ next
    → RefusedIn next size r b → RefusedIn rows size r a
refused_then fs rows next size r a b t k h = refused_behind rows next size r t.front a b t.split t.within (ap (remaining rows) (sym t.spells) ∙ k) h

-- ---- the first word

abbrev pub Refuses : Word → List Kind → Type 0
Refuses w [] = Unit {0}
Refuses w (k ∷ ks) = move k w ≡ refuses

pub none_after : (w : Word) (rows : List (List Kind)) → AllByRecursion (Refuses w) rows → flat_map (after_word w) rows ≡ []
none_after w [] h = refl
none_after w ([] ∷ rows) h = none_after w rows h.1
none_after w ((k ∷ ks) ∷ rows) h = ap (λ m. behind k ks m ++ flat_map (after_word w) rows) h.0 ∙ none_after w rows h.1

pub some_behind : (k : Kind) (ks : List Kind) (m : Move) (more : List (List Kind)) → IsFit m → (row : List Kind) × (rows : List (List Kind)) × (behind k ks m ++ more ≡ row ∷ rows)
some_behind k ks (closes f) more h = (ks, more, refl)
some_behind k ks (stays z) more h = (k ∷ ks, more, refl)
some_behind k ks (opens n) more h = (an_id ∷ k ∷ ks, more, refl)
some_behind k ks refuses more h = absurd h

-- other lists of kinds refuse the first word where the kind does
abbrev pub Others : Kind → List (List Kind) → List Placed → Type 0
Others k more a = (p : Placed) (rest : List Placed) → a ≡ p ∷ rest → move k p.word ≡ refuses → AllByRecursion (Refuses p.word) more

pub head_refused : (k : Kind) (ks : List Kind) (more : List (List Kind)) (size : ℕ) (r : TextRefusal) (a : List Placed) → Others k more a → HeadFails k size r a → RefusedIn ((k ∷ ks) ∷ more) size r a
head_refused k ks more size (BadToken place) a others (p, rest, split, at, bad) = record {
  front = [];
  bad = p;
  rest = rest;
  split = split;
  at = at;
  unfinished = tt;
  within = tt;
  fits_not = none_after p.word ((k ∷ ks) ∷ more) (bad, others p rest split bad);
}
head_refused k ks more size (TooBig place) a others (p, rest, split, at, fits, above) = record {
  front = [];
  big = p;
  rest = rest;
  split = split;
  at = at;
  within = tt;
  fits = some_behind k ks (move k p.word) (flat_map (after_word p.word) more) fits;
  above = above;
}
head_refused k ks more size (Unterminated place) a others h = (h.1, subst (λ x. MayGoOn (remaining ((k ∷ ks) ∷ more) (words x))) (sym h.0) tt, subst (AreSmall) (sym h.0) tt)
head_refused k ks more size TooLong a others h = absurd h
head_refused k ks more size Memory a others h = absurd h
head_refused k ks more size Failed a others h = absurd h

pub one_refused : (k : Kind) (ks : List Kind) (size : ℕ) (r : TextRefusal) (a : List Placed) → HeadFails k size r a → RefusedIn ((k ∷ ks) ∷ []) size r a
one_refused k ks size r a h = head_refused k ks [] size r a (λ p rest e b. tt) h

-- ---- lists

pub ids_refused : (ns : List ℕ) (size : ℕ) (r : TextRefusal) (a b : List Placed) → Takes (map id ns) a b → HeadFails some_ids size r b → (ks : List Kind) → RefusedIn ((some_ids ∷ ks) ∷ []) size r a
ids_refused ns size r a b t h ks = refused_then (map id ns) ((some_ids ∷ ks) ∷ []) ((some_ids ∷ ks) ∷ []) size r a b t (ap (remaining ((some_ids ∷ ks) ∷ [])) (spelled_ids ns) ∙ ids_stay ns ks (all_proper id ns t.proper)) (one_refused some_ids ks size r b h)

pub integers_refused : (zs : List ℤ) (size : ℕ) (r : TextRefusal) (a b : List Placed) → Takes (map integer zs) a b → HeadFails some_integers size r b → (ks : List Kind) → RefusedIn ((some_integers ∷ ks) ∷ []) size r a
integers_refused zs size r a b t h ks = refused_then (map integer zs) ((some_integers ∷ ks) ∷ []) ((some_integers ∷ ks) ∷ []) size r a b t (ap (remaining ((some_integers ∷ ks) ∷ [])) (spelled_integers zs) ∙ integers_stay zs ks (all_proper integer zs t.proper)) (one_refused some_integers ks size r b h)

-- ---- pairs

spelled_pairs : (ms : List IdMove) → flat_map spelled (fields_of_pairs ms) ≡ map number (flat_map both_ids ms)
spelled_pairs [] = refl
spelled_pairs (m ∷ ms) = ap (λ ws. number (pos m.from) ∷ number (pos m.to) ∷ ws) (spelled_pairs ms)

pairs_proper : (ms : List IdMove) → AllByRecursion IsProper (fields_of_pairs ms) → AllByRecursion (λ m. (0 < m.from) × (0 < m.to)) ms
pairs_proper [] h = tt
pairs_proper (m ∷ ms) h = ((h.0, h.1.0), pairs_proper ms h.1.1)

pub closed_pairs : (ms : List IdMove) (a b c : List Placed) → Takes (fields_of_pairs ms) a b → Takes (end ∷ []) b c → Takes (pairs ms ∷ []) a c
closed_pairs ms = closed (pairs ms) (fields_of_pairs ms) (pairs_proper ms) (ap (λ ws. ws ++ number (pos 0) ∷ []) (sym (spelled_pairs ms)))

pub one_more_pair : (ms : List IdMove) (m : IdMove) (a b c d : List Placed) → Takes (fields_of_pairs ms) a b → Takes (id m.from ∷ []) b c → Takes (id m.to ∷ []) c d → Takes (fields_of_pairs (ms ++ m ∷ [])) a d
one_more_pair ms m a b c d x y z =
    subst (λ fs. Takes fs a d) (sym (flat_map-append fields_of_pair ms (m ∷ [])))
    (takes_append (fields_of_pairs ms) (fields_of_pair m) a b d x (takes_append (id m.from ∷ []) (id m.to ∷ []) b c d y z))

pub more_pairs : (ms more all : List IdMove) (a b c : List Placed) → all ≡ ms ++ more → Takes (fields_of_pairs ms) a b → Takes (fields_of_pairs more) b c → Takes (fields_of_pairs all) a c
more_pairs ms more all a b c e x y =
    subst (λ fs. Takes fs a c) (sym (ap fields_of_pairs e ∙ flat_map-append fields_of_pair ms more)) (takes_append (fields_of_pairs ms) (fields_of_pairs more) a b c x y)

-- a list of ids refuses the words that a list of pairs does
pair_refuses : (w : Word) → move some_ids w ≡ refuses → move some_pairs w ≡ refuses
pair_refuses (number (pos zero)) h = cc
pair_refuses (number (pos (suc n))) h = cc
pair_refuses (number (negsuc n)) h = refl
pair_refuses (letter c) h = refl
pair_refuses (conflict k) h = refl
pair_refuses other h = refl

pair_fits : (w : Word) → IsFit (move some_ids w) → IsFit (move some_pairs w)
pair_fits (number (pos zero)) h = tt
pair_fits (number (pos (suc n))) h = tt
pair_fits (number (negsuc n)) h = h
pair_fits (letter c) h = h
pair_fits (conflict k) h = h
pair_fits other h = h

pair_fails : (size : ℕ) (r : TextRefusal) (a : List Placed) → HeadFails some_ids size r a → HeadFails some_pairs size r a
pair_fails size (BadToken place) a (p, rest, split, at, bad) = (p, rest, split, at, pair_refuses p.word bad)
pair_fails size (TooBig place) a (p, rest, split, at, fits, above) = (p, rest, split, at, pair_fits p.word fits, above)
pair_fails size (Unterminated place) a h = h
pair_fails size TooLong a h = h
pair_fails size Memory a h = h
pair_fails size Failed a h = h

stay : (ms : List IdMove) (ks : List Kind) (a b : List Placed) → Takes (fields_of_pairs ms) a b → remaining ((some_pairs ∷ ks) ∷ []) (flat_map spelled (fields_of_pairs ms)) ≡ (some_pairs ∷ ks) ∷ []
stay ms ks a b t = ap (remaining ((some_pairs ∷ ks) ∷ [])) (spelled_pairs ms) ∙ pairs_stay ms ks (pairs_proper ms t.proper)

pub pairs_refused : (ms : List IdMove) (size : ℕ) (r : TextRefusal) (a b : List Placed) → Takes (fields_of_pairs ms) a b → HeadFails some_ids size r b → (ks : List Kind) → RefusedIn ((some_pairs ∷ ks) ∷ []) size r a
pairs_refused ms size r a b t h ks = refused_then (fields_of_pairs ms) ((some_pairs ∷ ks) ∷ []) ((some_pairs ∷ ks) ∷ []) size r a b t (stay ms ks a b t) (one_refused some_pairs ks size r b (pair_fails size r b h))

opened : (n : ℕ) (ks : List Kind) → 0 < n → remaining ((some_pairs ∷ ks) ∷ []) (number (pos n) ∷ []) ≡ (an_id ∷ some_pairs ∷ ks) ∷ []
opened zero ks h = absurd (omega arith)
opened (suc n) ks h = refl

-- the second id of a pair is missing
pub second_refused : (ms : List IdMove) (n size : ℕ) (r : TextRefusal) (a b c : List Placed) → Takes (fields_of_pairs ms) a b → Takes (id n ∷ []) b c → HeadFails an_id size r c → (ks : List Kind) → RefusedIn ((some_pairs ∷ ks) ∷ []) size r a
second_refused ms n size r a b c t s h ks =
    refused_then (fields_of_pairs ms) ((some_pairs ∷ ks) ∷ []) ((some_pairs ∷ ks) ∷ []) size r a b t (stay ms ks a b t)
    (refused_then (id n ∷ []) ((some_pairs ∷ ks) ∷ []) ((an_id ∷ some_pairs ∷ ks) ∷ []) size r b c s (opened n ks s.proper.0) (one_refused an_id (some_pairs ∷ ks) size r c h))

-- ---- fields in a row

-- after fields that were taken, what is refused there is refused
pub refused_after : (fs : List Field) (ks : List Kind) (size : ℕ) (r : TextRefusal) (a b : List Placed) → Takes fs a b → RefusedIn (ks ∷ []) size r b → RefusedIn ((map kind fs ++ ks) ∷ []) size r a
refused_after fs ks size r a b t h = refused_then fs ((map kind fs ++ ks) ∷ []) (ks ∷ []) size r a b t (all_passed fs ks t.proper) h
