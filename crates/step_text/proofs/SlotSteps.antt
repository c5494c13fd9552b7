-- A step in whole tokens of the bytes at hand is the next step of the text, whatever follows.
use Rattle.std.proofs.Common.{◌≡◌, ◌≢◌, refl, sym, ap, ◌∙◌, subst, ℕ, zero, suc, ◌+◌, ◌<◌, ◌≤◌, Bool, true, false, List, [], ◌∷◌, ◌++◌, length, take, drop, arith, append_assoc, append-nil, length-append, length-take, take-append-drop}
use Rattle.std.proofs.lemmas.List.{map-append, drop-append-le, drop_all}
use Rattle.cx_texts.specs.Tokens.{Token, tokens_within}
use Rattle.cx_texts.specs.Pieces.{EndsBlank, tokens_in, line_behind}
use Rattle.cx_texts.specs.declared.line_state.LineState.{LineState}
use Rattle.cx_texts.specs.declared.line_state.LineState.TheVariants.{Kept}
use Rattle.cx_texts.specs.Words.{Placed, words, placed_words, word_of}
use Rattle.cx_texts.specs.Grammar.{Grammar, IsStep, IsClosed, Stops, Spells, FirstBad, FirstBig}
use Rattle.cx_texts.proofs.Forms.{Forms}
use Rattle.cx_texts.proofs.Readings.{no_step_of_nothing}
use Rattle.cx_texts.specs.declared.line_state.EndLines.TheVariants as end_line
use Rattle.cx_texts.proofs.PieceLaws.{cut_behind_blank, left_behind_blank, tokens_in-nothing, StandsAt, left_from_token}
use Rattle.step_text.specs.declared.source.TextRefusal.{TextRefusal}
use Rattle.step_text.specs.declared.source.TextRefusal.TheVariants.{BadToken, Unterminated, TooBig, TooLong, Memory, Failed}
use Rattle.step_text.specs.Heads.{head_place}
use Rattle.step_text.specs.Reading.{IsRefusal}
use Rattle.step_text.specs.Found.{FoundStep}

-- ---- words that are followed by others

abbrev placed_of : Token → Placed
placed_of t = record { place = t.place; word = word_of t.text }

pub placed-append : (a b : List Token) → placed_words (a ++ b) ≡ placed_words a ++ placed_words b
placed-append a b = map-append placed_of a b

module _ {S : Type 0} (g : Grammar S) where
  spells_more : (s : S) (old : List Placed) (next : Placed) (new more : List Placed) → Spells g s old (next ∷ new) → Spells g s (old ++ more) ((next ∷ new) ++ more)
  spells_more s old next new more h = record {
    front = h.front;
    split = ap (λ ps. ps ++ more) h.split ∙ append_assoc h.front (next ∷ new) more;
    step = h.step;
    within = h.within;
    stops = h.stops;
  }

  bad_more : (old more : List Placed) (place : ℕ) → FirstBad g old place → FirstBad g (old ++ more) place
  bad_more old more place h = record {
    front = h.front;
    bad = h.bad;
    rest = h.rest ++ more;
    split = ap (λ ps. ps ++ more) h.split ∙ append_assoc h.front (h.bad ∷ h.rest) more;
    at = h.at;
    unfinished = h.unfinished;
    within = h.within;
    fits_not = h.fits_not;
  }

  big_more : (old more : List Placed) (place : ℕ) → FirstBig g old place → FirstBig g (old ++ more) place
  big_more old more place h = record {
    front = h.front;
    big = h.big;
    rest = h.rest ++ more;
    split = ap (λ ps. ps ++ more) h.split ∙ append_assoc h.front (h.big ∷ h.rest) more;
    at = h.at;
    within = h.within;
    fits = h.fits;
    above = h.above;
  }

-- ---- tokens by their words

-- the token of a word, with those before it and after it
record TokenOf (tokens : List Token) (front : List Placed) (word : Placed) (rest : List Placed) : Type 0 where
  before : List Token
  token : Token
  others : List Token
  split : tokens ≡ before ++ token ∷ others
  words_before : placed_words before ≡ front
  word_at : placed_of token ≡ word
  words_behind : placed_words others ≡ rest

token_of_word : (tokens : List Token) (front : List Placed) (word : Placed) (rest : List Placed) → placed_words tokens ≡ front ++ word ∷ rest → TokenOf tokens front word rest
token_of_word [] [] word rest h = cc
token_of_word [] (p ∷ front) word rest h = cc
token_of_word (t ∷ tokens) [] word rest h = record {
  before = [];
  token = t;
  others = tokens;
  split = refl;
  words_before = refl;
  word_at = (let e : placed_of t ≡ word = cc (h) in e);
  words_behind = (let e : placed_words tokens ≡ rest = cc (h) in e);
}
token_of_word (t ∷ tokens) (p ∷ front) word rest h =
    let first : placed_of t ≡ p = cc (h) in
    let m = token_of_word tokens front word rest (let e : placed_words tokens ≡ front ++ word ∷ rest = cc (h) in e) in
    record {
      before = t ∷ m.before;
      token = m.token;
      others = m.others;
      split = ap (λ ts. t ∷ ts) m.split;
      words_before = (λ i. first i ∷ m.words_before i);
      word_at = m.word_at;
      words_behind = m.words_behind;
    }

none_before : (before : List Token) (token : Token) (others : List Token) → token ∷ others ≡ before ++ token ∷ others → before ≡ []
none_before [] token others e = refl
none_before (b ∷ before) token others e = absurd (omega (arith, ap length e, length-append (b ∷ before) (token ∷ others)))

-- ---- the bytes at hand and what may follow them

-- only whole tokens are looked at
pub record LooksAt (ended : Bool) (place len : ℕ) (bytes : List ℕ) (tokens : List Token) : Type 0 where
  pub within : len ≤ length bytes
  pub all : ended ≡ true → len ≡ length bytes
  pub blank : ended ≡ false → EndsBlank (take len bytes)
  pub are : tokens ≡ tokens_within place (take len bytes)

take_whole : (len : ℕ) (bytes : List ℕ) → len ≡ length bytes → take len bytes ≡ bytes
take_whole len bytes e = sym (append-nil (take len bytes)) ∙ ap (λ b. take len bytes ++ b) (sym (drop_all len bytes (omega (arith, e)))) ∙ take-append-drop len bytes

module _ (ended : Bool) (place len : ℕ) (bytes : List ℕ) (tokens : List Token) (look : LooksAt ended place len bytes tokens) where
  abbrev More : List ℕ → Type 0
  More more = (behind : List Token) × (tokens_within place (bytes ++ more) ≡ tokens ++ behind)

  -- what is left after them
  abbrev left_then : List ℕ → List Token
  left_then more = tokens_in (line_behind Kept (take len bytes)) (place + len) (drop len bytes ++ more)

  behind_all : (more : List ℕ) → (ended ≡ true → more ≡ []) → tokens_within place (bytes ++ more) ≡ tokens ++ left_then more
  behind_all more none = go ended refl
    where
      go : (x : Bool) → ended ≡ x → tokens_within place (bytes ++ more) ≡ tokens ++ left_then more
      go true e =
          let whole : take len bytes ≡ bytes = take_whole len bytes (look.all e) in
          let no_bytes : drop len bytes ++ more ≡ [] = (λ i. drop_all len bytes (omega (arith, look.all e)) i ++ none e i) in
          let nothing : left_then more ≡ [] = ap (tokens_in (line_behind Kept (take len bytes)) (place + len)) no_bytes ∙ tokens_in-nothing (line_behind Kept (take len bytes)) (place + len) in
          ap (tokens_within place) (ap (λ m. bytes ++ m) (none e) ∙ append-nil bytes ∙ sym whole) ∙ sym look.are ∙ sym (append-nil tokens) ∙ ap (λ ts. tokens ++ ts) (sym nothing)
      go false e =
          let long : place + length (take len bytes) ≡ place + len = omega (arith, length-take len bytes, look.within) in
          let are : tokens_within place (take len bytes) ≡ tokens = sym look.are in
          ap (tokens_within place) (ap (λ b. b ++ more) (sym (take-append-drop len bytes)) ∙ append_assoc (take len bytes) (drop len bytes) more)
          ∙ left_behind_blank Kept place (take len bytes) (drop len bytes ++ more) (look.blank e)
          ∙ (λ i. are i ++ tokens_in (line_behind Kept (take len bytes)) (long i) (drop len bytes ++ more))

  pub followed : (more : List ℕ) → (ended ≡ true → more ≡ []) → More more
  followed more none = go ended refl
    where
      go : (x : Bool) → ended ≡ x → More more
      go true e = ([], ap (tokens_within place) (ap (λ m. bytes ++ m) (none e) ∙ append-nil bytes ∙ sym (take_whole len bytes (look.all e))) ∙ sym look.are ∙ sym (append-nil tokens))
      go false e =
          let cut = cut_behind_blank end_line.Kept Kept place (take len bytes) (drop len bytes ++ more) (look.blank e) in
          (cut.0, ap (tokens_within place) (ap (λ b. b ++ more) (sym (take-append-drop len bytes)) ∙ append_assoc (take len bytes) (drop len bytes) more) ∙ cut.1 ∙ ap (λ ts. ts ++ cut.0) (sym look.are))

  module _ {S : Type 0} (g : Grammar S) (all : Forms g) where
    -- a refusal that rests on whole tokens
    pub refusal_stays : (size : ℕ) (refusal : TextRefusal) → IsRefusal g size refusal (placed_words tokens) → (ended ≡ false → (at : ℕ) → refusal ≢ Unterminated at) → size ≡ place + len
        → (more : List ℕ) → (ended ≡ true → more ≡ []) → IsRefusal g ((place + length bytes) + length more) refusal (placed_words (tokens_within place (bytes ++ more)))
    refusal_stays size (BadToken at) h open_ends whole more none =
        let f = followed more none in
        subst (λ ps. FirstBad g ps at) (sym (ap placed_words f.1 ∙ placed-append tokens f.0)) (bad_more g (placed_words tokens) (placed_words f.0) at h)
    refusal_stays size (TooBig at) h open_ends whole more none =
        let f = followed more none in
        subst (λ ps. FirstBig g ps at) (sym (ap placed_words f.1 ∙ placed-append tokens f.0)) (big_more g (placed_words tokens) (placed_words f.0) at h)
    refusal_stays size (Unterminated at) h open_ends whole more none = go ended refl
      where
        go : (x : Bool) → ended ≡ x → IsRefusal g ((place + length bytes) + length more) (Unterminated at) (placed_words (tokens_within place (bytes ++ more)))
        go false e = absurd (open_ends e at refl)
        go true e =
            let same : tokens ≡ tokens_within place (bytes ++ more) = look.are ∙ ap (tokens_within place) (take_whole len bytes (look.all e) ∙ sym (ap (λ m. bytes ++ m) (none e) ∙ append-nil bytes)) in
            let long : size ≡ (place + length bytes) + length more = omega (arith, whole, look.all e, ap length (none e)) in
            subst (λ ts. IsRefusal g ((place + length bytes) + length more) (Unterminated at) (placed_words ts)) same (subst (λ n. IsRefusal g n (Unterminated at) (placed_words tokens)) long h)
    refusal_stays size TooLong h open_ends whole more none = absurd h
    refusal_stays size Memory h open_ends whole more none = tt
    refusal_stays size Failed h open_ends whole more none = absurd h

    no_step_at_front : (s : S) (old new : List Placed) (h : Spells g s old new) → h.front ≡ [] → ⊥
    no_step_at_front s old new h e = no_step_of_nothing g all s (subst (λ f. IsStep g (words f) s) e h.step)

    starts_later : (s : S) (next : Token) (rest : List Token) (h : Spells g s (placed_words tokens) (placed_words (next ∷ rest))) (t : TokenOf tokens h.front (placed_of next) (placed_words rest))
        (here : StandsAt end_line.Kept place (take len bytes) t.token t.others) → (k : ℕ) → here.behind ≡ k → 0 < k
    starts_later s next rest h t here (suc k) e = omega arith
    starts_later s next rest h t here zero e =
        let at : place ≡ t.token.place = omega (arith, here.at, e) in
        let left : tokens_within place (take len bytes) ≡ t.token ∷ t.others = (λ i. tokens_within (at i) (drop (sym e i) (take len bytes))) ∙ here.left in
        let front : h.front ≡ [] = sym t.words_before ∙ ap placed_words (none_before t.before t.token t.others (sym left ∙ sym look.are ∙ t.split)) in
        absurd (no_step_at_front s (placed_words tokens) (placed_words (next ∷ rest)) h front)

    -- a step that a token follows
    step_before_token : (s : S) (next : Token) (rest : List Token) → Spells g s (placed_words tokens) (placed_words (next ∷ rest)) → FoundStep g ended place bytes s next.place Kept
    step_before_token s next rest h =
        let t = token_of_word tokens h.front (placed_of next) (placed_words rest) h.split in
        let at : t.token.place ≡ next.place = ap (λ (p : Placed). p.place) t.word_at in
        let here = left_from_token end_line.Kept Kept place (take len bytes) t.before t.token t.others (sym look.are ∙ t.split) in
        let behind : next.place ≡ place + here.behind = sym at ∙ here.at in
        let high : here.behind < len = omega (arith, here.inside, length-take len bytes) in
        let inside : here.behind ≤ length bytes = omega (arith, high, look.within) in
        record {
          behind = here.behind;
          at = behind;
          some = starts_later s next rest h t here here.behind refl;
          inside = inside;
          spells = λ more none.
              let f = followed more none in
              let there = left_from_token end_line.Kept Kept place (bytes ++ more) t.before t.token (t.others ++ f.0) (f.1 ∙ ap (λ ts. ts ++ f.0) t.split ∙ append_assoc t.before (t.token ∷ t.others) f.0) in
              let same : there.behind ≡ here.behind = omega (arith, there.at, here.at) in
              let bytes_left : drop there.behind (bytes ++ more) ≡ drop here.behind bytes ++ more = ap (λ n. drop n (bytes ++ more)) same ∙ drop-append-le here.behind bytes more inside in
              let left : tokens_within next.place (drop here.behind bytes ++ more) ≡ t.token ∷ (t.others ++ f.0) = (λ i. tokens_within (sym at i) (sym bytes_left i)) ∙ there.left in
              let old : placed_words (tokens_within place (bytes ++ more)) ≡ placed_words tokens ++ placed_words f.0 = ap placed_words f.1 ∙ placed-append tokens f.0 in
              let new : placed_words (tokens_within next.place (drop here.behind bytes ++ more)) ≡ placed_words (next ∷ rest) ++ placed_words f.0 =
              ap placed_words left ∙ placed-append (t.token ∷ t.others) f.0 ∙ (λ i. (t.word_at i ∷ t.words_behind i) ++ placed_words f.0) in
              let spells : Spells g s (placed_words tokens ++ placed_words f.0) (placed_words (next ∷ rest) ++ placed_words f.0) = spells_more g s (placed_words tokens) (placed_of next) (placed_words rest) (placed_words f.0) h in
              subst (λ ps. Spells g s (placed_words (tokens_within place (bytes ++ more))) ps) (sym new) (subst (λ ps. Spells g s ps (placed_words (next ∷ rest) ++ placed_words f.0)) (sym old) spells);
        }

    -- a step after which no token is read yet: the text ends there, or no word can go on with the step
    step_before_gap : (s : S) → (ended ≡ false → IsClosed g s) → Spells g s (placed_words tokens) [] → FoundStep g ended place bytes s (place + len) (line_behind Kept (take len bytes))
    step_before_gap s closed h = record {
      behind = len;
      at = refl;
      some = some_bytes len refl;
      inside = look.within;
      spells = λ more none.
          let all : placed_words (tokens_within place (bytes ++ more)) ≡ placed_words tokens ++ placed_words (left_then more) = ap placed_words (behind_all more none) ∙ placed-append tokens (left_then more) in
          record {
            front = h.front;
            split = all ∙ ap (λ ps. ps ++ placed_words (left_then more)) (h.split ∙ append-nil h.front);
            step = h.step;
            within = h.within;
            stops = stops more none ended refl (left_then more) refl;
          };
    }
      where
        stops : (more : List ℕ) → (ended ≡ true → more ≡ []) → (x : Bool) → ended ≡ x → (rest : List Token) → left_then more ≡ rest → Stops g (words h.front) (placed_words rest)
        stops more none x e [] is = tt
        stops more none false e (t ∷ rest) is = closed e (words h.front) (placed_of t).word h.step
        stops more none true e (t ∷ rest) is =
            let no_bytes : drop len bytes ++ more ≡ [] = (λ i. drop_all len bytes (omega (arith, look.all e)) i ++ none e i) in
            let nothing : left_then more ≡ [] = ap (tokens_in (line_behind Kept (take len bytes)) (place + len)) no_bytes ∙ tokens_in-nothing (line_behind Kept (take len bytes)) (place + len) in
            let clash : t ∷ rest ≡ [] = sym is ∙ nothing in cc

        some_bytes : (n : ℕ) → len ≡ n → 0 < len
        some_bytes zero e = absurd (no_step_at_front s (placed_words tokens) [] h (sym (h.split ∙ append-nil h.front) ∙ ap placed_words (look.are ∙ ap (λ n. tokens_within place (take n bytes)) e)))
        some_bytes (suc n) e = omega (arith, e)

    -- a step before a token
    pub found_step : (s : S) (new : List Token) (next : ℕ) → Spells g s (placed_words tokens) (placed_words new) → new ≢ [] → next ≡ head_place (place + len) new → FoundStep g ended place bytes s next Kept
    found_step s [] next h some at = absurd (some refl)
    found_step s (n ∷ new) next h some at = subst (λ p. FoundStep g ended place bytes s p Kept) (sym at) (step_before_token s n new h)

    -- a step before a gap
    pub found_last : (s : S) (new : List Token) (line : LineState) → Spells g s (placed_words tokens) (placed_words new) → new ≡ [] → (ended ≡ false → IsClosed g s) → line ≡ line_behind Kept (take len bytes) → FoundStep g ended place bytes s (place + len) line
    found_last s new line h none closed is = subst (FoundStep g ended place bytes s (place + len)) (sym is) (step_before_gap s closed (subst (λ ts. Spells g s (placed_words tokens) (placed_words ts)) none h))

  -- tokens take some bytes
  pub some_bytes : tokens ≢ [] → 0 < length bytes
  some_bytes some = go bytes refl
    where
      go : (bs : List ℕ) → bytes ≡ bs → 0 < length bs
      go [] e = absurd (some (look.are ∙ ap (λ b. tokens_within place (take len b)) e ∙ nothing len))
        where
          nothing : (n : ℕ) → tokens_within place (take n []) ≡ []
          nothing zero = refl
          nothing (suc n) = refl
      go (b ∷ bs) e = omega arith
