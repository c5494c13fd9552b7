-- A text in pieces: byte by byte, cut after a blank, and from the place of a token on.
use Rattle.std.proofs.Common.{◌≡◌, refl, sym, ap, ◌∙◌, subst, ℕ, zero, suc, ◌+◌, ◌<◌, Bool, true, false, cond, List, [], ◌∷◌, ◌++◌, length, take, drop, get_or, arith, true≢false, eqb-true, append_assoc, length-append, ◌==◌}
use Rattle.std.specs.List.{onto_first}
use Rattle.std.proofs.lemmas.List.{drop_more}
use Rattle.cx_texts.specs.Tokens.{Token, is_blank, begins_with, lines_from, tokens_by, with_first_by, tokens_from_by, tokens_within_by, NoBlank, EndsRun}
use Rattle.cx_texts.specs.Pieces.{but_first_by, tokens_in_by, tokens_in, behind_percent, behind_byte, line_of, line_behind, last_is_blank, EndsBlank}
use Rattle.cx_texts.specs.declared.line_state.Behind.{Behind}
use Rattle.cx_texts.specs.declared.line_state.Behind.TheVariants.{Line as in_line, Token as a_token, End as the_end}
use Rattle.cx_texts.specs.declared.line_state.EndLines.{EndLines}
use Rattle.cx_texts.specs.declared.line_state.EndLines.TheVariants as end_line
use Rattle.cx_texts.specs.declared.line_state.LineState.{LineState}
use Rattle.cx_texts.specs.declared.line_state.LineState.TheVariants.{Start, Kept, Comment}
use Rattle.cx_texts.proofs.Lines.{Line, lines-byte, lines-feed}
use Rattle.cx_texts.proofs.TokenLaws.{ends_text, by-none, by-more, empty_line, comment_line, blank_first, within-blank, from-kept, within-run, token_at}

-- ---- one byte

-- what a byte leaves, that a token begins with it, or that it ends the text
abbrev pub Told : EndLines → LineState → ℕ → ℕ → List ℕ → Behind → Type 0
Told rule s p b bs (in_line t) = tokens_in_by rule s p (b ∷ bs) ≡ tokens_in_by rule t (p + 1) bs
Told rule s p b bs a_token = (is_blank b ≡ false) × (tokens_in_by rule s p (b ∷ bs) ≡ tokens_within_by rule p (b ∷ bs))
Told rule s p b bs the_end = tokens_in_by rule s p (b ∷ bs) ≡ []

-- a `%` where a line may begin
pub at_percent : (rule : EndLines) (p b : ℕ) (bs : List ℕ) → is_blank b ≡ false → (b == 99) ≡ false → (b == 37) ≡ true → Told rule Start p b bs (behind_percent rule)
at_percent end_line.Kept p b bs h k m = (h, from-kept end_line.Kept p b bs h k (λ line. refl))
at_percent end_line.End p b bs h k m = ap (λ c. tokens_from_by end_line.End p (c ∷ bs)) (eqb-true b 37 m) ∙ end_first (lines_from (p + 1) bs)
  where
    end_first : (ls : List Line) → tokens_by end_line.End (onto_first (p, 37) ls) ≡ []
    end_first [] = by-more end_line.End ((p, 37) ∷ []) []
    end_first (l ∷ ls) = by-more end_line.End ((p, 37) ∷ l) ls

pub goes_on : (rule : EndLines) (p b : ℕ) → is_blank b ≡ false → (b == 37) ≡ false → (line : Line) → ends_text rule ((p, b) ∷ line) ≡ false
goes_on end_line.Kept p b h m line = refl
goes_on end_line.End p b h m line = ap (λ x. cond x (begins_with 37 line) (b == 37)) h ∙ m

module _ (rule : EndLines) where
  pub blank_at_start : (p b : ℕ) (bs : List ℕ) → is_blank b ≡ true → (x : Bool) → (b == 10) ≡ x → tokens_from_by rule p (b ∷ bs) ≡ tokens_from_by rule (p + 1) bs
  blank_at_start p b bs h true e = ap (tokens_by rule) (lines-feed p b bs e) ∙ empty_line rule (lines_from (p + 1) bs)
  blank_at_start p b bs h false e = ap (tokens_by rule) (lines-byte p b bs e) ∙ blank_first rule p b (lines_from (p + 1) bs) h

  comment_first : (p : ℕ) (ls : List Line) → tokens_by rule (onto_first (p, 99) ls) ≡ but_first_by rule ls
  comment_first p [] = comment_line rule p [] [] ∙ by-none rule
  comment_first p (l ∷ ls) = comment_line rule p l ls

  at_start : (p b : ℕ) (bs : List ℕ) (x : Bool) → is_blank b ≡ x → (y : Bool) → (b == 99) ≡ y → (z : Bool) → (b == 37) ≡ z → Told rule Start p b bs (cond x (in_line Start) (cond y (in_line Comment) (cond z (behind_percent rule) a_token)))
  at_start p b bs true h y k z m = blank_at_start p b bs h (b == 10) refl
  at_start p b bs false h true k z m = ap (λ c. tokens_from_by rule p (c ∷ bs)) (eqb-true b 99 k) ∙ comment_first p (lines_from (p + 1) bs)
  at_start p b bs false h false k true m = at_percent rule p b bs h k m
  at_start p b bs false h false k false m = (h, from-kept rule p b bs h k (goes_on rule p b h m))

  pub within_line : (p b : ℕ) (bs : List ℕ) (x : Bool) → is_blank b ≡ x → (y : Bool) → (b == 10) ≡ y → Told rule Kept p b bs (cond x (cond y (in_line Start) (in_line Kept)) a_token)
  within_line p b bs true h true k = ap (with_first_by rule) (lines-feed p b bs k)
  within_line p b bs true h false k = within-blank rule p b bs h k
  within_line p b bs false h y k = (h, refl)

  dropped_first : (c : ℕ × ℕ) (ls : List Line) → but_first_by rule (onto_first c ls) ≡ but_first_by rule ls
  dropped_first c [] = by-none rule
  dropped_first c (l ∷ ls) = refl

  within_comment : (p b : ℕ) (bs : List ℕ) (y : Bool) → (b == 10) ≡ y → Told rule Comment p b bs (cond y (in_line Start) (in_line Comment))
  within_comment p b bs true k = ap (but_first_by rule) (lines-feed p b bs k)
  within_comment p b bs false k = ap (but_first_by rule) (lines-byte p b bs k) ∙ dropped_first (p, b) (lines_from (p + 1) bs)

  first_byte : (s : LineState) (p b : ℕ) (bs : List ℕ) → Told rule s p b bs (behind_byte rule s b)
  first_byte Start p b bs = at_start p b bs (is_blank b) refl (b == 99) refl (b == 37) refl
  first_byte Kept p b bs = within_line p b bs (is_blank b) refl (b == 10) refl
  first_byte Comment p b bs = within_comment p b bs (b == 10) refl

  pub one_byte : (s t : LineState) (p b : ℕ) (bs : List ℕ) → behind_byte rule s b ≡ in_line t → tokens_in_by rule s p (b ∷ bs) ≡ tokens_in_by rule t (p + 1) bs
  one_byte s t p b bs e = subst (Told rule s p b bs) e (first_byte s p b bs)

  pub token_begins : (s : LineState) (p b : ℕ) (bs : List ℕ) → behind_byte rule s b ≡ a_token → (is_blank b ≡ false) × (tokens_in_by rule s p (b ∷ bs) ≡ tokens_within_by rule p (b ∷ bs))
  token_begins s p b bs e = subst (Told rule s p b bs) e (first_byte s p b bs)

  pub text_ends : (s : LineState) (p b : ℕ) (bs : List ℕ) → behind_byte rule s b ≡ the_end → tokens_in_by rule s p (b ∷ bs) ≡ []
  text_ends s p b bs e = subst (Told rule s p b bs) e (first_byte s p b bs)

  in-nothing : (s : LineState) (p : ℕ) → tokens_in_by rule s p [] ≡ []
  in-nothing Start p = empty_line rule [] ∙ by-none rule
  in-nothing Kept p = by-none rule
  in-nothing Comment p = by-none rule

pub tokens_in-nothing : (s : LineState) (p : ℕ) → tokens_in s p [] ≡ []
tokens_in-nothing = in-nothing end_line.Kept

-- a byte in the midst of a piece, whatever follows the piece
pub byte_passed : (rule : EndLines) (s t : LineState) (piece more : List ℕ) (at place : ℕ) → at < length piece → behind_byte rule s (get_or piece at 0) ≡ in_line t
    → tokens_in_by rule s (place + at) (drop at piece ++ more) ≡ tokens_in_by rule t (place + (at + 1)) (drop (at + 1) piece ++ more)
byte_passed rule s t piece more at place l e =
    ap (λ x. tokens_in_by rule s (place + at) (x ++ more)) (drop_more piece at 0 l)
    ∙ one_byte rule s t (place + at) (get_or piece at 0) (drop (at + 1) piece ++ more) e
    ∙ ap (λ n. tokens_in_by rule t n (drop (at + 1) piece ++ more)) (let n : (place + at) + 1 ≡ place + (at + 1) = omega arith in n)

pub token_stands : (rule : EndLines) (s : LineState) (piece more : List ℕ) (at place : ℕ) → at < length piece → behind_byte rule s (get_or piece at 0) ≡ a_token
    → tokens_in_by rule s (place + at) (drop at piece ++ more) ≡ tokens_within_by rule (place + at) (drop at piece ++ more)
token_stands rule s piece more at place l e =
    let here = drop_more piece at 0 l in
    ap (λ x. tokens_in_by rule s (place + at) (x ++ more)) here
    ∙ (token_begins rule s (place + at) (get_or piece at 0) (drop (at + 1) piece ++ more) e).1
    ∙ ap (λ x. tokens_within_by rule (place + at) (x ++ more)) (sym here)

-- where `%` lines are kept, none ends the text
pub never_ends : (s : LineState) (b : ℕ) → behind_byte end_line.Kept s b ≡ the_end → ⊥
never_ends Start b e = start (is_blank b) (b == 99) (b == 37) e
  where
    start : (x y z : Bool) → cond x (in_line Start) (cond y (in_line Comment) (cond z a_token a_token)) ≡ the_end → ⊥
    start true y z e = cc
    start false true z e = cc
    start false false true e = cc
    start false false false e = cc
never_ends Kept b e = within (is_blank b) (b == 10) e
  where
    within : (x y : Bool) → cond x (cond y (in_line Start) (in_line Kept)) a_token ≡ the_end → ⊥
    within true true e = cc
    within true false e = cc
    within false y e = cc
never_ends Comment b e = comment (b == 10) e
  where
    comment : (y : Bool) → cond y (in_line Start) (in_line Comment) ≡ the_end → ⊥
    comment true e = cc
    comment false e = cc

-- ---- a run

record Run (text : List ℕ) : Type 0 where
  run : List ℕ
  rest : List ℕ
  split : text ≡ run ++ rest
  whole : NoBlank run
  ends : EndsRun rest

run_more : (b : ℕ) (bs : List ℕ) (x : Bool) → is_blank b ≡ x → Run bs → Run (b ∷ bs)
run_more b bs true h r = record { run = []; rest = b ∷ bs; split = refl; whole = tt; ends = h }
run_more b bs false h r = record { run = b ∷ r.run; rest = r.rest; split = ap (λ t. b ∷ t) r.split; whole = (h, r.whole); ends = r.ends }

run_of : (text : List ℕ) → Run text
run_of [] = record { run = []; rest = []; split = refl; whole = tt; ends = tt }
run_of (b ∷ bs) = run_more b bs (is_blank b) refl (run_of bs)

-- ---- the last byte

last-append : (d : Bool) (xs ys : List ℕ) → last_is_blank d (xs ++ ys) ≡ last_is_blank (last_is_blank d xs) ys
last-append d [] ys = refl
last-append d (x ∷ xs) ys = last-append (is_blank x) xs ys

last-run : (run : List ℕ) → NoBlank run → last_is_blank false run ≡ false
last-run [] h = refl
last-run (b ∷ run) h = ap (λ d. last_is_blank d run) h.0 ∙ last-run run h.1

ends_any : (d : Bool) (bs : List ℕ) → last_is_blank d bs ≡ true → EndsBlank bs
ends_any d [] h = refl
ends_any d (b ∷ bs) h = h

-- a prefix that ends after a blank
pub ends_behind : (text : List ℕ) (n : ℕ) → n < length text → is_blank (get_or text n 0) ≡ true → EndsBlank (take (suc n) text)
ends_behind text n l h = go text n l h true
  where
    go : (text : List ℕ) (n : ℕ) → n < length text → is_blank (get_or text n 0) ≡ true → (d : Bool) → last_is_blank d (take (suc n) text) ≡ true
    go [] n l h d = absurd (omega arith)
    go (b ∷ bs) zero l h d = h
    go (b ∷ bs) (suc n) l h d = go bs n (omega arith) h (is_blank b)

-- ---- cut after a blank, and from a token on

-- the bytes of a token are in a kept line
behind_run : (run rest : List ℕ) → NoBlank run → line_behind Kept (run ++ rest) ≡ line_behind Kept rest
behind_run [] rest h = refl
behind_run (b ∷ run) rest h = ap (λ x. line_behind (line_of (cond x (cond (b == 10) (in_line Start) (in_line Kept)) a_token)) (run ++ rest)) h.0 ∙ behind_run run rest h.1

no_run_last : (x : ℕ) (run rest : List ℕ) (d : Bool) → is_blank x ≡ false → NoBlank run → rest ≡ [] → last_is_blank d ((x ∷ run) ++ rest) ≡ true → ⊥
no_run_last x run rest d h w e l =
    let k : last_is_blank d ((x ∷ run) ++ rest) ≡ last_is_blank false run = last-append (is_blank x) run rest ∙ ap (λ r. last_is_blank (last_is_blank (is_blank x) run) r) e ∙ ap (λ c. last_is_blank c run) h in
    true≢false (sym l ∙ k ∙ last-run run w)

no_token : (before : List Token) (token : Token) (others : List Token) → [] ≡ before ++ token ∷ others → ⊥
no_token [] token others e = cc
no_token (t ∷ before) token others e = cc

drop_behind : (xs ys : List ℕ) (k : ℕ) → drop (length xs + k) (xs ++ ys) ≡ drop k ys
drop_behind [] ys k = ap (λ n. drop n ys) (let e : 0 + k ≡ k = omega arith in e)
drop_behind (x ∷ xs) ys k = ap (λ n. drop n ((x ∷ xs) ++ ys)) (let e : length (x ∷ xs) + k ≡ suc (length xs + k) = omega arith in e) ∙ drop_behind xs ys k

module _ (rule : EndLines) where
  -- the tokens of the prefix and then those of what follows
  record Cut (s : LineState) (p : ℕ) (a b : List ℕ) : Type 0 where
    more : List Token
    cut : tokens_in_by rule s p (a ++ b) ≡ tokens_in_by rule s p a ++ more
    left : rule ≡ end_line.Kept → more ≡ tokens_in (line_behind s a) (p + length a) b

  -- the shorter texts are cut so
  abbrev Cuts : ℕ → Type 0
  Cuts n = (s : LineState) (p : ℕ) (a b : List ℕ) → length a < n → EndsBlank a → Cut s p a b

  cut_run : (n : ℕ) → Cuts n → (s : LineState) (p x : ℕ) (a b : List ℕ) → length (x ∷ a) < suc n → EndsBlank (x ∷ a) → behind_byte rule s x ≡ a_token → (rest : List ℕ) (r : Run a) → r.rest ≡ rest → Cut s p (x ∷ a) b
  cut_run n cuts s p x a b l e h [] r f = absurd (no_run_last x r.run r.rest true (token_begins rule s p x a h).0 r.whole f (subst (λ t. last_is_blank true (x ∷ t) ≡ true) r.split e))
  cut_run n cuts s p x a b l e h (y ∷ rest) r f =
      let is : a ≡ r.run ++ y ∷ rest = r.split ∙ ap (λ t. r.run ++ t) f in
      let whole : NoBlank (x ∷ r.run) = ((token_begins rule s p x a h).0, r.whole) in
      let ends : is_blank y ≡ true = subst EndsRun f r.ends in
      let q = p + length (x ∷ r.run) in
      let long : length a ≡ length r.run + length (y ∷ rest) = ap length is ∙ length-append r.run (y ∷ rest) in
      let few : length (y ∷ rest) < n = omega (arith, long, l) in
      let last : EndsBlank (y ∷ rest) = ends_any (last_is_blank (is_blank x) r.run) (y ∷ rest) (sym (last-append (is_blank x) r.run (y ∷ rest)) ∙ subst (λ t. last_is_blank true (x ∷ t) ≡ true) is e) in
      let m = cuts Kept q (y ∷ rest) b few last in
      let front : tokens_in_by rule s p (x ∷ a) ≡ token_at p (x ∷ r.run) ∷ tokens_within_by rule q (y ∷ rest) =
      (token_begins rule s p x a h).1 ∙ ap (λ t. tokens_within_by rule p (x ∷ t)) is ∙ within-run rule p x r.run (y ∷ rest) whole ends in
      let all : tokens_in_by rule s p (x ∷ (a ++ b)) ≡ token_at p (x ∷ r.run) ∷ tokens_within_by rule q ((y ∷ rest) ++ b) =
      (token_begins rule s p x (a ++ b) h).1 ∙ ap (λ t. tokens_within_by rule p (x ∷ t)) (ap (λ t. t ++ b) is ∙ append_assoc r.run (y ∷ rest) b)
      ∙ within-run rule p x r.run ((y ∷ rest) ++ b) whole ends in
      record {
        more = m.more;
        cut = all ∙ ap (λ ts. token_at p (x ∷ r.run) ∷ ts) m.cut ∙ ap (λ ts. ts ++ m.more) (sym front);
        left = λ kept.
            let here : line_of (behind_byte end_line.Kept s x) ≡ Kept = ap (λ o. line_of (behind_byte o s x)) (sym kept) ∙ ap line_of h in
            let behind : line_behind Kept (y ∷ rest) ≡ line_behind s (x ∷ a) = sym ((λ i. line_behind (here i) (is i)) ∙ behind_run r.run (y ∷ rest) r.whole) in
            let place : q + length (y ∷ rest) ≡ p + length (x ∷ a) = omega (arith, long) in
            m.left kept ∙ (λ i. tokens_in (behind i) (place i) b);
      }

  cut_byte : (n : ℕ) → Cuts n → (s : LineState) (p x : ℕ) (a b : List ℕ) → length (x ∷ a) < suc n → EndsBlank (x ∷ a) → (o : Behind) → behind_byte rule s x ≡ o → Cut s p (x ∷ a) b
  cut_byte n cuts s p x a b l e (in_line t) h =
      let m = cuts t (p + 1) a b (omega arith) (ends_any (is_blank x) a e) in
      record {
        more = m.more;
        cut = one_byte rule s t p x (a ++ b) h ∙ m.cut ∙ ap (λ ts. ts ++ m.more) (sym (one_byte rule s t p x a h));
        left = λ kept.
            let here : line_of (behind_byte end_line.Kept s x) ≡ t = ap (λ o. line_of (behind_byte o s x)) (sym kept) ∙ ap line_of h in
            let place : (p + 1) + length a ≡ p + length (x ∷ a) = omega arith in
            m.left kept ∙ (λ i. tokens_in (line_behind (sym here i) a) (place i) b);
      }
  cut_byte n cuts s p x a b l e a_token h = cut_run n cuts s p x a b l e h (run_of a).rest (run_of a) refl
  cut_byte n cuts s p x a b l e the_end h = record {
    more = [];
    cut = text_ends rule s p x (a ++ b) h ∙ ap (λ ts. ts ++ []) (sym (text_ends rule s p x a h));
    left = λ kept. absurd (never_ends s x (ap (λ o. behind_byte o s x) (sym kept) ∙ h));
  }

  cut_at : (n : ℕ) → Cuts n
  cut_at zero s p a b l e = absurd (omega arith)
  cut_at (suc n) s p [] b l e = record {
    more = tokens_in_by rule s p b;
    cut = ap (λ ts. ts ++ tokens_in_by rule s p b) (sym (in-nothing rule s p));
    left = λ kept. (λ i. tokens_in_by (kept i) s (place i) b);
  }
    where
      place : p ≡ p + length {A = ℕ} []
      place = omega arith
  cut_at (suc n) s p (x ∷ a) b l e = cut_byte n (cut_at n) s p x a b l e (behind_byte rule s x) refl

  pub cut_behind_blank : (s : LineState) (p : ℕ) (a b : List ℕ) → EndsBlank a → (more : List Token) × (tokens_in_by rule s p (a ++ b) ≡ tokens_in_by rule s p a ++ more)
  cut_behind_blank s p a b e = let c = cut_at (suc (length a)) s p a b (omega arith) e in (c.more, c.cut)

  -- the token is this many bytes after the place, and it and the others are what is left there
  pub record StandsAt (p : ℕ) (text : List ℕ) (token : Token) (others : List Token) : Type 0 where
    pub behind : ℕ
    pub at : token.place ≡ p + behind
    pub inside : behind < length text
    pub left : tokens_within_by rule token.place (drop behind text) ≡ token ∷ others

  abbrev Stands : LineState → ℕ → List ℕ → Type 0
  Stands s p text = (before : List Token) (token : Token) (others : List Token) → tokens_in_by rule s p text ≡ before ++ token ∷ others → StandsAt p text token others

  abbrev AllStand : ℕ → Type 0
  AllStand n = (s : LineState) (p : ℕ) (text : List ℕ) → length text < n → Stands s p text

  stands_further : (p x j : ℕ) (text rest : List ℕ) (token : Token) (others : List Token) (m : StandsAt (p + j) rest token others) → drop (j + m.behind) (x ∷ text) ≡ drop m.behind rest → j + length rest ≡ length (x ∷ text) → StandsAt p (x ∷ text) token others
  stands_further p x j text rest token others m d f = record {
    behind = j + m.behind;
    at = m.at ∙ (let g : (p + j) + m.behind ≡ p + (j + m.behind) = omega arith in g);
    inside = let g = m.inside in omega arith;
    left = ap (tokens_within_by rule token.place) d ∙ m.left;
  }

  stands_run : (n : ℕ) → AllStand n → (s : LineState) (p x : ℕ) (text : List ℕ) → length (x ∷ text) < suc n → (token : Token) (others : List Token) → behind_byte rule s x ≡ a_token → Run text → (before : List Token) → tokens_in_by rule s p (x ∷ text) ≡ before ++ token ∷ others → StandsAt p (x ∷ text) token others
  stands_run n all s p x text l token others h r [] e =
      let whole : NoBlank (x ∷ r.run) = ((token_begins rule s p x text h).0, r.whole) in
      let here : tokens_within_by rule p (x ∷ text) ≡ token_at p (x ∷ r.run) ∷ tokens_within_by rule (p + length (x ∷ r.run)) r.rest = ap (λ t. tokens_within_by rule p (x ∷ t)) r.split ∙ within-run rule p x r.run r.rest whole r.ends in
      let is : tokens_within_by rule p (x ∷ text) ≡ token ∷ others = sym (token_begins rule s p x text h).1 ∙ e in
      let same : token_at p (x ∷ r.run) ∷ tokens_within_by rule (p + length (x ∷ r.run)) r.rest ≡ token ∷ others = sym here ∙ is in
      let first : token_at p (x ∷ r.run) ≡ token = cc (same) in
      let at : p ≡ token.place = ap (λ (t : Token). t.place) first in
      record { behind = 0; at = sym at ∙ (let g : p ≡ p + 0 = omega arith in g); inside = omega arith; left = ap (λ q. tokens_within_by rule q (x ∷ text)) (sym at) ∙ is }
  stands_run n all s p x text l token others h r (t ∷ before) e =
      let whole : NoBlank (x ∷ r.run) = ((token_begins rule s p x text h).0, r.whole) in
      let here : tokens_within_by rule p (x ∷ text) ≡ token_at p (x ∷ r.run) ∷ tokens_within_by rule (p + length (x ∷ r.run)) r.rest = ap (λ t. tokens_within_by rule p (x ∷ t)) r.split ∙ within-run rule p x r.run r.rest whole r.ends in
      let is : tokens_within_by rule p (x ∷ text) ≡ t ∷ (before ++ token ∷ others) = sym (token_begins rule s p x text h).1 ∙ e in
      let same : token_at p (x ∷ r.run) ∷ tokens_within_by rule (p + length (x ∷ r.run)) r.rest ≡ t ∷ (before ++ token ∷ others) = sym here ∙ is in
      let more : tokens_within_by rule (p + length (x ∷ r.run)) r.rest ≡ before ++ token ∷ others = cc (same) in
      let long : length text ≡ length r.run + length r.rest = ap length r.split ∙ length-append r.run r.rest in
      let m = all Kept (p + length (x ∷ r.run)) r.rest (omega (arith, long, l)) before token others more in
      stands_further p x (length (x ∷ r.run)) text r.rest token others m (ap (λ t. drop (length (x ∷ r.run) + m.behind) (x ∷ t)) r.split ∙ drop_behind (x ∷ r.run) r.rest m.behind) (omega (arith, long))

  stands_byte : (n : ℕ) → AllStand n → (s : LineState) (p x : ℕ) (text : List ℕ) → length (x ∷ text) < suc n → (o : Behind) → behind_byte rule s x ≡ o → Stands s p (x ∷ text)
  stands_byte n all s p x text l (in_line t) h before token others e =
      let m = all t (p + 1) text (omega arith) before token others (sym (one_byte rule s t p x text h) ∙ e) in
      stands_further p x 1 text text token others m (drop_behind (x ∷ []) text m.behind) (omega arith)
  stands_byte n all s p x text l a_token h before token others e = stands_run n all s p x text l token others h (run_of text) before e
  stands_byte n all s p x text l the_end h before token others e = absurd (no_token before token others (sym (text_ends rule s p x text h) ∙ e))

  stands : (n : ℕ) → AllStand n
  stands zero s p text l before token others e = absurd (omega arith)
  stands (suc n) s p [] l before token others e = absurd (no_token before token others (sym (in-nothing rule s p) ∙ e))
  stands (suc n) s p (x ∷ text) l before token others e = stands_byte n (stands n) s p x text l (behind_byte rule s x) refl before token others e

  -- in the tokens of a text, each tells by its place what is left from it on
  pub left_from_token : (s : LineState) (p : ℕ) (text : List ℕ) (before : List Token) (token : Token) (others : List Token) → tokens_in_by rule s p text ≡ before ++ token ∷ others → StandsAt p text token others
  left_from_token s p text before token others e = stands (suc (length text)) s p text (omega arith) before token others e

-- where `%` lines are like any others, what follows the prefix is read from its end on
pub left_behind_blank : (s : LineState) (p : ℕ) (a b : List ℕ) → EndsBlank a → tokens_in s p (a ++ b) ≡ tokens_in s p a ++ tokens_in (line_behind s a) (p + length a) b
left_behind_blank s p a b e = let c = cut_at end_line.Kept (suc (length a)) s p a b (omega arith) e in c.cut ∙ ap (λ ts. tokens_in s p a ++ ts) (c.left refl)
