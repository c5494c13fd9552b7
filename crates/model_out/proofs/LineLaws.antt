-- The tokens of an answer are those of its lines, and the first of each begins it.
use Rattle.std.proofs.Common.{◌≡◌, refl, sym, ap, ◌∙◌, subst, ℕ, zero, suc, ◌+◌, ◌<◌, ◌≤◌, Bool, true, false, cond, not, ◌&&◌, ◌||◌, List, [], ◌∷◌, ◌++◌, map, flat_map, filter, length, take, fold, arith, append_assoc, append-nil, length-append, ◌==◌, ◌⊎◌, inl, inr}
use Rattle.std.specs.List.{enumerate_from, onto_first}
use Rattle.std.proofs.lemmas.List.{map-append}
use Rattle.std.proofs.lemmas.List.Sums.{fold-append}
use Rattle.cx_texts.specs.Tokens.{Token, is_blank, is_comment, lines_from, tokens_of_line, tokens_of_lines, tokens, NoBlank, EndsRun}
use Rattle.cx_texts.proofs.Lines.{Line, StartsBlank, NoFeed, lines-line, lines-last, enumerate-append}
use Rattle.cx_texts.proofs.TokenLaws.{token_at, blank_tokens, run_line}
use Rattle.model_out.specs.LineTokens.{LineToken, step_in_line, at_line_begin, line_token}
use Rattle.model_out.specs.Laws.{begin_with_first, LineTokensAreOfLines}
use Rattle.model_out.proofs.PrintedLaws.{front_of, piece_inside}

abbrev behind : Token → LineToken
behind t = record { place = t.place; begins = false; text = t.text }

-- the first of the tokens begins a line or not, and the others do not
abbrev flagged : Bool → List Token → List LineToken
flagged s [] = []
flagged s (t ∷ ts) = record { place = t.place; begins = s; text = t.text } ∷ map behind ts

flagged_true : (ts : List Token) → flagged true ts ≡ begin_with_first ts
flagged_true [] = refl
flagged_true (t ∷ ts) = refl

flagged_false : (ts : List Token) → flagged false ts ≡ map behind ts
flagged_false [] = refl
flagged_false (t ∷ ts) = refl

starts : (n : ℕ) (rest : List ℕ) → EndsRun rest → StartsBlank (enumerate_from n rest)
starts n [] h = tt
starts n (b ∷ rest) h = h

-- ---- a run, and a line, at the start

record RunOf (l : List ℕ) : Type 0 where
  run : List ℕ
  rest : List ℕ
  split : l ≡ run ++ rest
  no_blank : NoBlank run
  ends : EndsRun rest

run_step : (b : ℕ) (l : List ℕ) → RunOf l → (t : Bool) → is_blank b ≡ t → RunOf (b ∷ l)
run_step b l r true e = record { run = []; rest = b ∷ l; split = refl; no_blank = tt; ends = e }
run_step b l r false e = record { run = b ∷ r.run; rest = r.rest; split = ap (λ x. b ∷ x) r.split; no_blank = (e, r.no_blank); ends = r.ends }

run_of : (l : List ℕ) → RunOf l
run_of [] = record { run = []; rest = []; split = refl; no_blank = tt; ends = tt }
run_of (b ∷ l) = run_step b l (run_of l) (is_blank b) refl

record LineOf (text : List ℕ) : Type 0 where
  line : List ℕ
  no_feed : NoFeed line
  split : (text ≡ line) ⊎ ((rest : List ℕ) × (text ≡ line ++ 10 ∷ rest))

line_step : (b : ℕ) (text : List ℕ) → LineOf text → (t : Bool) → (b == 10) ≡ t → LineOf (b ∷ text)
line_step b text r true e = record { line = []; no_feed = tt; split = inr (text, ap (λ x. x ∷ text) (Rattle.std.proofs.Common.eqb-true b 10 e)) }
line_step b text r false e = record {
  line = b ∷ r.line;
  no_feed = (e, r.no_feed);
  split = elim r.split [ inl h ↦ inl (ap (λ x. b ∷ x) h) | inr (rest, h) ↦ inr (rest, ap (λ x. b ∷ x) h) ];
}

line_of : (text : List ℕ) → LineOf text
line_of [] = record { line = []; no_feed = tt; split = inl refl }
line_of (b ∷ text) = line_step b text (line_of text) (b == 10) refl

no_feed_behind : (a b : List ℕ) → NoFeed (a ++ b) → NoFeed b
no_feed_behind [] b h = h
no_feed_behind (x ∷ a) b h = no_feed_behind a b h.1

module _ (all : List ℕ) where
  -- ---- one line

  abbrev LineSo : ℕ → Type 0
  LineSo fuel = (n : ℕ) (front l rest : List ℕ) → length l ≤ fuel → NoFeed l → all ≡ front ++ (l ++ rest) → length front ≡ n
      → map (line_token all) (tokens_of_line (enumerate_from n l)) ≡ flagged (at_line_begin front) (tokens_of_line (enumerate_from n l))

  blank_keeps : (s : Bool) (b : ℕ) → (b == 10) ≡ false → is_blank b ≡ true → step_in_line s b ≡ s
  blank_keeps s b e h = ap (λ x. x || (is_blank b && s)) e ∙ ap (λ x. x && s) h

  blank_step : (fuel n b : ℕ) (front l rest : List ℕ) → LineSo fuel → length l ≤ fuel → NoFeed (b ∷ l) → is_blank b ≡ true → all ≡ front ++ ((b ∷ l) ++ rest) → length front ≡ n
      → map (line_token all) (tokens_of_line (enumerate_from n (b ∷ l))) ≡ flagged (at_line_begin front) (tokens_of_line (enumerate_from n (b ∷ l)))
  blank_step fuel n b front l rest more low k h e len =
      let ts = tokens_of_line (enumerate_from (n + 1) l) in
      let same : tokens_of_line (enumerate_from n (b ∷ l)) ≡ ts = blank_tokens n b (enumerate_from (n + 1) l) h in
      let state : at_line_begin (front ++ (b ∷ [])) ≡ at_line_begin front = fold-append step_in_line true front (b ∷ []) ∙ blank_keeps (at_line_begin front) b k.0 h in
      ap (map (line_token all)) same
      ∙ more (n + 1) (front ++ (b ∷ [])) l rest low k.1 (e ∙ sym (append_assoc front (b ∷ []) (l ++ rest))) (length-append front (b ∷ []) ∙ ap (λ m. m + 1) len)
      ∙ ap (λ s. flagged s ts) state ∙ ap (flagged (at_line_begin front)) (sym same)

  token_step : (fuel n b : ℕ) (front run next rest : List ℕ) → LineSo fuel → length next ≤ fuel → NoFeed next → NoBlank (b ∷ run) → EndsRun next → all ≡ front ++ (((b ∷ run) ++ next) ++ rest) → length front ≡ n
      → map (line_token all) (tokens_of_line (enumerate_from n ((b ∷ run) ++ next))) ≡ flagged (at_line_begin front) (tokens_of_line (enumerate_from n ((b ∷ run) ++ next)))
  token_step fuel n b front run next rest more low k h ends e len =
      let m : ℕ = n + length (b ∷ run) in
      let ts = tokens_of_line (enumerate_from m next) in
      let same : tokens_of_line (enumerate_from n ((b ∷ run) ++ next)) ≡ token_at n (b ∷ run) ∷ ts =
      ap tokens_of_line (enumerate-append n (b ∷ run) next) ∙ run_line n b run (enumerate_from m next) h (starts m next ends) in
      let first : at_line_begin (take n all) ≡ at_line_begin front = ap at_line_begin (front_of all front (((b ∷ run) ++ next) ++ rest) n e len) in
      let after : List ℕ = front ++ (b ∷ run) in
      let inside : at_line_begin after ≡ false = fold-append step_in_line true front (b ∷ run) ∙ piece_inside (at_line_begin front) (b ∷ run) (record { first = b; rest = run; is = refl; no_blank = h }) in
      let whole : all ≡ after ++ (next ++ rest) = e ∙ ap (λ x. front ++ x) (append_assoc (b ∷ run) next rest) ∙ sym (append_assoc front (b ∷ run) (next ++ rest)) in
      let others : map (line_token all) ts ≡ map behind ts =
      more m after next rest low k whole (length-append front (b ∷ run) ∙ ap (λ x. x + length (b ∷ run)) len) ∙ ap (λ s. flagged s ts) inside ∙ flagged_false ts in
      ap (map (line_token all)) same ∙ (λ i. record { place = n; begins = first i; text = b ∷ run } ∷ others i) ∙ ap (flagged (at_line_begin front)) (sym same)

  line_so : (fuel : ℕ) → LineSo fuel
  line_so fuel n front [] rest low k e len = refl
  line_so zero n front (b ∷ l) rest low k e len = absurd (omega arith)
  line_so (suc fuel) n front (b ∷ l) rest low k e len = by_blank (line_so fuel) (is_blank b) refl
    where
      by_blank : LineSo fuel → (t : Bool) → is_blank b ≡ t → map (line_token all) (tokens_of_line (enumerate_from n (b ∷ l))) ≡ flagged (at_line_begin front) (tokens_of_line (enumerate_from n (b ∷ l)))
      by_blank more true h = blank_step fuel n b front l rest more (omega arith) k h e len
      by_blank more false h =
          let r = run_of l in
          let split : b ∷ l ≡ (b ∷ r.run) ++ r.rest = ap (λ x. b ∷ x) r.split in
          let short : length r.rest ≤ fuel = omega (arith, ap length r.split, length-append r.run r.rest) in
          let clean : NoFeed r.rest = no_feed_behind (b ∷ r.run) r.rest (subst NoFeed split k) in
          subst (λ (x : List ℕ). map (line_token all) (tokens_of_line (enumerate_from n x)) ≡ flagged (at_line_begin front) (tokens_of_line (enumerate_from n x))) (sym split)
          (token_step fuel n b front r.run r.rest rest more short clean (h, r.no_blank) r.ends (e ∙ ap (λ x. front ++ (x ++ rest)) split) len)

  -- ---- all lines

  abbrev of_lines : List Line → List LineToken
  of_lines lines = flat_map (λ line. begin_with_first (tokens_of_line line)) (filter (λ line. not (is_comment line)) lines)

  first_line : (line : Line) (lines : List Line) → map (line_token all) (tokens_of_line line) ≡ begin_with_first (tokens_of_line line) → map (line_token all) (tokens_of_lines lines) ≡ of_lines lines
      → map (line_token all) (tokens_of_lines (line ∷ lines)) ≡ of_lines (line ∷ lines)
  first_line line lines h more = pick (is_comment line)
    where
      pick : (x : Bool) → map (line_token all) (flat_map tokens_of_line (cond (not x) (line ∷ filter (λ l. not (is_comment l)) lines) (filter (λ l. not (is_comment l)) lines)))
          ≡ flat_map (λ l. begin_with_first (tokens_of_line l)) (cond (not x) (line ∷ filter (λ l. not (is_comment l)) lines) (filter (λ l. not (is_comment l)) lines))
      pick true = more
      pick false = map-append (line_token all) (tokens_of_line line) (tokens_of_lines lines) ∙ (λ i. h i ++ more i)

  abbrev TextSo : ℕ → Type 0
  TextSo fuel = (n : ℕ) (front text : List ℕ) → length text ≤ fuel → at_line_begin front ≡ true → length front ≡ n → all ≡ front ++ text → map (line_token all) (tokens_of_lines (lines_from n text)) ≡ of_lines (lines_from n text)

  one_line : (n : ℕ) (front l rest : List ℕ) → NoFeed l → at_line_begin front ≡ true → length front ≡ n → all ≡ front ++ (l ++ rest)
      → map (line_token all) (tokens_of_line (enumerate_from n l)) ≡ begin_with_first (tokens_of_line (enumerate_from n l))
  one_line n front l rest k b len e =
      let low : length l ≤ length l = omega arith in
      line_so (length l) n front l rest low k e len ∙ ap (λ s. flagged s (tokens_of_line (enumerate_from n l))) b ∙ flagged_true (tokens_of_line (enumerate_from n l))

  last_line : (n : ℕ) (front l : List ℕ) → NoFeed l → at_line_begin front ≡ true → length front ≡ n → all ≡ front ++ l → map (line_token all) (tokens_of_lines (lines_from n l)) ≡ of_lines (lines_from n l)
  last_line n front l k b len e =
      subst (λ (ls : List Line). map (line_token all) (tokens_of_lines ls) ≡ of_lines ls) (sym (lines-last n l k))
      (first_line (enumerate_from n l) [] (one_line n front l [] k b len (e ∙ ap (λ x. front ++ x) (sym (append-nil l)))) refl)

  feed_begins : (front l : List ℕ) → at_line_begin (front ++ (l ++ 10 ∷ [])) ≡ true
  feed_begins front l = ap at_line_begin (sym (append_assoc front l (10 ∷ []))) ∙ fold-append step_in_line true (front ++ l) (10 ∷ [])

  next_line : (fuel n : ℕ) (front l rest : List ℕ) → TextSo fuel → length rest ≤ fuel → NoFeed l → at_line_begin front ≡ true → length front ≡ n → all ≡ front ++ (l ++ 10 ∷ rest)
      → map (line_token all) (tokens_of_lines (lines_from n (l ++ 10 ∷ rest))) ≡ of_lines (lines_from n (l ++ 10 ∷ rest))
  next_line fuel n front l rest more low k b len e =
      let after : List ℕ = front ++ (l ++ 10 ∷ []) in
      let long : length after ≡ (n + length l) + 1 = omega (arith, length-append front (l ++ 10 ∷ []), length-append l (10 ∷ []), len) in
      let whole : all ≡ after ++ rest = e ∙ ap (λ x. front ++ x) (sym (append_assoc l (10 ∷ []) rest)) ∙ sym (append_assoc front (l ++ 10 ∷ []) rest) in
      subst (λ (ls : List Line). map (line_token all) (tokens_of_lines ls) ≡ of_lines ls) (sym (lines-line n l rest k))
      (first_line (enumerate_from n l) (lines_from ((n + length l) + 1) rest) (one_line n front l (10 ∷ rest) k b len e) (more ((n + length l) + 1) after rest low (feed_begins front l) long whole))

  by_line : (fuel n : ℕ) (front text : List ℕ) → (r : LineOf text) → ((rest : List ℕ) → text ≡ r.line ++ 10 ∷ rest → (m : ℕ) × TextSo m × (length rest ≤ m)) → at_line_begin front ≡ true → length front ≡ n → all ≡ front ++ text
      → map (line_token all) (tokens_of_lines (lines_from n text)) ≡ of_lines (lines_from n text)
  by_line fuel n front text r more b len e = elim r.split [
    | inl h ↦ subst (λ (x : List ℕ). map (line_token all) (tokens_of_lines (lines_from n x)) ≡ of_lines (lines_from n x)) (sym h) (last_line n front r.line r.no_feed b len (e ∙ ap (λ x. front ++ x) h))
    | inr (rest, h) ↦
        let w = more rest h in
        subst (λ (x : List ℕ). map (line_token all) (tokens_of_lines (lines_from n x)) ≡ of_lines (lines_from n x)) (sym h) (next_line w.0 n front r.line rest w.1 w.2 r.no_feed b len (e ∙ ap (λ x. front ++ x) h))
  ]

  text_so : (fuel : ℕ) → TextSo fuel
  text_so zero n front text low b len e =
      by_line zero n front text (line_of text)
      (λ rest h. absurd (omega (arith, ap length h, length-append (line_of text).line (10 ∷ rest)))) b len e
  text_so (suc fuel) n front text low b len e =
      by_line fuel n front text (line_of text)
      (λ rest h. (fuel, text_so fuel, (let k : length rest ≤ fuel = omega (arith, ap length h, length-append (line_of text).line (10 ∷ rest)) in k))) b len e

pub of_its_lines : LineTokensAreOfLines
unfolding tokens
of_its_lines text = text_so text (length text) 0 [] text (let low : length text ≤ length text = omega arith in low) refl refl refl
