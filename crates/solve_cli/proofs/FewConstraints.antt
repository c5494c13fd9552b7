-- A text has no more constraints than bytes.
use Rattle.std.proofs.Common.{◌≡◌, ◌≤◌, refl, sym, ap, ◌∙◌, subst, ℕ, zero, suc, ◌+◌, Bool, true, false, cond, not, ◌==◌, nat_lt, List, [], ◌∷◌, ◌++◌, map, length, filter, flat_map, filter_map, take, Option, Some, None, Result, Ok, Err, codes, arith, length-append, if◌then◌else◌}
use Rattle.std.proofs.lemmas.List.{length-map}
use Rattle.std.specs.List.{slice_split, onto_first, enumerate_from, before_first, position_or_len}
use Rattle.std.specs.Str.{bytes_eq}
use Rattle.cx_base.specs.Problem.{Problem}
use Rattle.cx_base.specs.declared.literal.TheConstants.{MAX_VARIABLE}
use Rattle.cx_base.specs.declared.constraint.Constraint.{Constraint}
use Rattle.cx_base.specs.declared.constraint.Constraint.TheVariants.{Clause, Parity, Assume}
use Rattle.cx_texts.specs.declared.offence.Offence.{Offence}
use Rattle.cx_texts.specs.declared.offence.Offence.TheVariants.{NoHeader, BadHeader, VarLimit}
use Rattle.cx_texts.specs.FormulaText.{constraints, behind_count, behind_cnf, behind_p, header, Reads}
use Rattle.cx_texts.specs.Grammar.{spelling, Reading}
use Rattle.cx_base.specs.Endings.{finished}
use Rattle.cx_texts.specs.Tokens.{Token, is_blank, is_comment, is_end_line, lines_from, token_of, tokens_of_line, tokens_of_lines, formula_tokens}
use Rattle.cx_texts.specs.Words.{Word, Placed, words, integer, natural, word_of, joined_words, formula_words_of, placed_formula_words}

abbrev Line : Type 0
Line = List (ℕ × ℕ)

-- ---- the bytes of lines and pieces

abbrev bytes_in : List Line → ℕ
bytes_in [] = 0
bytes_in (line ∷ lines) = length line + bytes_in lines

onto_bytes : (b : ℕ × ℕ) (parts : List Line) → bytes_in (onto_first b parts) ≤ suc (bytes_in parts)
onto_bytes b [] = omega arith
onto_bytes b (part ∷ parts) = omega arith

cut_bytes : (b : ℕ × ℕ) (parts : List Line) (n : ℕ) (x : Bool) → bytes_in parts ≤ n → bytes_in (cond x ([] ∷ parts) (onto_first b parts)) ≤ suc n
cut_bytes b parts n true h = omega arith
cut_bytes b parts n false h = let k = onto_bytes b parts in omega arith

split_bytes : (p : ℕ × ℕ → Bool) (line : Line) → bytes_in (slice_split p line) ≤ length line
split_bytes p [] = omega arith
split_bytes p (b ∷ line) = cut_bytes b (slice_split p line) (length line) (p b) (split_bytes p line)

front_bytes : (n : ℕ) (lines : List Line) → bytes_in (take n lines) ≤ bytes_in lines
front_bytes zero lines = omega arith
front_bytes (suc n) [] = omega arith
front_bytes (suc n) (line ∷ lines) = let k = front_bytes n lines in omega arith

numbered_bytes : (n : ℕ) (text : List ℕ) → length (enumerate_from n text) ≡ length text
numbered_bytes n [] = refl
numbered_bytes n (b ∷ text) = ap suc (numbered_bytes (n + 1) text)

-- ---- the words of tokens

-- how many words tokens have
abbrev words_in : List Token → ℕ
words_in ts = length (placed_formula_words ts)

few_words : (b : ℕ) (bs : List ℕ) → length (formula_words_of (b ∷ bs)) ≤ suc (length bs)
few_words b [] = omega arith
few_words b (c ∷ bs) = by (b == 120) (integer (c ∷ bs))
  where
    by : (x : Bool) (z : Option _) → length (if x then joined_words z else word_of (b ∷ c ∷ bs) ∷ []) ≤ suc (suc (length bs))
    by true (Some z) = omega arith
    by true None = omega arith
    by false z = omega arith

words_more : (t : Token) (ts : List Token) → words_in (t ∷ ts) ≡ length (formula_words_of t.text) + words_in ts
words_more t ts =
    let here = map (λ (w : Word). record { place = t.place; word = w }) (formula_words_of t.text) in
    length-append here (placed_formula_words ts) ∙ ap (λ (n : ℕ). n + words_in ts) (length-map (formula_words_of t.text) (λ (w : Word). record { place = t.place; word = w }))

words_both : (a b : List Token) → words_in (a ++ b) ≡ words_in a + words_in b
words_both [] b = let h : words_in [] ≡ 0 = refl in omega (arith, h)
words_both (t ∷ a) b = let h = words_more t (a ++ b) in let k = words_more t a in let l = words_both a b in omega (arith, h, k, l)

piece_words : (pieces : List Line) → words_in (filter_map token_of pieces) ≤ bytes_in pieces
piece_words [] = omega arith
piece_words ([] ∷ pieces) = let h : words_in (filter_map token_of ([] ∷ pieces)) ≤ bytes_in pieces = piece_words pieces in omega (arith, h)
piece_words ((b ∷ run) ∷ pieces) =
    let t : Token = record { place = b.0; text = map (λ (c : ℕ × ℕ). c.1) (b ∷ run) } in
    let h : words_in (t ∷ filter_map token_of pieces) ≡ length (formula_words_of (b.1 ∷ map (λ (c : ℕ × ℕ). c.1) run)) + words_in (filter_map token_of pieces) = words_more t (filter_map token_of pieces) in
    let k : length (formula_words_of (b.1 ∷ map (λ (c : ℕ × ℕ). c.1) run)) ≤ suc (length (map (λ (c : ℕ × ℕ). c.1) run)) = few_words b.1 (map (λ (c : ℕ × ℕ). c.1) run) in
    let l : length (map (λ (c : ℕ × ℕ). c.1) run) ≡ length run = length-map run (λ (c : ℕ × ℕ). c.1) in
    let m = piece_words pieces in
    subst (λ (n : ℕ). n ≤ suc (length run) + bytes_in pieces) (sym h) (omega (arith, k, l, m))

line_words : (line : Line) → words_in (tokens_of_line line) ≤ length line
line_words line =
    let h = piece_words (slice_split (λ b. is_blank b.1) line) in
    let k = split_bytes (λ b. is_blank b.1) line in
    omega (arith, h, k)

kept_words : (lines : List Line) → words_in (tokens_of_lines lines) ≤ bytes_in lines
kept_words [] = omega arith
kept_words (line ∷ lines) = by (not (is_comment line)) (kept_words lines)
  where
    rest : List Line
    rest = filter (λ l. not (is_comment l)) lines

    by : (x : Bool) → words_in (tokens_of_lines lines) ≤ bytes_in lines → words_in (flat_map tokens_of_line (cond x (line ∷ rest) rest)) ≤ length line + bytes_in lines
    by true l = let h = words_both (tokens_of_line line) (tokens_of_lines lines) in let k = line_words line in omega (arith, h, k, l)
    by false l = omega (arith, l)

text_words : (text : List ℕ) → words_in (formula_tokens text) ≤ length text
unfolding formula_tokens
text_words text =
    let lines = lines_from 0 text in
    let h = kept_words (before_first is_end_line lines) in
    let k = front_bytes (position_or_len is_end_line lines) lines in
    let l = split_bytes (λ b. b.1 == 10) (enumerate_from 0 text) in
    let m = numbered_bytes 0 text in
    omega (arith, h, k, l, m)

-- ---- the header

abbrev Shorter : ℕ → Result (ℕ × List Token) Offence → Type 0
Shorter n (Ok x) = words_in x.1 ≤ n
Shorter n (Err e) = Unit {0}

less : (n m : ℕ) (r : Result (ℕ × List Token) Offence) → n ≤ m → Shorter n r → Shorter m r
less n m (Ok x) l h = let k : words_in x.1 ≤ n = h in omega (arith, k)
less n m (Err e) l h = tt

behind : (t : Token) (ts : List Token) (r : Result (ℕ × List Token) Offence) → Shorter (words_in ts) r → Shorter (words_in (t ∷ ts)) r
behind t ts r h = let k = words_more t ts in less (words_in ts) (words_in (t ∷ ts)) r (omega (arith, k)) h

shorter_count : (len v : ℕ) (ts : List Token) → Shorter (words_in ts) (behind_count len v ts)
shorter_count len v [] = tt
shorter_count len v (t ∷ body) = behind t body (behind_count len v (t ∷ body)) (by (natural t.text))
  where
    by : (o : Option ℕ) → Shorter (words_in body) (elim o [ Some c ↦ Ok (v, body) | None ↦ Err (BadHeader t.place) ])
    by (Some c) = omega arith
    by None = tt

shorter_cnf : (len : ℕ) (ts : List Token) → Shorter (words_in ts) (behind_cnf len ts)
shorter_cnf len [] = tt
shorter_cnf len (t ∷ ts) = behind t ts (behind_cnf len (t ∷ ts)) (by (natural t.text))
  where
    over : (v : ℕ) (x : Bool) → Shorter (words_in ts) (if x then Err (VarLimit t.place) else behind_count len v ts)
    over v true = tt
    over v false = shorter_count len v ts

    by : (o : Option ℕ) → Shorter (words_in ts) (elim o [ Some v ↦ if nat_lt MAX_VARIABLE v then Err (VarLimit t.place) else behind_count len v ts | None ↦ Err (BadHeader t.place) ])
    by (Some v) = over v (nat_lt MAX_VARIABLE v)
    by None = tt

either : (n : ℕ) (x : Bool) (r : Result (ℕ × List Token) Offence) (e : Offence) → Shorter n r → Shorter n (if x then r else Err e)
either n true r e h = h
either n false r e h = tt

shorter_p : (len : ℕ) (ts : List Token) → Shorter (words_in ts) (behind_p len ts)
shorter_p len [] = tt
shorter_p len (t ∷ ts) =
    behind t ts (behind_p len (t ∷ ts)) (either (words_in ts) (bytes_eq t.text (codes "cnf")) (behind_cnf len ts) (BadHeader t.place) (shorter_cnf len ts))

shorter_header : (len : ℕ) (ts : List Token) → Shorter (words_in ts) (header len ts)
shorter_header len [] = tt
shorter_header len (t ∷ ts) =
    behind t ts (header len (t ∷ ts)) (either (words_in ts) (bytes_eq t.text (codes "p")) (behind_p len ts) (NoHeader t.place) (shorter_p len ts))

-- ---- the constraints

-- each has a word
has_word : (c : Constraint) → spelling constraints c ≡ [] → ⊥
has_word (Clause []) e = cc
has_word (Clause (l ∷ lits)) e = cc
has_word (Parity lits) e = cc
has_word (Assume lits) e = cc

some_front : (c : Constraint) (front : List Placed) → spelling constraints c ≡ words front → 1 ≤ length front
some_front c [] e = absurd (has_word c e)
some_front c (p ∷ front) e = omega arith

few_read : (len : ℕ) (placed : List Placed) (items : List Constraint) → Reading constraints len placed items finished → length items ≤ length placed
few_read len placed [] h = omega arith
few_read len placed (c ∷ items) h =
    let k = few_read len h.0 items h.2 in
    let l = some_front c h.1.front h.1.step.1 in
    let m = ap length h.1.split ∙ length-append h.1.front h.0 in
    omega (arith, k, l, m)

pub few_constraints : (text : List ℕ) (f : Problem) → Reads text f → length f.constraints ≤ length text
few_constraints text f h =
    let read = few_read (length text) (placed_formula_words h.items.body) f.constraints h.items.reading in
    let body : words_in h.items.body ≤ words_in (formula_tokens text) =
    subst (Shorter (words_in (formula_tokens text))) h.items.behind (shorter_header (length text) (formula_tokens text)) in
    let all = text_words text in
    omega (arith, read, body, all)
