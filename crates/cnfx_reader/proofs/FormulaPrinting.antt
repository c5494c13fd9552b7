-- A printed formula is read as the formula.
use Rattle.std.proofs.Common.{◌≡◌, ◌≢◌, refl, sym, ap, ◌∙◌, subst, ℕ, zero, suc, ◌+◌, ◌^◌, ◌<◌, ◌≤◌, ℤ, pos, negsuc, nat_abs, Bool, true, false, cond, max, lit<, lt_of_le_of_lt, lt_trans, le-ltb, nat_lt, ◌||◌, Option, None, Err, List, [], ◌∷◌, ◌++◌, map, flat_map, fold, length, Some, Ok, Result, arith, append_assoc, append-nil, codes, decimal, ◌==◌}
use Rattle.std.specs.List.{AllByRecursion, enumerate_from, join_with_byte}
use Rattle.std.specs.Str.{bytes_eq}
use Rattle.std.specs.Str.Parse.{IsNumeral}
use Rattle.std.proofs.lemmas.List.{map-append}
use Rattle.std.proofs.lemmas.Grind.{flat_map-append}
use Rattle.std.proofs.lemmas.Fmt.{decimal_is_IsNumeral_wide}
use Rattle.cx_base.specs.Literals.{Literal}
use Rattle.cx_base.specs.Integers.{signed, integers_of}
use Rattle.cx_base.specs.Problem.{Problem, AreWithin, IsWithinVariables, literals_of, clauses_of, parities_of}
use Rattle.cx_base.specs.Endings.{finished}
use Rattle.cx_base.specs.declared.literal.TheConstants.{MAX_VARIABLE}
use Rattle.cx_base.specs.declared.constraint.Constraint.{Constraint}
use Rattle.cx_base.specs.declared.constraint.Constraint.TheVariants.{Clause, Parity, Assume}
use Rattle.cx_base.proofs.Elements.{all_append}
use Rattle.cx_base.proofs.Parts.{both_kinds}
use Rattle.cx_texts.specs.declared.line_state.EndLines.TheVariants as end_line
use Rattle.cx_texts.specs.declared.offence.Offence.{Offence}
use Rattle.cx_texts.specs.declared.offence.Offence.TheVariants.{NoHeader, BadHeader, VarLimit}
use Rattle.cx_texts.specs.Tokens.{Token, is_blank, begins_with, is_comment, is_end_line, lines_from, tokens_of_line, tokens_by, tokens_from_by, formula_tokens, NoBlank}
use Rattle.cx_texts.specs.Words.{Word, number, letter, Placed, words, word_of, number_or, letter_or_other, natural, integer, joined_words, formula_words_of, placed_formula_words, IsWithin}
use Rattle.cx_texts.specs.Grammar.{integers, spelled_list, IsProper, spelling, IsStep, Stops, Reading}
use Rattle.cx_texts.specs.Printed.{printed_integer, printed_word}
use Rattle.cx_texts.specs.FormulaText.{constraints, constraint_fields, header, behind_p, behind_cnf, behind_count, Reads}
use Rattle.cx_texts.proofs.Shapes.{Kind, a_mark, some_integers}
use Rattle.cx_texts.proofs.Remaining.{remaining, remaining-push, after_word, rows_of, begins_nowhere, all_passed}
use Rattle.cx_texts.proofs.Grammars.{constraint_forms}
use Rattle.cx_texts.proofs.Lines.{NoFeed, lines-line}
use Rattle.cx_texts.proofs.DigitLaws.{digit_is, digits_are, digit_bounds, not_equal, natural_all}
use Rattle.cx_texts.proofs.TokenLaws.{by-more}
use Rattle.cx_texts.proofs.PrintedWords.{IsPiece, decimal_piece, integer_piece, integer-printed, texts, texts-joined, no_feed_joined, joined, within_words}
use Rattle.cnfx_reader.specs.PrintedFormula.{printed_constraint, printed_formula}

-- ---- nothing goes on with a whole constraint

rows : List (List Kind)
rows = rows_of constraints constraint_forms.forms

first_list : (zs : List ℤ) (ws : List Word) → AllByRecursion (λ z. z ≢ pos 0) zs
    → remaining ((some_integers ∷ []) ∷ (a_mark 120 ∷ some_integers ∷ []) ∷ (a_mark 97 ∷ some_integers ∷ []) ∷ []) (spelled_list zs ++ ws) ≡ remaining ((some_integers ∷ []) ∷ []) (spelled_list zs ++ ws)
first_list [] ws h = refl
first_list (pos zero ∷ zs) ws h = absurd (h.0 refl)
first_list (pos (suc n) ∷ zs) ws h = refl
first_list (negsuc n ∷ zs) ws h = refl

over : (c : Constraint) → AllByRecursion IsProper (constraint_fields c) → remaining rows (spelling constraints c) ≡ [] ∷ []
unfolding rows constraint_forms
over (Clause lits) h = first_list (integers_of lits) [] h.0 ∙ all_passed (integers (integers_of lits) ∷ []) [] h
over (Parity lits) h = all_passed (integers (integers_of lits) ∷ []) [] h.1
over (Assume lits) h = all_passed (integers (integers_of lits) ∷ []) [] h.1

stops : (c : Constraint) (ws : List Word) (rest : List Placed) → IsStep constraints ws c → Stops constraints ws rest
unfolding rows
stops c ws [] h = tt
stops c ws (p ∷ rest) h = begins_nowhere constraints constraint_forms (ws ++ p.word ∷ [])
    (remaining-push rows ws p.word ∙ ap (flat_map (after_word p.word)) (subst (λ x. remaining rows x ≡ [] ∷ []) h.1 (over c h.0)))

-- ---- how a line begins

-- a byte that begins no comment and no end of the text, and is no blank
record BeginsLine (text : List ℕ) : Type 0 where
  first : ℕ
  rest : List ℕ
  is : text ≡ first ∷ rest
  low : 45 ≤ first
  no_comment : first ≢ 99

no_blank_from : (b : ℕ) → 45 ≤ b → is_blank b ≡ false
no_blank_from b low =
    let space = not_equal b 32 (λ e. omega arith) in
    let tab = not_equal b 9 (λ e. omega arith) in
    let return_ = not_equal b 13 (λ e. omega arith) in
    let feed = not_equal b 10 (λ e. omega arith) in
    (λ i. ((space i || tab i) || return_ i) || feed i)

Tokens : ℕ → List ℕ → List Token
Tokens m text = tokens_from_by end_line.End m text

line_first : (m : ℕ) (l rest : List ℕ) → NoFeed l → BeginsLine l → Tokens m ((l ++ 10 ∷ []) ++ rest) ≡ tokens_of_line (enumerate_from m l) ++ Tokens ((m + length l) + 1) rest
unfolding Tokens
line_first m l rest h b =
    let blank = no_blank_from b.first b.low in
    let comment : is_comment (enumerate_from m l) ≡ false = ap (λ x. is_comment (enumerate_from m x)) b.is ∙ ap (λ x. cond x (begins_with 99 (enumerate_from (m + 1) b.rest)) (b.first == 99)) blank ∙ not_equal b.first 99 b.no_comment in
    let low = b.low in
    let ends : is_end_line (enumerate_from m l) ≡ false = ap (λ x. is_end_line (enumerate_from m x)) b.is ∙ ap (λ x. cond x (begins_with 37 (enumerate_from (m + 1) b.rest)) (b.first == 37)) blank ∙ not_equal b.first 37 (λ e. omega arith) in
    ap (tokens_from_by end_line.End m) (append_assoc l (10 ∷ []) rest)
    ∙ ap (tokens_by end_line.End) (lines-line m l rest h)
    ∙ by-more end_line.End (enumerate_from m l) (lines_from ((m + length l) + 1) rest)
    ∙ (λ i. cond (ends i) [] (cond (comment i) (tokens_from_by end_line.End ((m + length l) + 1) rest) (tokens_of_line (enumerate_from m l) ++ tokens_from_by end_line.End ((m + length l) + 1) rest)))

-- ---- the words of a printed integer

record LowFirst (text : List ℕ) : Type 0 where
  first : ℕ
  rest : List ℕ
  is : text ≡ first ∷ rest
  low : 45 ≤ first
  high : first ≤ 57

digits_first : (ds : List ℕ) → IsNumeral 10 ds → LowFirst ds
digits_first [] h = absurd (let k : 0 < 0 = h.0 in omega arith)
digits_first (c ∷ ds) h = let b = digit_bounds c (digit_is c h.1.0) in record { first = c; rest = ds; is = refl; low = (let low = b.0 in omega arith); high = b.1 }

integer_first : (z : ℤ) → nat_abs z < 10 ^ 64 → LowFirst (printed_integer z)
integer_first (pos n) h = digits_first (decimal n) (decimal_is_IsNumeral_wide n h).0
integer_first (negsuc n) h = record { first = 45; rest = decimal (suc n); is = refl; low = omega arith; high = omega arith }

not_joined : (b : ℕ) (rest : List ℕ) → b ≢ 120 → formula_words_of (b ∷ rest) ≡ word_of (b ∷ rest) ∷ []
not_joined b [] h = refl
not_joined b (c ∷ bs) h = ap (λ x. cond x (joined_words (integer (c ∷ bs))) (word_of (b ∷ c ∷ bs) ∷ [])) (not_equal b 120 h)

integer_words : (z : ℤ) → nat_abs z < 10 ^ 64 → formula_words_of (printed_integer z) ≡ number z ∷ []
integer_words z h =
    let f = integer_first z h in
    let high = f.high in
    ap formula_words_of f.is ∙ not_joined f.first f.rest (λ e. omega arith) ∙ ap (λ x. word_of x ∷ []) (sym f.is)
    ∙ ap (λ o. number_or (letter_or_other (printed_integer z)) o ∷ []) (integer-printed z h)

joined_integer : (z : ℤ) → nat_abs z < 10 ^ 64 → formula_words_of (120 ∷ printed_integer z) ≡ letter 120 ∷ number z ∷ []
joined_integer z h =
    let f = integer_first z h in
    ap (λ x. formula_words_of (120 ∷ x)) f.is ∙ ap (λ x. joined_words (integer x)) (sym f.is) ∙ ap joined_words (integer-printed z h)

abbrev AreSmall : List ℤ → Type 0
AreSmall zs = AllByRecursion (λ z. nat_abs z < 10 ^ 64) zs

abbrev printed_all : List ℤ → List (List ℕ)
printed_all zs = map printed_word (map number zs)

all_words : (zs : List ℤ) → AreSmall zs → flat_map formula_words_of (printed_all zs) ≡ map number zs
all_words [] h = refl
all_words (z ∷ zs) h = (λ i. integer_words z h.0 i ++ all_words zs h.1 i)

all_pieces : (zs : List ℤ) → AreSmall zs → AllByRecursion IsPiece (printed_all zs)
all_pieces [] h = tt
all_pieces (z ∷ zs) h = (integer_piece z h.0, all_pieces zs h.1)

words_of_tokens : (ts : List Token) → words (placed_formula_words ts) ≡ flat_map formula_words_of (texts ts)
words_of_tokens [] = refl
words_of_tokens (t ∷ ts) =
    map-append (λ (p : Placed). p.word) (map (λ w. record { place = t.place; word = w }) (formula_words_of t.text)) (placed_formula_words ts)
    ∙ (λ i. same t.place (formula_words_of t.text) i ++ words_of_tokens ts i)
  where
    same : (place : ℕ) (ws : List Word) → map (λ (p : Placed). p.word) (map (λ w. record { place = place; word = w }) ws) ≡ ws
    same place [] = refl
    same place (w ∷ ws) = ap (λ xs. w ∷ xs) (same place ws)

-- ---- the line of a constraint

abbrev with_zero : List ℤ → List ℤ
with_zero zs = zs ++ pos 0 ∷ []

spelled_is : (zs : List ℤ) → spelled_list zs ≡ map number (with_zero zs)
spelled_is zs = sym (map-append number zs (pos 0 ∷ []))

abbrev line_of : Constraint → List ℕ
line_of (Clause lits) = joined (spelled_list (integers_of lits))
line_of (Parity lits) = 120 ∷ joined (spelled_list (integers_of lits))
line_of (Assume lits) = joined (letter 97 ∷ spelled_list (integers_of lits))

printed_is : (c : Constraint) → printed_constraint c ≡ line_of c ++ 10 ∷ []
printed_is (Clause lits) = refl
printed_is (Parity lits) = refl
printed_is (Assume lits) = refl

-- what a line of these pieces says
line_words : (m : ℕ) (pieces : List (List ℕ)) → AllByRecursion IsPiece pieces → words (placed_formula_words (tokens_of_line (enumerate_from m (join_with_byte 32 pieces)))) ≡ flat_map formula_words_of pieces
line_words m pieces h = words_of_tokens (tokens_of_line (enumerate_from m (join_with_byte 32 pieces))) ∙ ap (flat_map formula_words_of) (texts-joined pieces m h)

x_in_front : (p : List ℕ) (ps : List (List ℕ)) → 120 ∷ join_with_byte 32 (p ∷ ps) ≡ join_with_byte 32 ((120 ∷ p) ∷ ps)
x_in_front p [] = refl
x_in_front p (q ∷ ps) = refl

x_piece : (p : List ℕ) → IsPiece p → IsPiece (120 ∷ p)
x_piece p h = record { first = 120; rest = p; is = refl; no_blank = (refl, subst NoBlank (sym h.is) h.no_blank) }

-- the pieces of a constraint's line
abbrev x_pieces : List ℤ → List (List ℕ)
x_pieces [] = []
x_pieces (y ∷ ys) = (120 ∷ printed_integer y) ∷ printed_all ys

abbrev pieces_of : Constraint → List (List ℕ)
pieces_of (Clause lits) = printed_all (with_zero (integers_of lits))
pieces_of (Parity lits) = x_pieces (with_zero (integers_of lits))
pieces_of (Assume lits) = (97 ∷ []) ∷ printed_all (with_zero (integers_of lits))

joined_x : (zs : List ℤ) → 120 ∷ join_with_byte 32 (printed_all (with_zero zs)) ≡ join_with_byte 32 (x_pieces (with_zero zs))
joined_x [] = refl
joined_x (z ∷ zs) = x_in_front (printed_integer z) (printed_all (with_zero zs))

line_is : (c : Constraint) → line_of c ≡ join_with_byte 32 (pieces_of c)
line_is (Clause lits) = ap joined (spelled_is (integers_of lits))
line_is (Parity lits) = ap (λ ws. 120 ∷ joined ws) (spelled_is (integers_of lits)) ∙ joined_x (integers_of lits)
line_is (Assume lits) = ap (λ ws. joined (letter 97 ∷ ws)) (spelled_is (integers_of lits))

small_zero : (zs : List ℤ) → AreSmall zs → AreSmall (with_zero zs)
small_zero [] h = (lit< tt, tt)
small_zero (z ∷ zs) h = (h.0, small_zero zs h.1)

x_are_pieces : (zs : List ℤ) → AreSmall zs → AllByRecursion IsPiece (x_pieces (with_zero zs))
x_are_pieces [] h = (x_piece (printed_integer (pos 0)) (integer_piece (pos 0) (lit< tt)), tt)
x_are_pieces (z ∷ zs) h = (x_piece (printed_integer z) (integer_piece z h.0), all_pieces (with_zero zs) (small_zero zs h.1))

are_pieces : (c : Constraint) → AreSmall (integers_of (literals_of c)) → AllByRecursion IsPiece (pieces_of c)
are_pieces (Clause lits) h = all_pieces (with_zero (integers_of lits)) (small_zero (integers_of lits) h)
are_pieces (Parity lits) h = x_are_pieces (integers_of lits) h
are_pieces (Assume lits) h = (record { first = 97; rest = []; is = refl; no_blank = (refl, tt) }, all_pieces (with_zero (integers_of lits)) (small_zero (integers_of lits) h))

x_words : (zs : List ℤ) → AreSmall zs → flat_map formula_words_of (x_pieces (with_zero zs)) ≡ letter 120 ∷ map number (with_zero zs)
x_words [] h = ap (λ ws. ws ++ []) (joined_integer (pos 0) (lit< tt))
x_words (z ∷ zs) h = (λ i. joined_integer z h.0 i ++ all_words (with_zero zs) (small_zero zs h.1) i)

said_by : (c : Constraint) → AreSmall (integers_of (literals_of c)) → flat_map formula_words_of (pieces_of c) ≡ spelling constraints c
said_by (Clause lits) h = all_words (with_zero (integers_of lits)) (small_zero (integers_of lits) h) ∙ sym (spelled_is (integers_of lits)) ∙ sym (append-nil (spelled_list (integers_of lits)))
said_by (Parity lits) h = x_words (integers_of lits) h ∙ ap (λ ws. letter 120 ∷ ws) (sym (spelled_is (integers_of lits)) ∙ sym (append-nil (spelled_list (integers_of lits))))
said_by (Assume lits) h =
    ap (λ ws. letter 97 ∷ ws) (all_words (with_zero (integers_of lits)) (small_zero (integers_of lits) h) ∙ sym (spelled_is (integers_of lits)) ∙ sym (append-nil (spelled_list (integers_of lits))))

constraint_words : (m : ℕ) (c : Constraint) → AreSmall (integers_of (literals_of c)) → words (placed_formula_words (tokens_of_line (enumerate_from m (line_of c)))) ≡ spelling constraints c
constraint_words m c h = ap (λ l. words (placed_formula_words (tokens_of_line (enumerate_from m l)))) (line_is c) ∙ line_words m (pieces_of c) (are_pieces c h) ∙ said_by c h

no_feed_line : (c : Constraint) → AreSmall (integers_of (literals_of c)) → NoFeed (line_of c)
no_feed_line c h = subst NoFeed (sym (line_is c)) (no_feed_joined (pieces_of c) (are_pieces c h))

joined_begins : (p : List ℕ) (ps : List (List ℕ)) → BeginsLine p → BeginsLine (join_with_byte 32 (p ∷ ps))
joined_begins p [] b = b
joined_begins p (q ∷ ps) b = record { first = b.first; rest = b.rest ++ 32 ∷ join_with_byte 32 (q ∷ ps); is = ap (λ t. t ++ 32 ∷ join_with_byte 32 (q ∷ ps)) b.is; low = b.low; no_comment = b.no_comment }

integer_begins : (z : ℤ) → nat_abs z < 10 ^ 64 → BeginsLine (printed_integer z)
integer_begins z h = let f = integer_first z h in let high = f.high in record { first = f.first; rest = f.rest; is = f.is; low = f.low; no_comment = λ e. omega arith }

integers_begin : (zs : List ℤ) → AreSmall zs → BeginsLine (join_with_byte 32 (printed_all (with_zero zs)))
integers_begin [] h = joined_begins (printed_integer (pos 0)) [] (integer_begins (pos 0) (lit< tt))
integers_begin (z ∷ zs) h = joined_begins (printed_integer z) (printed_all (with_zero zs)) (integer_begins z h.0)

line_begins : (c : Constraint) → AreSmall (integers_of (literals_of c)) → BeginsLine (line_of c)
line_begins (Clause lits) h = subst BeginsLine (sym (line_is (Clause lits))) (integers_begin (integers_of lits) h)
line_begins (Parity lits) h = record { first = 120; rest = joined (spelled_list (integers_of lits)); is = refl; low = omega arith; no_comment = λ e. omega arith }
line_begins (Assume lits) h = subst BeginsLine (sym (line_is (Assume lits))) (joined_begins (97 ∷ []) (printed_all (with_zero (integers_of lits))) (record { first = 97; rest = []; is = refl; low = omega arith; no_comment = λ e. omega arith }))

-- ---- integers of literals

size_of : (b : Bool) (n : ℕ) → nat_abs (signed b n) ≡ n
size_of true zero = refl
size_of true (suc n) = refl
size_of false n = refl

small_limit : MAX_VARIABLE < 10 ^ 64
small_limit = lit< tt

are_small : (lits : List Literal) → AreWithin MAX_VARIABLE lits → AreSmall (integers_of lits)
are_small [] h = tt
are_small (l ∷ lits) h = (subst (λ k. k < 10 ^ 64) (sym (size_of l.negative l.variable)) (lt_of_le_of_lt h.0.1 small_limit), are_small lits h.1)

are_nonzero : (lits : List Literal) → AreWithin MAX_VARIABLE lits → AllByRecursion (λ z. z ≢ pos 0) (integers_of lits)
are_nonzero [] h = tt
are_nonzero (l ∷ lits) h = ((λ e. let low = h.0.0 in omega (arith, size_of l.negative l.variable, ap nat_abs e)), are_nonzero lits h.1)

are_within : (zs : List Literal) → AreWithin MAX_VARIABLE zs → AllByRecursion (IsWithin MAX_VARIABLE) (spelled_list (integers_of zs) ++ [])
are_within [] h = (omega arith, tt)
are_within (l ∷ lits) h = (omega (arith, h.0.1, size_of l.negative l.variable), are_within lits h.1)

proper : (c : Constraint) → AreWithin MAX_VARIABLE (literals_of c) → AllByRecursion IsProper (constraint_fields c)
proper (Clause lits) h = (are_nonzero lits h, tt)
proper (Parity lits) h = (tt, (are_nonzero lits h, tt))
proper (Assume lits) h = (tt, (are_nonzero lits h, tt))

spelling_within : (c : Constraint) → AreWithin MAX_VARIABLE (literals_of c) → AllByRecursion (IsWithin MAX_VARIABLE) (spelling constraints c)
spelling_within (Clause lits) h = are_within lits h
spelling_within (Parity lits) h = (tt, are_within lits h)
spelling_within (Assume lits) h = (tt, are_within lits h)

-- ---- the constraints are read

placed_append : (xs ys : List Token) → placed_formula_words (xs ++ ys) ≡ placed_formula_words xs ++ placed_formula_words ys
placed_append xs ys = flat_map-append (λ (t : Token). map (λ w. record { place = t.place; word = w }) (formula_words_of t.text)) xs ys

no_tokens : (m : ℕ) → Tokens m [] ≡ []
unfolding Tokens
no_tokens m = refl

reading : (len m : ℕ) (cs : List Constraint) → AllByRecursion (λ c. AreWithin MAX_VARIABLE (literals_of c)) cs → Reading constraints len (placed_formula_words (Tokens m (flat_map printed_constraint cs))) cs finished
reading len m [] h = ap placed_formula_words (no_tokens m)
reading len m (c ∷ cs) h =
    let small = are_small (literals_of c) h.0 in
    let line = line_of c in
    let next : ℕ = (m + length line) + 1 in
    let rest = flat_map printed_constraint cs in
    let front = placed_formula_words (tokens_of_line (enumerate_from m line)) in
    let is : words front ≡ spelling constraints c = constraint_words m c small in
    let step : IsStep constraints (words front) c = (proper c h.0, sym is) in (
      placed_formula_words (Tokens next rest),
      record {
        front = front;
        split = ap (λ t. placed_formula_words (Tokens m (t ++ rest))) (printed_is c)
            ∙ ap placed_formula_words (line_first m line rest (no_feed_line c small) (line_begins c small))
            ∙ placed_append (tokens_of_line (enumerate_from m line)) (Tokens next rest);
        step = step;
        within = within_words constraints front (subst (AllByRecursion (IsWithin MAX_VARIABLE)) (sym is) (spelling_within c h.0));
        stops = stops c (words front) (placed_formula_words (Tokens next rest)) step;
      },
      reading len next cs h.1,
    )

-- ---- the header is read

read_number : (n : ℕ) → n < 10 ^ 64 → natural (decimal n) ≡ Some n
read_number n h = let d = decimal_is_IsNumeral_wide n h in natural_all (decimal n) d.0.0 (digits_are (decimal n) d.0.1) ∙ ap Some d.1

abbrev HeaderOf : Type 0
HeaderOf = Result (ℕ × List Token) Offence

count_part : (len v c : ℕ) (t : Token) (body : List Token) → natural t.text ≡ Some c → behind_count len v (t ∷ body) ≡ Ok (v, body)
count_part len v c t body e = ap (λ (o : Option ℕ). elim o as (λ _. HeaderOf) [ Some k ↦ Ok (v, body) | None ↦ Err (BadHeader t.place) ]) e

cnf_part : (len v : ℕ) (t : Token) (ts : List Token) → natural t.text ≡ Some v → v ≤ MAX_VARIABLE → behind_cnf len (t ∷ ts) ≡ behind_count len v ts
cnf_part len v t ts e le =
    ap (λ (o : Option ℕ). elim o as (λ _. HeaderOf) [ Some k ↦ cond (nat_lt MAX_VARIABLE k) (Err (VarLimit t.place)) (behind_count len k ts) | None ↦ Err (BadHeader t.place) ]) e
    ∙ ap (λ b. cond b (Err (VarLimit t.place)) (behind_count len v ts)) (le-ltb MAX_VARIABLE v le)

p_part : (len : ℕ) (t : Token) (ts : List Token) → t.text ≡ codes "cnf" → behind_p len (t ∷ ts) ≡ behind_cnf len ts
p_part len t ts e = ap (λ x. cond (bytes_eq x (codes "cnf")) (behind_cnf len ts) (Err (BadHeader t.place))) e

header_part : (len : ℕ) (t : Token) (ts : List Token) → t.text ≡ codes "p" → header len (t ∷ ts) ≡ behind_p len ts
header_part len t ts e = ap (λ x. cond (bytes_eq x (codes "p")) (behind_p len ts) (Err (NoHeader t.place))) e

header_of : (len v c : ℕ) (ts body : List Token) → texts ts ≡ codes "p" ∷ codes "cnf" ∷ decimal v ∷ decimal c ∷ [] → v ≤ MAX_VARIABLE → c < 10 ^ 64 → header len (ts ++ body) ≡ Ok (v, body)
header_of len v c [] body e le few = cc
header_of len v c (a ∷ []) body e le few = cc
header_of len v c (a ∷ b ∷ []) body e le few = cc
header_of len v c (a ∷ b ∷ d ∷ []) body e le few = cc
header_of len v c (a ∷ b ∷ d ∷ f ∷ []) body e le few =
    let is_p : a.text ≡ codes "p" = cc (e) in
    let is_cnf : b.text ≡ codes "cnf" = cc (e) in
    let is_v : d.text ≡ decimal v = cc (e) in
    let is_c : f.text ≡ decimal c = cc (e) in
    header_part len a (b ∷ d ∷ f ∷ body) is_p ∙ p_part len b (d ∷ f ∷ body) is_cnf
    ∙ cnf_part len v d (f ∷ body) (ap natural is_v ∙ read_number v (lt_of_le_of_lt le small_limit)) le
    ∙ count_part len v c f body (ap natural is_c ∙ read_number c few)
header_of len v c (a ∷ b ∷ d ∷ f ∷ g ∷ ts) body e le few = cc

number_piece : (n : ℕ) → n < 10 ^ 64 → IsPiece (decimal n)
number_piece n h = decimal_piece (decimal n) (decimal_is_IsNumeral_wide n h).0

are_header_pieces : (v c : ℕ) → v < 10 ^ 64 → c < 10 ^ 64 → AllByRecursion IsPiece (codes "p" ∷ codes "cnf" ∷ decimal v ∷ decimal c ∷ [])
are_header_pieces v c h k = (
  record { first = 112; rest = []; is = refl; no_blank = (refl, tt) },
  (record { first = 99; rest = codes "nf"; is = refl; no_blank = (refl, (refl, (refl, tt))) }, (number_piece v h, (number_piece c k, tt))),
)

-- ---- the whole

none_greater : (n : ℕ) (lits : List Literal) → AreWithin n lits → fold max n (map (λ l. l.variable) lits) ≡ n
none_greater n [] h = refl
none_greater n (l ∷ lits) h = let low = h.0.1 in let e : max n l.variable ≡ n = omega arith in ap (λ m. fold max m (map (λ k. k.variable) lits)) e ∙ none_greater n lits h.1

all_within : (n : ℕ) (cs : List Constraint) → AllByRecursion (λ c. AreWithin n (literals_of c)) cs → AreWithin n (flat_map literals_of cs)
all_within n [] h = tt
all_within n (c ∷ cs) h = all_append (λ l. (1 ≤ l.variable) × (l.variable ≤ n)) (literals_of c) (flat_map literals_of cs) h.0 (all_within n cs h.1)

wider : (n : ℕ) (lits : List Literal) → n ≤ MAX_VARIABLE → AreWithin n lits → AreWithin MAX_VARIABLE lits
wider n [] le h = tt
wider n (l ∷ lits) le h = ((h.0.0, let high = h.0.1 in omega arith), wider n lits le h.1)

all_wider : (n : ℕ) (cs : List Constraint) → n ≤ MAX_VARIABLE → AllByRecursion (λ c. AreWithin n (literals_of c)) cs → AllByRecursion (λ c. AreWithin MAX_VARIABLE (literals_of c)) cs
all_wider n [] le h = tt
all_wider n (c ∷ cs) le h = (wider n (literals_of c) le h.0, all_wider n cs le h.1)

header_begins : (v c : ℕ) → BeginsLine (join_with_byte 32 (codes "p" ∷ codes "cnf" ∷ decimal v ∷ decimal c ∷ []))
header_begins v c = joined_begins (codes "p") (codes "cnf" ∷ decimal v ∷ decimal c ∷ []) (record { first = 112; rest = []; is = refl; low = omega arith; no_comment = λ e. omega arith })

module _ (formula : Problem) (h : IsWithinVariables formula.variables formula.constraints) (few : length formula.constraints < 2 ^ 64) where
  abbrev count : ℕ
  count = length (clauses_of formula.constraints) + length (parities_of formula.constraints)

  abbrev head_pieces : List (List ℕ)
  head_pieces = codes "p" ∷ codes "cnf" ∷ decimal formula.variables ∷ decimal count ∷ []

  abbrev head : List ℕ
  head = join_with_byte 32 head_pieces

  abbrev behind : List ℕ
  behind = flat_map printed_constraint formula.constraints

  few_count : count < 10 ^ 64
  few_count = lt_of_le_of_lt (both_kinds formula.constraints) (lt_trans few (lit< tt))

  few_variables : formula.variables < 10 ^ 64
  few_variables = lt_of_le_of_lt h.0 small_limit

  are_pieces_there : AllByRecursion IsPiece head_pieces
  are_pieces_there = are_header_pieces formula.variables count few_variables few_count

  tokens_are : formula_tokens (printed_formula formula) ≡ tokens_of_line (enumerate_from 0 head) ++ Tokens ((0 + length head) + 1) behind
  unfolding formula_tokens Tokens
  tokens_are = line_first 0 head behind (no_feed_joined head_pieces are_pieces_there) (header_begins formula.variables count)

  pub printed_reads : Reads (printed_formula formula) formula
  printed_reads = record {
    v = formula.variables;
    items = record {
      body = Tokens ((0 + length head) + 1) behind;
      behind = ap (header (length (printed_formula formula))) tokens_are
          ∙ header_of (length (printed_formula formula)) formula.variables count (tokens_of_line (enumerate_from 0 head)) (Tokens ((0 + length head) + 1) behind) (texts-joined head_pieces 0 are_pieces_there) h.0 few_count;
      reading = reading (length (printed_formula formula)) ((0 + length head) + 1) formula.constraints (all_wider formula.variables formula.constraints h.0 h.1);
    };
    variables = sym (none_greater formula.variables (flat_map literals_of formula.constraints) (all_within formula.variables formula.constraints h.1));
  }
