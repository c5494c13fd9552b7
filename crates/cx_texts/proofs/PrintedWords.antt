-- Words as they are printed: the pieces of a line, and the words that are read of them.
use Rattle.std.proofs.Common.{◌≡◌, refl, sym, ap, ◌∙◌, subst, ℕ, suc, ◌+◌, ◌^◌, ◌<◌, ℤ, pos, negsuc, neg_ℤ, nat_abs, false, lit<, lt_of_le_of_lt, List, [], ◌∷◌, ◌++◌, map, length, Some, arith, append-nil, decimal}
use Rattle.std.specs.List.{AllByRecursion, enumerate_from, join_with_byte}
use Rattle.std.specs.Str.Parse.{IsNumeral}
use Rattle.std.proofs.lemmas.Fmt.{decimal_is_IsNumeral_wide}
use Rattle.cx_texts.specs.Tokens.{Token, is_blank, tokens_of_line, NoBlank}
use Rattle.cx_texts.specs.Words.{Word, number, letter, conflict, other, Placed, words, placed_words, word_of, number_or, letter_or_other, integer, IsWithin}
use Rattle.cx_texts.specs.Grammar.{Grammar, AreInLimit}
use Rattle.cx_texts.specs.Printed.{printed_integer, printed_word}
use Rattle.cx_texts.proofs.DigitLaws.{digits_are, digits_no_blank, integer_digits, integer_minus}
use Rattle.cx_texts.proofs.Lines.{Line, StartsBlank, NoFeed, not_feed, enumerate-append}
use Rattle.cx_texts.proofs.TokenLaws.{blank_tokens, run_line}
use Rattle.cx_texts.proofs.SpokenWords.{IsSpoken}

-- ---- pieces of a line

-- a piece has a byte and no blank
pub record IsPiece (text : List ℕ) : Type 0 where
  pub first : ℕ
  pub rest : List ℕ
  pub is : text ≡ first ∷ rest
  pub no_blank : NoBlank (first ∷ rest)

pub decimal_piece : (ds : List ℕ) → IsNumeral 10 ds → IsPiece ds
decimal_piece [] h = absurd (let k : 0 < 0 = h.0 in omega arith)
decimal_piece (c ∷ ds) h = record { first = c; rest = ds; is = refl; no_blank = digits_no_blank (c ∷ ds) (digits_are (c ∷ ds) h.1) }

minus_piece : (ds : List ℕ) → IsNumeral 10 ds → IsPiece (45 ∷ ds)
minus_piece ds h = record { first = 45; rest = ds; is = refl; no_blank = (refl, digits_no_blank ds (digits_are ds h.1)) }

pub integer-printed : (z : ℤ) → nat_abs z < 10 ^ 64 → integer (printed_integer z) ≡ Some z
integer-printed (pos n) h = let d = decimal_is_IsNumeral_wide n h in integer_digits (decimal n) d.0.0 (digits_are (decimal n) d.0.1) ∙ ap (λ m. Some (pos m)) d.1
integer-printed (negsuc n) h = let d = decimal_is_IsNumeral_wide (suc n) h in integer_minus (decimal (suc n)) d.0.0 (digits_are (decimal (suc n)) d.0.1) ∙ ap (λ m. Some (neg_ℤ (pos m))) d.1

pub integer_piece : (z : ℤ) → nat_abs z < 10 ^ 64 → IsPiece (printed_integer z)
integer_piece (pos n) h = decimal_piece (decimal n) (decimal_is_IsNumeral_wide n h).0
integer_piece (negsuc n) h = minus_piece (decimal (suc n)) (decimal_is_IsNumeral_wide (suc n) h).0

abbrev pub texts : List Token → List (List ℕ)
texts ts = map (λ t. t.text) ts

one_piece : (n : ℕ) (piece : List ℕ) (line : Line) → IsPiece piece → StartsBlank line → texts (tokens_of_line (enumerate_from n piece ++ line)) ≡ piece ∷ texts (tokens_of_line line)
one_piece n piece line p s =
    ap (λ x. texts (tokens_of_line (enumerate_from n x ++ line))) p.is
    ∙ ap texts (run_line n p.first p.rest line p.no_blank s)
    ∙ ap (λ x. x ∷ texts (tokens_of_line line)) (sym p.is)

-- the tokens of pieces joined by spaces are the pieces
pub texts-joined : (pieces : List (List ℕ)) (n : ℕ) → AllByRecursion IsPiece pieces → texts (tokens_of_line (enumerate_from n (join_with_byte 32 pieces))) ≡ pieces
texts-joined [] n h = refl
texts-joined (p ∷ []) n h = ap (λ l. texts (tokens_of_line l)) (sym (append-nil (enumerate_from n p))) ∙ one_piece n p [] h.0 tt
texts-joined (p ∷ q ∷ ps) n h =
    ap (λ l. texts (tokens_of_line l)) (enumerate-append n p (32 ∷ join_with_byte 32 (q ∷ ps)))
    ∙ one_piece n p ((n + length p, 32) ∷ enumerate_from ((n + length p) + 1) (join_with_byte 32 (q ∷ ps))) h.0 refl
    ∙ ap (λ ts. p ∷ texts ts) (blank_tokens (n + length p) 32 (enumerate_from ((n + length p) + 1) (join_with_byte 32 (q ∷ ps))) refl)
    ∙ ap (λ r. p ∷ r) (texts-joined (q ∷ ps) ((n + length p) + 1) h.1)

-- ---- lines

no_feed_append : (a b : List ℕ) → NoFeed a → NoFeed b → NoFeed (a ++ b)
no_feed_append [] b h k = k
no_feed_append (x ∷ a) b h k = (h.0, no_feed_append a b h.1 k)

no_feed_run : (run : List ℕ) → NoBlank run → NoFeed run
no_feed_run [] h = tt
no_feed_run (b ∷ run) h = (not_feed b h.0, no_feed_run run h.1)

no_feed_piece : (p : List ℕ) → IsPiece p → NoFeed p
no_feed_piece p h = subst NoFeed (sym h.is) (no_feed_run (h.first ∷ h.rest) h.no_blank)

pub no_feed_joined : (pieces : List (List ℕ)) → AllByRecursion IsPiece pieces → NoFeed (join_with_byte 32 pieces)
no_feed_joined [] h = tt
no_feed_joined (p ∷ []) h = no_feed_piece p h.0
no_feed_joined (p ∷ q ∷ ps) h = no_feed_append p (32 ∷ join_with_byte 32 (q ∷ ps)) (no_feed_piece p h.0) (refl, no_feed_joined (q ∷ ps) h.1)

-- ---- words of a printed step

-- letters, and numbers that can be printed
abbrev pub IsPlain : Word → Type 0
IsPlain (number z) = nat_abs z < 10 ^ 64
IsPlain (letter c) = (is_blank c ≡ false) × (word_of (c ∷ []) ≡ letter c)
IsPlain (conflict k) = ⊥
IsPlain other = ⊥

plain_piece : (w : Word) → IsPlain w → IsPiece (printed_word w)
plain_piece (number z) h = integer_piece z h
plain_piece (letter c) h = record { first = c; rest = []; is = refl; no_blank = (h.0, tt) }
plain_piece (conflict k) h = absurd h
plain_piece other h = absurd h

plain_word : (w : Word) → IsPlain w → word_of (printed_word w) ≡ w
plain_word (number z) h = ap (number_or (letter_or_other (printed_integer z))) (integer-printed z h)
plain_word (letter c) h = h.1
plain_word (conflict k) h = absurd h
plain_word other h = absurd h

pub plain_pieces : (ws : List Word) → AllByRecursion IsPlain ws → AllByRecursion IsPiece (map printed_word ws)
plain_pieces [] h = tt
plain_pieces (w ∷ ws) h = (plain_piece w h.0, plain_pieces ws h.1)

plain_words : (ws : List Word) → AllByRecursion IsPlain ws → map word_of (map printed_word ws) ≡ ws
plain_words [] h = refl
plain_words (w ∷ ws) h = (λ i. plain_word w h.0 i ∷ plain_words ws h.1 i)

words-placed : (ts : List Token) → words (placed_words ts) ≡ map word_of (texts ts)
words-placed [] = refl
words-placed (t ∷ ts) = ap (λ r. word_of t.text ∷ r) (words-placed ts)

pub words-printed : (n : ℕ) (ws : List Word) → AllByRecursion IsPlain ws → words (placed_words (tokens_of_line (enumerate_from n (join_with_byte 32 (map printed_word ws))))) ≡ ws
words-printed n ws h = words-placed _ ∙ ap (map word_of) (texts-joined (map printed_word ws) n (plain_pieces ws h)) ∙ plain_words ws h

abbrev pub joined : List Word → List ℕ
joined ws = join_with_byte 32 (map printed_word ws)

pub limit_small : 9223372036854775807 < 10 ^ 64
limit_small = lit< tt

plain_of : (w : Word) → IsSpoken w → IsWithin 9223372036854775807 w → IsPlain w
plain_of (number z) h k = lt_of_le_of_lt k limit_small
plain_of (letter c) h k = h
plain_of (conflict c) h k = absurd h
plain_of other h k = absurd h

-- the words of a step within the limit
pub plain_all : (ws : List Word) → AllByRecursion IsSpoken ws → AllByRecursion (IsWithin 9223372036854775807) ws → AllByRecursion IsPlain ws
plain_all [] h k = tt
plain_all (w ∷ ws) h k = (plain_of w h.0 k.0, plain_all ws h.1 k.1)

pub within_words : {S : Type 0} (g : Grammar S) (placed : List Placed) → AllByRecursion (IsWithin g.limit) (words placed) → AreInLimit g placed
within_words g [] h = tt
within_words g (p ∷ placed) h = (h.0, within_words g placed h.1)
