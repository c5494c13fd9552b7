-- Tokens of the body as words.
use Rattle.std.proofs.Common.{◌≡◌, sym, ap, ◌∙◌, subst, ℕ, zero, suc, ◌+◌, ◌-◌, ◌<◌, ◌≤◌, ℤ, false, cond, List, [], ◌∷◌, length, take, drop, get_or, Some, None, arith}
use Rattle.std.proofs.lemmas.List.{take_all}
use Rattle.cx_texts.specs.Tokens.{is_blank, NoBlank}
use Rattle.cx_texts.specs.Words.{Word, letter, other, number, number_or, integer, word_of, joined_words, formula_words_of}
use Rattle.cx_texts.proofs.DigitLaws.{not_equal}
use Rattle.cnfx_reader.specs.Meanings.{IsStrange}

-- a token that is no integer, does not begin with `x` and is not `a`
pub strange_token : (t : List ℕ) → 0 < length t → (get_or t 0 0 ≡ 120 → ⊥) → (length t ≡ 1 → get_or t 0 0 ≡ 97 → ⊥) → integer t ≡ None → (w : Word) × IsStrange w × (formula_words_of t ≡ w ∷ [])
strange_token [] l n m e = absurd (omega arith)
strange_token (b ∷ []) l n m e = (letter b, (n, m (omega arith)), ap (λ i. number_or (letter b) i ∷ []) e)
strange_token (b ∷ c ∷ bs) l n m e =
    (other, tt, ap (λ x. cond x (joined_words (integer (c ∷ bs))) (word_of (b ∷ c ∷ bs) ∷ [])) (not_equal b 120 n) ∙ ap (λ i. number_or other i ∷ []) e)

zero_not_mark : ◌≡◌ {A = ℕ} 0 120 → ⊥
zero_not_mark e = omega arith

-- an `x` joined to an integer
pub joined_token : (t : List ℕ) (len : ℕ) (z : ℤ) → get_or t 0 0 ≡ 120 → 0 < len → len ≤ length (drop 1 t) → integer (take len (drop 1 t)) ≡ Some z → formula_words_of (take (suc len) t) ≡ letter 120 ∷ number z ∷ []
joined_token [] len z x some l e = absurd (zero_not_mark x)
joined_token (b ∷ []) len z x some l e = absurd (omega arith)
joined_token (b ∷ c ∷ bs) zero z x some l e = absurd (omega arith)
joined_token (b ∷ c ∷ bs) (suc len) z x some l e = ap (λ y. formula_words_of (y ∷ c ∷ take len bs)) x ∙ ap joined_words e

-- a non-blank byte before a run
pub run_more : (text : List ℕ) (len : ℕ) → 0 < length text → is_blank (get_or text 0 0) ≡ false → NoBlank (take len (drop 1 text)) → NoBlank (take (1 + len) text)
run_more [] len l b h = absurd (omega arith)
run_more (c ∷ text) len l b h = let e : 1 + len ≡ suc len = omega arith in subst (λ n. NoBlank (take n (c ∷ text))) (sym e) (b, h)

-- an `x` alone
pub lone_mark : (t : List ℕ) → get_or t 0 0 ≡ 120 → length t ≡ 1 → formula_words_of t ≡ letter 120 ∷ []
lone_mark [] x l = absurd (zero_not_mark x)
lone_mark (b ∷ []) x l = ap (λ y. formula_words_of (y ∷ [])) x
lone_mark (b ∷ c ∷ bs) x l = absurd (omega arith)

-- an `a` alone
pub lone_assumption : (t : List ℕ) → get_or t 0 0 ≡ 97 → length t ≡ 1 → formula_words_of t ≡ letter 97 ∷ []
lone_assumption [] x l = absurd (omega (arith, l))
lone_assumption (b ∷ []) x l = ap (λ y. formula_words_of (y ∷ [])) x
lone_assumption (b ∷ c ∷ bs) x l = absurd (omega arith)

-- an `x` joined to the rest of its token
pub joined_whole : (t : List ℕ) → get_or t 0 0 ≡ 120 → 1 < length t → formula_words_of t ≡ joined_words (integer (take (length t - 1) (drop 1 t)))
joined_whole [] x l = absurd (omega arith)
joined_whole (b ∷ []) x l = absurd (omega arith)
joined_whole (b ∷ c ∷ bs) x l =
    ap (λ y. formula_words_of (y ∷ c ∷ bs)) x ∙ ap (λ u. joined_words (integer u)) (sym (take_all (length (b ∷ c ∷ bs) - 1) (c ∷ bs) (omega arith)))

-- a token that is an integer
pub integer_token : (t : List ℕ) (z : ℤ) → (get_or t 0 0 ≡ 120 → ⊥) → integer t ≡ Some z → formula_words_of t ≡ number z ∷ []
integer_token [] z n e = ap (λ i. number_or other i ∷ []) e
integer_token (b ∷ []) z n e = ap (λ i. number_or (letter b) i ∷ []) e
integer_token (b ∷ c ∷ bs) z n e =
    ap (λ x. cond x (joined_words (integer (c ∷ bs))) (word_of (b ∷ c ∷ bs) ∷ [])) (not_equal b 120 n) ∙ ap (λ i. number_or other i ∷ []) e
