-- Names and numbers of plain words: none is a flag to clap, and numbers are read as what they spell.
use Rattle.std.proofs.Common.{◌≡◌, ◌≢◌, ◌==◌, ℕ, true, false, nat_lt, [], ◌∷◌, length, Some, inl, inr, refl, sym, subst, arith}
use Rattle.std.specs.Str.{bytes_eq}
use Rattle.std.specs.Char.{is_ascii_digit}
use Rattle.std.proofs.lemmas.Bool.{and_parts, false_from_ne_true, not-true, eqb-true, le-leb}
use Rattle.std.proofs.lemmas.Slice.Eq.{bytes_eq-Decides}
use Rattle.cx_desk.specs.Outside.{Bytes}
use Rattle.cx_words.specs.Given.{number_in}
use Rattle.cx_words.specs.PlainWords.{IsFormulaName, IsName, Spells, SpellsWithin}
use Rattle.cx_words.proofs.Uses.{NoFlag}

pub no_dash : (b : ℕ) (rest : Bytes) → (b == 45) ≡ false → NoFlag (b ∷ rest)
no_dash b rest e = record { long = rw e refl; short = rw e refl; dashes = rw e refl }

pub name_plain : (name : Bytes) → IsName name → NoFlag name
name_plain [] h = cc
name_plain (b ∷ rest) h = no_dash b rest (not-true _ h)

pub formula_plain : (name : Bytes) → IsFormulaName name → NoFlag name
formula_plain name (inl h) = name_plain name h
formula_plain name (inr e) = subst NoFlag (sym e) (record { long = refl; short = refl; dashes = refl })

digit_no_dash : (b : ℕ) → is_ascii_digit b ≡ true → (b == 45) ≡ false
digit_no_dash b digit = false_from_ne_true (b == 45) (λ e.
    let dash : is_ascii_digit 45 ≡ true = subst (λ (x : ℕ). is_ascii_digit x ≡ true) (eqb-true b 45 e) digit in
    cc)

pub number_plain : (text : Bytes) (number : ℕ) → Spells text number → NoFlag text
number_plain [] number h = absurd (h.some refl)
number_plain (b ∷ rest) number h = no_dash b rest (digit_no_dash b (and_parts (is_ascii_digit b) _ h.digits).0)

some_bytes : (text : Bytes) → text ≢ [] → nat_lt 0 (length text) ≡ true
some_bytes [] h = absurd (h refl)
some_bytes (b ∷ rest) h = le-leb 1 (length (b ∷ rest)) (omega arith)

pub number_read : (least most : ℕ) (text : Bytes) (number : ℕ) → SpellsWithin least most text number → number_in least most text ≡ Some number
number_read least most text number h =
    rw (h.spelt.digits, some_bytes text h.spelt.some, h.spelt.value, le-leb least number h.least_met, le-leb number most h.most_met) refl

pub apart : (a b : Bytes) → a ≢ b → bytes_eq a b ≡ false
apart a b ne = false_from_ne_true (bytes_eq a b) (λ e. ne ((bytes_eq-Decides a b).0 e))
