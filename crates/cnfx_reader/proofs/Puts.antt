-- Pieces that are written one after another, and the text of a line.
use Rattle.std.proofs.Common.{◌≡◌, refl, sym, ap, ◌∙◌, subst, ℕ, zero, suc, ◌+◌, ◌-◌, ◌<◌, ◌≤◌, ℤ, true, false, List, [], ◌∷◌, ◌++◌, map, flat_map, length, take, drop, take-append-drop, decimal, arith, append_assoc, append-nil, Result, Ok, Err}
use Rattle.std.specs.List.{join_with_byte}
use Rattle.std.specs.Fmt.{digits}
use Rattle.std.proofs.lemmas.Grind.{flat_map-append}
use Rattle.std.proofs.Math.Seq.{take-add}
use Rattle.cx_base.specs.Literals.{Literal}
use Rattle.cx_base.specs.Integers.{signed, integers_of}
use Rattle.cx_base.specs.declared.constraint.Constraint.TheVariants.{Clause, Parity, Assume}
use Rattle.cx_desk.specs.declared.desk.Port.{Port}
use Rattle.cx_desk.specs.Outside.{Bytes, Outside}
use Rattle.cx_desk.specs.Calls.{gained, PutFaulted, PutsAll}
use Rattle.cx_desk.proofs.Moves.{gained-twice, gained-none, fails-within}
use Rattle.cx_texts.specs.Words.{letter}
use Rattle.cx_texts.specs.Grammar.{spelled_list}
use Rattle.cx_texts.specs.Printed.{printed_integer, printed_word, printed_line}
use Rattle.cnfx_reader.specs.PrintedFormula.{literal_text, literals_text, printed_constraint}

-- a proper prefix was written before a fault
abbrev pub Fails : Port → Bytes → Outside → Outside → Type 0
Fails port bytes old new = (k : ℕ) × (k < length bytes) × PutFaulted port (gained port (take k bytes) old) new

fails_first : (port : Port) (a b : Bytes) (old new : Outside) → Fails port a old new → Fails port (a ++ b) old new
fails_first port a b old new h = fails-within port [] a b h.0 old old new h.1 (sym (gained-none port old)) h.2

fails_then : (port : Port) (a b : Bytes) (old mid new : Outside) → mid ≡ gained port a old → Fails port b mid new → Fails port (a ++ b) old new
fails_then port a b old mid new e h = subst (λ c. Fails port (a ++ c) old new) (append-nil b) (fails-within port a b [] h.0 old mid new h.1 e h.2)

puts_then : {T E : Type 0} (port : Port) (a b : Bytes) (old mid new : Outside) (r : Result T E) → mid ≡ gained port a old → PutsAll port b mid r new → PutsAll port (a ++ b) old r new
puts_then port a b old mid new (Ok x) e h = h ∙ ap (gained port b) e ∙ gained-twice port a b old
puts_then port a b old mid new (Err x) e h = fails_then port a b old mid new e h

-- ---- a text of two pieces

pub first_fails : (port : Port) (a b l : Bytes) (old new : Outside) → a ++ b ≡ l → Fails port a old new → Fails port l old new
first_fails port a b l old new e h = subst (λ t. Fails port t old new) e (fails_first port a b old new h)

pub two_puts : {T E : Type 0} (port : Port) (a b l : Bytes) (old mid new : Outside) (r : Result T E) → a ++ b ≡ l → mid ≡ gained port a old → PutsAll port b mid r new → PutsAll port l old r new
two_puts port a b l old mid new r e h k = subst (λ t. PutsAll port t old r new) e (puts_then port a b old mid new r h k)

-- ---- a list in parts

module _ {X : Type 0} (f : X → Bytes) (xs : List X) (done next : ℕ) (port : Port) (old mid new : Outside) (rises : done ≤ next) (before : mid ≡ gained port (flat_map f (take done xs)) old) where
  part_text : flat_map f (take next xs) ≡ flat_map f (take done xs) ++ flat_map f (take (next - done) (drop done xs))
  part_text =
      let e : done + (next - done) ≡ next = omega arith in
      ap (λ n. flat_map f (take n xs)) (sym e) ∙ ap (flat_map f) (take-add done (next - done) xs) ∙ flat_map-append f (take done xs) (take (next - done) (drop done xs))

  pub part_put : new ≡ gained port (flat_map f (take (next - done) (drop done xs))) mid → new ≡ gained port (flat_map f (take next xs)) old
  part_put now =
      now ∙ ap (gained port _) before ∙ gained-twice port (flat_map f (take done xs)) (flat_map f (take (next - done) (drop done xs))) old
      ∙ ap (λ (t : Bytes). gained port t old) (sym part_text)

  pub part_fails : Fails port (flat_map f (take (next - done) (drop done xs))) mid new → Fails port (flat_map f xs) old new
  part_fails h =
      let all : flat_map f xs ≡ flat_map f (take next xs) ++ flat_map f (drop next xs) = ap (flat_map f) (sym (take-append-drop next xs)) ∙ flat_map-append f (take next xs) (drop next xs) in
      let split : flat_map f xs ≡ flat_map f (take done xs) ++ (flat_map f (take (next - done) (drop done xs)) ++ flat_map f (drop next xs)) =
      all ∙ ap (λ t. t ++ flat_map f (drop next xs)) part_text ∙ append_assoc (flat_map f (take done xs)) (flat_map f (take (next - done) (drop done xs))) (flat_map f (drop next xs)) in
      subst (λ t. Fails port t old new) (sym split)
      (fails-within port (flat_map f (take done xs)) (flat_map f (take (next - done) (drop done xs))) (flat_map f (drop next xs)) h.0 old mid new h.1 before h.2)

-- ---- the text of a literal

pub plain_text : (l : Literal) → l.negative ≡ false → literal_text l ≡ decimal l.variable ++ 32 ∷ []
plain_text l h = ap (λ b. printed_integer (signed b l.variable) ++ 32 ∷ []) h

minus_number : (n : ℕ) → 1 ≤ n → printed_integer (signed true n) ≡ 45 ∷ decimal n
minus_number zero low = absurd (omega arith)
minus_number (suc n) low = refl

pub minus_text : (l : Literal) → 1 ≤ l.variable → l.negative ≡ true → literal_text l ≡ 45 ∷ (decimal l.variable ++ 32 ∷ [])
minus_text l low h = ap (λ b. printed_integer (signed b l.variable) ++ 32 ∷ []) h ∙ ap (λ t. t ++ 32 ∷ []) (minus_number l.variable low)

-- ---- the text of a line

joined_text : (zs : List ℤ) → join_with_byte 32 (map printed_word (spelled_list zs)) ≡ flat_map (λ z. printed_integer z ++ 32 ∷ []) zs ++ 48 ∷ []
unfolding digits
joined_text [] = refl
joined_text (z ∷ []) = sym (append_assoc (printed_integer z) (32 ∷ []) (48 ∷ [])) ∙ sym (append_assoc (printed_integer z ++ 32 ∷ []) [] (48 ∷ []))
joined_text (z ∷ y ∷ zs) =
    ap (λ t. printed_integer z ++ 32 ∷ t) (joined_text (y ∷ zs))
    ∙ sym (append_assoc (printed_integer z) (32 ∷ []) (flat_map (λ x. printed_integer x ++ 32 ∷ []) (y ∷ zs) ++ 48 ∷ []))
    ∙ sym (append_assoc (printed_integer z ++ 32 ∷ []) (flat_map (λ x. printed_integer x ++ 32 ∷ []) (y ∷ zs)) (48 ∷ []))

each_text : (lits : List Literal) → flat_map (λ z. printed_integer z ++ 32 ∷ []) (integers_of lits) ≡ flat_map literal_text lits
each_text [] = refl
each_text (l ∷ lits) = ap (λ t. literal_text l ++ t) (each_text lits)

pub line_text : (lits : List Literal) → literals_text lits ≡ printed_line (spelled_list (integers_of lits))
line_text lits =
    sym (append_assoc (flat_map literal_text lits) (48 ∷ []) (10 ∷ []))
    ∙ ap (λ t. (t ++ 48 ∷ []) ++ 10 ∷ []) (sym (each_text lits)) ∙ ap (λ t. t ++ 10 ∷ []) (sym (joined_text (integers_of lits)))

-- the first literals, and then the rest with the end of the line
pub end_text : (n : ℕ) (lits : List Literal) → flat_map literal_text (take n lits) ++ literals_text (drop n lits) ≡ literals_text lits
end_text n lits =
    let first = flat_map literal_text (take n lits) in
    let rest = flat_map literal_text (drop n lits) in
    let all : first ++ rest ≡ flat_map literal_text lits = sym (flat_map-append literal_text (take n lits) (drop n lits)) ∙ ap (flat_map literal_text) (take-append-drop n lits) in
    sym (append_assoc first rest (48 ∷ 10 ∷ [])) ∙ ap (λ t. t ++ 48 ∷ 10 ∷ []) all

with_letter : (c : ℕ) (zs : List ℤ) → c ∷ 32 ∷ printed_line (spelled_list zs) ≡ printed_line (letter c ∷ spelled_list zs)
with_letter c [] = refl
with_letter c (z ∷ zs) = refl

pub clause_text : (lits : List Literal) → [] ++ literals_text lits ≡ printed_constraint (Clause lits)
clause_text lits = line_text lits

pub parity_text : (lits : List Literal) → 120 ∷ literals_text lits ≡ printed_constraint (Parity lits)
parity_text lits = ap (λ t. 120 ∷ t) (line_text lits)

pub assume_text : (lits : List Literal) → 97 ∷ 32 ∷ literals_text lits ≡ printed_constraint (Assume lits)
assume_text lits = ap (λ t. 97 ∷ 32 ∷ t) (line_text lits) ∙ with_letter 97 (integers_of lits)
