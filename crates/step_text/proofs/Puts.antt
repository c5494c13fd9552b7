-- A line is written piece by piece.
use Rattle.std.proofs.Common.{◌≡◌, refl, sym, ap, ◌∙◌, subst, ℕ, ◌+◌, ◌-◌, ◌<◌, ◌≤◌, ℤ, pos, List, [], ◌∷◌, ◌++◌, map, flat_map, length, take, drop, take-append-drop, arith, decimal, append_assoc, append-nil, Result, Ok, Err}
use Rattle.std.specs.Fmt.{digits}
use Rattle.std.proofs.lemmas.Grind.{flat_map-append}
use Rattle.std.proofs.Math.Seq.{take-add}
use Rattle.cx_desk.specs.declared.desk.Port.{Port}
use Rattle.cx_desk.specs.Outside.{Bytes, Outside}
use Rattle.cx_desk.specs.Calls.{gained, PutFaulted, PutsAll}
use Rattle.cx_desk.proofs.Moves.{gained-twice, gained-none, fails-within}
use Rattle.cx_base.specs.declared.id_moves.IdMove.{IdMove}
use Rattle.cx_texts.specs.Words.{Word, number, letter}
use Rattle.cx_texts.specs.Grammar.{both_ids, spelled_list}
use Rattle.cx_texts.specs.Printed.{printed_word, printed_line}
use Rattle.step_text.specs.Spaced.{spaced, spaced_integer, spaced_id, spaced_move}

-- a proper prefix was written before a fault
abbrev pub Fails : Port → Bytes → Outside → Outside → Type 0
Fails port bytes old new = (k : ℕ) × (k < length bytes) × PutFaulted port (gained port (take k bytes) old) new

fails_first : (port : Port) (a b : Bytes) (old new : Outside) → Fails port a old new → Fails port (a ++ b) old new
fails_first port a b old new h = fails-within port [] a b h.0 old old new h.1 (sym (gained-none port old)) h.2

fails_then : (port : Port) (a b : Bytes) (old mid new : Outside) → mid ≡ gained port a old → Fails port b mid new → Fails port (a ++ b) old new
fails_then port a b old mid new e h = subst (λ c. Fails port (a ++ c) old new) (append-nil b) (fails-within port a b [] h.0 old mid new h.1 e h.2)

puts_then : {T E : Type 0} (port : Port) (a b : Bytes) (old mid new : Outside) (r : Result T E) → mid ≡ gained port a old → PutsAll port b mid r new → PutsAll port (a ++ b) old r new
puts_then port a b old mid new (Ok x) e h = h ∙ ap (gained port b) e ∙ gained-twice port a b old
puts_then port a b old mid new (Err x) e h = fails_then port a b old mid new e h

-- ---- a text of two pieces

pub first_fails : (port : Port) (a b l : Bytes) (old new : Outside) → a ++ b ≡ l → Fails port a old new → Fails port l old new
first_fails port a b l old new e h = subst (λ t. Fails port t old new) e (fails_first port a b old new h)

pub two_puts : {T E : Type 0} (port : Port) (a b l : Bytes) (old mid new : Outside) (r : Result T E) → a ++ b ≡ l → mid ≡ gained port a old → PutsAll port b mid r new → PutsAll port l old r new
two_puts port a b l old mid new r e h k = subst (λ t. PutsAll port t old r new) e (puts_then port a b old mid new r h k)

-- ---- a list in parts

module _ {X : Type 0} (f : X → Bytes) (xs : List X) (done next : ℕ) (port : Port) (old mid new : Outside) (rises : done ≤ next) (before : mid ≡ gained port (flat_map f (take done xs)) old) where
  part_text : flat_map f (take next xs) ≡ flat_map f (take done xs) ++ flat_map f (take (next - done) (drop done xs))
  part_text =
      let e : done + (next - done) ≡ next = omega arith in
      ap (λ n. flat_map f (take n xs)) (sym e) ∙ ap (flat_map f) (take-add done (next - done) xs) ∙ flat_map-append f (take done xs) (take (next - done) (drop done xs))

  pub part_put : new ≡ gained port (flat_map f (take (next - done) (drop done xs))) mid → new ≡ gained port (flat_map f (take next xs)) old
  part_put now =
      now ∙ ap (gained port _) before ∙ gained-twice port (flat_map f (take done xs)) (flat_map f (take (next - done) (drop done xs))) old
      ∙ ap (λ (t : Bytes). gained port t old) (sym part_text)

  pub part_fails : Fails port (flat_map f (take (next - done) (drop done xs))) mid new → Fails port (flat_map f xs) old new
  part_fails h =
      let whole : flat_map f xs ≡ flat_map f (take next xs) ++ flat_map f (drop next xs) = ap (flat_map f) (sym (take-append-drop next xs)) ∙ flat_map-append f (take next xs) (drop next xs) in
      let split : flat_map f xs ≡ flat_map f (take done xs) ++ (flat_map f (take (next - done) (drop done xs)) ++ flat_map f (drop next xs)) =
      whole ∙ ap (λ t. t ++ flat_map f (drop next xs)) part_text ∙ append_assoc (flat_map f (take done xs)) (flat_map f (take (next - done) (drop done xs))) (flat_map f (drop next xs)) in
      subst (λ t. Fails port t old new) (sym split)
      (fails-within port (flat_map f (take done xs)) (flat_map f (take (next - done) (drop done xs))) (flat_map f (drop next xs)) h.0 old mid new h.1 before h.2)

-- ---- lines

zero_digit : decimal 0 ≡ 48 ∷ []
unfolding digits
zero_digit = refl

pub line_spaced : (w : Word) (ws : List Word) → printed_line (w ∷ ws) ≡ printed_word w ++ (spaced ws ++ 10 ∷ [])
line_spaced w [] = refl
line_spaced w (v ∷ ws) = append_assoc (printed_word w) (32 ∷ _) (10 ∷ []) ∙ ap (λ l. printed_word w ++ 32 ∷ l) (line_spaced v ws ∙ sym (append_assoc (printed_word v) (spaced ws) (10 ∷ [])))

pub spaced_integers : (zs : List ℤ) → spaced (spelled_list zs) ≡ flat_map spaced_integer zs ++ (32 ∷ 48 ∷ [])
spaced_integers [] = ap (λ d. 32 ∷ (d ++ [])) zero_digit
spaced_integers (z ∷ zs) = ap (λ l. spaced_integer z ++ l) (spaced_integers zs) ∙ sym (append_assoc (spaced_integer z) (flat_map spaced_integer zs) (32 ∷ 48 ∷ []))

pub spaced_ids : (ns : List ℕ) → spaced (spelled_list (map pos ns)) ≡ flat_map spaced_id ns ++ (32 ∷ 48 ∷ [])
spaced_ids [] = ap (λ d. 32 ∷ (d ++ [])) zero_digit
spaced_ids (n ∷ ns) = ap (λ l. spaced_id n ++ l) (spaced_ids ns) ∙ sym (append_assoc (spaced_id n) (flat_map spaced_id ns) (32 ∷ 48 ∷ []))

pub integers_text : (zs : List ℤ) (after : Bytes) → flat_map spaced_integer zs ++ (32 ∷ 48 ∷ (after ++ [])) ≡ spaced (spelled_list zs) ++ after
integers_text zs after =
    ap (λ l. flat_map spaced_integer zs ++ (32 ∷ 48 ∷ l)) (append-nil after) ∙ sym (append_assoc (flat_map spaced_integer zs) (32 ∷ 48 ∷ []) after) ∙ ap (λ l. l ++ after) (sym (spaced_integers zs))

pub ids_text : (ns : List ℕ) → flat_map spaced_id ns ++ (32 ∷ 48 ∷ 10 ∷ []) ≡ spaced (spelled_list (map pos ns)) ++ 10 ∷ []
ids_text ns = sym (append_assoc (flat_map spaced_id ns) (32 ∷ 48 ∷ []) (10 ∷ [])) ∙ ap (λ l. l ++ 10 ∷ []) (sym (spaced_ids ns))

spaced_moves : (ms : List IdMove) → flat_map spaced_move ms ≡ flat_map spaced_integer (flat_map both_ids ms)
spaced_moves [] = refl
spaced_moves (m ∷ ms) = append_assoc (spaced_id m.from) (spaced_id m.to) (flat_map spaced_move ms) ∙ ap (λ t. spaced_id m.from ++ (spaced_id m.to ++ t)) (spaced_moves ms)

pub moves_text : (ms : List IdMove) → flat_map spaced_move ms ++ (32 ∷ 48 ∷ 10 ∷ []) ≡ spaced (spelled_list (flat_map both_ids ms)) ++ 10 ∷ []
moves_text ms = ap (λ t. t ++ (32 ∷ 48 ∷ 10 ∷ [])) (spaced_moves ms) ∙ integers_text (flat_map both_ids ms) (10 ∷ [])

pub move_text : (m : IdMove) → (32 ∷ (decimal m.from ++ [])) ++ (32 ∷ (decimal m.to ++ [])) ≡ spaced_move m
move_text m = λ i. 32 ∷ (append-nil (decimal m.from) i ++ (32 ∷ append-nil (decimal m.to) i))

pub spaced-append : (us ws : List Word) → spaced (us ++ ws) ≡ spaced us ++ spaced ws
spaced-append us ws = flat_map-append (λ w. 32 ∷ printed_word w) us ws

pub head_text : (before : Bytes) (n : ℕ) (ls : List ℤ) → (before ++ (decimal n ++ [])) ++ (spaced (spelled_list ls) ++ []) ≡ before ++ (decimal n ++ spaced (spelled_list ls))
head_text before n ls = simp (append_assoc, append-nil)

-- a line's head, and the words after it
pub whole_line : (before : Bytes) (n : ℕ) (ls : List ℤ) (ws : List Word) → before ++ (decimal n ++ (spaced (spelled_list ls) ++ (spaced ws ++ 10 ∷ []))) ≡ before ++ printed_line (number (pos n) ∷ (spelled_list ls ++ ws))
whole_line before n ls ws =
    ap (λ l. before ++ (decimal n ++ l)) (sym (append_assoc (spaced (spelled_list ls)) (spaced ws) (10 ∷ [])) ∙ ap (λ l. l ++ 10 ∷ []) (sym (spaced-append (spelled_list ls) ws)))
    ∙ ap (λ l. before ++ l) (sym (line_spaced (number (pos n)) (spelled_list ls ++ ws)))

after_three : (a b c d : Bytes) → (a ++ (b ++ c)) ++ d ≡ a ++ (b ++ (c ++ d))
after_three a b c d = simp append_assoc

pub line_in_two : (before : Bytes) (n : ℕ) (ls : List ℤ) (ws : List Word) → (before ++ (decimal n ++ spaced (spelled_list ls))) ++ (spaced ws ++ 10 ∷ []) ≡ before ++ printed_line (number (pos n) ∷ (spelled_list ls ++ ws))
line_in_two before n ls ws = after_three before (decimal n) (spaced (spelled_list ls)) (spaced ws ++ 10 ∷ []) ∙ whole_line before n ls ws

-- the tails of lines: a list, or one number and a zero
pub list_tail : (ws : List Word) → spaced ws ++ 10 ∷ [] ≡ spaced (ws ++ []) ++ 10 ∷ []
list_tail ws = ap (λ us. spaced us ++ 10 ∷ []) (sym (append-nil ws))

pub number_tail : (z : ℤ) → spaced_integer z ++ (32 ∷ 48 ∷ 10 ∷ []) ≡ spaced (number z ∷ number (pos 0) ∷ []) ++ 10 ∷ []
number_tail z =
    ap (λ d. spaced_integer z ++ 32 ∷ ((d ++ []) ++ 10 ∷ [])) (sym zero_digit)
    ∙ sym (append_assoc (spaced_integer z) (32 ∷ (decimal 0 ++ [])) (10 ∷ []))

pub clause_names_line : (n : ℕ) (ns : List ℕ) → (decimal n ++ (32 ∷ 100 ∷ [])) ++ (spaced (spelled_list (map pos ns)) ++ 10 ∷ []) ≡ printed_line (number (pos n) ∷ letter 100 ∷ (spelled_list (map pos ns) ++ []))
clause_names_line n ns =
    append_assoc (decimal n) (32 ∷ 100 ∷ []) (spaced (spelled_list (map pos ns)) ++ 10 ∷ [])
    ∙ ap (λ ws. decimal n ++ (32 ∷ 100 ∷ (spaced ws ++ 10 ∷ []))) (sym (append-nil (spelled_list (map pos ns))))
    ∙ sym (line_spaced (number (pos n)) (letter 100 ∷ (spelled_list (map pos ns) ++ [])))

pub one_name_line : (n m : ℕ) → decimal n ++ (32 ∷ 100 ∷ 32 ∷ (decimal m ++ 32 ∷ 48 ∷ 10 ∷ [])) ≡ printed_line (number (pos n) ∷ letter 100 ∷ (spelled_list (map pos (m ∷ [])) ++ []))
one_name_line n m =
    ap (λ l. decimal n ++ 32 ∷ 100 ∷ l) (number_tail (pos m))
    ∙ sym (line_spaced (number (pos n)) (letter 100 ∷ number (pos m) ∷ number (pos 0) ∷ []))

pub one_parity_name_line : (m : ℕ) → (120 ∷ 32 ∷ 100 ∷ 32 ∷ []) ++ (decimal m ++ 32 ∷ 48 ∷ 10 ∷ []) ≡ printed_line (letter 120 ∷ letter 100 ∷ (spelled_list (map pos (m ∷ [])) ++ []))
one_parity_name_line m =
    ap (λ l. 120 ∷ 32 ∷ 100 ∷ l) (number_tail (pos m))
    ∙ sym (line_spaced (letter 120) (letter 100 ∷ number (pos m) ∷ number (pos 0) ∷ []))

pub parity_names_line : (ns : List ℕ) → (120 ∷ 32 ∷ 100 ∷ []) ++ (spaced (spelled_list (map pos ns)) ++ 10 ∷ []) ≡ printed_line (letter 120 ∷ letter 100 ∷ (spelled_list (map pos ns) ++ []))
parity_names_line ns =
    ap (λ ws. 120 ∷ 32 ∷ 100 ∷ (spaced ws ++ 10 ∷ [])) (sym (append-nil (spelled_list (map pos ns))))
    ∙ sym (line_spaced (letter 120) (letter 100 ∷ (spelled_list (map pos ns) ++ [])))
