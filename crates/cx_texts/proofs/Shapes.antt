-- Fields without their values, and what words do at a list of them.
use Rattle.std.proofs.Common.{◌≡◌, ◌≢◌, refl, sym, ap, ◌∙◌, subst, ℕ, zero, suc, ◌<◌, ℤ, pos, negsuc, nat_abs, Bool, true, false, cond, eqb, eqb-true, eq-eqb, List, [], ◌∷◌, ◌++◌, map, flat_map, arith, true≢false}
use Rattle.std.specs.List.{AllByRecursion}
use Rattle.std.specs.Bool.{⊤}
use Rattle.cx_base.specs.declared.id_moves.IdMove.{IdMove}
use Rattle.cx_texts.specs.Words.{Word, number, letter, conflict, other}
use Rattle.cx_texts.specs.Grammar.{Field, mark, conflict_line, id, integer, end, ids, integers, pairs, both_ids, spelled, spelled_list, IsProper}

pub data Kind : Type 0 where
  a_mark : ℕ → Kind
  a_conflict : Kind
  an_id : Kind
  an_integer : Kind
  an_end : Kind
  some_ids : Kind
  some_integers : Kind
  some_pairs : Kind

abbrev pub kind : Field → Kind
kind (mark c) = a_mark c
kind (conflict_line k) = a_conflict
kind (id n) = an_id
kind (integer z) = an_integer
kind end = an_end
kind (ids ns) = some_ids
kind (integers zs) = some_integers
kind (pairs ms) = some_pairs

-- a word ends the field, goes on with its list, begins one more pair of it, or does not fit
pub data Move : Type 0 where
  closes : Field → Move
  stays : ℤ → Move
  opens : ℕ → Move
  refuses : Move

abbrev pub at_mark : ℕ → Word → Move
at_mark c (letter e) = cond (eqb c e) (closes (mark c)) refuses
at_mark c _ = refuses

abbrev pub at_conflict : Word → Move
at_conflict (conflict k) = closes (conflict_line k)
at_conflict _ = refuses

abbrev pub at_id : Word → Move
at_id (number (pos (suc n))) = closes (id (suc n))
at_id _ = refuses

abbrev pub at_integer : Word → Move
at_integer (number (pos zero)) = refuses
at_integer (number (pos (suc n))) = closes (integer (pos (suc n)))
at_integer (number (negsuc n)) = closes (integer (negsuc n))
at_integer _ = refuses

abbrev pub at_end : Word → Move
at_end (number (pos zero)) = closes end
at_end _ = refuses

abbrev pub at_ids : Word → Move
at_ids (number (pos zero)) = closes (ids [])
at_ids (number (pos (suc n))) = stays (pos (suc n))
at_ids _ = refuses

abbrev pub at_integers : Word → Move
at_integers (number (pos zero)) = closes (integers [])
at_integers (number (pos (suc n))) = stays (pos (suc n))
at_integers (number (negsuc n)) = stays (negsuc n)
at_integers _ = refuses

abbrev pub at_pairs : Word → Move
at_pairs (number (pos zero)) = closes (pairs [])
at_pairs (number (pos (suc n))) = opens (suc n)
at_pairs _ = refuses

abbrev pub move : Kind → Word → Move
move (a_mark c) w = at_mark c w
move a_conflict w = at_conflict w
move an_id w = at_id w
move an_integer w = at_integer w
move an_end w = at_end w
move some_ids w = at_ids w
move some_integers w = at_integers w
move some_pairs w = at_pairs w

pub data Parsed : Type 0 where
  whole : List Field → Parsed
  partial : Parsed
  bad : Parsed

abbrev pub with_field : Field → Parsed → Parsed
with_field f (whole fs) = whole (f ∷ fs)
with_field f partial = partial
with_field f bad = bad

-- the list with one more number in front
abbrev pub add : ℤ → Field → Field
add z (ids ns) = ids (nat_abs z ∷ ns)
add z (integers zs) = integers (z ∷ zs)
add z (mark c) = mark c
add z (conflict_line k) = conflict_line k
add z (id n) = id n
add z (integer y) = integer y
add z end = end
add z (pairs ms) = pairs ms

abbrev pub push : ℤ → Parsed → Parsed
push z (whole []) = whole []
push z (whole (f ∷ fs)) = whole (add z f ∷ fs)
push z partial = partial
push z bad = bad

-- the list of pairs after an id with the pair of both in front
abbrev pub paired : ℕ → List Field → List Field
paired n (id m ∷ pairs ms ∷ fs) = pairs (record { from = n; to = m } ∷ ms) ∷ fs
paired n fs = fs

abbrev pub pair : ℕ → Parsed → Parsed
pair n (whole fs) = whole (paired n fs)
pair n partial = partial
pair n bad = bad

-- after a word: where it ends its field the rest is parsed after that, where it goes on with a list within it, and where it begins a pair after one more id
abbrev pub onward : Parsed → Parsed → Parsed → Move → Parsed
onward behind within second (closes f) = with_field f behind
onward behind within second (stays z) = push z within
onward behind within second (opens n) = pair n second
onward behind within second refuses = bad

abbrev pub parse : List Kind → List Word → Parsed
parse [] [] = whole []
parse [] (w ∷ ws) = bad
parse (k ∷ ks) [] = partial
parse (k ∷ ks) (w ∷ ws) = onward (parse ks ws) (parse (k ∷ ks) ws) (parse (an_id ∷ k ∷ ks) ws) (move k w)

-- ---- what is parsed is spelled so

pub record Whole (ks : List Kind) (ws : List Word) (fs : List Field) : Type 0 where
  pub kinds : map kind fs ≡ ks
  pub proper : AllByRecursion IsProper fs
  pub spells : flat_map spelled fs ≡ ws

abbrev pub Claim : List Kind → List Word → Parsed → Type 0
Claim ks ws (whole fs) = Whole ks ws fs
Claim ks ws partial = (fs : List Field) × (rest : List Word) × Whole ks (ws ++ rest) fs
Claim ks ws bad = ⊤

abbrev Fits : Kind → Word → Move → Type 0
Fits k w (closes f) = (kind f ≡ k) × IsProper f × (spelled f ≡ w ∷ [])
Fits k w (stays z) = (f : Field) → kind f ≡ k → IsProper f → (kind (add z f) ≡ k) × IsProper (add z f) × (spelled (add z f) ≡ w ∷ spelled f)
Fits k w (opens n) = (k ≡ some_pairs) × (0 < n) × (number (pos n) ≡ w)
Fits k w refuses = ⊤

mark_fits : (c e : ℕ) (b : Bool) → eqb c e ≡ b → Fits (a_mark c) (letter e) (cond b (closes (mark c)) refuses)
mark_fits c e true h = (refl, tt, ap (λ n. letter n ∷ []) (eqb-true c e h))
mark_fits c e false h = tt

ids_fit : (n : ℕ) (f : Field) → kind f ≡ some_ids → IsProper f → (kind (add (pos (suc n)) f) ≡ some_ids) × IsProper (add (pos (suc n)) f) × (spelled (add (pos (suc n)) f) ≡ number (pos (suc n)) ∷ spelled f)
ids_fit n (ids ns) e p = (refl, (omega arith, p), refl)
ids_fit n (mark c) e p = cc
ids_fit n (conflict_line k) e p = cc
ids_fit n (id m) e p = cc
ids_fit n (integer z) e p = cc
ids_fit n end e p = cc
ids_fit n (integers zs) e p = cc
ids_fit n (pairs ms) e p = cc

integers_fit : (z : ℤ) → z ≢ pos 0 → (f : Field) → kind f ≡ some_integers → IsProper f → (kind (add z f) ≡ some_integers) × IsProper (add z f) × (spelled (add z f) ≡ number z ∷ spelled f)
integers_fit z n (integers zs) e p = (refl, (n, p), refl)
integers_fit z n (ids ns) e p = cc
integers_fit z n (mark c) e p = cc
integers_fit z n (conflict_line k) e p = cc
integers_fit z n (id m) e p = cc
integers_fit z n (integer y) e p = cc
integers_fit z n end e p = cc
integers_fit z n (pairs ms) e p = cc

pub pos_not_zero : (n : ℕ) → pos (suc n) ≢ pos 0
pos_not_zero n e = let h : suc n ≡ 0 = ap nat_abs e in omega arith

pub neg_not_zero : (n : ℕ) → negsuc n ≢ pos 0
neg_not_zero n e = cc

move_fits : (k : Kind) (w : Word) → Fits k w (move k w)
move_fits (a_mark c) (letter e) = mark_fits c e (eqb c e) refl
move_fits (a_mark c) (number z) = tt
move_fits (a_mark c) (conflict k) = tt
move_fits (a_mark c) other = tt
move_fits a_conflict (conflict k) = (refl, tt, refl)
move_fits a_conflict (number z) = tt
move_fits a_conflict (letter c) = tt
move_fits a_conflict other = tt
move_fits an_id (number (pos (suc n))) = (refl, omega arith, refl)
move_fits an_id (number (pos zero)) = tt
move_fits an_id (number (negsuc n)) = tt
move_fits an_id (letter c) = tt
move_fits an_id (conflict k) = tt
move_fits an_id other = tt
move_fits an_integer (number (pos zero)) = tt
move_fits an_integer (number (pos (suc n))) = (refl, pos_not_zero n, refl)
move_fits an_integer (number (negsuc n)) = (refl, neg_not_zero n, refl)
move_fits an_integer (letter c) = tt
move_fits an_integer (conflict k) = tt
move_fits an_integer other = tt
move_fits an_end (number (pos zero)) = (refl, tt, refl)
move_fits an_end (number (pos (suc n))) = tt
move_fits an_end (number (negsuc n)) = tt
move_fits an_end (letter c) = tt
move_fits an_end (conflict k) = tt
move_fits an_end other = tt
move_fits some_ids (number (pos zero)) = (refl, tt, refl)
move_fits some_ids (number (pos (suc n))) = ids_fit n
move_fits some_ids (number (negsuc n)) = tt
move_fits some_ids (letter c) = tt
move_fits some_ids (conflict k) = tt
move_fits some_ids other = tt
move_fits some_integers (number (pos zero)) = (refl, tt, refl)
move_fits some_integers (number (pos (suc n))) = integers_fit (pos (suc n)) (pos_not_zero n)
move_fits some_integers (number (negsuc n)) = integers_fit (negsuc n) (neg_not_zero n)
move_fits some_integers (letter c) = tt
move_fits some_integers (conflict k) = tt
move_fits some_integers other = tt
move_fits some_pairs (number (pos zero)) = (refl, tt, refl)
move_fits some_pairs (number (pos (suc n))) = (refl, omega arith, refl)
move_fits some_pairs (number (negsuc n)) = tt
move_fits some_pairs (letter c) = tt
move_fits some_pairs (conflict k) = tt
move_fits some_pairs other = tt

-- some fields of these kinds
abbrev default : Kind → Field
default (a_mark c) = mark c
default a_conflict = conflict_line 0
default an_id = id 1
default an_integer = integer (pos 1)
default an_end = end
default some_ids = ids []
default some_integers = integers []
default some_pairs = pairs []

default_fits : (k : Kind) → (kind (default k) ≡ k) × IsProper (default k)
default_fits (a_mark c) = (refl, tt)
default_fits a_conflict = (refl, tt)
default_fits an_id = (refl, omega arith)
default_fits an_integer = (refl, pos_not_zero 0)
default_fits an_end = (refl, tt)
default_fits some_ids = (refl, tt)
default_fits some_integers = (refl, tt)
default_fits some_pairs = (refl, tt)

defaults : (ks : List Kind) → (fs : List Field) × (map kind fs ≡ ks) × AllByRecursion IsProper fs
defaults [] = ([], refl, tt)
defaults (k ∷ ks) =
    let more = defaults ks in
    let here = default_fits k in
    (default k ∷ more.0, ap (λ e. kind (default k) ∷ e) more.1 ∙ ap (λ e. e ∷ ks) here.0, (here.1, more.2))

closed : (k : Kind) (w : Word) (ks : List Kind) (ws : List Word) (f : Field) → Fits k w (closes f) → (p : Parsed) → Claim ks ws p → Claim (k ∷ ks) (w ∷ ws) (with_field f p)
closed k w ks ws f h (whole fs) c = record {
  kinds = ap (λ e. kind f ∷ e) c.kinds ∙ ap (λ e. e ∷ ks) h.0;
  proper = (h.1, c.proper);
  spells = ap (λ e. e ++ flat_map spelled fs) h.2 ∙ ap (λ e. w ∷ e) c.spells;
}
closed k w ks ws f h partial (fs, rest, c) = (
  f ∷ fs,
  rest,
  record {
    kinds = ap (λ e. kind f ∷ e) c.kinds ∙ ap (λ e. e ∷ ks) h.0;
    proper = (h.1, c.proper);
    spells = ap (λ e. e ++ flat_map spelled fs) h.2 ∙ ap (λ e. w ∷ e) c.spells;
  },
)
closed k w ks ws f h bad c = tt

stayed_whole : (k : Kind) (w : Word) (ks : List Kind) (ws : List Word) (z : ℤ) → Fits k w (stays z) → (f : Field) (fs : List Field) → Whole (k ∷ ks) ws (f ∷ fs) → Whole (k ∷ ks) (w ∷ ws) (add z f ∷ fs)
stayed_whole k w ks ws z h f fs c =
    let is_k : kind f ≡ k = cc (c.kinds) in
    let are_ks : map kind fs ≡ ks = cc (c.kinds) in
    let n = h f is_k c.proper.0 in
    record {
      kinds = ap (λ e. kind (add z f) ∷ e) are_ks ∙ ap (λ e. e ∷ ks) n.0;
      proper = (n.1, c.proper.1);
      spells = ap (λ e. e ++ flat_map spelled fs) n.2 ∙ ap (λ e. w ∷ e) c.spells;
    }

no_kinds : (k : Kind) (ks : List Kind) (ws : List Word) {P : Type 0} → Whole (k ∷ ks) ws [] → P
no_kinds k ks ws c = let e : ◌≡◌ {A = List Kind} [] (k ∷ ks) = c.kinds in cc

stayed : (k : Kind) (w : Word) (ks : List Kind) (ws : List Word) (z : ℤ) → Fits k w (stays z) → (p : Parsed) → Claim (k ∷ ks) ws p → Claim (k ∷ ks) (w ∷ ws) (push z p)
stayed k w ks ws z h (whole []) c = no_kinds k ks ws c
stayed k w ks ws z h (whole (f ∷ fs)) c = stayed_whole k w ks ws z h f fs c
stayed k w ks ws z h partial ([], rest, c) = no_kinds k ks _ c
stayed k w ks ws z h partial (f ∷ fs, rest, c) = (add z f ∷ fs, rest, stayed_whole k w ks (ws ++ rest) z h f fs c)
stayed k w ks ws z h bad c = tt

-- after the first of a pair
both_whole : (n : ℕ) (ks : List Kind) (ws : List Word) → 0 < n → (f g : Field) (fs : List Field) → kind f ≡ an_id → kind g ≡ some_pairs → Whole (an_id ∷ some_pairs ∷ ks) ws (f ∷ g ∷ fs) → Whole (some_pairs ∷ ks) (number (pos n) ∷ ws) (paired n (f ∷ g ∷ fs))
both_whole n ks ws p (id m) (pairs ms) fs e h c =
    let are_ks : map kind fs ≡ ks = cc (c.kinds) in
    record {
      kinds = ap (λ e. some_pairs ∷ e) are_ks;
      proper = (((p, c.proper.0), c.proper.1.0), c.proper.1.1);
      spells = ap (λ e. number (pos n) ∷ e) c.spells;
    }
both_whole n ks ws p (id m) (mark b) fs e h c = cc
both_whole n ks ws p (id m) (conflict_line j) fs e h c = cc
both_whole n ks ws p (id m) (id j) fs e h c = cc
both_whole n ks ws p (id m) (integer z) fs e h c = cc
both_whole n ks ws p (id m) end fs e h c = cc
both_whole n ks ws p (id m) (ids ns) fs e h c = cc
both_whole n ks ws p (id m) (integers zs) fs e h c = cc
both_whole n ks ws p (mark b) g fs e h c = cc
both_whole n ks ws p (conflict_line j) g fs e h c = cc
both_whole n ks ws p (integer z) g fs e h c = cc
both_whole n ks ws p end g fs e h c = cc
both_whole n ks ws p (ids ns) g fs e h c = cc
both_whole n ks ws p (integers zs) g fs e h c = cc
both_whole n ks ws p (pairs ms) g fs e h c = cc

paired_whole : (n : ℕ) (ks : List Kind) (ws : List Word) → 0 < n → (fs : List Field) → Whole (an_id ∷ some_pairs ∷ ks) ws fs → Whole (some_pairs ∷ ks) (number (pos n) ∷ ws) (paired n fs)
paired_whole n ks ws p [] c = let e : ◌≡◌ {A = List Kind} [] (an_id ∷ some_pairs ∷ ks) = c.kinds in cc
paired_whole n ks ws p (f ∷ []) c = let e : ◌≡◌ {A = List Kind} (kind f ∷ []) (an_id ∷ some_pairs ∷ ks) = c.kinds in cc
paired_whole n ks ws p (f ∷ g ∷ fs) c =
    let e : kind f ≡ an_id = cc (c.kinds) in
    let h : kind g ≡ some_pairs = cc (c.kinds) in
    both_whole n ks ws p f g fs e h c

paired_claim : (n : ℕ) (ks : List Kind) (ws : List Word) → 0 < n → (p : Parsed) → Claim (an_id ∷ some_pairs ∷ ks) ws p → Claim (some_pairs ∷ ks) (number (pos n) ∷ ws) (pair n p)
paired_claim n ks ws h (whole fs) c = paired_whole n ks ws h fs c
paired_claim n ks ws h partial (fs, rest, c) = (paired n fs, rest, paired_whole n ks (ws ++ rest) h fs c)
paired_claim n ks ws h bad c = tt

opened : (k : Kind) (w : Word) (ks : List Kind) (ws : List Word) (n : ℕ) → Fits k w (opens n) → (p : Parsed) → Claim (an_id ∷ k ∷ ks) ws p → Claim (k ∷ ks) (w ∷ ws) (pair n p)
opened k w ks ws n (e, h, s) p c =
    let d : Claim (an_id ∷ some_pairs ∷ ks) ws p = subst (λ j. Claim (an_id ∷ j ∷ ks) ws p) e c in
    let r : Claim (some_pairs ∷ ks) (w ∷ ws) (pair n p) = subst (λ v. Claim (some_pairs ∷ ks) (v ∷ ws) (pair n p)) s (paired_claim n ks ws h p d) in
    subst (λ j. Claim (j ∷ ks) (w ∷ ws) (pair n p)) (sym e) r

moved : (k : Kind) (w : Word) (ks : List Kind) (ws : List Word) → Claim ks ws (parse ks ws) → Claim (k ∷ ks) ws (parse (k ∷ ks) ws) → Claim (an_id ∷ k ∷ ks) ws (parse (an_id ∷ k ∷ ks) ws)
    → (m : Move) → Fits k w m → Claim (k ∷ ks) (w ∷ ws) (onward (parse ks ws) (parse (k ∷ ks) ws) (parse (an_id ∷ k ∷ ks) ws) m)
moved k w ks ws here stay next (closes f) h = closed k w ks ws f h (parse ks ws) here
moved k w ks ws here stay next (stays z) h = stayed k w ks ws z h (parse (k ∷ ks) ws) stay
moved k w ks ws here stay next (opens n) h = opened k w ks ws n h (parse (an_id ∷ k ∷ ks) ws) next
moved k w ks ws here stay next refuses h = tt

pub parse_sound : (ks : List Kind) (ws : List Word) → Claim ks ws (parse ks ws)
parse_sound [] [] = record { kinds = refl; proper = tt; spells = refl }
parse_sound [] (w ∷ ws) = tt
parse_sound (k ∷ ks) [] = let d = defaults (k ∷ ks) in (d.0, flat_map spelled d.0, record { kinds = d.1; proper = d.2; spells = refl })
parse_sound (k ∷ ks) (w ∷ ws) = moved k w ks ws (parse_sound ks ws) (parse_sound (k ∷ ks) ws) (parse_sound (an_id ∷ k ∷ ks) ws) (move k w) (move_fits k w)

-- ---- what is spelled is parsed

pushed : (n : ℕ) (ns : List ℕ) (p : Parsed) → push (pos (suc n)) (with_field (ids ns) p) ≡ with_field (ids (suc n ∷ ns)) p
pushed n ns (whole fs) = refl
pushed n ns partial = refl
pushed n ns bad = refl

pushed_integer : (z : ℤ) (zs : List ℤ) (p : Parsed) → push z (with_field (integers zs) p) ≡ with_field (integers (z ∷ zs)) p
pushed_integer z zs (whole fs) = refl
pushed_integer z zs partial = refl
pushed_integer z zs bad = refl

parse_ids : (ns : List ℕ) (ks : List Kind) (ws : List Word) → AllByRecursion (λ n. 0 < n) ns → parse (some_ids ∷ ks) (spelled_list (map pos ns) ++ ws) ≡ with_field (ids ns) (parse ks ws)
parse_ids [] ks ws p = refl
parse_ids (zero ∷ ns) ks ws p = let h : 0 < 0 = p.0 in absurd (omega arith)
parse_ids (suc n ∷ ns) ks ws p = ap (push (pos (suc n))) (parse_ids ns ks ws p.1) ∙ pushed n ns (parse ks ws)

parse_integers : (zs : List ℤ) (ks : List Kind) (ws : List Word) → AllByRecursion (λ z. z ≢ pos 0) zs → parse (some_integers ∷ ks) (spelled_list zs ++ ws) ≡ with_field (integers zs) (parse ks ws)
parse_integers [] ks ws p = refl
parse_integers (pos zero ∷ zs) ks ws p = absurd (p.0 refl)
parse_integers (pos (suc n) ∷ zs) ks ws p = ap (push (pos (suc n))) (parse_integers zs ks ws p.1) ∙ pushed_integer (pos (suc n)) zs (parse ks ws)
parse_integers (negsuc n ∷ zs) ks ws p = ap (push (negsuc n)) (parse_integers zs ks ws p.1) ∙ pushed_integer (negsuc n) zs (parse ks ws)

pair_on : (a b : ℕ) (ms : List IdMove) (q : Parsed) → pair (suc a) (with_field (id (suc b)) (with_field (pairs ms) q)) ≡ with_field (pairs (record { from = suc a; to = suc b } ∷ ms)) q
pair_on a b ms (whole fs) = refl
pair_on a b ms partial = refl
pair_on a b ms bad = refl

parse_pair : (a b : ℕ) (ms : List IdMove) (ks : List Kind) (ws : List Word) → 0 < a → 0 < b → parse (some_pairs ∷ ks) (spelled_list (flat_map both_ids ms) ++ ws) ≡ with_field (pairs ms) (parse ks ws)
    → parse (some_pairs ∷ ks) (number (pos a) ∷ number (pos b) ∷ (spelled_list (flat_map both_ids ms) ++ ws)) ≡ with_field (pairs (record { from = a; to = b } ∷ ms)) (parse ks ws)
parse_pair zero b ms ks ws h k e = absurd (omega arith)
parse_pair (suc a) zero ms ks ws h k e = absurd (omega arith)
parse_pair (suc a) (suc b) ms ks ws h k e = ap (λ q. pair (suc a) (with_field (id (suc b)) q)) e ∙ pair_on a b ms (parse ks ws)

parse_pairs : (ms : List IdMove) (ks : List Kind) (ws : List Word) → AllByRecursion (λ m. (0 < m.from) × (0 < m.to)) ms → parse (some_pairs ∷ ks) (spelled_list (flat_map both_ids ms) ++ ws) ≡ with_field (pairs ms) (parse ks ws)
parse_pairs [] ks ws p = refl
parse_pairs (m ∷ ms) ks ws p = parse_pair m.from m.to ms ks ws p.0.0 p.0.1 (parse_pairs ms ks ws p.1)

parse_field : (f : Field) (ks : List Kind) (ws : List Word) → IsProper f → parse (kind f ∷ ks) (spelled f ++ ws) ≡ with_field f (parse ks ws)
parse_field (mark c) ks ws p = ap (λ b. onward (parse ks ws) (parse (a_mark c ∷ ks) ws) (parse (an_id ∷ a_mark c ∷ ks) ws) (cond b (closes (mark c)) refuses)) (eq-eqb c c refl)
parse_field (conflict_line k) ks ws p = refl
parse_field (id zero) ks ws p = let h : 0 < 0 = p in absurd (omega arith)
parse_field (id (suc n)) ks ws p = refl
parse_field (integer (pos zero)) ks ws p = absurd (p refl)
parse_field (integer (pos (suc n))) ks ws p = refl
parse_field (integer (negsuc n)) ks ws p = refl
parse_field end ks ws p = refl
parse_field (ids ns) ks ws p = parse_ids ns ks ws p
parse_field (integers zs) ks ws p = parse_integers zs ks ws p
parse_field (pairs ms) ks ws p = parse_pairs ms ks ws p

pub parse_spelled : (fs : List Field) → AllByRecursion IsProper fs → parse (map kind fs) (flat_map spelled fs) ≡ whole fs
parse_spelled [] p = refl
parse_spelled (f ∷ fs) p = parse_field f (map kind fs) (flat_map spelled fs) p.0 ∙ ap (with_field f) (parse_spelled fs p.1)

-- ---- what is bad stays bad

abbrev pub is_bad : Parsed → Bool
is_bad (whole fs) = false
is_bad partial = false
is_bad bad = true

pub is_bad-with_field : (f : Field) (p : Parsed) → is_bad (with_field f p) ≡ is_bad p
is_bad-with_field f (whole fs) = refl
is_bad-with_field f partial = refl
is_bad-with_field f bad = refl

pub is_bad-push : (z : ℤ) (p : Parsed) → is_bad (push z p) ≡ is_bad p
is_bad-push z (whole []) = refl
is_bad-push z (whole (f ∷ fs)) = refl
is_bad-push z partial = refl
is_bad-push z bad = refl

pub is_bad-pair : (n : ℕ) (p : Parsed) → is_bad (pair n p) ≡ is_bad p
is_bad-pair n (whole fs) = refl
is_bad-pair n partial = refl
is_bad-pair n bad = refl

bad_moved : (k : Kind) (ks : List Kind) (ws rest : List Word) → (is_bad (parse ks ws) ≡ true → is_bad (parse ks (ws ++ rest)) ≡ true) → (is_bad (parse (k ∷ ks) ws) ≡ true → is_bad (parse (k ∷ ks) (ws ++ rest)) ≡ true)
    → (is_bad (parse (an_id ∷ k ∷ ks) ws) ≡ true → is_bad (parse (an_id ∷ k ∷ ks) (ws ++ rest)) ≡ true)
    → (m : Move) → is_bad (onward (parse ks ws) (parse (k ∷ ks) ws) (parse (an_id ∷ k ∷ ks) ws) m) ≡ true
    → is_bad (onward (parse ks (ws ++ rest)) (parse (k ∷ ks) (ws ++ rest)) (parse (an_id ∷ k ∷ ks) (ws ++ rest)) m) ≡ true
bad_moved k ks ws rest here stay next (closes f) h = is_bad-with_field f _ ∙ here (sym (is_bad-with_field f _) ∙ h)
bad_moved k ks ws rest here stay next (stays z) h = is_bad-push z _ ∙ stay (sym (is_bad-push z _) ∙ h)
bad_moved k ks ws rest here stay next (opens n) h = is_bad-pair n _ ∙ next (sym (is_bad-pair n _) ∙ h)
bad_moved k ks ws rest here stay next refuses h = refl

pub bad_prefix : (ks : List Kind) (ws rest : List Word) → is_bad (parse ks ws) ≡ true → is_bad (parse ks (ws ++ rest)) ≡ true
bad_prefix [] [] rest h = absurd (true≢false (sym h))
bad_prefix [] (w ∷ ws) rest h = refl
bad_prefix (k ∷ ks) [] rest h = absurd (true≢false (sym h))
bad_prefix (k ∷ ks) (w ∷ ws) rest h = bad_moved k ks ws rest (bad_prefix ks ws rest) (bad_prefix (k ∷ ks) ws rest) (bad_prefix (an_id ∷ k ∷ ks) ws rest) (move k w) h
