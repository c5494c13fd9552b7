-- A grammar's steps by a list of forms: whether words begin a step, and which step they are.
use Rattle.std.proofs.Common.{◌≡◌, ◌≢◌, refl, sym, ap, ◌∙◌, subst, ℕ, zero, suc, ℤ, Bool, true, false, cond, not, ◌&&◌, ◌||◌, eqb, eqb-true, eq-eqb, List, [], ◌∷◌, ◌++◌, map, flat_map, true≢false, ◌⊎◌, inl, inr}
use Rattle.std.specs.List.{AllByRecursion, list_all}
use Rattle.cx_base.specs.declared.id_moves.IdMove.{IdMove}
use Rattle.std.proofs.lemmas.Bool.{and_parts, or_cases, not-true}
use Rattle.cx_texts.specs.Words.{Word, number, letter, conflict, other}
use Rattle.cx_texts.specs.Grammar.{Field, mark, conflict_line, id, integer, end, ids, integers, pairs, spelled, IsProper, Grammar, IsStep, Begins}
use Rattle.cx_texts.proofs.Shapes.{Kind, a_mark, a_conflict, an_id, an_integer, an_end, some_ids, some_integers, some_pairs, kind, Move, closes, stays, opens, refuses, move, Parsed, whole, partial, bad, onward, parse, with_field, push, pair, Whole, Claim, parse_sound, parse_spelled, is_bad, bad_prefix}

-- ---- values of kinds

abbrev pub Value : Kind → Type 0
Value (a_mark c) = Unit {0}
Value a_conflict = ℕ
Value an_id = ℕ
Value an_integer = ℤ
Value an_end = Unit {0}
Value some_ids = List ℕ
Value some_integers = List ℤ
Value some_pairs = List IdMove

abbrev pub field_of : (k : Kind) → Value k → Field
field_of (a_mark c) v = mark c
field_of a_conflict v = conflict_line v
field_of an_id v = id v
field_of an_integer v = integer v
field_of an_end v = end
field_of some_ids v = ids v
field_of some_integers v = integers v
field_of some_pairs v = pairs v

abbrev pub Values : List Kind → Type 0
Values [] = Unit {0}
Values (k ∷ ks) = Value k × Values ks

abbrev pub fields_of : (ks : List Kind) → Values ks → List Field
fields_of [] v = []
fields_of (k ∷ ks) v = field_of k v.0 ∷ fields_of ks v.1

value_of : (f : Field) → (v : Value (kind f)) × (field_of (kind f) v ≡ f)
value_of (mark c) = (tt, refl)
value_of (conflict_line k) = (k, refl)
value_of (id n) = (n, refl)
value_of (integer z) = (z, refl)
value_of end = (tt, refl)
value_of (ids ns) = (ns, refl)
value_of (integers zs) = (zs, refl)
value_of (pairs ms) = (ms, refl)

values_of : (fs : List Field) → (v : Values (map kind fs)) × (fields_of (map kind fs) v ≡ fs)
values_of [] = (tt, refl)
values_of (f ∷ fs) =
    let here = value_of f in
    let more = values_of fs in
    ((here.0, more.0), ap (λ e. e ∷ fields_of (map kind fs) more.0) here.1 ∙ ap (λ e. f ∷ e) more.1)

values_at : (ks : List Kind) (fs : List Field) → map kind fs ≡ ks → (v : Values ks) × (fields_of ks v ≡ fs)
values_at ks fs e = subst (λ js. (v : Values js) × (fields_of js v ≡ fs)) e (values_of fs)

-- ---- forms

pub record Form {S : Type 0} (g : Grammar S) : Type 0 where
  pub kinds : List Kind
  pub make : Values kinds → S
  pub is : (v : Values kinds) → g.fields (make v) ≡ fields_of kinds v

abbrev pub Among : {S : Type 0} {g : Grammar S} → List Kind → List (Form g) → Type 0
Among ks [] = ⊥
Among ks (f ∷ fs) = (ks ≡ f.kinds) ⊎ Among ks fs

-- ---- kinds by number, and the words that they take

abbrev code : Kind → ℕ
code a_conflict = 0
code an_id = 1
code an_integer = 2
code an_end = 3
code some_ids = 4
code some_integers = 5
code some_pairs = 6
code (a_mark c) = suc (suc (suc (suc (suc (suc (suc c))))))

abbrev decoded : ℕ → Kind
decoded zero = a_conflict
decoded (suc zero) = an_id
decoded (suc (suc zero)) = an_integer
decoded (suc (suc (suc zero))) = an_end
decoded (suc (suc (suc (suc zero)))) = some_ids
decoded (suc (suc (suc (suc (suc zero))))) = some_integers
decoded (suc (suc (suc (suc (suc (suc zero)))))) = some_pairs
decoded (suc (suc (suc (suc (suc (suc (suc c))))))) = a_mark c

decoded-code : (k : Kind) → decoded (code k) ≡ k
decoded-code a_conflict = refl
decoded-code an_id = refl
decoded-code an_integer = refl
decoded-code an_end = refl
decoded-code some_ids = refl
decoded-code some_integers = refl
decoded-code some_pairs = refl
decoded-code (a_mark c) = refl

abbrev pub same_kind : Kind → Kind → Bool
same_kind j k = eqb (code j) (code k)

is_same : (j k : Kind) → same_kind j k ≡ true → j ≡ k
is_same j k h = sym (decoded-code j) ∙ ap decoded (eqb-true (code j) (code k) h) ∙ decoded-code k

abbrev class : Kind → ℕ
class a_conflict = 0
class an_id = 1
class an_integer = 1
class an_end = 1
class some_ids = 1
class some_integers = 1
class some_pairs = 1
class (a_mark c) = suc (suc c)

abbrev class_of : Word → ℕ
class_of (conflict k) = 0
class_of (number z) = 1
class_of (letter c) = suc (suc c)
class_of other = 0

abbrev is_refusal : Move → Bool
is_refusal (closes f) = false
is_refusal (stays z) = false
is_refusal (opens n) = false
is_refusal refuses = true

taken_mark : (c e : ℕ) (b : Bool) → eqb c e ≡ b → is_refusal (cond b (closes (mark c)) refuses) ≡ false → suc (suc e) ≡ suc (suc c)
taken_mark c e true h r = ap (λ n. suc (suc n)) (sym (eqb-true c e h))
taken_mark c e false h r = absurd (true≢false r)

taken : (k : Kind) (w : Word) → is_refusal (move k w) ≡ false → class_of w ≡ class k
taken (a_mark c) (letter e) r = taken_mark c e (eqb c e) refl r
taken (a_mark c) (number z) r = absurd (true≢false r)
taken (a_mark c) (conflict k) r = absurd (true≢false r)
taken (a_mark c) other r = absurd (true≢false r)
taken a_conflict (conflict k) r = refl
taken a_conflict (letter e) r = absurd (true≢false r)
taken a_conflict (number z) r = absurd (true≢false r)
taken a_conflict other r = absurd (true≢false r)
taken an_id (number z) r = refl
taken an_id (letter e) r = absurd (true≢false r)
taken an_id (conflict k) r = absurd (true≢false r)
taken an_id other r = absurd (true≢false r)
taken an_integer (number z) r = refl
taken an_integer (letter e) r = absurd (true≢false r)
taken an_integer (conflict k) r = absurd (true≢false r)
taken an_integer other r = absurd (true≢false r)
taken an_end (number z) r = refl
taken an_end (letter e) r = absurd (true≢false r)
taken an_end (conflict k) r = absurd (true≢false r)
taken an_end other r = absurd (true≢false r)
taken some_ids (number z) r = refl
taken some_ids (letter e) r = absurd (true≢false r)
taken some_ids (conflict k) r = absurd (true≢false r)
taken some_ids other r = absurd (true≢false r)
taken some_integers (number z) r = refl
taken some_integers (letter e) r = absurd (true≢false r)
taken some_integers (conflict k) r = absurd (true≢false r)
taken some_integers other r = absurd (true≢false r)
taken some_pairs (number z) r = refl
taken some_pairs (letter e) r = absurd (true≢false r)
taken some_pairs (conflict k) r = absurd (true≢false r)
taken some_pairs other r = absurd (true≢false r)

-- ---- two forms that no words spell at once

abbrev pub are_apart : List Kind → List Kind → Bool
are_apart [] [] = false
are_apart [] (k ∷ ks) = true
are_apart (j ∷ js) [] = true
are_apart (j ∷ js) (k ∷ ks) = (same_kind j k && are_apart js ks) || not (eqb (class j) (class k))

abbrev are_same : List Kind → List Kind → Bool
are_same [] [] = true
are_same [] (k ∷ ks) = false
are_same (j ∷ js) [] = false
are_same (j ∷ js) (k ∷ ks) = same_kind j k && are_same js ks

abbrev pub is_whole : Parsed → Bool
is_whole (whole fs) = true
is_whole partial = false
is_whole bad = false

is_whole-with_field : (f : Field) (p : Parsed) → is_whole (with_field f p) ≡ is_whole p
is_whole-with_field f (whole fs) = refl
is_whole-with_field f partial = refl
is_whole-with_field f bad = refl

is_whole-push : (z : ℤ) (p : Parsed) → is_whole (push z p) ≡ is_whole p
is_whole-push z (whole []) = refl
is_whole-push z (whole (f ∷ fs)) = refl
is_whole-push z partial = refl
is_whole-push z bad = refl

is_whole-pair : (n : ℕ) (p : Parsed) → is_whole (pair n p) ≡ is_whole p
is_whole-pair n (whole fs) = refl
is_whole-pair n partial = refl
is_whole-pair n bad = refl

not_refused : (k : Kind) (ks : List Kind) (ws : List Word) (m : Move) → is_whole (onward (parse ks ws) (parse (k ∷ ks) ws) (parse (an_id ∷ k ∷ ks) ws) m) ≡ true → is_refusal m ≡ false
not_refused k ks ws (closes f) h = refl
not_refused k ks ws (stays z) h = refl
not_refused k ks ws (opens n) h = refl
not_refused k ks ws refuses h = absurd (true≢false (sym h))

both_moved : (k : Kind) (js ks : List Kind) (ws : List Word) → (is_whole (parse js ws) ≡ true → is_whole (parse ks ws) ≡ true → ⊥) → (is_whole (parse (k ∷ js) ws) ≡ true → is_whole (parse (k ∷ ks) ws) ≡ true → ⊥)
    → (is_whole (parse (an_id ∷ k ∷ js) ws) ≡ true → is_whole (parse (an_id ∷ k ∷ ks) ws) ≡ true → ⊥)
    → (m : Move) → is_whole (onward (parse js ws) (parse (k ∷ js) ws) (parse (an_id ∷ k ∷ js) ws) m) ≡ true → is_whole (onward (parse ks ws) (parse (k ∷ ks) ws) (parse (an_id ∷ k ∷ ks) ws) m) ≡ true → ⊥
both_moved k js ks ws here stay next (closes f) a b = here (sym (is_whole-with_field f _) ∙ a) (sym (is_whole-with_field f _) ∙ b)
both_moved k js ks ws here stay next (stays z) a b = stay (sym (is_whole-push z _) ∙ a) (sym (is_whole-push z _) ∙ b)
both_moved k js ks ws here stay next (opens n) a b = next (sym (is_whole-pair n _) ∙ a) (sym (is_whole-pair n _) ∙ b)
both_moved k js ks ws here stay next refuses a b = true≢false (sym a)

either_apart : (a b c : Bool) → ((a && b) || c) ≡ true → ((a ≡ true) × (b ≡ true)) ⊎ (c ≡ true)
either_apart true true c h = inl (refl, refl)
either_apart true false c h = inr h
either_apart false b c h = inr h

apart_step : (j k : Kind) (js ks : List Kind) (w : Word) (ws : List Word)
    → (are_apart js ks ≡ true → is_whole (parse js ws) ≡ true → is_whole (parse ks ws) ≡ true → ⊥)
    → (is_whole (parse (j ∷ js) ws) ≡ true → is_whole (parse (k ∷ ks) ws) ≡ true → ⊥)
    → (is_whole (parse (an_id ∷ j ∷ js) ws) ≡ true → is_whole (parse (an_id ∷ k ∷ ks) ws) ≡ true → ⊥)
    → is_whole (parse (j ∷ js) (w ∷ ws)) ≡ true → is_whole (parse (k ∷ ks) (w ∷ ws)) ≡ true
    → ((same_kind j k ≡ true) × (are_apart js ks ≡ true)) ⊎ (not (eqb (class j) (class k)) ≡ true) → ⊥
apart_step j k js ks w ws here stay next a b (inl p) =
    let e = is_same j k p.0 in
    both_moved j js ks ws (here p.1) (λ x y. stay x (subst (λ i. is_whole (parse (i ∷ ks) ws) ≡ true) e y))
    (λ x y. next x (subst (λ i. is_whole (parse (an_id ∷ i ∷ ks) ws) ≡ true) e y)) (move j w) a
    (subst (λ i. is_whole (parse (i ∷ ks) (w ∷ ws)) ≡ true) (sym e) b)
apart_step j k js ks w ws here stay next a b (inr n) =
    let e : class j ≡ class k = sym (taken j w (not_refused j js ws (move j w) a)) ∙ taken k w (not_refused k ks ws (move k w) b) in
    true≢false (sym (eq-eqb (class j) (class k) e) ∙ not-true _ n)

not_both : (js ks : List Kind) (ws : List Word) → are_apart js ks ≡ true → is_whole (parse js ws) ≡ true → is_whole (parse ks ws) ≡ true → ⊥
not_both [] [] ws h a b = true≢false (sym h)
not_both [] (k ∷ ks) [] h a b = true≢false (sym b)
not_both [] (k ∷ ks) (w ∷ ws) h a b = true≢false (sym a)
not_both (j ∷ js) [] [] h a b = true≢false (sym a)
not_both (j ∷ js) [] (w ∷ ws) h a b = true≢false (sym b)
not_both (j ∷ js) (k ∷ ks) [] h a b = true≢false (sym a)
not_both (j ∷ js) (k ∷ ks) (w ∷ ws) h a b =
    apart_step j k js ks w ws (not_both js ks ws) (not_both (j ∷ js) (k ∷ ks) ws h) (not_both (an_id ∷ j ∷ js) (an_id ∷ k ∷ ks) ws (ap (λ x. x || false) h)) a b (either_apart (same_kind j k) (are_apart js ks) _ h)

same_lists : (js ks : List Kind) → are_same js ks ≡ true → js ≡ ks
same_lists [] [] h = refl
same_lists [] (k ∷ ks) h = absurd (true≢false (sym h))
same_lists (j ∷ js) [] h = absurd (true≢false (sym h))
same_lists (j ∷ js) (k ∷ ks) h =
    let p = and_parts (same_kind j k) (are_same js ks) h in
    ap (λ i. i ∷ js) (is_same j k p.0) ∙ ap (λ is. k ∷ is) (same_lists js ks p.1)

abbrev one_or_apart : List Kind → List Kind → Bool
one_or_apart js ks = are_same js ks || are_apart js ks

abbrev pub all_apart : {S : Type 0} {g : Grammar S} → List (Form g) → Bool
all_apart forms = list_all (λ f. list_all (λ h. one_or_apart f.kinds h.kinds) forms) forms

-- a grammar by its forms
pub record Forms {S : Type 0} (g : Grammar S) : Type 0 where
  pub forms : List (Form g)
  pub covers : (s : S) → Among (map kind (g.fields s)) forms
  pub apart : all_apart forms ≡ true
  pub one_step : (s t : S) → AllByRecursion IsProper (g.fields s) → AllByRecursion IsProper (g.fields t) → g.fields s ≡ g.fields t → s ≡ t
  pub begins : Begins g []
  pub some_field : (s : S) → g.fields s ≢ []

whole_same : (fs hs : List Field) → whole fs ≡ whole hs → fs ≡ hs
whole_same fs hs e = cc

bad_not_whole : (p : Parsed) → is_bad p ≡ true → is_whole p ≡ false
bad_not_whole (whole fs) h = absurd (true≢false (sym h))
bad_not_whole partial h = refl
bad_not_whole bad h = refl

module _ {S : Type 0} (g : Grammar S) where
  found_second : (js ks : List Kind) (forms : List (Form g)) → list_all (λ h. one_or_apart js h.kinds) forms ≡ true → Among ks forms → one_or_apart js ks ≡ true
  found_second js ks [] all h = elim h [ ]
  found_second js ks (f ∷ fs) all (inl e) = subst (λ is. one_or_apart js is ≡ true) (sym e) (and_parts (one_or_apart js f.kinds) _ all).0
  found_second js ks (f ∷ fs) all (inr h) = found_second js ks fs (and_parts (one_or_apart js f.kinds) _ all).1 h

  found_first : (js ks : List Kind) (forms all_forms : List (Form g)) → list_all (λ f. list_all (λ h. one_or_apart f.kinds h.kinds) all_forms) forms ≡ true → Among js forms → Among ks all_forms → one_or_apart js ks ≡ true
  found_first js ks [] others all h k = elim h [ ]
  found_first js ks (f ∷ fs) others all (inl e) k = found_second js ks others (subst (λ is. list_all (λ h. one_or_apart is h.kinds) others ≡ true) (sym e) (and_parts _ _ all).0) k
  found_first js ks (f ∷ fs) others all (inr h) k = found_first js ks fs others (and_parts _ _ all).1 h k

  pub step_parses : (ws : List Word) (s : S) → IsStep g ws s → parse (map kind (g.fields s)) ws ≡ whole (g.fields s)
  step_parses ws s h = subst (λ us. parse (map kind (g.fields s)) us ≡ whole (g.fields s)) h.1 (parse_spelled (g.fields s) h.0)

  -- words are one step at most
  pub same_step : Forms g → (ws : List Word) (s t : S) → IsStep g ws s → IsStep g ws t → s ≡ t
  same_step all ws s t h k =
      let js = map kind (g.fields s) in
      let ks = map kind (g.fields t) in
      let p = step_parses ws s h in
      let q = step_parses ws t k in
      elim (or_cases (are_same js ks) (are_apart js ks) (found_first js ks all.forms all.forms all.apart (all.covers s) (all.covers t))) [
        | inl e ↦ all.one_step s t h.0 k.0 (whole_same _ _ (sym p ∙ ap (λ is. parse is ws) (same_lists js ks e) ∙ q))
        | inr a ↦ absurd (not_both js ks ws a (ap is_whole p) (ap is_whole q))
      ]

  -- ---- what can be decided

  pub made : (form : Form g) (ws : List Word) (fs : List Field) → Whole form.kinds ws fs → (s : S) × IsStep g ws s
  made form ws fs c =
      let v = values_at form.kinds fs c.kinds in
      let e : g.fields (form.make v.0) ≡ fs = form.is v.0 ∙ v.1 in
      (form.make v.0, (subst (AllByRecursion IsProper) (sym e) c.proper, ap (flat_map spelled) e ∙ c.spells))

  pub data Tried (ws : List Word) : List (Form g) → Type 0 where
    is_step : {forms : List (Form g)} (s : S) → IsStep g ws s → Tried ws forms
    begins_one : {forms : List (Form g)} → Begins g ws → ((ks : List Kind) → Among ks forms → is_whole (parse ks ws) ≡ false) → Tried ws forms
    begins_none : {forms : List (Form g)} → ((ks : List Kind) → Among ks forms → is_bad (parse ks ws) ≡ true) → Tried ws forms

  first : (ws : List Word) (form : Form g) (forms : List (Form g)) (p : Parsed) → parse form.kinds ws ≡ p → Claim form.kinds ws p → Tried ws forms → Tried ws (form ∷ forms)
  first ws form forms (whole fs) e c more = let m = made form ws fs c in is_step m.0 m.1
  first ws form forms p e c (is_step s h) = is_step s h
  first ws form forms partial e (fs, rest, c) (begins_one b none) =
      begins_one b (λ ks. elim [ inl is ↦ ap (λ js. is_whole (parse js ws)) is ∙ ap is_whole e | inr h ↦ none ks h ])
  first ws form forms partial e (fs, rest, c) (begins_none none) =
      let m = made form (ws ++ rest) fs c in
      begins_one (m.0, rest, m.1) (λ ks. elim [ inl is ↦ ap (λ js. is_whole (parse js ws)) is ∙ ap is_whole e | inr h ↦ bad_not_whole _ (none ks h) ])
  first ws form forms bad e c (begins_one b none) = begins_one b (λ ks. elim [ inl is ↦ ap (λ js. is_whole (parse js ws)) is ∙ ap is_whole e | inr h ↦ none ks h ])
  first ws form forms bad e c (begins_none none) = begins_none (λ ks. elim [ inl is ↦ ap (λ js. is_bad (parse js ws)) is ∙ ap is_bad e | inr h ↦ none ks h ])

  tried : (ws : List Word) (forms : List (Form g)) → Tried ws forms
  tried ws [] = begins_none (λ ks h. elim h [ ])
  tried ws (form ∷ forms) = first ws form forms (parse form.kinds ws) refl (parse_sound form.kinds ws) (tried ws forms)

  -- words are a step, or begin one, or do not
  pub data Decided (ws : List Word) : Type 0 where
    a_step : (s : S) → IsStep g ws s → Decided ws
    unfinished : Begins g ws → ((s : S) → ¬ IsStep g ws s) → Decided ws
    hopeless : ¬ Begins g ws → Decided ws

  decided_of : (all : Forms g) (ws : List Word) → Tried ws all.forms → Decided ws
  decided_of all ws (is_step s h) = a_step s h
  decided_of all ws (begins_one b none) = unfinished b (λ s h. true≢false (sym (ap is_whole (step_parses ws s h)) ∙ none (map kind (g.fields s)) (all.covers s)))
  decided_of all ws (begins_none none) = hopeless (λ (s, rest, h).
      true≢false (sym (bad_prefix (map kind (g.fields s)) ws rest (none (map kind (g.fields s)) (all.covers s))) ∙ ap is_bad (step_parses (ws ++ rest) s h)))

  pub decided : Forms g → (ws : List Word) → Decided ws
  decided all ws = decided_of all ws (tried ws all.forms)
