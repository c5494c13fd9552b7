-- Tests that decide what the grammars say of given words.
use Rattle.std.proofs.Common.{◌≡◌, ◌≢◌, refl, sym, ap, ◌∙◌, subst, ℕ, ◌≤◌, nat_abs, Bool, true, false, not, ◌&&◌, ◌||◌, leb, leb→le, List, [], ◌∷◌, ◌++◌, map, take, drop, take-append-drop, ◌⊎◌, inl, inr, true≢false}
use Rattle.std.specs.List.{list_any, list_all}
use Rattle.std.proofs.lemmas.Bool.{or_parts, not-false, and_parts}
use Rattle.cx_texts.specs.Words.{Word, number, letter, conflict, other, Placed, words, IsWithin}
use Rattle.cx_texts.specs.Grammar.{Grammar, IsStep, Begins, IsUnfinished, Stops, AreInLimit, Spells, FirstBad, FirstBig}
use Rattle.cx_texts.proofs.Shapes.{Kind, kind, Parsed, whole, partial, bad, parse, is_bad, bad_prefix, Claim, parse_sound, Whole}
use Rattle.cx_texts.proofs.Forms.{Form, Forms, Among, is_whole, step_parses, made}

abbrev pub word_within : ℕ → Word → Bool
word_within limit (number z) = leb (nat_abs z) limit
word_within limit (letter c) = true
word_within limit (conflict k) = true
word_within limit other = true

leb_le : (m n : ℕ) → leb m n ≡ true → m ≤ n
leb_le m n h = Rattle.std.proofs.Common.leb-true m n h

within_by : (limit : ℕ) (w : Word) → word_within limit w ≡ true → IsWithin limit w
within_by limit (number z) h = leb_le (nat_abs z) limit h
within_by limit (letter c) h = tt
within_by limit (conflict k) h = tt
within_by limit other h = tt

not_within_by : (limit : ℕ) (w : Word) → word_within limit w ≡ false → ¬ IsWithin limit w
not_within_by limit (number z) h k = true≢false (sym (Rattle.std.proofs.Common.le-leb _ _ k) ∙ h)
not_within_by limit (letter c) h k = true≢false h
not_within_by limit (conflict c) h k = true≢false h
not_within_by limit other h k = true≢false h

module _ {S : Type 0} (g : Grammar S) (all : Forms g) where
  abbrev pub begins_test : List Word → Bool
  begins_test ws = list_any (λ f. not (is_bad (parse f.kinds ws))) all.forms

  abbrev pub step_test : List Word → Bool
  step_test ws = list_any (λ f. is_whole (parse f.kinds ws)) all.forms

  all_bad : (ws : List Word) (forms : List (Form g)) → list_any (λ f. not (is_bad (parse f.kinds ws))) forms ≡ false → (ks : List Kind) → Among ks forms → is_bad (parse ks ws) ≡ true
  all_bad ws [] h ks a = elim a [ ]
  all_bad ws (f ∷ fs) h ks (inl e) = ap (λ js. is_bad (parse js ws)) e ∙ not-false _ (or_parts _ _ h).0
  all_bad ws (f ∷ fs) h ks (inr a) = all_bad ws fs (or_parts _ _ h).1 ks a

  none_whole : (ws : List Word) (forms : List (Form g)) → list_any (λ f. is_whole (parse f.kinds ws)) forms ≡ false → (ks : List Kind) → Among ks forms → is_whole (parse ks ws) ≡ false
  none_whole ws [] h ks a = elim a [ ]
  none_whole ws (f ∷ fs) h ks (inl e) = ap (λ js. is_whole (parse js ws)) e ∙ (or_parts _ _ h).0
  none_whole ws (f ∷ fs) h ks (inr a) = none_whole ws fs (or_parts _ _ h).1 ks a

  pub no_begin : (ws : List Word) → begins_test ws ≡ false → ¬ Begins g ws
  no_begin ws h (s, rest, k) =
      true≢false (sym (bad_prefix (map kind (g.fields s)) ws rest (all_bad ws all.forms h (map kind (g.fields s)) (all.covers s))) ∙ ap is_bad (step_parses g (ws ++ rest) s k))

  pub no_step : (ws : List Word) → step_test ws ≡ false → (s : S) → ¬ IsStep g ws s
  no_step ws h s k = true≢false (sym (ap is_whole (step_parses g ws s k)) ∙ none_whole ws all.forms h (map kind (g.fields s)) (all.covers s))

  claim_begins : (form : Form g) (ws : List Word) (p : Parsed) → parse form.kinds ws ≡ p → Claim form.kinds ws p → is_bad p ≡ false → Begins g ws
  claim_begins form ws (whole fs) e c h = let m = made g form ws fs c in (m.0, [], subst (λ x. IsStep g x m.0) (sym (Rattle.std.proofs.Common.append-nil ws)) m.1)
  claim_begins form ws partial e (fs, rest, c) h = let m = made g form (ws ++ rest) fs c in (m.0, rest, m.1)
  claim_begins form ws bad e c h = absurd (true≢false h)

  some_begins : (ws : List Word) (forms : List (Form g)) → list_any (λ f. not (is_bad (parse f.kinds ws))) forms ≡ true → Begins g ws
  some_begins ws [] h = absurd (true≢false (sym h))
  some_begins ws (f ∷ fs) h = elim (is_bad (parse f.kinds ws)) as (λ b. is_bad (parse f.kinds ws) ≡ b → (not b || list_any (λ f. not (is_bad (parse f.kinds ws))) fs) ≡ true → Begins g ws) [
    | true ↦ λ e k. some_begins ws fs k
    | false ↦ λ e k. claim_begins f ws (parse f.kinds ws) refl (parse_sound f.kinds ws) e
  ] refl h

  pub yes_begin : (ws : List Word) → begins_test ws ≡ true → Begins g ws
  yes_begin ws h = some_begins ws all.forms h

  abbrev pub stops_test : List Word → List Placed → Bool
  stops_test ws [] = true
  stops_test ws (w ∷ rest) = not (begins_test (ws ++ w.word ∷ []))

  stops_by : (ws : List Word) (rest : List Placed) → stops_test ws rest ≡ true → Stops g ws rest
  stops_by ws [] h = tt
  stops_by ws (w ∷ rest) h = no_begin (ws ++ w.word ∷ []) (is_false _ h)
    where
      is_false : (b : Bool) → not b ≡ true → b ≡ false
      is_false true h = absurd (true≢false (sym h))
      is_false false h = refl

  abbrev pub within_test : List Placed → Bool
  within_test placed = list_all (λ p. word_within g.limit p.word) placed

  are_within : (placed : List Placed) → within_test placed ≡ true → AreInLimit g placed
  are_within [] h = tt
  are_within (p ∷ placed) h = let k = and_parts (word_within g.limit p.word) _ h in (within_by g.limit p.word k.0, are_within placed k.1)

  step_by : (ws : List Word) (s : S) → parse (map kind (g.fields s)) ws ≡ whole (g.fields s) → IsStep g ws s
  step_by ws s e = let c : Whole (map kind (g.fields s)) ws (g.fields s) = subst (Claim (map kind (g.fields s)) ws) e (parse_sound (map kind (g.fields s)) ws) in (c.proper, c.spells)

  -- the first n words are this step
  pub step_here : (n : ℕ) (placed : List Placed) (s : S) → parse (map kind (g.fields s)) (words (take n placed)) ≡ whole (g.fields s) → within_test (take n placed) ≡ true
      → stops_test (words (take n placed)) (drop n placed) ≡ true → Spells g s placed (drop n placed)
  step_here n placed s e w h = record {
    front = take n placed;
    split = sym (take-append-drop n placed);
    step = step_by _ s e;
    within = are_within _ w;
    stops = stops_by _ _ h;
  }

  -- after the first n words the next one is the first that does not fit, or whose magnitude alone does not
  pub bad_here : (n : ℕ) (placed : List Placed) (b : Placed) (rest : List Placed) → placed ≡ take n placed ++ b ∷ rest
      → begins_test (words (take n placed)) ≡ true → step_test (words (take n placed)) ≡ false → within_test (take n placed) ≡ true
      → begins_test (words (take n placed) ++ b.word ∷ []) ≡ false → FirstBad g placed b.place
  bad_here n placed b rest split begun partly within fails = record {
    front = take n placed;
    bad = b;
    rest = rest;
    split = split;
    at = refl;
    unfinished = (yes_begin _ begun, no_step _ partly);
    within = are_within _ within;
    fits_not = no_begin _ fails;
  }

  pub big_here : (n : ℕ) (placed : List Placed) (b : Placed) (rest : List Placed) → placed ≡ take n placed ++ b ∷ rest → within_test (take n placed) ≡ true
      → begins_test (words (take n placed) ++ b.word ∷ []) ≡ true → word_within g.limit b.word ≡ false → FirstBig g placed b.place
  big_here n placed b rest split within fits above = record {
    front = take n placed;
    big = b;
    rest = rest;
    split = split;
    at = refl;
    within = are_within _ within;
    fits = yes_begin _ fits;
    above = not_within_by g.limit b.word above;
  }

  pub unfinished_here : (placed : List Placed) → begins_test (words placed) ≡ true → step_test (words placed) ≡ false → within_test placed ≡ true → IsUnfinished g (words placed) × AreInLimit g placed
  unfinished_here placed begun partly within = ((yes_begin _ begun, no_step _ partly), are_within _ within)
