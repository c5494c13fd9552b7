-- What a table of mentions tells of an answer's integers.
use Rattle.std.proofs.Common.{◌≡◌, refl, sym, ap, ◌∙◌, ℕ, ◌+◌, ◌-◌, ◌<◌, ◌≤◌, ℤ, pos, negsuc, neg_ℤ, nat_abs, Bool, true, false, cond, not, List, [], ◌∷◌, ◌++◌, length, get_or, map, filter, arith, true≢false, append-nil, eqb-true, ◌==◌, Option, Some, None}
use Rattle.std.proofs.lemmas.List.{length-map, get_or-map}
use Rattle.std.proofs.lemmas.List.Elements.{filter-append}
use Rattle.cx_base.specs.Literals.{value_of}
use Rattle.cx_base.specs.Problem.{Problem}
use Rattle.cx_base.specs.declared.literal.TheConstants.{MAX_VARIABLE}
use Rattle.cx_base.specs.Integers.{is_negative}
use Rattle.cx_texts.proofs.DigitLaws.{not_equal}
use Rattle.model_out.specs.Answers.{written_of, as_literal, IsVariable, Gives, LeastVariable, IsMissing, IsRepeated}
use Rattle.model_out.specs.Mentions.{mention_of, is_never, is_repeated, is_true_once, IsFirstOf, AreMentionsOf}
use Rattle.model_out.specs.Settling.{NoneMissing}
use Rattle.model_out.specs.declared.mentions.Mention.{Mention}
use Rattle.model_out.specs.declared.mentions.Mention.TheVariants.{Never}

-- ---- one mention

pub never_true : (ws : List ℤ) → is_never (mention_of ws) ≡ true → ws ≡ []
never_true [] h = refl
never_true (z ∷ []) h = absurd (true≢false (sym h))
never_true (z ∷ y ∷ ws) h = absurd (true≢false (sym h))

pub repeated_true : (ws : List ℤ) → is_repeated (mention_of ws) ≡ true → 2 ≤ length ws
repeated_true [] h = absurd (true≢false (sym h))
repeated_true (z ∷ []) h = absurd (true≢false (sym h))
repeated_true (z ∷ y ∷ ws) h = omega arith

pub repeated_long : (ws : List ℤ) → 2 ≤ length ws → is_repeated (mention_of ws) ≡ true
repeated_long [] h = absurd (omega arith)
repeated_long (z ∷ []) h = absurd (omega arith)
repeated_long (z ∷ y ∷ ws) h = refl

only_one : (ws : List ℤ) → is_never (mention_of ws) ≡ false → is_repeated (mention_of ws) ≡ false → (z : ℤ) × (ws ≡ z ∷ []) × (is_true_once (mention_of ws) ≡ not (is_negative z))
only_one [] h k = absurd (true≢false h)
only_one (z ∷ []) h k = (z, refl, refl)
only_one (z ∷ y ∷ ws) h k = absurd (true≢false k)

head_step : (p : ℤ → Bool) (y : ℤ) (ys : List ℤ) (z : ℤ) (rest : List ℤ) → (ys ≡ z ∷ rest → p z ≡ true) → (b : Bool) → p y ≡ b → cond b (y ∷ ys) ys ≡ z ∷ rest → p z ≡ true
head_step p y ys z rest more true k f = let same : y ≡ z = cc (f) in ap p (sym same) ∙ k
head_step p y ys z rest more false k f = more f

head_passes : (p : ℤ → Bool) (zs : List ℤ) (z : ℤ) (rest : List ℤ) → filter p zs ≡ z ∷ rest → p z ≡ true
head_passes p [] z rest e = cc
head_passes p (y ∷ zs) z rest e = head_step p y (filter p zs) z rest (head_passes p zs z rest) (p y) refl e

pub size_of_written : (lits : List ℤ) (x : ℕ) (z : ℤ) (rest : List ℤ) → written_of lits x ≡ z ∷ rest → nat_abs z ≡ x
size_of_written lits x z rest e = eqb-true (nat_abs z) x (head_passes (λ y. nat_abs y == x) lits z rest e)

as_literal_is : (z : ℤ) (x : ℕ) → nat_abs z ≡ x → z ≡ as_literal (not (is_negative z)) x
as_literal_is (pos n) x e = ap pos e
as_literal_is (negsuc n) x e = ap (λ y. neg_ℤ (pos y)) e

-- ---- a whole table

module _ (lits : List ℤ) (formula : Problem) (table : List Mention) (len : length table ≡ formula.variables) (tells : AreMentionsOf lits table) where
  at : (x : ℕ) → IsVariable formula x → get_or table (x - 1) Never ≡ mention_of (written_of lits x)
  at x v =
      let k : x - 1 < length table = omega (arith, len, v.0, v.1) in
      let e : (x - 1) + 1 ≡ x = omega (arith, v.0) in
      tells (x - 1) k ∙ ap (λ y. mention_of (written_of lits y)) e

  inside : (x : ℕ) → IsVariable formula x → x - 1 < length table
  inside x v = omega (arith, len, v.0, v.1)

  below : (x y : ℕ) → IsVariable formula y → y < x → y - 1 < x - 1
  below x y v h = omega (arith, v.0, h)

  is_variable : (x : ℕ) → 1 ≤ x → x ≤ length table → IsVariable formula x
  is_variable x h k = (h, omega (arith, len))

  least_missing : (x : ℕ) → 1 ≤ x → x ≤ length table → is_never (get_or table (x - 1) Never) ≡ true → ((k : ℕ) → k < x - 1 → is_never (get_or table k Never) ≡ false) → LeastVariable formula (IsMissing lits) x
  least_missing x low high h none = record {
    is_variable = is_variable x low high;
    holds = never_true (written_of lits x) (ap is_never (sym (at x (is_variable x low high))) ∙ h);
    not_below = λ y v less m. true≢false (ap (λ ws. is_never (mention_of ws)) (sym m) ∙ ap is_never (sym (at y v)) ∙ none (y - 1) (below x y v less));
  }

  least_repeated : (x : ℕ) → 1 ≤ x → x ≤ length table → is_repeated (get_or table (x - 1) Never) ≡ true → ((k : ℕ) → k < x - 1 → is_repeated (get_or table k Never) ≡ false) → LeastVariable formula (IsRepeated lits) x
  least_repeated x low high h none = record {
    is_variable = is_variable x low high;
    holds = repeated_true (written_of lits x) (ap is_repeated (sym (at x (is_variable x low high))) ∙ h);
    not_below = λ y v less m. true≢false (sym (repeated_long (written_of lits y) m) ∙ ap is_repeated (sym (at y v)) ∙ none (y - 1) (below x y v less));
  }

  pub first_missing : (x : ℕ) → IsFirstOf is_never table (Some x) → LeastVariable formula (IsMissing lits) x
  first_missing x h = least_missing x h.0 h.1 h.2 h.3

  pub first_repeated : (x : ℕ) → IsFirstOf is_repeated table (Some x) → LeastVariable formula (IsRepeated lits) x
  first_repeated x h = least_repeated x h.0 h.1 h.2 h.3

  module _ (named : (k : ℕ) → k < length table → is_never (get_or table k Never) ≡ false) where
    pub none_missing : NoneMissing lits formula
    none_missing y v m = true≢false (ap (λ ws. is_never (mention_of ws)) (sym m) ∙ ap is_never (sym (at y v)) ∙ named (y - 1) (inside y v))

    pub gives : ((k : ℕ) → k < length table → is_repeated (get_or table k Never) ≡ false) → Gives formula lits (map is_true_once table)
    gives once = record {
      one_each = length-map table is_true_once ∙ len;
      as_written = λ x v.
          let e = at x v in
          let o = only_one (written_of lits x) (ap is_never (sym e) ∙ named (x - 1) (inside x v)) (ap is_repeated (sym e) ∙ once (x - 1) (inside x v)) in
          let value : value_of (map is_true_once table) x ≡ not (is_negative o.0) = get_or-map is_true_once table (x - 1) Never false (inside x v) ∙ ap is_true_once e ∙ o.2 in
          o.1 ∙ ap (λ z. z ∷ []) (as_literal_is o.0 x (size_of_written lits x o.0 [] o.1) ∙ ap (λ b. as_literal b x) (sym value));
    }

pub none_of : (test : Mention → Bool) (table : List Mention) (o : Option ℕ) → ((x : ℕ) → o ≡ Some x → ⊥) → IsFirstOf test table o → (k : ℕ) → k < length table → test (get_or table k Never) ≡ false
none_of test table None n h = h
none_of test table (Some x) n h = absurd (n x refl)
