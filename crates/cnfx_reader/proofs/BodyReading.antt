-- What is read word by word is the reading that the grammar tells.
use Rattle.std.proofs.Common.{◌≡◌, ◌≢◌, refl, sym, ap, ◌∙◌, subst, ℕ, zero, suc, ◌<◌, ◌≤◌, ℤ, pos, negsuc, nat_abs, Bool, true, false, cond, eqb, eqb-true, ne_eqb, ltb-true, ltb-false, List, [], ◌∷◌, ◌++◌, map, flat_map, arith, true≢false, append-nil, append_assoc, nat_lt, ◌==◌}
use Rattle.std.specs.List.{AllByRecursion}
use Rattle.std.specs.Bool.{⊤}
use Rattle.std.proofs.lemmas.List.{map-append}
use Rattle.cx_base.specs.Drafts.{Draft}
use Rattle.cx_base.specs.Literals.{Literal}
use Rattle.cx_base.specs.declared.literal.TheConstants.{MAX_VARIABLE}
use Rattle.cx_base.specs.declared.constraint.Constraint.{Constraint}
use Rattle.cx_base.specs.declared.constraint.Constraint.TheVariants as constraint
use Rattle.cx_base.specs.Integers.{integer_of, integers_of, literal}
use Rattle.cx_texts.specs.Words.{Word, number, letter, conflict, other, Placed, words, IsWithin}
use Rattle.cx_texts.specs.Grammar.{Field, mark, IsStep, Begins, IsUnfinished, Stops, AreInLimit, Reading}
use Rattle.cx_base.specs.Endings.{bad_token, too_big, unterminated}
use Rattle.cx_texts.specs.FormulaText.{constraints}
use Rattle.cx_texts.proofs.Shapes.{Kind, a_mark, some_integers, closes, refuses, whole, partial, bad, parse, push, with_field}
use Rattle.cx_texts.proofs.Forms.{step_parses}
use Rattle.cx_texts.proofs.Remaining.{behind, remaining, remaining-push, after_word, rows_of, begins_where, begins_nowhere}
use Rattle.cx_texts.proofs.Grammars.{constraint_forms}
use Rattle.cnfx_reader.specs.declared.pending.Pending.{Pending}
use Rattle.cnfx_reader.specs.declared.pending.Pending.TheVariants.{Nothing, Clause, Parity, Assume}
use Rattle.cnfx_reader.specs.Body.{Outcome, goes_on, stops, closed_as, closed, with_literal, opened, outcome}

-- ---- what a pending constraint has said so far

abbrev opening : Pending → List Word
opening Nothing = []
opening Clause = []
opening Parity = letter 120 ∷ []
opening Assume = letter 97 ∷ []

abbrev said : Pending → List ℤ → List Word
said state zs = opening state ++ map number zs

-- nothing is pending without a word, and a clause has a literal
abbrev HasShape : Pending → List ℤ → Type 0
HasShape Nothing zs = zs ≡ []
HasShape Clause zs = zs ≢ []
HasShape Parity zs = ⊤
HasShape Assume zs = ⊤

abbrev AreNonzero : List ℤ → Type 0
AreNonzero zs = AllByRecursion (λ z. z ≢ pos 0) zs

-- ---- what may follow

unfoldable rows : List (List Kind)
rows = rows_of constraints constraint_forms.forms

abbrev in_literals : List (List Kind)
in_literals = (some_integers ∷ []) ∷ []

abbrev rest_rows : Pending → List (List Kind)
rest_rows Nothing = (some_integers ∷ []) ∷ (a_mark 120 ∷ some_integers ∷ []) ∷ (a_mark 97 ∷ some_integers ∷ []) ∷ []
rest_rows Clause = in_literals
rest_rows Parity = in_literals
rest_rows Assume = in_literals

literals_stay : (zs : List ℤ) → AreNonzero zs → remaining in_literals (map number zs) ≡ in_literals
literals_stay [] h = refl
literals_stay (pos zero ∷ zs) h = absurd (h.0 refl)
literals_stay (pos (suc n) ∷ zs) h = literals_stay zs h.1
literals_stay (negsuc n ∷ zs) h = literals_stay zs h.1

rows_left : (state : Pending) (zs : List ℤ) → AreNonzero zs → HasShape state zs → remaining rows (said state zs) ≡ rest_rows state
unfolding rows constraint_forms
rows_left Nothing zs h s = ap (λ ys. remaining (rest_rows Nothing) (map number ys)) s
rows_left Clause [] h s = absurd (s refl)
rows_left Clause (pos zero ∷ zs) h s = absurd (h.0 refl)
rows_left Clause (pos (suc n) ∷ zs) h s = literals_stay zs h.1
rows_left Clause (negsuc n ∷ zs) h s = literals_stay zs h.1
rows_left Parity zs h s = literals_stay zs h
rows_left Assume zs h s = literals_stay zs h

then_left : (state : Pending) (zs : List ℤ) (w : Word) → AreNonzero zs → HasShape state zs → remaining rows (said state zs ++ w ∷ []) ≡ flat_map (after_word w) (rest_rows state)
then_left state zs w h s = remaining-push rows (said state zs) w ∙ ap (flat_map (after_word w)) (rows_left state zs h s)

begins : (ws : List Word) (ks : List Kind) (more : List (List Kind)) → remaining rows ws ≡ ks ∷ more → Begins constraints ws
unfolding rows
begins ws ks more e = begins_where constraints constraint_forms ws ks more e

begins_not : (ws : List Word) → remaining rows ws ≡ [] → ¬ Begins constraints ws
unfolding rows
begins_not ws e = begins_nowhere constraints constraint_forms ws e

begun : (state : Pending) (zs : List ℤ) → AreNonzero zs → HasShape state zs → Begins constraints (said state zs)
begun Nothing zs h s = begins (said Nothing zs) _ _ (rows_left Nothing zs h s)
begun Clause zs h s = begins (said Clause zs) _ _ (rows_left Clause zs h s)
begun Parity zs h s = begins (said Parity zs) _ _ (rows_left Parity zs h s)
begun Assume zs h s = begins (said Assume zs) _ _ (rows_left Assume zs h s)

-- ---- no step yet

partial_stays : (zs : List ℤ) → AreNonzero zs → parse (some_integers ∷ []) (map number zs) ≡ partial
partial_stays [] h = refl
partial_stays (pos zero ∷ zs) h = absurd (h.0 refl)
partial_stays (pos (suc n) ∷ zs) h = ap (push (pos (suc n))) (partial_stays zs h.1)
partial_stays (negsuc n ∷ zs) h = ap (push (negsuc n)) (partial_stays zs h.1)

not_partial : (fs : List Field) → partial ≡ whole fs → ⊥
not_partial fs e = cc

not_bad : (fs : List Field) → bad ≡ whole fs → ⊥
not_bad fs e = cc

no_step : (state : Pending) (zs : List ℤ) → AreNonzero zs → HasShape state zs → (s : Constraint) → ¬ IsStep constraints (said state zs) s
no_step Nothing [] h k (constraint.Clause lits) p = not_partial _ (step_parses constraints [] (constraint.Clause lits) p)
no_step Nothing [] h k (constraint.Parity lits) p = not_partial _ (step_parses constraints [] (constraint.Parity lits) p)
no_step Nothing [] h k (constraint.Assume lits) p = not_partial _ (step_parses constraints [] (constraint.Assume lits) p)
no_step Nothing (z ∷ zs) h k s p = let e : ◌≡◌ {A = List ℤ} (z ∷ zs) [] = k in cc
no_step Clause [] h k s p = k refl
no_step Clause (z ∷ zs) h k (constraint.Clause lits) p = not_partial _ (sym (partial_stays (z ∷ zs) h) ∙ step_parses constraints (said Clause (z ∷ zs)) (constraint.Clause lits) p)
no_step Clause (z ∷ zs) h k (constraint.Parity lits) p = not_bad _ (step_parses constraints (said Clause (z ∷ zs)) (constraint.Parity lits) p)
no_step Clause (z ∷ zs) h k (constraint.Assume lits) p = not_bad _ (step_parses constraints (said Clause (z ∷ zs)) (constraint.Assume lits) p)
no_step Parity zs h k (constraint.Clause lits) p = not_bad _ (step_parses constraints (said Parity zs) (constraint.Clause lits) p)
no_step Parity zs h k (constraint.Parity lits) p = not_partial _ (sym (ap (with_field (mark 120)) (partial_stays zs h)) ∙ step_parses constraints (said Parity zs) (constraint.Parity lits) p)
no_step Parity zs h k (constraint.Assume lits) p = not_bad _ (step_parses constraints (said Parity zs) (constraint.Assume lits) p)
no_step Assume zs h k (constraint.Clause lits) p = not_bad _ (step_parses constraints (said Assume zs) (constraint.Clause lits) p)
no_step Assume zs h k (constraint.Parity lits) p = not_bad _ (step_parses constraints (said Assume zs) (constraint.Parity lits) p)
no_step Assume zs h k (constraint.Assume lits) p = not_partial _ (sym (ap (with_field (mark 97)) (partial_stays zs h)) ∙ step_parses constraints (said Assume zs) (constraint.Assume lits) p)

unfinished_so_far : (state : Pending) (zs : List ℤ) → AreNonzero zs → HasShape state zs → IsUnfinished constraints (said state zs)
unfinished_so_far state zs h s = (begun state zs h s, no_step state zs h s)

-- ---- a zero ends a step

whole_step : (state : Pending) (lits : List Literal) → AreNonzero (integers_of lits) → IsStep constraints (said state (integers_of lits) ++ number (pos 0) ∷ []) (closed_as state lits)
whole_step Nothing lits h = ((h, tt), append-nil _)
whole_step Clause lits h = ((h, tt), append-nil _)
whole_step Parity lits h = ((tt, (h, tt)), ap (λ ws. letter 120 ∷ ws) (append-nil _))
whole_step Assume lits h = ((tt, (h, tt)), ap (λ ws. letter 97 ∷ ws) (append-nil _))

closes_rows : (state : Pending) (w : Word) → flat_map (after_word w) (flat_map (after_word (number (pos 0))) (rest_rows state)) ≡ []
closes_rows Nothing w = refl
closes_rows Clause w = refl
closes_rows Parity w = refl
closes_rows Assume w = refl

zero_stops : (state : Pending) (zs : List ℤ) (ps : List Placed) → AreNonzero zs → HasShape state zs → Stops constraints (said state zs ++ number (pos 0) ∷ []) ps
zero_stops state zs [] h s = tt
zero_stops state zs (p ∷ ps) h s = begins_not ((said state zs ++ number (pos 0) ∷ []) ++ p.word ∷ [])
    (remaining-push rows (said state zs ++ number (pos 0) ∷ []) p.word ∙ ap (flat_map (after_word p.word)) (then_left state zs (number (pos 0)) h s) ∙ closes_rows state p.word)

-- ---- the words of a pending constraint, with their places

record At (state : Pending) (lits : List Literal) (front : List Placed) : Type 0 where
  spoken : words front ≡ said state (integers_of lits)
  nonzero : AreNonzero (integers_of lits)
  shape : HasShape state (integers_of lits)
  within : AreInLimit constraints front

pushed : (front : List Placed) (p : Placed) → words (front ++ p ∷ []) ≡ words front ++ p.word ∷ []
pushed front p = map-append _ front (p ∷ [])

within_push : (front : List Placed) (p : Placed) → AreInLimit constraints front → IsWithin MAX_VARIABLE p.word → AreInLimit constraints (front ++ p ∷ [])
within_push [] p h k = (k, tt)
within_push (q ∷ front) p h k = (h.0, within_push front p h.1 k)

abbrev placed : ℕ → Word → Placed
placed place w = record { place = place; word = w }

module _ (len : ℕ) where
  -- the outcome is a reading of the words from the pending constraint's first
  abbrev Found : Pending → Draft → List Placed → List Placed → Outcome → Type 0
  Found state d front ps o = (more : List Constraint) × (o.constraints ≡ d.constraints ++ more) × Reading constraints len (front ++ ps) more o.ending

  abbrev Goes : List Placed → Type 0
  Goes ps = (state : Pending) (d : Draft) (front : List Placed) → At state d.unfinished front → Found state d front ps (outcome len state d ps)

  bad_word : (state : Pending) (d : Draft) (front : List Placed) (p : Placed) (ps : List Placed) → At state d.unfinished front → flat_map (after_word p.word) (rest_rows state) ≡ []
      → Found state d front (p ∷ ps) (record { constraints = d.constraints; ending = bad_token p.place })
  bad_word state d front p ps a none = (
    [],
    sym (append-nil d.constraints),
    record {
      front = front;
      bad = p;
      rest = ps;
      split = refl;
      at = refl;
      unfinished = subst (IsUnfinished constraints) (sym a.spoken) (unfinished_so_far state _ a.nonzero a.shape);
      within = a.within;
      fits_not = subst (λ ws. ¬ Begins constraints (ws ++ p.word ∷ [])) (sym a.spoken) (begins_not _ (then_left state _ p.word a.nonzero a.shape ∙ none));
    },
  )

  big_number : (state : Pending) (d : Draft) (front : List Placed) (place : ℕ) (z : ℤ) (ps : List Placed) → At state d.unfinished front → flat_map (after_word (number z)) (rest_rows state) ≡ in_literals → MAX_VARIABLE < nat_abs z
      → Found state d front (placed place (number z) ∷ ps) (record { constraints = d.constraints; ending = too_big place })
  big_number state d front place z ps a fits big = (
    [],
    sym (append-nil d.constraints),
    record {
      front = front;
      big = placed place (number z);
      rest = ps;
      split = refl;
      at = refl;
      within = a.within;
      fits = subst (λ ws. Begins constraints (ws ++ number z ∷ [])) (sym a.spoken) (begins _ _ _ (then_left state _ (number z) a.nonzero a.shape ∙ fits));
      above = λ (h : nat_abs z ≤ MAX_VARIABLE). omega arith;
    },
  )

  zero_word : (state : Pending) (d : Draft) (front : List Placed) (place : ℕ) (ps : List Placed) → Goes ps → At state d.unfinished front
      → Found state d front (placed place (number (pos 0)) ∷ ps) (outcome len Nothing (closed state d) ps)
  zero_word state d front place ps go a =
      let r = go Nothing (closed state d) [] (record { spoken = refl; nonzero = tt; shape = refl; within = tt }) in
      let p = placed place (number (pos 0)) in
      let ws : words (front ++ p ∷ []) ≡ said state (integers_of d.unfinished) ++ number (pos 0) ∷ [] = pushed front p ∙ ap (λ x. x ++ number (pos 0) ∷ []) a.spoken in (
        closed_as state d.unfinished ∷ r.0,
        r.1 ∙ append_assoc d.constraints (closed_as state d.unfinished ∷ []) r.0,
        (
          ps,
          record {
            front = front ++ p ∷ [];
            split = sym (append_assoc front (p ∷ []) ps);
            step = subst (λ x. IsStep constraints x (closed_as state d.unfinished)) (sym ws) (whole_step state d.unfinished a.nonzero);
            within = within_push front p a.within (omega arith);
            stops = subst (λ x. Stops constraints x ps) (sym ws) (zero_stops state (integers_of d.unfinished) ps a.nonzero a.shape);
          },
          r.2,
        ),
      )

  -- a literal goes on with what is pending
  said_more : (state : Pending) (zs : List ℤ) (z : ℤ) → said state zs ++ number z ∷ [] ≡ said (opened state) (zs ++ z ∷ [])
  said_more Nothing zs z = sym (map-append number zs (z ∷ []))
  said_more Clause zs z = sym (map-append number zs (z ∷ []))
  said_more Parity zs z = ap (λ ws. letter 120 ∷ ws) (sym (map-append number zs (z ∷ [])))
  said_more Assume zs z = ap (λ ws. letter 97 ∷ ws) (sym (map-append number zs (z ∷ [])))

  some_more : (zs : List ℤ) (z : ℤ) → zs ++ z ∷ [] ≢ []
  some_more [] z e = cc
  some_more (y ∷ zs) z e = cc

  shape_more : (state : Pending) (zs : List ℤ) (z : ℤ) → HasShape (opened state) (zs ++ z ∷ [])
  shape_more Nothing zs z = some_more zs z
  shape_more Clause zs z = some_more zs z
  shape_more Parity zs z = tt
  shape_more Assume zs z = tt

  nonzero_more : (zs : List ℤ) (z : ℤ) → AreNonzero zs → z ≢ pos 0 → AreNonzero (zs ++ z ∷ [])
  nonzero_more [] z h k = (k, tt)
  nonzero_more (y ∷ zs) z h k = (h.0, nonzero_more zs z h.1 k)

  literal_word : (state : Pending) (d : Draft) (front : List Placed) (place : ℕ) (z : ℤ) (ps : List Placed) → Goes ps → At state d.unfinished front → integer_of (literal z) ≡ z → z ≢ pos 0 → nat_abs z ≤ MAX_VARIABLE
      → Found state d front (placed place (number z) ∷ ps) (outcome len (opened state) (with_literal d (literal z)) ps)
  literal_word state d front place z ps go a same some small =
      let p = placed place (number z) in
      let zs : integers_of (d.unfinished ++ literal z ∷ []) ≡ integers_of d.unfinished ++ z ∷ [] = map-append integer_of d.unfinished (literal z ∷ []) ∙ ap (λ y. integers_of d.unfinished ++ y ∷ []) same in
      let r = go (opened state) (with_literal d (literal z)) (front ++ p ∷ [])
      (record {
        spoken = pushed front p ∙ ap (λ x. x ++ number z ∷ []) a.spoken ∙ said_more state (integers_of d.unfinished) z ∙ ap (said (opened state)) (sym zs);
        nonzero = subst AreNonzero (sym zs) (nonzero_more (integers_of d.unfinished) z a.nonzero some);
        shape = subst (HasShape (opened state)) (sym zs) (shape_more state (integers_of d.unfinished) z);
        within = within_push front p a.within small;
      }) in
      (r.0, r.1, subst (λ x. Reading constraints len x r.0 (outcome len (opened state) (with_literal d (literal z)) ps).ending) (append_assoc front (p ∷ []) ps) r.2)

  fits_literal : (state : Pending) (z : ℤ) → z ≢ pos 0 → flat_map (after_word (number z)) (rest_rows state) ≡ in_literals
  fits_literal state (pos zero) h = absurd (h refl)
  fits_literal Nothing (pos (suc n)) h = refl
  fits_literal Clause (pos (suc n)) h = refl
  fits_literal Parity (pos (suc n)) h = refl
  fits_literal Assume (pos (suc n)) h = refl
  fits_literal Nothing (negsuc n) h = refl
  fits_literal Clause (negsuc n) h = refl
  fits_literal Parity (negsuc n) h = refl
  fits_literal Assume (negsuc n) h = refl

  by_size : (state : Pending) (d : Draft) (front : List Placed) (place : ℕ) (z : ℤ) (ps : List Placed) → Goes ps → At state d.unfinished front → integer_of (literal z) ≡ z → z ≢ pos 0 → (b : Bool) → nat_lt MAX_VARIABLE (nat_abs z) ≡ b
      → Found state d front (placed place (number z) ∷ ps)
      (elim (cond b (stops (too_big place)) (goes_on (opened state) (with_literal d (literal z)))) [ goes_on o e ↦ outcome len o e ps | stops ending ↦ record { constraints = d.constraints; ending = ending } ])
  by_size state d front place z ps go a same some true e = big_number state d front place z ps a (fits_literal state z some) (ltb-true MAX_VARIABLE (nat_abs z) e)
  by_size state d front place z ps go a same some false e = literal_word state d front place z ps go a same some (ltb-false MAX_VARIABLE (nat_abs z) e)

  -- a letter that opens a constraint
  opening_word : (next : Pending) (d : Draft) (front : List Placed) (place c : ℕ) (ps : List Placed) → Goes ps → At Nothing d.unfinished front → opening next ≡ letter c ∷ [] → HasShape next (integers_of d.unfinished)
      → Found Nothing d front (placed place (letter c) ∷ ps) (outcome len next d ps)
  opening_word next d front place c ps go a opens shape =
      let p = placed place (letter c) in
      let r = go next d (front ++ p ∷ [])
      (record {
        spoken = pushed front p ∙ ap (λ x. x ++ letter c ∷ []) (a.spoken ∙ ap (map number) a.shape)
            ∙ sym (ap (λ os. os ++ map number (integers_of d.unfinished)) opens ∙ ap (λ zs. letter c ∷ map number zs) a.shape);
        nonzero = a.nonzero;
        shape = shape;
        within = within_push front p a.within tt;
      }) in
      (r.0, r.1, subst (λ x. Reading constraints len x r.0 (outcome len next d ps).ending) (append_assoc front (p ∷ []) ps) r.2)

  abbrev behind_marks : Bool → Bool → List (List Kind)
  behind_marks x y =
      behind (a_mark 120) (some_integers ∷ []) (cond x (closes (mark 120)) refuses) ++ (behind (a_mark 97) (some_integers ∷ []) (cond y (closes (mark 97)) refuses) ++ [])

  other_letter : (m c : ℕ) → (c == m) ≡ false → eqb m c ≡ false
  other_letter m c e = ne_eqb m c (λ k. true≢false (sym (Rattle.std.proofs.Common.eq-eqb c m (sym k)) ∙ e))

  mark_word : (d : Draft) (front : List Placed) (place c : ℕ) (ps : List Placed) → Goes ps → At Nothing d.unfinished front → (b : Bool) → (c == 120) ≡ b → (e : Bool) → (c == 97) ≡ e
      → Found Nothing d front (placed place (letter c) ∷ ps)
      (elim (cond b (goes_on Parity d) (cond e (goes_on Assume d) (stops (bad_token place)))) [ goes_on o f ↦ outcome len o f ps | stops ending ↦ record { constraints = d.constraints; ending = ending } ])
  mark_word d front place c ps go a true is e not = opening_word Parity d front place c ps go a (ap (λ n. letter n ∷ []) (sym (eqb-true c 120 is))) tt
  mark_word d front place c ps go a false not true is = opening_word Assume d front place c ps go a (ap (λ n. letter n ∷ []) (sym (eqb-true c 97 is))) tt
  mark_word d front place c ps go a false no_x false no_a =
      bad_word Nothing d front (placed place (letter c)) ps a (λ i. behind_marks (other_letter 120 c no_x i) (other_letter 97 c no_a i))

  by_letter : (state : Pending) (d : Draft) (front : List Placed) (place c : ℕ) (ps : List Placed) → Goes ps → At state d.unfinished front → Found state d front (placed place (letter c) ∷ ps) (outcome len state d (placed place (letter c) ∷ ps))
  by_letter Nothing d front place c ps go a = mark_word d front place c ps go a (c == 120) refl (c == 97) refl
  by_letter Clause d front place c ps go a = bad_word Clause d front (placed place (letter c)) ps a refl
  by_letter Parity d front place c ps go a = bad_word Parity d front (placed place (letter c)) ps a refl
  by_letter Assume d front place c ps go a = bad_word Assume d front (placed place (letter c)) ps a refl

  no_word : (state : Pending) → flat_map (after_word other) (rest_rows state) ≡ []
  no_word Nothing = refl
  no_word Clause = refl
  no_word Parity = refl
  no_word Assume = refl

  no_line : (state : Pending) (k : ℕ) → flat_map (after_word (conflict k)) (rest_rows state) ≡ []
  no_line Nothing k = refl
  no_line Clause k = refl
  no_line Parity k = refl
  no_line Assume k = refl

  by_word : (state : Pending) (d : Draft) (front : List Placed) (place : ℕ) (w : Word) (ps : List Placed) → Goes ps → At state d.unfinished front → Found state d front (placed place w ∷ ps) (outcome len state d (placed place w ∷ ps))
  by_word state d front place (number (pos zero)) ps go a = zero_word state d front place ps go a
  by_word state d front place (number (pos (suc n))) ps go a = by_size state d front place (pos (suc n)) ps go a refl (λ e. let h : suc n ≡ 0 = ap nat_abs e in omega arith) (nat_lt MAX_VARIABLE (suc n)) refl
  by_word state d front place (number (negsuc n)) ps go a = by_size state d front place (negsuc n) ps go a refl (λ e. cc) (nat_lt MAX_VARIABLE (suc n)) refl
  by_word state d front place (letter c) ps go a = by_letter state d front place c ps go a
  by_word state d front place (conflict k) ps go a = bad_word state d front (placed place (conflict k)) ps a (no_line state k)
  by_word state d front place other ps go a = bad_word state d front (placed place other) ps a (no_word state)

  no_words : (ps : List Placed) → words ps ≡ [] → ps ≡ []
  no_words [] e = refl
  no_words (p ∷ ps) e = cc

  cut : (state : Pending) (d : Draft) (front : List Placed) → At state d.unfinished front → (said state (integers_of d.unfinished) ≢ []) → Found state d front [] (record { constraints = d.constraints; ending = unterminated len })
  cut state d front a some = (
    [],
    sym (append-nil d.constraints),
    subst (λ ps. (len ≡ len) × (ps ≢ []) × IsUnfinished constraints (words ps) × AreInLimit constraints ps) (sym (append-nil front))
        (refl, (λ e. some (sym a.spoken ∙ ap words e)), subst (IsUnfinished constraints) (sym a.spoken) (unfinished_so_far state _ a.nonzero a.shape), a.within),
  )

  some_said : (zs : List ℤ) → zs ≢ [] → map number zs ≢ []
  some_said [] h e = h refl
  some_said (z ∷ zs) h e = cc

  no_more : (state : Pending) (d : Draft) (front : List Placed) → At state d.unfinished front → Found state d front [] (outcome len state d [])
  no_more Nothing d front a = ([], sym (append-nil d.constraints), append-nil front ∙ no_words front (a.spoken ∙ ap (map number) a.shape))
  no_more Clause d front a = cut Clause d front a (some_said _ a.shape)
  no_more Parity d front a = cut Parity d front a (λ e. cc)
  no_more Assume d front a = cut Assume d front a (λ e. cc)

  sound : (ps : List Placed) → Goes ps
  sound [] state d front a = no_more state d front a
  sound (p ∷ ps) state d front a = by_word state d front p.place p.word ps (sound ps) a

  -- the outcome of all words is their reading
  pub outcome_is_reading : (ps : List Placed) → let o = outcome len Nothing (record { constraints = []; unfinished = [] }) ps in Reading constraints len ps o.constraints o.ending
  outcome_is_reading ps =
      let d : Draft = record { constraints = []; unfinished = [] } in
      let r = sound ps Nothing d [] (record { spoken = refl; nonzero = tt; shape = refl; within = tt }) in
      subst (λ cs. Reading constraints len ps cs (outcome len Nothing d ps).ending) (sym r.1) r.2
