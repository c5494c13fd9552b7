-- The values of literals, through a put and a cut.
use Rattle.std.proofs.Common.{◌≡◌, ◌≢◌, ℕ, ◌+◌, ◌<◌, ◌≤◌, List, length, get_or, take, set, sym, ap, ◌∙◌, subst, ⊎_elim, arith}
use Rattle.std.proofs.lemmas.List.{get_or-set_same, get_or-set_other, length-set, length-take-le}
use Rattle.std.proofs.lemmas.Bool.{cases_eq, cases_lt}
use Rattle.cx_base.specs.Literals.{Literal, negate, code_of}
use Rattle.cx_base.proofs.LiteralLaws.{apart_from_negation, code_below, negate-negate, same_code, same_or_negated}
use Rattle.cx_trail.specs.declared.entry.Entry.{Entry}
use Rattle.cx_trail.specs.declared.entry.Truth.{Truth}
use Rattle.cx_trail.specs.declared.entry.Truth.TheVariants.{True, False, Open}
use Rattle.cx_trail.specs.Sequence.{entry_at, Means}
use Rattle.cx_trail.specs.Cells.{ArePaired, AreApart, AreTruths, var_at, truth_at}
use Rattle.cx_trail.proofs.CellLaws.{at_take}

-- ---- codes
apart_code : (l m : Literal) → l.variable ≢ m.variable → code_of l ≢ code_of m
apart_code l m ne e = ne (ap (λ (x : Literal). x.variable) (same_code l m e))

negated_code : (l : Literal) → code_of (negate l) ≢ code_of l
negated_code l e = apart_from_negation l (sym (same_code (negate l) l e))

-- ---- one literal's values written
value_other : (truths : List Truth) (l m : Literal) (a b : Truth) → l.variable ≢ m.variable → truth_at (set (set truths (code_of m) a) (code_of (negate m)) b) (code_of l) ≡ truth_at truths (code_of l)
value_other truths l m a b ne =
    get_or-set_other (set truths (code_of m) a) (code_of (negate m)) (code_of l) b Open (apart_code l (negate m) ne)
    ∙ get_or-set_other truths (code_of m) (code_of l) a Open (apart_code l m ne)

value_own : (truths : List Truth) (m : Literal) (a b : Truth) → code_of m < length truths → truth_at (set (set truths (code_of m) a) (code_of (negate m)) b) (code_of m) ≡ a
value_own truths m a b h =
    get_or-set_other (set truths (code_of m) a) (code_of (negate m)) (code_of m) b Open (λ e. negated_code m (sym e))
    ∙ get_or-set_same truths (code_of m) a Open h

value_negated : (truths : List Truth) (m : Literal) (a b : Truth) → code_of (negate m) < length truths → truth_at (set (set truths (code_of m) a) (code_of (negate m)) b) (code_of (negate m)) ≡ b
value_negated truths m a b h = get_or-set_same (set truths (code_of m) a) (code_of (negate m)) b Open (subst (λ n. code_of (negate m) < n) (sym (length-set truths (code_of m) a)) h)

two_size : (truths : List Truth) (m : Literal) (a b : Truth) → length (set (set truths (code_of m) a) (code_of (negate m)) b) ≡ length truths
two_size truths m a b = length-set (set truths (code_of m) a) (code_of (negate m)) b ∙ length-set truths (code_of m) a

-- ---- a put
pub put_truths : (vars count : ℕ) (cells new_cells : List Entry) (places new_places : List ℕ) (truths : List Truth) (m : Literal) → ArePaired vars cells places → ArePaired vars new_cells new_places → AreTruths vars count cells truths
    → take count new_cells ≡ take count cells → (entry_at new_cells count).literal ≡ m → count < vars → count ≤ get_or places m.variable 0 → m.variable ≤ vars
    → AreTruths vars (count + 1) new_cells (set (set truths (code_of m) True) (code_of (negate m)) False)
put_truths vars count cells new_cells places new_places truths m k n t same put room free high =
    let whole : (i : ℕ) → i < count → entry_at new_cells i ≡ entry_at cells i = λ i h. sym (at_take count i new_cells h) ∙ ap (λ (xs : List Entry). entry_at xs i) same ∙ at_take count i cells h in
    let own : code_of m < length truths = omega (arith, t.size, code_below m vars high) in
    let other : code_of (negate m) < length truths = omega (arith, t.size, code_below (negate m) vars high) in
    let apart : (i : ℕ) → i < count → var_at new_cells i ≢ m.variable = λ i h e.
    let z : get_or places m.variable 0 ≡ i = ap (λ x. get_or places x 0) (sym e ∙ ap (λ (x : Entry). x.literal.variable) (whole i h)) ∙ k.placed i (omega arith) in
    omega arith in
    record {
      size = two_size truths m True False ∙ t.size;
      held = λ i h. ⊎_elim
          (λ (e : i ≡ count). subst (λ x. truth_at (set (set truths (code_of m) True) (code_of (negate m)) False) (code_of (entry_at new_cells x).literal) ≡ True) (sym e)
          (subst (λ (l : Literal). truth_at (set (set truths (code_of m) True) (code_of (negate m)) False) (code_of l) ≡ True) (sym put) (value_own truths m True False own)))
          (λ (ne : i ≢ count). let a : i < count = omega arith in
          value_other truths (entry_at new_cells i).literal m True False (apart i a)
          ∙ ap (λ (x : Entry). truth_at truths (code_of x.literal)) (whole i a) ∙ t.held i a) (cases_eq i count);
      denied = λ i h. ⊎_elim
          (λ (e : i ≡ count). subst (λ x. truth_at (set (set truths (code_of m) True) (code_of (negate m)) False) (code_of (negate (entry_at new_cells x).literal)) ≡ False) (sym e)
          (subst (λ (l : Literal). truth_at (set (set truths (code_of m) True) (code_of (negate m)) False) (code_of (negate l)) ≡ False) (sym put) (value_negated truths m True False other)))
          (λ (ne : i ≢ count). let a : i < count = omega arith in
          value_other truths (negate (entry_at new_cells i).literal) m True False (apart i a)
          ∙ ap (λ (x : Entry). truth_at truths (code_of (negate x.literal))) (whole i a) ∙ t.denied i a) (cases_eq i count);
      unset = λ i from h l e.
          let u = var_at new_cells i in
          let p = get_or places u 0 in
          let inside : p < vars = k.in_cells u (n.low i h) (n.high i h) in
          let has : var_at cells p ≡ u = k.has u (n.low i h) (n.high i h) in
          let not_m : l.variable ≢ m.variable = λ q.
          let z : i ≡ count = sym (n.placed i h) ∙ ap (λ x. get_or new_places x 0) (sym e ∙ q ∙ ap (λ (x : Literal). x.variable) (sym put)) ∙ n.placed count room in
          omega arith in
          let behind : count ≤ p = ⊎_elim
          (λ (q : p < count). let z : i ≡ p = sym (n.placed i h) ∙ ap (λ x. get_or new_places x 0) (sym has ∙ ap (λ (x : Entry). x.literal.variable) (sym (whole p q))) ∙ n.placed p inside in absurd (omega arith))
          (λ (q : count ≤ p). q) (cases_lt p count) in
          value_other truths l m True False not_m ∙ t.unset p behind inside l (e ∙ sym has);
    }

-- ---- a cut
pub cut_truths : (count : ℕ) (cells : List Entry) (truths : List Truth) → AreApart cells → AreTruths (length cells) (count + 1) cells truths → count < length cells
    → AreTruths (length cells) count cells (set (set truths (code_of (entry_at cells count).literal) Open) (code_of (negate (entry_at cells count).literal)) Open)
cut_truths count cells truths d t room =
    let m = (entry_at cells count).literal in
    let high = d.within count room in
    let own : code_of m < length truths = omega (arith, t.size, code_below m (length cells) high) in
    let other : code_of (negate m) < length truths = omega (arith, t.size, code_below (negate m) (length cells) high) in
    let apart : (i : ℕ) → i < length cells → i ≢ count → var_at cells i ≢ m.variable = λ i h ne e. ne (d.once i count h room e) in
    record {
      size = two_size truths m Open Open ∙ t.size;
      held = λ i h. value_other truths (entry_at cells i).literal m Open Open (apart i (omega arith) (λ e. omega arith)) ∙ t.held i (omega arith);
      denied = λ i h. value_other truths (negate (entry_at cells i).literal) m Open Open (apart i (omega arith) (λ e. omega arith)) ∙ t.denied i (omega arith);
      unset = λ i from h l e. ⊎_elim
          (λ (z : i ≡ count). ⊎_elim
          (λ (q : l ≡ m). subst (λ (x : Literal). truth_at (set (set truths (code_of m) Open) (code_of (negate m)) Open) (code_of x) ≡ Open) (sym q) (value_own truths m Open Open own))
          (λ (q : l ≡ negate m). subst (λ (x : Literal). truth_at (set (set truths (code_of m) Open) (code_of (negate m)) Open) (code_of x) ≡ Open) (sym q) (value_negated truths m Open Open other))
          (same_or_negated l m (e ∙ ap (var_at cells) z)))
          (λ (nz : i ≢ count). value_other truths l m Open Open (λ q. apart i h nz (sym e ∙ q)) ∙ t.unset i (omega arith) h l e) (cases_eq i count);
    }

-- ---- a read
pub means_at : (vars count : ℕ) (cells : List Entry) (places : List ℕ) (truths : List Truth) (l : Literal) → ArePaired vars cells places → AreTruths vars count cells truths → count ≤ vars → 1 ≤ l.variable → l.variable ≤ vars
    → Means (take count cells) l (truth_at truths (code_of l))
means_at vars count cells places truths l k t few low high =
    let p = get_or places l.variable 0 in
    let inside : p < vars = k.in_cells l.variable low high in
    let has : var_at cells p ≡ l.variable = k.has l.variable low high in
    let n : length (take count cells) ≡ count = length-take-le count cells (omega (arith, k.cell_count)) in
    ⊎_elim
    (λ (h : p < count).
    let stands : (entry_at (take count cells) p).literal ≡ (entry_at cells p).literal = ap (λ (x : Entry). x.literal) (at_take count p cells h) in
    ⊎_elim
    (λ (q : l ≡ (entry_at cells p).literal).
    subst (λ (x : Truth). Means (take count cells) l x) (sym (ap (λ (x : Literal). truth_at truths (code_of x)) q ∙ t.held p h))
    (p, (omega arith, stands ∙ sym q)))
    (λ (q : l ≡ negate (entry_at cells p).literal).
    subst (λ (x : Truth). Means (take count cells) l x) (sym (ap (λ (x : Literal). truth_at truths (code_of x)) q ∙ t.denied p h))
    (p, (omega arith, stands ∙ sym (negate-negate (entry_at cells p).literal) ∙ ap (λ (x : Literal). negate x) (sym q))))
    (same_or_negated l (entry_at cells p).literal (sym has)))
    (λ (h : count ≤ p).
    subst (λ (x : Truth). Means (take count cells) l x) (sym (t.unset p h inside l (sym has)))
    (λ i b e.
    let a : i < count = omega arith in
    let z : p ≡ i = ap (λ x. get_or places x 0) (sym e ∙ ap (λ (x : Entry). x.literal.variable) (at_take count i cells a)) ∙ k.placed i (omega arith) in
    omega arith)) (cases_lt p count)
