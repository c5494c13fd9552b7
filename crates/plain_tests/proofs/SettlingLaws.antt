-- What the looks of the plain program find, in the words of the definition.
use Rattle.std.proofs.Common.{◌≡◌, refl, sym, ap, ◌∙◌, subst, ℕ, zero, suc, ◌+◌, ◌-◌, ◌<◌, ◌≤◌, Bool, true, false, cond, not, ◌&&◌, ◌||◌, List, [], ◌∷◌, ◌++◌, length, get_or, arith, true≢false, ◌⊎◌, inl, inr}
use Rattle.std.specs.Prelude.{MatchBool, MatchOption, Option, Some, None}
use Rattle.std.specs.List.{list_any, list_all, AllByRecursion, Contains}
use Rattle.std.proofs.lemmas.Bool.{cases_Bool, or_cases, or_parts, or_left, or_right, and_parts, and_from, not-true, false_from_ne_true}
use Rattle.std.proofs.lemmas.List.{append_assoc, append-nil}
use Rattle.std.proofs.lemmas.List.Folds.{list_any_at, list_all-append}
use Rattle.cx_base.specs.Literals.{Literal, differ, negate, same_literal, literal_true, positive_of, negative_of}
use Rattle.cx_base.specs.Problem.{Problem, AreWithin, IsWithinVariables, clauses_of, parities_of, parity_met, literals_of}
use Rattle.cx_base.specs.declared.constraint.Constraint.{Constraint}
use Rattle.cx_base.specs.declared.constraint.Constraint.TheVariants.{Clause, Parity, Assume}
use Rattle.cx_base.proofs.Elements.{in_head, in_tail, all_push}
use Rattle.cx_base.proofs.LiteralLaws.{are_one}
use Rattle.cx_base.proofs.Odd.{parity_met-cons}
use Rattle.cx_semantics.specs.Chain.{has_literal, is_inside, left, one, count_left}
use Rattle.cx_semantics.specs.Forced.{Solves, Consistent, Forced}
use Rattle.cx_semantics.specs.Fresh.{is_falsified, others}
use Rattle.cx_semantics.specs.Settled.{IsClosed, IsDecidedBy, Decides, SettledBy}
use Rattle.cx_semantics.proofs.ChainLaws.{literal_true-negate}
use Rattle.cx_semantics.proofs.Closure.{has_by_inside, left_under, falsified-left, all_are, some_are, one_in, left_in, left_open, left_has}
use Rattle.cx_semantics.proofs.Members.{has_at_head, has_behind, has_split, has_left, has_right, has_pushed, all_by}
use Rattle.plain_tests.specs.Settling.{leaves_only, are_solved, some_solve, follows, decides, is_decided, both_of_each, IsNext, IsLeast}

-- ---- elements

found : {X : Type 0} (p : X → Bool) (xs : List X) → list_any p xs ≡ true → (x : X) × Contains xs x × (p x ≡ true)
found p [] h = absurd (true≢false (sym h))
found p (x ∷ xs) h = elim (or_cases (p x) (list_any p xs) h) [
  | inl e ↦ (x, in_head x xs, e)
  | inr later ↦ let r = found p xs later in (r.0, in_tail x xs r.0 r.1, r.2)
]

finds : {X : Type 0} (p : X → Bool) (xs : List X) (x : X) → Contains xs x → p x ≡ true → list_any p xs ≡ true
finds p xs x (k, less, e) h = list_any_at p xs k x less (subst (λ y. p y ≡ true) (sym e) h)

all_at : {X : Type 0} (P : X → Type 0) (xs : List X) (x : X) → AllByRecursion P xs → Contains xs x → P x
all_at P [] x all (k, less, e) = absurd (omega (arith, less))
all_at P (y ∷ ys) x all (zero, less, e) = subst P e all.0
all_at P (y ∷ ys) x all (suc k, less, e) = all_at P ys x all.1 (k, omega (arith, less), e)

by_all : (p : Literal → Bool) (lits : List Literal) (m : Literal) → list_all p lits ≡ true → has_literal lits m ≡ true → p m ≡ true
by_all p [] m h k = absurd (true≢false (sym k))
by_all p (x ∷ lits) m h k =
    let q = and_parts (p x) (list_all p lits) h in
    elim (has_split x lits m k) [ inl e ↦ ap p e ∙ q.0 | inr later ↦ by_all p lits m q.1 later ]

none_by : (p : Literal → Bool) (lits : List Literal) (m : Literal) → list_any p lits ≡ false → has_literal lits m ≡ true → p m ≡ false
none_by p [] m h k = absurd (true≢false (sym k))
none_by p (x ∷ lits) m h k =
    let q = or_parts (p x) (list_any p lits) h in
    elim (has_split x lits m k) [ inl e ↦ ap p e ∙ q.0 | inr later ↦ none_by p lits m q.1 later ]

-- ---- the variables of a formula

abbrev IsInside : ℕ → Literal → Type 0
IsInside n l = (1 ≤ l.variable) × (l.variable ≤ n)

-- each literal of the list has a variable of the formula
abbrev pub AllInside : ℕ → List Literal → Type 0
AllInside n lits = (m : Literal) → has_literal lits m ≡ true → IsInside n m

-- each literal is known, or waits
abbrev pub AreSeen : ℕ → List Literal → List Literal → Type 0
AreSeen n known waiting = (l : Literal) → 1 ≤ l.variable → l.variable ≤ n → (has_literal known l ≡ true) ⊎ (has_literal waiting l ≡ true)

inside_one : (n : ℕ) (lits : List Literal) (m : Literal) → AreWithin n lits → has_literal lits m ≡ true → IsInside n m
inside_one n [] m w h = absurd (true≢false (sym h))
inside_one n (x ∷ lits) m w h = elim (has_split x lits m h) [ inl e ↦ subst (IsInside n) (sym e) w.0 | inr later ↦ inside_one n lits m w.1 later ]

clauses_inside : (n : ℕ) (cs : List Constraint) → AllByRecursion (λ c. AreWithin n (literals_of c)) cs → AllByRecursion (AreWithin n) (clauses_of cs)
unfolding clauses_of
clauses_inside n [] h = tt
clauses_inside n (Clause lits ∷ cs) h = (h.0, clauses_inside n cs h.1)
clauses_inside n (Parity lits ∷ cs) h = clauses_inside n cs h.1
clauses_inside n (Assume lits ∷ cs) h = clauses_inside n cs h.1

pub parities_inside : (n : ℕ) (cs : List Constraint) → IsWithinVariables n cs → AllByRecursion (AreWithin n) (parities_of cs)
unfolding parities_of
parities_inside n cs h = go cs h.1
  where
    go : (cs : List Constraint) → AllByRecursion (λ c. AreWithin n (literals_of c)) cs → AllByRecursion (AreWithin n) (parities_of cs)
    go [] h = tt
    go (Clause lits ∷ cs) h = go cs h.1
    go (Parity lits ∷ cs) h = (h.0, go cs h.1)
    go (Assume lits ∷ cs) h = go cs h.1

-- ---- a clause of which one literal is left

only_left : (known clause : List Literal) (l : Literal) → leaves_only known l clause ≡ true → count_left (left known clause) ≡ one l
only_left known clause l h =
    let p = and_parts (has_literal clause l && not (has_literal known (negate l))) (list_all (λ m. has_literal known (negate m) || same_literal l m) clause) h in
    let q = and_parts (has_literal clause l) (not (has_literal known (negate l))) p.0 in
    let free : has_literal known (negate l) ≡ false = not-true (has_literal known (negate l)) q.1 in
    some_are (left known clause) l
    (all_by (same_literal l) (left known clause) (λ m k. second (has_literal known (negate m)) (same_literal l m) (left_open known clause m k)
    (by_all (λ x. has_literal known (negate x) || same_literal l x) clause m p.1 (left_in known clause m k))))
    (λ e. true≢false (sym (left_has known clause l q.0 free) ∙ ap (λ xs. has_literal xs l) e))
  where
    second : (a b : Bool) → a ≡ false → (a || b) ≡ true → b ≡ true
    second true b e k = absurd (true≢false e)
    second false b e k = k

left_only : (known clause : List Literal) (l : Literal) → count_left (left known clause) ≡ one l → leaves_only known l clause ≡ true
left_only known clause l e =
    let there = one_in (left known clause) l e in
    and_from _ _ (and_from _ _ (left_in known clause l there) (ap not (left_open known clause l there)))
    (all_by (λ m. has_literal known (negate m) || same_literal l m) clause (λ m k. elim (cases_Bool (has_literal known (negate m))) [
      | inl f ↦ or_left (has_literal known (negate m)) (same_literal l m) f
      | inr f ↦ or_right (has_literal known (negate m)) (same_literal l m) (by_all (same_literal l) (left known clause) m (all_are (left known clause) l e) (left_has known clause m k f))
    ]))

-- ---- values of the first variables

-- the first so many values, with false past the end
abbrev first_values : ℕ → List Bool → List Bool
first_values zero v = []
first_values (suc n) [] = false ∷ first_values n []
first_values (suc n) (b ∷ v) = b ∷ first_values n v

length-first : (n : ℕ) (v : List Bool) → length (first_values n v) ≡ n
length-first zero v = refl
length-first (suc n) [] = ap suc (length-first n [])
length-first (suc n) (b ∷ v) = ap suc (length-first n v)

get_or-first : (n : ℕ) (v : List Bool) (i : ℕ) → i < n → get_or (first_values n v) i false ≡ get_or v i false
get_or-first zero v i h = absurd (omega arith)
get_or-first (suc n) [] zero h = refl
get_or-first (suc n) (b ∷ v) zero h = refl
get_or-first (suc n) [] (suc i) h = get_or-first n [] i (omega arith)
get_or-first (suc n) (b ∷ v) (suc i) h = get_or-first n v i (omega arith)

true-first : (n : ℕ) (v : List Bool) (l : Literal) → IsInside n l → literal_true (first_values n v) l ≡ literal_true v l
true-first n v l h = let low = h.0 in let high = h.1 in ap (differ l.negative) (get_or-first n v (l.variable - 1) (omega arith))

all-first : (n : ℕ) (v : List Bool) (lits : List Literal) → AreWithin n lits → list_all (literal_true (first_values n v)) lits ≡ list_all (literal_true v) lits
all-first n v [] w = refl
all-first n v (l ∷ lits) w = λ i. true-first n v l w.0 i && all-first n v lits w.1 i

met-first : (n : ℕ) (v : List Bool) (lits : List Literal) → AreWithin n lits → parity_met (first_values n v) lits ≡ parity_met v lits
met-first n v [] w = refl
met-first n v (l ∷ lits) w = parity_met-cons (first_values n v) l lits ∙ (λ i. differ (true-first n v l w.0 i) (met-first n v lits w.1 i)) ∙ sym (parity_met-cons v l lits)

mets-first : (n : ℕ) (v : List Bool) (ps : List (List Literal)) → AllByRecursion (AreWithin n) ps → list_all (parity_met (first_values n v)) ps ≡ list_all (parity_met v) ps
mets-first n v [] w = refl
mets-first n v (p ∷ ps) w = λ i. met-first n v p w.0 i && mets-first n v ps w.1 i

-- ---- all values

solved_by : (ps : List (List Literal)) (part : List Literal) (vs : List Bool) (n : ℕ) → some_solve ps part vs n ≡ true → Consistent ps part
solved_by ps part vs zero h = let p = and_parts (list_all (literal_true vs) part) (list_all (parity_met vs) ps) h in (vs, record { agrees = p.0; meets = p.1 })
solved_by ps part vs (suc n) h = elim (or_cases (some_solve ps part (vs ++ false ∷ []) n) (some_solve ps part (vs ++ true ∷ []) n) h) [
  | inl e ↦ solved_by ps part (vs ++ false ∷ []) n e
  | inr e ↦ solved_by ps part (vs ++ true ∷ []) n e
]

solves_on : (ps : List (List Literal)) (part : List Literal) (vs : List Bool) (n : ℕ) (more : List Bool) → length more ≡ n → are_solved ps part (vs ++ more) ≡ true → some_solve ps part vs n ≡ true
solves_on ps part vs zero [] e h = subst (λ xs. are_solved ps part xs ≡ true) (append-nil vs) h
solves_on ps part vs zero (b ∷ more) e h = absurd (omega (arith, e))
solves_on ps part vs (suc n) [] e h = absurd (omega (arith, e))
solves_on ps part vs (suc n) (false ∷ more) e h = or_left (some_solve ps part (vs ++ false ∷ []) n) (some_solve ps part (vs ++ true ∷ []) n)
    (solves_on ps part (vs ++ false ∷ []) n more (omega (arith, e)) (subst (λ xs. are_solved ps part xs ≡ true) (sym (append_assoc vs (false ∷ []) more)) h))
solves_on ps part vs (suc n) (true ∷ more) e h = or_right (some_solve ps part (vs ++ false ∷ []) n) (some_solve ps part (vs ++ true ∷ []) n)
    (solves_on ps part (vs ++ true ∷ []) n more (omega (arith, e)) (subst (λ xs. are_solved ps part xs ≡ true) (sym (append_assoc vs (true ∷ []) more)) h))

solved : (n : ℕ) (ps : List (List Literal)) (part : List Literal) → AllByRecursion (AreWithin n) ps → AreWithin n part → Consistent ps part → some_solve ps part [] n ≡ true
solved n ps part wps wpart (v, s) = solves_on ps part [] n (first_values n v) (length-first n v) (and_from _ _ (all-first n v part wpart ∙ s.agrees) (mets-first n v ps wps ∙ s.meets))

pub solve_more : (ps : List (List Literal)) (part : List Literal) (vs : List Bool) (n : ℕ) → 1 ≤ n → some_solve ps part vs n ≡ (some_solve ps part (vs ++ false ∷ []) (n - 1) || some_solve ps part (vs ++ true ∷ []) (n - 1))
solve_more ps part vs zero h = absurd (omega arith)
solve_more ps part vs (suc n) h =
    let back : suc n - 1 ≡ n = omega arith in
    (λ i. some_solve ps part (vs ++ false ∷ []) (sym back i) || some_solve ps part (vs ++ true ∷ []) (sym back i))

-- the lower value gave nothing
pub by_high : (ps : List (List Literal)) (part : List Literal) (vs low high : List Bool) (n : ℕ) (x b : Bool) → 1 ≤ n → low ≡ vs ++ false ∷ [] → high ≡ vs ++ true ∷ [] → x ≡ some_solve ps part low (n - 1) → x ≡ false
    → b ≡ some_solve ps part high (n - 1) → b ≡ some_solve ps part vs n
by_high ps part vs low high n x b some l h e f g =
    let none : some_solve ps part (vs ++ false ∷ []) (n - 1) ≡ false = sym (e ∙ ap (λ xs. some_solve ps part xs (n - 1)) l) ∙ f in
    g ∙ ap (λ xs. some_solve ps part xs (n - 1)) h ∙ sym (solve_more ps part vs n some ∙ ap (λ y. y || some_solve ps part (vs ++ true ∷ []) (n - 1)) none)

-- ---- forced literals

inside_negate : (n : ℕ) (l : Literal) → IsInside n l → IsInside n (negate l)
inside_negate n l h = h

agrees_more : (v : List Bool) (known : List Literal) (l : Literal) → list_all (literal_true v) (known ++ negate l ∷ []) ≡ (list_all (literal_true v) known && (literal_true v (negate l) && true))
agrees_more v known l = list_all-append (literal_true v) known (negate l ∷ [])

forced_by : (n : ℕ) (ps : List (List Literal)) (known : List Literal) (l : Literal) → AllByRecursion (AreWithin n) ps → AreWithin n known → IsInside n l
    → some_solve ps (known ++ negate l ∷ []) [] n ≡ false → Forced ps known l
forced_by n ps known l wps wknown wl h v s = elim (cases_Bool (literal_true v l)) [
  | inl e ↦ e
  | inr e ↦ absurd (true≢false (sym (solved n ps (known ++ negate l ∷ []) wps (all_push (IsInside n) known (negate l) wknown wl) (
    v,
    record {
      agrees = agrees_more v known l ∙ and_from _ _ s.agrees (and_from _ _ (literal_true-negate v l ∙ ap not e) refl);
      meets = s.meets;
    },
  )) ∙ h))
]

forced_none : (n : ℕ) (ps : List (List Literal)) (known : List Literal) (l : Literal) → Forced ps known l → some_solve ps (known ++ negate l ∷ []) [] n ≡ false
forced_none n ps known l f = false_from_ne_true (some_solve ps (known ++ negate l ∷ []) [] n) (λ t.
    let c = solved_by ps (known ++ negate l ∷ []) [] n t in
    let v = c.0 in
    let p = and_parts (list_all (literal_true v) known) (literal_true v (negate l) && true) (sym (agrees_more v known l) ∙ c.1.agrees) in
    let q = and_parts (literal_true v (negate l)) true p.1 in
    true≢false (sym q.0 ∙ literal_true-negate v l ∙ ap not (f v (record { agrees = p.0; meets = c.1.meets }))))

solves_inside : (ps : List (List Literal)) (known u : List Literal) (v : List Bool) → is_inside known u ≡ true → Solves ps u v → Solves ps known v
solves_inside ps known u v h s = record { agrees = all_by (literal_true v) known (λ m k. by_all (literal_true v) u m s.agrees (has_by_inside known u m h k)); meets = s.meets }

-- ---- one more known literal

-- each closed set that is not decided has these
abbrev pub Reaches : Problem → List (List Literal) → List Literal → Type 0
Reaches formula ps known = (u : List Literal) → IsClosed formula ps u → IsDecidedBy formula ps u ⊎ (is_inside known u ≡ true)

inside_push : (known u : List Literal) (l : Literal) → is_inside known u ≡ true → has_literal u l ≡ true → is_inside (known ++ l ∷ []) u ≡ true
inside_push known u l h k = list_all-append (has_literal u) known (l ∷ []) ∙ and_from _ _ h (and_from _ _ k refl)

module _ (formula : Problem) (ps : List (List Literal)) (wps : AllByRecursion (AreWithin formula.variables) ps) where
  pub reaches_on : (known : List Literal) (l : Literal) → AreWithin formula.variables known → IsInside formula.variables l → follows formula ps known l ≡ true → Reaches formula ps known → Reaches formula ps (known ++ l ∷ [])
  reaches_on known l wknown wl h reaches u closed = elim (reaches u closed) [
    | inl d ↦ inl d
    | inr inside ↦ elim (or_cases (list_any (leaves_only known l) (clauses_of formula.constraints)) (not (some_solve ps (known ++ negate l ∷ []) [] formula.variables)) h) [
      | inl unit ↦
          let f = found (leaves_only known l) (clauses_of formula.constraints) unit in
          let alone = only_left known f.0 l f.2 in
          elim (cases_Bool (is_falsified u f.0)) [
            | inl t ↦ inl (inl (f.0, f.1, t))
            | inr n ↦ inr (inside_push known u l inside (closed.units f.0 l f.1
                (some_are (left u f.0) l (left_under (same_literal l) known u f.0 inside (all_are (left known f.0) l alone)) (λ e. true≢false (sym (falsified-left u f.0 e) ∙ n)))))
          ]
      | inr free ↦
          let forced = forced_by formula.variables ps known l wps wknown wl (not-true (some_solve ps (known ++ negate l ∷ []) [] formula.variables) free) in
          inr (inside_push known u l inside (closed.forced l wl.0 wl.1 (λ v s. forced v (solves_inside ps known u v inside s))))
    ]
  ]

  -- no literal that waits follows
  pub closed_now : (known waiting : List Literal) → IsWithinVariables formula.variables formula.constraints → AreSeen formula.variables known waiting
      → list_any (follows formula ps known) waiting ≡ false → IsClosed formula ps known
  closed_now known waiting w seen none = record {
    units = λ clause l c e.
        let there = left_in known clause l (one_in (left known clause) l e) in
        let wl = inside_one formula.variables clause l (all_at (AreWithin formula.variables) (clauses_of formula.constraints) clause (clauses_inside formula.variables formula.constraints w.1) c) there in
        known_now l wl.0 wl.1 (or_left (list_any (leaves_only known l) (clauses_of formula.constraints)) (not (some_solve ps (known ++ negate l ∷ []) [] formula.variables))
        (finds (leaves_only known l) (clauses_of formula.constraints) clause c (left_only known clause l e)));
    forced = λ l low high f. known_now l low high (or_right (list_any (leaves_only known l) (clauses_of formula.constraints)) (not (some_solve ps (known ++ negate l ∷ []) [] formula.variables))
        (ap not (forced_none formula.variables ps known l f)));
  }
    where
      known_now : (l : Literal) → 1 ≤ l.variable → l.variable ≤ formula.variables → follows formula ps known l ≡ true → has_literal known l ≡ true
      known_now l low high h = elim (seen l low high) [
        | inl k ↦ k
        | inr k ↦ absurd (true≢false (sym h ∙ none_by (follows formula ps known) waiting l none k))
      ]

-- ---- what waits

in_others : (lits : List Literal) (l m : Literal) → has_literal (others lits l) m ≡ true → has_literal lits m ≡ true
in_others [] l m h = h
in_others (x ∷ lits) l m h = go (same_literal l x) (λ k. in_others lits l m k) h
  where
    go : (b : Bool) → (has_literal (others lits l) m ≡ true → has_literal lits m ≡ true) → has_literal (cond (not b) (x ∷ others lits l) (others lits l)) m ≡ true → has_literal (x ∷ lits) m ≡ true
    go true rest k = has_behind x lits m (rest k)
    go false rest k = elim (has_split x (others lits l) m k) [ inl e ↦ ap (has_literal (x ∷ lits)) e ∙ has_at_head x lits | inr later ↦ has_behind x lits m (rest later) ]

is_or_stays : (lits : List Literal) (l m : Literal) → has_literal lits m ≡ true → (m ≡ l) ⊎ (has_literal (others lits l) m ≡ true)
is_or_stays [] l m h = absurd (true≢false (sym h))
is_or_stays (x ∷ lits) l m h = elim (has_split x lits m h) [
  | inl is ↦ here (same_literal l x) refl is
  | inr later ↦ elim (is_or_stays lits l m later) [ inl is ↦ inl is | inr k ↦ inr (kept (same_literal l x) k) ]
]
  where
    kept : (b : Bool) → has_literal (others lits l) m ≡ true → has_literal (cond (not b) (x ∷ others lits l) (others lits l)) m ≡ true
    kept true k = k
    kept false k = has_behind x (others lits l) m k

    here : (b : Bool) → same_literal l x ≡ b → m ≡ x → (m ≡ l) ⊎ (has_literal (cond (not b) (x ∷ others lits l) (others lits l)) m ≡ true)
    here true e is = inl (is ∙ sym (are_one l x e))
    here false e is = inr (ap (has_literal (x ∷ others lits l)) is ∙ has_at_head x (others lits l))

not_more : (lits : List Literal) (l : Literal) → length (others lits l) ≤ length lits
not_more [] l = omega arith
not_more (x ∷ lits) l = go (same_literal l x) (not_more lits l)
  where
    go : (b : Bool) → length (others lits l) ≤ length lits → length (cond (not b) (x ∷ others lits l) (others lits l)) ≤ suc (length lits)
    go true h = omega arith
    go false h = omega arith

pub fewer : (lits : List Literal) (l : Literal) → has_literal lits l ≡ true → length (others lits l) < length lits
fewer [] l h = absurd (true≢false (sym h))
fewer (x ∷ lits) l h = go (same_literal l x) refl (not_more lits l) (λ k. fewer lits l k)
  where
    go : (b : Bool) → same_literal l x ≡ b → length (others lits l) ≤ length lits → (has_literal lits l ≡ true → length (others lits l) < length lits) → length (cond (not b) (x ∷ others lits l) (others lits l)) < suc (length lits)
    go true e n rest = omega (arith, n)
    go false e n rest = let later = rest (sym (ap (λ b. b || has_literal lits l) e) ∙ h) in omega (arith, later)

pub waits_on : (n : ℕ) (waiting : List Literal) (l : Literal) → AllInside n waiting → AllInside n (others waiting l)
waits_on n waiting l h m k = h m (in_others waiting l m k)

pub seen_on : (n : ℕ) (known waiting : List Literal) (l : Literal) → AreSeen n known waiting → AreSeen n (known ++ l ∷ []) (others waiting l)
seen_on n known waiting l seen m low high = elim (seen m low high) [
  | inl k ↦ inl (has_left known (l ∷ []) m k)
  | inr k ↦ elim (is_or_stays waiting l m k) [ inl e ↦ inl (ap (has_literal (known ++ l ∷ [])) e ∙ has_right known (l ∷ []) l (has_at_head l [])) | inr stays ↦ inr stays ]
]

pub within_on : (n : ℕ) (known : List Literal) (l : Literal) → AreWithin n known → IsInside n l → AreWithin n (known ++ l ∷ [])
within_on n known l w h = all_push (IsInside n) known l w h

-- ---- both literals of each variable

pub both_more : (n : ℕ) → both_of_each (n + 1) ≡ (both_of_each n ++ positive_of (n + 1) ∷ []) ++ negative_of (n + 1) ∷ []
both_more n = ap both_of_each next ∙ (λ i. (both_of_each n ++ positive_of (sym next i) ∷ []) ++ negative_of (sym next i) ∷ [])
  where
    next : n + 1 ≡ suc n
    next = omega arith

pub decides_more : (n : ℕ) (known : List Literal) → decides (n + 1) known ≡ (decides n known && (has_literal known (positive_of (n + 1)) || has_literal known (negative_of (n + 1))))
decides_more n known = ap (λ k. decides k known) next ∙ (λ i. decides n known && (has_literal known (positive_of (sym next i)) || has_literal known (negative_of (sym next i))))
  where
    next : n + 1 ≡ suc n
    next = omega arith

pub both_wait : (n : ℕ) → AllInside n (both_of_each n)
both_wait zero m h = absurd (true≢false (sym h))
both_wait (suc n) m h = elim (has_pushed (both_of_each n ++ positive_of (suc n) ∷ []) (negative_of (suc n)) m h) [
  | inl k ↦ elim (has_pushed (both_of_each n) (positive_of (suc n)) m k) [
    | inl g ↦ (let r = both_wait n m g in let low = r.0 in let high = r.1 in (low, omega arith))
    | inr e ↦ (let v = ap (λ (x : Literal). x.variable) e in (omega arith, omega arith))
  ]
  | inr e ↦ (let v = ap (λ (x : Literal). x.variable) e in (omega arith, omega arith))
]

one_of_both : (n : ℕ) (l : Literal) → l.variable ≡ suc n → has_literal (both_of_each (suc n)) l ≡ true
one_of_both n l e = go l.negative refl
  where
    xs : List Literal
    xs = both_of_each n ++ positive_of (suc n) ∷ []

    go : (b : Bool) → l.negative ≡ b → has_literal (both_of_each (suc n)) l ≡ true
    go true f = subst (λ m. has_literal (both_of_each (suc n)) m ≡ true) (λ i. record { variable = sym e i; negative = sym f i }) (has_right xs (negative_of (suc n) ∷ []) (negative_of (suc n)) (has_at_head (negative_of (suc n)) []))
    go false f = subst (λ m. has_literal (both_of_each (suc n)) m ≡ true) (λ i. record { variable = sym e i; negative = sym f i })
        (has_left xs (negative_of (suc n) ∷ []) (positive_of (suc n)) (has_right (both_of_each n) (positive_of (suc n) ∷ []) (positive_of (suc n)) (has_at_head (positive_of (suc n)) [])))

pub both_seen : (n : ℕ) → AreSeen n [] (both_of_each n)
both_seen zero l low high = absurd (omega arith)
both_seen (suc n) l low high = elim (Rattle.std.proofs.lemmas.Bool.cases_eq l.variable (suc n)) [
  | inl e ↦ inr (one_of_both n l e)
  | inr n_e ↦ elim (both_seen n l low (omega arith)) [
    | inl k ↦ absurd (true≢false (sym k))
    | inr k ↦ inr (has_left (both_of_each n ++ positive_of (suc n) ∷ []) (negative_of (suc n) ∷ []) l (has_left (both_of_each n) (positive_of (suc n) ∷ []) l k))
  ]
]

-- ---- what is decided

decides_all : (n : ℕ) (known : List Literal) → decides n known ≡ true → Decides n known
decides_all zero known h x low high = absurd (omega arith)
decides_all (suc n) known h x low high =
    let p = and_parts (decides n known) (has_literal known (positive_of (suc n)) || has_literal known (negative_of (suc n))) h in
    elim (Rattle.std.proofs.lemmas.Bool.cases_eq x (suc n)) [
      | inl e ↦ subst (λ y. (has_literal known (positive_of y) || has_literal known (negative_of y)) ≡ true) (sym e) p.1
      | inr n_e ↦ decides_all n known p.0 x low (omega arith)
    ]

all_decides : (n : ℕ) (known : List Literal) → Decides n known → decides n known ≡ true
all_decides zero known h = refl
all_decides (suc n) known h = and_from _ _ (all_decides n known (λ x low high. h x low (omega arith))) (h (suc n) (omega arith) (omega arith))

and_none : (a b : Bool) → b ≡ false → (a && b) ≡ false
and_none true b e = e
and_none false b e = refl

pub not_decided : (n k : ℕ) (known : List Literal) → k < n → has_literal known (positive_of (k + 1)) ≡ false → has_literal known (negative_of (k + 1)) ≡ false → decides n known ≡ false
not_decided zero k known less p q = absurd (omega arith)
not_decided (suc n) k known less p q = elim (Rattle.std.proofs.lemmas.Bool.cases_eq k n) [
  | inl e ↦
      let next : k + 1 ≡ suc n = omega (arith, e) in
      and_none (decides n known) (has_literal known (positive_of (suc n)) || has_literal known (negative_of (suc n)))
      ((λ i. has_literal known (positive_of (sym next i)) || has_literal known (negative_of (sym next i))) ∙ (λ i. p i || q i))
  | inr differs ↦ ap (λ b. b && (has_literal known (positive_of (suc n)) || has_literal known (negative_of (suc n)))) (not_decided n k known (omega arith) p q)
]

decided_more : (formula : Problem) (ps : List (List Literal)) (known u : List Literal) → is_inside known u ≡ true → IsDecidedBy formula ps known → IsDecidedBy formula ps u
decided_more formula ps known u inside (inl (clause, c, f)) = inl (clause, c, all_by (λ l. has_literal u (negate l)) clause (λ m k. has_by_inside known u (negate m) inside (by_all (λ l. has_literal known (negate l)) clause m f k)))
decided_more formula ps known u inside (inr (inl n)) = inr (inl (λ (v, s). n (v, solves_inside ps known u v inside s)))
decided_more formula ps known u inside (inr (inr d)) = inr (inr (λ x low high. elim (or_cases (has_literal known (positive_of x)) (has_literal known (negative_of x)) (d x low high)) [
  | inl k ↦ or_left (has_literal u (positive_of x)) (has_literal u (negative_of x)) (has_by_inside known u (positive_of x) inside k)
  | inr k ↦ or_right (has_literal u (positive_of x)) (has_literal u (negative_of x)) (has_by_inside known u (negative_of x) inside k)
]))

module _ (formula : Problem) (ps : List (List Literal)) (wps : AllByRecursion (AreWithin formula.variables) ps) (known : List Literal) (wknown : AreWithin formula.variables known) where
  decided : is_decided formula ps known ≡ true → IsDecidedBy formula ps known
  decided h = elim (or_cases (list_any (is_falsified known) (clauses_of formula.constraints) || not (some_solve ps known [] formula.variables)) (decides formula.variables known) h) [
    | inl k ↦ elim (or_cases (list_any (is_falsified known) (clauses_of formula.constraints)) (not (some_solve ps known [] formula.variables)) k) [
      | inl f ↦ inl (found (is_falsified known) (clauses_of formula.constraints) f)
      | inr n ↦ inr (inl (λ c. true≢false (sym (solved formula.variables ps known wps wknown c) ∙ not-true (some_solve ps known [] formula.variables) n)))
    ]
    | inr d ↦ inr (inr (decides_all formula.variables known d))
  ]

  undecided : is_decided formula ps known ≡ false → ¬ IsDecidedBy formula ps known
  undecided h d =
      let p = or_parts (list_any (is_falsified known) (clauses_of formula.constraints) || not (some_solve ps known [] formula.variables)) (decides formula.variables known) h in
      let q = or_parts (list_any (is_falsified known) (clauses_of formula.constraints)) (not (some_solve ps known [] formula.variables)) p.0 in
      go q.0 (turned (some_solve ps known [] formula.variables) q.1) p.1 d
    where
      turned : (b : Bool) → not b ≡ false → b ≡ true
      turned true e = refl
      turned false e = absurd (true≢false e)

      go : list_any (is_falsified known) (clauses_of formula.constraints) ≡ false → some_solve ps known [] formula.variables ≡ true → decides formula.variables known ≡ false → IsDecidedBy formula ps known → ⊥
      go a b c (inl (clause, there, f)) = true≢false (sym (finds (is_falsified known) (clauses_of formula.constraints) clause there f) ∙ a)
      go a b c (inr (inl n)) = n (solved_by ps known [] formula.variables b)
      go a b c (inr (inr e)) = true≢false (sym (all_decides formula.variables known e) ∙ c)

  -- the answer, by what is decided
  pub settled_by : (b : Bool) → IsLeast formula ps known → b ≡ is_decided formula ps known → MatchBool b (SettledBy formula ps) (¬ SettledBy formula ps)
  settled_by true least e = λ u closed. elim (least.least u closed) [ inl d ↦ d | inr inside ↦ decided_more formula ps known u inside (decided (sym e)) ]
  settled_by false least e = λ s. undecided (sym e) (s known least.closed)

-- ---- the loop

-- what is known so far is in each closed set that is not decided, and what is not known waits
pub record Stands (formula : Problem) (ps : List (List Literal)) (known waiting : List Literal) : Type 0 where
  pub reaches : Reaches formula ps known
  pub within : AreWithin formula.variables known
  pub waits : AllInside formula.variables waiting
  pub seen : AreSeen formula.variables known waiting

pub stands_first : (formula : Problem) (ps : List (List Literal)) (known waiting : List Literal) (n : ℕ) → known ≡ [] → waiting ≡ both_of_each n → n ≡ formula.variables → Stands formula ps known waiting
stands_first formula ps known waiting n e f g =
    subst (λ xs. Stands formula ps xs waiting) (sym e) (subst (λ xs. Stands formula ps [] xs) (sym (f ∙ ap both_of_each g)) (record {
      reaches = λ u closed. inr refl;
      within = tt;
      waits = both_wait formula.variables;
      seen = both_seen formula.variables;
    }))

pub stands_on : (formula : Problem) (ps : List (List Literal)) (known waiting new left : List Literal) (lit : Literal) → AllByRecursion (AreWithin formula.variables) ps → IsNext formula ps known waiting lit → new ≡ known ++ lit ∷ [] → left ≡ others waiting lit
    → Stands formula ps known waiting → Stands formula ps new left
stands_on formula ps known waiting new left lit wps next e f s =
    let inside = s.waits lit next.waits in
    subst (λ xs. Stands formula ps xs left) (sym e) (subst (λ xs. Stands formula ps (known ++ lit ∷ []) xs) (sym f) (record {
      reaches = reaches_on formula ps wps known lit s.within inside next.comes s.reaches;
      within = within_on formula.variables known lit s.within inside;
      waits = waits_on formula.variables waiting lit s.waits;
      seen = seen_on formula.variables known waiting lit s.seen;
    }))

pub stands_last : (formula : Problem) (ps : List (List Literal)) (known waiting : List Literal) → AllByRecursion (AreWithin formula.variables) ps → IsWithinVariables formula.variables formula.constraints
    → list_any (follows formula ps known) waiting ≡ false → Stands formula ps known waiting → IsLeast formula ps known
stands_last formula ps known waiting wps w none s = record { closed = closed_now formula ps wps known waiting w s.seen none; least = s.reaches }

-- what the look for the next literal says of the lists that it was lent
abbrev Looked : Problem → List (List Literal) → List Literal → List Literal → Option Literal → Type 0
Looked formula ps known waiting o = MatchOption o (list_any (follows formula ps known) waiting ≡ false) (IsNext formula ps known waiting)

pub next_of : (formula : Problem) (ps : List (List Literal)) (k known w waiting : List Literal) (o : Option Literal) (l : Literal) → k ≡ known → w ≡ waiting → o ≡ Some l → Looked formula ps k w o → IsNext formula ps known waiting l
next_of formula ps k known w waiting o l e f g h =
    subst (λ xs. IsNext formula ps xs waiting l) e (subst (λ xs. IsNext formula ps k xs l) f (subst (λ p. Looked formula ps k w p) g h))

pub none_of : (formula : Problem) (ps : List (List Literal)) (k known w waiting : List Literal) (o : Option Literal) → k ≡ known → w ≡ waiting → o ≡ None → Looked formula ps k w o → list_any (follows formula ps known) waiting ≡ false
none_of formula ps k known w waiting o e f g h =
    subst (λ xs. list_any (follows formula ps xs) waiting ≡ false) e (subst (λ xs. list_any (follows formula ps k) xs ≡ false) f (subst (λ p. Looked formula ps k w p) g h))
