-- Values that agree with a trail.
use Rattle.std.proofs.Common.{◌≡◌, ℕ, ◌+◌, ◌-◌, ◌<◌, ◌≤◌, zero, suc, Bool, true, false, not, ◌||◌, List, [], ◌∷◌, map, length, get_or, refl, sym, ap, ◌∙◌, arith, true≢false}
use Rattle.std.specs.List.{list_any, range_with_len}
use Rattle.std.proofs.lemmas.List.FromFn.{get_or-map-range_with_len}
use Rattle.std.proofs.lemmas.Bool.{not-true, or_right}
use Rattle.cx_base.specs.Literals.{Literal, negate, same_literal, value_of, literal_true, positive_of}
use Rattle.cx_base.proofs.ParityLaws.{to_differ}
use Rattle.cx_base.proofs.LiteralLaws.{are_one, same_literal-itself}
use Rattle.cx_semantics.proofs.ChainLaws.{literal_true-negate}
use Rattle.cx_trail.specs.declared.entry.Entry.{Entry}
use Rattle.cx_trail.specs.Sequence.{TrailState, IsTrail, IsTrueIn, IsFalseIn, entry_at, no_entry}
use Rattle.xor_reason.specs.ReasonClause.{AgreesWithTrail}

-- ---- some element, and its place
any_at : {X : Type 0} (p : X → Bool) (xs : List X) (i : ℕ) (d : X) → i < length xs → p (get_or xs i d) ≡ true → list_any p xs ≡ true
any_at p [] i d lt h = absurd (omega arith)
any_at p (x ∷ xs) zero d lt h = ap (λ b. b || list_any p xs) h
any_at p (x ∷ xs) (suc i) d lt h = or_right (p x) (list_any p xs) (any_at p xs i d (omega arith) h)

place_of_any : {X : Type 0} (p : X → Bool) (xs : List X) (d : X) → list_any p xs ≡ true → (i : ℕ) × (i < length xs) × (p (get_or xs i d) ≡ true)
place_of_any p [] d h = absurd (true≢false (sym h))
place_of_any p (x ∷ xs) d h = pick (p x) refl (place_of_any p xs d) h
  where
    pick : (b : Bool) → p x ≡ b → (list_any p xs ≡ true → (i : ℕ) × (i < length xs) × (p (get_or xs i d) ≡ true))
        → (b || list_any p xs) ≡ true → (i : ℕ) × (i < length (x ∷ xs)) × (p (get_or (x ∷ xs) i d) ≡ true)
    pick true e behind g = (0, omega arith, e)
    pick false e behind g = let r = behind g in (suc r.0, (let lt = r.1 in omega arith), r.2)

-- ---- the values

-- the positive literal is on the trail
abbrev value_on : List Entry → ℕ → Bool
value_on entries v = list_any (λ (e : Entry). same_literal (positive_of v) e.literal) entries

abbrev pub trail_values : TrailState → List Bool
trail_values trail = map (λ x. value_on trail.entries (x + 1)) (range_with_len 0 trail.variables)

value_of-trail : (trail : TrailState) (v : ℕ) → 1 ≤ v → v ≤ trail.variables → value_of (trail_values trail) v ≡ value_on trail.entries v
value_of-trail trail v low high =
    let back : v - 1 + 1 ≡ v = omega arith in
    get_or-map-range_with_len (λ x. value_on trail.entries (x + 1)) 0 trail.variables (v - 1) (v - 1) false (omega arith) (omega arith) ∙ ap (value_on trail.entries) back

signed : (l : Literal) (b : Bool) → l.negative ≡ b → l ≡ record { variable = l.variable; negative = b }
signed l b e = λ i. record { variable = l.variable; negative = e i }

-- a literal that is on the trail gives its variable its sign
value_on-standing : (trail : TrailState) → IsTrail trail → (l : Literal) → IsTrueIn trail.entries l → value_on trail.entries l.variable ≡ not l.negative
value_on-standing trail sound l stands = by_sign l.negative refl (value_on trail.entries l.variable) refl
  where
    by_sign : (n : Bool) → l.negative ≡ n → (b : Bool) → value_on trail.entries l.variable ≡ b → b ≡ not n
    by_sign false is b at =
        let same : same_literal (positive_of l.variable) (entry_at trail.entries stands.0).literal ≡ true =
        ap (same_literal (positive_of l.variable)) (stands.1.1 ∙ signed l false is) ∙ same_literal-itself (positive_of l.variable) in
        sym at ∙ any_at (λ (e : Entry). same_literal (positive_of l.variable) e.literal) trail.entries stands.0 _ stands.1.0 same
    by_sign true is false at = refl
    by_sign true is true at =
        let r = place_of_any (λ (e : Entry). same_literal (positive_of l.variable) e.literal) trail.entries no_entry at in
        let other : positive_of l.variable ≡ (entry_at trail.entries r.0).literal = are_one (positive_of l.variable) (entry_at trail.entries r.0).literal r.2 in
        let apart : (entry_at trail.entries stands.0).literal.variable ≡ (entry_at trail.entries r.0).literal.variable =
        ap (λ (x : Literal). x.variable) stands.1.1 ∙ ap (λ (x : Literal). x.variable) other in
        let place : stands.0 ≡ r.0 = sound.distinct stands.0 r.0 stands.1.0 r.1 apart in
        let clash : true ≡ false =
        sym is ∙ ap (λ (x : Literal). x.negative) (sym stands.1.1) ∙ ap (λ i. (entry_at trail.entries i).literal.negative) place ∙ ap (λ (x : Literal). x.negative) (sym other) in
        absurd (true≢false clash)

pub trail_values_agree : (trail : TrailState) → IsTrail trail → AgreesWithTrail trail (trail_values trail)
trail_values_agree trail sound l stands =
    let variable : (entry_at trail.entries stands.0).literal.variable ≡ l.variable = ap (λ (x : Literal). x.variable) stands.1.1 in
    let low : 1 ≤ l.variable = let h = sound.low stands.0 stands.1.0 in omega arith in
    let high : l.variable ≤ trail.variables = let h = sound.high stands.0 stands.1.0 in omega arith in
    to_differ l.negative (value_of (trail_values trail) l.variable) (value_of-trail trail l.variable low high ∙ value_on-standing trail sound l stands)

-- a literal that is false on the trail is false under values that agree with it
pub false_under : (trail : TrailState) (v : List Bool) (m : Literal) → AgreesWithTrail trail v → IsFalseIn trail.entries m → literal_true v m ≡ false
false_under trail v m agrees is = not-true (literal_true v m) (sym (literal_true-negate v m) ∙ agrees (negate m) is)
