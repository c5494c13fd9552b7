-- The parts of an arena and units, in a list, and what is untidy of them.
use Rattle.std.proofs.Common.{◌≡◌, ◌≢◌, ◌⊎◌, inl, inr, ⊎_elim, refl, sym, ap, ◌∙◌, subst, ℕ, ◌+◌, ◌<◌, ◌≤◌, Bool, true, false, List, [], ◌∷◌, ◌++◌, ◌||◌, length, get_or, map, Option, None, Some, is_some, arith, true≢false}
use Rattle.std.specs.List.{All, Contains}
use Rattle.std.specs.Prelude.{◌↔◌, IsNone, IfSome, MatchOption}
use Rattle.std.proofs.lemmas.Bool.{false_from_ne_true, or_left, or_right, cases_eq}
use Rattle.std.proofs.lemmas.List.Elements.{All-contains, Contains-push, Contains-push_cases, Contains-append_left, Contains-append_right, Contains-append_cases, Contains-get_or}
use Rattle.cx_base.specs.Literals.{Literal}
use Rattle.cx_base.proofs.Elements.{in_head, in_tail}
use Rattle.cx_semantics.specs.Chain.{is_inside}
use Rattle.cx_semantics.specs.Fresh.{is_tautology}
use Rattle.clause_arena.specs.Clauses.{ArenaState, IsLive}
use Rattle.clause_arena.proofs.PackingLaws.{live_within}
use Rattle.tidy_rules.specs.declared.part.TidyPart.{TidyPart}
use Rattle.tidy_rules.specs.declared.part.TidyPart.TheVariants.{Clause, Unit as AUnit}
use Rattle.tidy_rules.specs.declared.part.Untidy.{Untidy}
use Rattle.tidy_rules.specs.declared.part.Untidy.TheVariants.{One, Two}
use Rattle.tidy_rules.specs.Relations.{strengthens, bears_on}
use Rattle.tidy_rules.specs.Parts.{lits_in, IsPart, Tidied, IsUntidy, IsStanding, ListsParts, BearsOnPart, IsTidyBeside, AreTidy, IsUntidyIn}

-- ---- what a look through the list finds
module _ (a : ArenaState) (units : List Literal) (parts : List TidyPart) (lists : ListsParts a units parts) where
  module _ (tidy : AreTidy a parts) where
    beside : (p : TidyPart) → IsPart a units p → IsTidyBeside a parts p
    beside p there = All-contains (IsTidyBeside a parts) parts p tidy ((lists p).1 there)

    no_bearing : (p q : TidyPart) → IsPart a units p → IsPart a units q → p ≢ q → bears_on (lits_in a p) (lits_in a q) ≡ true → ⊥
    no_bearing p q hp hq ne e = All-contains (λ r. BearsOnPart a r q → ⊥) parts p (beside q hq).none ((lists p).1 hp) (ne, e)

    pub tidied : Tidied a units
    tidied = record {
      no_tautology = λ p there. (beside p there).no_tautology;
      none_inside = λ p q hp hq ne. false_from_ne_true (is_inside (lits_in a p) (lits_in a q)) (λ e. no_bearing p q hp hq ne (or_left (is_inside (lits_in a p) (lits_in a q)) (strengthens (lits_in a p) (lits_in a q)) e));
      none_strengthened = λ p q hp hq ne. false_from_ne_true (strengthens (lits_in a p) (lits_in a q)) (λ e. no_bearing p q hp hq ne (or_right (is_inside (lits_in a p) (lits_in a q)) (strengthens (lits_in a p) (lits_in a q)) e));
    }

  pub untidy : (u : Untidy) → IsUntidyIn a parts u → IsUntidy a units u
  untidy (One q) (p, has, (is, e)) = (subst (IsPart a units) (sym is) ((lists p).0 has), ap (λ (x : TidyPart). is_tautology (lits_in a x)) is ∙ e)
  untidy (Two q r) (p, has, (is, has_q, (ne, e))) =
      ((lists q).0 has_q, subst (IsPart a units) (sym is) ((lists p).0 has), (λ same. ne (same ∙ is)), ap (λ (x : TidyPart). bears_on (lits_in a q) (lits_in a x)) is ∙ e)

-- nothing is untidy of tidy clauses
or_none : (x y : Bool) → x ≡ false → y ≡ false → (x || y) ≡ true → ⊥
or_none true y h k e = true≢false h
or_none false y h k e = true≢false (sym e ∙ k)

pub not_untidy : (a : ArenaState) (units : List Literal) (u : Untidy) → IsUntidy a units u → Tidied a units → ⊥
not_untidy a units (One p) h t = true≢false (sym h.1 ∙ t.no_tautology p h.0)
not_untidy a units (Two p q) h t = or_none (is_inside (lits_in a p) (lits_in a q)) (strengthens (lits_in a p) (lits_in a q)) (t.none_inside p q h.0 h.1 h.2) (t.none_strengthened p q h.0 h.1 h.2) h.3

-- the answer of the look through the list, as one of the arena and the units
module _ (a : ArenaState) (units : List Literal) (parts : List TidyPart) (lists : ListsParts a units parts) where
  pub none_exactly : (found : Option Untidy) → MatchOption found (AreTidy a parts) (IsUntidyIn a parts) → IsNone found ↔ Tidied a units
  none_exactly None h = (λ _. tidied a units parts lists h, λ _. refl)
  none_exactly (Some u) h = (λ e. cc, λ t. absurd (not_untidy a units u (untidy a units parts lists u h) t))

  pub some_is : (found : Option Untidy) → MatchOption found (AreTidy a parts) (IsUntidyIn a parts) → IfSome found (IsUntidy a units)
  some_is None h = tt
  some_is (Some u) h = untidy a units parts lists u h

-- ---- the list
-- the clauses of references below n
abbrev pub IsBelow : ℕ → ArenaState → TidyPart → Type 0
IsBelow n a (Clause r) = (r < n) × IsLive a r
IsBelow n a (AUnit l) = ⊥

abbrev pub ListsBelow : ℕ → ArenaState → List TidyPart → Type 0
ListsBelow n a parts = (p : TidyPart) → Contains parts p ↔ IsBelow n a p

none_in : {X : Type 0} (x : X) → Contains [] x → ⊥
none_in x h = omega (arith, h.1)

pub below_none : (a : ArenaState) (parts : List TidyPart) → parts ≡ [] → ListsBelow 0 a parts
below_none a parts e p = (λ h. absurd (none_in p (subst (λ (ps : List TidyPart). Contains ps p) e h)), none p)
  where
    none : (p : TidyPart) → IsBelow 0 a p → Contains parts p
    none (Clause r) h = absurd (omega (arith, h.0))
    none (AUnit l) h = absurd h

higher : (n : ℕ) (a : ArenaState) (p : TidyPart) → IsBelow n a p → IsBelow (n + 1) a p
higher n a (Clause r) h = (omega (arith, h.0), h.1)
higher n a (AUnit l) h = h

-- the next clause is live, and comes after them
pub below_more : (n : ℕ) (a : ArenaState) (r : ℕ) (parts new : List TidyPart) → r ≡ n → IsLive a r → new ≡ parts ++ Clause r ∷ [] → ListsBelow n a parts → ListsBelow (n + 1) a new
below_more n a r parts new is live e lists p = (λ h. there (subst (λ (ps : List TidyPart). Contains ps p) e h), λ h. subst (λ (ps : List TidyPart). Contains ps p) (sym e) (back p h))
  where
    there : Contains (parts ++ Clause r ∷ []) p → IsBelow (n + 1) a p
    there h = elim (Contains-push_cases parts (Clause r) p h) [
      | inl g ↦ higher n a p ((lists p).0 g)
      | inr same ↦ subst (IsBelow (n + 1) a) same (omega (arith, is), live)
    ]

    back : (p : TidyPart) → IsBelow (n + 1) a p → Contains (parts ++ Clause r ∷ []) p
    back (Clause q) h = ⊎_elim
        (λ (same : q ≡ r). subst (λ (x : TidyPart). Contains (parts ++ Clause r ∷ []) x) (ap Clause (sym same)) (Contains-push parts (Clause r)))
        (λ (ne : q ≢ r). Contains-append_left parts (Clause r ∷ []) (Clause q) ((lists (Clause q)).1 (omega (arith, h.0, is, ne), h.1))) (cases_eq q r)
    back (AUnit l) h = absurd h

-- it is not
pub below_past : (n : ℕ) (a : ArenaState) (r : ℕ) (parts : List TidyPart) → r ≡ n → (IsLive a r → ⊥) → ListsBelow n a parts → ListsBelow (n + 1) a parts
below_past n a r parts is dead lists p = (λ h. higher n a p ((lists p).0 h), back p)
  where
    back : (p : TidyPart) → IsBelow (n + 1) a p → Contains parts p
    back (Clause q) h = ⊎_elim
        (λ (same : q ≡ r). absurd (dead (subst (IsLive a) same h.1)))
        (λ (ne : q ≢ r). (lists (Clause q)).1 (omega (arith, h.0, is, ne), h.1)) (cases_eq q r)
    back (AUnit l) h = absurd h

-- all of them
pub below_all : (n : ℕ) (a : ArenaState) (parts : List TidyPart) → length a.clauses ≤ n → ListsBelow n a parts → ListsParts a [] parts
below_all n a parts all lists p = (λ h. there p ((lists p).0 h), back p)
  where
    there : (p : TidyPart) → IsBelow n a p → IsPart a [] p
    there (Clause r) h = h.1
    there (AUnit l) h = absurd h

    back : (p : TidyPart) → IsPart a [] p → Contains parts p
    back (Clause r) h = (lists (Clause r)).1 (omega (arith, live_within a r h, all), h)
    back (AUnit l) h = absurd (none_in l h)

-- ---- the units after them
only_in : {X : Type 0} (m x : X) → Contains (m ∷ []) x → x ≡ m
only_in m x (k, less, e) = let first : k ≡ 0 = omega (arith, less) in sym e ∙ ap (λ i. get_or (m ∷ []) i x) first

unit_in : (units : List Literal) (l : Literal) → Contains units l → Contains (map AUnit units) (AUnit l)
unit_in [] l h = absurd (none_in l h)
unit_in (m ∷ units) l h = elim (first m units l h) [
  | inl same ↦ subst (λ (x : Literal). Contains (map AUnit (m ∷ units)) (AUnit x)) (sym same) (in_head (AUnit m) (map AUnit units))
  | inr g ↦ in_tail (AUnit m) (map AUnit units) (AUnit l) (unit_in units l g)
]
  where
    first : (m : Literal) (units : List Literal) (l : Literal) → Contains (m ∷ units) l → (l ≡ m) ⊎ Contains units l
    first m units l h = elim (Contains-append_cases (m ∷ []) units l h) [ inl g ↦ inl (only_in m l g) | inr g ↦ inr g ]

is_unit : (units : List Literal) (p : TidyPart) → Contains (map AUnit units) p → (l : Literal) × (p ≡ AUnit l) × Contains units l
is_unit [] p h = absurd (none_in p h)
is_unit (m ∷ units) p h = elim (Contains-append_cases (AUnit m ∷ []) (map AUnit units) p h) [
  | inl g ↦ (m, only_in (AUnit m) p g, in_head m units)
  | inr g ↦ let w = is_unit units p g in (w.0, w.1, in_tail m units w.0 w.2)
]

pub with_units : (a : ArenaState) (units : List Literal) (parts new : List TidyPart) → ListsParts a [] parts → new ≡ parts ++ map AUnit units → ListsParts a units new
with_units a units parts new lists e p = (λ h. there (subst (λ (ps : List TidyPart). Contains ps p) e h), λ h. subst (λ (ps : List TidyPart). Contains ps p) (sym e) (back p h))
  where
    widen : (p : TidyPart) → IsPart a [] p → IsPart a units p
    widen (Clause r) h = h
    widen (AUnit l) h = absurd (none_in l h)

    there : Contains (parts ++ map AUnit units) p → IsPart a units p
    there h = elim (Contains-append_cases parts (map AUnit units) p h) [
      | inl g ↦ widen p ((lists p).0 g)
      | inr g ↦ let w = is_unit units p g in subst (IsPart a units) (sym w.1) w.2
    ]

    back : (p : TidyPart) → IsPart a units p → Contains (parts ++ map AUnit units) p
    back (Clause r) h = Contains-append_left parts (map AUnit units) (Clause r) ((lists (Clause r)).1 h)
    back (AUnit l) h = Contains-append_right parts (map AUnit units) (AUnit l) (unit_in units l h)

-- each of them is there
pub each_stands : (a : ArenaState) (units : List Literal) (parts : List TidyPart) → ListsParts a units parts → All (IsStanding a) parts
each_stands a units parts lists k d less = stands (get_or parts k d) ((lists (get_or parts k d)).0 (Contains-get_or parts k d less))
  where
    stands : (p : TidyPart) → IsPart a units p → IsStanding a p
    stands (Clause r) h = h
    stands (AUnit l) h = tt

-- nothing was found
pub when_none : {X : Type 0} (P : Type 0) (Q : X → Type 0) (o : Option X) → is_some o ≡ false → MatchOption o P Q → P
when_none P Q None e h = h
when_none P Q (Some x) e h = absurd (true≢false e)
