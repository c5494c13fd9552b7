-- The hints of unit clauses beside a clause that is not told: a right chain without that clause.
use Rattle.std.proofs.Common.{◌≡◌, refl, sym, ap, ◌∙◌, subst, ℕ, ℤ, pos, Bool, true, false, not, nat_eq, ◌||◌, List, [], ◌∷◌, map, ◌⊎◌, inl, inr, true≢false}
use Rattle.std.specs.Prelude.{is_some, ⊤}
use Rattle.std.specs.List.{list_all, cons_option}
use Rattle.std.proofs.lemmas.Bool.{and_parts, and_from}
use Rattle.std.proofs.Math.Bool.{and-false}
use Rattle.cx_base.specs.Literals.{Literal, negate, same_literal}
use Rattle.cx_base.proofs.LiteralLaws.{negate-negate, are_one}
use Rattle.cx_semantics.specs.Chain.{has_literal, is_inside, left, Left, none, one, more, count_left, go_on, right, not_unit, hints_end, ChainEnd, chain}
use Rattle.cx_semantics.specs.LogRules.{AreLive}
use Rattle.cx_semantics.specs.Tables.{Table, named}
use Rattle.cx_semantics.proofs.Closure.{has_by_inside, left_under, none_left, all_are, one_in, left_open, left_has}
use Rattle.cx_semantics.proofs.Members.{has_at_head, has_behind, has_split, all_by}
use Rattle.cx_semantics.proofs.SameSets.{AllSame, HaveSame-by_test, chain_same}
use Rattle.conflict_learn.proofs.ChainOfResolutions.{by_cases, goes}
use Rattle.search_steps.specs.Hints.{AreHintsFor, IsNamedBy}

-- the second list is the first one without some clauses that equal c
abbrev pub AreBeside : List Literal → List (List Literal) → List (List Literal) → Type 0
AreBeside c [] [] = ⊤
AreBeside c [] (e ∷ es) = ⊥
AreBeside c (d ∷ ds) [] = (d ≡ c) × AreBeside c ds []
AreBeside c (d ∷ ds) (e ∷ es) = ((d ≡ c) × AreBeside c ds (e ∷ es)) ⊎ ((d ≡ e) × AreBeside c ds es)

-- ---- a clause under more assumed literals
all_has : (p : Literal → Bool) (lits : List Literal) (m : Literal) → list_all p lits ≡ true → has_literal lits m ≡ true → p m ≡ true
all_has p [] m a h = absurd (true≢false (sym h))
all_has p (l ∷ lits) m a h = let q = and_parts (p l) (list_all p lits) a in elim (has_split l lits m h) [
  | inl e ↦ ap p e ∙ q.0
  | inr g ↦ all_has p lits m q.1 g
]

none_goes : (lits : List Literal) (next : Literal → ChainEnd) → list_all (λ l. false) lits ≡ true → go_on (count_left lits) next ≡ right
none_goes [] next h = refl
none_goes (l ∷ lits) next h = absurd (true≢false (sym h))

-- a clause of whose literals only those that equal l are left, which is false
false_goes : (assumed clause : List Literal) (l : Literal) (next : Literal → ChainEnd) → has_literal assumed (negate l) ≡ true → list_all (same_literal l) (left assumed clause) ≡ true → go_on (count_left (left assumed clause)) next ≡ right
false_goes assumed clause l next minus same = go (count_left (left assumed clause)) refl (goes (left assumed clause) l (λ x. right) same refl)
  where
    go : (c : Left) → count_left (left assumed clause) ≡ c → go_on c (λ x. right) ≡ right → go_on c next ≡ right
    go none f g = refl
    go (one x) f g =
        let there = one_in (left assumed clause) x f in
        let it : l ≡ x = are_one l x (all_has (same_literal l) (left assumed clause) x same there) in
        absurd (true≢false (sym (ap (λ y. has_literal assumed (negate y)) (sym it) ∙ minus) ∙ left_open assumed clause x there))
    go more f g = g

signs : (m : Literal) → same_literal m (negate m) ≡ false
signs m = go m.negative
  where
    go : (b : Bool) → same_literal (record { variable = m.variable; negative = b }) (record { variable = m.variable; negative = not b }) ≡ false
    go true = and-false (nat_eq m.variable m.variable)
    go false = and-false (nat_eq m.variable m.variable)

-- ---- the chain is right without the clause, under the negation of m, which is in the clause
module _ (m : Literal) (c : List Literal) (has : has_literal c (negate m) ≡ true) where
  inside_then : (l : Literal) (a b : List Literal) → is_inside a b ≡ true → is_inside (l ∷ a) (l ∷ b) ≡ true
  inside_then l a b inside = and_from _ _ (has_at_head l b) (all_by (has_literal (l ∷ b)) a (λ x k. has_behind l b x (has_by_inside a b x inside k)))

  -- the clause itself leaves the negation of m alone
  skipped : (a b d : List Literal) (ds es : List (List Literal)) → d ≡ c → is_inside a b ≡ true → has_literal b (negate m) ≡ true → has_literal a m ≡ false
      → ((l : Literal) → is_inside (l ∷ a) b ≡ true → has_literal (l ∷ a) m ≡ false → chain (l ∷ a) ds ≡ right → chain b es ≡ right)
      → chain a (d ∷ ds) ≡ right → chain b es ≡ right
  skipped a b d ds es is inside minus plus then e = go (count_left (left a d)) refl e
    where
      there : has_literal (left a d) (negate m) ≡ true
      there = left_has a d (negate m) (ap (λ ls. has_literal ls (negate m)) is ∙ has) (ap (has_literal a) (negate-negate m) ∙ plus)

      go : (w : Left) → count_left (left a d) ≡ w → go_on w (λ l. chain (l ∷ a) ds) ≡ right → chain b es ≡ right
      go none f g = absurd (true≢false (sym there ∙ ap (λ xs. has_literal xs (negate m)) (none_left (left a d) f)))
      go (one l) f g =
          let it : l ≡ negate m = are_one l (negate m) (all_has (same_literal l) (left a d) (negate m) (all_are (left a d) l f) there) in
          then l (and_from _ _ (ap (has_literal b) it ∙ minus) inside) (ap (λ x. same_literal m x || has_literal a m) it ∙ ap (λ w. w || has_literal a m) (signs m) ∙ plus) g
      go more f g = let q : not_unit ≡ right = g in cc

  kept : (a b d : List Literal) (ds es : List (List Literal)) → is_inside a b ≡ true → has_literal b (negate m) ≡ true → has_literal a m ≡ false
      → ((l : Literal) → is_inside (l ∷ a) (l ∷ b) ≡ true → has_literal (l ∷ b) (negate m) ≡ true → has_literal (l ∷ a) m ≡ false → chain (l ∷ a) ds ≡ right → chain (l ∷ b) es ≡ right)
      → chain a (d ∷ ds) ≡ right → chain b (d ∷ es) ≡ right
  kept a b d ds es inside minus plus then e = go (count_left (left a d)) refl e
    where
      rest : (l : Literal) → count_left (left a d) ≡ one l → chain (l ∷ a) ds ≡ right → go_on (count_left (left b d)) (λ x. chain (x ∷ b) es) ≡ right
      rest l f g =
          let same = left_under (same_literal l) a b d inside (all_are (left a d) l f) in
          by_cases (same_literal m l)
          (λ s. false_goes b d l (λ x. chain (x ∷ b) es) (ap (λ x. has_literal b (negate x)) (sym (are_one m l s)) ∙ minus) same)
          (λ s. goes (left b d) l (λ x. chain (x ∷ b) es) same (then l (inside_then l a b inside) (has_behind l b (negate m) minus) (ap (λ x. x || has_literal a m) s ∙ plus) g))

      go : (w : Left) → count_left (left a d) ≡ w → go_on w (λ l. chain (l ∷ a) ds) ≡ right → go_on (count_left (left b d)) (λ x. chain (x ∷ b) es) ≡ right
      go none f g = none_goes (left b d) (λ x. chain (x ∷ b) es) (left_under (λ l. false) a b d inside (ap (list_all (λ l. false)) (none_left (left a d) f)))
      go (one l) f g = rest l f g
      go more f g = let q : not_unit ≡ right = g in cc

  beside_goes : (ds es : List (List Literal)) → AreBeside c ds es → (a b : List Literal) → is_inside a b ≡ true → has_literal b (negate m) ≡ true → has_literal a m ≡ false → chain a ds ≡ right → chain b es ≡ right
  beside_goes [] es w a b inside minus plus e = let q : hints_end ≡ right = e in cc
  beside_goes (d ∷ ds) [] w a b inside minus plus e = skipped a b d ds [] w.0 inside minus plus (λ l i p g. beside_goes ds [] w.1 (l ∷ a) b i minus p g) e
  beside_goes (d ∷ ds) (x ∷ es) (inl w) a b inside minus plus e = skipped a b d ds (x ∷ es) w.0 inside minus plus (λ l i p g. beside_goes ds (x ∷ es) w.1 (l ∷ a) b i minus p g) e
  beside_goes (d ∷ ds) (x ∷ es) (inr w) a b inside minus plus e =
      subst (λ y. chain b (y ∷ es) ≡ right) w.0 (kept a b d ds es inside minus plus (λ l i n p g. beside_goes ds es w.1 (l ∷ a) (l ∷ b) i n p g) e)

-- ---- clauses that are live under these ids, and others that equal c
pub record AreNamedBeside (table : Table) (c : List Literal) (clauses : List (List Literal)) (ids : List ℕ) : Type 0 where
  pub chosen : List (List Literal)
  pub same : AllSame clauses chosen
  pub beside : AreBeside c chosen (named table ids)
  pub live : AreLive table ids

module _ (table : Table) (c : List Literal) where
  skip : (d : List Literal) (ds es : List (List Literal)) → d ≡ c → AreBeside c ds es → AreBeside c (d ∷ ds) es
  skip d ds [] is w = (is, w)
  skip d ds (e ∷ es) is w = inl (is, w)

  pub nothing_named : AreNamedBeside table c [] []
  nothing_named = record { chosen = []; same = tt; beside = tt; live = tt }

  pub named_then_beside : (d : List Literal) (n : ℕ) (clauses : List (List Literal)) (ids : List ℕ) → IsNamedBy table d n → AreNamedBeside table c clauses ids → AreNamedBeside table c (d ∷ clauses) (n ∷ ids)
  named_then_beside d n clauses ids by r = record {
    chosen = by.clause ∷ r.chosen;
    same = (HaveSame-by_test d by.clause by.same, r.same);
    beside = subst (AreBeside c (by.clause ∷ r.chosen)) (sym (ap (λ o. cons_option o (named table ids)) by.live)) (inr (refl, r.beside));
    live = (ap is_some by.live, r.live);
  }

  pub untold_then_beside : (d : List Literal) (clauses : List (List Literal)) (ids : List ℕ) → d ≡ c → AreNamedBeside table c clauses ids → AreNamedBeside table c (d ∷ clauses) ids
  untold_then_beside d clauses ids is r = record { chosen = d ∷ r.chosen; same = ((λ l. refl), r.same); beside = skip d r.chosen (named table ids) is r.beside; live = r.live }

  -- such ids are right hints for the unit clause of each negation of a literal of c
  pub beside_is_hinted : (clauses : List (List Literal)) (ids : List ℕ) (hints : List ℤ) → AreNamedBeside table c clauses ids → ((assumed : List Literal) → chain assumed clauses ≡ right) → hints ≡ map pos ids
      → (m : Literal) → has_literal c (negate m) ≡ true → AreHintsFor table (m ∷ []) hints
  beside_is_hinted clauses ids hints r serves are m has = record {
    ids = ids;
    are = are;
    live = r.live;
    chain = beside_goes m c has r.chosen (named table ids) r.beside [] (negate m ∷ []) refl (has_at_head (negate m) []) refl (sym (chain_same clauses r.chosen [] [] r.same (λ l. refl)) ∙ serves []);
  }
