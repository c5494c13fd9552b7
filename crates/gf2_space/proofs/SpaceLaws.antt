-- Just the solutions arise from a basis, each from one set of vectors.
use Rattle.std.proofs.Common.{◌≡◌, ◌≢◌, ℕ, ◌+◌, ◌-◌, ◌<◌, ◌≤◌, zero, suc, Bool, true, false, List, [], ◌∷◌, map, length, get_or, refl, sym, ap, ◌∙◌, subst, arith, inl, inr, ◌⊎◌, true≢false}
use Rattle.std.proofs.lemmas.List.{ext_get_or, get_or_past}
use Rattle.std.proofs.lemmas.Bool.{cases_eq}
use Rattle.cx_base.specs.Literals.{Literal, differ, value_of}
use Rattle.parity_engine.specs.Written.{AreRising}
use Rattle.gf2_matrix.proofs.Pivot.{joined_read}
use Rattle.gf2_space.specs.Solutions.{Solves, IsFree}
use Rattle.gf2_space.specs.Spaces.{AffineSpace, plus, arising, vector_value, IsChoiceFor, IsSpaceOf}
use Rattle.gf2_space.proofs.Arising.{AreLong, arising_with, arising_keeps}

-- a point and vectors that keep the solutions, each with one listed variable, where no other variable is free
pub record IsBasis (vars : ℕ) (parities : List (List Literal)) (s : AffineSpace) : Type 0 where
  pub vars_are : s.vars ≡ vars
  pub parities_are : s.parities ≡ parities
  pub rising : AreRising 1 vars s.free
  pub all_free : (x : ℕ) → IsFree vars parities x → (i : ℕ) × (i < length s.free) × (get_or s.free i 0 ≡ x)
  pub point_solves : Solves vars parities s.point
  pub point_false : (i : ℕ) → i < length s.free → value_of s.point (get_or s.free i 0) ≡ false
  pub one_each : length s.vectors ≡ length s.free
  pub long : AreLong vars s.vectors
  pub keep : (j : ℕ) (w : List Bool) → j < length s.vectors → Solves vars parities w → Solves vars parities (plus (get_or s.vectors j []) w)
  pub own : (i : ℕ) → i < length s.free → vector_value s.vectors i (get_or s.free i 0) ≡ true
  pub no_other : (i j : ℕ) → i < length s.free → j < length s.free → j ≢ i → vector_value s.vectors i (get_or s.free j 0) ≡ false
  pub none_above : (i x : ℕ) → i < length s.free → get_or s.free i 0 < x → vector_value s.vectors i x ≡ false

same_or_not : (a b : Bool) → (a ≡ b) ⊎ (a ≢ b)
same_or_not true true = inl refl
same_or_not false false = inl refl
same_or_not true false = inr true≢false
same_or_not false true = inr (λ e. true≢false (sym e))

turned : (b : Bool) → b ≢ differ true b
turned true e = true≢false e
turned false e = true≢false (sym e)

module _ (vars : ℕ) (parities : List (List Literal)) where
  -- ---- two solutions that agree on the free variables are one
  module _ (v w : List Bool) (sv : Solves vars parities v) (sw : Solves vars parities w)
      (agree : (x : ℕ) → IsFree vars parities x → value_of v x ≡ value_of w x) where
    -- they agree on the last n positions
    agree_last : (n k : ℕ) → vars ≤ k + n → (y : ℕ) → k ≤ y → get_or v y false ≡ get_or w y false
    agree_last zero k le y ge =
        let a = sv.one_each in let b = sw.one_each in
        get_or_past v y false (omega arith) ∙ sym (get_or_past w y false (omega arith))
    agree_last (suc n) k le y ge =
        let above = agree_last n (suc k) (omega arith) in
        let back : suc k - 1 ≡ k = omega arith in
        let here : get_or v k false ≡ get_or w k false =
        elim (same_or_not (get_or v k false) (get_or w k false)) [
          | inl same ↦ same
          | inr other ↦
              ap (λ i. get_or v i false) (sym back)
              ∙ agree (suc k) (record {
                one = v;
                other = w;
                one_solves = sv;
                other_solves = sw;
                differ_here = λ e. other (ap (λ i. get_or v i false) (sym back) ∙ e ∙ ap (λ i. get_or w i false) back);
                agree_above = λ z lt. above (z - 1) (omega arith);
              })
              ∙ ap (λ i. get_or w i false) back
        ] in
        elim (cases_eq y k) [
          | inl e ↦ subst (λ z. get_or v z false ≡ get_or w z false) (sym e) here
          | inr ne ↦ above y (omega arith)
        ]

    pub one_solution : v ≡ w
    one_solution =
        ext_get_or false v w (sv.one_each ∙ sym sw.one_each) (λ i lt. agree_last vars 0 (omega arith) i (omega arith))

  module _ (s : AffineSpace) (b : IsBasis vars parities s) where
    long : AreLong (length s.point) s.vectors
    long j lt = b.long j lt ∙ sym b.point_solves.one_each

    -- what arises has the i-th free variable where the i-th vector was chosen
    arising_free : (chosen : List Bool) (i : ℕ) → length chosen ≡ length s.vectors → i < length s.free
        → value_of (arising s.point s.vectors chosen) (get_or s.free i 0) ≡ get_or chosen i false
    arising_free chosen i e lt =
        let count = b.one_each in
        arising_with s.point s.vectors chosen i (get_or s.free i 0 - 1) long e (omega arith) (b.own i lt)
        (λ j j_in ne. b.no_other j i (omega arith) lt (λ q. ne (sym q))) (b.point_false i lt)

    all_solve : (chosen : List Bool) → Solves vars parities (arising s.point s.vectors chosen)
    all_solve chosen = arising_keeps (Solves vars parities) s.point s.vectors chosen b.point_solves b.keep

    -- the vectors whose free variables the values have
    choice : List Bool → List Bool
    choice v = map (value_of v) s.free

    length-map : {X Y : Type 0} (f : X → Y) (xs : List X) → length (map f xs) ≡ length xs
    length-map f [] = refl
    length-map f (x ∷ xs) = ap suc (length-map f xs)

    read-map : {X : Type 0} (f : X → Bool) (d : X) (xs : List X) (i : ℕ) → i < length xs → get_or (map f xs) i false ≡ f (get_or xs i d)
    read-map f d [] i lt = absurd (omega arith)
    read-map f d (x ∷ xs) zero lt = refl
    read-map f d (x ∷ xs) (suc i) lt = read-map f d xs i (omega arith)

    length-choice : (v : List Bool) → length (choice v) ≡ length s.vectors
    unfolding choice
    length-choice v = length-map (value_of v) s.free ∙ sym b.one_each

    arises : (v : List Bool) → Solves vars parities v → arising s.point s.vectors (choice v) ≡ v
    unfolding choice
    arises v sv =
        one_solution (arising s.point s.vectors (choice v)) v (all_solve (choice v)) sv
        (λ x free.
        let at = b.all_free x free in
        subst (λ y. value_of (arising s.point s.vectors (choice v)) y ≡ value_of v y) at.2
        (arising_free (choice v) at.0 (length-choice v) at.1 ∙ read-map (value_of v) 0 s.free at.0 at.1))

    once : (v chosen : List Bool) → IsChoiceFor s v chosen → chosen ≡ choice v
    unfolding choice
    once v chosen is =
        let count = b.one_each in let size = is.0 in
        ext_get_or false chosen (choice v) (is.0 ∙ sym (length-choice v))
        (λ i lt.
        let i_in : i < length s.free = omega arith in
        sym (arising_free chosen i is.0 i_in) ∙ ap (λ w. value_of w (get_or s.free i 0)) is.1 ∙ sym (read-map (value_of v) 0 s.free i i_in))

    -- the point and the point with the vector added differ in the vector's variable, and agree above
    are_free : (i : ℕ) → i < length s.free → IsFree vars parities (get_or s.free i 0)
    are_free i lt =
        let count = b.one_each in
        let in' : i < length s.vectors = omega arith in
        let vector : List Bool = get_or s.vectors i [] in
        let same : length vector ≡ length s.point = long i in' in
        record {
          one = s.point;
          other = plus vector s.point;
          one_solves = b.point_solves;
          other_solves = b.keep i s.point in' b.point_solves;
          differ_here = λ e.
              turned (value_of s.point (get_or s.free i 0))
              (e ∙ joined_read vector s.point (get_or s.free i 0 - 1) same ∙ ap (λ c. differ c (value_of s.point (get_or s.free i 0))) (b.own i lt));
          agree_above = λ y above.
              sym (joined_read vector s.point (y - 1) same ∙ ap (λ c. differ c (value_of s.point y)) (b.none_above i y lt above));
        }

    pub space_of_basis : IsSpaceOf vars parities s
    space_of_basis = record {
      vars_are = b.vars_are;
      parities_are = b.parities_are;
      rising = b.rising;
      are_free = are_free;
      all_free = b.all_free;
      point_solves = b.point_solves;
      point_false = b.point_false;
      one_each = b.one_each;
      own = b.own;
      no_other = b.no_other;
      none_above = b.none_above;
      all_solve = λ chosen e. all_solve chosen;
      each_once = λ v sv. (choice v, (length-choice v, arises v sv), once v);
    }
