-- Sums over a row, of few products that are not false.
use Rattle.std.proofs.Common.{◌≡◌, ◌≢◌, ℕ, ◌<◌, zero, suc, Bool, true, false, ◌&&◌, List, [], ◌∷◌, length, get_or, refl, sym, ap, ◌∙◌, arith}
use Rattle.std.specs.Simd.Lanes.{zip2}
use Rattle.cx_base.specs.Literals.{differ}
use Rattle.cx_base.specs.Parity.{odd_sum}
use Rattle.cx_base.proofs.ParityLaws.{differ_false, differ_swap}
use Rattle.gf2_matrix.proofs.Products.{products_same}
use Rattle.gf2_space.specs.Spaces.{plus}

abbrev pub products : List Bool → List Bool → Bool
products terms v = odd_sum (zip2 ◌&&◌ terms v)

abbrev pub product : List Bool → List Bool → ℕ → Bool
product terms v x = get_or terms x false && get_or v x false

and_false : (b : Bool) → (b && false) ≡ false
and_false true = refl
and_false false = refl

pub products_none : (terms v : List Bool) → ((x : ℕ) → product terms v x ≡ false) → products terms v ≡ false
products_none [] v none = refl
products_none (t ∷ ts) [] none = refl
products_none (t ∷ ts) (b ∷ v) none =
    ap (λ c. differ c (products ts v)) (none 0) ∙ products_none ts v (λ x. none (suc x))

pub products_one : (terms v : List Bool) (p : ℕ) → ((x : ℕ) → x ≢ p → product terms v x ≡ false) → products terms v ≡ product terms v p
products_one [] v p none = refl
products_one (t ∷ ts) [] p none = sym (and_false (get_or (t ∷ ts) p false))
products_one (t ∷ ts) (b ∷ v) zero none =
    ap (differ (t && b)) (products_none ts v (λ x. none (suc x) (λ e. omega arith))) ∙ differ_false (t && b)
products_one (t ∷ ts) (b ∷ v) (suc p) none =
    ap (λ c. differ c (products ts v)) (none 0 (λ e. omega arith)) ∙ products_one ts v p (λ x ne. none (suc x) (λ e. ne (omega arith)))

differ_turn : (a b : Bool) → differ a b ≡ differ b a
differ_turn true true = refl
differ_turn true false = refl
differ_turn false true = refl
differ_turn false false = refl

pub products_two : (terms v : List Bool) (p q : ℕ) → p ≢ q → ((x : ℕ) → x ≢ p → x ≢ q → product terms v x ≡ false)
    → products terms v ≡ differ (product terms v p) (product terms v q)
products_two [] v p q ne none = refl
products_two (t ∷ ts) [] p q ne none =
    sym (λ i. differ (and_false (get_or (t ∷ ts) p false) i) (and_false (get_or (t ∷ ts) q false) i))
products_two (t ∷ ts) (b ∷ v) zero zero ne none = absurd (ne refl)
products_two (t ∷ ts) (b ∷ v) zero (suc q) ne none =
    ap (differ (t && b)) (products_one ts v q (λ x other. none (suc x) (λ e. omega arith) (λ e. other (omega arith))))
products_two (t ∷ ts) (b ∷ v) (suc p) zero ne none =
    ap (differ (t && b)) (products_one ts v p (λ x other. none (suc x) (λ e. other (omega arith)) (λ e. omega arith)))
    ∙ differ_turn (t && b) (product ts v p)
products_two (t ∷ ts) (b ∷ v) (suc p) (suc q) ne none =
    ap (λ c. differ c (products ts v)) (none 0 (λ e. omega arith) (λ e. omega arith))
    ∙ products_two ts v p q (λ e. ne (ap suc e)) (λ x a b. none (suc x) (λ e. a (omega arith)) (λ e. b (omega arith)))

and_differ : (t a b : Bool) → (t && differ a b) ≡ differ (t && a) (t && b)
and_differ true a b = refl
and_differ false a b = refl

-- a row's sum over a sum of lists
pub products_plus : (terms v w : List Bool) → length v ≡ length w → products terms (plus v w) ≡ differ (products terms v) (products terms w)
products_plus [] v w e = refl
products_plus (t ∷ ts) [] [] e = refl
products_plus (t ∷ ts) [] (b ∷ w) e = absurd (omega arith)
products_plus (t ∷ ts) (a ∷ v) [] e = absurd (omega arith)
products_plus (t ∷ ts) (a ∷ v) (b ∷ w) e =
    ap (λ c. differ c (products ts (plus v w))) (and_differ t a b)
    ∙ ap (differ (differ (t && a) (t && b))) (products_plus ts v w (omega arith))
    ∙ differ_swap (t && a) (t && b) (products ts v) (products ts w)

differ_back : (a b c : Bool) → differ a c ≡ differ b c → a ≡ b
differ_back true true c e = refl
differ_back false false c e = refl
differ_back true false true e = sym e
differ_back true false false e = e
differ_back false true true e = sym e
differ_back false true false e = e

-- equal sums of lists that agree above the least variable agree there too
pub same_least : (terms v w : List Bool) (p : ℕ) → length terms ≡ length v → length terms ≡ length w → get_or terms p false ≡ true
    → ((y : ℕ) → y < p → get_or terms y false ≡ false) → ((y : ℕ) → p < y → get_or v y false ≡ get_or w y false)
    → products terms v ≡ products terms w → get_or v p false ≡ get_or w p false
same_least [] [] [] p e f has least agree same = refl
same_least [] v (b ∷ w) p e f has least agree same = absurd (omega arith)
same_least [] (a ∷ v) w p e f has least agree same = absurd (omega arith)
same_least (t ∷ ts) [] w p e f has least agree same = absurd (omega arith)
same_least (t ∷ ts) (a ∷ v) [] p e f has least agree same = absurd (omega arith)
same_least (t ∷ ts) (a ∷ v) (b ∷ w) zero e f has least agree same =
    differ_back a b (products ts w)
    (sym (λ i. differ (has i && a) (products_same ts v w (omega arith) (omega arith) (λ x lt on. agree (suc x) (omega arith)) i))
    ∙ same ∙ ap (λ c. differ (c && b) (products ts w)) has)
same_least (t ∷ ts) (a ∷ v) (b ∷ w) (suc p) e f has least agree same =
    let off : t ≡ false = least 0 (omega arith) in
    same_least ts v w p (omega arith) (omega arith) has (λ y lt. least (suc y) (omega arith)) (λ y lt. agree (suc y) (omega arith))
    (sym (ap (λ c. differ (c && a) (products ts v)) off) ∙ same ∙ ap (λ c. differ (c && b) (products ts w)) off)
