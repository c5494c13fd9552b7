-- The sum of Booleans and the symmetric difference of sets: their laws as sums modulo two.
use Rattle.std.proofs.Common.{◌≡◌, refl, sym, ap, ◌∙◌, ℕ, Bool, true, false, not, ◌||◌, nat_eq, true≢false}
use Rattle.std.specs.Ordering.{nat_cmp}
use Rattle.std.specs.Cmp.{nat_cmp_total, unsigned_tied, nat_eq_equiv}
use Rattle.std.specs.FinSet as set
use Rattle.std.proofs.Math.Bool.{or-false}
use Rattle.cx_base.specs.Literals.{differ}
use Rattle.cx_base.specs.Parity.{symmetric_difference}
use Rattle.cx_base.proofs.ParityLaws.{contains-symmetric_difference, differ_false}

-- ---- Booleans

pub differ_assoc : (a b c : Bool) → differ (differ a b) c ≡ differ a (differ b c)
differ_assoc true true true = refl
differ_assoc true true false = refl
differ_assoc true false c = refl
differ_assoc false b c = refl

pub differ_turned : (a b : Bool) → differ a b ≡ differ b a
differ_turned true true = refl
differ_turned true false = refl
differ_turned false true = refl
differ_turned false false = refl

pub differ_itself : (b : Bool) → differ b b ≡ false
differ_itself true = refl
differ_itself false = refl

pub differ_move : (a b c : Bool) → differ a (differ b c) ≡ differ b (differ a c)
differ_move a b c = sym (differ_assoc a b c) ∙ ap (λ x. differ x c) (differ_turned a b) ∙ differ_assoc b a c

-- added twice, it cancels
pub differ_again : (a b : Bool) → differ a (differ a b) ≡ b
differ_again a b = sym (differ_assoc a a b) ∙ ap (λ x. differ x b) (differ_itself a)

pub differ_twice : (a b : Bool) → differ (differ a b) b ≡ a
differ_twice a b = differ_assoc a b b ∙ ap (differ a) (differ_itself b) ∙ differ_false a

-- a literal is true where its variable has the value that it asks for
pub own_sign : (b : Bool) → differ (not b) b ≡ true
own_sign true = refl
own_sign false = refl

-- two that are the same do not differ, and the other way round
pub not_differ-same : (a b : Bool) → a ≡ b → not (differ a b) ≡ true
not_differ-same true b h = ap (λ c. not (not c)) (sym h)
not_differ-same false b h = ap not (sym h)

pub same-not_differ : (a b : Bool) → not (differ a b) ≡ true → a ≡ b
same-not_differ true true h = refl
same-not_differ true false h = absurd (true≢false (sym h))
same-not_differ false true h = absurd (true≢false (sym h))
same-not_differ false false h = refl

pub same-differ : (a b : Bool) → differ a b ≡ false → a ≡ b
same-differ true true h = refl
same-differ true false h = absurd (true≢false h)
same-differ false b h = sym h

-- ---- sets

pub same_members : (s t : set.FinSet nat_cmp) → ((q : ℕ) → set.contains s q ≡ set.contains t q) → s ≡ t
same_members s t h = set.same_set nat_cmp_total set.nat_cmp-IsAntisymmetric s t h

pub contains-one : (x q : ℕ) → set.contains (set.insert (set.empty {R = nat_cmp}) x) q ≡ nat_eq x q
contains-one x q = set.contains-insert nat_cmp_total (set.empty {R = nat_cmp}) x q ∙ (λ i. (unsigned_tied q x ∙ nat_eq_equiv.symm q x) i || set.contains-empty nat_cmp q i) ∙ or-false (nat_eq x q)

pub difference_assoc : (s t u : set.FinSet nat_cmp) → symmetric_difference (symmetric_difference s t) u ≡ symmetric_difference s (symmetric_difference t u)
difference_assoc s t u = same_members _ _ (λ q.
    contains-symmetric_difference (symmetric_difference s t) u q ∙ ap (λ b. differ b (set.contains u q)) (contains-symmetric_difference s t q)
    ∙ differ_assoc (set.contains s q) (set.contains t q) (set.contains u q)
    ∙ ap (differ (set.contains s q)) (sym (contains-symmetric_difference t u q)) ∙ sym (contains-symmetric_difference s (symmetric_difference t u) q))

pub difference_nothing : (s : set.FinSet nat_cmp) → symmetric_difference s set.empty ≡ s
difference_nothing s = same_members _ _ (λ q. contains-symmetric_difference s set.empty q ∙ ap (differ (set.contains s q)) (set.contains-empty nat_cmp q) ∙ differ_false (set.contains s q))

pub nothing_difference : (s : set.FinSet nat_cmp) → symmetric_difference set.empty s ≡ s
nothing_difference s = same_members _ _ (λ q. contains-symmetric_difference set.empty s q ∙ ap (λ b. differ b (set.contains s q)) (set.contains-empty nat_cmp q))

pub difference_itself : (s : set.FinSet nat_cmp) → symmetric_difference s s ≡ set.empty
difference_itself s = same_members _ _ (λ q. contains-symmetric_difference s s q ∙ differ_itself (set.contains s q) ∙ sym (set.contains-empty nat_cmp q))

pub same-no_difference : (s t : set.FinSet nat_cmp) → symmetric_difference s t ≡ set.empty → s ≡ t
same-no_difference s t h = same_members s t (λ q. same-differ _ _ (sym (contains-symmetric_difference s t q) ∙ ap (λ u. set.contains u q) h ∙ set.contains-empty nat_cmp q))
