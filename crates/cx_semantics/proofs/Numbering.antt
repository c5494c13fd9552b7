-- One list more under the next number.
use Rattle.std.proofs.Common.{◌≡◌, ◌≢◌, refl, sym, ap, ◌∙◌, ℕ, suc, ◌+◌, Bool, true, false, cond, nat_eq, List, [], ◌∷◌, ◌++◌, length, Option, Some, None, arith, eqb-true}
use Rattle.std.proofs.lemmas.Bool.{ne_eqb}
use Rattle.std.specs.Cmp.{nat_cmp_total, unsigned_tied}
use Rattle.std.specs.FinMap as map_
use Rattle.cx_base.specs.Literals.{Literal}
use Rattle.cx_semantics.specs.Tables.{Table, numbered_from}
use Rattle.cx_semantics.proofs.Lookups.{lookup, Looks-numbered_from}

abbrev put : Bool → List Literal → Option (List Literal) → Option (List Literal)
put b lits rest = cond b (Some lits) rest

-- two numbers that differ: only one of the two tests can be true
apart : (k n m : ℕ) (x l : List Literal) (rest : Option (List Literal)) → n ≢ m → put (nat_eq k n) x (put (nat_eq k m) l rest) ≡ put (nat_eq k m) l (put (nat_eq k n) x rest)
apart k n m x l rest d = go (nat_eq k n) refl
  where
    go : (b : Bool) → nat_eq k n ≡ b → put b x (put (nat_eq k m) l rest) ≡ put (nat_eq k m) l (put b x rest)
    go false e = refl
    go true e =
        let same : k ≡ n = eqb-true k n e in
        let other : nat_eq k m ≡ false = ne_eqb k m (λ q. d (sym same ∙ q)) in
        sym (ap (λ b. put b l (Some x)) other)

pub lookup-push : (n : ℕ) (lists : List (List Literal)) (l : List Literal) (k : ℕ) → lookup n (lists ++ l ∷ []) k ≡ put (nat_eq k (n + length lists)) l (lookup n lists k)
lookup-push n [] l k = let e : n ≡ n + 0 = omega arith in ap (λ m. put (nat_eq k m) l None) e
lookup-push n (x ∷ lists) l k =
    let e : suc n + length lists ≡ n + suc (length lists) = omega arith in
    let d : n ≢ suc n + length lists = omega arith in
    ap (put (nat_eq k n) x) (lookup-push (suc n) lists l k)
    ∙ apart k n (suc n + length lists) x l (lookup (suc n) lists k) d
    ∙ ap (λ m. put (nat_eq k m) l (put (nat_eq k n) x (lookup (suc n) lists k))) e

pub numbered_from-push : (n : ℕ) (lists : List (List Literal)) (l : List Literal) → ◌≡◌ {A = Table} (numbered_from n (lists ++ l ∷ [])) (map_.insert (numbered_from n lists) (n + length lists) l)
numbered_from-push n lists l = map_.same_map nat_cmp_total map_.nat_cmp-IsAntisymmetric _ _ (λ k.
    Looks-numbered_from n (lists ++ l ∷ []) k
    ∙ lookup-push n lists l k
    ∙ (λ i. cond (sym (unsigned_tied k (n + length lists)) i) (Some l) (sym (Looks-numbered_from n lists k) i))
    ∙ sym (map_.get-insert nat_cmp_total (numbered_from n lists) (n + length lists) l k))
