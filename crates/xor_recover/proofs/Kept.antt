-- The rows that are kept of all rows, sorted.
use Rattle.std.proofs.Common.{◌≡◌, sym, ap, ◌∙◌, ◌≤◌, List, [], ◌∷◌, arith, true≢false, inl, inr}
use Rattle.std.specs.List.{Contains}
use Rattle.std.specs.List.Sorted.{IsStrictlySortedBy}
use Rattle.std.specs.Ordering.{is_lt}
use Rattle.std.specs.Cmp.{tied_back}
use Rattle.std.specs.declared.cmp.Ordering.{Ordering}
use Rattle.std.specs.declared.cmp.Ordering.TheVariants.{Less, Equal}
use Rattle.xor_recover.specs.Rows.{Row, shape_cmp}
use Rattle.xor_recover.specs.Groups.{AreFirsts}
use Rattle.xor_recover.proofs.Firsts.{shape_total, contains_cases}
use Rattle.xor_recover.proofs.Keys.{Sorted, sorted_head, sorted_tail}
use Rattle.xor_recover.proofs.GroupLaws.{contained}

-- rows in order: each has the least number of its shape, and of each shape there is one
pub record AreKept (all kept : List Row) : Type 0 where
  pub sorted : IsStrictlySortedBy shape_cmp kept
  pub from : (x : Row) → Contains kept x → Contains all x
  pub least : (y x : Row) → Contains kept y → Contains all x → shape_cmp y x ≡ Equal → y.number ≤ x.number
  pub each : (x : Row) → Contains all x → (y : Row) × Contains kept y × (shape_cmp y x ≡ Equal)

strict_one : (zs : List Row) (a b : Row) → Sorted zs → Contains zs a → Contains zs b → shape_cmp a b ≡ Equal → a ≡ b
strict_one [] a b s ca cb e = absurd (let lt = ca.1 in omega arith)
strict_one (z ∷ zs) a b s ca cb e = elim (contains_cases z zs a ca) [
  | inl za ↦ elim (contains_cases z zs b cb) [
    | inl zb ↦ sym za ∙ zb
    | inr inb ↦ absurd (clash (shape_cmp z b) (contained (λ y. shape_cmp z y ≡ Less) zs b (sorted_head z zs s) inb) (ap (λ (x : Row). shape_cmp x b) za ∙ e))
  ]
  | inr ina ↦ elim (contains_cases z zs b cb) [
    | inl zb ↦ absurd (clash (shape_cmp z a) (contained (λ y. shape_cmp z y ≡ Less) zs a (sorted_head z zs s) ina) (ap (λ (x : Row). shape_cmp x a) zb ∙ tied_back shape_total a b e))
    | inr inb ↦ strict_one zs a b (sorted_tail z zs s) ina inb e
  ]
]
  where
    clash : (o : Ordering) → o ≡ Less → o ≡ Equal → ⊥
    clash o h g = true≢false (sym (ap is_lt h) ∙ ap is_lt g)

pub are_kept : (all kept : List Row) → AreFirsts all kept → AreKept all kept
are_kept all kept firsts = record {
  sorted = firsts.sorted;
  from = firsts.from;
  least = λ y x cy cx e.
      let z = firsts.each x cx in
      let same : z.0 ≡ y = strict_one kept z.0 y firsts.sorted z.1 cy (shape_total.congr z.0 x y z.2 ∙ tied_back shape_total y x e) in
      (let low = z.3 in let n = ap (λ (r : Row). r.number) same in omega (arith, low, n));
  each = λ x c. let y = firsts.each x c in (y.0, y.1, y.2);
}
