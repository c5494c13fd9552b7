-- The order in which clauses go is that of the keys by which they are sorted.
use Rattle.std.proofs.Common.{◌≡◌, Bool, true, false, cond, ◌&&◌, ◌||◌, nat_lt, nat_eq, nat_cmp, is_lt, refl}
use Rattle.std.specs.Ordering.{ordering_then}
use Rattle.std.specs.declared.cmp.Ordering.TheVariants.{Less, Equal, Greater}
use Rattle.search_policy.specs.declared.removal.Card.{Card}
use Rattle.search_policy.specs.Removal.{goes_before}

by_tests : (a b e f : Bool) → (a || (b && e)) ≡ is_lt (ordering_then (cond a Less (cond b Equal Greater)) (cond e Less (cond f Equal Greater)))
by_tests true b e f = refl
by_tests false true true f = refl
by_tests false true false true = refl
by_tests false true false false = refl
by_tests false false e f = refl

pub goes_by_keys : (c d : Card) → goes_before c d ≡ is_lt (ordering_then (nat_cmp d.lbd c.lbd) (nat_cmp c.id d.id))
goes_by_keys c d = by_tests (nat_lt d.lbd c.lbd) (nat_eq d.lbd c.lbd) (nat_lt c.id d.id) (nat_eq c.id d.id)
