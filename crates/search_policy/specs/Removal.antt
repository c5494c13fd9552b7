-- Which learned clauses go at a reduction.
use Rattle.std.specs.Prelude.{ℕ, ◌/◌, ◌≡◌, Bool, not, ◌&&◌, ◌||◌, List, length, map, take, nat_lt, nat_eq}
use Rattle.std.specs.List.{filter}
use Rattle.std.specs.List.Sorted.{IsPermutation, IsSortedBy}
use Rattle.search_policy.specs.declared.removal.Card.{Card}

-- a learned clause that is no reason, and whose literals had more than two levels
abbrev pub may_go : Card → Bool
may_go c = c.learned && (nat_lt 2 c.lbd && not c.is_reason)

-- c goes before d: more levels, or as many and a smaller id
abbrev pub goes_before : Card → Card → Bool
goes_before c d = nat_lt d.lbd c.lbd || (nat_eq d.lbd c.lbd && nat_lt c.id d.id)

-- of those that may go, in the order in which they go, the first half, rounded down
pub record IsRemoval (cards : List Card) (removed : List ℕ) : Type 0 where
  pub order : List Card
  pub all : IsPermutation (filter may_go cards) order
  pub sorted : IsSortedBy goes_before order
  pub half : removed ≡ map (λ c. c.reference) (take (length order / 2) order)
