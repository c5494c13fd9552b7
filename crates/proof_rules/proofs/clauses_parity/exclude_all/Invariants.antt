use Rattle.std.proofs.Common.{◌≡◌, ℕ, ◌<◌, ◌||◌, false, drop, length, get_or}
use Rattle.std.specs.List.{list_any}
use Rattle.proof_rules.specs.Exclusions.{HasPlaces, is_hit}
use Rattle.cx_semantics.specs.Tables.{named}
use Rattle.proof_rules.proofs.clauses_parity.exclude_all.Given as goal

abbrev pub invariant-loop-id : goal.invariant-loop-id
invariant-loop-id l = record {
  reach : HasPlaces l.variables 1 (length l.table.items);
  marked : (j : ℕ) → j < length l.table.items
      → (get_or l.table.items j false || list_any (λ clause. is_hit clause l.variables 0 1 j) (named l.live.clauses (drop l.id-index l.ids)))
      ≡ list_any (λ clause. is_hit clause l.variables 0 1 j) (named l.live.clauses l.ids);
}
