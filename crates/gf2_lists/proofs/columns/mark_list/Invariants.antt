use Rattle.std.proofs.Common.{◌≡◌, ◌-◌, ◌<◌, ℕ, length, true, false, get_or}
use Rattle.gf2_lists.proofs.columns.mark_list.Given as goal

abbrev pub invariant-loop-var : goal.invariant-loop-var
invariant-loop-var l =
    (length l.marks ≡ length l.fn.marks)
    × ((x : ℕ) → get_or l.fn.marks x false ≡ true → get_or l.marks x false ≡ true)
    × ((i : ℕ) → i < l.var-index → get_or l.marks (get_or l.vars i 0 - 1) false ≡ true)
