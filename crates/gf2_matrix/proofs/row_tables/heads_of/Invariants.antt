use Rattle.std.proofs.Common.{◌≡◌, ◌+◌, map, take, length}
use Rattle.gf2_matrix.specs.Packed.{window, window_at, start}
use Rattle.gf2_matrix.specs.Rows.{empty_head}
use Rattle.gf2_matrix.specs.Views.{words_for}
use Rattle.gf2_matrix.proofs.row_tables.heads_of.Given as goal

abbrev pub invariant-loop-home : goal.invariant-loop-home
invariant-loop-home l = l.heads.items ≡ map (λ p. empty_head (words_for (start (window_at (map window l.parts) p) + length (window_at (map window l.parts) p).columns)) p) (take l.home-index l.homes)
