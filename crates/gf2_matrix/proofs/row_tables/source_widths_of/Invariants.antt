use Rattle.std.proofs.Common.{◌≡◌, map, take, length}
use Rattle.gf2_matrix.specs.Packed.{window, window_at}
use Rattle.gf2_matrix.specs.Views.{words_for}
use Rattle.gf2_matrix.proofs.row_tables.source_widths_of.Given as goal

abbrev pub invariant-loop-home : goal.invariant-loop-home
invariant-loop-home l = l.widths.items ≡ map (λ p. words_for (length (window_at (map window l.parts) p).numbers)) (take l.home-index l.homes)
