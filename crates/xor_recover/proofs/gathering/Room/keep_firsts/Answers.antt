use Rattle.std.proofs.Common.{ap, ◌∙◌, map, rules}
use Rattle.std.proofs.lemmas.Fn.{dedup_same}
use Rattle.std.proofs.lemmas.List.Sorted.{IsPermutation-map}
use Rattle.xor_recover.specs.declared.entry.ClauseEntry.{ClauseEntry}
use Rattle.xor_recover.specs.Entries.{row_of}
use Rattle.xor_recover.specs.Groups.{same_shape}
use Rattle.xor_recover.proofs.Firsts.{are_firsts, up_rows, map_dedup}
use Rattle.xor_recover.proofs.gathering.Room.keep_firsts.Goals as goal

pub returns-clause-firsts : goal.returns-clause-firsts
returns-clause-firsts c =
    are_firsts (map row_of c.args.self.now.entries.items) (map row_of c.sort_unstable.new.self.items) (map row_of c.dedup_by.new.self.items)
    (IsPermutation-map row_of _ _ c.sort_unstable.ensures.permutation)
    (up_rows row_of c.sort_unstable.new.self.items c.sort_unstable.ensures.sorted)
    (ap (map row_of) (dedup_same _ (λ (x y : ClauseEntry). same_shape (row_of x) (row_of y)) _ (λ x y b f' x' y' k. search rules) _ _ c.dedup_by.ensures.filtered) ∙ map_dedup row_of c.sort_unstable.new.self.items)
