use Rattle.std.proofs.Common.{◌≡◌, ◌∙◌, ◌+◌, ◌<◌, [], ◌∷◌, ◌++◌, take, length, length-append, ap, sym, arith}
use Rattle.std.proofs.lemmas.List.{take_more}
use Rattle.std.proofs.lemmas.List.Sums.{sum_by_push}
use Rattle.gf2_matrix.proofs.Cutting.{cut_more}
use Rattle.gf2_matrix.proofs.Updates.{same_read}
use Rattle.gf2_matrix.proofs.flat.FlatParities.copy_of.Goals as goal

pub loop-parity-preserved : goal.loop-parity-preserved
loop-parity-preserved c =
    let given = c.args.parities.now in
    let lits = c.loop-parity.lits.items in
    let lengths = c.loop-parity.lengths.items in
    let i = c.loop-parity.parity-index in
    let own = c.as_slice-own.result.now in
    let before = c.loop-parity.invariant in
    let lits_are = c.in_ok-extend_from_slice.ensures.items in
    let lengths_are = c.in_ok-push.ensures.items in
    let i_in : i < length given = c.loop-parity-test.true in
    let read = c.as_slice-own.ensures ∙ c.parity-item.is ∙ same_read given i c.parity-item.result [] i_in in
    let more : take (i + 1) given ≡ take i given ++ own ∷ [] = take_more given i [] i_in ∙ ap (λ l. take i given ++ l ∷ []) (sym read) in
    rw (lits_are, lengths_are)
    (record {
      whole = let s = sum_by_push (λ n. n) lengths (length own) in let l = length-append lits own in s ∙ omega arith;
      copied = cut_more lits own lengths before.whole ∙ ap (λ ls. ls ++ own ∷ []) before.copied ∙ sym more;
    })
