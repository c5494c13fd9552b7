use Rattle.std.proofs.Common.{◌≡◌, ◌≤◌, ◌∙◌, ap, sym, ℕ, List, ◌+◌, ◌-◌, ◌++◌, arith, length, drop, take}
use Rattle.std.proofs.Math.Seq.{drop-append_seam}
use Rattle.std.proofs.lemmas.List.{drop-drop, length-take-le}
use Rattle.step_text.proofs.lay_out.lay_out_text.Goals as goal

-- what is copied to a place
copied : (at end k : ℕ) (sheet text copy : List ℕ) → at ≤ length sheet → at + k ≡ end → copy ≡ text → drop at (take at sheet ++ (copy ++ drop k (drop at sheet))) ≡ text ++ drop end sheet
copied at end k sheet text copy within ends is =
    let before = take at sheet in
    let past = drop k (drop at sheet) in
    let count : at ≡ length before = sym (length-take-le at sheet within) in
    ap (λ i. drop i (before ++ (copy ++ past))) count
    ∙ drop-append_seam before (copy ++ past)
    ∙ ap (λ t. t ++ past) is
    ∙ ap (λ t. text ++ t) (drop-drop k at sheet ∙ ap (λ i. drop i sheet) ends)

pub returns-clause-laid : goal.returns-clause-laid
returns-clause-laid c = copied (c.args.end - length c.args.text.now) c.args.end _ c.args.sheet.now c.args.text.now _ (omega arith) (omega arith) c.copy_from_slice.ensures.after
