use Rattle.std.proofs.Common.{◌≡◌, ◌≤◌, ◌∙◌, ap, sym, ℕ, List, ◌-◌, ◌+◌, ◌++◌, arith, length, drop, take, append_assoc}
use Rattle.std.proofs.Math.Seq.{drop-append_seam}
use Rattle.std.proofs.lemmas.List.{drop-drop, length-take-le}
use Rattle.cnfx_reader.specs.PrintedFormula.{literals_text}
use Rattle.cnfx_reader.proofs.lay_out.lay_out_short.Goals as goal

-- what is copied to the place before a line
front_laid : (line at k : ℕ) (front sheet ys : List ℕ) → at + length front ≡ line → at + k ≡ line → line ≤ length sheet → ys ≡ front
    → drop at (take at sheet ++ (ys ++ drop k (drop at sheet))) ≡ front ++ drop line sheet
front_laid line at k front sheet ys begin ends within is =
    let before = take at sheet in
    let past = drop k (drop at sheet) in
    let count : at ≡ length before = sym (length-take-le at sheet (omega arith)) in
    ap (λ i. drop i (before ++ (ys ++ past))) count
    ∙ drop-append_seam before (ys ++ past)
    ∙ ap (λ t. t ++ past) is
    ∙ ap (λ t. front ++ t) (drop-drop k at sheet ∙ ap (λ i. drop i sheet) ends)

pub returns : goal.returns
returns c =
    let w = c.lay_out_line-line in
    let front = c.args.front.now in
    let few = c.if-lits-gt-FEW.false in
    let behind = drop c.args.end c.args.sheet.now in
    record {
      low = omega (arith, w.ensures.low, c.requires.front, few);
      high = omega (arith, w.ensures.high);
      laid =
          front_laid w.result (w.result - length front) _ front w.new.sheet _ (omega (arith, w.ensures.low, c.requires.front, c.requires.room, few)) (omega (arith, w.ensures.low, c.requires.front, c.requires.room, few)) (omega (arith, w.ensures.high, w.auto.sheet, c.requires.within)) c.copy_from_slice.ensures.after
          ∙ ap (λ t. front ++ t) w.ensures.laid
          ∙ sym (append_assoc front (literals_text c.args.lits.now) behind);
    }
