use Rattle.std.proofs.Common.{◌≡◌, ◌<◌, ◌≤◌, ◌∙◌, sym, ap, arith, length, get_or, set, take, replicate}
use Rattle.std.proofs.lemmas.List.{take-replicate, take-set-le}
use Rattle.std.proofs.Math.Seq.{take-set-lt}
use Rattle.gf2_rows.specs.Few.{laid_out}
use Rattle.gf2_rows.proofs.Entries.{length-laid_out, laid_out-zero, laid_out-more}
use Rattle.gf2_rows.proofs.few.FewWords.copy_to.Goals as goal
use Rattle.gf2_rows.proofs.few.FewWords.copy_to.Goals.{then-place-into, else-place-into}

pub loop-i-init : goal.loop-i-init
loop-i-init c =
    let f = c.self.inside in
    let n = length c.fill.new.self in
    let long : length c.args.self.now ≡ f.len = sym (ap length c.self.view_is) ∙ length-laid_out f.len f.count f.places f.words in
    let same = c.fill.ensures.len in
    let room = c.requires in
    c.fill.ensures.after (λ y e. e) ∙ ap (λ k. replicate k 0) (sym same) ∙ sym (take-replicate n f.len 0 (omega arith)) ∙ sym (ap (take n) (laid_out-zero f.len f.places f.words))

pub loop-i-preserved : goal.loop-i-preserved
loop-i-preserved c =
    let f = c.self.inside in
    let i = c.loop-i.i in
    let n = length c.fill.new.self in
    let all = laid_out f.len i f.places f.words in
    let p = get_or f.places i 0 in
    let w = get_or f.words i 0 in
    let same = c.loop-i.auto.into in
    elim c.if-place-into.branch [
      | then-place-into t ↦
          let below = t.if-place-into.true in
          let lt : p < n = omega arith in
          t.into-is ∙ ap (λ l. set l p w) c.loop-i.invariant ∙ sym (take-set-lt n all p w lt) ∙ sym (ap (take n) (laid_out-more f.len i f.places f.words))
      | else-place-into t ↦
          let past = t.if-place-into.false in
          let le : n ≤ p = omega arith in
          t.into-is ∙ c.loop-i.invariant ∙ sym (take-set-le n all p w le) ∙ sym (ap (take n) (laid_out-more f.len i f.places f.words))
    ]
