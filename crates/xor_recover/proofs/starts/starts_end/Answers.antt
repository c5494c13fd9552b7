use Rattle.std.proofs.Common.{◌≡◌, ◌∙◌, ◌≤◌, ◌<◌, get_or, sym, ap, subst, inl, inr, arith}
use Rattle.std.proofs.lemmas.Bool.{cases_eq}
use Rattle.xor_recover.specs.declared.starts.Start.{Start}
use Rattle.xor_recover.specs.Starts.{pair_of}
use Rattle.xor_recover.proofs.Grouping.{at_any}
use Rattle.xor_recover.proofs.starts.starts_end.Goals as goal

pub loop-end-preserved : goal.loop-end-preserved
loop-end-preserved c =
    let i = c.loop-end.invariant in
    let starts = c.args.starts.now in
    let end = c.loop-end.end in
    let read : (d : Start) → c.pair.result ≡ pair_of (get_or starts end d) = λ d. c.pair.ensures ∙ ap pair_of (at_any starts end (record { first = 0; second = 0; number = 0 }) d c.loop-end-test.true) in
    record {
      ahead = omega (arith, i.ahead);
      inside = omega (arith, c.loop-end-test.true);
      upto = λ k d low lt.
          elim (cases_eq k end) [
            | inl e ↦ subst (λ n. pair_of (get_or starts n d) ≤ c.args.pair) (sym e) (subst (λ p. p ≤ c.args.pair) (read d) c.if-pair.true)
            | inr ne ↦ i.upto k d low (omega arith)
          ];
    }

pub returns-else-pair : goal.returns-else-pair
returns-else-pair c =
    let i = c.loop-end.invariant in
    let starts = c.args.starts.now in
    let end = c.loop-end.end in
    let read : (d : Start) → c.pair.result ≡ pair_of (get_or starts end d) = λ d. c.pair.ensures ∙ ap pair_of (at_any starts end (record { first = 0; second = 0; number = 0 }) d c.loop-end-test.true) in
    record { ahead = i.ahead; inside = i.inside; upto = i.upto; beyond = λ d lt. subst (λ p. c.args.pair < p) (read d) c.if-pair.false }

pub returns-after-loop-end : goal.returns-after-loop-end
returns-after-loop-end c =
    let i = c.loop-end.invariant in
    let last = c.loop-end-test.false in
    record { ahead = i.ahead; inside = i.inside; upto = i.upto; beyond = λ d lt. absurd (omega arith) }
