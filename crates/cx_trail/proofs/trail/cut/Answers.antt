use Rattle.std.proofs.Common.{◌≡◌, ◌≢◌, ◌<◌, ◌≤◌, ◌+◌, ◌-◌, ◌*◌, ◌∙◌, ℕ, List, length, get_or, set, ap, arith, subst, sym, ⊎_elim}
use Rattle.std.proofs.lemmas.Bool.{cases_eq}
use Rattle.std.proofs.lemmas.List.{get_or_default, length-set}
use Rattle.cx_base.specs.Literals.{negate, code_of}
use Rattle.cx_base.proofs.LiteralLaws.{code_below}
use Rattle.cx_trail.specs.declared.entry.Entry.{Entry}
use Rattle.cx_trail.specs.declared.entry.Truth.{Truth}
use Rattle.cx_trail.specs.declared.entry.Truth.TheVariants.{Open}
use Rattle.cx_trail.specs.Sequence.{entry_at, no_entry}
use Rattle.cx_trail.specs.Cells.{AreTruths, var_at}
use Rattle.cx_trail.proofs.TruthLaws.{cut_truths}
use Rattle.cx_trail.proofs.FrontLaws.{same_at}
use Rattle.cx_trail.proofs.trail.cut.Goals as goal

-- the literal of a cell has a variable within the number of cells, so its value has a place
coded : (cells : List Entry) (truths : List Truth) (count left : ℕ) (d : Entry) → length truths ≡ 2 * length cells + 2 → ((i : ℕ) → i < count → var_at cells i ≤ length cells) → 0 < left → left ≤ count → count ≤ length cells
    → (code_of (get_or cells (left - 1) d).literal < length truths) × (code_of (negate (get_or cells (left - 1) d).literal) < length truths)
coded cells truths count left d size high some few inside =
    let n = left - 1 in
    let within = subst (λ (x : Entry). x.literal.variable ≤ length cells) (sym (get_or_default cells n d no_entry (omega arith))) (high n (omega arith)) in
    let l = (get_or cells n d).literal in (
      omega (arith, size, code_below l (length cells) within),
      omega (arith, size, code_below (negate l) (length cells) within),
    )

pub set_truths-requires-clause-own : goal.set_truths-requires-clause-own
set_truths-requires-clause-own c =
    let i = c.loop-left.invariant in
    (coded _ _ _ _ _ i.size c.requires.high c.loop-left-test.true i.few c.requires.count).0

pub set_truths-requires-clause-other : goal.set_truths-requires-clause-other
set_truths-requires-clause-other c =
    let i = c.loop-left.invariant in
    (coded _ _ _ _ _ i.size c.requires.high c.loop-left-test.true i.few c.requires.count).1

pub loop-left-preserved : goal.loop-left-preserved
loop-left-preserved c =
    let i = c.loop-left.invariant in
    let n = c.loop-left.left - 1 in
    let cells = c.args.cells.now in
    let old = c.loop-left.truths.items in
    let back : n + 1 ≡ c.loop-left.left = omega (arith, c.loop-left-test.true) in
    let inside : n < length cells = omega (arith, i.few, c.requires.count) in
    let seen : get_or cells n c.index-cells-left-in-loop-left.result ≡ entry_at cells n = get_or_default cells n _ no_entry inside in
    let high : c.args.level < (entry_at cells n).level = subst (λ (x : Entry). c.args.level < x.level) (get_or_default cells n _ no_entry inside) c.if-cells-left.true in
    let written = c.set_truths.ensures ∙ ap (λ (x : Entry). set (set old (code_of x.literal) Open) (code_of (negate x.literal)) Open) seen in
    record {
      few = omega (arith, i.few);
      above = λ k from h. ⊎_elim (λ (e : k ≡ n). subst (λ x. c.args.level < (entry_at cells x).level) (sym e) high) (λ (ne : k ≢ n). i.above k (omega arith) h) (cases_eq k n);
      size = ap length written ∙ length-set (set old (code_of (entry_at cells n).literal) Open) (code_of (negate (entry_at cells n).literal)) Open ∙ length-set old (code_of (entry_at cells n).literal) Open ∙ i.size;
      truths = λ whole apart long begins before.
          let same : entry_at whole n ≡ entry_at cells n = same_at c.args.count n whole cells begins (omega (arith, i.few)) in
          let so_far : AreTruths (length whole) (n + 1) whole old = subst (λ x. AreTruths (length whole) x whole old) (sym back) (i.truths whole apart long begins before) in
          subst (λ (ts : List Truth). AreTruths (length whole) n whole ts)
          (sym (written ∙ ap (λ (x : Entry). set (set old (code_of x.literal) Open) (code_of (negate x.literal)) Open) (sym same)))
          (cut_truths n whole old apart so_far (omega (arith, long, inside)));
    }
