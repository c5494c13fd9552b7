use Rattle.std.proofs.Common.{ℕ, List, length, take, ◌≤◌, ◌<◌, ◌+◌, ◌*◌, ◌-◌, sym, subst, ap, ◌∙◌, arith}
use Rattle.cx_trail.specs.declared.entry.Entry.{Entry}
use Rattle.cx_trail.specs.Sequence.{TrailState, TakesBack, entry_at}
use Rattle.cx_trail.specs.Cells.{var_at}
use Rattle.cx_trail.proofs.FrontLaws.{front_sound, cells_high, front_cut, front_taken_back, truths_left}
use Rattle.cx_trail.proofs.trail.Trail.back_to.Goals as goal

pub cut-self-inside-requires-clause-count : goal.cut-self-inside-requires-clause-count
cut-self-inside-requires-clause-count c = subst (λ (xs : List Entry). c.self.inside.count ≤ length xs) (sym c.deref.ensures.value) (omega (arith, c.self.invariant.is_whole.short, c.self.invariant.room))

pub cut-self-inside-requires-clause-size : goal.cut-self-inside-requires-clause-size
cut-self-inside-requires-clause-size c = c.self.invariant.is_whole.valued.size ∙ ap (λ n. 2 * n + 2) (sym (ap length c.deref.ensures.value ∙ c.self.invariant.room))

pub cut-self-inside-requires-clause-high : goal.cut-self-inside-requires-clause-high
cut-self-inside-requires-clause-high c =
    subst (λ (xs : List Entry). (i : ℕ) → i < c.self.inside.count → var_at xs i ≤ length xs) (sym c.deref.ensures.value) (cells_high _ _ _ _ _ _ c.self.invariant)

pub invariant_of-self : goal.invariant_of-self
invariant_of-self c =
    let k = c.self.invariant in
    let e = c.cut-self-inside.ensures in
    let m = c.cut-self-inside.result in
    let same = c.deref.ensures.value in
    let low : c.args.level ≤ c.self.inside.depth = subst (λ (t : TrailState). c.args.level ≤ t.level) (sym c.self.view_is) c.requires in
    front_cut _ _ _ _ _ _ k c.args.level m e.few low
    (subst (λ (xs : List Entry). 0 < m → (entry_at xs (m - 1)).level ≤ c.args.level) same e.last)
    (subst (λ (xs : List Entry). (i : ℕ) → m ≤ i → i < c.self.inside.count → c.args.level < (entry_at xs i).level) same e.above)
    c.cut-self-inside.new.truths.items (truths_left _ _ _ _ _ _ k m _ c.cut-self-inside.new.truths.items same e.truths)

pub returns-clause-back : goal.returns-clause-back
returns-clause-back c =
    let k = c.self.invariant in
    let e = c.cut-self-inside.ensures in
    let m = c.cut-self-inside.result in
    let same = c.deref.ensures.value in
    let low : c.args.level ≤ c.self.inside.depth = subst (λ (t : TrailState). c.args.level ≤ t.level) (sym c.self.view_is) c.requires in
    subst (λ (t : TrailState). TakesBack c.args.level t (record { variables = c.self.inside.vars; level = c.args.level; entries = take m c.self.inside.cells.items })) c.self.view_is
    (front_taken_back _ _ _ _ _ _ k c.args.level m e.few low
    (subst (λ (xs : List Entry). 0 < m → (entry_at xs (m - 1)).level ≤ c.args.level) same e.last)
    (subst (λ (xs : List Entry). (i : ℕ) → m ≤ i → i < c.self.inside.count → c.args.level < (entry_at xs i).level) same e.above))

pub returns-clause-sound : goal.returns-clause-sound
returns-clause-sound c = front_sound _ _ _ _ _ _ (invariant_of-self c)
