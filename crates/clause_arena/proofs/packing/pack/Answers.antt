use Rattle.std.proofs.Common.{rules, ◌≡◌, ◌+◌, ◌-◌, ◌<◌, ◌≤◌, ◌++◌, ◌∷◌, [], ℕ, Vec, Global, length, set, ap, ◌∙◌, sym, arith}
use Rattle.cx_base.specs.declared.moved.Move.{Move}
use Rattle.cx_base.specs.Literals.{Literal}
use Rattle.clause_arena.specs.declared.head.Head.{Head}
use Rattle.clause_arena.proofs.InPlaceLaws.{next_fits, packed_over_removed, packed_with_moved}
use Rattle.clause_arena.proofs.packing.pack.Goals.{After-index-head, then-head, else-head}
use Rattle.clause_arena.proofs.packing.pack.Goals as goal

inside : (c : After-index-head) → c.loop-place.place < length c.args.heads.now.items
inside c = omega (arith, c.loop-place-test.true, c.len-place-end.ensures, c.args.heads.now.ok.0)

-- the next clause's literals come after what is packed
fits : (c : After-index-head) → (c.loop-place.used ≤ c.loop-place.start) × (c.loop-place.start ≤ c.index-end.result.now) × (c.index-end.result.now ≤ length c.loop-place.lits.items)
fits c = next_fits c.args.lits.now.items c.args.ends.now.items c.args.heads.now.items c.loop-place.place c.loop-place.start c.loop-place.used c.loop-place.lits.items c.loop-place.ends.items c.loop-place.heads.items c.loop-place.moves.items c.index-end.result.now c.index-head.result.now c.index-end.ensures c.index-head.ensures c.requires.heads.each (inside c) c.loop-place.invariant.packed

pub copy_within-requires-clause-start_le_end : goal.copy_within-requires-clause-start_le_end
copy_within-requires-clause-start_le_end c = omega (arith, (fits (goal.at.copy_within-requires-clause-start_le_end c).After-index-head).1)

pub copy_within-requires-clause-in_bounds : goal.copy_within-requires-clause-in_bounds
copy_within-requires-clause-in_bounds c = omega (arith, (fits (goal.at.copy_within-requires-clause-in_bounds c).After-index-head).2, c.loop-place.lits.ok.0)

pub copy_within-requires-clause-dest_in_bounds : goal.copy_within-requires-clause-dest_in_bounds
copy_within-requires-clause-dest_in_bounds c =
    let f = fits (goal.at.copy_within-requires-clause-dest_in_bounds c).After-index-head in
    omega (arith, f.0, f.1, f.2, c.loop-place.lits.ok.0)

pub loop-place-preserved : goal.loop-place-preserved
loop-place-preserved c =
    let i = c.loop-place.invariant in
    let h = c.index-head.result.now in
    let e = c.index-end.result.now in
    let lits₀ = c.args.lits.now.items in
    let ends₀ = c.args.ends.now.items in
    let heads₀ = c.args.heads.now.items in
    let n = c.loop-place.place in
    let start = c.loop-place.start in
    let used = c.loop-place.used in
    let lits = c.loop-place.lits.items in
    let ends = c.loop-place.ends.items in
    let heads = c.loop-place.heads.items in
    let moves = c.loop-place.moves.items in
    let within = inside (goal.at.loop-place-preserved c).After-index-head in
    elim c.if-head.branch [
      | then-head w ↦
          let kept : w.len-kept.result ≡ length moves = omega (arith, w.len-kept.ensures, c.loop-place.moves.ok.0) in
          let el = ap (λ (v : Vec Literal Global). v.items) w.lits-is ∙ w.copy_within.ensures.items in
          let ee : c.if-head.ends.items ≡ set ends (length moves) c.if-head.used =
          ap (λ (v : Vec ℕ Global). v.items) w.ends-is ∙ ap (λ (k : ℕ). set ends k (used + (e - start))) kept ∙ ap (set ends (length moves)) (sym w.used-is) in
          let eh : c.if-head.heads.items ≡ set heads (length moves) h = ap (λ (v : Vec Head Global). v.items) w.heads-is ∙ ap (λ (k : ℕ). set heads k h) kept in
          let em : c.if-head.moves.items ≡ moves ++ (record { old = n; new = length moves }) ∷ [] =
          ap (λ (v : Vec Move Global). v.items) w.moves-is ∙ w.push_reserved.ensures.items
          ∙ ap (λ (o : ℕ). moves ++ (record { old = o; new = w.new-then-head.result }) ∷ []) w.new.ensures
          ∙ ap (λ (k : ℕ). moves ++ (record { old = n; new = k }) ∷ []) (w.new-then-head.ensures ∙ kept) in
          record {
            packed = packed_with_moved lits₀ ends₀ heads₀ n start used lits ends heads moves e h c.index-end.ensures c.index-head.ensures c.requires.heads.each within i.packed c.if-head.used c.if-head.lits.items c.if-head.ends.items c.if-head.heads.items c.if-head.moves.items c.requires.heads.few w.if-head.true el ee eh em w.used-is;
            room = ap (λ (v : Vec Move Global). v.cap) w.moves-is ∙ w.push_reserved.ensures.capacity ∙ i.room;
            same_ends = ap (λ (v : Vec ℕ Global). v.cap) w.ends-is ∙ i.same_ends;
            same_heads = ap (λ (v : Vec Head Global). v.cap) w.heads-is ∙ i.same_heads;
            same_lits = ap (λ (v : Vec Literal Global). v.cap) w.lits-is ∙ w.copy_within.ensures.capacity ∙ i.same_lits;
          }
      | else-head w ↦
          let past = packed_over_removed lits₀ ends₀ heads₀ n start used lits ends heads moves e h c.index-end.ensures c.index-head.ensures c.requires.heads.each within i.packed w.if-head.false in
          rw (w.used-is, w.moves-is, w.heads-is, w.lits-is, w.ends-is) (record { packed = past; room = i.room; same_ends = i.same_ends; same_heads = i.same_heads; same_lits = i.same_lits })
    ]

pub loop-place-init : goal.loop-place-init
loop-place-init c = search rules

pub returns-clause-cut_heads : goal.returns-clause-cut_heads
returns-clause-cut_heads c =
    let i = c.loop-place.invariant in
    record { fewer = omega (arith, c.truncate-2.ensures.len, i.packed.many_heads, c.args.heads.now.ok.0, c.loop-place.heads.ok.0); room = c.truncate-2.ensures.capacity ∙ i.same_heads }

pub returns-clause-cut_lits : goal.returns-clause-cut_lits
returns-clause-cut_lits c =
    let i = c.loop-place.invariant in
    record { fewer = omega (arith, c.truncate-3.ensures.len, i.packed.many_lits, c.args.lits.now.ok.0, c.loop-place.lits.ok.0); room = c.truncate-3.ensures.capacity ∙ i.same_lits }
