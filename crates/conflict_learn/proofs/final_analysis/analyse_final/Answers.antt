use Rattle.std.proofs.Common.{◌≡◌, refl, sym, ap, ◌∙◌, subst, ◌<◌, List, length, set, [], ◌∷◌, ◌++◌, true≢false, true, false, arith}
use Rattle.std.proofs.lemmas.List.{length-set}
use Rattle.cx_base.specs.Literals.{Literal, negate}
use Rattle.cx_semantics.specs.Chain.{has_literal}
use Rattle.conflict_learn.specs.declared.learning.Resolved.{Resolved}
use Rattle.conflict_learn.specs.Final.{IsFinal, IsDecidedAt, StandsBelow}
use Rattle.conflict_learn.specs.Learning.{literal_at, literals_of}
use Rattle.conflict_learn.specs.Marks.{StandBetween}
use Rattle.conflict_learn.proofs.AnalyseLaws.{memory_in}
use Rattle.conflict_learn.proofs.FinalLaws.{Tracing, tracing_begins, tracing_ends, traced, traced_keeps, traced_resolves, stand_more}
use Rattle.conflict_learn.proofs.MarkLaws.{var_of, marked_below, stand_cleared}
use Rattle.conflict_learn.proofs.Visiting.{one_more_resolved, nothing_left}
use Rattle.conflict_learn.proofs.final_analysis.analyse_final.Given.{Over}
use Rattle.conflict_learn.proofs.final_analysis.analyse_final.Goals.{In-Some}
use Rattle.conflict_learn.proofs.final_analysis.analyse_final.Goals as goal

pub loop-place-init : goal.loop-place-init
loop-place-init g c =
    let trail = c.args.trail.now in
    let marks = c.touch-lowest.new.marks in
    let holds = g.S.Antecedents.holds c.args.source.now in
    let t = c.touch-lowest.ensures.touched in
    record {
      trail = c.requires.stands;
      held = λ x n h. h;
      goes_on = g.met.S.Antecedents.rests c.args.source.now;
      faults = refl;
      ready = c.requires.ready;
      reach = c.requires.reach;
      room = c.requires.room;
      bound = omega arith;
      size = let grown = c.in_ok-reach.ensures.reached in let kept = t.size in let vars = c.vars.ensures.count in omega (arith, grown, kept, vars);
      stand = c.touch-lowest.ensures.stand;
      state = subst (λ ls. Tracing trail c.args.below c.args.kept.now c.args.clause.now holds ls c.in_ok-gathered.gathered.lits.items (marked_below trail marks c.args.below)) (sym c.in_ok-gathered.ensures.resolved)
          (subst (λ ls. Tracing trail c.args.below c.args.kept.now c.args.clause.now holds [] ls (marked_below trail marks c.args.below)) (sym c.in_ok-gathered.ensures.lits)
          (tracing_begins trail c.args.below c.args.kept.now c.args.clause.now holds c.reach.new.self marks t c.requires.all_false));
      resolved = λ m h. absurd (true≢false (sym (subst (λ rs. has_literal (literals_of rs) m ≡ true) c.in_ok-gathered.ensures.resolved h)));
    }

-- ---- the place that is visited
within : (g : Over) (c : In-Some g) → c.in-Some.place < length c.args.trail.now.entries
within g c = let less = c.in-Some.ensures.below in let bound = c.loop-place.invariant.bound in let high = c.requires.bound in omega (arith, less, bound, high)

below_it : (g : Over) (c : In-Some g) → c.in-Some.place < c.args.below
below_it g c = let less = c.in-Some.ensures.below in let bound = c.loop-place.invariant.bound in omega (arith, less, bound)

state : (g : Over) (c : In-Some g) → Tracing c.args.trail.now c.args.below c.args.kept.now c.args.clause.now (g.S.Antecedents.holds c.loop-place.source) c.loop-place.gathered.resolved.items c.loop-place.gathered.lits.items
    (marked_below c.args.trail.now (set c.loop-place.marks (var_of c.args.trail.now c.in-Some.place) false) c.in-Some.place ++ c.in-Some.place ∷ [])
state g c = subst (Tracing c.args.trail.now c.args.below c.args.kept.now c.args.clause.now (g.S.Antecedents.holds c.loop-place.source) c.loop-place.gathered.resolved.items c.loop-place.gathered.lits.items)
    (traced c.args.trail.now c.vars.ensures.sound c.args.below c.args.kept.now c.args.clause.now c.loop-place.marks c.loop-place.lowest c.loop-place.from c.in-Some.place
    (let bound = c.loop-place.invariant.bound in let high = c.requires.bound in omega (arith, bound, high)) c.in-Some.ensures)
    c.loop-place.invariant.state

stand : (g : Over) (c : In-Some g) → StandBetween c.args.trail.now (set c.loop-place.marks (var_of c.args.trail.now c.in-Some.place) false) c.loop-place.lowest c.in-Some.place
stand g c =
    let high = c.vars.ensures.sound.high c.in-Some.place (within g c) in
    let size = c.loop-place.invariant.size in
    stand_cleared c.args.trail.now c.vars.ensures.sound c.loop-place.marks c.loop-place.lowest c.loop-place.from c.in-Some.place
    (let bound = c.loop-place.invariant.bound in let top = c.requires.bound in omega (arith, bound, top)) (omega (arith, high, size)) c.in-Some.ensures c.loop-place.invariant.stand

pub resolve-requires-clause-stand : goal.resolve-requires-clause-stand
resolve-requires-clause-stand g c =
    let trail = c.args.trail.now in
    let marks = c.loop-place.marks in
    let cleared = c.clear.ensures ∙ ap (λ v. set marks v false) (c.var.ensures ∙ ap (λ x. x.literal.variable) c.entry-entry.ensures.is) in
    subst (λ ms. StandBetween trail ms c.loop-place.lowest c.in-Some.place) (sym cleared) (stand g (goal.at.resolve-requires-clause-stand g c).In-Some)

pub loop-place-preserved-in-Continue-branch-3 : goal.loop-place-preserved-in-Continue-branch-3
loop-place-preserved-in-Continue-branch-3 g c =
    let trail = c.args.trail.now in
    let marks = c.loop-place.marks in
    let p = c.in-Some.place in
    let some = (goal.at.loop-place-preserved-in-Continue-branch-3 g c).In-Some in
    let inv = c.loop-place.invariant in
    let holds = g.S.Antecedents.holds c.loop-place.source in
    let resolved = c.loop-place.gathered.resolved.items in
    let lits = c.loop-place.gathered.lits.items in
    let mid = c.clear.new.self in
    let cleared = c.clear.ensures ∙ ap (λ v. set marks v false) (c.var.ensures ∙ ap (λ x. x.literal.variable) c.entry-entry.ensures.is) in
    let a : Tracing trail c.args.below c.args.kept.now c.args.clause.now holds resolved lits (marked_below trail mid p ++ p ∷ []) =
    subst (λ ms. Tracing trail c.args.below c.args.kept.now c.args.clause.now holds resolved lits (marked_below trail ms p ++ p ∷ [])) (sym cleared) (state g some) in
    let pushed : c.keep.new.self.lits.items ≡ lits ++ negate (literal_at trail p) ∷ [] = c.in_ok-keep.ensures.lits ∙ ap (λ x. lits ++ negate x.literal ∷ []) c.entry-entry.ensures.is in
    let same = sym c.in_ok-keep.ensures.resolved in
    let decided : IsDecidedAt trail p =
    (subst (λ x. 0 < x.level) c.entry-entry.ensures.is (c.is_decided.ensures.decided c.if-is_decided.true).0, ap (λ x. x.reason) (sym c.entry-entry.ensures.is) ∙ (c.is_decided.ensures.decided c.if-is_decided.true).1) in
    let inside = within g some in
    record {
      trail = inv.trail;
      held = inv.held;
      goes_on = inv.goes_on;
      faults = inv.faults;
      ready = inv.ready;
      reach = inv.reach;
      room = let room = inv.room in let below = c.in-Some.ensures.below in omega (arith, room, below);
      bound = let below = c.in-Some.ensures.below in let bound = inv.bound in omega (arith, below, bound);
      size = let kept = ap length cleared ∙ length-set marks (var_of trail p) false in let was = inv.size in omega (arith, kept, was);
      stand = subst (λ ms. StandBetween trail ms c.loop-place.lowest p) (sym cleared) (stand g some);
      state = subst (λ rs. Tracing trail c.args.below c.args.kept.now c.args.clause.now holds rs c.keep.new.self.lits.items (marked_below trail mid p)) same
          (subst (λ ls. Tracing trail c.args.below c.args.kept.now c.args.clause.now holds resolved ls (marked_below trail mid p)) (sym pushed)
          (traced_keeps trail c.vars.ensures.sound c.args.below c.args.kept.now c.args.clause.now holds resolved lits mid p inside a decided));
      resolved = subst (λ rs. (m : Literal) → has_literal (literals_of rs) m ≡ true → StandsBelow trail c.args.below m) same inv.resolved;
    }

pub loop-place-preserved : goal.loop-place-preserved
loop-place-preserved g c =
    let trail = c.args.trail.now in
    let marks = c.loop-place.marks in
    let p = c.in-Some.place in
    let some = (goal.at.loop-place-preserved g c).In-Some in
    let inv = c.loop-place.invariant in
    let holds = g.S.Antecedents.holds c.loop-place.source in
    let after = g.S.Antecedents.holds c.resolve.new.source in
    let resolved = c.loop-place.gathered.resolved.items in
    let lits = c.loop-place.gathered.lits.items in
    let mid = c.clear.new.self in
    let cleared = c.clear.ensures ∙ ap (λ v. set marks v false) (c.var.ensures ∙ ap (λ x. x.literal.variable) c.entry-entry.ensures.is) in
    let a : Tracing trail c.args.below c.args.kept.now c.args.clause.now holds resolved lits (marked_below trail mid p ++ p ∷ []) =
    subst (λ ms. Tracing trail c.args.below c.args.kept.now c.args.clause.now holds resolved lits (marked_below trail ms p ++ p ∷ [])) (sym cleared) (state g some) in
    let id = c.in_ok-id.id in
    let pushed : c.add_resolved.new.self.resolved.items ≡ resolved ++ record { literal = literal_at trail p; id = id } ∷ [] = c.in_ok-add_resolved.ensures.resolved ∙ ap (λ x. resolved ++ record { literal = x.literal; id = id } ∷ []) c.entry-entry.ensures.is in
    let more = one_more_resolved resolved c.add_resolved.new.self.resolved.items (literal_at trail p) id pushed in
    let same = sym c.in_ok-add_resolved.ensures.lits in
    let inside = within g some in
    let r = c.in_ok-id.ensures.resolved in
    record {
      trail = c.in_ok-id.ensures.trail ∙ inv.trail;
      held = λ x n h. c.in_ok-id.ensures.held x n (inv.held x n h);
      goes_on = g.met.S.Antecedents.goes_on_then _ _ _ _ inv.goes_on c.in_ok-id.ensures.goes_on;
      faults = c.in_ok-id.ensures.faults ∙ inv.faults;
      ready = c.in_ok-id.ensures.ready;
      reach = let e = c.in_ok-id.ensures.reach in let was = inv.reach in omega (arith, e, was);
      room = let room = inv.room in let below = c.in-Some.ensures.below in let one = c.in_ok-id.ensures.room in omega (arith, room, below, one);
      bound = let below = c.in-Some.ensures.below in let bound = inv.bound in omega (arith, below, bound);
      size = let kept = r.3.size ∙ ap length cleared ∙ length-set marks (var_of trail p) false in let was = inv.size in omega (arith, kept, was);
      stand = c.in_ok-id.ensures.stand;
      state = subst (λ ls. Tracing trail c.args.below c.args.kept.now c.args.clause.now after c.add_resolved.new.self.resolved.items ls (marked_below trail c.resolve.new.marks p)) same
          (subst (λ rs. Tracing trail c.args.below c.args.kept.now c.args.clause.now after rs lits (marked_below trail c.resolve.new.marks p)) (sym pushed)
          (traced_resolves trail c.vars.ensures.sound c.args.below c.args.kept.now c.args.clause.now holds resolved lits mid p inside a after c.resolve.new.marks r.0 id c.in_ok-id.ensures.held r.1 r.2 r.3));
      resolved = subst (λ ls. (m : Literal) → has_literal ls m ≡ true → StandsBelow trail c.args.below m) (sym more) (stand_more trail c.args.below (literals_of resolved) p inside (below_it g some) inv.resolved);
    }

-- ---- no place is left
pub returns-clause-left : goal.returns-clause-left
returns-clause-left g c =
    let trail = c.args.trail.now in
    let holds = g.S.Antecedents.holds c.loop-place.source in
    let is = c.into_final.ensures in
    let none = nothing_left trail c.loop-place.marks c.loop-place.lowest c.loop-place.from c.loop-place.invariant.stand c.in_default.ensures in
    subst (λ (rs : List Resolved). IsFinal trail c.args.below c.args.kept.now c.args.clause.now holds rs c.into_final.result.lits) (sym is.resolved)
    (subst (λ (ls : List Literal). IsFinal trail c.args.below c.args.kept.now c.args.clause.now holds c.loop-place.gathered.resolved.items ls) (sym is.lits)
    (tracing_ends trail c.args.below c.args.kept.now c.args.clause.now holds c.loop-place.gathered.resolved.items c.loop-place.gathered.lits.items
    (subst (Tracing trail c.args.below c.args.kept.now c.args.clause.now holds c.loop-place.gathered.resolved.items c.loop-place.gathered.lits.items) none c.loop-place.invariant.state)))

-- ---- at a fault after the source was asked
pub returns-in_err-add_resolved-clause-goes_on : goal.returns-in_err-add_resolved-clause-goes_on
returns-in_err-add_resolved-clause-goes_on g c =
    subst (λ o. g.S.Antecedents.goes_on c.args.source.now o c.resolve.new.source) (sym (memory_in _ c.from_residual-in_err-add_resolved.ensures.1))
    (g.met.S.Antecedents.goes_on_then _ _ _ _ (g.met.S.Antecedents.goes_on_then _ _ _ _ c.loop-place.invariant.goes_on c.in_ok-id.ensures.goes_on) (g.met.S.Antecedents.stops _))
