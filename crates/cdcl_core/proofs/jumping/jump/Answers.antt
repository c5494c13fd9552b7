use Rattle.std.proofs.Common.{◌≡◌, sym, ap, ◌∙◌, subst, List, [], ◌∷◌, length, ◌≤◌, ◌+◌, inl, inr, arith}
use Rattle.cx_base.specs.Integers.{integers_of}
use Rattle.watch_lists.specs.Attaching.{CanBeWatched, literal_at}
use Rattle.cx_base.specs.Literals.{Literal}
use Rattle.cx_base.specs.declared.constraint.Constraint.{Constraint}
use Rattle.cx_trail.specs.declared.entry.Reason.{Reason}
use Rattle.cx_trail.specs.Sequence.{TrailState, IsTrail, IsOpenIn, pushed}
use Rattle.search_policy.specs.Assuming.{KeepsAssumptions}
use Rattle.search_policy.specs.declared.assumptions.Assumptions.{Assumptions}
use Rattle.search_policy.proofs.AssumingLaws.{extended_keeps}
use Rattle.conflict_learn.specs.Learning.{literals_of}
use Rattle.conflict_learn.specs.Touching.{AreTouched}
use Rattle.search_steps.specs.LogSteps.{after_round}
use Rattle.search_steps.specs.Search.{IsSearchIn}
use Rattle.cdcl_search.proofs.Outcomes.{on_ok}
use Rattle.cdcl_core.specs.Entering.{Enters}
use Rattle.cdcl_core.proofs.Entering.{round_is_search}
use Rattle.cdcl_core.proofs.JumpLaws.{falling_short, lower_than_now, scores_within, alone_at_zero, first_is_high, first_is_open, can_be_watched, enters_stands}
use Rattle.cdcl_core.proofs.jumping.jump.Goals as goal

pub go_back-requires-clause-lower : goal.go_back-requires-clause-lower
go_back-requires-clause-lower g c =
    let l = c.requires.learned.1 in
    lower_than_now c.args.formula.now c.args.state.now (g.P.ParityEngine.state c.args.engine.now) c.args.learned.now.lits c.args.learned.now.back_level l.search l.taught

pub bump-requires : goal.bump-requires
bump-requires g c =
    let l = c.requires.learned.1 in
    record {
      within = λ k d h. scores_within c.args.formula.now c.args.state.now (g.P.ParityEngine.state c.args.engine.now) c.args.learned.now.lits c.args.learned.now.back_level l.search l.taught
          c.go_back.new.state (g.P.ParityEngine.state c.go_back.new.engine) (c.go_back.ensures.back.ties l.taught.rows l.search l.taught.search l.taught.ties) c.go_back.ensures.back.watched c.go_back.ensures.back.back
          (literals_of c.args.learned.now.resolved.items) c.args.learned.now.lits c.deref.result.now (subst (AreTouched c.args.state.now.trail (literals_of c.args.learned.now.resolved.items) c.args.learned.now.lits) (sym c.deref.ensures.value) c.requires.touched) k d h;
    }

pub enter-requires : goal.enter-requires
enter-requires g c =
    let l = c.requires.learned.1 in
    let ties = c.go_back.ensures.back.ties l.taught.rows l.search l.taught.search l.taught.ties in
    let back = c.go_back.new.state in
    let e = g.P.ParityEngine.state c.args.engine.now in
    let e_back = g.P.ParityEngine.state c.go_back.new.engine in
    let n = ap length c.as_slice.ensures in
    record {
      some = let m = ap length l.taught.parts in omega (arith, n, m);
      unit = λ one.
          let zero = alone_at_zero c.args.formula.now c.args.state.now e c.args.learned.now.lits c.args.learned.now.back_level l.search l.taught (omega (arith, n, one)) in
          c.go_back.ensures.back.back.level ∙ zero;
      fits = c.go_back.ensures.back.watched.fits;
      watched = subst (λ xs. 2 ≤ length xs → CanBeWatched back.watches.variables back.trail xs) (sym c.as_slice.ensures)
          (can_be_watched c.args.formula.now c.args.state.now e c.args.learned.now.lits c.args.learned.now.back_level l.search l.taught back e_back ties c.go_back.ensures.back.watched c.go_back.ensures.back.back);
      put = record {
        high = subst (λ xs. (literal_at xs 0).variable ≤ back.trail.variables) (sym c.as_slice.ensures)
            (first_is_high c.args.formula.now c.args.state.now e c.args.learned.now.lits c.args.learned.now.back_level l.search l.taught back e_back ties c.go_back.ensures.back.watched c.go_back.ensures.back.back);
        free = subst (λ xs. IsOpenIn back.trail.entries (literal_at xs 0).variable) (sym c.as_slice.ensures)
            (first_is_open c.args.formula.now c.args.state.now e c.args.learned.now.lits c.args.learned.now.back_level l.search l.taught back e_back ties c.go_back.ensures.back.watched c.go_back.ensures.back.back);
      };
    }

pub returns-clause-stands : goal.returns-clause-stands
returns-clause-stands g c = on_ok _ c.enter.result c.enter.ensures (λ enters told l.
    let f = c.args.formula.now in
    let e = g.P.ParityEngine.state c.args.engine.now in
    let learned = c.args.learned.now in
    let tidies : c.enter.new.state.tidies ≡ c.args.state.now.tidies = elim enters [ inl (one, unit) ↦ unit.put.tidies ∙ c.go_back.ensures.back.counts.tidies | inr (several, clause) ↦ clause.put.tidies ∙ c.go_back.ensures.back.counts.tidies ] in
    let now = enters_stands f c.args.state.now e learned.lits learned.back_level l.search l.taught
    c.go_back.new.state (g.P.ParityEngine.state c.go_back.new.engine) (c.go_back.ensures.back.ties l.taught.rows l.search l.taught.search l.taught.ties) c.go_back.ensures.back.watched c.go_back.ensures.back.back
    c.bump.new.order c.bump.ensures.standing c.bump.ensures.scores c.enter.new.state learned.lbd l.hints c.go_back.ensures.back.counts c.go_back.ensures.back.units
    (subst (λ xs. Enters (record c.go_back.new.state { order = c.bump.new.order; next = c.go_back.new.state.next + 1; conflicts = c.go_back.new.state.conflicts + 1; learned = c.go_back.new.state.learned + 1 }) c.enter.new.state xs c.go_back.new.state.next learned.lbd) c.as_slice.ensures enters) in (
      after_round l.search c.args.state.now.next (integers_of learned.lits) l.hints learned.back_level l.taught.first,
      subst (λ b. IsSearchIn b f (g.P.ParityEngine.state c.go_back.new.engine).parities (after_round l.search c.args.state.now.next (integers_of learned.lits) l.hints learned.back_level l.taught.first)) (sym tidies)
          (subst (λ ps. IsSearchIn c.args.state.now.tidies f ps (after_round l.search c.args.state.now.next (integers_of learned.lits) l.hints learned.back_level l.taught.first)) (sym c.go_back.ensures.back.parities) (round_is_search f c.args.state.now e learned.lits learned.back_level l.search l.taught l.hints l.right)),
      l.told_is,
      now.0,
      now.1,
    ))

pub returns-clause-tidies : goal.returns-clause-tidies
returns-clause-tidies g c = on_ok _ c.enter.result c.enter.ensures (λ enters. elim enters [
  | inl (one, unit) ↦ unit.put.tidies ∙ c.go_back.ensures.back.counts.tidies
  | inr (several, clause) ↦ clause.put.tidies ∙ c.go_back.ensures.back.counts.tidies
])

pub returns-clause-level : goal.returns-clause-level
returns-clause-level g c = on_ok _ c.enter.result c.enter.ensures (λ enters. elim enters [
  | inl (one, unit) ↦ ap (λ (t : TrailState). t.level) unit.put.trail ∙ c.go_back.ensures.back.back.level
  | inr (several, clause) ↦ ap (λ (t : TrailState). t.level) clause.put.trail ∙ c.go_back.ensures.back.back.level
])

pub overflow_add-state-3 : goal.overflow_add-state-3
overflow_add-state-3 g c =
    let counts = c.requires.learned.1.taught.ties.counts in
    let many = counts.many in
    let short = falling_short c.args.state.now.next c.requires.learned.1.search.moment.learned counts.falling in
    let room = c.requires.learned.1.taught.room in
    let same = c.go_back.ensures.back.counts.learned in
    omega (arith, many, short, room, same)

-- a literal that is put on the trail opens no level
put_keeps : (constraints : List Constraint) (a : Assumptions) (t : TrailState) → KeepsAssumptions constraints a t → IsTrail t → (l : Literal) (reason : Reason) (u : TrailState) → u ≡ pushed t t.level l reason → IsTrail u → KeepsAssumptions constraints a u
put_keeps constraints a t k ok l reason u is ok_u = extended_keeps constraints a t k ok u (record { literal = l; level = t.level; reason = reason } ∷ []) (ap (λ (x : TrailState). x.entries) is) (ap (λ (x : TrailState). x.level) is)
    (ap (λ (x : TrailState). x.variables) is) ok_u

pub returns-clause-keeps : goal.returns-clause-keeps
returns-clause-keeps g c = on_ok _ c.enter.result c.enter.ensures (λ enters constraints k.
    let l = c.requires.learned.1 in
    let ok : IsTrail c.go_back.new.state.trail = (c.go_back.ensures.back.ties l.taught.rows l.search l.taught.search l.taught.ties).trail.follows.sound in
    let kept = c.go_back.ensures.keeps constraints k in
    elim enters [
      | inl (one, unit) ↦ put_keeps constraints c.go_back.new.assumptions c.go_back.new.state.trail kept ok _ _ c.enter.new.state.trail unit.put.trail unit.put.sound
      | inr (several, clause) ↦ put_keeps constraints c.go_back.new.assumptions c.go_back.new.state.trail kept ok _ _ c.enter.new.state.trail clause.put.trail clause.put.sound
    ])
