use Rattle.std.proofs.Common.{◌≡◌, ◌+◌, List, [], Option, sym, ap, ◌∙◌, subst, true≢false}
use Rattle.cx_base.specs.declared.steps.LogEvent.{LogEvent}
use Rattle.cx_trail.specs.Sequence.{pushed}
use Rattle.cx_trail.specs.declared.entry.Reason.TheVariants.{Decision}
use Rattle.parity_engine.specs.State.{State}
use Rattle.cdcl_search.specs.declared.state.SearchState.{SearchState}
use Rattle.cdcl_search.specs.Ties.{SearchStands}
use Rattle.cdcl_search.proofs.Decisions.{decided_stands, settled_has_no_open, has_room, all_have_units}
use Rattle.cdcl_search.proofs.deciding.decide.Goals as goal

pub returns-in_default-clause-stays : goal.returns-in_default-clause-stays
returns-in_default-clause-stays g c = let o = c.if-is_full.ensures.full in absurd (c.in_default.ensures.literal o.0 o.1 o.2 o.3)

pub returns-in_default-clause-full : goal.returns-in_default-clause-full
returns-in_default-clause-full g c = λ none. let o = c.if-is_full.ensures.full in absurd (c.in_default.ensures.literal o.0 o.1 o.2 o.3)

pub push_level-requires-clause-room : goal.push_level-requires-clause-room
push_level-requires-clause-room g c =
    has_room c.args.formula.now c.args.state.now (g.P.ParityEngine.state c.args.engine.now) c.requires.stands.0 c.requires.quiet c.requires.stands.1
    (λ is. true≢false (sym (c.is_full.ensures.count.1 is) ∙ c.if-is_full.false))

pub returns-clause-stays : goal.returns-clause-stays
returns-clause-stays g c =
    let old = c.args.state.now in
    let now = c.next_decision.new.state in
    let l = c.in-Some.literal in
    let same = c.next_decision.ensures.reordered.same in
    let opens : c.decide.new.self ≡ pushed old.trail (old.trail.level + 1) l Decision = c.decide.ensures.pushed ∙ ap (λ (k : SearchState). pushed k.trail (k.trail.level + 1) l Decision) same in
    let stays = λ (told : Option (List LogEvent)) (stands : SearchStands c.args.formula.now old (g.P.ParityEngine.state c.args.engine.now) [] told).
    subst (λ (k : SearchState). SearchStands c.args.formula.now (record k { trail = c.decide.new.self }) (g.P.ParityEngine.state c.push_level.new.self) [] told) (sym same)
    (decided_stands c.args.formula.now old (g.P.ParityEngine.state c.args.engine.now) told c.requires.quiet (all_have_units c.args.formula.now old (g.P.ParityEngine.state c.args.engine.now) told stands c.args.assumptions.now c.requires.checked c.requires.units)
    now.order c.next_decision.ensures.reordered.stand l c.in-Some.ensures.literal.no_value c.decide.new.self opens c.decide.ensures.sound (g.P.ParityEngine.state c.push_level.new.self) c.push_level.ensures stands) in
    record { stands = stays; unbroken = λ broken. cc (c.requires.quiet.3, sym (ap (λ (s : State). s.mood) c.push_level.ensures) ∙ broken); tidies = ap (λ (k : SearchState). k.tidies) same }

pub returns-clause-settled : goal.returns-clause-settled
returns-clause-settled g c settled =
    let next = c.in-Some.ensures.literal in
    absurd (settled_has_no_open c.args.formula.now c.args.state.now (g.P.ParityEngine.state c.args.engine.now) c.requires.stands.0 c.requires.quiet c.requires.stands.1 settled c.in-Some.literal.variable next.low next.high next.no_value)
