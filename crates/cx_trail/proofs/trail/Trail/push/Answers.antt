use Rattle.std.proofs.Common.{◌≡◌, ◌≢◌, ◌≤◌, ◌<◌, ◌+◌, List, [], ◌∷◌, ◌++◌, arith, subst, sym, refl, ap, ◌∙◌, set}
use Rattle.std.proofs.lemmas.List.{take_more_set}
use Rattle.cx_trail.specs.declared.entry.Entry.{Entry}
use Rattle.cx_trail.specs.declared.entry.Reason.TheVariants.{Decision}
use Rattle.cx_trail.specs.declared.entry.Truth.{Truth}
use Rattle.cx_trail.specs.declared.entry.Truth.TheVariants.{True, False}
use Rattle.cx_base.specs.Literals.{negate, code_of}
use Rattle.cx_trail.specs.Sequence.{TrailState, IsOpenIn}
use Rattle.cx_trail.specs.Cells.{IsKept}
use Rattle.cx_trail.proofs.FrontLaws.{front_pushed, front_sound, room_left}
use Rattle.cx_trail.proofs.trail.Trail.push.Goals as goal

pub index_mut-requires : goal.index_mut-requires
index_mut-requires c =
    let k = c.self.invariant in
    let free = subst (λ (t : TrailState). IsOpenIn t.entries c.args.literal.variable) (sym c.self.view_is) c.requires.open in
    let high = subst (λ (t : TrailState). c.args.literal.variable ≤ t.variables) (sym c.self.view_is) c.requires.high in
    let left = room_left _ _ _ _ _ _ k c.args.level (record { literal = c.args.literal; level = c.args.level; reason = c.args.reason }) (omega arith) high free in
    omega (arith, left, k.room, c.self.inside.cells.ok.0)

pub returns-clause-pushed : goal.returns-clause-pushed
returns-clause-pushed c =
    let k = c.self.invariant in
    let entry : Entry = record { literal = c.args.literal; level = c.args.level; reason = c.args.reason } in
    let free = subst (λ (t : TrailState). IsOpenIn t.entries c.args.literal.variable) (sym c.self.view_is) c.requires.open in
    let high = subst (λ (t : TrailState). c.args.literal.variable ≤ t.variables) (sym c.self.view_is) c.requires.high in
    let left = room_left _ _ _ _ _ _ k c.args.level entry (omega arith) high free in
    ap (λ (es : List Entry). record { variables = c.self.inside.vars; level = c.args.level; entries = es })
    (take_more_set c.self.inside.cells.items c.self.inside.count entry (omega (arith, left, k.room)))
    ∙ ap (λ (t : TrailState). record { variables = t.variables; level = c.args.level; entries = t.entries ++ entry ∷ [] }) c.self.view_is

pub invariant_of-self : goal.invariant_of-self
invariant_of-self c =
    let k = c.self.invariant in
    let level = c.args.level in
    let free = subst (λ (t : TrailState). IsOpenIn t.entries c.args.literal.variable) (sym c.self.view_is) c.requires.open in
    let high = subst (λ (t : TrailState). c.args.literal.variable ≤ t.variables) (sym c.self.view_is) c.requires.high in
    let rises = subst (λ (t : TrailState). t.level ≤ level) (sym c.self.view_is) c.requires.rises in
    let step = subst (λ (t : TrailState). level ≤ t.level + 1) (sym c.self.view_is) c.requires.step in
    let opens = subst (λ (t : TrailState). t.level < level → c.args.reason ≡ Decision) (sym c.self.view_is) c.requires.opens in
    let stays = subst (λ (t : TrailState). 0 < level → level ≡ t.level → c.args.reason ≢ Decision) (sym c.self.view_is) c.requires.stays in
    let cells = set c.self.inside.cells.items c.self.inside.count (record { literal = c.args.literal; level = level; reason = c.args.reason }) in
    let places = c.self.inside.places.items in
    let is : c.args.literal.variable ≡ c.number-variable.result = sym (c.number-variable.ensures.number ∙ c.var.ensures) in
    subst (λ (ts : List Truth). IsKept c.self.inside.vars level (c.self.inside.count + 1) cells (set places c.number-variable.result c.self.inside.count) ts) (sym c.set_truths.ensures)
    (subst (λ x. IsKept c.self.inside.vars level (c.self.inside.count + 1) cells (set places x c.self.inside.count) (set (set c.self.inside.truths.items (code_of c.args.literal) True) (code_of (negate c.args.literal)) False)) is
    (front_pushed _ _ _ _ _ _ k level (record { literal = c.args.literal; level = level; reason = c.args.reason }) (omega arith) high free refl rises step opens stays))

pub returns-clause-sound : goal.returns-clause-sound
returns-clause-sound c = front_sound _ _ _ _ _ _ (invariant_of-self c)
