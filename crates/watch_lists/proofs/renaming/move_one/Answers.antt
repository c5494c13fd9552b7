use Rattle.std.proofs.Common.{◌≡◌, ◌+◌, ◌*◌, ◌≤◌, List, false, Some, set, subst, sym, ap, ◌∙◌, refl}
use Rattle.std.proofs.lemmas.List.{get_or_read}
use Rattle.cx_base.specs.Moved.{moved_to}
use Rattle.watch_lists.specs.declared.lists.Side.{Side}
use Rattle.watch_lists.specs.Walking.{AreOf}
use Rattle.watch_lists.proofs.AttachLaws.{over_entered}
use Rattle.watch_lists.proofs.RenamedLaws.{renamed_past, renamed_more}
use Rattle.watch_lists.proofs.renaming.move_one.Goals as goal

pub returns-in-Some-clause-below : goal.returns-in-Some-clause-below
returns-in-Some-clause-below c held attached p =
    let r = c.requires in
    let place = c.args.place in
    let h = c.args.lists.now.held in
    let b = c.args.nodes.now.attached.items in
    let to = c.place-to.result in
    let goes : moved_to c.args.moved.now place ≡ Some to = ap (moved_to c.args.moved.now) (sym c.new.ensures) ∙ sym c.to.ensures ∙ c.in-Some.is ∙ ap (λ x. Some x) (sym c.place-to.ensures) in
    renamed_more c.args.moved.now place to held attached h _ b _ c.index-attached.result.now c.side-first.result c.side-second.result r.lowered goes r.pairs r.room
    (sym (get_or_read b place _ r.room c.index-attached.ensures false))
    (sym c.side-first.ensures) (sym c.side-second.ensures)
    (c.watch-in-Some.ensures.held ∙ ap (λ (xs : List Side). set xs (2 * to + 1) c.side-second.result) c.watch.ensures.held) refl p

pub returns-in-Some-clause-over : goal.returns-in-Some-clause-over
returns-in-Some-clause-over c vars k =
    let h = c.args.lists.now.held in
    let place = c.args.place in
    let to = c.place-to.result in
    let b1 = subst (λ (x : Side). x.watched.variable ≤ vars) (sym c.side-first.ensures) (k (2 * place)) in
    let b2 = subst (λ (x : Side). x.watched.variable ≤ vars) (sym c.side-second.ensures) (k (2 * place + 1)) in
    subst (AreOf vars) (sym (c.watch-in-Some.ensures.held ∙ ap (λ (xs : List Side). set xs (2 * to + 1) c.side-second.result) c.watch.ensures.held))
    (over_entered vars h to c.side-first.result c.side-second.result b1 b2 k)

pub returns-in_default-clause-below : goal.returns-in_default-clause-below
returns-in_default-clause-below c held attached p =
    renamed_past c.args.moved.now c.args.place held attached c.args.lists.now.held c.args.nodes.now.attached.items _ c.requires.lowered
    (ap (moved_to c.args.moved.now) (sym c.new.ensures) ∙ sym c.to.ensures ∙ c.in_default.is) c.requires.room refl p
