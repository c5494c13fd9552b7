use Rattle.std.proofs.Common.{◌+◌, sym, subst, drop, get_or, List}
use Rattle.std.proofs.lemmas.List.{drop_more}
use Rattle.cx_base.specs.declared.id_moves.IdMove.{IdMove}
use Rattle.rup_engine.proofs.MovingLaws.{AreRenaming, renaming_first, renaming_last, renaming_past, renaming_next, nothing_later}
use Rattle.rup_engine.proofs.moving.rename_all.Goals.{in-Some, in_default}
use Rattle.rup_engine.proofs.moving.rename_all.Goals as goal

pub loop-place-init : goal.loop-place-init
loop-place-init c = renaming_first c.args.moves.now c.args.arena.now c.requires.apart

pub loop-place-preserved : goal.loop-place-preserved
loop-place-preserved c =
    let moves = c.args.moves.now in
    let place = c.loop-place.place in
    let none : IdMove = record { from = 0; to = 0 } in
    let m = get_or moves place none in
    let later = drop (place + 1) moves in
    let before = subst (λ (ms : List IdMove). AreRenaming moves ms c.args.arena.now c.loop-place.arena) (drop_more moves place none c.loop-place-test.true) c.loop-place.invariant in
    elim c.match-get.branch [
      | in-Some w ↦
          subst (AreRenaming moves later c.args.arena.now) (sym w.arena-is)
          (renaming_next moves later m c.args.arena.now c.loop-place.arena c.args.refs.now c.requires.named before _ w.in-Some.ensures w.rename.new.self w.rename.ensures)
      | in_default w ↦
          subst (AreRenaming moves later c.args.arena.now) (sym w.arena-is)
          (renaming_past moves later m c.args.arena.now c.loop-place.arena c.args.refs.now c.requires.named before w.in_default.ensures)
    ]

pub returns : goal.returns
returns c =
    renaming_last c.args.moves.now c.args.arena.now c.loop-place.arena
    (subst (λ (ms : List IdMove). AreRenaming c.args.moves.now ms c.args.arena.now c.loop-place.arena) (nothing_later c.loop-place.place c.args.moves.now c.loop-place-test.false) c.loop-place.invariant)
