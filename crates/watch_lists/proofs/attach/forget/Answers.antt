use Rattle.std.proofs.Common.{ℕ, List, take, ap, refl, ◌∙◌, subst, sym, arith}
use Rattle.cx_trail.proofs.ValueLaws.{not_both}
use Rattle.watch_lists.specs.Attaching.{IsForgotten}
use Rattle.watch_lists.proofs.AttachLaws.{forgets_guarded, forgets_none, forgets_level}
use Rattle.watch_lists.proofs.attach.forget.Goals as goal

pub returns-in-True-clause-forgotten : goal.returns-in-True-clause-forgotten
returns-in-True-clause-forgotten c =
    forgets_guarded c.args.trail.now c.args.first c.args.second c.args.looked.now.items c.in-True.ensures.means c.in-True.ensures.sound c.requires.second c.requires.behind

pub returns-in-True-truth : goal.returns-in-True-truth
returns-in-True-truth c =
    let t = c.args.trail.now in
    record {
      forgotten = forgets_none t c.args.first c.args.second c.args.looked.now.items (not_both t c.args.second c.in-True-truth.ensures.sound c.in-True-truth.ensures.means) c.requires.behind;
      room = refl;
    }

pub returns-else-level-eq0-clause-forgotten : goal.returns-else-level-eq0-clause-forgotten
returns-else-level-eq0-clause-forgotten c =
    let t = c.args.trail.now in
    let looked = c.args.looked.now.items in
    let e = c.level-level.ensures.level in
    subst (λ (xs : List ℕ). IsForgotten t c.args.first c.args.second looked xs) (sym (c.truncate.ensures.items ∙ ap (λ n. take n looked) e))
    (forgets_level t c.args.first c.args.second looked (omega (arith, e, c.if-level-eq0.false)) c.requires.behind c.requires.second)
