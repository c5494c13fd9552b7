use Rattle.std.proofs.Common.{◌≡◌, refl, ap, ◌∙◌, inl, inr}
use Rattle.cx_semantics.specs.Moves.{put_moved}
use Rattle.proof_rules.specs.Moving.{values_for}
use Rattle.proof_rules.proofs.MovingLaws.{not_there, all_there, in_use, none_in_use}
use Rattle.proof_rules.proofs.id_map.IdMap.judge_and_move.Goals as goal

pub returns-then-not-take_all_out-clause-judged : goal.returns-then-not-take_all_out-clause-judged
returns-then-not-take_all_out-clause-judged g c = inl (not_there c.args.self.now c.args.moves.now c.take_all_out.result c.take_all_out.ensures.judged c.if-not-take_all_out.true, refl)

pub put_all_in-requires : goal.put_all_in-requires
put_all_in-requires g c = (c.args.self.now, c.deref.ensures.value ∙ c.in_ok-found.ensures)

pub returns-then-not-branch-clause-judged : goal.returns-then-not-branch-clause-judged
returns-then-not-branch-clause-judged g c =
    let first = c.args.self.now in
    let moves = c.args.moves.now in
    let same : c.deref.result.now ≡ values_for first moves = c.deref.ensures.value ∙ c.in_ok-found.ensures in
    let old = all_there first moves c.take_all_out.result c.take_all_out.ensures.judged c.if-not-take_all_out.false in
    let out = c.take_all_out.ensures.out c.if-not-take_all_out.false in
    let told = c.in_ok-put_all_in.ensures.judged first same in
    inr (old, inl (in_use first moves c.in_ok-put_all_in.field-0 c.take_all_out.new.values out old told c.if-not-branch.true, refl))

pub returns-clause-judged : goal.returns-clause-judged
returns-clause-judged g c =
    let first = c.args.self.now in
    let moves = c.args.moves.now in
    let same : c.deref.result.now ≡ values_for first moves = c.deref.ensures.value ∙ c.in_ok-found.ensures in
    let old = all_there first moves c.take_all_out.result c.take_all_out.ensures.judged c.if-not-take_all_out.false in
    let out = c.take_all_out.ensures.out c.if-not-take_all_out.false in
    let told = c.in_ok-put_all_in.ensures.judged first same in
    (old, (none_in_use first moves c.in_ok-put_all_in.field-0 c.take_all_out.new.values out old told c.if-not-branch.false, tt))

pub returns-clause-moved : goal.returns-clause-moved
returns-clause-moved g c =
    let first = c.args.self.now in
    let moves = c.args.moves.now in
    let same : c.deref.result.now ≡ values_for first moves = c.deref.ensures.value ∙ c.in_ok-found.ensures in
    let out = c.take_all_out.ensures.out c.if-not-take_all_out.false in
    c.in_ok-put_all_in.ensures.put c.if-not-branch.false first same ∙ ap (λ t. put_moved first t moves) out
