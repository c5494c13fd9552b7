use Rattle.std.proofs.Common.{[], ◌∷◌, arith}
use Rattle.cx_texts.specs.Words.{placed_words}
use Rattle.cx_texts.specs.Grammar.{id}
use Rattle.step_text.specs.Taking.{fields_of_pairs}
use Rattle.step_text.proofs.ShortLaws.{taken_shorten}
use Rattle.step_text.proofs.TakingLaws.{more_pairs, one_more_pair, closed_pairs, pairs_refused, second_refused}
use Rattle.step_text.proofs.fields.take_moves.Goals as goal

pub returns-in-Ok-None : goal.returns-in-Ok-None
returns-in-Ok-None c =
    let t = c.in-Ok.ensures in
    rw c.from_vec.ensures
    (closed_pairs _ _ _ _ (more_pairs c.loop-members.members.items t.0 c.take_short_moves.new.members.items (placed_words c.args.tokens.now) (placed_words c.loop-members.tokens) (placed_words c.take_short_moves.new.self) t.1 c.loop-members.invariant t.2) (rw c.in-Ok-None.field-0-is at c.in-Ok-None.ensures.taken))

pub returns-in-Err-take_listed_id : goal.returns-in-Err-take_listed_id
returns-in-Err-take_listed_id c =
    let t = c.in-Ok.ensures in
    pairs_refused _ _ _ _ _ (more_pairs c.loop-members.members.items t.0 c.take_short_moves.new.members.items (placed_words c.args.tokens.now) (placed_words c.loop-members.tokens) (placed_words c.take_short_moves.new.self) t.1 c.loop-members.invariant t.2) c.in-Err-take_listed_id.ensures.taken

pub returns-in-Err-take_id : goal.returns-in-Err-take_id
returns-in-Err-take_id c =
    let t = c.in-Ok.ensures in
    second_refused _ _ _ _ _ _ _ (more_pairs c.loop-members.members.items t.0 c.take_short_moves.new.members.items (placed_words c.args.tokens.now) (placed_words c.loop-members.tokens) (placed_words c.take_short_moves.new.self) t.1 c.loop-members.invariant t.2) (rw c.in-Ok-Some.field-0-is at c.in-Ok-Some.ensures.taken) c.in-Err-take_id.ensures

pub loop-members-smaller : goal.loop-members-smaller
loop-members-smaller c =
    let t = c.in-Ok.ensures in
    let behind = taken_shorten (id c.in-Ok-take_id.to ∷ []) c.take_listed_id.new.tokens c.take_id.new.tokens c.in-Ok-take_id.ensures in
    omega (arith, taken_shorten (fields_of_pairs t.0) c.loop-members.tokens c.take_short_moves.new.self t.2, c.in-Ok-Some.ensures.falls, behind)

pub loop-members-preserved : goal.loop-members-preserved
loop-members-preserved c =
    let t = c.in-Ok.ensures in
    rw c.in-Ok-push.ensures.items
    (one_more_pair _ _ _ _ _ _ (more_pairs c.loop-members.members.items t.0 c.take_short_moves.new.members.items (placed_words c.args.tokens.now) (placed_words c.loop-members.tokens) (placed_words c.take_short_moves.new.self) t.1 c.loop-members.invariant t.2) (rw c.in-Ok-Some.field-0-is at c.in-Ok-Some.ensures.taken) c.in-Ok-take_id.ensures)
