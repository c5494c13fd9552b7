use Rattle.std.proofs.Common.{arith}
use Rattle.cx_texts.specs.Words.{placed_words}
use Rattle.cx_texts.specs.Grammar.{integer}
use Rattle.step_text.proofs.ShortLaws.{shorts_integers, shorts_closed, shorts_taken, shorts_shorten}
use Rattle.step_text.proofs.Taken.{kept_integer}
use Rattle.step_text.proofs.TakingLaws.{one_more, closed_integers, integers_refused}
use Rattle.step_text.proofs.fields.take_integers.Goals as goal

pub from_vec-requires : goal.from_vec-requires
from_vec-requires c =
    let t = c.in-Ok-true.ensures in
    shorts_integers c.loop-members.members.items t.0 c.take_shorts.new.members.items (placed_words c.args.tokens.now) (placed_words c.loop-members.tokens) (placed_words c.take_shorts.new.self) _ t.1 c.loop-members.invariant t.2

pub returns-in-Ok-true : goal.returns-in-Ok-true
returns-in-Ok-true c =
    let t = c.in-Ok-true.ensures in
    rw c.from_vec.ensures (shorts_closed c.loop-members.members.items t.0 c.take_shorts.new.members.items (placed_words c.args.tokens.now) (placed_words c.loop-members.tokens) (placed_words c.take_shorts.new.self) _ t.1 c.loop-members.invariant t.2 c.in-Ok-true.field-0-test)

pub loop-members-smaller : goal.loop-members-smaller
loop-members-smaller c =
    let t = c.in-Ok-false.ensures in
    omega (arith, shorts_shorten c.loop-members.tokens c.take_shorts.new.self t.0 _ c.in-Ok-false.field-0-test t.2, c.in-Ok-Some.ensures.falls)

pub loop-members-preserved : goal.loop-members-preserved
loop-members-preserved c =
    let t = c.in-Ok-false.ensures in
    rw c.in-Ok.ensures.items
    (one_more integer _ _ _ _ _ (shorts_taken c.loop-members.members.items t.0 c.take_shorts.new.members.items (placed_words c.args.tokens.now) (placed_words c.loop-members.tokens) (placed_words c.take_shorts.new.self) _ t.1 c.loop-members.invariant t.2 c.in-Ok-false.field-0-test) (kept_integer _ _ _ (rw c.in-Ok-Some.field-0-is at c.in-Ok-Some.ensures.taken)))

pub from_vec-requires-in-Ok-None : goal.from_vec-requires-in-Ok-None
from_vec-requires-in-Ok-None c =
    let t = c.in-Ok-false.ensures in
    shorts_integers c.loop-members.members.items t.0 c.take_shorts.new.members.items (placed_words c.args.tokens.now) (placed_words c.loop-members.tokens) (placed_words c.take_shorts.new.self) _ t.1 c.loop-members.invariant t.2

pub returns-in-Ok-None : goal.returns-in-Ok-None
returns-in-Ok-None c =
    let t = c.in-Ok-false.ensures in
    rw c.from_vec-in-Ok-None.ensures (closed_integers _ _ _ _ (shorts_taken c.loop-members.members.items t.0 c.take_shorts.new.members.items (placed_words c.args.tokens.now) (placed_words c.loop-members.tokens) (placed_words c.take_shorts.new.self) _ t.1 c.loop-members.invariant t.2 c.in-Ok-false.field-0-test) (rw c.in-Ok-None.field-0-is at c.in-Ok-None.ensures.taken))

pub returns-in-Err-take_listed_integer : goal.returns-in-Err-take_listed_integer
returns-in-Err-take_listed_integer c =
    let t = c.in-Ok-false.ensures in
    integers_refused _ _ _ _ _ (shorts_taken c.loop-members.members.items t.0 c.take_shorts.new.members.items (placed_words c.args.tokens.now) (placed_words c.loop-members.tokens) (placed_words c.take_shorts.new.self) _ t.1 c.loop-members.invariant t.2 c.in-Ok-false.field-0-test) c.in-Err-take_listed_integer.ensures.taken
