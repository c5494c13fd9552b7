use Rattle.std.proofs.Common.{ℕ, ◌<◌, Bool, List, length, sym, ap, subst, arith}
use Rattle.watch_lists.specs.declared.lists.Side.{Side}
use Rattle.watch_lists.specs.Watching.{partner}
use Rattle.watch_lists.specs.Visits.{IsRewatched}
use Rattle.std.specs.List.{Contains}
use Rattle.watch_lists.specs.Lists.{list_at, IsFlagged, IsLinked}
use Rattle.watch_lists.proofs.walk.move_node.Goals as goal

pub relink-requires-clause-free : goal.relink-requires-clause-free
relink-requires-clause-free c l h = c.unlink-shorter.ensures.free l (subst (λ (xs : List (List ℕ)). Contains (list_at xs l) c.args.cursor.current) c.rewatch.ensures.lists h)

pub unlink-shorter-requires-clause-cursor : goal.unlink-shorter-requires-clause-cursor
unlink-shorter-requires-clause-cursor c = c.requires.cursor.cursor

pub unlink-shorter-requires-clause-some : goal.unlink-shorter-requires-clause-some
unlink-shorter-requires-clause-some c = c.requires.cursor.some

pub rewatch-requires-clause-node : goal.rewatch-requires-clause-node
rewatch-requires-clause-node c = subst (λ (h : List Side). c.args.cursor.current < length h) (sym c.unlink-shorter.ensures.held) c.requires.cursor.node

pub rewatch-requires-clause-partner : goal.rewatch-requires-clause-partner
rewatch-requires-clause-partner c = subst (λ (h : List Side). partner c.args.cursor.current < length h) (sym c.unlink-shorter.ensures.held) c.requires.partner

pub relink-requires-clause-flagged : goal.relink-requires-clause-flagged
relink-requires-clause-flagged c = subst (λ (flags : List Bool). IsFlagged flags c.args.cursor.current) (sym c.rewatch.ensures.flags) c.unlink-shorter.ensures.flagged

pub relink-requires-clause-list : goal.relink-requires-clause-list
relink-requires-clause-list c = omega (arith, c.code.ensures.code, ap length c.rewatch.ensures.lists, c.unlink-shorter.ensures.unlinked.count, c.requires.high)

pub relink-requires-clause-node : goal.relink-requires-clause-node
relink-requires-clause-node c =
    omega (arith, c.rewatch.ensures.rewatched.count, ap length c.unlink-shorter.ensures.held, c.requires.cursor.node)

pub returns-clause-moved : goal.returns-clause-moved
returns-clause-moved c =
    let new = c.relink.new.self.lists in
    let n = c.args.cursor.current in
    record {
      between = c.unlink-shorter.new.self.lists;
      unlinked = c.unlink-shorter.ensures.unlinked;
      free = c.unlink-shorter.ensures.free;
      linked = subst (λ l. IsLinked n l c.unlink-shorter.new.self.lists new) c.code.ensures.code
          (subst (λ (xs : List (List ℕ)). IsLinked n c.code.result xs new) c.rewatch.ensures.lists c.relink.ensures.linked);
    }

pub returns-clause-shorter : goal.returns-clause-shorter
returns-clause-shorter c = c.unlink-shorter.ensures.shorter

pub returns-clause-held : goal.returns-clause-held
returns-clause-held c =
    let n = c.args.cursor.current in
    let from = subst (λ (h : List Side). IsRewatched h n c.args.literal c.rewatch.new.lists.held) c.unlink-shorter.ensures.held c.rewatch.ensures.rewatched in
    subst (λ (h : List Side). IsRewatched c.args.lists.now.held n c.args.literal h) (sym c.relink.ensures.held) from
