use Rattle.std.proofs.Common.{◌≡◌, ◌+◌, ◌*◌, ◌≤◌, ◌∙◌, refl, sym, ap, subst, ℕ, [], ◌∷◌, ◌++◌, length, arith}
use Rattle.clause_arena.specs.Clauses.{IsLive}
use Rattle.clause_tidy.specs.declared.look.Look.{Look}
use Rattle.clause_tidy.specs.declared.room.TidyRoom.{TidyRoom}
use Rattle.clause_tidy.specs.Indexes.{IsIndexed}
use Rattle.clause_tidy.specs.Marks.{AreClear}
use Rattle.clause_tidy.specs.Rooms.{IsWaiting}
use Rattle.clause_tidy.proofs.RoomLaws.{still_indexed, new_is_known, due_with_none, due_with_one}
use Rattle.clause_tidy.proofs.room.TidyRoom.admit.Goals as goal

pub returns-then-before-len : goal.returns-then-before-len
returns-then-before-len c =
    let w = c.requires.room in
    let a = w.0 in
    let b = c.args.arena.now in
    let room = c.args.self.now in
    let was = w.1 in
    let same = c.if-before-len.true in
    let long = c.len.ensures.len in
    let eq : length a.clauses ≡ length b.clauses = omega (arith, was, same, long) in
    record {
      indexed = subst (λ n. IsIndexed b room.index.first n room.index.lists room.index.chosen.items room.index.signatures.items) eq (still_indexed a b w.2 room.index.first room.index.lists room.index.chosen.items room.index.signatures.items w.3.indexed);
      first = w.3.first;
      from = let from = w.3.from in omega (arith, from, eq);
      marks = w.3.marks;
      clear = w.3.clear;
      place = w.3.place;
      due = due_with_none a b w.2 room room w.3.due w.3.from (λ p k. k) refl refl refl (omega (arith, eq)) refl;
    }

pub enter-requires-clause-indexed : goal.enter-requires-clause-indexed
enter-requires-clause-indexed c =
    let w = c.requires.room in
    let index = c.args.self.now.index in
    subst (λ n. IsIndexed c.args.arena.now index.first n index.lists index.chosen.items index.signatures.items) (sym w.1 ∙ sym c.new-clause.ensures) (still_indexed w.0 c.args.arena.now w.2 index.first index.lists index.chosen.items index.signatures.items w.3.indexed)

pub enter-requires-clause-known : goal.enter-requires-clause-known
enter-requires-clause-known c =
    let w = c.requires.room in
    let a = w.0 in
    let index = c.args.self.now.index in
    let r = c.new-clause.result in
    let was = w.1 in
    let is = c.new-clause.ensures in
    let past : length a.clauses ≤ r = omega (arith, was, is) in
    λ live. new_is_known a c.args.arena.now w.2 index.first index.lists index.chosen.items index.signatures.items w.3.indexed r past live

pub returns : goal.returns
returns c =
    let w = c.requires.room in
    let a = w.0 in
    let b = c.args.arena.now in
    let old = c.args.self.now in
    let mid = c.enter.new.self in
    let new : TidyRoom = record { index = mid.index; look = mid.look; from = mid.from; passed = mid.passed; queue = mid.queue; place = mid.place; found = c.push.new.self } in
    let r = c.new-clause.result in
    let is : r ≡ length a.clauses = c.new-clause.ensures ∙ w.1 in
    let entered = c.in_ok-enter.ensures in
    let kept = c.enter.ensures.keeps in
    let was = w.1 in
    let grown = w.2.grown in
    let other = c.if-before-len.false in
    let few = c.requires.few in
    let long = c.len.ensures.len in
    let all : r + 1 ≡ length b.clauses = omega (arith, is, was, grown, other, few, long) in
    let place = w.3.place in
    let same = kept.place in
    let longer = entered.longer in
    let first = w.3.first in
    let old_in = w.3.from in
    let same_first = kept.first in
    let same_from = kept.from in
    record {
      indexed = subst (λ n. IsIndexed b mid.index.first n mid.index.lists mid.index.chosen.items mid.index.signatures.items) all entered.indexed;
      first = omega (arith, first, same_first, same_from);
      from = omega (arith, old_in, same_from, grown);
      marks = ap (λ (l : Look). length l.marks.items) kept.look ∙ w.3.marks ∙ ap (λ (n : ℕ). 2 * n) (sym entered.lists);
      clear = subst (λ (l : Look). AreClear l.marks.items) (sym kept.look) w.3.clear;
      place = omega (arith, place, same, longer);
      due = due_with_one a b w.2 old new w.3.due old_in (λ p k. subst (λ n. IsWaiting mid.queue.items n p) (sym kept.place) (entered.kept old.place p k)) kept.look kept.from kept.passed (omega (arith, all, is))
          (λ live. subst (λ n. IsWaiting mid.queue.items n (length a.clauses)) (sym kept.place)
          (subst (λ (x : ℕ). IsWaiting mid.queue.items old.place x) is (entered.waits old.place (omega (arith, old_in, is)) (subst (λ (x : ℕ). IsLive b x) (sym is) live) place)))
          (c.in_ok-push.ensures.items ∙ ap (λ (v : _). v.items ++ r ∷ []) kept.found ∙ ap (λ (x : ℕ). old.found.items ++ x ∷ []) is);
    }
