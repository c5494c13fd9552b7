use Rattle.std.proofs.Common.{◌≡◌, ◌<◌, ◌≤◌, ◌+◌, ◌*◌, ℕ, List, Bool, length, refl, sym, ap, ◌∙◌, subst, arith}
use Rattle.std.proofs.lemmas.List.{get_or_read, length-set, length-append}
use Rattle.clause_arena.specs.Clauses.{IsLive}
use Rattle.cx_base.specs.Literals.{Literal, negate}
use Rattle.cx_trail.specs.declared.entry.Entry.{Entry}
use Rattle.cx_trail.specs.Sequence.{entry_at}
use Rattle.cx_trail.proofs.ValueLaws.{entry_kept}
use Rattle.watch_lists.specs.Watching.{looked_at, IsAttached}
use Rattle.watch_lists.specs.Walking.{IsConflict, AllPassed}
use Rattle.watch_lists.proofs.NodeLaws.{propagates_both, propagates_none}
use Rattle.watch_lists.proofs.WalkLaws.{behind_further}
use Rattle.watch_lists.proofs.EventLaws.{quiet_from, advance_behind, advance_guarded, goes_same, rest_same}
use Rattle.cx_base.proofs.LiteralLaws.{negate-negate}
use Rattle.watch_lists.proofs.event.propagate.Goals.{At-ahead, After-index-head}
use Rattle.watch_lists.proofs.event.propagate.Goals as goal

pub returns-in-Some-clause-propagates : goal.returns-in-Some-clause-propagates
returns-in-Some-clause-propagates c =
    let i = c.ahead.invariant in
    let g = goes_same _ _ c.args.nodes.now.attached.items _ _ _ _ (c.read_next.ensures ∙ i.attached) c.in-Some.ensures.goes in
    propagates_both _ _ _ c.ahead.trail _ i.propagates g.propagates

pub ahead-preserved : goal.ahead-preserved
ahead-preserved c =
    let i = c.ahead.invariant in
    let attached = c.args.nodes.now.attached.items in
    let u = c.walk_list.new.trail in
    let looked = c.ahead.looked.items in
    let top = c.level-top.result in
    let head = c.index-head.result.now in
    let g = goes_same _ _ attached _ _ _ _ (c.read_next.ensures ∙ i.attached) c.in-None.ensures.goes in
    let p = g.propagates in
    let et : top ≡ u.level = c.level-top.ensures.level ∙ sym i.propagates.level ∙ sym p.level in
    let el : length looked ≡ top + 1 = omega (arith, i.top, c.requires.top, c.level-top.ensures.level) in
    let eh : looked_at looked top ≡ head = sym (get_or_read looked top _ (omega arith) c.index-head.ensures 0) in
    let eh' : c.index.result.now ≡ looked_at looked top = get_or_read looked top _ (omega arith) c.index.ensures 0 in
    let in_t : head < length c.ahead.trail.entries = omega (arith, c.ahead-test.true, c.len.ensures.len) in
    let in_u : head < length u.entries = omega (arith, ap length p.grown, length-append c.ahead.trail.entries p.more) in
    let same : entry_at u.entries head ≡ entry_at c.ahead.trail.entries head = ap (λ (xs : List Entry). entry_at xs head) p.grown ∙ entry_kept c.ahead.trail.entries p.more head in_t in
    let ea : c.negate.result ≡ negate (entry_at u.entries head).literal = c.negate.ensures ∙ ap (λ (x : Entry). negate x.literal) (c.entry-entry.ensures.is ∙ sym same) in
    let passed = subst (λ (b : List Bool). AllPassed c.walk_list.new.lists.held b u c.negate.result) (c.read_next.ensures ∙ i.attached) c.in-None.ensures.walked in
    let ok = c.len-count.ensures.sound in
    let b = behind_further looked attached c.args.arena.now c.ahead.trail u p i.looked.behind in
    record {
      attached = c.in-None.ensures.attached ∙ (c.read_next.ensures ∙ i.attached);
      top = length-set looked top (head + 1) ∙ i.top;
      room = i.room;
      looked = record {
        rest = rest_same _ _ _ attached _ _ _ i.propagates.variables (c.read_next.ensures ∙ i.attached) c.in-None.ensures.rest;
        behind = advance_behind looked u top head ok b et el in_u;
        guarded = advance_guarded looked _ attached u top head c.negate.result ok et el eh ea passed (g.guarded looked i.looked.behind i.looked.guarded);
      };
      propagates = propagates_both _ _ _ c.ahead.trail _ i.propagates p;
    }

pub returns-clause-happens : goal.returns-clause-happens
returns-clause-happens c =
    let i = c.ahead.invariant in
    let top = c.level-top.result in
    let ht : top < length c.ahead.looked.items = omega (arith, i.top, c.requires.top, c.level-top.ensures.level) in
    let e : c.index.result.now ≡ looked_at c.ahead.looked.items top = get_or_read c.ahead.looked.items top _ ht c.index.ensures 0 in
    quiet_from _ _ _ _ c.ahead.looked.items _ top i.looked.rest.nodes i.looked.guarded ht (omega (arith, c.ahead-test.false, c.len.ensures.len))

-- what the loop keeps, at its head and after it
top_in : (c : At-ahead) → c.level-top.result < c.ahead.looked.len
top_in c = omega (arith, c.ahead.looked.ok.0, c.ahead.invariant.top, c.requires.top, c.level-top.ensures.level)

head_in : (c : After-index-head) → c.index-head.result.now < length c.ahead.trail.entries
head_in c =
    let looked = c.ahead.looked.items in
    let lt : c.level-top.result < length looked = omega (arith, c.ahead.invariant.top, c.requires.top, c.level-top.ensures.level) in
    let first = get_or_read looked c.level-top.result _ lt c.index.ensures 0 in
    let again = get_or_read looked c.level-top.result _ lt c.index-head.ensures 0 in
    omega (arith, c.ahead-test.true, c.len.ensures.len, first, again)

pub ahead-init : goal.ahead-init
ahead-init c =
    let r = c.requires in
    record {
      attached = refl;
      top = refl;
      looked = r.looked;
      room = refl;
      propagates = propagates_none c.args.nodes.now.attached.items c.args.arena.now c.args.trail.now;
    }

pub index-requires : goal.index-requires
index-requires c = top_in c

pub index-head-requires : goal.index-head-requires
index-head-requires c = top_in (goal.at.index-head-requires c).At-ahead

pub index_mut-requires : goal.index_mut-requires
index_mut-requires c = top_in (goal.at.index_mut-requires c).At-ahead

pub entry-entry-requires : goal.entry-entry-requires
entry-entry-requires c = head_in (goal.at.entry-entry-requires c).After-index-head

pub read_next-requires-clause-size : goal.read_next-requires-clause-size
read_next-requires-clause-size c =
    let i = c.ahead.invariant in
    i.looked.rest.size ∙ ap (λ n. 2 * n + 2) (sym i.propagates.variables)

pub walk_list-requires-clause-high : goal.walk_list-requires-clause-high
walk_list-requires-clause-high c =
    let high = c.entry-entry.ensures.sound.high c.index-head.result.now (head_in (goal.at.walk_list-requires-clause-high c).After-index-head) in
    subst (λ (l : Literal). l.variable ≤ c.ahead.trail.variables) (sym c.negate.ensures) (subst (λ (e : Entry). e.literal.variable ≤ c.ahead.trail.variables) (sym c.entry-entry.ensures.is) high)

pub walk_list-requires-clause-rest : goal.walk_list-requires-clause-rest
walk_list-requires-clause-rest c =
    let i = c.ahead.invariant in
    rest_same _ _ _ _ _ _ _ (sym i.propagates.variables) (sym (c.read_next.ensures ∙ i.attached)) i.looked.rest

pub returns-clause-attached : goal.returns-clause-attached
returns-clause-attached c = c.ahead.invariant.attached

pub returns-clause-top : goal.returns-clause-top
returns-clause-top c = c.ahead.invariant.top

pub returns-clause-room : goal.returns-clause-room
returns-clause-room c = c.ahead.invariant.room

pub returns-clause-propagates : goal.returns-clause-propagates
returns-clause-propagates c = c.ahead.invariant.propagates

pub returns-in-Some-clause-attached : goal.returns-in-Some-clause-attached
returns-in-Some-clause-attached c = c.in-Some.ensures.attached ∙ (c.read_next.ensures ∙ c.ahead.invariant.attached)

pub returns-in-Some-clause-room : goal.returns-in-Some-clause-room
returns-in-Some-clause-room c = c.ahead.invariant.room

pub returns-in-Some-clause-top : goal.returns-in-Some-clause-top
returns-in-Some-clause-top c = c.ahead.invariant.top

pub walk_list-requires-clause-falsified : goal.walk_list-requires-clause-falsified
walk_list-requires-clause-falsified c =
    let l = c.entry-entry.result.literal in (
      c.index-head.result.now,
      (
        head_in (goal.at.walk_list-requires-clause-falsified c).After-index-head,
        sym (ap (λ (e : Entry). e.literal) c.entry-entry.ensures.is) ∙ sym (negate-negate l) ∙ ap negate (sym c.negate.ensures),
      ),
    )

pub returns-in-Some-clause-happens : goal.returns-in-Some-clause-happens
returns-in-Some-clause-happens c = subst (λ (b : List Bool). IsConflict b c.args.arena.now c.walk_list.new.trail c.in-Some.reference) (c.read_next.ensures ∙ c.ahead.invariant.attached) c.in-Some.ensures.walked

pub returns-clause-looked : goal.returns-clause-looked
returns-clause-looked c = c.ahead.invariant.looked

pub returns-in-Some-clause-looked : goal.returns-in-Some-clause-looked
returns-in-Some-clause-looked c =
    let i = c.ahead.invariant in
    let looked = c.ahead.looked.items in
    let attached = c.args.nodes.now.attached.items in
    let g = goes_same _ _ attached _ _ _ _ (c.read_next.ensures ∙ i.attached) c.in-Some.ensures.goes in
    record {
      rest = rest_same _ _ _ _ _ _ _ i.propagates.variables (c.read_next.ensures ∙ i.attached) c.in-Some.ensures.rest;
      behind = behind_further looked attached c.args.arena.now c.ahead.trail _ g.propagates i.looked.behind;
      guarded = g.guarded looked i.looked.behind i.looked.guarded;
    }

pub read_next-requires-clause-live : goal.read_next-requires-clause-live
read_next-requires-clause-live c =
    let i = c.ahead.invariant in
    subst (λ (xs : List Bool). (r : ℕ) → IsAttached xs r → IsLive c.args.arena.now r) (sym i.attached) i.looked.rest.nodes.live

pub read_next-requires-clause-pairs : goal.read_next-requires-clause-pairs
read_next-requires-clause-pairs c =
    let i = c.ahead.invariant in
    i.looked.rest.nodes.pairs ∙ ap (λ (xs : List Bool). 2 * length xs) (sym i.attached)
