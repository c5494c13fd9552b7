use Rattle.std.proofs.Common.{◌≡◌, ◌+◌, ◌*◌, ℕ, List, [], ◌∷◌, length, set, ap, ◌∙◌, subst, sym, arith}
use Rattle.watch_lists.specs.declared.lists.Side.{Side}
use Rattle.cx_base.proofs.LiteralLaws.{code_below}
use Rattle.watch_lists.specs.Anew.{AreChosenBelow, AreWatchable}
use Rattle.watch_lists.specs.Walking.{AreListed, AreOf}
use Rattle.watch_lists.specs.Watching.{WatchState, Fits, held_at}
use Rattle.watch_lists.proofs.AnewLaws.{chosen_fits, nothing_looked_at}
use Rattle.watch_lists.proofs.watches.Watches.attach_anew.Goals.{After-choose_all, After-truncate}
use Rattle.watch_lists.proofs.watches.Watches.attach_anew.Goals as goal

able : (c : After-choose_all) → AreWatchable c.self.inside.vars c.args.arena.now
able c = subst (λ (w : WatchState). AreWatchable w.variables c.args.arena.now) (sym c.self.view_is) c.requires

over : (c : After-choose_all) → AreOf c.self.inside.vars c.choose_all.new.lists.held
over c =
    let vars = c.self.inside.vars in
    c.choose_all.ensures.over vars (able c) (subst (AreOf vars) (sym c.clear.ensures.held) (c.make_rooms.ensures.over vars (able c) c.self.invariant.over))

size : (c : After-choose_all) → length c.choose_all.new.lists.lists ≡ 2 * c.self.inside.vars + 2
size c = ap length c.choose_all.ensures.lists ∙ c.clear.ensures.count ∙ ap length c.make_rooms.ensures.lists ∙ c.self.invariant.size

pub link_all-requires-clause-codes : goal.link_all-requires-clause-codes
link_all-requires-clause-codes c n at =
    let before = (goal.at.link_all-requires-clause-codes c).After-choose_all in
    let long = size before in
    let low = code_below (held_at c.choose_all.new.lists.held n) c.self.inside.vars (over before n) in
    omega (arith, long, low)

looked_is : (c : After-truncate) → set c.truncate.new.self.items 0 0 ≡ 0 ∷ []
looked_is c = ap (λ (xs : List ℕ). set xs 0 0) c.truncate.ensures.items ∙ nothing_looked_at c.self.inside.looked.items c.self.invariant.some

pub invariant_of-self-2 : goal.invariant_of-self-2
invariant_of-self-2 c =
    let before = (goal.at.invariant_of-self-2 c).After-choose_all in
    let lists = c.link_all.new.lists in
    let l = c.link_all.ensures in
    let i = c.self.invariant in
    let long = ap length (looked_is (goal.at.invariant_of-self-2 c).After-truncate) in
    let room = i.room_for_levels in
    let same = c.truncate.ensures.capacity in
    let pairs = c.choose_all.ensures.pairs in
    let held = ap length l.held in
    let many = l.size in
    let count = size before in
    record {
      few = i.few;
      room_for_levels = omega (arith, room, same);
      some = omega (arith, long);
      listed = subst (λ (hs : List Side). AreListed hs c.choose_all.new.nodes.attached.items lists.lists) (sym l.held) l.listed;
      size = omega (arith, many, count);
      over = subst (AreOf c.self.inside.vars) (sym l.held) (over before);
      pairs = omega (arith, held, pairs);
    }

pub returns-clause-fits : goal.returns-clause-fits
returns-clause-fits c t e =
    let before = (goal.at.returns-clause-fits c).After-choose_all in
    let vars = c.self.inside.vars in
    let a = c.args.arena.now in
    let held = c.link_all.new.lists.held in
    let attached = c.choose_all.new.nodes.attached.items in
    let l = c.link_all.ensures in
    let all = c.choose_all.ensures in
    let chosen = subst (λ n. AreChosenBelow a n held attached) (sym all.count) (subst (λ (hs : List Side). AreChosenBelow a (length c.make_rooms.new.nodes.attached.items) hs attached) (sym l.held) all.chosen) in
    subst (λ (ls : List ℕ). Fits (record { variables = vars; looked = ls; held = held; attached = attached }) a t) (sym (looked_is (goal.at.returns-clause-fits c).After-truncate))
    (chosen_fits vars a held attached (ap length l.held ∙ all.pairs) (able before) chosen t (e ∙ ap (λ (w : WatchState). w.variables) (sym c.self.view_is)))
