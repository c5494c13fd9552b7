use Rattle.std.proofs.Common.{◌≡◌, ◌+◌, ◌*◌, ◌<◌, List, length, set, subst, sym, ap, ◌∙◌, refl}
use Rattle.std.specs.List.{Contains}
use Rattle.std.proofs.lemmas.Bool.{false≢true}
use Rattle.std.proofs.lemmas.List.{get_or_read}
use Rattle.std.proofs.lemmas.List.Elements.{Contains-get_or}
use Rattle.cx_base.specs.Literals.{Literal}
use Rattle.clause_arena.specs.Clauses.{IsLive, literals_at}
use Rattle.watch_lists.specs.Watching.{no_literal}
use Rattle.watch_lists.specs.declared.lists.Side.{Side}
use Rattle.watch_lists.proofs.AnewLaws.{has_front, long_side, chosen_past, chosen_more}
use Rattle.watch_lists.proofs.anew.choose_one.Goals as goal

pub returns-then-not-is_live-clause-chosen : goal.returns-then-not-is_live-clause-chosen
returns-then-not-is_live-clause-chosen c p =
    let gone : IsLive c.args.arena.now c.args.place → ⊥ = λ live. false≢true (sym c.if-not-is_live.true ∙ c.is_live.ensures.1 (subst (IsLive c.args.arena.now) (sym c.new-reference.ensures) live)) in
    chosen_past c.args.arena.now c.args.place c.args.lists.now.held c.args.nodes.now.attached.items _ c.requires.room refl gone p

pub returns-clause-chosen : goal.returns-clause-chosen
returns-clause-chosen c p =
    let a = c.args.arena.now in
    let place = c.args.place in
    let e = c.new-reference.ensures in
    let live : IsLive c.args.arena.now c.args.place = subst (IsLive c.args.arena.now) e (c.is_live.ensures.0 c.if-not-is_live.false) in
    let lits = c.lits-lits.result.now in
    let first = c.index-lits-0.result in
    let other = c.other_one-other.result in
    let same : c.lits-lits.result.now ≡ literals_at c.args.arena.now c.args.place = c.lits-lits.ensures ∙ ap (literals_at c.args.arena.now) e in
    let long : 0 < length c.lits-lits.result.now = subst (λ (xs : List Literal). 0 < length xs) (sym same) (has_front (literals_at c.args.arena.now c.args.place) (c.requires.different live)) in
    let front = get_or_read lits 0 first long c.index-lits-0.is no_literal in
    chosen_more a place c.args.lists.now.held c.watch-2.new.self.held c.args.nodes.now.attached.items _ first other c.requires.room c.requires.pairs live
    (subst (λ (xs : List Literal). Contains xs first) same (subst (λ (x : Literal). Contains lits x) (sym front) (Contains-get_or lits 0 no_literal long)))
    (subst (λ (xs : List Literal). Contains xs other) same c.other_one-other.ensures.inside)
    (λ q. c.other_one-other.ensures.apart (sym front ∙ q))
    (c.watch-2.ensures.held ∙ ap (λ (xs : List Side). set xs (2 * place + 1) c.new-2.result) c.watch.ensures.held
    ∙ ap (λ (s : Side). set (set c.args.lists.now.held (2 * place) s) (2 * place + 1) c.new-2.result) c.new.ensures
    ∙ ap (λ (s : Side). set (set c.args.lists.now.held (2 * place) (long_side first)) (2 * place + 1) s) c.new-2.ensures) refl p
