use Rattle.std.proofs.Common.{rules, arith, refl, sym, subst, ◌≡◌, ◌+◌, ◌<◌, ◌≤◌, ℕ, ℤ, List, length, take, get_or, nat_abs, pos}
use Rattle.cx_base.specs.Integers.{sizes}
use Rattle.rup_finder.specs.Front.{IsLiveChain, IsFrontChain, HasReached, Takes}
use Rattle.rup_finder.specs.declared.front.Taken.{Taken}
use Rattle.rup_finder.proofs.FrontLaws.{reached_first, reached_end, reached_next, sizes_more, none_more, not_yet, never, least_next, none_next, none_at_all}
use Rattle.rup_finder.proofs.front.chain_length.Goals as goal

pub loop-place-init : goal.loop-place-init
loop-place-init c =
    let table = c.args.live.now.clauses in
    let hints = c.args.hints.now in
    let reached = reached_first table c.args.target.now c.set_to_negations.new.self c.in_ok-set_to_negations.ensures.ok in
    record {
      reached = reached;
      plain = refl;
      none_yet = λ k low. let is : k ≡ 0 = omega (arith, low) in λ front. not_yet table c.args.target.now hints 0 c.set_to_negations.new.self reached (subst (IsFrontChain table c.args.target.now hints) is front);
    }

pub returns-in-Ends : goal.returns-in-Ends
returns-in-Ends c =
    let table = c.args.live.now.clauses in
    let target = c.args.target.now in
    let hints = c.args.hints.now in
    let place : ℕ = c.loop-place.place in
    let old = c.loop-place.assumed in
    let hint : ℤ = get_or hints place (pos 0) in
    let told : Takes table hint old c.take_hint.new.assumed c.in_ok-take_hint.field-0 = search rules in
    let taken = subst (λ (t : Taken). Takes table hint old c.take_hint.new.assumed t) c.in-Ends.is told in
    let less : place < length hints = search rules in
    let more = sizes_more hints place (pos 0) less in
    let ended = reached_end table target (sizes (take place hints)) old (nat_abs hint) taken.0 taken.1.1 c.loop-place.invariant.reached taken.2 in
    let right = subst (IsLiveChain table target) (sym more) ended in (
      record {
        within = omega (arith, less);
        plain = none_more hints place (pos 0) less c.loop-place.invariant.plain taken.1.0;
        live = right.0;
        chain = right.1;
      },
      least_next (IsFrontChain table target hints) place c.loop-place.invariant.none_yet,
    )

pub returns-in-Stops : goal.returns-in-Stops
returns-in-Stops c =
    let table = c.args.live.now.clauses in
    let target = c.args.target.now in
    let hints = c.args.hints.now in
    let place : ℕ = c.loop-place.place in
    let old = c.loop-place.assumed in
    let hint : ℤ = get_or hints place (pos 0) in
    let told : Takes table hint old c.take_hint.new.assumed c.in_ok-take_hint.field-0 = search rules in
    let stops = subst (λ (t : Taken). Takes table hint old c.take_hint.new.assumed t) c.in-Stops.is told in
    let less : place < length hints = search rules in
    none_at_all (IsFrontChain table target hints) place c.loop-place.invariant.none_yet (never table target hints place old c.loop-place.invariant.reached (pos 0) less stops)

pub returns : goal.returns
returns c =
    let past : length c.args.hints.now ≤ c.loop-place.place = search rules in
    λ k front. let within = front.within in c.loop-place.invariant.none_yet k (omega (arith, within, past)) front

pub loop-place-preserved : goal.loop-place-preserved
loop-place-preserved c =
    let table = c.args.live.now.clauses in
    let target = c.args.target.now in
    let hints = c.args.hints.now in
    let place : ℕ = c.loop-place.place in
    let old = c.loop-place.assumed in
    let new = c.take_hint.new.assumed in
    let hint : ℤ = get_or hints place (pos 0) in
    let told : Takes table hint old new c.in_ok-take_hint.field-0 = search rules in
    let taken = subst (λ (t : Taken). Takes table hint old new t) c.in-Goes.is told in
    let less : place < length hints = search rules in
    let more = sizes_more hints place (pos 0) less in
    let next = reached_next table target (sizes (take place hints)) old (nat_abs hint) taken.0 taken.2.1 c.loop-place.invariant.reached new taken.1 taken.3 taken.4 in
    let reached = subst (λ (ids : List ℕ). HasReached table target ids new) (sym more) next in
    record {
      reached = reached;
      plain = none_more hints place (pos 0) less c.loop-place.invariant.plain taken.2.0;
      none_yet = none_next (IsFrontChain table target hints) place c.loop-place.invariant.none_yet (not_yet table target hints (place + 1) new reached);
    }
