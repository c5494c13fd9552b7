use Rattle.std.proofs.Common.{◌≤◌, ◌++◌, sym, subst, length, List, arith}
use Rattle.cx_base.specs.Problem.{clauses_of}
use Rattle.xor_recover.specs.declared.starts.Start.{Start}
use Rattle.xor_recover.specs.declared.wholes.Whole.{Whole}
use Rattle.xor_recover.specs.Starts.{pair_of}
use Rattle.xor_recover.specs.Wholes.{starts_of_all}
use Rattle.xor_recover.proofs.Within.{formula_within}
use Rattle.xor_recover.proofs.Sound.{all_sound, all_written}
use Rattle.xor_recover.proofs.Least.{all_in_order, all_least}
use Rattle.xor_recover.proofs.Complete.{all_complete}
use Rattle.xor_recover.proofs.Judged.{all_judged}
use Rattle.xor_recover.proofs.Bounds.{all_within}
use Rattle.xor_recover.proofs.Runs.{RunsDone, no_runs}
use Rattle.xor_recover.proofs.Walk.{EndsAt, Reaches, run_starts, smaller, stays_inside, walk_step, walk_ends}
use Rattle.std.proofs.lemmas.Result.{err_from_is_err_and}
use Rattle.xor_recover.proofs.recovering.recover.Goals as goal

pub loop-at-init : goal.loop-at-init
loop-at-init c =
    let C = clauses_of c.args.formula.now.constraints in
    let all = c.in_ok-starts.field-0.starts.items ++ starts_of_all c.in_ok-starts.field-0.wholes.items in
    record { done = subst (RunsDone C all all) (sym c.in_ok-finds.ensures.items) (no_runs C all); starts = omega arith; wholes = omega arith }

pub find_among-requires-clause-starts : goal.find_among-requires-clause-starts
find_among-requires-clause-starts c = run_starts (clauses_of c.args.formula.now.constraints) c.in_ok-starts.field-0.starts.items c.deref-in-loop-at-2.result.now _ c.loop-at.at _ c.deref-in-loop-at-2.ensures.value c.in_ok-starts.ensures.starts

pub loop-at-smaller : goal.loop-at-smaller
loop-at-smaller c =
    let S = c.in_ok-starts.field-0.starts.items in
    let W = c.in_ok-starts.field-0.wholes.items in
    let a = c.loop-at.at in
    let b = c.loop-at.whole in
    let p = c.next_pair-pair.result in
    let e = c.starts_end.result in
    let f = c.wholes_end.result in
    let h = c.starts_end.ensures in
    let g = c.wholes_end.ensures in
    let ends = subst (λ (ss : List Start). EndsAt pair_of ss a e p) c.deref-in-loop-at-3.ensures.value (record { ahead = h.ahead; inside = h.inside; upto = h.upto; beyond = h.beyond }) in
    let ends' = subst (λ (ws : List Whole). EndsAt (λ (w : Whole). pair_of w.start) ws b f p) c.deref-in-loop-at-5.ensures.value (record { ahead = g.ahead; inside = g.inside; upto = g.upto; beyond = g.beyond }) in
    let next = subst (λ (ss : List Start). Reaches ss W a b p) c.deref.ensures.value (subst (λ (ws : List Whole). Reaches c.deref.result.now ws a b p) c.deref-in-loop-at.ensures.value c.next_pair-pair.ensures) in
    smaller S c.deref-in-loop-at-2.result.now W c.deref-in-loop-at-4.result.now a e b f p c.deref-in-loop-at-2.ensures.value c.deref-in-loop-at-4.ensures.value ends ends' next

pub loop-at-preserved : goal.loop-at-preserved
loop-at-preserved c =
    let cs = c.args.formula.now.constraints in
    let S = c.in_ok-starts.field-0.starts.items in
    let W = c.in_ok-starts.field-0.wholes.items in
    let s = c.deref-in-loop-at-2.result.now in
    let w = c.deref-in-loop-at-4.result.now in
    let a = c.loop-at.at in
    let b = c.loop-at.whole in
    let p = c.next_pair-pair.result in
    let e = c.starts_end.result in
    let f = c.wholes_end.result in
    let h = c.starts_end.ensures in
    let g = c.wholes_end.ensures in
    let is = c.deref-in-loop-at-2.ensures.value in
    let is' = c.deref-in-loop-at-4.ensures.value in
    let ends = subst (λ (ss : List Start). EndsAt pair_of ss a e p) c.deref-in-loop-at-3.ensures.value (record { ahead = h.ahead; inside = h.inside; upto = h.upto; beyond = h.beyond }) in
    let ends' = subst (λ (ws : List Whole). EndsAt (λ (v : Whole). pair_of v.start) ws b f p) c.deref-in-loop-at-5.ensures.value (record { ahead = g.ahead; inside = g.inside; upto = g.upto; beyond = g.beyond }) in
    let order = c.in_ok-starts.ensures in
    record {
      done = walk_step (clauses_of cs) S s W w a e b f p c.loop-at.finds.items c.find_among.new.finds.items is is' (formula_within _ cs c.vars-vars.ensures.within) order.starts order.starts_rise order.wholes_rise ends ends' c.in_ok-find_among.ensures c.loop-at.invariant.done;
      starts = stays_inside pair_of S s a e p is ends;
      wholes = stays_inside (λ (v : Whole). pair_of v.start) W w b f p is' ends';
    }

pub returns-clause-sound : goal.returns-clause-sound
returns-clause-sound c =
    let S = c.in_ok-starts.field-0.starts.items in
    let W = c.in_ok-starts.field-0.wholes.items in
    let le : length S ≤ c.loop-at.at = omega arith in
    let le' : length W ≤ c.loop-at.whole = omega arith in
    let found = walk_ends c.args.formula.now S W c.loop-at.at c.loop-at.whole c.loop-at.finds.items c.from_vec.result c.vars-vars.ensures.within c.in_ok-starts.ensures.starts le le' c.loop-at.invariant.done c.from_vec.ensures in
    all_sound c.args.formula.now c.from_vec.result found

pub returns-clause-written : goal.returns-clause-written
returns-clause-written c =
    let S = c.in_ok-starts.field-0.starts.items in
    let W = c.in_ok-starts.field-0.wholes.items in
    let le : length S ≤ c.loop-at.at = omega arith in
    let le' : length W ≤ c.loop-at.whole = omega arith in
    let found = walk_ends c.args.formula.now S W c.loop-at.at c.loop-at.whole c.loop-at.finds.items c.from_vec.result c.vars-vars.ensures.within c.in_ok-starts.ensures.starts le le' c.loop-at.invariant.done c.from_vec.ensures in
    all_written c.args.formula.now c.from_vec.result found

pub returns-clause-in_order : goal.returns-clause-in_order
returns-clause-in_order c =
    let S = c.in_ok-starts.field-0.starts.items in
    let W = c.in_ok-starts.field-0.wholes.items in
    let le : length S ≤ c.loop-at.at = omega arith in
    let le' : length W ≤ c.loop-at.whole = omega arith in
    let found = walk_ends c.args.formula.now S W c.loop-at.at c.loop-at.whole c.loop-at.finds.items c.from_vec.result c.vars-vars.ensures.within c.in_ok-starts.ensures.starts le le' c.loop-at.invariant.done c.from_vec.ensures in
    all_in_order c.args.formula.now c.from_vec.result found

pub returns-clause-least : goal.returns-clause-least
returns-clause-least c =
    let S = c.in_ok-starts.field-0.starts.items in
    let W = c.in_ok-starts.field-0.wholes.items in
    let le : length S ≤ c.loop-at.at = omega arith in
    let le' : length W ≤ c.loop-at.whole = omega arith in
    let found = walk_ends c.args.formula.now S W c.loop-at.at c.loop-at.whole c.loop-at.finds.items c.from_vec.result c.vars-vars.ensures.within c.in_ok-starts.ensures.starts le le' c.loop-at.invariant.done c.from_vec.ensures in
    all_least c.args.formula.now c.from_vec.result found

pub returns-clause-complete : goal.returns-clause-complete
returns-clause-complete c =
    let S = c.in_ok-starts.field-0.starts.items in
    let W = c.in_ok-starts.field-0.wholes.items in
    let le : length S ≤ c.loop-at.at = omega arith in
    let le' : length W ≤ c.loop-at.whole = omega arith in
    let found = walk_ends c.args.formula.now S W c.loop-at.at c.loop-at.whole c.loop-at.finds.items c.from_vec.result c.vars-vars.ensures.within c.in_ok-starts.ensures.starts le le' c.loop-at.invariant.done c.from_vec.ensures in
    all_complete c.args.formula.now c.from_vec.result found

pub returns-clause-judged : goal.returns-clause-judged
returns-clause-judged c =
    let S = c.in_ok-starts.field-0.starts.items in
    let W = c.in_ok-starts.field-0.wholes.items in
    let le : length S ≤ c.loop-at.at = omega arith in
    let le' : length W ≤ c.loop-at.whole = omega arith in
    let found = walk_ends c.args.formula.now S W c.loop-at.at c.loop-at.whole c.loop-at.finds.items c.from_vec.result c.vars-vars.ensures.within c.in_ok-starts.ensures.starts le le' c.loop-at.invariant.done c.from_vec.ensures in
    all_judged c.args.formula.now c.from_vec.result (all_sound c.args.formula.now c.from_vec.result found) (all_least c.args.formula.now c.from_vec.result found)

pub returns-clause-within : goal.returns-clause-within
returns-clause-within c =
    let S = c.in_ok-starts.field-0.starts.items in
    let W = c.in_ok-starts.field-0.wholes.items in
    let le : length S ≤ c.loop-at.at = omega arith in
    let le' : length W ≤ c.loop-at.whole = omega arith in
    let found = walk_ends c.args.formula.now S W c.loop-at.at c.loop-at.whole c.loop-at.finds.items c.from_vec.result c.vars-vars.ensures.within c.in_ok-starts.ensures.starts le le' c.loop-at.invariant.done c.from_vec.ensures in
    all_within c.args.formula.now c.from_vec.result c.vars-vars.ensures.within found

pub returns-in_err-starts : goal.returns-in_err-starts
returns-in_err-starts c =
    let fault = err_from_is_err_and c.from_residual.result c.from_residual.ensures.1 in
    rw fault.1 (record { sound = tt; written = tt; in_order = tt; complete = tt; least = tt; judged = tt; within = tt; few = tt })

pub returns-in_err-room : goal.returns-in_err-room
returns-in_err-room c =
    let fault = err_from_is_err_and c.from_residual-in_err-room.result c.from_residual-in_err-room.ensures.1 in
    rw fault.1 (record { sound = tt; written = tt; in_order = tt; complete = tt; least = tt; judged = tt; within = tt; few = tt })

pub returns-in_err-finds : goal.returns-in_err-finds
returns-in_err-finds c =
    let fault = err_from_is_err_and c.from_residual-in_err-finds.result c.from_residual-in_err-finds.ensures.1 in
    rw fault.1 (record { sound = tt; written = tt; in_order = tt; complete = tt; least = tt; judged = tt; within = tt; few = tt })

pub returns-in_err-find_among : goal.returns-in_err-find_among
returns-in_err-find_among c =
    let fault = err_from_is_err_and c.from_residual-in_err-find_among.result c.from_residual-in_err-find_among.ensures.1 in
    rw fault.1 (record { sound = tt; written = tt; in_order = tt; complete = tt; least = tt; judged = tt; within = tt; few = tt })
