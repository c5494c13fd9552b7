use Rattle.std.proofs.Common.{subst, sym, ap, ◌∙◌, ◌+◌, take, length, arith}
use Rattle.std.proofs.lemmas.List.{take_all}
use Rattle.std.proofs.lemmas.Result.{err_from_is_err_and}
use Rattle.cx_base.specs.Problem.{Problem}
use Rattle.cdcl_search.specs.GoingOn.{log_rests, log_then}
use Rattle.cdcl_core.specs.Originals.{HasBegun, AreCounted}
use Rattle.cdcl_core.proofs.OriginalLaws.{none_counted, fresh_has_begun}
use Rattle.cdcl_core.proofs.originals.tell_originals.Goals as goal

pub loop-place-init : goal.loop-place-init
loop-place-init g c = record { counted = none_counted; begun = fresh_has_begun c.args.log.now.formula.now (g.L.Sink.items c.args.log.now.sink.now) c.requires.fresh; log = log_rests g.L.Sink g.met.L.Sink.keeps_itself _ }

pub tell_original-requires : goal.tell_original-requires
tell_original-requires g c =
    let same = c.loop-place.invariant.log.formula in
    let long = c.len-place-end.ensures.len in
    let less = c.loop-place-test.true in
    let n = ap (λ (f : Problem). length f.constraints) same in
    let few = c.requires.few in
    record {
      few = omega (arith, n, few);
      place = omega (arith, n, long, less);
      going = c.loop-place.invariant.log.failed ∙ c.requires.going;
      taken = record {
        counted = subst (λ (f : Problem). AreCounted (take c.loop-place.place f.constraints) c.loop-place.counts.clauses c.loop-place.counts.parities) (sym same) c.loop-place.invariant.counted;
        begun = subst (λ (f : Problem). HasBegun f (take c.loop-place.place f.constraints) (g.L.Sink.items c.loop-place.log.sink.now)) (sym same) c.loop-place.invariant.begun;
      };
    }

pub loop-place-preserved : goal.loop-place-preserved
loop-place-preserved g c =
    let same = c.in_ok-tell_original.ensures.log.formula ∙ c.loop-place.invariant.log.formula in
    record {
      counted = subst (λ (f : Problem). AreCounted (take (c.loop-place.place + 1) f.constraints) c.tell_original.new.counts.clauses c.tell_original.new.counts.parities) same c.in_ok-tell_original.ensures.taken.counted;
      begun = subst (λ (f : Problem). HasBegun f (take (c.loop-place.place + 1) f.constraints) (g.L.Sink.items c.tell_original.new.log.sink.now)) same c.in_ok-tell_original.ensures.taken.begun;
      log = log_then g.L.Sink g.met.L.Sink.keeps_on _ _ _ _ c.loop-place.invariant.log c.in_ok-tell_original.ensures.log;
    }

pub returns-clause-begun : goal.returns-clause-begun
returns-clause-begun g c =
    let far = c.loop-place-test.false in
    let long = c.len-place-end.ensures.len in
    let begun = subst (λ cs. HasBegun c.args.log.now.formula.now cs (g.L.Sink.items c.loop-place.log.sink.now)) (take_all c.loop-place.place c.args.log.now.formula.now.constraints (omega (arith, far, long))) c.loop-place.invariant.begun in
    subst (λ (f : Problem). HasBegun f f.constraints (g.L.Sink.items c.loop-place.log.sink.now)) (sym c.loop-place.invariant.log.formula) begun

pub returns-clause-log : goal.returns-clause-log
returns-clause-log g c = c.loop-place.invariant.log

pub returns-in_err-tell_original : goal.returns-in_err-tell_original
returns-in_err-tell_original g c =
    let fault = err_from_is_err_and c.from_residual.result c.from_residual.ensures.1 in
    rw (fault.1, fault.2) (record { begun = tt; log = log_then g.L.Sink g.met.L.Sink.keeps_on _ c.loop-place.log _ _ c.loop-place.invariant.log c.in_err-tell_original.ensures.log })
