use Rattle.std.proofs.Common.{◌≡◌, sym, ap, ◌∙◌, ℕ, ◌<◌, ◌≤◌, List, ◌∷◌, ◌++◌, [], subst, take, length, get_or, append-nil, length-append, length-take, arith}
use Rattle.std.proofs.lemmas.List.{take_all, length-map, get_or_read}
use Rattle.std.proofs.lemmas.List.Elements.{recursion_from_All}
use Rattle.cx_base.specs.Problem.{Problem, AreWithin, parities_of}
use Rattle.xor_recover.specs.declared.found.FoundParity.{FoundParity}
use Rattle.std.specs.List.{All}
use Rattle.std.proofs.lemmas.Result.{err_from_is_err_and}
use Rattle.xor_recover.specs.Finds.{IsJudgedRight}
use Rattle.cdcl_search.specs.GoingOn.{log_rests, log_stops, log_then}
use Rattle.cdcl_core.specs.Given.{AreEngines, HasGiven, IsRightFind}
use Rattle.cdcl_core.proofs.GivenLaws.{begun_has_given, engines_are, one_find_more, parities_found}
use Rattle.cdcl_core.proofs.OriginalLaws.{both_kinds}
use Rattle.cdcl_core.proofs.recovering.all_parities.Goals as goal

pub loop-place-init : goal.loop-place-init
loop-place-init g c =
    let formula = c.args.log.now.formula.now in
    let told = g.L.Sink.items c.args.log.now.sink.now in
    let own = c.reserve_exact.ensures.items ∙ c.in_ok-parities.ensures in
    record {
      given = subst (λ ps. HasGiven formula ps told) (sym own) (begun_has_given formula told c.requires.apart c.requires.begun);
      are = own ∙ sym (append-nil (parities_of formula.constraints));
      log = log_rests g.L.Sink g.met.L.Sink.keeps_itself _;
    }

pub tell_find-requires-clause-going : goal.tell_find-requires-clause-going
tell_find-requires-clause-going g c = c.loop-place.invariant.log.failed ∙ c.requires.going

pub tell_find-requires-clause-fewer : goal.tell_find-requires-clause-fewer
tell_find-requires-clause-fewer g c =
    let formula = c.args.log.now.formula.now in
    let finds = c.into_vec-finds.result.items in
    let place = c.loop-place.place in
    let same = ap (λ (f : Problem). length f.constraints) c.loop-place.invariant.log.formula in
    let are = ap length c.loop-place.invariant.are in
    let both = length-append (parities_of formula.constraints) (parities_found (take place finds)) in
    let mapped = length-map (take place finds) (λ (f : FoundParity). f.parity) in
    let taken = length-take place finds in
    let less = c.loop-place-test.true in
    let end = c.len-place-end.ensures in
    let ok = c.into_vec-finds.result.ok.0 in
    let found = ap length c.into_vec-finds.ensures in
    let few = c.in_ok-recover.ensures.few in
    let kinds = both_kinds formula.constraints in
    omega (arith, same, are, both, mapped, taken, less, end, ok, found, few, kinds)

pub tell_find-requires-clause-given : goal.tell_find-requires-clause-given
tell_find-requires-clause-given g c = subst (λ f. HasGiven f c.loop-place.parities.items (g.L.Sink.items c.loop-place.log.sink.now)) (sym c.loop-place.invariant.log.formula) c.loop-place.invariant.given

pub tell_find-requires-clause-few : goal.tell_find-requires-clause-few
tell_find-requires-clause-few g c = subst (λ (f : Problem). length f.constraints ≤ 4294967295) (sym c.loop-place.invariant.log.formula) c.requires.few

-- what holds of each find holds of the one at this place
of_find : (P : FoundParity → Type 0) (found finds : List FoundParity) (place : ℕ) (find : FoundParity) → finds ≡ found → place < length finds → find ≡ get_or finds place find → All P found → P find
of_find P found finds place find is less read all = subst P (sym read) (subst (All P) (sym is) all place find less)

pub tell_find-requires-clause-find : goal.tell_find-requires-clause-find
tell_find-requires-clause-find g c =
    let formula = c.args.log.now.formula.now in
    let finds = c.into_vec-finds.result.items in
    let place = c.loop-place.place in
    let find = c.index.result.now in
    let less : place < length finds = (let less = c.loop-place-test.true in let end = c.len-place-end.ensures in let ok = c.into_vec-finds.result.ok.0 in omega (arith, less, end, ok)) in
    let read = get_or_read finds place _ less c.index.ensures find in
    subst (λ f. IsRightFind f find) (sym c.loop-place.invariant.log.formula) (record {
      within = of_find (λ f. AreWithin formula.variables f.parity) c.in_ok-recover.field-0 finds place find c.into_vec-finds.ensures less read c.in_ok-recover.ensures.within;
      judged = of_find (IsJudgedRight formula) c.in_ok-recover.field-0 finds place find c.into_vec-finds.ensures less read c.in_ok-recover.ensures.judged;
    })

pub returns-in_err-recover : goal.returns-in_err-recover
returns-in_err-recover g c =
    let fault = err_from_is_err_and c.from_residual.result c.from_residual.ensures.1 in
    rw (fault.1, fault.2) (record { given = tt; engines = tt; log = log_stops g.L.Sink g.met.L.Sink.keeps_itself c.args.log.now })

pub returns-in_err-parities : goal.returns-in_err-parities
returns-in_err-parities g c =
    let fault = err_from_is_err_and c.from_residual-in_err-parities.result c.from_residual-in_err-parities.ensures.1 in
    rw (fault.1, fault.2) (record { given = tt; engines = tt; log = log_stops g.L.Sink g.met.L.Sink.keeps_itself c.args.log.now })

pub returns-in_err-reserve_exact : goal.returns-in_err-reserve_exact
returns-in_err-reserve_exact g c =
    let fault = err_from_is_err_and c.from_residual-in_err-reserve_exact.result c.from_residual-in_err-reserve_exact.ensures.1 in
    rw (fault.1, fault.2) (record { given = tt; engines = tt; log = log_stops g.L.Sink g.met.L.Sink.keeps_itself c.args.log.now })

pub returns-in_err-tell_find : goal.returns-in_err-tell_find
returns-in_err-tell_find g c =
    let fault = err_from_is_err_and c.from_residual-in_err-tell_find.result c.from_residual-in_err-tell_find.ensures.1 in
    rw (fault.1, fault.2) (record { given = tt; engines = tt; log = log_then g.L.Sink g.met.L.Sink.keeps_on _ c.loop-place.log _ _ c.loop-place.invariant.log c.in_err-tell_find.ensures.log })

pub loop-place-preserved : goal.loop-place-preserved
loop-place-preserved g c =
    let formula = c.args.log.now.formula.now in
    let finds = c.into_vec-finds.result.items in
    let place = c.loop-place.place in
    let own = parities_of formula.constraints in
    let find = c.index.result.now in
    let less : place < length finds = (let less = c.loop-place-test.true in let end = c.len-place-end.ensures in let ok = c.into_vec-finds.result.ok.0 in omega (arith, less, end, ok)) in
    let read : find ≡ get_or finds place find = get_or_read finds place _ less c.index.ensures find in
    record {
      given = subst (λ f. HasGiven f c.tell_find.new.parities.items (g.L.Sink.items c.tell_find.new.log.sink.now)) (c.in_ok-tell_find.ensures.log.formula ∙ c.loop-place.invariant.log.formula) c.in_ok-tell_find.ensures.given;
      are = c.in_ok-tell_find.ensures.one_more ∙ ap (λ xs. xs ++ find.parity ∷ []) c.loop-place.invariant.are
          ∙ ap (λ (f : FoundParity). (own ++ parities_found (take place finds)) ++ f.parity ∷ []) read ∙ one_find_more own finds place find less;
      log = log_then g.L.Sink g.met.L.Sink.keeps_on _ _ _ _ c.loop-place.invariant.log c.in_ok-tell_find.ensures.log;
    }

pub returns-clause-given : goal.returns-clause-given
returns-clause-given g c =
    let told = g.L.Sink.items c.loop-place.log.sink.now in
    subst (λ ps. HasGiven c.loop-place.log.formula.now ps told) (sym c.from_vec.ensures)
    (subst (λ f. HasGiven f c.loop-place.parities.items told) (sym c.loop-place.invariant.log.formula) c.loop-place.invariant.given)

pub returns-clause-engines : goal.returns-clause-engines
returns-clause-engines g c =
    let formula = c.args.log.now.formula.now in
    let finds = c.into_vec-finds.result.items in
    let found = c.in_ok-recover.field-0 in
    let own = parities_of formula.constraints in
    let far = c.loop-place-test.false in
    let end = c.len-place-end.ensures in
    let ok = c.into_vec-finds.result.ok.0 in
    let all = take_all c.loop-place.place finds (omega (arith, far, end, ok)) in
    let is = c.from_vec.ensures ∙ c.loop-place.invariant.are ∙ ap (λ fs. own ++ parities_found fs) (all ∙ c.into_vec-finds.ensures) in
    let ours = engines_are formula found c.vars-vars.ensures.within (recursion_from_All (λ (f : FoundParity). AreWithin formula.variables f.parity) found c.in_ok-recover.ensures.within) c.in_ok-recover.ensures.few c.in_ok-recover.ensures.complete in
    subst (λ f. AreEngines f c.from_vec.result) (sym c.loop-place.invariant.log.formula) (subst (AreEngines formula) (sym is) ours)

pub returns-clause-log : goal.returns-clause-log
returns-clause-log g c = c.loop-place.invariant.log
