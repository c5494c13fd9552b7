-- The hints of a log that are right are those of its proof.
use Rattle.std.proofs.Common.{◌≡◌, refl, sym, ap, ◌∙◌, subst, ℕ, ◌+◌, ℤ, pos, List, [], ◌∷◌, ◌++◌, map, length, take, append_assoc, arith}
use Rattle.std.specs.Prelude.{fold}
use Rattle.std.specs.List.{list_any}
use Rattle.std.proofs.lemmas.List.{take_all}
use Rattle.cx_base.specs.Integers.{is_negative, sizes}
use Rattle.cx_base.specs.Literals.{Literal}
use Rattle.cx_base.specs.Problem.{Problem}
use Rattle.cx_base.specs.declared.steps.LogStep.{LogStep}
use Rattle.cx_base.specs.declared.steps.LogStep.TheVariants.{ClauseWithHints}
use Rattle.cx_base.specs.declared.steps.ProofStep.{ProofStep}
use Rattle.cx_base.specs.declared.steps.ProofStep.TheVariants as proof
use Rattle.cx_semantics.specs.Chain.{IsChain}
use Rattle.cx_semantics.specs.LogRules.{AreLive, after_log_step}
use Rattle.cx_semantics.specs.Tables.{Table, Tables, named, no_tables}
use Rattle.rup_finder.specs.Front.{IsFrontChain, NoneNegative}
use Rattle.fratx_elab.specs.Names.{Names, first_names}
use Rattle.fratx_elab.specs.Elaborates.{Writes, Elaborates, IsProofOf, HasOwnHints}

-- what one step of many writes
record WritesAt (formula : Problem) (old : Names) (live : Tables) (before : List LogStep) (step : LogStep) (written : List ProofStep) : Type 0 where
  first : List ProofStep
  now : List ProofStep
  rest : List ProofStep
  names : Names
  after : Names
  whole : written ≡ first ++ (now ++ rest)
  so_far : Elaborates formula old live before first names
  writes : Writes formula names (fold after_log_step live before) step now after

writes_at : (formula : Problem) (old : Names) (live : Tables) (before : List LogStep) (step : LogStep) (later : List LogStep) (written : List ProofStep) (last : Names)
    → Elaborates formula old live (before ++ step ∷ later) written last → WritesAt formula old live before step written
writes_at formula old live [] step later written last (now, rest, between, e, w, r) =
    record { first = []; now = now; rest = rest; names = old; after = between; whole = e; so_far = (refl, refl); writes = w }
writes_at formula old live (x ∷ before) step later written last (one, more, between, e, w, r) =
    let t = writes_at formula between (after_log_step live x) before step later more last r in
    record {
      first = one ++ t.first;
      now = t.now;
      rest = t.rest;
      names = t.names;
      after = t.after;
      whole = e ∙ ap (λ v. one ++ v) t.whole ∙ sym (append_assoc one t.first (t.now ++ t.rest));
      so_far = (one, t.first, between, refl, w, t.so_far);
      writes = t.writes;
    }

pub has_own_hints : (formula : Problem) (steps : List LogStep) (written : List ProofStep) → IsProofOf formula steps written → HasOwnHints formula steps written
has_own_hints formula steps written p before n lits given later is k front =
    let there = subst (λ (ss : List LogStep). Elaborates formula (first_names formula) no_tables ss written p.0) is p.1 in
    let t = writes_at formula (first_names formula) no_tables before (ClauseWithHints n lits given) later written p.0 there in
    let own = t.writes.0 in
    let kept = own.2 k front in
    record {
      names = t.names;
      first = t.first;
      rest = t.rest;
      count = kept.0;
      so_far = t.so_far;
      chain = kept.1;
      whole = t.whole
          ∙ ap (λ (now : List ProofStep). t.first ++ (now ++ t.rest)) own.1
          ∙ ap (λ (hints : List ℤ). t.first ++ proof.Clause (t.names.clauses.last + 1) lits hints ∷ t.rest) kept.2;
    }

sizes_of_ids : (ids : List ℕ) → sizes (map pos ids) ≡ ids
sizes_of_ids [] = refl
sizes_of_ids (n ∷ ids) = ap (λ ns. n ∷ ns) (sizes_of_ids ids)

none_of_ids : (ids : List ℕ) → NoneNegative (map pos ids)
none_of_ids [] = refl
none_of_ids (n ∷ ids) = none_of_ids ids

-- hints that are ids of live clauses and a right chain are so as a whole
pub whole_chain : (table : Table) (target : List Literal) (given : List ℤ) (ids : List ℕ) → given ≡ map pos ids → AreLive table ids → IsChain target (named table ids) → IsFrontChain table target given (length given)
whole_chain table target given ids are live chain =
    let all : take (length given) given ≡ map pos ids = take_all (length given) given (omega arith) ∙ are in
    let them : ids ≡ sizes (take (length given) given) = sym (ap sizes all ∙ sizes_of_ids ids) in
    record {
      within = omega arith;
      plain = ap (list_any is_negative) all ∙ none_of_ids ids;
      live = subst (AreLive table) them live;
      chain = subst (λ (ns : List ℕ). IsChain target (named table ns)) them chain;
    }
