-- What the logs of the search's answers are.
use Rattle.std.proofs.Common.{◌≡◌, refl, sym, ap, subst, ℕ, ◌+◌, ◌≤◌, false, List, [], Bool, Some, None, Option, Result, Ok, Err, filter_map, arith}
use Rattle.cx_base.specs.Literals.{Literal}
use Rattle.cx_base.specs.Problem.{Problem}
use Rattle.cx_base.specs.declared.steps.LogEvent.{LogEvent}
use Rattle.cx_base.specs.Counts.{Rose}
use Rattle.cx_base.specs.Integers.{integers_of}
use Rattle.cx_semantics.specs.Marked.{Marked, mark_of}
use Rattle.conflict_learn.specs.declared.fault.CoreFault.{CoreFault}
use Rattle.parity_engine.specs.State.{State}
use Rattle.search_steps.specs.Search.{Search, IsSearchIn}
use Rattle.search_steps.specs.LogSteps.{after_round}
use Rattle.search_steps.specs.Holding.{AreTold}
use Rattle.search_steps.specs.Recovering.{SettledWithRecovered}
use Rattle.search_steps.proofs.EndLaws.{is_marked, is_log_open}
use Rattle.cdcl_search.specs.declared.state.SearchState.{SearchState}
use Rattle.std.specs.Prelude.{IfErr}
use Rattle.cx_semantics.specs.LogRules.{log_calculus}
use Rattle.conflict_learn.specs.declared.fault.CoreFault.TheVariants.{Memory, Write}
use Rattle.conflict_learn.specs.Faults.{CountsAs, fault_in}
use Rattle.step_text.specs.declared.sink.Sink as sink
use Rattle.cdcl_search.specs.declared.logs.SearchLog.{SearchLog}
use Rattle.cdcl_search.specs.Tells.{IsLeft, HaveLowIds, HasNoMark}
use Rattle.cdcl_search.specs.Ties.{SearchStands}
use Rattle.cdcl_core.specs.declared.solving.SearchOutcome.TheVariants.{Sat, Unsat, Unknown}
use Rattle.cdcl_core.specs.Learning.{Learns}
use Rattle.cdcl_core.specs.LogLines.{GivesUpIn, GoesOnIn}
use Rattle.cdcl_core.specs.Results.{IsOpenWith, IsBoundedIn, IsFresh, RefutesIn}
use Rattle.cdcl_core.proofs.OriginalLaws.{left_by}
use Rattle.cdcl_core.proofs.FewAdditions.{search_is_bounded, learned_is_bounded}
use Rattle.cdcl_core.proofs.Entering.{round_is_search, conflicts_then, tidy}

-- ---- open logs
search_is_open : {tidies : Bool} (formula : Problem) (parities : List (List Literal)) (s : Search) (n : ℕ) (told : Option (List LogEvent)) → IsSearchIn tidies formula parities s → s.moment.awaits ≡ false → s.conflicts ≡ n → IsBoundedIn tidies formula n s.events → AreTold told s.events → IsOpenWith tidies formula n told
search_is_open {tidies} formula parities s n None ok served count few a = tt
search_is_open {tidies} formula parities s n (Some es) ok served count few a = subst (λ xs. IsOpenWith tidies formula n (Some xs)) (sym a)
    (is_log_open formula parities s ok served, subst (Marked formula s.events) count (is_marked formula parities s ok served), ok.log.scheduled, ok.log.hinted, few)

-- between two conflicts the log is open, with a mark for each counted one
pub log_is_open : (formula : Problem) (c : SearchState) (e : State) (rows : List (List Literal)) (told : Option (List LogEvent)) → SearchStands formula c e rows told → IsOpenWith c.tidies formula c.conflicts told
log_is_open formula c e rows told (s, ok, a, t, f) = search_is_open formula e.parities s c.conflicts told ok t.log.served.served t.counts.marked (search_is_bounded formula c e rows s t) a

-- after a learned clause it is open, with one mark more
pub learned_log_is_open : (formula : Problem) (c : SearchState) (e : State) (lits : List Literal) (back : ℕ) (told : Option (List LogEvent)) → Learns formula c e lits back told → IsOpenWith c.tidies formula (c.conflicts + 1) told
learned_log_is_open formula c e lits back told l = search_is_open formula e.parities (after_round l.search c.next (integers_of lits) l.hints back l.taught.first) (c.conflicts + 1) told
    (round_is_search formula c e lits back l.search l.taught l.hints l.right) (tidy formula c e lits back l.search l.taught l.hints).served (conflicts_then formula c e lits back l.search l.taught l.hints) (learned_is_bounded formula c e lits back l.search l.taught l.hints) l.told_is

-- ---- settled answers
pub values_are_known : (values : List Bool) (n : ℕ) → Sat values ≡ Unknown n → ⊥
values_are_known values n is = cc

pub unsat_is_known : (failed : List Literal) (n : ℕ) → Unsat failed ≡ Unknown n → ⊥
unsat_is_known failed n is = cc

-- fewer marks than one number are fewer than a greater one
pub refutes_within : {tidies : Bool} (formula : Problem) (n budget : ℕ) (told : Option (List LogEvent)) (failed : List Literal) → n ≤ budget → RefutesIn tidies formula n told failed → RefutesIn tidies formula budget told failed
refutes_within formula n budget None failed few r = record { unmet = r.unmet; fails = r.fails; clash = r.clash; log = tt }
refutes_within formula n budget (Some events) failed few r = let less = r.log.1.1 in record { unmet = r.unmet; fails = r.fails; clash = r.clash; log = (r.log.0, (r.log.1.0, omega (arith, less, few), r.log.1.2, r.log.1.3), r.log.2, r.log.3) }

-- ---- at the end
-- where nothing is told, it is right so far
pub fresh_is_left : (formula : Problem) (told : Option (List LogEvent)) → IsFresh told → IsLeft formula told
fresh_is_left formula None fresh = tt
fresh_is_left formula (Some es) fresh = subst (λ xs. IsLeft formula (Some xs)) (sym fresh) (left_by formula [] (log_calculus formula).start refl)

pub fresh_is_low : (told : Option (List LogEvent)) → IsFresh told → HaveLowIds told
fresh_is_low None fresh = tt
fresh_is_low (Some es) fresh = subst (λ xs. HaveLowIds (Some xs)) (sym fresh) tt

pub fresh_has_no_mark : (told : Option (List LogEvent)) → IsFresh told → HasNoMark told
fresh_has_no_mark None fresh = tt
fresh_has_no_mark (Some es) fresh = ap (filter_map mark_of) fresh

module _ {L : Type 0} {tidies : Bool} (m : sink.Ghosts L LogEvent) (old new : SearchLog L) where
  -- a log that went on from nothing has no mark, where the formula is settled with its recovered parities
  pub unmarked_by : (why : Option CoreFault) → GoesOnIn tidies m old why new → IsFresh (m.items old.sink.now) → SettledWithRecovered old.formula.now → HasNoMark (m.items new.sink.now)
  unmarked_by why on fresh s = on.marks (subst SettledWithRecovered (sym on.formula) s) (fresh_has_no_mark (m.items old.sink.now) fresh)

  -- the faults that a log counted, by its sink at the end
  pub counts_at : (why : Option CoreFault) (at : L) → GoesOnIn tidies m old why new → at ≡ new.sink.now → CountsAs why (m.faults old.sink.now) (m.faults at)
  counts_at why at on same = subst (λ x. CountsAs why (m.faults old.sink.now) (m.faults x)) (sym same) on.counts

  pub gives_up_by : {T : Type 0} (r : Result T CoreFault) → GoesOnIn tidies m old (fault_in r) new → IsLeft old.formula.now (m.items old.sink.now) → IfErr r (λ e. GivesUpIn tidies m new.formula.now new.sink.now e)
  gives_up_by (Ok x) on left = tt
  gives_up_by (Err Memory) on left = on.right left
  gives_up_by (Err Write) on left = (on.right left, on.tears refl)

  pub risen_by : {T : Type 0} (r : Result T CoreFault) → GoesOnIn tidies m old (fault_in r) new → IfErr r (λ e. e ≡ Write → Rose (m.faults old.sink.now) (m.faults new.sink.now))
  risen_by (Ok x) on = tt
  risen_by (Err Memory) on = λ e. absurd (cc (e))
  risen_by (Err Write) on = λ e. on.counts
