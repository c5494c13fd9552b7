-- What a search over fewer variables comes to is right over more.
use Rattle.std.proofs.Common.{◌≡◌, refl, sym, subst, ℕ, ◌≤◌, Bool, true, false, List, [], ◌∷◌, map, max, flat_map, fold, Option, None, Some, Ok, Err, arith, inl, inr}
use Rattle.std.specs.List.{AllByRecursion}
use Rattle.cx_base.specs.Assumptions.{assumes, assumptions_of, assuming, without_assumptions, IsFailed}
use Rattle.cx_base.specs.Events.{steps_of}
use Rattle.cx_base.specs.Literals.{Literal}
use Rattle.cx_base.specs.Problem.{Problem, AreWithin, IsWithinVariables, literals_of, greatest_variable}
use Rattle.cx_base.specs.declared.constraint.Constraint.{Constraint}
use Rattle.cx_base.specs.declared.constraint.Constraint.TheVariants as constraint
use Rattle.cx_base.specs.declared.steps.LogEvent.{LogEvent}
use Rattle.cx_base.proofs.Elements.{all_append}
use Rattle.conflict_learn.specs.declared.fault.CoreFault.{CoreFault}
use Rattle.conflict_learn.specs.declared.fault.CoreFault.TheVariants.{Memory, Write}
use Rattle.search_steps.specs.LogSteps.{IsEnded}
use Rattle.search_steps.specs.Recovering.{IsParityOf, SettledWithRecovered}
use Rattle.search_steps.proofs.EndLaws.{settled_by_its_own}
use Rattle.step_text.specs.declared.sink.Sink as sink
use Rattle.cdcl_search.specs.Tells.{IsLeft, IsTorn, with_events}
use Rattle.cdcl_core.specs.LogLines.{GivesUpIn, IsTornIn, KeepsIn}
use Rattle.cdcl_core.specs.Narrowing.{narrowed, over, padded_answer, SearchedIn}
use Rattle.cdcl_core.specs.Results.{IsBoundedIn, IsFresh, IsOpenWith, IsRightOutcomeIn}
use Rattle.cdcl_core.specs.declared.solving.SearchOutcome.{SearchOutcome}
use Rattle.cdcl_core.specs.declared.solving.SearchOutcome.TheVariants.{Sat, Unsat, Unknown}
use Rattle.cdcl_core.proofs.Answering.{fresh_is_left, fresh_is_low, fresh_has_no_mark}
use Rattle.cdcl_core.proofs.FewAdditions.{bounded_over_more}
use Rattle.cdcl_core.proofs.NarrowLogs.{open_over_more, ends_over_more, marked_over_more}
use Rattle.cdcl_core.proofs.NarrowSettled.{LooksBelow, given_looks, recovered_looks, settled_over_fewer}
use Rattle.cdcl_core.proofs.NarrowValues.{AllWithin, padded_meets, unmet_over_more}
use Rattle.cdcl_core.proofs.RecoveredWithin.{has_within}

-- ---- the greatest variable

none_greater : (n a : ℕ) (lits : List Literal) → a ≤ n → AreWithin n lits → fold max a (map (λ l. l.variable) lits) ≤ n
none_greater n a [] h w = h
none_greater n a (l ∷ lits) h w = let low = w.0.1 in none_greater n (max a l.variable) lits (omega (arith, h, low)) w.1

all_literals_within : (n : ℕ) (cs : List Constraint) → AllWithin n cs → AreWithin n (flat_map literals_of cs)
all_literals_within n [] w = tt
all_literals_within n (c ∷ cs) w = all_append (λ l. (1 ≤ l.variable) × (l.variable ≤ n)) (literals_of c) (flat_map literals_of cs) w.0 (all_literals_within n cs w.1)

pub greatest_is_low : (n : ℕ) (cs : List Constraint) → AllWithin n cs → greatest_variable 0 cs ≤ n
greatest_is_low n cs w = none_greater n 0 (flat_map literals_of cs) (omega arith) (all_literals_within n cs w)

-- ---- failed literals

assumed_within : (m : ℕ) (cs : List Constraint) → AllWithin m cs → AreWithin m (assumptions_of cs)
unfolding assumptions_of
assumed_within m [] w = tt
assumed_within m (constraint.Clause lits ∷ cs) w = assumed_within m cs w.1
assumed_within m (constraint.Parity lits ∷ cs) w = assumed_within m cs w.1
assumed_within m (constraint.Assume lits ∷ cs) w = all_append (λ l. (1 ≤ l.variable) × (l.variable ≤ m)) lits (assumptions_of cs) w.0 (assumed_within m cs w.1)

failed_within : (m : ℕ) (cs : List Constraint) (lits : List Literal) → AllWithin m cs → AllByRecursion (λ l. assumes cs l ≡ true) lits → AreWithin m lits
failed_within m cs [] w h = tt
failed_within m cs (l ∷ lits) w h = (has_within m (assumptions_of cs) l (assumed_within m cs w) h.0, failed_within m cs lits w h.1)

kept_within : (m : ℕ) (cs : List Constraint) → AllWithin m cs → AllWithin m (flat_map without_assumptions cs)
kept_within m [] w = tt
kept_within m (constraint.Clause lits ∷ cs) w = (w.0, kept_within m cs w.1)
kept_within m (constraint.Parity lits ∷ cs) w = (w.0, kept_within m cs w.1)
kept_within m (constraint.Assume lits ∷ cs) w = kept_within m cs w.1

module _ (tidies : Bool) (m : ℕ) (formula : Problem) (few : m ≤ formula.variables) (within : AllWithin m formula.constraints) where
  failed_over_more : (lits : List Literal) → IsFailed (over m formula) lits → IsFailed formula lits
  failed_over_more lits f = record {
    assumed = f.assumed;
    unmet = unmet_over_more m (assuming formula lits)
        (all_append (λ c. AreWithin m (literals_of c)) (flat_map without_assumptions formula.constraints) (constraint.Assume lits ∷ []) (kept_within m formula.constraints within) (failed_within m formula.constraints lits within f.assumed, tt)) f.unmet;
  }

  -- ---- logs

  bounded_in_over_more : (t : Bool) (n : ℕ) (events : List LogEvent) → IsBoundedIn t (over m formula) n events → IsBoundedIn t formula n events
  bounded_in_over_more false n events h = bounded_over_more formula m n events few h
  bounded_in_over_more true n events h = tt

  ended_over_more : (events : List LogEvent) → IsEnded (over m formula) events → IsEnded formula events
  ended_over_more events (inl clash) = inl clash
  ended_over_more events (inr (apart, ends)) = inr (apart, ends_over_more m formula few (steps_of events) _ ends)

  pub left_over_more : (told : Option (List LogEvent)) → IsLeft (over m formula) told → IsLeft formula told
  left_over_more None h = h
  left_over_more (Some events) (inl goes_on) = inl (open_over_more m formula few (steps_of events) goes_on)
  left_over_more (Some events) (inr ended) = inr (ended_over_more events ended)

  open_with_over_more : (n : ℕ) (told : Option (List LogEvent)) → IsOpenWith tidies (over m formula) n told → IsOpenWith tidies formula n told
  open_with_over_more n None h = h
  open_with_over_more n (Some events) h = (open_over_more m formula few (steps_of events) h.0, marked_over_more m formula few events n h.1, h.2, h.3, bounded_in_over_more tidies n events h.4)

  -- ---- answers

  answer_over_more : (budget : ℕ) (told : Option (List LogEvent)) (answer : SearchOutcome) → IsRightOutcomeIn tidies (over m formula) budget told answer → IsRightOutcomeIn tidies formula budget told (padded_answer formula.variables answer)
  answer_over_more budget told (Sat values) s = record { meets = padded_meets m formula values few within s.meets; log = (s.log.0, s.log.1, open_with_over_more s.log.0 told s.log.2) }
  answer_over_more budget None (Unsat failed) r = record { unmet = unmet_over_more m formula within r.unmet; fails = failed_over_more failed r.fails; clash = r.clash; log = tt }
  answer_over_more budget (Some events) (Unsat failed) r = record {
    unmet = unmet_over_more m formula within r.unmet;
    fails = failed_over_more failed r.fails;
    clash = r.clash;
    log = (record { ended = ended_over_more events r.log.0.ended; last = r.log.0.last }, (r.log.1.0, r.log.1.1, marked_over_more m formula few events r.log.1.0 r.log.1.2, bounded_in_over_more tidies r.log.1.0 events r.log.1.3), r.log.2, r.log.3);
  }
  answer_over_more budget told (Unknown conflicts) u = record { count = u.count; log = open_with_over_more budget told u.log }

  -- after an answer the log is right as far as it goes
  left_by_answer : (budget : ℕ) (told : Option (List LogEvent)) (answer : SearchOutcome) → IsRightOutcomeIn tidies (over m formula) budget told answer → IsLeft formula told
  left_by_answer budget None answer h = tt
  left_by_answer budget (Some events) (Sat values) s = inl (open_over_more m formula few (steps_of events) s.log.2.0)
  left_by_answer budget (Some events) (Unsat failed) r = inr (ended_over_more events r.log.0.ended)
  left_by_answer budget (Some events) (Unknown conflicts) u = inl (open_over_more m formula few (steps_of events) u.log.0)

  still_known : (answer : SearchOutcome) → ((conflicts : ℕ) → answer ≡ Unknown conflicts → ⊥) → (conflicts : ℕ) → padded_answer formula.variables answer ≡ Unknown conflicts → ⊥
  still_known (Sat values) known conflicts e = cc
  still_known (Unsat failed) known conflicts e = cc
  still_known (Unknown n) known conflicts e = known n refl

  -- ---- settled formulas

  parity_looks : (p : List Literal) → IsParityOf formula p → LooksBelow m p
  parity_looks p (inl given) = given_looks m formula p within given
  parity_looks p (inr recovered) = recovered_looks m formula p within recovered

  recovered_over_fewer : (p : List Literal) → IsParityOf formula p → IsParityOf (over m formula) p
  recovered_over_fewer p (inl given) = inl given
  recovered_over_fewer p (inr r) = inr (record { two = r.two; six = r.six; stands = r.stands })

  pub settled_over_fewer_with : SettledWithRecovered formula → SettledWithRecovered (over m formula)
  settled_over_fewer_with s = record {
    parities = s.parities;
    are = λ p c. recovered_over_fewer p (s.are p c);
    settled = settled_over_fewer m formula few within s.parities (λ p c. parity_looks p (s.are p c)) s.settled;
  }

  -- ---- a search that gives up

  torn_over_more : (torn : LogEvent → Type 0) (told : Option (List LogEvent)) → IsTorn (over m formula) torn told → IsTorn formula torn told
  torn_over_more torn told (event, t, may) = (
    event,
    t,
    record { text = may.text; id = may.id; right = left_over_more (with_events (event ∷ []) told) may.right; unmarked = λ s. may.unmarked (settled_over_fewer_with s) },
  )

  -- ---- the whole promise

  module _ {L : Type 0} (s : sink.Ghosts L LogEvent) (budget : ℕ) (old new : L) where
    torn_in_over_more : (t : Bool) → IsTornIn t s (over m formula) new → IsTornIn t s formula new
    torn_in_over_more false h = torn_over_more (s.torn new) (s.items new) h
    torn_in_over_more true (inl h) = inl (torn_over_more (s.torn new) (s.items new) h)
    torn_in_over_more true (inr h) = inr h

    gives_up_over_more : (fault : CoreFault) → GivesUpIn tidies s (over m formula) new fault → GivesUpIn tidies s formula new fault
    gives_up_over_more Memory h = left_over_more (s.items new) h
    gives_up_over_more Write h = (left_over_more (s.items new) h.0, torn_in_over_more tidies h.1)

    pub searched_answer : (answer : SearchOutcome) → SearchedIn tidies s (over m formula) budget old new (Ok answer) → SearchedIn tidies s formula budget old new (Ok (padded_answer formula.variables answer))
    searched_answer answer h = record {
      answers = answer_over_more budget (s.items new) answer h.answers;
      tidied = h.tidied;
      settled = λ q. still_known answer (h.settled_with_recovered (settled_over_fewer_with (settled_by_its_own formula q)));
      settled_with_recovered = λ q. still_known answer (h.settled_with_recovered (settled_over_fewer_with q));
      unmarked = λ q. h.unmarked (settled_over_fewer_with q);
      ids = h.ids;
      gave_up = tt;
      write = tt;
      faults = h.faults;
      failed = h.failed;
      frame = h.frame;
    }

    pub searched_fault : (fault : CoreFault) → SearchedIn tidies s (over m formula) budget old new (Err fault) → SearchedIn tidies s formula budget old new (Err fault)
    searched_fault fault h = record {
      answers = tt;
      tidied = λ t. tt;
      settled = λ q. tt;
      settled_with_recovered = λ q. tt;
      unmarked = λ q. h.unmarked (settled_over_fewer_with q);
      ids = h.ids;
      gave_up = gives_up_over_more fault h.gave_up;
      write = h.write;
      faults = h.faults;
      failed = h.failed;
      frame = h.frame;
    }

    -- an answer came, and there is no memory for its further values
    pub searched_no_room : (answer : SearchOutcome) → SearchedIn tidies s (over m formula) budget old new (Ok answer) → SearchedIn tidies s formula budget old new (Err Memory)
    searched_no_room answer h = record {
      answers = tt;
      tidied = λ t. tt;
      settled = λ q. tt;
      settled_with_recovered = λ q. tt;
      unmarked = λ q. h.unmarked (settled_over_fewer_with q);
      ids = h.ids;
      gave_up = left_by_answer budget (s.items new) answer h.answers;
      write = λ e. absurd (cc (e));
      faults = h.faults;
      failed = h.failed;
      frame = h.frame;
    }

-- there is no memory for a copy
pub nothing_searched : {L : Type 0} (tidies : Bool) (s : sink.Ghosts L LogEvent) (formula : Problem) (budget : ℕ) (at : L) → KeepsIn tidies s at at → IsFresh (s.items at) → SearchedIn tidies s formula budget at at (Err Memory)
nothing_searched tidies s formula budget at itself fresh = record {
  answers = tt;
  tidied = λ t. tt;
  settled = λ q. tt;
  settled_with_recovered = λ q. tt;
  unmarked = λ q. fresh_has_no_mark (s.items at) fresh;
  ids = fresh_is_low (s.items at) fresh;
  gave_up = fresh_is_left formula (s.items at) fresh;
  write = λ e. absurd (cc (e));
  faults = refl;
  failed = refl;
  frame = itself;
}

module _ {L : Type 0} (tidies : Bool) (s : sink.Ghosts L LogEvent) (formula narrow : Problem) (is : narrow ≡ narrowed formula) (within : IsWithinVariables formula.variables formula.constraints) (narrow_within : IsWithinVariables narrow.variables narrow.constraints)
    (budget : ℕ) (old new : L) where
  few : greatest_variable 0 formula.constraints ≤ formula.variables
  few = greatest_is_low formula.variables formula.constraints within.1

  all_used : AllWithin (greatest_variable 0 formula.constraints) formula.constraints
  all_used = subst (λ (f : Problem). AllWithin f.variables f.constraints) is narrow_within.1

  pub narrowed_answer : (answer last : SearchOutcome) → last ≡ padded_answer formula.variables answer → SearchedIn tidies s narrow budget old new (Ok answer) → SearchedIn tidies s formula budget old new (Ok last)
  narrowed_answer answer last e h = subst (λ a. SearchedIn tidies s formula budget old new (Ok a)) (sym e)
      (searched_answer tidies (greatest_variable 0 formula.constraints) formula few all_used s budget old new answer (subst (λ (f : Problem). SearchedIn tidies s f budget old new (Ok answer)) is h))

  pub narrowed_fault : (fault : CoreFault) → SearchedIn tidies s narrow budget old new (Err fault) → SearchedIn tidies s formula budget old new (Err fault)
  narrowed_fault fault h = searched_fault tidies (greatest_variable 0 formula.constraints) formula few all_used s budget old new fault (subst (λ (f : Problem). SearchedIn tidies s f budget old new (Err fault)) is h)

  pub narrowed_no_room : (answer : SearchOutcome) → SearchedIn tidies s narrow budget old new (Ok answer) → SearchedIn tidies s formula budget old new (Err Memory)
  narrowed_no_room answer h = searched_no_room tidies (greatest_variable 0 formula.constraints) formula few all_used s budget old new answer (subst (λ (f : Problem). SearchedIn tidies s f budget old new (Ok answer)) is h)
