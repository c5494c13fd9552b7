-- What is told last: a clause that ends the log.
use Rattle.std.proofs.Common.{◌≡◌, refl, sym, ap, subst, ℕ, ◌+◌, ◌≤◌, ℤ, Bool, true, false, ◌∙◌, List, [], ◌∷◌, ◌++◌, length, Option, Some, None, inr, arith, true≢false, length-append}
use Rattle.cx_base.specs.Literals.{Literal}
use Rattle.cx_base.specs.Problem.{Problem, Unmet}
use Rattle.cx_base.specs.declared.steps.LogStep.{LogStep}
use Rattle.cx_base.specs.declared.steps.LogStep.TheVariants.{ClauseWithHints}
use Rattle.cx_base.specs.declared.steps.LogEvent.{LogEvent}
use Rattle.cx_base.specs.declared.steps.LogEvent.TheVariants.{Step}
use Rattle.cx_semantics.specs.Chain.{negations}
use Rattle.cx_semantics.specs.Marked.{Marked}
use Rattle.search_steps.specs.Trail.{Entry}
use Rattle.cx_base.specs.Assumptions.{clashes, is_ending, IsFailed}
use Rattle.cx_base.specs.Integers.{integers_of, literals}
use Rattle.search_steps.specs.Hints.{AreHintsFor}
use Rattle.search_steps.specs.LogSteps.{IsAddition}
use Rattle.search_steps.specs.Search.{IsSearchIn}
use Rattle.search_steps.specs.Size.{additions, most_additions}
use Rattle.search_steps.proofs.SizeLaws.{additions_join}
use Rattle.search_steps.proofs.Ends.{ended_is_unmet, chained_clause_ends, chained_clause_fails, chained_clause_is_marked, chained_clause_is_scheduled, chained_clause_is_hinted}
use Rattle.search_steps.specs.Search.{Search}
use Rattle.search_steps.specs.Holding.{AreTold}
use Rattle.cdcl_search.specs.declared.state.SearchState.{SearchState}
use Rattle.cdcl_search.specs.Tells.{IsLeft, with_events}
use Rattle.cdcl_core.specs.Concluding.{IsEndedWith, IsContradicted, IsRefutedBy}
use Rattle.cdcl_core.specs.Results.{RefutesIn, IsEndedWithin, IsBoundedIn, EndsFor}
use Rattle.cdcl_core.proofs.FewAdditions.{bounded_in}

-- ---- at level 0
pub no_newer : (newer older es : List Entry) → es ≡ newer ++ older → length older ≡ length es → older ≡ es
no_newer [] older es is long = sym is
no_newer (x ∷ newer) older es is long = absurd (let a = ap length is in let b = length-append newer older in omega (arith, a, b, long))

-- ---- steps that end the log
within : (tidies : Bool) (formula : Problem) (marks : ℕ) (failed : List Literal) (told : Option (List LogEvent)) → IsEndedWith tidies formula marks failed told → IsEndedWithin tidies formula (marks + 1) failed told
within tidies formula marks failed None e = tt
within tidies formula marks failed (Some events) e = (e.0, (marks, omega arith, e.1, e.4), e.2, e.3)

pub ends_refute : (tidies : Bool) (formula : Problem) (marks : ℕ) (failed : List Literal) (told : Option (List LogEvent)) → Unmet formula → IsFailed formula failed → clashes formula.constraints ≡ false → IsEndedWith tidies formula marks failed told → RefutesIn tidies formula (marks + 1) told failed
ends_refute tidies formula marks failed told unmet fails apart ends = record { unmet = unmet; fails = fails; clash = λ both. absurd (true≢false (sym both ∙ apart)); log = within tidies formula marks failed told ends }

-- a log that is right to its end is right so far
pub ended_is_left : (tidies : Bool) (formula : Problem) (marks : ℕ) (failed : List Literal) (told : Option (List LogEvent)) → IsEndedWith tidies formula marks failed told → IsLeft formula told
ended_is_left tidies formula marks failed None e = tt
ended_is_left tidies formula marks failed (Some events) e = inr e.0.ended

-- ---- a clause with right hints that ends the log is told
module _ {tidies : Bool} (formula : Problem) (parities : List (List Literal)) (s : Search) (ok : IsSearchIn tidies formula parities s) (served : s.moment.awaits ≡ false) (marks : ℕ) (count : s.conflicts ≡ marks) (n : ℕ) (lits : List Literal) (hints : List ℤ)
    (back : literals (integers_of lits) ≡ lits) (added : IsAddition formula s.moment.tables.clauses n (integers_of lits)) (right : AreHintsFor s.moment.tables.clauses lits hints) (ends : is_ending formula.constraints lits ≡ true) where
  abbrev last : LogStep
  last = ClauseWithHints n (integers_of lits) hints

  ending_told : is_ending formula.constraints (literals (integers_of lits)) ≡ true
  ending_told = ap (is_ending formula.constraints) back ∙ ends

  right_told : AreHintsFor s.moment.tables.clauses (literals (integers_of lits)) hints
  right_told = subst (λ xs. AreHintsFor s.moment.tables.clauses xs hints) (sym back) right

  pub clause_fails : IsFailed formula (negations lits)
  clause_fails = subst (λ ls. IsFailed formula (negations ls)) back (chained_clause_fails formula parities s ok n (integers_of lits) hints added right_told ending_told)

  clause_ends : EndsFor formula (s.events ++ Step last ∷ []) (negations lits)
  clause_ends = record {
    ended = chained_clause_ends formula parities s ok n (integers_of lits) hints added right_told ending_told;
    last = λ apart. (s.events, last, refl, ap negations (sym back));
  }

  clause_is_marked : Marked formula (s.events ++ Step last ∷ []) marks
  clause_is_marked = subst (Marked formula (s.events ++ Step last ∷ [])) count (chained_clause_is_marked formula parities s ok n (integers_of lits) hints served ending_told)

  clause_is_bounded : (tidies ≡ false → additions s.events + 1 ≤ most_additions formula marks) → IsBoundedIn tidies formula marks (s.events ++ Step last ∷ [])
  clause_is_bounded few = bounded_in tidies formula marks (s.events ++ Step last ∷ []) (λ plain. let one = additions_join s.events (Step last ∷ []) in let room = few plain in omega (arith, one, room))

  pub clause_is_told : (tidies ≡ false → additions s.events + 1 ≤ most_additions formula marks) → (o : Option (List LogEvent)) → AreTold o s.events → IsEndedWith tidies formula marks (negations lits) (with_events (Step last ∷ []) o)
  clause_is_told few None a = tt
  clause_is_told few (Some es) a = subst (λ xs. IsEndedWith tidies formula marks (negations lits) (Some (xs ++ Step last ∷ []))) (sym a) (clause_ends, clause_is_marked, chained_clause_is_scheduled formula parities s ok n (integers_of lits) hints, chained_clause_is_hinted formula parities s ok n (integers_of lits) hints right_told, clause_is_bounded few)

  pub clause_is_unmet : Unmet formula
  clause_is_unmet = ended_is_unmet formula (s.events ++ Step last ∷ []) clause_ends.ended

-- ---- the empty clause is told
module _ (formula : Problem) (c : SearchState) (hints : List ℤ) (old : Option (List LogEvent)) (shown : IsRefutedBy formula c hints old) where
  abbrev s_then : Search
  s_then = shown.1.0

  abbrev k : IsContradicted formula c hints s_then
  k = shown.1.2

  pub shown_ends : IsEndedWith c.tidies formula c.conflicts [] (with_events (Step (ClauseWithHints c.next [] hints) ∷ []) old)
  shown_ends = clause_is_told formula k.parities s_then k.search k.served c.conflicts k.conflicts c.next [] hints refl (record { within = refl; free = k.free }) k.hinted refl (λ plain. let few = k.few_additions plain in omega (arith, few)) old shown.1.1

  pub shown_is_unmet : Unmet formula
  shown_is_unmet = clause_is_unmet formula k.parities s_then k.search k.served c.conflicts k.conflicts c.next [] hints refl (record { within = refl; free = k.free }) k.hinted refl

  pub shown_fails : IsFailed formula []
  shown_fails = clause_fails formula k.parities s_then k.search k.served c.conflicts k.conflicts c.next [] hints refl (record { within = refl; free = k.free }) k.hinted refl

  pub shown_is_apart : clashes formula.constraints ≡ false
  shown_is_apart = k.search.log.apart
