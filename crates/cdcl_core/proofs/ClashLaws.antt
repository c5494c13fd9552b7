-- Where a formula's assumptions clash, the log of its constraints is ended.
use Rattle.std.proofs.Common.{◌≡◌, refl, sym, ◌∙◌, subst, ℕ, ◌≤◌, true, List, [], ◌∷◌, Some, None, Option, inl, arith, true≢false, append-nil}
use Rattle.cx_base.specs.Assumptions.{clashes, IsClash}
use Rattle.cx_base.specs.Literals.{positive_of, negative_of}
use Rattle.cx_base.specs.Problem.{Problem}
use Rattle.cx_base.specs.declared.steps.LogEvent.{LogEvent}
use Rattle.cx_semantics.specs.Marked.{Marked, original_events}
use Rattle.cx_semantics.proofs.FailingLaws.{clashes_fail}
use Rattle.search_steps.specs.Search.{Search}
use Rattle.search_steps.specs.Start.{IsBegun}
use Rattle.search_steps.specs.Hints.{AreHinted}
use Rattle.search_steps.specs.Schedule.{IsScheduled}
use Rattle.search_steps.proofs.HintLaws.{originals_are_hinted}
use Rattle.search_steps.proofs.ScheduleLaws.{originals_are_scheduled}
use Rattle.search_steps.proofs.Ends.{ended_is_unmet}
use Rattle.cdcl_core.specs.Originals.{HasBegun}
use Rattle.cdcl_core.specs.Results.{Refutes}
use Rattle.cdcl_core.proofs.FewAdditions.{originals_are_bounded}

begun_is_marked : (formula : Problem) (s : Search) → IsBegun formula formula.constraints s → Marked formula s.events 0
begun_is_marked formula s b = record {
  marks = b.marks;
  originals = ([], b.originals ∙ sym (append-nil (original_events 1 1 formula.constraints)));
  last = s.moment;
  fit = b.fits;
  served = b.tidy.served;
}

pub clash_refutes : (formula : Problem) (x budget : ℕ) → 1 ≤ budget → IsClash formula.constraints x → clashes formula.constraints ≡ true → (o : Option (List LogEvent)) → HasBegun formula formula.constraints o
    → Refutes formula budget o (positive_of x ∷ negative_of x ∷ [])
clash_refutes formula x budget some clash c None b = record { unmet = ended_is_unmet formula [] (inl c); fails = clashes_fail formula x clash; clash = λ both. (x, clash, refl); log = tt }
clash_refutes formula x budget some clash c (Some es) b = record {
  unmet = ended_is_unmet formula es (inl c);
  fails = clashes_fail formula x clash;
  clash = λ both. (x, clash, refl);
  log = (
    record { ended = inl c; last = λ apart. absurd (true≢false (sym c ∙ apart)) },
    (0, omega (arith, some), subst (λ xs. Marked formula xs 0) (sym b.4) (begun_is_marked formula b.0 b.1), originals_are_bounded formula es (b.4 ∙ b.1.originals)),
    subst IsScheduled (sym b.4) (originals_are_scheduled formula.constraints b.0.events b.1.originals),
    subst AreHinted (sym b.4) (originals_are_hinted formula.constraints b.0.events b.1.originals),
  );
}
