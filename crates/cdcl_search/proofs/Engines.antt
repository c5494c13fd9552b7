-- What the ties say under another state of the engine.
use Rattle.std.proofs.Common.{◌≡◌, sym, ap, ◌∙◌, subst, ℕ, ◌≤◌, ◌<◌, false, List, length, Some}
use Rattle.std.specs.List.{AllByRecursion}
use Rattle.std.specs.Prelude.{IsTrue}
use Rattle.std.specs.FinSet as set
use Rattle.cx_base.specs.Literals.{Literal}
use Rattle.cx_base.specs.Problem.{Problem}
use Rattle.cx_trail.specs.declared.entry.Entry.{Entry as TrailEntry}
use Rattle.cx_trail.specs.declared.entry.Reason.{Reason}
use Rattle.cx_trail.specs.declared.entry.Reason.TheVariants as reason
use Rattle.cx_trail.specs.Sequence.{entry_at}
use Rattle.parity_engine.specs.State.{State, Named, named_at, MeetsForm}
use Rattle.search_steps.specs.Trail.{Entry}
use Rattle.search_steps.specs.Search.{Search}
use Rattle.parity_engine.specs.Equations.{sum_of_numbers}
use Rattle.parity_engine.specs.Written.{AreRising}
use Rattle.search_steps.specs.Engine.{HoldsValues}
use Rattle.search_steps.specs.Laws.{HaveTheirs}
use Rattle.cdcl_search.specs.declared.state.SearchState.{SearchState}
use Rattle.cdcl_search.specs.Ties.{Ties, LogTies, IsRowReasonAt, HasReasonOf, HaveReasons, IsFed, first_row_id}

-- a row that is named anew, with the same form and level, is the reason that it was
pub renamed_reason : (e u : State) (entries : List TrailEntry) (i row : ℕ) (h : IsRowReasonAt e entries i row) (n : Named) → named_at u row ≡ Some n → n.in_conflict ≡ false → n.form ≡ h.named.form → n.level ≡ h.named.level → n.sources ≡ h.named.sources → u.parities ≡ e.parities → IsRowReasonAt u entries i row
renamed_reason e u entries i row h n is calm form level sources parities = record {
  named = n;
  is = is;
  implied = calm;
  level = subst (λ k. k ≤ (entry_at entries i).level) (sym level) h.level;
  has = subst (λ f. IsTrue (set.contains f.variables (entry_at entries i).literal.variable)) (sym form) h.has;
  others = λ v low apart has. h.others v low apart (subst (λ f. IsTrue (set.contains f.variables v)) form has);
  met = λ values agrees. subst (MeetsForm values) (sym form) (h.met values agrees);
  numbers = subst (λ ps. AreRising 1 (length ps) n.sources) (sym parities) (subst (AreRising 1 (length e.parities)) (sym sources) h.numbers);
  sums = form ∙ h.sums ∙ ap (sum_of_numbers e.parities) (sym sources) ∙ ap (λ ps. sum_of_numbers ps n.sources) (sym parities);
}

module _ (c : SearchState) (e u : State) (rows_stay : (i row : ℕ) → i < length c.trail.entries → IsRowReasonAt e c.trail.entries i row → IsRowReasonAt u c.trail.entries i row) where
  reason_stays : (i : ℕ) → i < length c.trail.entries → (r : Reason) → HasReasonOf c.arena c.trail.entries e i r → HasReasonOf c.arena c.trail.entries u i r
  reason_stays i less reason.Decision h = h
  reason_stays i less (reason.Clause r) h = h
  reason_stays i less (reason.Row row) h = rows_stay i row less h

  pub reasons_stay : HaveReasons c e → HaveReasons c u
  reasons_stay h i low less = reason_stays i less _ (h i low less)

pub fed_by : (es : List Entry) (given : ℕ) (e u : State) → u.values ≡ e.values → u.level ≡ e.level → IsFed es given e → IsFed es given u
fed_by es given e u values level f = record {
  newer = f.newer;
  older = f.older;
  parts = f.parts;
  count = f.count;
  now = subst (λ k. AllByRecursion (λ (x : Entry). x.level ≡ k) f.newer) (sym level) f.now;
  values = subst (HoldsValues f.older) (sym values) f.values;
  level = level ∙ f.level;
}

-- an engine with the same values and level, and with rows that are still the reasons that they were
pub other_engine : (formula : Problem) (c : SearchState) (rows : List (List Literal)) (s : Search) (e u : State) → u.vars ≡ e.vars → u.parities ≡ e.parities → u.values ≡ e.values → u.level ≡ e.level → HaveReasons c u
    → Ties formula c e rows s → Ties formula c u rows s
other_engine formula c rows s e u vars parities values level reasons t = record {
  log = subst (λ ps. LogTies c.tidies formula ps c.next (first_row_id c.next) rows s) (sym parities) t.log;
  clauses = t.clauses;
  learned = t.learned;
  trail = t.trail;
  units = t.units;
  engine = record {
    vars = vars ∙ t.engine.vars;
    wide = subst (λ vs. length vs ≡ u.vars) (sym values) (t.engine.wide ∙ sym vars);
    theirs = subst (HaveTheirs formula) (sym parities) t.engine.theirs;
    few = subst (λ ps. length ps ≤ length formula.constraints) (sym parities) t.engine.few;
    fed = fed_by s.trail c.given e u values level t.engine.fed;
  };
  reasons = reasons;
  counts = t.counts;
  ids = t.ids;
  levels = t.levels;
}
