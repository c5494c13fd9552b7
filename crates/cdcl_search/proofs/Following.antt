-- What the attached clauses force is put on the trail, one literal after another.
use Rattle.std.proofs.Common.{◌≡◌, sym, ap, ◌∙◌, subst, ℕ, zero, suc, ◌+◌, ◌<◌, ◌≤◌, List, [], ◌∷◌, ◌++◌, length, take, Contains, Option, length-append, arith}
use Rattle.std.proofs.Math.Seq.{take-suc, take-length, take-append_seam}
use Rattle.std.proofs.Math.ListN.{get_or-append}
use Rattle.cx_base.specs.Literals.{Literal}
use Rattle.cx_base.specs.Problem.{Problem}
use Rattle.cx_base.specs.declared.steps.LogEvent.{LogEvent}
use Rattle.cx_trail.specs.declared.entry.Entry.{Entry as TrailEntry}
use Rattle.cx_trail.specs.declared.entry.Reason.{Reason}
use Rattle.cx_trail.specs.Sequence.{TrailState, IsTrail, entry_at, no_entry, pushed}
use Rattle.clause_arena.specs.Clauses.{literals_at, id_at}
use Rattle.watch_lists.specs.Truths.{AreOthersFalse}
use Rattle.watch_lists.specs.Watching.{WatchState, Fits, IsAttached, IsForced, Propagates}
use Rattle.parity_engine.specs.State.{State}
use Rattle.search_steps.specs.Trail.{by_clause}
use Rattle.search_steps.specs.Search.{Search, forced_on}
use Rattle.search_steps.proofs.Bridge.{level_tied}
use Rattle.search_steps.proofs.CodeSteps.{clause_step_keeps}
use Rattle.search_steps.proofs.Stored.{stored_forces}
use Rattle.search_steps.proofs.IdLaws.{force_ranged}
use Rattle.cdcl_search.specs.declared.state.SearchState.{SearchState}
use Rattle.cdcl_search.specs.Ties.{Ties, SearchStands, first_row_id, IsKept, IsClauseReasonOf, HasReasonOf}
use Rattle.cdcl_search.proofs.Fronts.{front, late_level, front_is_trail}
use Rattle.cdcl_search.proofs.Growing.{put, grown, at_end, before, forced_ties, watched_grows}

-- each level of the search is known to be quiet but the current one
pub levels_low : (formula : Problem) (c : SearchState) (e : State) (rows : List (List Literal)) (s : Search) → Ties formula c e rows s → s.quiet_levels ≡ c.trail.level
levels_low formula c e rows s t = t.levels ∙ level_tied s.trail c.trail t.trail.follows.tied t.trail.follows.sound

module _ (formula : Problem) (e : State) (told : Option (List LogEvent)) where
  -- one literal more
  forced_more : (c : SearchState) (l : Literal) (why : Reason) → SearchStands formula c e [] told → IsTrail (pushed c.trail c.trail.level l why)
      → IsForced c.watches.attached c.arena c.trail.entries (record { literal = l; level = c.trail.level; reason = why }) → SearchStands formula (put c c.trail.level l why) e [] told
  forced_more c l why (s, ok, told_is, t, w) sound f =
      let live = w.fits.nodes.live f.clause f.of_attached in
      let stored : IsKept formula s.moment.tables.clauses c.next c.arena f.clause = t.clauses.stored f.clause live in
      let levels = levels_low formula c e [] s t in
      let n = id_at c.arena f.clause in
      let kept = clause_step_keeps formula e.parities s ok c.trail t.trail.follows l why f.unassigned n stored.named.clause (omega (arith, levels)) stored.named.live
      (stored_forces (literals_at c.arena f.clause) stored.named.clause stored.named.same c.trail.entries l f.inside f.others) in
      let ranged = force_ranged formula (first_row_id c.next) c.next (first_row_id c.next + 0) s t.log.ranged l n (let low = stored.low in omega (arith, low)) in
      (forced_on s l (by_clause n), kept.0, told_is, forced_ties formula c e [] s t l why (by_clause n) ranged kept.1 sound has, watched_grows c c.trail.level l why (omega arith) w)
    where
      is_reason : IsClauseReasonOf c.arena (grown c c.trail.level l why) (length c.trail.entries) f.clause
      is_reason = record {
        live = w.fits.nodes.live f.clause f.of_attached;
        has = subst (λ (x : TrailEntry). Contains (literals_at c.arena f.clause) x.literal) (sym (at_end c c.trail.level l why)) f.inside;
        others = subst (λ (x : TrailEntry). AreOthersFalse (take (length c.trail.entries) (grown c c.trail.level l why)) (literals_at c.arena f.clause) x.literal) (sym (at_end c c.trail.level l why))
            (subst (λ ys. AreOthersFalse ys (literals_at c.arena f.clause) l) (sym (before c c.trail.level l why (length c.trail.entries) (omega arith) ∙ take-length c.trail.entries)) f.others);
      }

      has : HasReasonOf c.arena (grown c c.trail.level l why) e (length c.trail.entries) why
      has = subst (HasReasonOf c.arena (grown c c.trail.level l why) e (length c.trail.entries)) (sym f.reason) is_reason

  module _ (c : SearchState) (u : TrailState) (sound : IsTrail c.trail) (new_sound : IsTrail u) (p : Propagates c.watches.attached c.arena c.trail u) where
    abbrev at_step : ℕ → SearchState
    at_step n = record c { trail = front u (length c.trail.entries + n) }

    same : (i : ℕ) → i < length c.trail.entries → entry_at u.entries i ≡ entry_at c.trail.entries i
    same i less = ap (λ es. entry_at es i) p.grown ∙ get_or-append c.trail.entries p.more no_entry i less

    at_first : c ≡ at_step 0
    at_first =
        let entries : c.trail.entries ≡ take (length c.trail.entries + 0) u.entries =
        sym (take-append_seam c.trail.entries p.more) ∙ ap (λ es. take (length c.trail.entries) es) (sym p.grown) ∙ ap (λ m. take m u.entries) (let e : length c.trail.entries ≡ length c.trail.entries + 0 = omega arith in e) in
        λ i. record c { trail = record { variables = sym p.variables i; level = sym p.level i; entries = entries i } }

    one_more : (n : ℕ) → length c.trail.entries + n < length u.entries
        → put (at_step n) u.level (entry_at u.entries (length c.trail.entries + n)).literal (entry_at u.entries (length c.trail.entries + n)).reason ≡ at_step (suc n)
    one_more n less =
        let m = length c.trail.entries + n in
        let x = entry_at u.entries m in
        let level = late_level c.trail u sound new_sound p.level same m (omega arith) less in
        let is : record { literal = x.literal; level = u.level; reason = x.reason } ≡ x = (λ i. record { literal = x.literal; level = sym level i; reason = x.reason }) in
        let entries : take m u.entries ++ record { literal = x.literal; level = u.level; reason = x.reason } ∷ [] ≡ take (length c.trail.entries + suc n) u.entries =
        ap (λ y. take m u.entries ++ y ∷ []) is ∙ sym (take-suc u.entries m no_entry less) ∙ ap (λ k. take k u.entries) (let e : suc m ≡ length c.trail.entries + suc n = omega arith in e) in
        λ i. record c { trail = record { variables = u.variables; level = u.level; entries = entries i } }

    step_by_step : (n : ℕ) → length c.trail.entries + n ≤ length u.entries → SearchStands formula c e [] told → SearchStands formula (at_step n) e [] told
    step_by_step zero few stands = subst (λ k. SearchStands formula k e [] told) at_first stands
    step_by_step (suc n) few stands =
        let m = length c.trail.entries + n in
        let x = entry_at u.entries m in
        let less : m < length u.entries = omega (arith, few) in
        let path = one_more n less in
        let is_sound : IsTrail (at_step (suc n)).trail = front_is_trail c.trail u sound new_sound p.level same (length c.trail.entries + suc n) (omega arith) few in
        let level = late_level c.trail u sound new_sound p.level same m (omega arith) less in
        let is : x ≡ record { literal = x.literal; level = u.level; reason = x.reason } = (λ i. record { literal = x.literal; level = level i; reason = x.reason }) in
        subst (λ k. SearchStands formula k e [] told) path
        (forced_more (at_step n) x.literal x.reason (step_by_step n (omega (arith, few)) stands)
        (subst (λ (k : SearchState). IsTrail k.trail) (sym path) is_sound)
        (subst (IsForced c.watches.attached c.arena (take m u.entries)) is (p.forced m (omega arith) less)))

    followed : SearchStands formula c e [] told → SearchStands formula (record c { trail = u }) e [] told
    followed stands =
        let long : length u.entries ≡ length c.trail.entries + length p.more = ap length p.grown ∙ length-append c.trail.entries p.more in
        let all : take (length c.trail.entries + length p.more) u.entries ≡ u.entries = ap (λ k. take k u.entries) (sym long) ∙ take-length u.entries in
        subst (λ k. SearchStands formula k e [] told) (λ i. record c { trail = record { variables = u.variables; level = u.level; entries = all i } })
        (step_by_step (length p.more) (omega (arith, long)) stands)

  -- other watches of the same clauses
  pub rewatched : (c : SearchState) (rows : List (List Literal)) (w : WatchState) → w.attached ≡ c.watches.attached → Fits w c.arena c.trail → SearchStands formula c e rows told → SearchStands formula (record c { watches = w }) e rows told
  rewatched c rows w attached fits (s, ok, told_is, t, f) = (
    s,
    ok,
    told_is,
    record { log = t.log; clauses = t.clauses; learned = t.learned; trail = t.trail; units = t.units; engine = t.engine; reasons = t.reasons; counts = t.counts; ids = t.ids; levels = t.levels },
    record { fits = fits; all = λ r live. subst (λ b. IsAttached b r) (sym attached) (f.all r live) },
  )

  pub clauses_followed : (c : SearchState) (u : TrailState) (w : WatchState) → IsTrail u → w.attached ≡ c.watches.attached → Fits w c.arena u → Propagates c.watches.attached c.arena c.trail u
      → SearchStands formula c e [] told → SearchStands formula (record c { trail = u; watches = w }) e [] told
  clauses_followed c u w sound attached fits p stands = rewatched (record c { trail = u }) [] w attached fits (followed c u stands.3.trail.follows.sound sound p stands)
