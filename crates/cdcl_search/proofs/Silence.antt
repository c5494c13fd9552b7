-- Where propagation comes to quiet, the clauses and the parities of the search are quiet.
use Rattle.std.proofs.Common.{ℕ, ◌≤◌, Bool, ◌||◌, ap, ◌≡◌, sym, ◌∙◌, subst, nat_lt, true, false, List, [], ◌∷◌, Option, Some, None, refl, inl, inr}
use Rattle.std.proofs.lemmas.Bool.{ltb-true, ltb-false}
use Rattle.std.specs.List.{list_any}
use Rattle.cx_base.specs.Literals.{Literal, negate}
use Rattle.cx_base.specs.Problem.{Problem}
use Rattle.cx_semantics.specs.Chain.{has_literal, same_literals}
use Rattle.cx_semantics.specs.Fresh.{is_tautology}
use Rattle.cx_semantics.specs.Marked.{is_among}
use Rattle.cx_semantics.specs.Tables.{get}
use Rattle.cx_semantics.proofs.Closure.{has_by_inside}
use Rattle.cx_semantics.proofs.Members.{has_at_head, has_behind}
use Rattle.clause_arena.specs.Clauses.{literals_at}
use Rattle.watch_lists.specs.Events.{Happens}
use Rattle.watch_lists.specs.declared.event.Event.TheVariants as event
use Rattle.parity_engine.specs.State.{State, IsSilent}
use Rattle.search_steps.specs.Trail.{held, all_held}
use Rattle.search_steps.specs.Quiet.{Quiet, RestsOn, HasNoClash, ClausesQuiet, ParitiesQuiet}
use Rattle.search_steps.specs.Search.{Search, IsSearchIn}
use Rattle.conflict_learn.proofs.ChainOfResolutions.{by_cases}
use Rattle.search_steps.proofs.Sets.{not_both, true_rests, tautology_rests}
use Rattle.search_steps.proofs.TrailLaws.{held_inside}
use Rattle.search_steps.proofs.EngineLaws.{silent_is_quiet}
use Rattle.search_steps.proofs.OverSearch.{no_clash}
use Rattle.search_steps.proofs.Stored.{watched_rests}
use Rattle.cdcl_search.specs.declared.state.SearchState.{SearchState}
use Rattle.cdcl_search.specs.Ties.{Ties, first_row_id, IsHeld, IsWatched}
use Rattle.cdcl_search.specs.Finds.{HasAll}
use Rattle.cdcl_search.proofs.Naming.{all_fed}

some_not_none : (x : List Literal) → (let o : Option (List Literal) = Some x in o) ≡ None → ⊥
some_not_none x e = cc

-- a literal that passes the test, where some does
pub some_literal : (p : Literal → Bool) (lits : List Literal) → list_any p lits ≡ true → (l : Literal) × (has_literal lits l ≡ true) × (p l ≡ true)
some_literal p [] h = not_both false h refl
some_literal p (x ∷ lits) h = by_cases (p x)
    (λ is. (x, has_at_head x lits, is))
    (λ is. let r = some_literal p lits (sym (ap (λ b. b || list_any p lits) is) ∙ h) in (r.0, has_behind x lits r.0 r.1, r.2))

module _ (formula : Problem) (c : SearchState) (e : State) (s : Search) (ok : IsSearchIn c.tidies formula e.parities s) (t : Ties formula c e [] s) (f : IsWatched c.watches c.arena c.trail) where
  clash : HasNoClash (all_held s.trail)
  clash = no_clash formula e.parities s ok

  -- a live clause that is held rests where each attached one is quiet
  held_rests : Happens c.watches.attached c.arena c.trail event.Quiet → (n : ℕ) (clause : List Literal) → get s.moment.tables.clauses n ≡ Some clause → IsHeld c.tidies c.arena (held 0 s.trail) n clause → RestsOn (all_held s.trail) clause
  held_rests quiet n clause is (inl (r, live, id)) =
      let named = (t.clauses.stored r live).named in
      watched_rests (literals_at c.arena r) clause (subst (λ xs. same_literals (literals_at c.arena r) xs ≡ true) (same_clause named.clause (sym named.live ∙ ap (get s.moment.tables.clauses) id ∙ is)) named.same)
      s.trail c.trail.entries t.trail.follows.tied clash (quiet r (f.all r live))
    where
      same_clause : (xs : List Literal) → Some xs ≡ Some clause → xs ≡ clause
      same_clause xs q = cc
  held_rests quiet n clause is (inr (inl both)) = let p = one_beside clause both.1 in tautology_rests (all_held s.trail) clause p.0 clash p.1 p.2
    where
      one_beside : (lits : List Literal) → is_tautology lits ≡ true → (l : Literal) × (has_literal lits l ≡ true) × (has_literal lits (negate l) ≡ true)
      one_beside lits both = some_literal (λ l. has_literal lits (negate l)) lits both
  held_rests quiet n clause is (inr (inr (one, h))) = true_rests (all_held s.trail) clause clash
      (record { l = h.l; has_it = h.has_it; is_held = has_by_inside (held 0 s.trail) (all_held s.trail) h.l (held_inside 0 s.trail) h.is_held })

  -- with no clause of a row told since the last mark, the ids from the next one on are free
  free_from_next : (n : ℕ) → c.next ≤ n → get s.moment.tables.clauses n ≡ None
  free_from_next n high = by_cases (nat_lt n (first_row_id c.next))
      (λ q. t.log.ranged.free n high (ltb-true n (first_row_id c.next) q))
      (λ q. t.log.ranged.rows_free n (ltb-false n (first_row_id c.next) q)
      (subst (λ ids. is_among ids n ≡ false) (sym t.log.served.new_clauses) refl) (subst (λ ids. is_among ids n ≡ false) (sym t.log.served.old_clauses) refl))

  pub clauses_quiet : Happens c.watches.attached c.arena c.trail event.Quiet → ClausesQuiet s.moment.tables.clauses (all_held s.trail)
  clauses_quiet quiet clause (n, live) = by_cases (nat_lt n c.next)
      (λ low. held_rests quiet n clause live (t.clauses.covered n clause (ltb-true n c.next low) live))
      (λ high. absurd (some_not_none clause (sym live ∙ free_from_next n (ltb-false n c.next high))))

  pub rows_quiet : HasAll c → IsSilent e → ParitiesQuiet formula.variables e.parities (all_held s.trail)
  rows_quiet all silent =
      subst (λ n. ParitiesQuiet n e.parities (all_held s.trail)) t.engine.vars (silent_is_quiet e s.trail (all_fed formula c e [] s t all) silent)

  pub found_quiet : Happens c.watches.attached c.arena c.trail event.Quiet → HasAll c → IsSilent e → Quiet formula.variables e.parities s.moment.tables.clauses (all_held s.trail)
  found_quiet quiet all silent = record { clauses = clauses_quiet quiet; rows = rows_quiet all silent }
