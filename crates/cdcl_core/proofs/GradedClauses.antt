-- An arena some of whose clauses got other lbds.
use Rattle.std.proofs.Common.{◌≡◌, refl, sym, ap, ◌∙◌, subst, ℕ, zero, suc, ◌<◌, ◌≤◌, Bool, true, is_some, List, [], ◌∷◌, length, map, get_or, set, take, Option, None, Some, inl, inr}
use Rattle.std.specs.List.{All, Contains}
use Rattle.std.proofs.lemmas.List.{length-map}
use Rattle.cx_base.specs.Literals.{Literal, HasTwo}
use Rattle.cx_base.specs.Problem.{Problem, clauses_of}
use Rattle.cx_semantics.specs.Chain.{is_inside}
use Rattle.cx_semantics.specs.Fresh.{is_tautology}
use Rattle.cx_semantics.specs.Marked.{is_among}
use Rattle.cx_semantics.specs.Tables.{Table}
use Rattle.cx_trail.specs.declared.entry.Entry.{Entry as TrailEntry}
use Rattle.cx_trail.specs.declared.entry.Reason.{Reason}
use Rattle.cx_trail.specs.declared.entry.Reason.TheVariants as reason
use Rattle.cx_trail.specs.Sequence.{TrailState, entry_at}
use Rattle.clause_arena.specs.Clauses.{ArenaState, Stored, IsLive, clause_at, literals_at, literals_in, id_at, id_in, learned_at, learned_in, lbd_in, with_lbd}
use Rattle.tidy_rules.specs.Relations.{strengthens}
use Rattle.watch_lists.specs.Truths.{AreOthersFalse}
use Rattle.watch_lists.specs.Watching.{WatchState, IsThird, held_at, side_at, partner, clause_of}
use Rattle.parity_engine.specs.State.{State}
use Rattle.cdcl_search.specs.Ties.{ClauseTies, AreLearned, IsNamedBy, IsHeld, NeedsNoLearned, ReasonTies, HasReasonOf, IsWatched}
use Rattle.cdcl_core.specs.Grading.{ungraded}

-- ---- one clause with another lbd
twice : (n : ℕ) (o : Option Stored) → with_lbd 0 (with_lbd n o) ≡ with_lbd 0 o
twice n None = refl
twice n (Some k) = refl

pub graded_set : (clauses : List (Option Stored)) (r n : ℕ) → map (with_lbd 0) (set clauses r (with_lbd n (get_or clauses r None))) ≡ map (with_lbd 0) clauses
graded_set [] r n = refl
graded_set (o ∷ clauses) zero n = ap (λ x. x ∷ map (with_lbd 0) clauses) (twice n o)
graded_set (o ∷ clauses) (suc r) n = ap (λ xs. with_lbd 0 o ∷ xs) (graded_set clauses r n)

pub lbd_of_set : (clauses : List (Option Stored)) (r n : ℕ) → is_some (get_or clauses r None) ≡ true → lbd_in (get_or (set clauses r (with_lbd n (get_or clauses r None))) r None) ≡ n
lbd_of_set [] r n live = absurd (cc)
lbd_of_set (None ∷ clauses) zero n live = absurd (cc)
lbd_of_set (Some k ∷ clauses) zero n live = refl
lbd_of_set (o ∷ clauses) (suc r) n live = lbd_of_set clauses r n live

-- ---- what does not rest on lbds
lits_without : (o : Option Stored) → literals_in (with_lbd 0 o) ≡ literals_in o
lits_without None = refl
lits_without (Some k) = refl

id_without : (o : Option Stored) → id_in (with_lbd 0 o) ≡ id_in o
id_without None = refl
id_without (Some k) = refl

learned_without : (o : Option Stored) → learned_in (with_lbd 0 o) ≡ learned_in o
learned_without None = refl
learned_without (Some k) = refl

some_without : (o : Option Stored) → is_some (with_lbd 0 o) ≡ is_some o
some_without None = refl
some_without (Some k) = refl

clause_without : (clauses : List (Option Stored)) (r : ℕ) → get_or (map (with_lbd 0) clauses) r None ≡ with_lbd 0 (get_or clauses r None)
clause_without [] r = refl
clause_without (o ∷ clauses) zero = refl
clause_without (o ∷ clauses) (suc r) = clause_without clauses r

module _ (a b : ArenaState) (same : ungraded b ≡ ungraded a) where
  clause_same : (r : ℕ) → with_lbd 0 (clause_at b r) ≡ with_lbd 0 (clause_at a r)
  clause_same r = sym (clause_without b.clauses r) ∙ ap (λ clauses. get_or clauses r None) same ∙ clause_without a.clauses r

  pub same_literals : (r : ℕ) → literals_at b r ≡ literals_at a r
  same_literals r = sym (lits_without (clause_at b r)) ∙ ap literals_in (clause_same r) ∙ lits_without (clause_at a r)

  same_id : (r : ℕ) → id_at b r ≡ id_at a r
  same_id r = sym (id_without (clause_at b r)) ∙ ap id_in (clause_same r) ∙ id_without (clause_at a r)

  same_learned : (r : ℕ) → learned_at b r ≡ learned_at a r
  same_learned r = sym (learned_without (clause_at b r)) ∙ ap learned_in (clause_same r) ∙ learned_without (clause_at a r)

  same_live : (r : ℕ) → is_some (clause_at b r) ≡ is_some (clause_at a r)
  same_live r = sym (some_without (clause_at b r)) ∙ ap is_some (clause_same r) ∙ some_without (clause_at a r)

  pub live_then : (r : ℕ) → IsLive a r → IsLive b r
  live_then r live = same_live r ∙ live

  live_before : (r : ℕ) → IsLive b r → IsLive a r
  live_before r live = sym (same_live r) ∙ live

  same_count : length b.clauses ≡ length a.clauses
  same_count = sym (length-map b.clauses (with_lbd 0)) ∙ ap length same ∙ length-map a.clauses (with_lbd 0)

  held_then : (tidies : Bool) (fixed : List Literal) (n : ℕ) (clause : List Literal) → IsHeld tidies a fixed n clause → IsHeld tidies b fixed n clause
  held_then tidies fixed n clause (inl (r, live, is)) = inl (r, live_then r live, same_id r ∙ is)
  held_then tidies fixed n clause (inr other) = inr other

  needs_then : (fixed clause : List Literal) → NeedsNoLearned a fixed clause → NeedsNoLearned b fixed clause
  needs_then fixed clause (inl both) = inl both
  needs_then fixed clause (inr (inl fixed_true)) = inr (inl fixed_true)
  needs_then fixed clause (inr (inr (r, live, stays, inside))) = inr (inr (r, live_then r live, same_learned r ∙ stays, ap (λ ls. is_inside ls clause) (same_literals r) ∙ inside))

  pub clauses_then : (tidies : Bool) (formula : Problem) (table : Table) (next below : ℕ) (fixed : List Literal) → ClauseTies tidies formula table next a below fixed → ClauseTies tidies formula table next b below fixed
  clauses_then tidies formula table next below fixed t = record {
    stored = λ r live.
        let k = t.stored r (live_before r live) in
        record {
          wide = subst HasTwo (sym (same_literals r)) k.wide;
          named = subst (λ ls. IsNamedBy table ls (id_at b r)) (sym (same_literals r)) (subst (λ n. IsNamedBy table (literals_at a r) n) (sym (same_id r)) k.named);
          low = subst (λ n. n < next) (sym (same_id r)) k.low;
          late = λ learned. subst (λ n. length (clauses_of formula.constraints) < n) (sym (same_id r)) (k.late (sym (same_learned r) ∙ learned));
        };
    covered = λ n clause h has. held_then tidies fixed n clause (t.covered n clause h has);
    apart = λ r q live_r live_q is. t.apart r q (live_before r live_r) (live_before q live_q) (sym (same_id r) ∙ is ∙ same_id q);
    original = λ clause of. needs_then fixed clause (t.original clause of);
    old = record {
      tidy = record {
        no_tautology = λ n h. ap is_tautology (same_literals n) ∙ t.old.tidy.no_tautology n (h.0, live_before n h.1);
        none_inside = λ m n h k apart. ap (λ ls. is_inside ls (literals_at b n)) (same_literals m) ∙ ap (λ ls. is_inside (literals_at a m) ls) (same_literals n) ∙ t.old.tidy.none_inside m n (h.0, live_before m h.1) (k.0, live_before n k.1) apart;
        none_strengthened = λ m n h k apart. ap (λ ls. strengthens ls (literals_at b n)) (same_literals m) ∙ ap (λ ls. strengthens (literals_at a m) ls) (same_literals n) ∙ t.old.tidy.none_strengthened m n (h.0, live_before m h.1) (k.0, live_before n k.1) apart;
      };
      within = subst (λ n. below ≤ n) (sym same_count) t.old.within;
    };
  }

  pub learned_then : (ids : List ℕ) → AreLearned a ids → AreLearned b ids
  learned_then ids are r live learned = ap (is_among ids) (same_id r) ∙ are r (live_before r live) (sym (same_learned r) ∙ learned)

  reason_then : (entries : List TrailEntry) (e : State) (i : ℕ) (why : Reason) → HasReasonOf a entries e i why → HasReasonOf b entries e i why
  reason_then entries e i reason.Decision has = has
  reason_then entries e i (reason.Clause r) has = record {
    live = live_then r has.live;
    has = subst (λ ls. Contains ls (entry_at entries i).literal) (sym (same_literals r)) has.has;
    others = subst (λ ls. AreOthersFalse (take i entries) ls (entry_at entries i).literal) (sym (same_literals r)) has.others;
  }
  reason_then entries e i (reason.Row row) has = has

  pub reasons_then : (entries : List TrailEntry) (units : ℕ) (e : State) → ReasonTies a entries units e → ReasonTies b entries units e
  reasons_then entries units e have i far less = reason_then entries e i (entry_at entries i).reason (have i far less)

  pub watched_then : (w : WatchState) (t : TrailState) → IsWatched w a t → IsWatched w b t
  watched_then w t watched =
      let nodes = watched.fits.nodes in
      record {
        fits = record {
          variables = watched.fits.variables;
          nodes = record {
            pairs = nodes.pairs;
            live = λ r attached. live_then r (nodes.live r attached);
            within = λ r attached. subst (λ ls. All (λ l. (1 ≤ l.variable) × (l.variable ≤ w.variables)) ls) (sym (same_literals r)) (nodes.within r attached);
            inside = λ n attached. subst (λ ls. Contains ls (held_at w.held n)) (sym (same_literals (clause_of n))) (nodes.inside n attached);
            apart = nodes.apart;
            thirds = λ n attached. subst (λ ls. IsThird ls (side_at w.held n) (side_at w.held (partner n))) (sym (same_literals (clause_of n))) (nodes.thirds n attached);
          };
          guarded = watched.fits.guarded;
          behind = watched.fits.behind;
        };
        all = λ r live. watched.all r (live_before r live);
      }
