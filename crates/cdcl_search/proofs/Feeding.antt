-- The engine is given the next literal of the trail.
use Rattle.std.proofs.Common.{◌≡◌, refl, sym, ap, ◌∙◌, subst, ℕ, ◌+◌, ◌<◌, ◌≤◌, true, not, List, [], ◌∷◌, ◌++◌, length, Option, None, append_assoc, length-append, arith}
use Rattle.std.proofs.lemmas.List.{length-set, length_push}
use Rattle.std.specs.List.{AllByRecursion}
use Rattle.cx_base.specs.Literals.{Literal}
use Rattle.cx_base.specs.Problem.{Problem}
use Rattle.cx_base.specs.declared.steps.LogEvent.{LogEvent}
use Rattle.cx_trail.specs.declared.entry.Entry.{Entry as TrailEntry}
use Rattle.cx_trail.specs.Sequence.{entry_at}
use Rattle.parity_engine.specs.declared.state.Held.{Held}
use Rattle.parity_engine.specs.State.{State, assigned, held_at, is_unassigned}
use Rattle.search_steps.specs.Trail.{Entry, all_held, IsTrail, IsUnassigned}
use Rattle.search_steps.specs.Quiet.{IsOfParities}
use Rattle.search_steps.specs.Search.{Search, IsSearchIn}
use Rattle.search_steps.specs.Tied.{IsTied}
use Rattle.search_steps.specs.Engine.{HoldsValues}
use Rattle.search_steps.proofs.Bridge.{entry_last, entry_before}
use Rattle.search_steps.proofs.EngineLaws.{assign_holds, open_has_no_value}
use Rattle.search_steps.proofs.OverSearch.{older_is_trail}
use Rattle.cdcl_search.specs.declared.state.SearchState.{SearchState}
use Rattle.cdcl_search.specs.Ties.{Ties, SearchStands, IsFed}
use Rattle.cdcl_search.proofs.Engines.{renamed_reason, reasons_stay}

-- both trails have as many entries
pub tied_length : (es : List Entry) (entries : List TrailEntry) → IsTied es entries → length entries ≡ length es
tied_length [] entries t = ap length t
tied_length (e ∷ es) entries (before, i, same, lit, lev, t) = let r = tied_length es before t in let long = length_push before i in let n : length entries ≡ length (before ++ i ∷ []) = ap length same in omega (arith, r, long, n)

-- the newer entries of the search's trail begin with the one that comes after the older ones on the code's
record IsNext (newer older : List Entry) (entries : List TrailEntry) : Type 0 where
  pub later : List Entry
  pub first : Entry
  pub parts : newer ≡ later ++ first ∷ []
  pub literal : first.literal ≡ (entry_at entries (length older)).literal

next_of : (newer older : List Entry) (entries : List TrailEntry) → IsTied (newer ++ older) entries → length older < length entries → IsNext newer older entries
next_of [] older entries t less = absurd (let n = tied_length older entries t in omega (arith, n, less))
next_of (z ∷ []) older entries (before, i, same, lit, lev, t) less = record {
  later = [];
  first = z;
  parts = refl;
  literal = sym lit ∙ ap (λ (x : TrailEntry). x.literal) (sym (entry_last before i)) ∙ ap (λ k. (entry_at (before ++ i ∷ []) k).literal) (tied_length older before t) ∙ ap (λ xs. (entry_at xs (length older)).literal) (sym same);
}
next_of (z ∷ y ∷ newer) older entries (before, i, same, lit, lev, t) less =
    let n = tied_length (y ∷ newer ++ older) before t in
    let m = length-append newer older in
    let shorter : length older < length before = omega (arith, n, m) in
    let r = next_of (y ∷ newer) older before t shorter in
    record {
      later = z ∷ r.later;
      first = r.first;
      parts = ap (λ xs. z ∷ xs) r.parts;
      literal = r.literal ∙ ap (λ (x : TrailEntry). x.literal) (sym (entry_before before i (length older) shorter)) ∙ ap (λ xs. (entry_at xs (length older)).literal) (sym same);
    }

all_front : (P : Entry → Type 0) (xs : List Entry) (y : Entry) → AllByRecursion P (xs ++ y ∷ []) → AllByRecursion P xs × P y
all_front P [] y a = (tt, a.0)
all_front P (x ∷ xs) y a = let r = all_front P xs y a.1 in ((a.0, r.0), r.1)

no_value_is_unassigned : (values : List (Option Held)) (v : ℕ) → held_at values v ≡ None → is_unassigned (held_at values v) ≡ true
no_value_is_unassigned values v e = ap is_unassigned e

module _ (formula : Problem) (c : SearchState) (e : State) (rows : List (List Literal)) (s : Search) (ok : IsSearchIn c.tidies formula e.parities s) (t : Ties formula c e rows s) (less : c.given < length c.trail.entries) where
  abbrev l : Literal
  l = (entry_at c.trail.entries c.given).literal

  low : 1 ≤ l.variable
  low = t.trail.follows.sound.low c.given less

  pub within : l.variable ≤ e.vars
  within = let high = t.trail.follows.sound.high c.given less in let v = t.trail.variables in let w = t.engine.vars in omega (arith, high, v, w)

  next : IsNext t.engine.fed.newer t.engine.fed.older c.trail.entries
  next = next_of t.engine.fed.newer t.engine.fed.older c.trail.entries (subst (λ es. IsTied es c.trail.entries) t.engine.fed.parts t.trail.follows.tied) (let n = t.engine.fed.count in omega (arith, n, less))

  literal_is : next.first.literal ≡ l
  literal_is = next.literal ∙ ap (λ k. (entry_at c.trail.entries k).literal) t.engine.fed.count

  parts_are : s.trail ≡ next.later ++ next.first ∷ t.engine.fed.older
  parts_are = t.engine.fed.parts ∙ ap (λ xs. xs ++ t.engine.fed.older) next.parts ∙ append_assoc next.later (next.first ∷ []) t.engine.fed.older

  is_open : IsUnassigned (all_held t.engine.fed.older) l
  is_open = subst (IsUnassigned (all_held t.engine.fed.older)) literal_is
      (older_is_trail s.moment.tables.clauses (IsOfParities formula.variables e.parities) next.later (next.first ∷ t.engine.fed.older)
      (subst (IsTrail s.moment.tables.clauses (IsOfParities formula.variables e.parities)) parts_are ok.serves.stands)).0

  pub unassigned : is_unassigned (held_at e.values l.variable) ≡ true
  unassigned = no_value_is_unassigned e.values l.variable (open_has_no_value t.engine.fed.older e.values t.engine.fed.values l low is_open)

  given : State
  given = assigned e l.variable (not l.negative)

  fed_more : IsFed s.trail (c.given + 1) (assigned e l.variable (not l.negative))
  fed_more =
      let now = all_front (λ x. x.level ≡ e.level) next.later next.first (subst (AllByRecursion (λ (x : Entry). x.level ≡ e.level)) next.parts t.engine.fed.now) in
      let high : l.variable ≤ length e.values = let w = within in let n = t.engine.wide in omega (arith, w, n) in
      record {
        newer = next.later;
        older = next.first ∷ t.engine.fed.older;
        parts = parts_are;
        count = let n = t.engine.fed.count in omega (arith, n);
        now = now.0;
        values = subst (λ (x : Literal). HoldsValues (next.first ∷ t.engine.fed.older) (assigned e x.variable (not x.negative)).values) literal_is
            (assign_holds e t.engine.fed.older t.engine.fed.values next.first now.1 (subst (λ (x : Literal). 1 ≤ x.variable) (sym literal_is) low) (subst (λ (x : Literal). x.variable ≤ length e.values) (sym literal_is) high)
            (subst (IsUnassigned (all_held t.engine.fed.older)) (sym literal_is) is_open));
        level = t.engine.fed.level;
      }

  pub given_ties : Ties formula (record c { given = c.given + 1 }) (assigned e l.variable (not l.negative)) rows s
  given_ties = record {
    log = t.log;
    clauses = t.clauses;
    learned = t.learned;
    trail = t.trail;
    units = t.units;
    engine = record { vars = t.engine.vars; wide = length-set e.values _ _ ∙ t.engine.wide; theirs = t.engine.theirs; few = t.engine.few; fed = fed_more };
    reasons = reasons_stay c e (assigned e l.variable (not l.negative)) (λ i row _ h. renamed_reason e (assigned e l.variable (not l.negative)) c.trail.entries i row h h.named h.is h.implied refl refl refl refl) t.reasons;
    counts = t.counts;
    ids = t.ids;
    levels = t.levels;
  }

pub given_stands : (formula : Problem) (c : SearchState) (e : State) (rows : List (List Literal)) (told : Option (List LogEvent)) → c.given < length c.trail.entries → SearchStands formula c e rows told
    → SearchStands formula (record c { given = c.given + 1 }) (assigned e (entry_at c.trail.entries c.given).literal.variable (not (entry_at c.trail.entries c.given).literal.negative)) rows told
given_stands formula c e rows told less (s, ok, told_is, t, f) = (s, ok, told_is, given_ties formula c e rows s ok t less, f)

pub few_given : (formula : Problem) (c : SearchState) (e : State) (rows : List (List Literal)) (told : Option (List LogEvent)) → SearchStands formula c e rows told → c.given ≤ length c.trail.entries
few_given formula c e rows told (s, ok, told_is, t, f) =
    let n = tied_length s.trail c.trail.entries t.trail.follows.tied in
    let m : length s.trail ≡ length t.engine.fed.newer + length t.engine.fed.older = ap length t.engine.fed.parts ∙ length-append t.engine.fed.newer t.engine.fed.older in
    let k = t.engine.fed.count in
    omega (arith, n, m, k)

pub next_within : (formula : Problem) (c : SearchState) (e : State) (rows : List (List Literal)) (told : Option (List LogEvent)) → c.given < length c.trail.entries → SearchStands formula c e rows told → (entry_at c.trail.entries c.given).literal.variable ≤ e.vars
next_within formula c e rows told less (s, ok, told_is, t, f) = within formula c e rows s ok t less

pub next_unassigned : (formula : Problem) (c : SearchState) (e : State) (rows : List (List Literal)) (told : Option (List LogEvent)) → c.given < length c.trail.entries → SearchStands formula c e rows told
    → is_unassigned (held_at e.values (entry_at c.trail.entries c.given).literal.variable) ≡ true
next_unassigned formula c e rows told less (s, ok, told_is, t, f) = unassigned formula c e rows s ok t less

-- the trail has at most an entry for each variable
pub trail_is_short : (formula : Problem) (c : SearchState) (e : State) (rows : List (List Literal)) (told : Option (List LogEvent)) → SearchStands formula c e rows told → length c.trail.entries ≤ formula.variables
trail_is_short formula c e rows told (s, ok, told_is, t, f) = let short = t.trail.follows.sound.short in let v = t.trail.variables in omega (arith, short, v)
