-- A search whose reasons were forgotten at level 0.
use Rattle.std.proofs.Common.{◌≡◌, refl, sym, ap, ◌∙◌, subst, ℕ, zero, suc, ◌<◌, List, [], ◌∷◌, length, map, get_or, Option, arith}
use Rattle.std.proofs.lemmas.List.{length-map, map-append}
use Rattle.cx_base.specs.Literals.{Literal}
use Rattle.cx_base.specs.Problem.{Problem}
use Rattle.cx_base.specs.declared.steps.LogEvent.{LogEvent}
use Rattle.cx_semantics.specs.Tables.{Table}
use Rattle.cx_trail.specs.declared.entry.Entry.{Entry as TrailEntry}
use Rattle.cx_trail.specs.Forgetting.{forgotten}
use Rattle.cx_trail.specs.Sequence.{TrailState, entry_at, IsTrail as IsCodeTrail, IsOpenIn}
use Rattle.parity_engine.specs.State.{State}
use Rattle.search_steps.specs.Tied.{IsTied}
use Rattle.search_steps.specs.Trail.{Entry}
use Rattle.cdcl_search.specs.declared.state.SearchState.{SearchState}
use Rattle.cdcl_search.specs.Ties.{AreUnits, IsNamedBy, SearchStands}
use Rattle.cdcl_core.specs.Tidying.{IsAtRestart, StandsUnwatched}

abbrev all_forgotten : List TrailEntry → List TrailEntry
all_forgotten entries = map forgotten entries

size : (entries : List TrailEntry) → length (all_forgotten entries) ≡ length entries
size entries = length-map entries forgotten

entry_is : (entries : List TrailEntry) (i : ℕ) → entry_at (all_forgotten entries) i ≡ forgotten (entry_at entries i)
entry_is [] i = refl
entry_is (e ∷ entries) zero = refl
entry_is (e ∷ entries) (suc i) = entry_is entries i

literal_is : (entries : List TrailEntry) (i : ℕ) → (entry_at (all_forgotten entries) i).literal ≡ (entry_at entries i).literal
literal_is entries i = ap (λ (x : TrailEntry). x.literal) (entry_is entries i)

level_is : (entries : List TrailEntry) (i : ℕ) → (entry_at (all_forgotten entries) i).level ≡ (entry_at entries i).level
level_is entries i = ap (λ (x : TrailEntry). x.level) (entry_is entries i)

tied_still : (es : List Entry) (entries : List TrailEntry) → IsTied es entries → IsTied es (all_forgotten entries)
tied_still [] entries e = ap all_forgotten e
tied_still (x ∷ es) entries (before, i, parts, literal, level, tied) =
    (all_forgotten before, forgotten i, ap all_forgotten parts ∙ map-append forgotten before (i ∷ []), literal, level, tied_still es before tied)

open_before : (entries : List TrailEntry) (v : ℕ) → IsOpenIn (all_forgotten entries) v → IsOpenIn entries v
open_before entries v free i less is = let long = size entries in free i (omega (arith, less, long)) (ap (λ (l : Literal). l.variable) (literal_is entries i) ∙ is)

units_still : (table : Table) (next : ℕ) (t : TrailState) (es : List Entry) (ids : List ℕ) → AreUnits table next t es ids → AreUnits table next (record t { entries = all_forgotten t.entries }) es ids
units_still table next t es ids u =
    let long = size t.entries in
    record {
      few = let h = u.few in omega (arith, h, long);
      level_0 = λ i h. level_is t.entries i ∙ u.level_0 i h;
      named = λ i h. subst (λ l. IsNamedBy table (l ∷ []) (get_or ids i 0)) (sym (literal_is t.entries i)) (u.named i h);
      low = u.low;
      newer = u.newer;
      older = u.older;
      parts = u.parts;
      count = u.count;
      rest = u.rest;
      all = λ above i far less. subst (λ n. 0 < n) (sym (level_is t.entries i)) (u.all above i far (omega (arith, less, long)));
    }

abbrev pub with_none : SearchState → SearchState
with_none c = record c { trail = record c.trail { entries = all_forgotten c.trail.entries } }

pub restarts_still : (c : SearchState) → IsAtRestart c → IsAtRestart (with_none c)
restarts_still c at = record { tidies = at.tidies; level = at.level; units = at.units ∙ sym (size c.trail.entries); restart = at.restart }

pub stands_unwatched : (formula : Problem) (c : SearchState) (e : State) (told : Option (List LogEvent)) → IsAtRestart c → IsCodeTrail (with_none c).trail → SearchStands formula c e [] told → StandsUnwatched formula (with_none c) e told
stands_unwatched formula c e told at sound (s, ok, are, t, watched) = (
  s,
  ok,
  are,
  record {
    log = t.log;
    clauses = t.clauses;
    learned = t.learned;
    trail = record {
      follows = record { tied = tied_still s.trail c.trail.entries t.trail.follows.tied; sound = sound };
      variables = t.trail.variables;
      stand = record { variables = t.trail.stand.variables; stand = λ v low high free. t.trail.stand.stand v low high (open_before c.trail.entries v free) };
      phased = t.trail.phased;
    };
    units = units_still s.moment.tables.clauses c.next c.trail s.trail c.units.items t.units;
    engine = t.engine;
    reasons = λ i far less. absurd (let every = at.units in let long = size c.trail.entries in omega (arith, far, less, every, long));
    counts = t.counts;
    ids = t.ids;
    levels = t.levels;
  },
)
