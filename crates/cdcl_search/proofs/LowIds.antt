-- Each id that a search holds is one that a step may have.
use Rattle.std.proofs.Common.{◌≡◌, refl, sym, ◌∙◌, subst, ℕ, zero, suc, ◌<◌, ◌≤◌, List, [], ◌∷◌, length, get_or, Option, None, arith}
use Rattle.std.specs.Prelude.{slice_index_or}
use Rattle.std.specs.List.{All, Contains}
use Rattle.cx_base.specs.Literals.{Literal}
use Rattle.cx_base.specs.Problem.{Problem}
use Rattle.cx_base.specs.declared.steps.LogEvent.{LogEvent}
use Rattle.clause_arena.specs.Clauses.{IsLive, literals_at, id_at}
use Rattle.cx_semantics.specs.Tables.{Table, get}
use Rattle.parity_engine.specs.State.{State}
use Rattle.cx_trail.specs.Sequence.{TrailState}
use Rattle.search_steps.specs.Search.{Search}
use Rattle.search_steps.specs.Trail.{Entry}
use Rattle.cdcl_search.specs.declared.state.SearchState.{SearchState}
use Rattle.cdcl_search.specs.Sources.{HasIds}
use Rattle.cdcl_search.specs.Tells.{IsId, AreIdsFrom}
use Rattle.cdcl_search.specs.Ties.{TiesFrom, SearchStands, AreUnits, IsNamedBy, first_row_id}
use Rattle.cdcl_search.proofs.TableLaws.{no_clause}

pub index_is : (xs : List ℕ) (k d e : ℕ) → k < length xs → slice_index_or xs k d ≡ get_or xs k e
index_is [] k d e less = absurd (omega (arith, less))
index_is (x ∷ xs) zero d e less = refl
index_is (x ∷ xs) (suc k) d e less = index_is xs k d e (omega (arith, less))

-- a live clause has an id above 0
pub named_is_id : (table : Table) (lits : List Literal) (n : ℕ) → get table 0 ≡ None → n ≤ 2000000000000000000 → IsNamedBy table lits n → IsId n
named_is_id table lits zero none low named = absurd (no_clause named.clause (sym named.live ∙ none))
named_is_id table lits (suc n) none low named = (omega arith, omega (arith, low))

pub units_are_ids : (table : Table) (next : ℕ) (t : TrailState) (es : List Entry) (ids : List ℕ) → get table 0 ≡ None → next ≤ 2000000000000000000 → AreUnits table next t es ids → All IsId ids
units_are_ids table next t es ids none room u k d less = subst IsId (sym (index_is ids k d 0 less)) (named_is_id table _ (get_or ids k 0) none (let low = u.low k less in omega (arith, low, room)) (u.named k less))

module _ (formula : Problem) (c : SearchState) (e : State) (first : ℕ) (rows : List (List Literal)) (s : Search) (t : TiesFrom formula c e first rows s) where
  -- far below the highest id, so that rows have ids after it
  pub next_is_low : c.next ≤ 1000000005000000000
  next_is_low =
      let taken = t.ids.taken in
      let counted : c.conflicts ≤ 1000000000000000000 = t.ids.counted in
      let few = t.ids.few in
      let units = t.units.few in
      let short = t.trail.follows.sound.short in
      let vars : c.trail.variables ≤ 268435455 = t.trail.follows.sound.few in
      omega (arith, taken, counted, few, units, short, vars)

  pub next_is_id : IsId c.next
  next_is_id = let low = next_is_low in let some = t.log.ranged.originals in (omega (arith, some), omega (arith, low))

  stored_is_id : (r : ℕ) → IsLive c.arena r → IsId (id_at c.arena r)
  stored_is_id r live =
      let kept = t.clauses.stored r live in
      let below = kept.low in
      let next = next_is_low in
      named_is_id s.moment.tables.clauses (literals_at c.arena r) (id_at c.arena r) t.log.none_at_0 (omega (arith, below, next)) kept.named

  pub ids_of : HasIds c
  ids_of = record { next = next_is_id; units = units_are_ids s.moment.tables.clauses c.next c.trail s.trail c.units.items t.log.none_at_0 next_is_id.1 t.units; stored = stored_is_id }

  pub variables_are_few : formula.variables ≤ 268435455
  variables_are_few = let vars : c.trail.variables ≤ 268435455 = t.trail.follows.sound.few in let same = t.trail.variables in omega (arith, vars, same)

  -- a step may have the ids of the rows that were told, and the one after them
  pub row_ids_are_ids : first ≤ first_row_id c.next → AreIdsFrom first (length rows)
  row_ids_are_ids near = let few = t.log.few_rows in let vars = variables_are_few in let next = next_is_low in let some = t.log.ranged.originals in let room = t.log.ranged.room in (omega (arith, some, room), omega (arith, near, few, vars, next))

pub has_ids : (formula : Problem) (c : SearchState) (e : State) (rows : List (List Literal)) (told : Option (List LogEvent)) → SearchStands formula c e rows told → HasIds c
has_ids formula c e rows told st = ids_of formula c e (first_row_id c.next) rows st.0 st.3

-- an id of a list of ids
pub is_one : (ids : List ℕ) (n : ℕ) → All IsId ids → Contains ids n → IsId n
is_one ids n all (k, less, is) = subst IsId (index_is ids k 0 n less ∙ is) (all k 0 less)
