-- Engines that hold a part of a table.
use Rattle.std.proofs.Common.{◌≡◌, refl, sym, ap, ◌∙◌, subst, ℕ, Bool, true, false, cond, not, nat_eq, List, [], ◌∷◌, Option, Some, None, MatchOption, is_some, Result, Ok, Err, is_ok, inl, inr, true≢false}
use Rattle.std.proofs.lemmas.Bool.{cases_eq, or_parts, or_cases}
use Rattle.std.proofs.lemmas.Option.{none-some}
use Rattle.std.specs.List.{cons_option, list_any}
use Rattle.cx_base.specs.declared.id_moves.IdMove.{IdMove}
use Rattle.cx_semantics.specs.Judging.{Rule, AllHold}
use Rattle.proof_rules.specs.Judges.{JudgesBy}
use Rattle.proof_rules.specs.declared.refusal.JudgeRefusal.{JudgeRefusal}
use Rattle.cx_semantics.specs.Moves.{old_ids, new_ids, names_twice, without_ids, moved}
use Rattle.cx_semantics.proofs.MoveLaws.{get-without, same_nat}
use Rattle.rup_engine.specs.Moving.{AreApart}
use Rattle.rup_engine.proofs.MovingLaws.{moved_at, moved_from}
use Rattle.std.specs.Ordering.{nat_cmp}
use Rattle.std.specs.FinMap as map
use Rattle.cx_base.specs.Literals.{Literal}
use Rattle.cx_semantics.specs.Chain.{IsChain}
use Rattle.cx_semantics.specs.Tables.{Table, get, named, is_live}
use Rattle.cx_semantics.specs.LogRules.{AreLive, moving}
use Rattle.rup_engine.specs.Finding.{Answers}
use Rattle.rup_engine.specs.declared.answer.Answer.{Answer}
use Rattle.rup_engine.specs.declared.answer.Answer.TheVariants.{Chain}
use Rattle.rup_engine.specs.declared.engine.Engine.{Engine}
use Rattle.rup_engine.proofs.MapLooks.{get_put, get_put_other, get_gone, get_gone_other}
use Rattle.rup_finder.specs.Ready.{IsReady, IsReadyFor}
use Rattle.rup_finder.specs.Recent.{IsPartOf, IsRecent}

-- ---- parts

nothing_inside : (table : Table) → IsPartOf map.empty table
nothing_inside table n c f = absurd (none-some c (sym (map.get-empty nat_cmp n) ∙ f))

-- a clause of the table comes into the part
more_inside : (part table : Table) (id : ℕ) (lits : List Literal) → get table id ≡ Some lits → IsPartOf part table → IsPartOf (map.insert part id lits) table
more_inside part table id lits some inside n c f = elim (cases_eq n id) [
  | inl e ↦ ap (get table) e ∙ some ∙ sym (ap (get (map.insert part id lits)) e ∙ get_put part id lits) ∙ f
  | inr ne ↦ inside n c (sym (get_put_other part id lits n ne) ∙ f)
]

put_inside : (part table : Table) (id : ℕ) (lits : List Literal) → IsPartOf part table → IsPartOf (map.insert part id lits) (map.insert table id lits)
put_inside part table id lits inside n c f = elim (cases_eq n id) [
  | inl e ↦ ap (get (map.insert table id lits)) e ∙ get_put table id lits ∙ sym (ap (get (map.insert part id lits)) e ∙ get_put part id lits) ∙ f
  | inr ne ↦ get_put_other table id lits n ne ∙ inside n c (sym (get_put_other part id lits n ne) ∙ f)
]

gone_inside : (part table : Table) (id : ℕ) → IsPartOf part table → IsPartOf (map.remove part id) (map.remove table id)
gone_inside part table id inside n c f = elim (cases_eq n id) [
  | inl e ↦ absurd (none-some c (sym (ap (get (map.remove part id)) e ∙ get_gone part id) ∙ f))
  | inr ne ↦ get_gone_other table id n ne ∙ inside n c (sym (get_gone_other part id n ne) ∙ f)
]

-- ---- engines

pub as_part : (table : Table) (e : Option Engine) → IsRecent table e → (part : Table) × IsPartOf part table × IsReady part e
as_part table None h = (map.empty, nothing_inside table, tt)
as_part table (Some e) h = (h.1.part, h.1.inside, (h.0, h.1.holds))

by_part : (part table : Table) (e : Option Engine) → IsPartOf part table → IsReady part e → IsRecent table e
by_part part table None inside is_ready = tt
by_part part table (Some e) inside is_ready = (is_ready.0, record { part = part; inside = inside; holds = is_ready.1 })

pub some_part : (table : Table) (e : Option Engine) → IsRecent table e → (part : Table) × IsReady part e
some_part table e h = let w = as_part table e h in (w.0, w.2)

pub recent_at_first : (table : Table) (e : Option Engine) → IsReady map.empty e → IsRecent table e
recent_at_first table e is_ready = by_part map.empty table e (nothing_inside table) is_ready

pub recent_put : (table : Table) (id : ℕ) (lits : List Literal) (old new : Option Engine) → ((part : Table) → IsReady part old → IsReady (map.insert part id lits) new) → IsRecent table old → IsRecent (map.insert table id lits) new
recent_put table id lits old new step h =
    let w = as_part table old h in
    by_part (map.insert w.0 id lits) (map.insert table id lits) new (put_inside w.0 table id lits w.1) (step w.0 w.2)

pub recent_gone : (table : Table) (id : ℕ) (old new : Option Engine) → ((part : Table) → IsReady part old → IsReady (map.remove part id) new) → IsRecent table old → IsRecent (map.remove table id) new
recent_gone table id old new step h =
    let w = as_part table old h in
    by_part (map.remove w.0 id) (map.remove table id) new (gone_inside w.0 table id w.1) (step w.0 w.2)

-- clauses come under other ids
moved_inside : (part table : Table) (moves : List IdMove) → AreApart table moves → AreApart part moves → IsPartOf part table → IsPartOf (moved part moves) (moved table moves)
moved_inside part table moves whole apart inside n c f =
    let w = moved_from part moves apart n c f in
    ap (get (moved table moves)) (sym w.2) ∙ moved_at table moves whole w.0 c (inside w.0 c w.1)

pub apart_part : (part table : Table) (moves : List IdMove) → IsPartOf part table → AreApart table moves → AreApart part moves
apart_part part table moves inside apart = (apart.0, apart.1, λ n new old. at n new old (get part n) refl)
  where
    at : (n : ℕ) → list_any (nat_eq n) (new_ids moves) ≡ true → list_any (nat_eq n) (old_ids moves) ≡ false → (o : Option (List Literal)) → get part n ≡ o → get part n ≡ None
    at n new old None is = is
    at n new old (Some c) is = absurd (none-some c (sym (apart.2 n new old) ∙ inside n c is))

pub apart_recent : (table : Table) (moves : List IdMove) (e : Option Engine) → AreApart table moves → IsRecent table e → (part : Table) × AreApart part moves × IsReady part e
apart_recent table moves e apart h = let w = as_part table e h in (w.0, apart_part w.0 table moves w.1 apart, w.2)

pub recent_moved : (table : Table) (moves : List IdMove) (old new : Option Engine) → AreApart table moves → ((part : Table) → AreApart part moves → IsReady part old → IsReady (moved part moves) new) → IsRecent table old
    → IsRecent (moved table moves) new
recent_moved table moves old new apart step h =
    let w = as_part table old h in
    let less = apart_part w.0 table moves w.1 apart in
    by_part (moved w.0 moves) (moved table moves) new (moved_inside w.0 table moves apart less w.1) (step w.0 less w.2)

pub right_by : {T : Type 0} (rules : List Rule) (r : Result T JudgeRefusal) → is_ok r ≡ true → JudgesBy rules r → AllHold rules
right_by rules (Ok x) ok h = h
right_by rules (Err e) ok h = absurd (true≢false (sym ok))

-- a right move leaves ids apart
pub apart_by : (table : Table) (moves : List IdMove) → AllHold (moving table moves) → AreApart table moves
apart_by table moves right = (olds.1, news.1, λ n new old. at n new old (get table n) refl)
  where
    olds : (list_any (λ n. not (is_live table n)) (old_ids moves) ≡ false) × (names_twice (old_ids moves) ≡ false)
    olds = or_parts (list_any (λ n. not (is_live table n)) (old_ids moves)) (names_twice (old_ids moves)) right.0

    news : (list_any (is_live (without_ids table (old_ids moves))) (new_ids moves) ≡ false) × (names_twice (new_ids moves) ≡ false)
    news = or_parts (list_any (is_live (without_ids table (old_ids moves))) (new_ids moves)) (names_twice (new_ids moves)) right.1.0

    none_so : (p : ℕ → Bool) (ns : List ℕ) (n : ℕ) → list_any p ns ≡ false → list_any (nat_eq n) ns ≡ true → p n ≡ false
    none_so p [] n none is = absurd (true≢false (sym is))
    none_so p (k ∷ ns) n none is =
        let w = or_parts (p k) (list_any p ns) none in
        elim (or_cases (nat_eq n k) (list_any (nat_eq n) ns) is) [
          | inl e ↦ ap p (same_nat n k e) ∙ w.0
          | inr g ↦ none_so p ns n w.1 g
        ]

    at : (n : ℕ) → list_any (nat_eq n) (new_ids moves) ≡ true → list_any (nat_eq n) (old_ids moves) ≡ false → (o : Option (List Literal)) → get table n ≡ o → get table n ≡ None
    at n new old None is = is
    at n new old (Some c) is =
        let live : get (without_ids table (old_ids moves)) n ≡ Some c = get-without (old_ids moves) table n ∙ ap (λ b. cond b None (get table n)) old ∙ is in
        absurd (true≢false (sym (ap is_some live) ∙ none_so (is_live (without_ids table (old_ids moves))) (new_ids moves) n news.0 new))

-- the table's clause of this id has come in, if there is one
pub recent_more : (table : Table) (id : ℕ) (old new : Option Engine)
    → ((part : Table) → IsReady part old → MatchOption (get table id) (IsReady part new) (λ lits. IsReady (map.insert part id lits) new)) → IsRecent table old → IsRecent table new
recent_more table id old new step h = let w = as_part table old h in go w.0 w.1 (get table id) refl (step w.0 w.2)
  where
    go : (part : Table) → IsPartOf part table → (o : Option (List Literal)) → get table id ≡ o → MatchOption o (IsReady part new) (λ lits. IsReady (map.insert part id lits) new) → IsRecent table new
    go part inside None none r = by_part part table new inside r
    go part inside (Some lits) some r = by_part (map.insert part id lits) table new (more_inside part table id lits some inside) r

-- ---- chains

module _ (part table : Table) (inside : IsPartOf part table) where
  same_live : (n : ℕ) → is_live part n ≡ true → get part n ≡ get table n
  same_live n live = go (get part n) refl live
    where
      go : (o : Option (List Literal)) → get part n ≡ o → is_some o ≡ true → get part n ≡ get table n
      go None e h = absurd (true≢false (sym h))
      go (Some c) e h = e ∙ sym (inside n c e)

  live_in : (ids : List ℕ) → AreLive part ids → AreLive table ids
  live_in [] live = tt
  live_in (n ∷ ids) live = (sym (ap is_some (same_live n live.0)) ∙ live.0, live_in ids live.1)

  named_in : (ids : List ℕ) → AreLive part ids → named part ids ≡ named table ids
  named_in [] live = refl
  named_in (n ∷ ids) live = ap (λ o. cons_option o (named part ids)) (same_live n live.0) ∙ ap (cons_option (get table n)) (named_in ids live.1)

  -- a right chain of the part's clauses is one of the table's
  pub chain_in : (target : List Literal) (ids : List ℕ) → AreLive part ids × IsChain target (named part ids) → AreLive table ids × IsChain target (named table ids)
  chain_in target ids h = (live_in ids h.0, subst (IsChain target) (named_in ids h.0) h.1)

-- a search of an engine over some of the table's clauses, where it has room for the target
module _ (table : Table) (target : List Literal) (old within : Option Engine) (kept : (t : Table) → IsReady t old → IsReadyFor t target within) (before : IsRecent table old) where
  pub part_for : (part : Table) × IsReadyFor part target within
  part_for = let w = as_part table old before in (w.0, kept w.0 w.2)

  pub recent_behind : (new : Option Engine) → ((t : Table) → IsReadyFor t target within → IsReady t new) → IsRecent table new
  recent_behind new leaves = let w = as_part table old before in by_part w.0 table new w.1 (leaves w.0 (kept w.0 w.2))

  pub chain_behind : (answer : Answer) → ((t : Table) → IsReadyFor t target within → Answers t target answer) → (ids : List ℕ) → answer ≡ Chain ids → AreLive table ids × IsChain target (named table ids)
  chain_behind answer answers ids is =
      let w = as_part table old before in
      chain_in w.0 table w.1 target ids (subst (Answers w.0 target) is (answers w.0 (kept w.0 w.2)))
