-- Clauses that come under other ids.
use Rattle.std.proofs.Common.{◌≡◌, ◌≢◌, refl, sym, ap, ◌∙◌, subst, ℕ, ◌<◌, ◌≤◌, Bool, true, false, cond, ◌||◌, nat_eq, List, [], ◌∷◌, length, take, drop, set, Option, Some, None, IsSome, Contains, inl, inr, true≢false, Result, Ok, Err, OnOk}
use Rattle.std.specs.List.{list_any}
use Rattle.std.specs.Ordering.{nat_cmp}
use Rattle.std.specs.Cmp.{nat_cmp_total, unsigned_tied}
use Rattle.std.specs.FinMap as map
use Rattle.std.proofs.Math.ListN.{drop_of_length-le}
use Rattle.std.proofs.lemmas.Bool.{cases_eq, or_parts}
use Rattle.std.proofs.lemmas.Option.{same_Some, none-some}
use Rattle.std.proofs.lemmas.List.{drop_more, get_or-set_same, get_or-set_other, length-set}
use Rattle.cx_base.specs.Literals.{Literal}
use Rattle.cx_base.specs.declared.id_moves.IdMove.{IdMove}
use Rattle.cx_semantics.specs.Chain.{HaveSame}
use Rattle.cx_semantics.specs.Moves.{old_ids, new_ids, names_twice, moved_id, without_ids, put_if, put_moved, moved}
use Rattle.cx_semantics.specs.Tables.{Table, get}
use Rattle.cx_semantics.proofs.MoveLaws.{source, from_source, get-without, source_is_old, source-moved_id, one_target, moved_id-other, no_source, same_nat, itself}
use Rattle.cx_trail.specs.declared.entry.Entry.{Entry}
use Rattle.cx_trail.specs.declared.entry.Reason.{Reason}
use Rattle.cx_trail.specs.declared.entry.Reason.TheVariants.{Decision, Clause, Row}
use Rattle.cx_trail.specs.Sequence.{TrailState, entry_at}
use Rattle.clause_arena.specs.Clauses.{ArenaState, IsLive, id_at, literals_at, clause_at, literals_in, id_in, renamed}
use Rattle.watch_lists.specs.Truths.{AreOthersFalse, IsFalsified}
use Rattle.watch_lists.specs.Watching.{WatchState, Fits, IsAttached}
use Rattle.rup_engine.specs.Standing.{IsWithin, IsJustified, Rests, AreOfTable, IsHeld, AreHeld, AreShort, AreMet}
use Rattle.rup_engine.specs.Searching.{IsBrokenIf}
use Rattle.rup_engine.specs.Finding.{IsAtRest, Holds}
use Rattle.rup_engine.specs.Moving.{AreApart, HaveMovedIds, AreNamed}
use Rattle.rup_engine.specs.declared.engine.Engine.{Engine}

-- ---- maps

other_nat : (n k : ℕ) → nat_eq n k ≡ false → n ≢ k
other_nat n k h e = true≢false (sym (itself k) ∙ ap (λ x. nat_eq x k) (sym e) ∙ h)

or_left : (a b : Bool) → a ≡ true → (a || b) ≡ true
or_left a b h = ap (λ x. x || b) h

or_right : (a b : Bool) → b ≡ true → (a || b) ≡ true
or_right true b h = refl
or_right false b h = h

module _ {V : Type 0} where
  get-put_free : (contents : map.FinMap nat_cmp V) (n : ℕ) (o : Option V) (k : ℕ) → map.get contents n ≡ None → map.get (put_if contents n o) k ≡ cond (nat_eq k n) o (map.get contents k)
  get-put_free contents n (Some v) k free = map.get-insert nat_cmp_total contents n v k ∙ ap (λ b. cond b (Some v) (map.get contents k)) (unsigned_tied k n)
  get-put_free contents n None k free = at (nat_eq k n) refl
    where
      at : (b : Bool) → nat_eq k n ≡ b → map.get contents k ≡ cond b None (map.get contents k)
      at true e = ap (map.get contents) (same_nat k n e) ∙ free
      at false e = refl

  -- nothing is under a new id
  abbrev AreFree : map.FinMap nat_cmp V → List IdMove → Type 0
  AreFree contents moves = (n : ℕ) → list_any (nat_eq n) (new_ids moves) ≡ true → map.get contents n ≡ None

  still_free : (contents : map.FinMap nat_cmp V) (m : IdMove) (moves : List IdMove) (o : Option V) → list_any (nat_eq m.to) (new_ids moves) ≡ false → AreFree contents (m ∷ moves) → AreFree (put_if contents m.to o) moves
  still_free contents m moves o once free n is =
      get-put_free contents m.to o n (free m.to (or_left (nat_eq m.to m.to) (list_any (nat_eq m.to) (new_ids moves)) (itself m.to)))
      ∙ at (nat_eq n m.to) refl
    where
      at : (b : Bool) → nat_eq n m.to ≡ b → cond b o (map.get contents n) ≡ None
      at true e = absurd (true≢false (sym is ∙ ap (λ x. list_any (nat_eq x) (new_ids moves)) (same_nat n m.to e) ∙ once))
      at false e = free n (or_right (nat_eq n m.to) (list_any (nat_eq n) (new_ids moves)) is)

  get-put_moved : (first : map.FinMap nat_cmp V) (moves : List IdMove) (contents : map.FinMap nat_cmp V) (k : ℕ) → names_twice (new_ids moves) ≡ false → AreFree contents moves
      → map.get (put_moved first contents moves) k ≡ from_source first (map.get contents k) (source moves k)
  get-put_moved first [] contents k once free = refl
  get-put_moved first (m ∷ moves) contents k once free =
      let p = or_parts (list_any (nat_eq m.to) (new_ids moves)) (names_twice (new_ids moves)) once in
      get-put_moved first moves (put_if contents m.to (map.get first m.from)) k p.1 (still_free contents m moves (map.get first m.from) p.0 free)
      ∙ ap (λ o. from_source first o (source moves k)) (get-put_free contents m.to (map.get first m.from) k (free m.to (or_left (nat_eq m.to m.to) (list_any (nat_eq m.to) (new_ids moves)) (itself m.to))))
      ∙ at (source moves k) (nat_eq k m.to)
    where
      at : (s : Option ℕ) (b : Bool) → from_source first (cond b (map.get first m.from) (map.get contents k)) s ≡ from_source first (map.get contents k) (elim s [ Some j ↦ Some j | None ↦ cond b (Some m.from) None ])
      at (Some j) b = refl
      at None true = refl
      at None false = refl

  module _ (contents : map.FinMap nat_cmp V) (moves : List IdMove) (apart : AreApart contents moves) where
    free_without : AreFree (without_ids contents (old_ids moves)) moves
    free_without n is = get-without (old_ids moves) contents n ∙ at (list_any (nat_eq n) (old_ids moves)) refl
      where
        at : (b : Bool) → list_any (nat_eq n) (old_ids moves) ≡ b → cond b None (map.get contents n) ≡ None
        at true e = refl
        at false e = apart.2 n is e

    get-moved : (k : ℕ) → map.get (moved contents moves) k ≡ from_source contents (cond (list_any (nat_eq k) (old_ids moves)) None (map.get contents k)) (source moves k)
    get-moved k =
        get-put_moved contents moves (without_ids contents (old_ids moves)) k apart.1 free_without
        ∙ ap (λ o. from_source contents o (source moves k)) (get-without (old_ids moves) contents k)

    -- what was under an id is under its new one
    pub moved_at : (n : ℕ) (v : V) → map.get contents n ≡ Some v → map.get (moved contents moves) (moved_id moves n) ≡ Some v
    moved_at n v has = at (list_any (nat_eq n) (old_ids moves)) refl (list_any (nat_eq n) (new_ids moves)) refl
      where
        at : (b : Bool) → list_any (nat_eq n) (old_ids moves) ≡ b → (c : Bool) → list_any (nat_eq n) (new_ids moves) ≡ c → map.get (moved contents moves) (moved_id moves n) ≡ Some v
        at true e c f = get-moved (moved_id moves n) ∙ ap (from_source contents _) (source-moved_id moves n apart.1 e) ∙ has
        at false e true f = absurd (none-some v (sym (apart.2 n f e) ∙ has))
        at false e false f =
            ap (map.get (moved contents moves)) (moved_id-other moves n e) ∙ get-moved n
            ∙ (λ i. from_source contents (cond (e i) None (map.get contents n)) (no_source moves n f i)) ∙ has

    -- and nothing else is anywhere
    pub moved_from : (k : ℕ) (v : V) → map.get (moved contents moves) k ≡ Some v → (n : ℕ) × (map.get contents n ≡ Some v) × (moved_id moves n ≡ k)
    moved_from k v has = at (source moves k) refl (list_any (nat_eq k) (old_ids moves)) refl (sym (get-moved k) ∙ has)
      where
        at : (s : Option ℕ) → source moves k ≡ s → (b : Bool) → list_any (nat_eq k) (old_ids moves) ≡ b → from_source contents (cond b None (map.get contents k)) s ≡ Some v → (n : ℕ) × (map.get contents n ≡ Some v) × (moved_id moves n ≡ k)
        at (Some j) e b f h = (j, h, one_target moves (moved_id moves j) k j apart.0 (source-moved_id moves j apart.1 (source_is_old moves k j e)) e)
        at None e true f h = absurd (none-some v h)
        at None e false f h = (k, h, moved_id-other moves k f)

-- ---- ids that are still to be given

-- the id that a clause of id i gets, where it had id n at first
abbrev pub later_id : List IdMove → ℕ → ℕ → ℕ
later_id [] i n = i
later_id (m ∷ moves) i n = cond (nat_eq n m.from) m.to (later_id moves i n)

later_first : (moves : List IdMove) (n : ℕ) → later_id moves n n ≡ moved_id moves n
later_first [] n = refl
later_first (m ∷ moves) n = at (nat_eq n m.from) (later_first moves n)
  where
    at : (b : Bool) → later_id moves n n ≡ moved_id moves n → cond b m.to (later_id moves n n) ≡ elim b [ true ↦ m.to | false ↦ moved_id moves n ]
    at true rest = refl
    at false rest = rest

later_none : (moves : List IdMove) (i n : ℕ) → list_any (nat_eq n) (old_ids moves) ≡ false → later_id moves i n ≡ i
later_none [] i n h = refl
later_none (m ∷ moves) i n h =
    let p = or_parts (nat_eq n m.from) (list_any (nat_eq n) (old_ids moves)) h in
    ap (λ b. cond b m.to (later_id moves i n)) p.0 ∙ later_none moves i n p.1

-- the clauses have the ids of the moves that are made, and those to come give them the others
pub record AreRenaming (all later : List IdMove) (old new : ArenaState) : Type 0 where
  pub count : length new.clauses ≡ length old.clauses
  pub were_live : (r : ℕ) → IsLive new r → IsLive old r
  pub stay_live : (r : ℕ) → IsLive old r → IsLive new r
  pub literals : (r : ℕ) → literals_at new r ≡ literals_at old r
  pub apart : names_twice (old_ids later) ≡ false
  pub ids : (r : ℕ) → IsLive old r → later_id later (id_at new r) (id_at old r) ≡ moved_id all (id_at old r)

pub renaming_first : (moves : List IdMove) (a : ArenaState) → names_twice (old_ids moves) ≡ false → AreRenaming moves moves a a
renaming_first moves a once = record {
  count = refl;
  were_live = λ r h. h;
  stay_live = λ r h. h;
  literals = λ r. refl;
  apart = once;
  ids = λ r live. later_first moves (id_at a r);
}

pub renaming_last : (moves : List IdMove) (a b : ArenaState) → AreRenaming moves [] a b → HaveMovedIds moves a b
renaming_last moves a b h = record {
  count = h.count;
  were_live = h.were_live;
  stay_live = h.stay_live;
  literals = h.literals;
  ids = h.ids;
}

pub nothing_later : (place : ℕ) (moves : List IdMove) → length moves ≤ place → drop place moves ≡ []
nothing_later place moves h = drop_of_length-le moves h

module _ (all later : List IdMove) (m : IdMove) (a b : ArenaState) (refs : map.FinMap nat_cmp ℕ) (names : AreNamed a refs) (before : AreRenaming all (m ∷ later) a b) where
  parts : (list_any (nat_eq m.from) (old_ids later) ≡ false) × (names_twice (old_ids later) ≡ false)
  parts = or_parts (list_any (nat_eq m.from) (old_ids later)) (names_twice (old_ids later)) before.apart

  -- no clause had the old id
  pub renaming_past : map.get refs m.from ≡ None → AreRenaming all later a b
  renaming_past none = record {
    count = before.count;
    were_live = before.were_live;
    stay_live = before.stay_live;
    literals = before.literals;
    apart = parts.1;
    ids = λ r live. at r live (nat_eq (id_at a r) m.from) refl (before.ids r live);
  }
    where
      at : (r : ℕ) → IsLive a r → (c : Bool) → nat_eq (id_at a r) m.from ≡ c → cond c m.to (later_id later (id_at b r) (id_at a r)) ≡ moved_id all (id_at a r) → later_id later (id_at b r) (id_at a r) ≡ moved_id all (id_at a r)
      at r live true e h = absurd (none-some r (sym none ∙ ap (map.get refs) (sym (same_nat (id_at a r) m.from e)) ∙ names.ids r live))
      at r live false e h = h

  -- this clause had it
  module _ (q : ℕ) (found : map.get refs m.from ≡ Some q) (c : ArenaState) (is : c ≡ record b { clauses = set b.clauses q (renamed m.to (clause_at b q)) }) where
    had : IsLive a q × (id_at a q ≡ m.from)
    had = names.named m.from q found

    here : q < length b.clauses
    here = elim (Rattle.std.proofs.lemmas.Bool.cases_lt q (length b.clauses)) [
      | inl h ↦ h
      | inr h ↦ absurd (Rattle.std.proofs.lemmas.Bool.false≢true (subst IsSome (Rattle.std.proofs.lemmas.List.get_or_past b.clauses q None h) (before.stay_live q had.0)))
    ]

    at_q : clause_at c q ≡ renamed m.to (clause_at b q)
    at_q = ap (λ (x : ArenaState). clause_at x q) is ∙ get_or-set_same b.clauses q (renamed m.to (clause_at b q)) None here

    at_other : (r : ℕ) → r ≢ q → clause_at c r ≡ clause_at b r
    at_other r ne = ap (λ (x : ArenaState). clause_at x r) is ∙ get_or-set_other b.clauses q r (renamed m.to (clause_at b q)) None ne

    some_renamed : (o : Option Rattle.clause_arena.specs.Clauses.Stored) → IsSome (renamed m.to o) → IsSome o
    some_renamed None h = h
    some_renamed (Some s) h = refl

    renamed_some : (o : Option Rattle.clause_arena.specs.Clauses.Stored) → IsSome o → IsSome (renamed m.to o)
    renamed_some None h = h
    renamed_some (Some s) h = refl

    lits_renamed : (o : Option Rattle.clause_arena.specs.Clauses.Stored) → literals_in (renamed m.to o) ≡ literals_in o
    lits_renamed None = refl
    lits_renamed (Some s) = refl

    id_renamed : (o : Option Rattle.clause_arena.specs.Clauses.Stored) → IsSome o → id_in (renamed m.to o) ≡ m.to
    id_renamed None h = absurd (Rattle.std.proofs.lemmas.Bool.false≢true h)
    id_renamed (Some s) h = refl

    live_before : (r : ℕ) → IsLive c r → IsLive b r
    live_before r h = elim (cases_eq r q) [
      | inl e ↦ subst (IsLive b) (sym e) (some_renamed (clause_at b q) (subst IsSome at_q (subst (IsLive c) e h)))
      | inr ne ↦ subst IsSome (at_other r ne) h
    ]

    live_after : (r : ℕ) → IsLive b r → IsLive c r
    live_after r h = elim (cases_eq r q) [
      | inl e ↦ subst (IsLive c) (sym e) (subst IsSome (sym at_q) (renamed_some (clause_at b q) (subst (IsLive b) e h)))
      | inr ne ↦ subst IsSome (sym (at_other r ne)) h
    ]

    lits_same : (r : ℕ) → literals_at c r ≡ literals_at b r
    lits_same r = elim (cases_eq r q) [
      | inl e ↦ ap (literals_at c) e ∙ ap literals_in at_q ∙ lits_renamed (clause_at b q) ∙ ap (literals_at b) (sym e)
      | inr ne ↦ ap literals_in (at_other r ne)
    ]

    ids_at : (r : ℕ) → IsLive a r → later_id later (id_at c r) (id_at a r) ≡ moved_id all (id_at a r)
    ids_at r live = elim (cases_eq r q) [
      | inl e ↦
          let n : id_at a r ≡ m.from = ap (id_at a) e ∙ had.1 in
          let yes : nat_eq (id_at a r) m.from ≡ true = ap (λ x. nat_eq x m.from) n ∙ itself m.from in
          let i : id_at c r ≡ m.to = ap (id_at c) e ∙ ap id_in at_q ∙ id_renamed (clause_at b q) (before.stay_live q had.0) in
          later_none later (id_at c r) (id_at a r) (ap (λ x. list_any (nat_eq x) (old_ids later)) n ∙ parts.0) ∙ i
          ∙ sym (ap (λ x. cond x m.to (later_id later (id_at b r) (id_at a r))) yes) ∙ before.ids r live
      | inr ne ↦
          at r (nat_eq (id_at a r) m.from) refl ne live
          (ap (λ x. cond (nat_eq (id_at a r) m.from) m.to (later_id later x (id_at a r))) (ap id_in (at_other r ne)) ∙ before.ids r live)
    ]
      where
        at : (r : ℕ) (x : Bool) → nat_eq (id_at a r) m.from ≡ x → r ≢ q → IsLive a r → cond (nat_eq (id_at a r) m.from) m.to (later_id later (id_at c r) (id_at a r)) ≡ moved_id all (id_at a r) → later_id later (id_at c r) (id_at a r) ≡ moved_id all (id_at a r)
        at r true e ne live h = absurd (ne (same_Some r q (sym (names.ids r live) ∙ ap (map.get refs) (same_nat (id_at a r) m.from e) ∙ found)))
        at r false e ne live h = sym (ap (λ x. cond x m.to (later_id later (id_at c r) (id_at a r))) e) ∙ h

    pub renaming_next : AreRenaming all later a c
    renaming_next = record {
      count = ap (λ (x : ArenaState). length x.clauses) is ∙ length-set b.clauses q (renamed m.to (clause_at b q)) ∙ before.count;
      were_live = λ r h. before.were_live r (live_before r h);
      stay_live = λ r h. live_after r (before.stay_live r h);
      literals = λ r. lits_same r ∙ before.literals r;
      apart = parts.1;
      ids = ids_at;
    }

-- ---- the engine

module _ (moves : List IdMove) (a b : ArenaState) (same : HaveMovedIds moves a b) where
  lits_back : (P : List Literal → Type 0) (r : ℕ) → P (literals_at a r) → P (literals_at b r)
  lits_back P r = subst P (sym (same.literals r))

  justified_still : (limit : ℕ) (before : List Entry) (e : Entry) (reason : Reason) → IsJustified a limit [] before e reason → IsJustified b limit [] before e reason
  justified_still limit before e Decision why = why
  justified_still limit before e (Row row) why = why
  justified_still limit before e (Clause c) why = (
    same.stay_live c why.0,
    lits_back (λ ls. Contains ls e.literal) c why.1,
    lits_back (λ ls. AreOthersFalse before ls e.literal) c why.2,
  )

  fits_still : (w : WatchState) (t : TrailState) → Fits w a t → Fits w b t
  fits_still w t f = record {
    variables = f.variables;
    nodes = record {
      pairs = f.nodes.pairs;
      live = λ r h. same.stay_live r (f.nodes.live r h);
      within = λ r h. lits_back (λ ls. Rattle.std.specs.List.All (λ (l : Literal). (1 ≤ l.variable) × (l.variable ≤ w.variables)) ls) r (f.nodes.within r h);
      inside = λ n h. lits_back (λ ls. Contains ls (Rattle.watch_lists.specs.Watching.held_at w.held n)) (Rattle.watch_lists.specs.Watching.clause_of n) (f.nodes.inside n h);
      apart = f.nodes.apart;
      thirds = λ n h.
          let mine = Rattle.watch_lists.specs.Watching.side_at w.held n in
          let other = Rattle.watch_lists.specs.Watching.side_at w.held (Rattle.watch_lists.specs.Watching.partner n) in
          lits_back (λ ls. Rattle.watch_lists.specs.Watching.IsThird ls mine other) (Rattle.watch_lists.specs.Watching.clause_of n) (f.nodes.thirds n h);
    };
    guarded = f.guarded;
    behind = f.behind;
  }

  rests_still : (limit : ℕ) (w : WatchState) (t : TrailState) → Rests limit [] a w t → Rests limit [] b w t
  rests_still limit w t rests = record {
    few = rests.few;
    variables = rests.variables;
    fits = fits_still w t rests.fits;
    within = λ r h. lits_back (IsWithin limit) r (rests.within r (same.were_live r h));
    justified = λ i h. justified_still limit (take i t.entries) (entry_at t.entries i) (entry_at t.entries i).reason (rests.justified i h);
    low = rests.low;
    spare = rests.spare;
  }

  short_still : (short : List ℕ) → AreShort a short → AreShort b short
  short_still short before r s h l m in_l in_m =
      before r s (same.were_live r h) l m (subst (λ (ls : List Literal). Contains ls l) (same.literals r) in_l) (subst (λ (ls : List Literal). Contains ls m) (same.literals r) in_m)

  met_still : (short : List ℕ) (entries : List Entry) → AreMet a short entries → AreMet b short entries
  met_still short entries met r s h = let m = met r s (same.were_live r h) in (m.0, lits_back (λ ls. Contains ls m.0) r m.1, m.2)

  broken_still : (entries : List Entry) (broken : Option ℕ) → IsBrokenIf a entries broken → IsBrokenIf b entries broken
  broken_still entries None h = tt
  broken_still entries (Some r) h = (same.stay_live r h.0, lits_back (IsFalsified entries) r h.1)

  of_table_moved : (table : Table) → AreApart table moves → AreOfTable table a → AreOfTable (moved table moves) b
  of_table_moved table apart of_table r h =
      let w = of_table r (same.were_live r h) in
      (w.0, ap (get (moved table moves)) (same.ids r (same.were_live r h)) ∙ moved_at table moves apart (id_at a r) w.0 w.1, lits_back (λ ls. HaveSame ls w.0) r w.2)

  held_moved : (table : Table) (attached : List Bool) (short : List ℕ) → AreApart table moves → AreHeld table a attached short → AreHeld (moved table moves) b attached short
  held_moved table attached short apart held n c has = let w = moved_from table moves apart n c has in go w.0 w.2 (held w.0 c w.1)
    where
      go : (j : ℕ) → moved_id moves j ≡ n → IsHeld a attached short j c → IsHeld b attached short n c
      go j to (inl idle) = inl idle
      go j to (inr (r, live, is, have, at_or)) =
          inr (r, same.stay_live r live, same.ids r live ∙ ap (moved_id moves) is ∙ to, lits_back (λ ls. HaveSame ls c) r have, at_or)

-- the references of an engine that holds a table are moved apart where the table's clauses are
refs_apart : (e : Engine) (table : Table) (moves : List IdMove) → IsAtRest e → AreApart table moves → Holds table e → AreApart e.refs moves
refs_apart e table moves rest apart holds = (apart.0, apart.1, λ n new old. at n new old (map.get e.refs n) refl)
  where
    at : (n : ℕ) → list_any (nat_eq n) (new_ids moves) ≡ true → list_any (nat_eq n) (old_ids moves) ≡ false → (o : Option ℕ) → map.get e.refs n ≡ o → map.get e.refs n ≡ None
    at n new old None is = is
    at n new old (Some r) is =
        let w = rest.named n r is in
        let c = holds.of_table r w.0 in
        absurd (none-some c.0 (sym (apart.2 n new old) ∙ ap (get table) (sym w.1) ∙ c.1))

pub names_of : (e : Engine) → IsAtRest e → AreNamed e.arena e.refs
names_of e rest = record { ids = rest.ids; named = rest.named }

-- the engine with another arena and other references
module _ (e f : Engine) (moves : List IdMove) (rest : IsAtRest e) (some : (table : Table) × AreApart table moves × Holds table e)
    (arena : HaveMovedIds moves e.arena f.arena) (refs : f.refs ≡ moved e.refs moves) (limit : f.limit ≡ e.limit) (watches : f.watches ≡ e.watches) (trail : f.trail ≡ e.trail)
    (short : f.short.items ≡ e.short.items) (broken : f.broken ≡ e.broken) where
  apart : AreApart e.refs moves
  apart = refs_apart e some.0 moves rest some.1 some.2

  ids_moved : (r : ℕ) → IsLive f.arena r → map.get f.refs (id_at f.arena r) ≡ Some r
  ids_moved r live =
      let was = arena.were_live r live in
      (λ i. map.get (refs i) (arena.ids r was i)) ∙ moved_at e.refs moves apart (id_at e.arena r) r (rest.ids r was)

  named_moved : (n r : ℕ) → map.get f.refs n ≡ Some r → IsLive f.arena r × (id_at f.arena r ≡ n)
  named_moved n r has =
      let w = moved_from e.refs moves apart n r (sym (ap (λ (m : map.FinMap nat_cmp ℕ). map.get m n) refs) ∙ has) in
      let was = rest.named w.0 r w.1 in
      (arena.stay_live r was.0, arena.ids r was.0 ∙ ap (moved_id moves) was.1 ∙ w.2)

  pub rest_moved : IsAtRest f
  rest_moved = record {
    rests =
        subst (λ (n : ℕ). Rests n [] f.arena f.watches f.trail) (sym limit)
        (subst (λ (w : WatchState). Rests e.limit [] f.arena w f.trail) (sym watches)
        (subst (λ (t : TrailState). Rests e.limit [] f.arena e.watches t) (sym trail) (rests_still moves e.arena f.arena arena e.limit e.watches e.trail rest.rests)));
    low = subst (λ (t : TrailState). t.level ≤ 1) (sym trail) rest.low;
    short = subst (AreShort f.arena) (sym short) (short_still moves e.arena f.arena arena e.short.items rest.short);
    known = λ q s. subst (λ (n : ℕ). q < n) (sym arena.count) (rest.known q (subst (λ (xs : List ℕ). Contains xs q) short s));
    broken =
        subst (λ (t : TrailState). IsBrokenIf f.arena t.entries f.broken) (sym trail)
        (subst (IsBrokenIf f.arena e.trail.entries) (sym broken) (broken_still moves e.arena f.arena arena e.trail.entries e.broken rest.broken));
    met = λ none some.
        subst (λ (t : TrailState). AreMet f.arena f.short.items t.entries) (sym trail)
        (subst (λ (xs : List ℕ). AreMet f.arena xs e.trail.entries) (sym short)
        (met_still moves e.arena f.arena arena e.short.items e.trail.entries (rest.met (sym broken ∙ none) (subst (λ (t : TrailState). 1 ≤ t.level) trail some))));
    ids = ids_moved;
    named = named_moved;
  }

  pub holds_moved : (table : Table) → AreApart table moves → Holds table e → Holds (moved table moves) f
  holds_moved table told holds = record {
    of_table = of_table_moved moves e.arena f.arena arena table told holds.of_table;
    held =
        subst (λ (w : WatchState). AreHeld (moved table moves) f.arena w.attached f.short.items) (sym watches)
        (subst (AreHeld (moved table moves) f.arena e.watches.attached) (sym short) (held_moved moves e.arena f.arena arena table e.watches.attached e.short.items told holds.held));
  }

pub on_ok : {T E P Q : Type 0} (r : Result T E) → (P → Q) → OnOk r P → OnOk r Q
on_ok (Ok x) f h = f h
on_ok (Err x) f h = tt
