-- What an arena tells of a clause.
use Rattle.std.proofs.Common.{◌≡◌, ℕ, ◌<◌, Bool, true, false, cond, List, length, get_or, Option, Some, None, IsSome, IsTrue, is_some, refl, sym, ap, ◌∙◌, subst, arith}
use Rattle.std.proofs.lemmas.Bool.{false≢true}
use Rattle.cx_base.specs.Literals.{Literal}
use Rattle.clause_arena.specs.declared.head.Head.{Head}
use Rattle.clause_arena.specs.Clauses.{Stored, ArenaState, clause_at, literals_in, literals_at, IsLive}
use Rattle.clause_arena.specs.Heads.{stored, part_at, clauses_from, AreHeads}
use Rattle.clause_arena.proofs.HeadLaws.{clauses_count, clause_is}
use Rattle.clause_arena.proofs.PackingLaws.{live_within}

live_by_test : (b : Bool) (s : Stored) (c : Option Stored) → c ≡ cond b (Some s) None → (IsTrue b → IsSome c) × (IsSome c → IsTrue b)
live_by_test true s c e = (λ t. subst (λ (o : Option Stored). IsSome o) (sym e) refl, λ l. refl)
live_by_test false s c e = (λ t. absurd (false≢true t), λ l. absurd (false≢true (sym (ap is_some e) ∙ l)))

known_by_test : (b : Bool) (s : Stored) (c : Option Stored) → c ≡ cond b (Some s) None → IsSome c → c ≡ Some s
known_by_test true s c e l = e
known_by_test false s c e l = absurd (false≢true (sym (ap is_some e) ∙ l))

module _ (a : ArenaState) (lits : List Literal) (ends : List ℕ) (heads : List Head) (is : clauses_from 0 lits ends heads ≡ a.clauses) (k : AreHeads lits ends heads) where
  pub count : length a.clauses ≡ length heads
  count = sym (ap (λ (cs : List (Option Stored)). length cs) is) ∙ clauses_count 0 lits ends heads k.each

  pub live_place : (r place : ℕ) → place ≡ r → IsLive a r → place < length heads
  live_place r place e l = omega (arith, e, count, live_within a r l)

  -- what is at a place, by the head there
  clause_there : (r place : ℕ) (h : Head) → place ≡ r → place < length heads → clause_at a r ≡ stored (part_at lits ends place) (get_or heads place h)
  clause_there r place h e inside = ap (clause_at a) (sym e) ∙ sym (ap (λ (cs : List (Option Stored)). get_or cs place None) is) ∙ clause_is 0 lits ends heads place h k.each inside

  clause_by_head : (r place : ℕ) (h : Head) → place ≡ r → place < length heads → h ≡ get_or heads place h → clause_at a r ≡ stored (part_at lits ends place) h
  clause_by_head r place h e inside at = clause_there r place h e inside ∙ ap (stored (part_at lits ends place)) (sym at)

  pub is_live_by_head : (r place : ℕ) (h : Head) → place ≡ r → place < length heads → h ≡ get_or heads place h → (IsTrue h.live → IsLive a r) × (IsLive a r → IsTrue h.live)
  is_live_by_head r place h e inside at = live_by_test h.live _ (clause_at a r) (clause_by_head r place h e inside at)

  -- the clause of a reference, by its head
  pub live_clause : (r place : ℕ) (h : Head) → place ≡ r → h ≡ get_or heads place h → IsLive a r
      → clause_at a r ≡ Some (record { literals = part_at lits ends place; id = h.id; lbd = h.lbd; learned = h.learned })
  live_clause r place h e at l = known_by_test h.live _ (clause_at a r) (clause_by_head r place h e (live_place r place e l) at) l

  pub live_literals : (r place : ℕ) → place ≡ r → IsLive a r → literals_at a r ≡ part_at lits ends place
  live_literals r place e l =
      let none : Head = record { id = 0; lbd = 0; learned = false; live = false } in
      ap literals_in (known_by_test (get_or heads place none).live _ (clause_at a r) (clause_there r place none e (live_place r place e l)) l)
