-- The tables of a log stay tied to those of its proof where ids are moved.
use Rattle.std.proofs.Common.{◌≡◌, ◌≢◌, refl, sym, ap, ◌∙◌, subst, ℕ, ◌<◌, ◌≤◌, Bool, true, false, cond, ◌||◌, nat_eq, List, [], ◌∷◌, length, Option, Some, None, is_some, true≢false}
use Rattle.std.specs.List.{list_any}
use Rattle.std.specs.Ordering.{nat_cmp}
use Rattle.std.specs.FinMap as map_
use Rattle.std.proofs.lemmas.Bool.{or_parts}
use Rattle.cx_base.specs.Literals.{Literal}
use Rattle.cx_base.specs.declared.id_moves.IdMove.{IdMove}
use Rattle.cx_semantics.specs.Tables.{Table, get, is_live}
use Rattle.cx_semantics.specs.Moves.{old_ids, names_twice, moved}
use Rattle.cx_semantics.specs.Judging.{AllHold}
use Rattle.cx_semantics.specs.LogRules.{moving}
use Rattle.cx_semantics.proofs.MoveLaws.{source, AreThere, from_source, get-moved, source_is_old, one_target, there_by}
use Rattle.fratx_elab.specs.Names.{Naming, stands_for, move_names}
use Rattle.fratx_elab.specs.Ties.{Tied}

-- where something is under an id once others were taken out, it was there and the id was not taken out
not_out : {X : Type 0} (b : Bool) (o : Option X) (x : X) → cond b None o ≡ Some x → (b ≡ false) × (o ≡ Some x)
not_out true o x h = cc
not_out false o x h = (refl, h)

-- what is under k was under its source; or under k, which is no old id
pub data Stood {X : Type 0} (contents : map_.FinMap nat_cmp X) (moves : List IdMove) (k : ℕ) (x : X) : Type 0 where
  came : (j : ℕ) → source moves k ≡ Some j → map_.get contents j ≡ Some x → Stood contents moves k x
  stayed : source moves k ≡ None → list_any (nat_eq k) (old_ids moves) ≡ false → map_.get contents k ≡ Some x → Stood contents moves k x

stood : {X : Type 0} (contents : map_.FinMap nat_cmp X) (moves : List IdMove) (k : ℕ) (x : X) → AreThere contents moves → map_.get (moved contents moves) k ≡ Some x → Stood contents moves k x
stood {X} contents moves k x there h = at (source moves k) refl (sym (get-moved contents moves k there) ∙ h)
  where
    at : (s : Option ℕ) → source moves k ≡ s → from_source contents (cond (list_any (nat_eq k) (old_ids moves)) None (map_.get contents k)) s ≡ Some x → Stood contents moves k x
    at (Some j) is e = came j is e
    at None is e = let p = not_out (list_any (nat_eq k) (old_ids moves)) (map_.get contents k) x e in stayed is p.0 p.1

module _ (Alike : List Literal → List Literal → Type 0) (first : Table) (count : ℕ) (log proof : Table) (naming : Naming) (tie : Tied Alike first count log proof naming) (moves : List IdMove) (right : AllHold (moving log moves)) where
  parts : (list_any (λ n. Rattle.std.proofs.Common.not (is_live log n)) (old_ids moves) ≡ false) × (names_twice (old_ids moves) ≡ false)
  parts = or_parts (list_any (λ n. Rattle.std.proofs.Common.not (is_live log n)) (old_ids moves)) (names_twice (old_ids moves)) right.0

  live_there : AreThere log moves
  live_there = there_by log moves parts.0

  named_there : (ms : List IdMove) → AreThere log ms → AreThere naming.ids ms
  named_there [] h = tt
  named_there (m ∷ ms) h = (sym (tie.keyed m.from) ∙ h.0, named_there ms h.1)

  keyed : (k : ℕ) → is_live (moved log moves) k ≡ is_some (stands_for (move_names naming moves) k)
  keyed k = ap is_some (get-moved log moves k live_there) ∙ at (source moves k) (list_any (nat_eq k) (old_ids moves)) ∙ sym (ap is_some (get-moved naming.ids moves k (named_there moves live_there)))
    where
      at : (s : Option ℕ) (b : Bool) → is_some (from_source log (cond b None (get log k)) s) ≡ is_some (from_source naming.ids (cond b None (stands_for naming k)) s)
      at (Some j) b = tie.keyed j
      at None true = refl
      at None false = tie.keyed k

  same_source : (k j i : ℕ) → source moves k ≡ Some j → source moves k ≡ Some i → j ≡ i
  same_source k j i a b = let e : ◌≡◌ {A = Option ℕ} (Some j) (Some i) = sym a ∙ b in cc

  no_source : (k j : ℕ) {P : Type 0} → source moves k ≡ Some j → source moves k ≡ None → P
  no_source k j a b = let e : ◌≡◌ {A = Option ℕ} (Some j) None = sym a ∙ b in cc

  alike_at : (k p : ℕ) (lits : List Literal) → Stood log moves k lits → Stood naming.ids moves k p → (other : List Literal) × (get proof p ≡ Some other) × Alike lits other
  alike_at k p lits (came j a b) (came i c d) = tie.alike j p lits b (subst (λ x. stands_for naming x ≡ Some p) (sym (same_source k j i a c)) d)
  alike_at k p lits (came j a b) (stayed c o d) = no_source k j a c
  alike_at k p lits (stayed a o b) (came i c d) = no_source k i c a
  alike_at k p lits (stayed a o b) (stayed c q d) = tie.alike k p lits b d

  old_stays : (k j : ℕ) {P : Type 0} → source moves k ≡ Some j → (n : ℕ) → j ≡ n → list_any (nat_eq n) (old_ids moves) ≡ false → P
  old_stays k j a n e none = absurd (true≢false (sym (subst (λ x. list_any (nat_eq x) (old_ids moves) ≡ true) e (source_is_old moves k j a)) ∙ none))

  apart_at : (n m p : ℕ) → count < p → Stood naming.ids moves n p → Stood naming.ids moves m p → n ≡ m
  apart_at n m p above (came j a b) (came i c d) = one_target moves n m j parts.1 a (c ∙ ap Some (sym (tie.apart j i p b d above)))
  apart_at n m p above (came j a b) (stayed c o d) = old_stays n j a m (tie.apart j m p b d above) o
  apart_at n m p above (stayed a o b) (came i c d) = old_stays m i c n (tie.apart i n p d b above) o
  apart_at n m p above (stayed a o b) (stayed c q d) = tie.apart n m p b d above

  pub tied_moved : Tied Alike first count (moved log moves) proof (move_names naming moves)
  tied_moved = record {
    keyed = keyed;
    alike = λ k p lits h g. alike_at k p lits (stood log moves k lits live_there h) (stood naming.ids moves k p (named_there moves live_there) g);
    bounded = tie.bounded;
    originals = tie.originals;
    apart = λ n m p h g above. apart_at n m p above (stood naming.ids moves n p (named_there moves live_there) h) (stood naming.ids moves m p (named_there moves live_there) g);
    covers = tie.covers;
  }
