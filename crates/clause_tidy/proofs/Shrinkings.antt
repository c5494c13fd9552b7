-- Changes by which an arena shrinks.
use Rattle.std.proofs.Common.{◌≡◌, refl, ap, ◌∙◌, ℕ, ◌+◌, ◌≤◌, List, [], ◌∷◌, ◌++◌, length, set, Option, Some, None, Result, Ok, Err, arith}
use Rattle.std.specs.Prelude.{OnOk}
use Rattle.std.proofs.lemmas.List.{length-set, length-append}
use Rattle.cx_base.specs.Literals.{Literal, negate}
use Rattle.cx_semantics.specs.Chain.{is_inside}
use Rattle.clause_arena.specs.Clauses.{ArenaState, Stored, clause_at, IsLive, literals_at, literals_in, kept}
use Rattle.clause_arena.proofs.PackingLaws.{live_within}
use Rattle.clause_tidy.specs.Shortened.{Shortens}
use Rattle.clause_tidy.specs.Shrinking.{Shrinks, ShrinksOnce}
use Rattle.clause_tidy.proofs.Arenas as arenas
use Rattle.clause_tidy.proofs.Keeping as keeping
use Rattle.clause_tidy.proofs.Removing as removing
use Rattle.clause_tidy.proofs.ShorterRuns.{without_inside}
use Rattle.clause_tidy.proofs.ShrinkLaws.{shrinks_on}

-- no reference is past the end
none_past : {D : Type 0} (a b : ArenaState) (q : ℕ) → length b.clauses ≤ length a.clauses → length a.clauses ≤ q → IsLive b q → D
none_past a b q long past live = let low = live_within b q live in absurd (omega (arith, long, past, low))

pub nothing_shrinks : (a : ArenaState) → Shrinks a a
nothing_shrinks a = record { grown = omega arith; was = λ q low live. (live, refl); came = λ q past live. none_past a a q (omega arith) past live }

module _ (a b : ArenaState) (r : ℕ) (live : IsLive a r) (is : b.clauses ≡ set a.clauses r None) where
  removed_long : length b.clauses ≡ length a.clauses
  removed_long = ap (λ (cs : List (Option Stored)). length cs) is ∙ length-set a.clauses r None

  pub removed_shrinks : Shrinks a b
  removed_shrinks = record {
    grown = let long = removed_long in omega (arith, long);
    was = λ q low l. (removing.lived a b r live is q l, ap literals_in (removing.stays a b r live is q (removing.other_lives a b r live is q l)));
    came = λ q past l. none_past a b q (let long = removed_long in omega (arith, long)) past l;
  }

module _ (a b : ArenaState) (k : ℕ) (live : IsLive a k) (is : b.clauses ≡ set a.clauses k (kept (clause_at a k))) where
  pub kept_long : length b.clauses ≡ length a.clauses
  kept_long = ap (λ (cs : List (Option Stored)). length cs) is ∙ length-set a.clauses k (kept (clause_at a k))

  pub kept_shrinks : Shrinks a b
  kept_shrinks = record {
    grown = let long = kept_long in omega (arith, long);
    was = λ q low l. (keeping.was_live a b k live is q l, keeping.same_literals_at a b k live is q);
    came = λ q past l. none_past a b q (let long = kept_long in omega (arith, long)) past l;
  }

pub on_ok : {T E : Type 0} (result : Result T E) (P Q : Type 0) → (P → Q) → OnOk result P → OnOk result Q
on_ok (Ok t) P Q f h = f h
on_ok (Err fault) P Q f h = h

-- one is kept, and then one goes
pub subsumed_shrinks : (a b c : ArenaState) (r : ℕ) → Shrinks a b → length b.clauses ≡ length a.clauses → IsLive b r → c.clauses ≡ set b.clauses r None → ShrinksOnce a c
subsumed_shrinks a b c r h long live is = (shrinks_on a b c h (removed_shrinks b c r live is), let two = removed_long b c r live is in omega (arith, long, two))

-- one loses literals
module _ (a b : ArenaState) (k r : ℕ) (live : IsLive a r) (new : Stored) (short : Shortens a k r new.literals) (is : b.clauses ≡ set a.clauses r None ++ Some new ∷ []) where
  grown_long : length b.clauses ≡ length a.clauses + 1
  grown_long =
      let one = length-append (set a.clauses r removing.NoClause) (Some new ∷ []) in
      let two = length-set a.clauses r removing.NoClause in
      let three = ap (λ (cs : List (Option Stored)). length cs) is in
      let last : length (Some new ∷ []) ≡ 1 = refl in
      omega (arith, one, two, three, last)

  pub shortened_shrinks : ShrinksOnce a b
  shortened_shrinks = (
    record {
      grown = let long = grown_long in omega (arith, long);
      was = λ q low l.
          let ne = λ (e : q ≡ r). removing.none_lives (clause_at b q) (ap (clause_at b) e ∙ arenas.gone a b r live new is) l in
          (arenas.was_live a b r live new is q low ne l, ap literals_in (arenas.stays a b r live new is q low ne));
      came = λ q past l.
          let low = live_within b q l in
          let long = grown_long in
          let here : q ≡ length a.clauses = omega (arith, low, long, past) in
          let lits : literals_at b q ≡ new.literals = ap (literals_at b) here ∙ ap literals_in (arenas.last a b r live new is) in (
            r,
            live,
            removing.none_lives (clause_at b r) (arenas.gone a b r live new is),
            ap (λ (x : List Literal). is_inside x (literals_at a r)) lits ∙ without_inside (literals_at a r) new.literals (negate short.m) short.is,
          );
    },
    let long = grown_long in omega (arith, long),
  )
