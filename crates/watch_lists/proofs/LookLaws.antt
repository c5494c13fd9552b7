-- A search that goes around a clause, and a look at a short one.
use Rattle.std.proofs.Common.{ℕ, ◌≡◌, ◌≢◌, ◌⊎◌, ◌∙◌, ◌<◌, ◌≤◌, List, length, take, drop, Option, None, Some, MatchOption, subst, sym, ⊎_elim, arith}
use Rattle.std.specs.List.{Contains}
use Rattle.std.proofs.lemmas.List.{take-append-drop, length-take-le, get_or-take}
use Rattle.std.proofs.lemmas.List.Elements.{Contains-append_cases}
use Rattle.cx_base.specs.Literals.{Literal}
use Rattle.cx_trail.specs.declared.entry.Entry.{Entry}
use Rattle.cx_trail.specs.Sequence.{IsFalseIn}
use Rattle.watch_lists.specs.Truths.{AreOthersFalse}
use Rattle.watch_lists.specs.Watching.{no_literal}
use Rattle.watch_lists.specs.Places.{IsFreeAt}

-- what is found before the place where the search began is found in the clause, and where nothing is, there is nothing
pub found_in_front : (entries : List Entry) (lits : List Literal) (other : Literal) (start : ℕ) (found : Option ℕ) → start ≤ length lits → AreOthersFalse entries (drop start lits) other
    → MatchOption found (AreOthersFalse entries (take start lits) other) (λ place. IsFreeAt entries (take start lits) other place)
    → MatchOption found (AreOthersFalse entries lits other) (λ place. IsFreeAt entries lits other place)
found_in_front entries lits other start None le back front = λ m h ne. ⊎_elim
    (λ (f : Contains (take start lits) m). front m f ne)
    (λ (b : Contains (drop start lits) m). back m b ne)
    (Contains-append_cases (take start lits) (drop start lits) m (subst (λ (xs : List Literal). Contains xs m) (sym (take-append-drop start lits)) h))
found_in_front entries lits other start (Some place) le back front =
    let low : place < start = omega (arith, front.inside, length-take-le start lits le) in
    let same = get_or-take start lits place no_literal low in
    record {
      inside = omega (arith, low, le);
      apart = subst (λ (l : Literal). l ≢ other) same front.apart;
      free = subst (λ (l : Literal). IsFalseIn entries l → ⊥) same front.free;
    }

-- a short clause is a false literal, the other one that is watched and the third one
pub others_false : (entries : List Entry) (lits : List Literal) (mine other third : Literal) → IsFalseIn entries mine → (third ≢ other → IsFalseIn entries third) → ((l : Literal) → Contains lits l → (l ≡ mine) ⊎ ((l ≡ other) ⊎ (l ≡ third))) → AreOthersFalse entries lits other
others_false entries lits mine other third falsified denied each m h ne = ⊎_elim
    (λ (e : m ≡ mine). subst (λ (l : Literal). IsFalseIn entries l) (sym e) falsified)
    (λ (r : (m ≡ other) ⊎ (m ≡ third)). ⊎_elim
    (λ (e : m ≡ other). absurd (ne e))
    (λ (e : m ≡ third). subst (λ (l : Literal). IsFalseIn entries l) (sym e) (denied (λ q. ne (e ∙ q)))) r) (each m h)
