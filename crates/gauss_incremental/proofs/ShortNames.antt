-- Names of short parities after those of rows.
use Rattle.std.proofs.Common.{◌≡◌, ◌≢◌, ℕ, ◌+◌, ◌-◌, ◌<◌, ◌≤◌, zero, suc, Bool, true, false, not, ◌&&◌, cond, List, [], ◌∷◌, ◌++◌, map, length, get_or, set, Option, Some, None, refl, sym, ap, ◌∙◌, subst, arith, inl, inr, true≢false}
use Rattle.std.specs.Prelude.{IsSome, nat_le, replicate, ◌^◌}
use Rattle.std.specs.List.{AllByRecursion}
use Rattle.std.specs.Option.{is_some}
use Rattle.std.proofs.lemmas.Simd.{length-zip2}
use Rattle.std.proofs.lemmas.Bool.{cases_eq, cases_lt}
use Rattle.std.proofs.lemmas.Option.{same_Some}
use Rattle.gauss_jordan.proofs.ScratchEvents.{set_same}
use Rattle.std.proofs.lemmas.List.{get_or-append-add, get_or_append_left, get_or-set_other, get_or-set_same, length-append, length-map, length-replicate, length-set, map-append, replicate-append-replicate, set-append_left, set-append_right}
use Rattle.std.proofs.Math.ListN.{get_or-eq_default, get_or-map}
use Rattle.cx_base.specs.Literals.{Literal}
use Rattle.parity_engine.specs.declared.state.Mood.{Mood}
use Rattle.parity_engine.specs.declared.state.Mood.TheVariants.{Busy, Calm, Broken}
use Rattle.parity_engine.specs.declared.state.Naming.{Naming}
use Rattle.parity_engine.specs.declared.event.ParityEvent.{ParityEvent}
use Rattle.parity_engine.specs.declared.event.ParityEvent.TheVariants.{Quiet, Implied, Conflict}
use Rattle.parity_engine.specs.Namings.{keep_naming}
use Rattle.parity_engine.specs.State.{IsBroken, IsImplied, IsNamedNow, IsSameNamed, IsSilent, Named, Reports, State, assigned, back, fresh, keep_named, named_at, names, pushed}
use Rattle.parity_engine.specs.Equations.{sum_of_numbers}
use Rattle.parity_engine.specs.Written.{AreRising, IsWritten}
use Rattle.gf2_matrix.proofs.FormSums.{every-at}
use Rattle.gauss_incremental.specs.Namings.{AreClashesAbove, AreNamedBy}
use Rattle.gauss_incremental.specs.declared.shorts.Short.{Short}
use Rattle.gauss_incremental.specs.declared.short_first.Told.{Told}
use Rattle.gauss_incremental.specs.declared.short_first.Told.TheVariants.{ByMatrix, ByUnit, ByUnmet}
use Rattle.gauss_incremental.specs.declared.looks.ShortFinding.TheVariants.{Implication, Contradiction}
use Rattle.gauss_incremental.specs.ShortFirst.{AreShortsOf, IsFoundShort, IsFree, IsShort, IsTold, IsToldBy, mood_after, naming_of, no_short, short_at, short_form, short_name, short_names, with_shorts}
use Rattle.gauss_incremental.proofs.Back.{kept_naming}
use Rattle.gauss_incremental.proofs.ShortMeaning.{one_sum, short_broken, short_implied}

-- ---- names in a list
short-at : (parities : List (List Literal)) (shorts : List Short) (named : List (Option Naming)) (p : ℕ) → length named ≡ length shorts
    → get_or (short_names parities shorts named) p None ≡ short_name parities (get_or named p None) (short_at shorts p)
short-at parities [] [] p e = refl
short-at parities (short ∷ shorts) [] p e = absurd (omega arith)
short-at parities [] (o ∷ named) p e = absurd (omega arith)
short-at parities (short ∷ shorts) (o ∷ named) zero e = refl
short-at parities (short ∷ shorts) (o ∷ named) (suc p) e = short-at parities shorts named p (omega arith)

short-set : (parities : List (List Literal)) (shorts : List Short) (named : List (Option Naming)) (p : ℕ) (o : Option Naming) → length named ≡ length shorts → p < length shorts
    → short_names parities shorts (set named p o) ≡ set (short_names parities shorts named) p (short_name parities o (short_at shorts p))
short-set parities [] named p o e lt = absurd (omega arith)
short-set parities (short ∷ shorts) [] p o e lt = absurd (omega arith)
short-set parities (short ∷ shorts) (q ∷ named) zero o e lt = refl
short-set parities (short ∷ shorts) (q ∷ named) (suc p) o e lt = ap (λ ns. short_name parities q short ∷ ns) (short-set parities shorts named p o (omega arith) (omega arith))

length-shorts : (parities : List (List Literal)) (shorts : List Short) (named : List (Option Naming)) → length named ≡ length shorts → length (short_names parities shorts named) ≡ length named
length-shorts parities shorts named e = length-zip2 (short_name parities) named shorts e

short-cond : (parities : List (List Literal)) (short : Short) (m : Naming) (b : Bool) → short_name parities (cond b (Some m) None) short ≡ cond b (short_name parities (Some m) short) None
short-cond parities short m true = refl
short-cond parities short m false = refl

short-kept : (l : ℕ) (parities : List (List Literal)) (o : Option Naming) (short : Short) → short_name parities (keep_naming l o) short ≡ keep_named l (short_name parities o short)
short-kept l parities None short = refl
short-kept l parities (Some m) short = short-cond parities short m (not m.in_conflict && nat_le m.level l)

shorts-kept : (l : ℕ) (parities : List (List Literal)) (shorts : List Short) (named : List (Option Naming))
    → short_names parities shorts (map (keep_naming l) named) ≡ map (keep_named l) (short_names parities shorts named)
shorts-kept l parities shorts [] = refl
shorts-kept l parities [] (o ∷ named) = refl
shorts-kept l parities (short ∷ shorts) (o ∷ named) = (λ i. short-kept l parities o short i ∷ shorts-kept l parities shorts named i)

none_named : (parities : List (List Literal)) (shorts : List Short) (n : ℕ) → length shorts ≡ n → short_names parities shorts (replicate n None) ≡ replicate n None
none_named parities [] zero e = refl
none_named parities [] (suc n) e = absurd (omega arith)
none_named parities (short ∷ shorts) zero e = absurd (omega arith)
none_named parities (short ∷ shorts) (suc n) e = ap (λ ns. let o : Option Named = None in o ∷ ns) (none_named parities shorts n (omega arith))

nothing_at : (n k : ℕ) → get_or (replicate n (let o : Option Naming = None in o)) k None ≡ None
nothing_at zero k = refl
nothing_at (suc n) zero = refl
nothing_at (suc n) (suc k) = nothing_at n k

-- a state with other names
abbrev renamed : State → List (Option Named) → Mood → State
renamed s ns mood = record s { named = ns; mood = mood }

-- ---- what told the last event
pub inner_whole : (s : State) (shorts : List Short) (named : List (Option Naming)) (told : Told) → IsTold s shorts named told → mood_after told s.mood ≢ Broken → s.mood ≢ Broken
inner_whole s shorts named ByMatrix by whole = whole
inner_whole s shorts named ByUnit by whole = by
inner_whole s shorts named (ByUnmet p) by whole = absurd (whole refl)

pub inner_calm : (s : State) (told : Told) → mood_after told s.mood ≡ Calm → s.mood ≡ Calm
inner_calm s ByMatrix calm = calm
inner_calm s ByUnit calm = absurd (let clash : Busy ≡ Calm = calm in cc)
inner_calm s (ByUnmet p) calm = absurd (let clash : Broken ≡ Calm = calm in cc)

no_clash : (told : Told) (mood : Mood) (p : ℕ) → mood_after told mood ≢ Broken → IsToldBy p told → ⊥
no_clash ByMatrix mood p whole by = by
no_clash ByUnit mood p whole by = by
no_clash (ByUnmet q) mood p whole by = whole refl

calm_clash : (told : Told) (mood : Mood) (p : ℕ) → mood_after told mood ≡ Calm → IsToldBy p told → ⊥
calm_clash ByMatrix mood p calm by = by
calm_clash ByUnit mood p calm by = by
calm_clash (ByUnmet q) mood p calm by = let clash : Broken ≡ Calm = calm in cc

calm_told : (s : State) (shorts : List Short) (named : List (Option Naming)) (told : Told) → mood_after told s.mood ≡ Calm → IsTold (pushed s) shorts named told
calm_told s shorts named ByMatrix calm = tt
calm_told s shorts named ByUnit calm = absurd (let clash : Busy ≡ Calm = calm in cc)
calm_told s shorts named (ByUnmet p) calm = absurd (let clash : Broken ≡ Calm = calm in cc)

-- ---- calls
pub shorts_assigned : (s : State) (shorts : List Short) (named : List (Option Naming)) (told : Told) (v : ℕ) (b : Bool) → AreShortsOf s shorts named told → mood_after told s.mood ≢ Broken
    → AreShortsOf (assigned s v b) shorts named ByMatrix
shorts_assigned s shorts named told v b is whole = record {
  each = is.each;
  few = is.few;
  long = is.long;
  last = is.last;
  clashes = λ p m at on. absurd (no_clash told s.mood p whole (is.clashes p m at on).0);
  by = tt;
}

pub shorts_pushed : (s : State) (shorts : List Short) (named : List (Option Naming)) (told : Told) → AreShortsOf s shorts named told → mood_after told s.mood ≡ Calm → AreShortsOf (pushed s) shorts named told
shorts_pushed s shorts named told is calm = record {
  each = is.each;
  few = is.few;
  long = is.long;
  last = λ r m at. let le = is.last r m at in omega arith;
  clashes = λ p m at on. absurd (calm_clash told s.mood p calm (is.clashes p m at on).0);
  by = calm_told s shorts named told calm;
}

pub clashes_above : (s : State) (shorts : List Short) (named : List (Option Naming)) (told : Told) (l : ℕ) → AreShortsOf s shorts named told → l < s.level → AreClashesAbove l named
clashes_above s shorts named told l is lt r m at on = let e = (is.clashes r m at on).1 in omega arith

pub shorts_back : (s : State) (shorts : List Short) (named : List (Option Naming)) (told : Told) (l : ℕ) → AreShortsOf s shorts named told → AreShortsOf (back l s) shorts (map (keep_naming l) named) ByMatrix
shorts_back s shorts named told l is =
    let at_kept : (r : ℕ) → get_or (map (keep_naming l) named) r None ≡ keep_naming l (get_or named r None) = λ r. get_or-map (keep_naming l) named r None in
    record {
      each = is.each;
      few = let f = is.few in omega (arith, length-map s.named (keep_named l));
      long = length-map named (keep_naming l) ∙ is.long;
      last = λ r m at. (kept_naming l (get_or named r None) m (sym (at_kept r) ∙ at)).2;
      clashes = λ p m at on. absurd (true≢false (sym on ∙ (kept_naming l (get_or named p None) m (sym (at_kept p) ∙ at)).1));
      by = tt;
    }

pub states_back : (s : State) (shorts : List Short) (named : List (Option Naming)) (told : Told) (l : ℕ)
    → with_shorts (back l s) shorts (map (keep_naming l) named) ByMatrix ≡ back l (with_shorts s shorts named told)
states_back s shorts named told l =
    ap (λ ns. renamed (back l s) ns Calm) (ap (λ ns. map (keep_named l) s.named ++ ns) (shorts-kept l s.parities shorts named) ∙ sym (map-append (keep_named l) s.named (short_names s.parities shorts named)))

pub shorts_fresh : (s : State) (vars n : ℕ) (parities : List (List Literal)) (shorts : List Short) (named : List (Option Naming)) → s ≡ fresh vars parities n → AllByRecursion (IsShort vars parities) shorts
    → length s.named + length shorts < 2 ^ 32 → named ≡ replicate (length shorts) None → AreShortsOf s shorts named ByMatrix
shorts_fresh s vars n parities shorts named is each few none =
    let free : (r : ℕ) → get_or named r None ≡ None = λ r. ap (λ ns. get_or ns r None) none ∙ nothing_at (length shorts) r in
    record {
      each = subst (λ (t : State). AllByRecursion (IsShort t.vars t.parities) shorts) (sym is) each;
      few = few;
      long = ap length none ∙ length-replicate (length shorts) (let o : Option Naming = None in o);
      last = λ r m at. absurd (let clash : None ≡ Some m = sym (free r) ∙ at in cc);
      clashes = λ r m at on. absurd (let clash : None ≡ Some m = sym (free r) ∙ at in cc);
      by = tt;
    }

pub state_fresh : (s : State) (vars n : ℕ) (parities : List (List Literal)) (shorts : List Short) (named : List (Option Naming)) → s ≡ fresh vars parities n → named ≡ replicate (length shorts) None
    → with_shorts s shorts named ByMatrix ≡ fresh vars parities (n + length shorts)
state_fresh s vars n parities shorts named is none =
    (λ i. with_shorts (is i) shorts (none i) ByMatrix)
    ∙ ap (λ ns. renamed (fresh vars parities n) ns Busy)
    (ap (λ ns. replicate n None ++ ns) (none_named parities shorts (length shorts) refl) ∙ replicate-append-replicate n (length shorts) (let o : Option Named = None in o))

-- ---- events of the matrix
silent : (s : State) (ns : List (Option Named)) (mood : Mood) → IsSilent s → IsSilent (renamed s ns mood)
silent s ns mood is = record { consistent = is.consistent; forced = is.forced }

named_now : (s : State) (ns : List (Option Named)) (mood : Mood) (n : Named) (b : Bool) → IsNamedNow s n b → IsNamedNow (renamed s ns mood) n b
named_now s ns mood n b is = record { level_is = is.level_is; kind_is = is.kind_is; numbers = is.numbers; sums = is.sums }

implied : (s : State) (ns : List (Option Named)) (mood : Mood) (l : Literal) (n : Named) → IsImplied s l n.form → IsImplied (renamed s ns mood) l n.form
implied s ns mood l n is = record { low = is.low; high = is.high; unassigned = is.unassigned; forced = is.forced; has = is.has; others = is.others; met = is.met }

broken : (s : State) (ns : List (Option Named)) (mood : Mood) (n : Named) → IsBroken s n.form → IsBroken (renamed s ns mood) n.form
broken s ns mood n is = record { none = is.none; whole = is.whole; unmet = is.unmet }

-- the name of a row, in the longer list
module _ (s : State) (shorts : List Short) (named : List (Option Naming)) (t : Told) (row : ℕ) (n : Named) (lt : row < length s.named) where
  row_in : row < length (with_shorts s shorts named t).named
  row_in = omega (arith, length-append s.named (short_names s.parities shorts named))

  row_named : (mood : Mood) (u : State) → u ≡ names s row n mood → with_shorts u shorts named ByMatrix ≡ names (with_shorts s shorts named t) row n mood
  row_named mood u is =
      ap (λ (q : State). with_shorts q shorts named ByMatrix) is
      ∙ ap (λ ns. renamed s ns mood) (sym (set-append_left s.named (short_names s.parities shorts named) row (Some n) lt))

  same_before : IsSameNamed (named_at s row) n → IsSameNamed (named_at (with_shorts s shorts named t) row) n
  same_before = subst (λ o. IsSameNamed o n) (sym (get_or_append_left s.named (short_names s.parities shorts named) None row lt))

pub matrix_reports : (s u : State) (shorts : List Short) (named : List (Option Naming)) (event : ParityEvent) → Reports s event u → (t : Told)
    → Reports (with_shorts s shorts named t) event (with_shorts u shorts named ByMatrix)
matrix_reports s u shorts named Quiet is t = (
  ap (λ (q : State). with_shorts q shorts named ByMatrix) is.0,
  silent s (s.named ++ short_names s.parities shorts named) (mood_after t s.mood) is.1,
)
matrix_reports s u shorts named (Implied l row) (n, lt, now, same, new, says) t =
    let ns : List (Option Named) = s.named ++ short_names s.parities shorts named in (
      n,
      row_in s shorts named t row n lt,
      row_named s shorts named t row n lt Busy u now,
      same_before s shorts named t row n lt same,
      named_now s ns (mood_after t s.mood) n false new,
      implied s ns (mood_after t s.mood) l n says,
    )
matrix_reports s u shorts named (Conflict row) (n, lt, now, same, new, says) t =
    let ns : List (Option Named) = s.named ++ short_names s.parities shorts named in (
      n,
      row_in s shorts named t row n lt,
      row_named s shorts named t row n lt Broken u now,
      same_before s shorts named t row n lt same,
      named_now s ns (mood_after t s.mood) n true new,
      broken s ns (mood_after t s.mood) n says,
    )

-- the other parts of the state stay
shorts_renamed : (s : State) (shorts : List Short) (named : List (Option Naming)) (ns : List (Option Named)) (mood : Mood) → length ns ≡ length s.named → AreShortsOf s shorts named ByMatrix
    → AreShortsOf (renamed s ns mood) shorts named ByMatrix
shorts_renamed s shorts named ns mood long is = record {
  each = is.each;
  few = let f = is.few in omega arith;
  long = is.long;
  last = is.last;
  clashes = is.clashes;
  by = tt;
}

pub matrix_shorts : (s u : State) (shorts : List Short) (named : List (Option Naming)) (event : ParityEvent) → Reports s event u → AreShortsOf s shorts named ByMatrix → AreShortsOf u shorts named ByMatrix
matrix_shorts s u shorts named Quiet is are = subst (λ (q : State). AreShortsOf q shorts named ByMatrix) (sym is.0) (shorts_renamed s shorts named s.named Calm refl are)
matrix_shorts s u shorts named (Implied l row) (n, lt, now, same, new, says) are =
    subst (λ (q : State). AreShortsOf q shorts named ByMatrix) (sym now) (shorts_renamed s shorts named (set s.named row (Some n)) Busy (length-set s.named row (Some n)) are)
matrix_shorts s u shorts named (Conflict row) (n, lt, now, same, new, says) are =
    subst (λ (q : State). AreShortsOf q shorts named ByMatrix) (sym now) (shorts_renamed s shorts named (set s.named row (Some n)) Broken (length-set s.named row (Some n)) are)

pub by_matrix : (s : State) (shorts : List Short) (named : List (Option Naming)) (told : Told) → ((p : ℕ) → told ≡ ByUnmet p → ⊥) → AreShortsOf s shorts named told → AreShortsOf s shorts named ByMatrix
by_matrix s shorts named ByMatrix other is = is
by_matrix s shorts named ByUnit other is = record {
  each = is.each;
  few = is.few;
  long = is.long;
  last = is.last;
  clashes = λ p m at on. absurd (is.clashes p m at on).0;
  by = tt;
}
by_matrix s shorts named (ByUnmet p) other is = absurd (other p refl)

-- ---- events of a short parity
abbrev name_of : State → List Short → ℕ → Bool → Named
name_of s shorts p c = record { level = s.level; in_conflict = c; form = short_form s.parities (short_at shorts p); sources = (short_at shorts p).number ∷ [] }

short_here : (s : State) (shorts : List Short) (p : ℕ) → AllByRecursion (IsShort s.vars s.parities) shorts → p < length shorts → IsShort s.vars s.parities (short_at shorts p)
short_here s shorts p each lt = every-at (IsShort s.vars s.parities) shorts p no_short each lt

-- the name of a short parity, after those of the rows
name_read : (s : State) (shorts : List Short) (named : List (Option Naming)) (told : Told) (p : ℕ) → length named ≡ length shorts
    → named_at (with_shorts s shorts named told) (length s.named + p) ≡ short_name s.parities (get_or named p None) (short_at shorts p)
name_read s shorts named told p long =
    get_or-append-add s.named (short_names s.parities shorts named) p (let o : Option Named = None in o) ∙ short-at s.parities shorts named p long

module _ (s : State) (shorts : List Short) (named : List (Option Naming)) (is : AreShortsOf s shorts named ByMatrix) (p : ℕ) (free : IsFree s shorts named p) (c : Bool) where
  place_in : (t : Told) → length s.named + p < length (with_shorts s shorts named t).named
  place_in t =
      let lt = free.0 in
      let e = is.long in
      omega (arith, length-append s.named (short_names s.parities shorts named), length-shorts s.parities shorts named is.long)

  place_named : (t told : Told) (mood : Mood) → mood_after told s.mood ≡ mood
      → with_shorts s shorts (set named p (Some (naming_of s c))) told ≡ names (with_shorts s shorts named t) (length s.named + p) (name_of s shorts p c) mood
  place_named t told mood e =
      let n : Option Named = Some (name_of s shorts p c) in
      let less : length s.named + p - length s.named ≡ p = omega arith in
      (λ i. renamed s (s.named ++ short-set s.parities shorts named p (Some (naming_of s c)) is.long free.0 i) (e i))
      ∙ ap (λ ns. renamed s ns mood)
      (ap (λ q. s.named ++ set (short_names s.parities shorts named) q n) (sym less)
      ∙ sym (set-append_right s.named (short_names s.parities shorts named) (length s.named) (length s.named + p) n refl (omega arith)))

  place_same : (t : Told) → IsSameNamed (named_at (with_shorts s shorts named t) (length s.named + p)) (name_of s shorts p c)
  place_same t = subst (λ o. IsSameNamed o (name_of s shorts p c)) (sym (name_read s shorts named t p is.long)) (cases (get_or named p None) refl)
    where
      cases : (o : Option Naming) → get_or named p None ≡ o → IsSameNamed (short_name s.parities o (short_at shorts p)) (name_of s shorts p c)
      cases None e = tt
      cases (Some m) e = (refl, refl, sym (free.2 m e))

  place_now : (t : Told) → IsNamedNow (with_shorts s shorts named t) (name_of s shorts p c) c
  place_now t =
      let short = short_here s shorts p is.each free.0 in
      let low = short.low in
      record {
        level_is = refl;
        kind_is = refl;
        numbers = (low, short.high, tt);
        sums = one_sum s.parities (short_at shorts p).number;
      }

  -- the names and what is known of them
  named_at_place : get_or (set named p (Some (naming_of s c))) p None ≡ Some (naming_of s c)
  named_at_place = let lt = free.0 in let e = is.long in get_or-set_same named p (Some (naming_of s c)) None (omega arith)

  last_named : AreNamedBy s.level (set named p (Some (naming_of s c)))
  last_named r m at =
      elim (cases_eq r p) [
        | inl e ↦
            let same : naming_of s c ≡ m = same_Some (naming_of s c) m (sym named_at_place ∙ ap (λ q. get_or (set named p (Some (naming_of s c))) q None) (sym e) ∙ at) in
            let level : s.level ≡ m.level = ap (λ (q : Naming). q.level) same in
            omega arith
        | inr ne ↦ is.last r m (sym (get_or-set_other named p r (Some (naming_of s c)) None ne) ∙ at)
      ]

  clashes_named : (told : Told) → (c ≡ true → IsToldBy p told) → (r : ℕ) (m : Naming) → get_or (set named p (Some (naming_of s c))) r None ≡ Some m → m.in_conflict ≡ true
      → IsToldBy r told × (m.level ≡ s.level)
  clashes_named told by r m at on =
      elim (cases_eq r p) [
        | inl e ↦
            let same : naming_of s c ≡ m = same_Some (naming_of s c) m (sym named_at_place ∙ ap (λ q. get_or (set named p (Some (naming_of s c))) q None) (sym e) ∙ at) in
            (subst (λ q. IsToldBy q told) (sym e) (by (ap (λ (q : Naming). q.in_conflict) same ∙ on)), sym (ap (λ (q : Naming). q.level) same))
        | inr ne ↦ absurd (is.clashes r m (sym (get_or-set_other named p r (Some (naming_of s c)) None ne) ∙ at) on).0
      ]

  shorts_named : (told : Told) → (c ≡ true → IsToldBy p told) → IsTold s shorts (set named p (Some (naming_of s c))) told → AreShortsOf s shorts (set named p (Some (naming_of s c))) told
  shorts_named told by known = record {
    each = is.each;
    few = is.few;
    long = length-set named p (Some (naming_of s c)) ∙ is.long;
    last = last_named;
    clashes = clashes_named told by;
    by = known;
  }

module _ (s : State) (shorts : List Short) (named : List (Option Naming)) (is : AreShortsOf s shorts named ByMatrix) (p : ℕ) where
  pub unit_reports : (l : Literal) → IsFoundShort s shorts named (Implication p l) → (t : Told)
      → Reports (with_shorts s shorts named t) (Implied l (length s.named + p)) (with_shorts s shorts (set named p (Some (naming_of s false))) ByUnit)
  unit_reports l found t = (
    name_of s shorts p false,
    place_in s shorts named is p found.0 false t,
    place_named s shorts named is p found.0 false t ByUnit Busy refl,
    place_same s shorts named is p found.0 false t,
    place_now s shorts named is p found.0 false t,
    implied s (s.named ++ short_names s.parities shorts named) (mood_after t s.mood) l (name_of s shorts p false)
        (short_implied s (short_at shorts p) (short_here s shorts p is.each found.0.0) l found.1),
  )

  pub unit_shorts : (l : Literal) → IsFoundShort s shorts named (Implication p l) → AreShortsOf s shorts (set named p (Some (naming_of s false))) ByUnit
  unit_shorts l found = shorts_named s shorts named is p found.0 false ByUnit (λ e. absurd (true≢false (sym e))) found.0.1

  pub unmet_reports : IsFoundShort s shorts named (Contradiction p) → (t : Told)
      → Reports (with_shorts s shorts named t) (Conflict (length s.named + p)) (with_shorts s shorts (set named p (Some (naming_of s true))) (ByUnmet p))
  unmet_reports found t = (
    name_of s shorts p true,
    place_in s shorts named is p found.0 true t,
    place_named s shorts named is p found.0 true t (ByUnmet p) Broken refl,
    place_same s shorts named is p found.0 true t,
    place_now s shorts named is p found.0 true t,
    broken s (s.named ++ short_names s.parities shorts named) (mood_after t s.mood) (name_of s shorts p true)
        (short_broken s (short_at shorts p) (short_here s shorts p is.each found.0.0) found.1),
  )

  pub unmet_shorts : IsFoundShort s shorts named (Contradiction p) → AreShortsOf s shorts (set named p (Some (naming_of s true))) (ByUnmet p)
  unmet_shorts found =
      shorts_named s shorts named is p found.0 true (ByUnmet p) (λ e. refl)
      (found.0.0, named_at_place s shorts named is p found.0 true, short_broken s (short_at shorts p) (short_here s shorts p is.each found.0.0) found.1)

-- the contradiction again
pub again : (s : State) (shorts : List Short) (named : List (Option Naming)) (p : ℕ) → AreShortsOf s shorts named (ByUnmet p)
    → Reports (with_shorts s shorts named (ByUnmet p)) (Conflict (length s.named + p)) (with_shorts s shorts named (ByUnmet p))
again s shorts named p is =
    let known = is.by in
    let read : named_at (with_shorts s shorts named (ByUnmet p)) (length s.named + p) ≡ Some (name_of s shorts p true) =
    name_read s shorts named (ByUnmet p) p is.long ∙ ap (λ o. short_name s.parities o (short_at shorts p)) known.1 in
    let short = short_here s shorts p is.each known.0 in
    let ns : List (Option Named) = s.named ++ short_names s.parities shorts named in
    let lt = known.0 in
    let e = is.long in
    let inside : length s.named + p < length ns = omega (arith, length-append s.named (short_names s.parities shorts named), length-shorts s.parities shorts named is.long) in (
      name_of s shorts p true,
      inside,
      ap (λ xs. renamed s xs Broken) (sym (set_same ns (length s.named + p) (Some (name_of s shorts p true)) None inside read)),
      subst (λ o. IsSameNamed o (name_of s shorts p true)) (sym read) (refl, refl, refl),
      (let low = short.low in record { level_is = refl; kind_is = refl; numbers = (low, short.high, tt); sums = one_sum s.parities (short_at shorts p).number }),
      broken s ns Broken (name_of s shorts p true) known.2,
    )

-- ---- looks at named rows
module _ (s : State) (shorts : List Short) (named : List (Option Naming)) (told : Told) (is : AreShortsOf s shorts named told) (row : ℕ) where
  pub row_before : row < length s.named → named_at (with_shorts s shorts named told) row ≡ named_at s row
  row_before lt = get_or_append_left s.named (short_names s.parities shorts named) None row lt

  pub row_after : length s.named ≤ row → named_at (with_shorts s shorts named told) row ≡ short_name s.parities (get_or named (row - length s.named) None) (short_at shorts (row - length s.named))
  row_after le =
      let e : row ≡ length s.named + (row - length s.named) = omega arith in
      ap (named_at (with_shorts s shorts named told)) e ∙ name_read s shorts named told (row - length s.named) is.long

  pub row_within : IsSome (named_at (with_shorts s shorts named told) row) → length s.named ≤ row → row - length s.named < length shorts
  row_within some le =
      elim (cases_lt row (length (with_shorts s shorts named told).named)) [
        | inl lt ↦ let e = is.long in omega (arith, length-append s.named (short_names s.parities shorts named), length-shorts s.parities shorts named is.long)
        | inr ge ↦ absurd (true≢false (sym some ∙ ap is_some (get_or-eq_default (with_shorts s shorts named told).named None ge)))
      ]

  pub row_short : (n : Named) → named_at (with_shorts s shorts named told) row ≡ Some n → length s.named ≤ row
      → (n.form ≡ short_form s.parities (short_at shorts (row - length s.named))) × (n.sources ≡ (short_at shorts (row - length s.named)).number ∷ [])
  row_short n at le = cases (get_or named (row - length s.named) None) (sym (row_after le) ∙ at)
    where
      cases : (o : Option Naming) → short_name s.parities o (short_at shorts (row - length s.named)) ≡ Some n
          → (n.form ≡ short_form s.parities (short_at shorts (row - length s.named))) × (n.sources ≡ (short_at shorts (row - length s.named)).number ∷ [])
      cases None e = let clash : None ≡ Some n = e in cc
      cases (Some m) e =
          let w : Named = record { level = m.level; in_conflict = m.in_conflict; form = short_form s.parities (short_at shorts (row - length s.named)); sources = (short_at shorts (row - length s.named)).number ∷ [] } in
          let same : w ≡ n = same_Some w n e in
          (sym (ap (λ (q : Named). q.form) same), sym (ap (λ (q : Named). q.sources) same))

  pub row_is_short : IsSome (named_at (with_shorts s shorts named told) row) → length s.named ≤ row → IsShort s.vars s.parities (short_at shorts (row - length s.named))
  row_is_short some le = short_here s shorts (row - length s.named) is.each (row_within some le)

  pub row_written : (n : Named) (p : List Literal) → named_at (with_shorts s shorts named told) row ≡ Some n → length s.named ≤ row → p ≡ (short_at shorts (row - length s.named)).lits → IsWritten n.form p
  row_written n p at le e =
      let short = row_is_short (ap is_some at) le in
      subst (λ f. IsWritten f p) (sym (row_short n at le).0) (subst (IsWritten (short_form s.parities (short_at shorts (row - length s.named)))) (sym e) short.written)

  pub row_numbers : (n : Named) (k : List ℕ) → named_at (with_shorts s shorts named told) row ≡ Some n → length s.named ≤ row → k ≡ (short_at shorts (row - length s.named)).number ∷ []
      → (k ≡ n.sources) × AreRising 1 (length s.parities) k × (n.form ≡ sum_of_numbers s.parities k)
  row_numbers n k at le e =
      let short = row_is_short (ap is_some at) le in
      let low = short.low in
      let known = row_short n at le in (
        e ∙ sym known.1,
        subst (AreRising 1 (length s.parities)) (sym e) (low, short.high, tt),
        known.0 ∙ one_sum s.parities (short_at shorts (row - length s.named)).number ∙ ap (sum_of_numbers s.parities) (sym e),
      )
