-- The steps of an engine with copies of its named rows.
use Rattle.std.proofs.Common.{◌≡◌, ◌≢◌, ℕ, ◌+◌, ◌-◌, ◌<◌, ◌≤◌, Bool, true, false, cond, not, ◌&&◌, nat_le, List, [], ◌∷◌, map, length, get_or, set, Option, Some, None, refl, sym, ap, ◌∙◌, subst, arith}
use Rattle.std.proofs.Math.ListN.{length-set}
use Rattle.std.proofs.lemmas.List.{length-map, ext_get_or, get_or-map}
use Rattle.gf2_rows.specs.Bits.{bit_of}
use Rattle.gf2_matrix.specs.Content.{Content, SourcedRow, form, source_numbers}
use Rattle.gf2_matrix.proofs.Updates.{changed_more, left_more}
use Rattle.gauss_jordan.specs.declared.slot.RowSlot.{RowSlot}
use Rattle.parity_engine.specs.declared.state.Naming.{Naming}
use Rattle.parity_engine.specs.declared.state.Held.{Held}
use Rattle.parity_engine.specs.declared.state.Mood.{Mood}
use Rattle.parity_engine.specs.declared.state.Mood.TheVariants.{Busy, Calm, Broken}
use Rattle.parity_engine.specs.State.{Named, keep, keep_named, is_unassigned}
use Rattle.parity_engine.proofs.Known.{none_is}
use Rattle.gauss_jordan.specs.Right.{IsRightState}
use Rattle.parity_engine.specs.Namings.{keep_naming}
use Rattle.gauss_jordan.specs.Slots.{first_bits, row_of, named_as, named_of, state_of, IsKeptSlot, AreKept, IsScratch}
use Rattle.gauss_jordan.proofs.Kept.{right_pushed, right_assigned, right_back}

-- ---- loops
pub record HeldSoFar (level : ℕ) (old new : List (Option Held)) (n : ℕ) : Type 0 where
  pub long : length new ≡ length old
  pub done : (k : ℕ) (d : Option Held) → k < n → get_or new k d ≡ keep level (get_or old k d)
  pub left : (k : ℕ) (d : Option Held) → n ≤ k → get_or new k d ≡ get_or old k d

pub held_none : (level : ℕ) (held : List (Option Held)) → HeldSoFar level held held 0
held_none level held = record { long = refl; done = λ k d lt. absurd (omega arith); left = λ k d ge. refl }

pub held_more : (level : ℕ) (old new : List (Option Held)) (k : ℕ) (e v : Option Held) → HeldSoFar level old new k → k < length old → v ≡ keep level (get_or new k e)
    → HeldSoFar level old (set new k v) (k + 1)
held_more level old new k e v before lt is =
    let within : k < length new = let h = before.long in omega arith in
    record {
      long = length-set new k v ∙ before.long;
      done = changed_more (λ _ o w. w ≡ keep level o) old new k e v within before.left before.done is;
      left = left_more old new k v before.left;
    }

pub held_all : (level : ℕ) (old new : List (Option Held)) (n : ℕ) → HeldSoFar level old new n → length old ≤ n → new ≡ map (keep level) old
held_all level old new n so_far all =
    ext_get_or None new (map (keep level) old) (so_far.long ∙ sym (length-map old (keep level)))
    (λ k lt. let small : k < length old = let h = so_far.long in omega arith in so_far.done k None (omega arith) ∙ sym (get_or-map (keep level) old k None None small))

pub slots_none : (level : ℕ) (slots : List RowSlot) → AreKept level slots slots 0
slots_none level slots = record { long = refl; done = λ k d lt. absurd (omega arith); left = λ k d ge. refl }

pub slots_more : (level : ℕ) (old new : List RowSlot) (k : ℕ) (e v : RowSlot) → AreKept level old new k → k < length old → IsKeptSlot level (get_or new k e) v → AreKept level old (set new k v) (k + 1)
slots_more level old new k e v before lt is =
    let within : k < length new = let h = before.long in omega arith in
    record {
      long = length-set new k v ∙ before.long;
      done = changed_more (λ _ o w. IsKeptSlot level o w) old new k e v within before.left before.done is;
      left = left_more old new k v before.left;
    }

-- ---- the state
-- the row of a slot rests on its words alone
row-kept : (c : Content) (level : ℕ) (old new : RowSlot) → IsKeptSlot level old new → row_of c new ≡ row_of c old
row-kept c level old new kept = λ i. record { terms = first_bits c.vars (kept.terms i); right = kept.right i; sources = first_bits (length c.given) (kept.sources i) }

same_row : (c : Content) (level : ℕ) (old new : RowSlot) → IsKeptSlot level old new → (m : Option Naming) → named_as c new m ≡ named_as c old m
same_row c level old new kept None = refl
same_row c level old new kept (Some m) =
    ap (λ (r : SourcedRow). let o : Option Named = Some (record { level = m.level; in_conflict = m.in_conflict; form = form r; sources = source_numbers r }) in o) (row-kept c level old new kept)

naming-cases : (c : Content) (slot : RowSlot) (m : Naming) (b : Bool) → named_as c slot (cond b (Some m) None) ≡ cond b (named_as c slot (Some m)) None
naming-cases c slot m true = refl
naming-cases c slot m false = refl

naming-kept : (c : Content) (level : ℕ) (slot : RowSlot) (o : Option Naming) → named_as c slot (keep_naming level o) ≡ keep_named level (named_as c slot o)
naming-kept c level slot None = refl
naming-kept c level slot (Some m) = naming-cases c slot m (not m.in_conflict && nat_le m.level level)

first : (slots : List RowSlot) (k : ℕ) → k < length slots → RowSlot
first [] k lt = absurd (omega arith)
first (s ∷ ss) k lt = s

named-kept : (c : Content) (level : ℕ) (old new : RowSlot) → IsKeptSlot level old new → named_of c new ≡ keep_named level (named_of c old)
named-kept c level old new kept =
    ap (named_as c new) kept.naming
    ∙ same_row c level old new kept (keep_naming level old.naming)
    ∙ naming-kept c level old old.naming

pub states_back : (c : Content) (level now : ℕ) (held : List (Option Held)) (old new : List RowSlot) (mood : Mood) → AreKept level old new (length old)
    → map (named_of c) new ≡ map (keep_named level) (map (named_of c) old)
states_back c level now held old new mood kept =
    ext_get_or None (map (named_of c) new) (map (keep_named level) (map (named_of c) old))
    (length-map new (named_of c) ∙ kept.long ∙ sym (length-map (map (named_of c) old) (keep_named level) ∙ length-map old (named_of c)))
    (λ k lt.
    let small : k < length old = let h = kept.long in omega (arith, length-map new (named_of c)) in
    let d : RowSlot = get_or old k (first old k small) in
    get_or-map (named_of c) new k d None (let h = kept.long in omega arith)
    ∙ named-kept c level (get_or old k d) (get_or new k d) (kept.done k d small)
    ∙ ap (keep_named level) (sym (get_or-map (named_of c) old k d None small))
    ∙ sym (get_or-map (keep_named level) (map (named_of c) old) k None None (omega (arith, length-map old (named_of c)))))

module _ (c : Content) (level : ℕ) (held : List (Option Held)) (masks truths : List ℕ) (slots : List RowSlot) (mood : Mood)
    (is : IsScratch c level held masks truths slots mood) where
  pub scratch_pushed : mood ≡ Calm → IsScratch c (level + 1) held masks truths slots mood
  scratch_pushed calm = record {
    of_given = is.of_given;
    few = is.few;
    few_given = is.few_given;
    right = right_pushed c.columns (state_of c level held slots mood) is.right calm;
    assigned_long = is.assigned_long;
    truths_long = is.truths_long;
    fits = is.fits;
  }

  pub scratch_assigned : (v : ℕ) (b : Bool) → 1 ≤ v → v ≤ c.vars → is_unassigned (get_or held (v - 1) None) ≡ true → mood ≢ Broken
      → IsScratch c level (set held (v - 1) (Some (record { value = b; level = level }))) masks truths slots Busy
  scratch_assigned v b low high free whole = record {
    of_given = is.of_given;
    few = is.few;
    few_given = is.few_given;
    right = right_assigned c.columns (state_of c level held slots mood) v b is.right low high (none_is (get_or held (v - 1) None) free) whole;
    assigned_long = is.assigned_long;
    truths_long = is.truths_long;
    fits = is.fits;
  }

  pub scratch_back : (l : ℕ) (new : List RowSlot) → l < level → AreKept l slots new (length slots) → IsScratch c l (map (keep l) held) masks truths new Calm
  scratch_back l new lt kept = record {
    of_given = is.of_given;
    few = is.few;
    few_given = is.few_given;
    right =
        subst (λ named. IsRightState c.columns (record { vars = c.vars; parities = c.given; level = l; values = map (keep l) held; named = named; mood = Calm }))
        (sym (states_back c l level held slots new mood kept)) (right_back c.columns (state_of c level held slots mood) l is.right lt);
    assigned_long = is.assigned_long;
    truths_long = is.truths_long;
    fits = λ k d small.
        let old : k < length slots = let h = kept.long in omega arith in
        let f = is.fits k d old in
        let kk = kept.done k d old in
        record {
          terms = ap length kk.terms ∙ f.terms;
          sources = ap length kk.sources ∙ f.sources;
          padded = λ j ge. ap (λ ws. bit_of ws j) kk.terms ∙ f.padded j ge;
        };
  }
