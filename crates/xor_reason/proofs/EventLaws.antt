-- The rows that an engine names are reasons on a trail that its values come from.
use Rattle.std.proofs.Common.{◌≡◌, ℕ, ◌-◌, ◌<◌, ◌≤◌, length, Bool, true, false, not, ◌&&◌, List, [], ◌∷◌, Option, Some, None, refl, sym, ap, ◌∙◌, subst, arith, inl, inr, true≢false}
use Rattle.std.specs.List.{list_all}
use Rattle.std.proofs.lemmas.Bool.{cases_eq}
use Rattle.std.proofs.lemmas.List.{get_or-set_same}
use Rattle.std.proofs.lemmas.Option.{same_Some}
use Rattle.cx_base.specs.Literals.{Literal, literal_true}
use Rattle.cx_semantics.specs.Chain.{has_literal}
use Rattle.cx_semantics.proofs.Members.{has_at_head, has_behind}
use Rattle.cx_trail.specs.declared.entry.Entry.{Entry}
use Rattle.cx_trail.specs.declared.entry.Reason.{Reason}
use Rattle.cx_trail.specs.Sequence.{TrailState, IsTrueIn, IsAssignedIn, pushed}
use Rattle.cx_trail.proofs.ValueLaws.{true_kept, true_pushed}
use Rattle.parity_engine.specs.declared.state.Held.{Held}
use Rattle.parity_engine.specs.declared.state.Mood.{Mood}
use Rattle.parity_engine.specs.declared.state.Mood.TheVariants.{Busy, Broken}
use Rattle.parity_engine.specs.declared.event.ParityEvent.TheVariants.{Implied, Conflict}
use Rattle.parity_engine.specs.State.{State, Named, Reports, names, named_at, known, held_at, is_unassigned, AgreesWith}
use Rattle.parity_engine.proofs.Known.{has_known}
use Rattle.xor_reason.specs.ReasonClause.{AgreesWithTrail, AreAssigned, IsReasonFor}
use Rattle.xor_reason.specs.Laws.{StandsOn, ImpliedIsMet, BrokenIsMissed}

all_true : (v : List Bool) (lits : List Literal) → ((l : Literal) → has_literal lits l ≡ true → literal_true v l ≡ true) → list_all (literal_true v) lits ≡ true
all_true v [] each = refl
all_true v (l ∷ lits) each = ap (λ b. b && list_all (literal_true v) lits) (each l (has_at_head l lits)) ∙ all_true v lits (λ m h. each m (has_behind l lits m h))

agrees_with_known : (s : State) (trail : TrailState) (v : List Bool) → StandsOn s trail → AgreesWithTrail trail v → AgreesWith (known s) v
agrees_with_known s trail v stands agrees = all_true v (known s) (λ l h. agrees l (stands l h))

assigned_by : (entries : List Entry) (l : Literal) → IsTrueIn entries l → IsAssignedIn entries l.variable
assigned_by entries l is = (is.0, is.1.0, ap (λ (x : Literal). x.variable) is.1.1)

some_held : (o : Option Held) → is_unassigned o ≡ false → (h : Held) × (o ≡ Some h)
some_held None e = absurd (true≢false e)
some_held (Some h) e = (h, refl)

held_is_assigned : (s : State) (trail : TrailState) (v : ℕ) → StandsOn s trail → 1 ≤ v → is_unassigned (held_at s.values v) ≡ false → IsAssignedIn trail.entries v
held_is_assigned s trail v stands low held =
    let some = some_held (held_at s.values v) held in
    let l : Literal = record { variable = v; negative = not some.0.value } in
    assigned_by trail.entries l (stands l (has_known 1 s.values (v - 1) some.0 l some.1 (omega arith) refl))

pub implied_is_met : ImpliedIsMet
implied_is_met s trail l form stands is implied = (
  λ v low has. elim (cases_eq v l.variable) [
    | inl e ↦ subst (IsAssignedIn trail.entries) (sym e) (assigned_by trail.entries l is)
    | inr ne ↦ held_is_assigned s trail v stands low (implied.others v ne has)
  ],
  record {
    is_true = is;
    has = implied.has;
    met = λ v agrees. implied.met v (agrees_with_known s trail v stands agrees) (agrees l is);
  },
)

pub broken_is_missed : BrokenIsMissed
broken_is_missed s trail form stands broken = (
  λ v low has. held_is_assigned s trail v stands low (broken.whole v has),
  λ v agrees. broken.unmet v (agrees_with_known s trail v stands agrees),
)

-- ---- the trail that an implied literal is put on

named_is : (old new : State) (row : ℕ) (m n : Named) (mood : Mood) → row < length old.named → new ≡ names old row m mood → named_at new row ≡ Some n → m ≡ n
named_is old new row m n mood lt left is =
    same_Some m n (sym (get_or-set_same old.named row (Some m) None lt) ∙ ap (λ (s : State). named_at s row) (sym left) ∙ is)

-- an implied literal's row is a reason for it on the trail with the literal at its end
pub implied_on_pushed : (old new : State) (row : ℕ) (l : Literal) (n : Named) (trail : TrailState) (level : ℕ) (reason : Reason) → StandsOn old trail → Reports old (Implied l row) new → named_at new row ≡ Some n
    → AreAssigned (pushed trail level l reason) n.form × IsReasonFor (pushed trail level l reason) (Some l) n.form
implied_on_pushed old new row l n trail level reason stands answers is =
    let e : Entry = record { literal = l; level = level; reason = reason } in
    let same : answers.0 ≡ n = named_is old new row answers.0 n Busy answers.1 answers.2 is in
    subst (λ (m : Named). AreAssigned (pushed trail level l reason) m.form × IsReasonFor (pushed trail level l reason) (Some l) m.form) same
    (implied_is_met old (pushed trail level l reason) l answers.0.form (λ m h. true_kept trail.entries (e ∷ []) m (stands m h)) (true_pushed trail (pushed trail level l reason) level l reason refl) answers.5)

pub conflict_on_trail : (old new : State) (row : ℕ) (n : Named) (trail : TrailState) → StandsOn old trail → Reports old (Conflict row) new → named_at new row ≡ Some n
    → AreAssigned trail n.form × IsReasonFor trail None n.form
conflict_on_trail old new row n trail stands answers is =
    subst (λ (m : Named). AreAssigned trail m.form × IsReasonFor trail None m.form) (named_is old new row answers.0 n Broken answers.1 answers.2 is)
    (broken_is_missed old trail answers.0.form stands answers.5)
