-- An engine's state as a stored value.
use Rattle.std.specs.Prelude.{◌≡◌, ℕ, Bool, List, Option, cond, nat_eq, refl}
use Rattle.std.specs.Coded.{Coded, code_by, coded×, coded_ℕ, coded_bool, coded_list, coded_option}
use Rattle.cx_base.specs.Literals.{Literal}
use Rattle.cx_base.specs.Parity.{NormalForm, form_code}
use Rattle.cx_semantics.specs.Tables.{literal_code}
use Rattle.parity_engine.specs.declared.state.Held.{Held}
use Rattle.parity_engine.specs.declared.state.Mood.{Mood}
use Rattle.parity_engine.specs.declared.state.Mood.TheVariants.{Busy, Calm, Broken}
use Rattle.parity_engine.specs.State.{Named, State}

abbrev pub held_code : Coded Held
held_code = code_by (Bool × ℕ) (coded× coded_bool coded_ℕ) (λ h. (h.value, h.level)) (λ p. record { value = p.0; level = p.1 }) (λ _. refl)

abbrev pub mood_number : Mood → ℕ
mood_number Busy = 0
mood_number Calm = 1
mood_number Broken = 2

abbrev pub mood_of : ℕ → Mood
mood_of n = cond (nat_eq n 0) Busy (cond (nat_eq n 1) Calm Broken)

abbrev pub mood_back : (m : Mood) → mood_of (mood_number m) ≡ m
mood_back Busy = refl
mood_back Calm = refl
mood_back Broken = refl

abbrev pub mood_code : Coded Mood
mood_code = code_by ℕ coded_ℕ mood_number mood_of mood_back

abbrev pub named_code : Coded Named
named_code =
    code_by (ℕ × (Bool × (NormalForm × List ℕ))) (coded× coded_ℕ (coded× coded_bool (coded× form_code (coded_list coded_ℕ))))
    (λ n. (n.level, (n.in_conflict, (n.form, n.sources))))
    (λ p. record { level = p.0; in_conflict = p.1.0; form = p.1.1.0; sources = p.1.1.1 }) (λ _. refl)

abbrev pub state_code : Coded State
state_code =
    code_by (ℕ × (List (List Literal) × (ℕ × (List (Option Held) × (List (Option Named) × Mood)))))
    (coded× coded_ℕ (coded× (coded_list (coded_list literal_code)) (coded× coded_ℕ (coded× (coded_list (coded_option held_code)) (coded× (coded_list (coded_option named_code)) mood_code)))))
    (λ s. (s.vars, (s.parities, (s.level, (s.values, (s.named, s.mood))))))
    (λ p. record { vars = p.0; parities = p.1.0; level = p.1.1.0; values = p.1.1.1.0; named = p.1.1.1.1.0; mood = p.1.1.1.1.1 }) (λ _. refl)
