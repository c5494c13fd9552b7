-- Events are marked by one number, and go on with one more that fits.
use Rattle.std.proofs.Common.{◌≡◌, sym, ap, ◌∙◌, subst, ℕ, List, [], ◌∷◌, ◌++◌, length}
use Rattle.std.proofs.lemmas.List.FromFn.{length-range_with_len}
use Rattle.cx_base.specs.Problem.{Problem}
use Rattle.cx_base.specs.declared.steps.LogEvent.{LogEvent}
use Rattle.cx_semantics.specs.Marked.{Marked, Moment, EventsFit, EventFits, after_event}

pub marks_are_counted : (formula : Problem) (events : List LogEvent) (m n : ℕ) → Marked formula events m → Marked formula events n → m ≡ n
marks_are_counted formula events m n a b = sym (length-range_with_len 1 m) ∙ ap length (sym a.marks ∙ b.marks) ∙ length-range_with_len 1 n

pub events_go_on : (formula : Problem) (first last : Moment) (events : List LogEvent) (event : LogEvent) → EventsFit formula first events last → EventFits formula last event → EventsFit formula first (events ++ event ∷ []) (after_event last event)
events_go_on formula first last [] event h k = (subst (λ m. EventFits formula m event) h k, ap (λ m. after_event m event) h)
events_go_on formula first last (e ∷ events) event h k = (h.0, events_go_on formula (after_event first e) last events event h.1 k)
