-- A run ends with 2 just where its words ask for no plan.
use Rattle.std.proofs.Common.{◌≡◌, ◌≢◌, ◌⊎◌, ℕ, List, inl, inr, refl}
use Rattle.cx_base.specs.ExactlyOne.{ExactlyOne}
use Rattle.cx_desk.specs.Outside.{Bytes}
use Rattle.cx_words.specs.Words.{Asks, Refuses}
use Rattle.cx_words.specs.declared.plans.Plan.{Plan}
use Rattle.cx_words.proofs.PlanLaws.{not_refused, one_plan, refused_or_asked}
use Rattle.solve_cli.specs.declared.ending.Status.{Status}
use Rattle.solve_cli.specs.declared.ending.Status.TheVariants as status
use Rattle.solve_cli.specs.Seen.{Seen}
use Rattle.solve_cli.specs.Run.{Run}
use Rattle.solve_cli.specs.NoPlan.{AsksNothing, EndsAsUsage, HasAsked}

pub ends_as_usage : EndsAsUsage
ends_as_usage words limit old new s run nothing = by (refused_or_asked words)
  where
    by : Refuses words ⊎ ((p : Plan) × Asks words p) → (s ≡ status.OutOfMemory) ⊎ (s ≡ status.Usage)
    by (inl refused) = run.refused_words_end refused
    by (inr (p, asked)) = absurd (nothing p asked)

pub usage_asks_nothing : (words : List Bytes) (limit : ℕ) (old new : Seen) → Run words limit old status.Usage new → AsksNothing words
usage_asks_nothing words limit old new run p asked = not_refused words p asked (run.words_are_refused refl)

pub has_asked : HasAsked
has_asked words limit old new s run had_memory taken = by (refused_or_asked words)
  where
    ends : (s ≡ status.OutOfMemory) ⊎ (s ≡ status.Usage) → ExactlyOne (Asks words)
    ends (inl memory) = absurd (had_memory memory)
    ends (inr usage) = absurd (taken usage)

    by : Refuses words ⊎ ((p : Plan) × Asks words p) → ExactlyOne (Asks words)
    by (inl refused) = ends (run.refused_words_end refused)
    by (inr (p, asked)) = (p, asked, λ q also. one_plan words q p also asked)
