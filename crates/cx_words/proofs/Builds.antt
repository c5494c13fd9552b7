-- A command with one more argument, or with one more command.
use Rattle.std.proofs.Common.{◌≡◌, false, ◌||◌, ap, ◌∙◌}
use Rattle.clap.specs.Words.{App, AddsArg, AddsSubcommand, Rule, app_of, rule_of, shape_of, with_rule, with_subcommand}
use Rattle.clap.specs.declared.builder.Arg.{Arg}
use Rattle.clap.specs.declared.builder.Command.TheViews.{out-Command as fields_of}
use Rattle.clap.specs.declared.builder.Command.{Command}

pub adds : (old sub new : Command) (a s : App) → AddsSubcommand old sub new → app_of old ≡ a
    → (app_of sub ≡ s) × ((fields_of sub).has_globals ≡ false) → app_of new ≡ with_subcommand a s.top
adds old sub new a s h e f =
    h.shape f.1 ∙ ap (λ (x : App). with_subcommand x (shape_of sub)) e ∙ ap (λ (x : App). with_subcommand a x.top) f.0

abbrev pub IsMade : Command → App → Type 0
IsMade c a = (app_of c ≡ a) × ((fields_of c).has_globals ≡ false)

-- a command with one more argument, which is not global
pub takes : (old : Command) (arg : Arg) (new : Command) (a : App) (r : Rule) → AddsArg old arg new → IsMade old a
    → rule_of arg ≡ r → arg.global ≡ false → IsMade new (with_rule a r)
takes old arg new a r h made is local = (
  h.shape local ∙ ap (λ (x : App). with_rule x (rule_of arg)) made.0 ∙ ap (with_rule a) is,
  h.globals ∙ ap (λ b. b || arg.global) made.1 ∙ local,
)
