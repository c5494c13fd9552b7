use Rattle.std.proofs.Common.{◌≤◌, ◌/◌, subst}
use Rattle.std.proofs.lemmas.Bool.{leb-true, le-leb}
use Rattle.search_policy.specs.Restarts.{IsDue}
use Rattle.search_policy.proofs.LubyLaws.{one_number}
use Rattle.search_policy.proofs.restart.restart_due.Goals as goal

pub returns : goal.returns
returns c = (λ h. (c.luby.result, c.luby.ensures, leb-true _ _ h), λ (d : IsDue c.args.since c.args.i). le-leb _ _ (subst (λ v. v ≤ c.args.since / 100) (one_number d.1 c.luby.ensures) d.2))
