-- A search whose scores were raised before it begins.
use Rattle.std.proofs.Common.{◌≡◌, ◌-◌, ◌∙◌, List, [], Option, false, length, get_or, ap}
use Rattle.cx_base.specs.Problem.{Problem}
use Rattle.cx_base.specs.declared.steps.LogEvent.{LogEvent}
use Rattle.parity_engine.specs.State.{State}
use Rattle.search_policy.specs.Standing.{OrderState}
use Rattle.cdcl_search.specs.declared.state.SearchState.{SearchState}
use Rattle.cdcl_search.specs.Ties.{SearchStands}

-- what a search holds does not speak of scores, but for their number
pub order_raised : (formula : Problem) (c : SearchState) (e : State) (told : Option (List LogEvent)) → SearchStands formula c e [] told
    → (o : OrderState) → o.standing ≡ c.order.standing → length o.scores ≡ length c.order.scores → SearchStands formula (record c { order = o }) e [] told
order_raised formula c e told stands o standing scores =
    let ties = stands.3 in
    let t = ties.trail in (
      stands.0,
      stands.1,
      stands.2,
      record {
        log = ties.log;
        clauses = ties.clauses;
        learned = ties.learned;
        trail = record {
          follows = t.follows;
          variables = t.variables;
          stand = record { variables = scores ∙ t.stand.variables; stand = λ v low high is_open. ap (λ b. get_or b (v - 1) false) standing ∙ t.stand.stand v low high is_open };
          phased = t.phased;
        };
        units = ties.units;
        engine = ties.engine;
        reasons = ties.reasons;
        counts = ties.counts;
        ids = ties.ids;
        levels = ties.levels;
      },
      stands.4,
    )
