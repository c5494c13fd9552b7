use Rattle.std.proofs.Common.{◌≢◌, sym, ap, ◌∙◌, subst, eqb-true, length, [], ◌∷◌}
use Rattle.std.proofs.lemmas.Bool.{eqb-false}
use Rattle.watch_lists.specs.Attaching.{CanBeWatched}
use Rattle.cdcl_search.proofs.Outcomes.{on_ok}
use Rattle.cdcl_core.specs.Filling.{IsNext}
use Rattle.cdcl_core.proofs.FilledClauses.{tautology_taken, empty_taken, unit_taken, attached_taken, can_be_watched, only_one, none_at_all}
use Rattle.cdcl_core.proofs.filling.take_clause.Goals as goal

pub attach-requires-clause-watched : goal.attach-requires-clause-watched
attach-requires-clause-watched c =
    let formula = c.requires.is_next.0 in
    let is : IsNext formula c.args.filled.now c.args.lits.now = c.requires.is_next.1 in
    let variables = is.filled.watched.fits.variables ∙ ap (λ t. t.variables) is.filled.trail in
    subst (λ n. CanBeWatched n c.args.filled.now.state.trail c.args.lits.now) (sym variables)
    (can_be_watched formula.variables c.args.filled.now.state.trail c.args.lits.now (ap (λ t. t.entries) is.filled.trail) c.if-lits-gt1.true is.different (sym c.has_both.ensures ∙ c.if-has_both.false) is.within)

pub returns-then-has_both : goal.returns-then-has_both
returns-then-has_both c = λ formula is. tautology_taken formula c.args.filled.now c.args.lits.now is (sym c.has_both.ensures ∙ c.if-has_both.true)

pub returns-then-lits-gt1 : goal.returns-then-lits-gt1
returns-then-lits-gt1 c = on_ok _ c.attach.result c.attach.ensures
    (λ a formula is. attached_taken formula c.args.filled.now c.args.lits.now is c.attach.new.state a c.if-lits-gt1.true (sym c.has_both.ensures ∙ c.if-has_both.false))

pub returns-then-is_empty : goal.returns-then-is_empty
returns-then-is_empty c = λ formula is. empty_taken formula c.args.filled.now c.args.lits.now is
    (none_at_all c.args.lits.now (eqb-true (length c.args.lits.now) 0 (sym c.is_empty.ensures ∙ c.if-is_empty.true)))

pub returns : goal.returns
returns c = λ formula is.
    let some : length c.args.lits.now ≢ 0 = eqb-false (length c.args.lits.now) 0 (sym c.is_empty.ensures ∙ c.if-is_empty.false) in
    let one = only_one c.args.lits.now c.index-lits-0.result c.if-lits-gt1.false some ∙ ap (λ l. l ∷ []) (sym c.index-lits-0.is) in
    unit_taken formula c.args.filled.now c.args.lits.now is c.index-lits-0.result one c.push.new.self.items c.in_ok-push.ensures.items
