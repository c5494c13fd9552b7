use Rattle.std.proofs.Common.{◌≡◌, ℕ, Bool, false, sym, subst, rules}
use Rattle.cx_desk.specs.Outside.{Outside}
use Rattle.proof_text.specs.Told.{fault_of}
use Rattle.log_text.specs.Told.{events_told}
use Rattle.log_text.specs.Lines.{lines_told, GoesByLines}
use Rattle.log_text.specs.ToldLines.{goes_by_lines}
use Rattle.conflict_learn.specs.Faults.{CountsAs, fault_in}
use Rattle.cdcl_core.specs.LogLines.{HasNoLine}
use Rattle.cdcl_core.specs.Results.{IsFresh}
use Rattle.solve_cli.specs.Seen.{seen}
use Rattle.solve_cli.specs.Solving.{SearchesOn}
use Rattle.solve_cli.specs.Steps.{Acts}
use Rattle.solve_cli.proofs.Acting.{acts_still}
use Rattle.solve_cli.proofs.Gaining.{whole_port}
use Rattle.solve_cli.proofs.Printing.{fresh_port, no_lines, still_logged, searched_keeps, searched_gave_up, searched_on}
use Rattle.solve_cli.proofs.solve.search_on.Goals as goal

pub new-log-requires : goal.new-log-requires
new-log-requires g c = whole_port (g.D.Desk.outside c.args.desk.now) c.requires.empty

pub search_by-answer-requires-clause-fresh : goal.search_by-answer-requires-clause-fresh
search_by-answer-requires-clause-fresh g c =
    subst (λ (x : Outside). IsFresh (events_told x)) (sym c.new-log.ensures.outside) (fresh_port (g.D.Desk.outside c.args.desk.now) c.requires.empty)

pub search_by-answer-requires-clause-lines : goal.search_by-answer-requires-clause-lines
search_by-answer-requires-clause-lines g c = λ _.
    subst (λ (x : Outside). HasNoLine (lines_told x)) (sym c.new-log.ensures.outside) (no_lines (g.D.Desk.outside c.args.desk.now) c.requires.empty)

pub returns : goal.returns
returns g c =
    let f = c.args.formula.now in
    let options = c.args.options in
    let o = g.D.Desk.outside c.args.desk.now in
    let n = g.D.Desk.outside c.search_by-answer.new.sink.desk.now in
    let last = c.search_by-answer.new.sink.failed in
    let r = c.search_by-answer.result in
    let e = c.search_by-answer.ensures in
    let first = c.new-log.result.failed in
    let begun = g.D.Desk.outside c.new-log.result.desk.now in
    let keeps = searched_keeps e (λ h. (h.0, goes_by_lines first begun last n h.1)) in
    let goes = subst (λ (x : Outside). GoesByLines false x last n) c.new-log.ensures.outside (subst (λ (b : Bool). GoesByLines b begun last n) c.new-log.ensures.whole keeps.1) in
    let counts = subst (λ (b : Bool). CountsAs (fault_in r) (fault_of b) (fault_of last)) c.new-log.ensures.whole e.faults in
    let gave_up = searched_gave_up e n (λ h. h) (λ h. h) (λ _ h. h) in
    let done : (limit : ℕ) → Acts limit o n (λ w. SearchesOn f options (seen w o) c.answered.result (seen w n)) =
    λ limit. acts_still limit o n (still_logged last o n goes)
    (λ w. searched_on f options o n last c.requires.empty goes w e.unmarked e.ids r c.answered.result c.answered.ensures counts e.answers e.settled_with_recovered e.tidied gave_up) in
    let same : ◌≡◌ {A = Outside} n (g.D.Desk.outside c.desk-1.given.0) = search rules in
    subst (λ (x : Outside). (limit : ℕ) → Acts limit o x (λ w. SearchesOn f options (seen w o) c.answered.result (seen w x))) same done
