use Rattle.std.proofs.Common.{Bool, subst, sym, true≢false}
use Rattle.cdcl_core.specs.Narrowing.{SearchedIn}
use Rattle.solve_cli.proofs.Printing.{gave_up_plainly}
use Rattle.solve_cli.proofs.solve.search_by.Goals as goal

pub returns-then-options : goal.returns-then-options
returns-then-options g c =
    let e = c.solve_tidy.ensures in
    subst (λ (t : Bool). SearchedIn t g.L.Sink c.args.formula.now c.args.options.conflicts c.args.sink.now c.solve_tidy.new.sink c.solve_tidy.result) (sym c.if-options.true)
    (record {
      answers = e.answers;
      tidied = λ _. e.tidied;
      settled = e.settled;
      settled_with_recovered = e.settled_with_recovered;
      unmarked = e.unmarked;
      ids = e.ids;
      gave_up = e.gave_up;
      write = e.write;
      faults = e.faults;
      failed = e.failed;
      frame = e.frame;
    })

pub returns-else-options : goal.returns-else-options
returns-else-options g c =
    let e = c.solve_core.ensures in
    let f = c.args.formula.now in
    let new = c.solve_core.new.sink in
    let r = c.solve_core.result in
    subst (λ (t : Bool). SearchedIn t g.L.Sink f c.args.options.conflicts c.args.sink.now new r) (sym c.if-options.false)
    (record {
      answers = e.answers;
      tidied = λ tidies. absurd (true≢false (sym tidies));
      settled = e.settled;
      settled_with_recovered = e.settled_with_recovered;
      unmarked = e.unmarked;
      ids = e.ids;
      gave_up = gave_up_plainly g.L.Sink f new r e.gave_up;
      write = e.write;
      faults = e.faults;
      failed = e.failed;
      frame = e.frame;
    })
