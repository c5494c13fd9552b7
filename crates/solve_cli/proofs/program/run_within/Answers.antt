use Rattle.solve_cli.proofs.FormulaTexts.{put_message}
use Rattle.solve_cli.proofs.Direct.{complete, refused_words, usage, read_fault, write_fault}
use Rattle.solve_cli.proofs.Messages.{need_no_write}
use Rattle.solve_cli.proofs.Demonstrated.{instance_is_shown}
use Rattle.solve_cli.proofs.Solved.{satisfied, unsatisfied, spent_budget, settled, settled_with_recovered, unsolvable}
use Rattle.solve_cli.proofs.Trimmed.{proof_is_trimmed}
use Rattle.solve_cli.proofs.Blasted.{formula_is_blasted}
use Rattle.solve_cli.proofs.Solutions.{space_is_told}
use Rattle.solve_cli.proofs.Statuses.{only_solve_decides, proof_is_verified, log_is_elaborated, model_is_right, formula_is_refused, proof_is_refused, log_is_refused, answer_is_refused, limit_is_passed}
use Rattle.solve_cli.specs.Seen.{seen}
use Rattle.cx_words.specs.Words.{texts}
use Rattle.solve_cli.specs.Happens.{Runs}
use Rattle.solve_cli.specs.Endings.{message_text}
use Rattle.solve_cli.proofs.program.run_within.Goals as goal

pub returns-clause-run : goal.returns-clause-run
returns-clause-run g c = λ w may.
    let words = texts c.args.words.items in
    let limit = c.args.limit in
    let o = g.D.Desk.outside c.args.desk.now in
    let m = g.D.Desk.outside c.work-outcome.new.desk in
    let n = g.D.Desk.outside c.put_message_text-told.new.desk in
    let old = seen w o in
    let new = seen w n in
    let at = (put_message c.args.limit (message_text c.work-outcome.result) m c.put_message_text-told.result n c.put_message_text-told.ensures).did w may in
    let s = c.status.result in
    let runs : Runs words limit old s new = record {
      outcome = c.work-outcome.result;
      status_is = c.status.ensures;
      done = seen w m;
      works = rw (← c.as_slice.ensures.value) (c.work-outcome.ensures.did w at.0).1;
      tells = at.1;
    } in
    record {
      happens = runs;
      values_meet = satisfied words limit old s new runs;
      no_values_meet = unsatisfied words limit old s new runs;
      only_solve_decides = only_solve_decides words limit old s new runs;
      budget_is_spent = λ solve. spent_budget words limit old s new runs solve.0 solve.1 solve.2 solve.3;
      proof_is_verified = proof_is_verified words limit old s new runs;
      log_is_elaborated = log_is_elaborated words limit old s new runs;
      model_is_right = model_is_right words limit old s new runs;
      instance_is_shown = instance_is_shown words limit old s new runs;
      proof_is_trimmed = proof_is_trimmed words limit old s new runs;
      formula_is_blasted = formula_is_blasted words limit old s new runs;
      space_is_told = space_is_told words limit old s new runs;
      words_are_refused = usage words limit old s new runs;
      formula_is_refused = formula_is_refused words limit old s new runs;
      read_failed = read_fault words limit old s new runs;
      write_failed = write_fault words limit old s new runs;
      proof_is_refused = proof_is_refused words limit old s new runs;
      log_is_refused = log_is_refused words limit old s new runs;
      answer_is_refused = answer_is_refused words limit old s new runs;
      limit_is_passed = limit_is_passed words limit old s new runs;
      complete = complete words limit old s new runs;
      refused_words_end = refused_words words limit old s new runs;
      messages_need_no_write = need_no_write words limit old s new runs;
      settled = settled words limit old s new runs;
      unsolvable = unsolvable words limit old s new runs;
      settled_with_recovered = settled_with_recovered words limit old s new runs;
    }

pub returns-clause-few : goal.returns-clause-few
returns-clause-few g c = λ few.
    let m = g.D.Desk.outside c.work-outcome.new.desk in
    let n = g.D.Desk.outside c.put_message_text-told.new.desk in
    (put_message c.args.limit (message_text c.work-outcome.result) m c.put_message_text-told.result n c.put_message_text-told.ensures).few (c.work-outcome.ensures.few few)
