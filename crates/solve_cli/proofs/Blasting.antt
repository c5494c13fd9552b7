-- From the steps of `blast` to what it does.
use Rattle.std.proofs.Common.{◌≡◌, ◌≤◌, ℕ, [], length, take, drop, Option, IfSome, Result, Ok, Err, MatchResult, inr, refl, ap, sym, subst, ◌∙◌, arith}
use Rattle.std.proofs.lemmas.List.{take-append-drop}
use Rattle.std.proofs.lemmas.Option.{IfSome_then}
use Rattle.cx_base.specs.Problem.{Problem, clauses_of}
use Rattle.cx_texts.specs.FormulaText.{Reads}
use Rattle.cnfx_reader.specs.PrintedFormula.{printed_formula}
use Rattle.xor_blast.specs.Blasted.{blasted}
use Rattle.xor_blast.specs.Extending.{ExtendInOneWay}
use Rattle.cx_desk.specs.declared.desk.Slot.TheVariants as slot
use Rattle.cx_desk.specs.declared.desk.Port.TheVariants as port
use Rattle.cx_desk.specs.Outside.{Bytes, Files, Outside}
use Rattle.cx_desk.specs.Calls.{gained, WriteFaulted}
use Rattle.cx_words.specs.declared.plans.Plan.{Plan}
use Rattle.cx_words.specs.declared.plans.Plan.TheVariants as plan
use Rattle.solve_cli.specs.declared.ending.Ending.{Ending}
use Rattle.solve_cli.specs.declared.ending.Ending.TheVariants as ending
use Rattle.solve_cli.specs.declared.ending.Outcome.{Outcome}
use Rattle.solve_cli.specs.declared.ending.Outcome.TheVariants as outcome
use Rattle.solve_cli.specs.Endings.{answer_text}
use Rattle.solve_cli.specs.Seen.{Seen, seen, asks, creates, says, WriteFault, text_named}
use Rattle.solve_cli.specs.Commands.{second_started, proof_created}
use Rattle.solve_cli.specs.Blasting.{IsInClauses, BlastFails}
use Rattle.solve_cli.specs.Happens.{FormulaRead, Judged, Due, Ends, MayWrite, Works}
use Rattle.solve_cli.specs.Steps.{ReadsInClauses}
use Rattle.solve_cli.proofs.Gaining.{write_fault}
use Rattle.solve_cli.proofs.Works.{says-none, all_files, formula_in, stopped}

too_many_text : (number : ℕ) → answer_text (ending.TooManyVariables number) ≡ []
unfolding answer_text
too_many_text number = refl

module _ (name out : Bytes) (limit : ℕ) (old : Seen) (f : Problem) (read : IfSome old.files (λ files. FormulaRead limit (text_named name files) f)) where
  abbrev Blast : Plan
  Blast = plan.Blast name out

  -- what is judged of the formula is due, since there is no second text
  due : (e : Ending) → Judged e Blast f [] → IfSome old.files (λ files. Due Blast limit files e)
  due e judged = let none : 0 ≤ limit = omega arith in IfSome_then old.files read (λ files r. inr (record { formula = f; is_formula = r; due = inr (none, judged) }))

  -- the formula was not put into clauses
  blast_failed : (o : Outcome) (at : Seen) → at ≡ asks slot.Formula name old → BlastFails f o → Works Blast limit old o at
  blast_failed (outcome.Ended (ending.TooManyVariables number)) at is passes = (
    asks slot.Formula name old,
    record {
      own = tt;
      reaches = formula_in Blast limit old f read;
      due = due (ending.TooManyVariables number) passes;
      proof = [];
      gains = all_files old.files (λ files. refl);
      before_is = sym (says-none port.Proof [] (asks slot.Formula name old) refl);
    },
    is ∙ sym (says-none port.Answer (answer_text (ending.TooManyVariables number)) (asks slot.Formula name old) (too_many_text number)),
  )
  blast_failed outcome.Memory at is fails = stopped second_started Blast limit old at (formula_in Blast limit old f read) is
  blast_failed o at is fails = absurd fails

  pub made_or_failed : (r : Result Problem Outcome) (at : Seen) → at ≡ asks slot.Formula name old → MatchResult r (IsInClauses f) (BlastFails f) → ReadsInClauses name out limit old r at
  made_or_failed (Ok made) at is made_is = (f, read, made_is, is)
  made_or_failed (Err o) at is fails = blast_failed o at is fails

  module _ (made : Problem) (in_clauses : IsInClauses f made) where
    -- the Proof port may be given its file
    pub may_write : MayWrite Blast limit old
    may_write = IfSome_then old.files read (λ files r. (f, r, in_clauses.within))

    module _ (w : Option Files) (at : Outside) (created : seen w at ≡ creates out (asks slot.Formula name old)) where
      abbrev text : Bytes
      text = printed_formula made

      text_is : text ≡ printed_formula (blasted f)
      text_is = ap printed_formula in_clauses.made_is

      -- the text was written
      pub blast_ends : (variables clauses : ℕ) (new : Outside) → variables ≡ made.variables → clauses ≡ length (clauses_of made.constraints) → Reads text made → new ≡ gained port.Proof text at
          → Ends Blast limit old (ending.Blasted variables clauses) (seen w new)
      blast_ends variables clauses new many count reads moved = record {
        own = tt;
        reaches = formula_in Blast limit old f read;
        due = due (ending.Blasted variables clauses) (record {
          variables_are = many ∙ ap (λ (g : Problem). g.variables) in_clauses.made_is;
          clauses_are = count ∙ ap (λ (g : Problem). length (clauses_of g.constraints)) in_clauses.made_is;
          within = in_clauses.within;
        });
        proof = text;
        gains = IfSome_then old.files read (λ files r. (
          f,
          r,
          record {
            printed = text_is;
            reads = subst (λ (g : Problem). Reads text g) in_clauses.made_is reads;
            extends = subst (ExtendInOneWay f) in_clauses.made_is in_clauses.extends;
          },
        ));
        before_is = ap (seen w) moved ∙ ap (says port.Proof text) created;
      }

      -- a prefix of the text was written
      pub blast_cut : (k : ℕ) (new : Outside) → WriteFaulted (gained port.Proof (take k text) at) new → Works Blast limit old outcome.WriteFault (seen w new)
      blast_cut k new fault =
          let front = take k text in
          inr (inr (record {
            writes = refl;
            may_write = may_write;
            at = says port.Proof front (creates out (asks slot.Formula name old));
            stops = record {
              stage = proof_created;
              reaches = formula_in Blast limit old f read;
              proof = front;
              so_far = IfSome_then old.files read (λ files r. (f, r, (drop k text, take-append-drop k text ∙ text_is)));
              at_is = refl;
            };
            created = refl;
            fault = subst (λ (s : Seen). WriteFault (says port.Proof front s) (seen w new)) created (write_fault w front at new fault);
          }))
