use Rattle.std.proofs.Common.{◌≡◌, ◌∙◌, ap, refl, Bool, List, length}
use Rattle.proof_rules.specs.declared.live.Kind.TheVariants.{Clauses, Parities}
use Rattle.proof_trim.specs.Marking.{marks_of, marked}
use Rattle.proof_trim.specs.Trimmed.{trimmed}
use Rattle.proof_trim.proofs.MarkLaws.{marks_are_needed}
use Rattle.proof_trim.proofs.PassLaws.{length-marks, core_listed}
use Rattle.proof_trim.proofs.trimming.trimmed_of.Goals as goal

pub kept_of-requires : goal.kept_of-requires
kept_of-requires c = ap length (c.in_ok-found.ensures.marks) ∙ length-marks c.args.proof

pub returns : goal.returns
returns c =
    let proof = c.args.proof in
    let marks : c.in_ok-found.found.marks.items ≡ marks_of proof = c.in_ok-found.ensures.marks in
    let wanted = c.in_ok-found.found.wanted in
    let has = c.in_ok-found.ensures.wanted in
    record {
      needed = marked (marks_of proof);
      are_needed = marks_are_needed proof;
      steps = c.in_ok-steps.ensures ∙ ap (λ (m : List Bool). trimmed c.args.formula.now (marked m) proof) marks;
      clauses = core_listed proof wanted Clauses _ _ c.in_ok-named.named.clauses has refl c.in_ok-named.ensures.clauses;
      parities = core_listed proof wanted Parities _ _ c.in_ok-named.named.parities has refl c.in_ok-named.ensures.parities;
    }
