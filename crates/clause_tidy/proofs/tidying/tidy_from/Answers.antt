use Rattle.std.proofs.Common.{◌≡◌, ◌≤◌, ℕ, length, arith}
use Rattle.std.specs.Prelude.{IsTrue}
use Rattle.cx_base.specs.Assumptions.{is_ending}
use Rattle.clause_arena.specs.Clauses.{clause_at, IsLive, literals_at, learned_at}
use Rattle.tidy_rules.specs.declared.part.TidyPart.{TidyPart}
use Rattle.tidy_rules.specs.Parts.{IsPart, Tidied, lits_in}
use Rattle.clause_tidy.specs.Answers.{EndsFrom}
use Rattle.clause_tidy.specs.Derived.{IsDerived}
use Rattle.clause_tidy.specs.Done.{AgreesAgain, ArePartsOf, IsCoveredBy}
use Rattle.clause_tidy.specs.Taking.{IsWide}
use Rattle.clause_tidy.specs.Tidying.{IsClauseOf, WasOrCame}
use Rattle.clause_tidy.proofs.AnswerLaws
use Rattle.clause_tidy.proofs.BelowLaws.{fewer_below}
use Rattle.clause_tidy.proofs.tidying.tidy_from.Goals as goal

pub tidy_all-requires-clause-tidy : goal.tidy_all-requires-clause-tidy
tidy_all-requires-clause-tidy g c = fewer_below c.args.arena.now c.args.from c.min.result (let least = c.min.ensures in omega (arith, least)) c.requires.tidy

pub tidy_all-requires-clause-may : goal.tidy_all-requires-clause-may
tidy_all-requires-clause-may g c = record { proper = c.requires.proper; spare_id = c.requires.spare; going = c.requires.going }

pub returns : goal.returns
returns g c =
    let f = c.args.formula.now in
    let s = c.args.spare in
    let a = c.args.arena.now in
    let b = c.tidy_all.new.arena in
    let old = c.args.log.now in
    let new = c.tidy_all.new.log in
    let r = c.tidy_all.result in
    let told = c.tidy_all.ensures in
    record {
      tidied = AnswerLaws.when_done g.L.Sink f s a b old new (λ units ids. Tidied b units) (λ units ids steps t. t.tidied) r told;
      each = AnswerLaws.when_done g.L.Sink f s a b old new (λ units ids. length ids ≡ length units) (λ units ids steps t. t.each) r told;
      covers = AnswerLaws.when_done g.L.Sink f s a b old new (λ units ids. (q : ℕ) → IsLive a q → IsCoveredBy b units (literals_at a q) (learned_at a q)) (λ units ids steps t. t.covers) r told;
      derived = AnswerLaws.when_done g.L.Sink f s a b old new (λ units ids. (p : TidyPart) → IsPart b units p → IsDerived (IsClauseOf a) (lits_in b p)) (λ units ids steps t. t.derived) r told;
      parts = AnswerLaws.when_done g.L.Sink f s a b old new (λ units ids. ArePartsOf a b units ids) (λ units ids steps t. t.parts) r told;
      learned = AnswerLaws.when_done g.L.Sink f s a b old new (λ units ids. (q : ℕ) → IsLive b q → IsTrue (learned_at b q) → clause_at b q ≡ clause_at a q) (λ units ids steps t. t.learned) r told;
      wide = AnswerLaws.when_done g.L.Sink f s a b old new (λ units ids. (q : ℕ) → length a.clauses ≤ q → IsWide b q) (λ units ids steps t. t.wide) r told;
      was = AnswerLaws.when_done g.L.Sink f s a b old new (λ units ids. (q : ℕ) → IsLive b q → WasOrCame f a b q) (λ units ids steps t. t.was) r told;
      agrees = AnswerLaws.told_when_done g.L.Sink f s a b old new (AgreesAgain f s a b) (λ units ids steps t. t.runs) r told;
      ending = AnswerLaws.when_ended g.L.Sink f s a b old new (λ lits. IsTrue (is_ending f.constraints lits)) (λ lits steps e. e.ending) r told;
      ended = AnswerLaws.when_ended g.L.Sink f s a b old new (IsDerived (IsClauseOf a)) (λ lits steps e. e.derived) r told;
      ends = AnswerLaws.told_when_ended g.L.Sink f s a b old new (EndsFrom f s a) (λ lits steps e. e.ends) r told;
      left = AnswerLaws.told_on_err g.L.Sink f s a b old new r told;
      torn = AnswerLaws.torn_on_failed g.L.Sink f s a b old new r told;
      faults = told.faults;
      failed = told.failed;
      frame = told.frame;
    }
