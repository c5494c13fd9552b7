use Rattle.std.proofs.Common.{◌≡◌, ◌≤◌, true, refl, sym, ap, ◌∙◌, subst, length, arith}
use Rattle.std.proofs.lemmas.Result.{err_from_is_err_and}
use Rattle.cx_base.specs.Literals.{Literal}
use Rattle.clause_arena.specs.Clauses.{Stored}
use Rattle.cx_trail.specs.Sequence.{TrailState, pushed, IsOpenIn, IsTrail}
use Rattle.cx_trail.specs.declared.entry.Reason.TheVariants as reason
use Rattle.watch_lists.specs.Attaching.{CanBeWatched, literal_at}
use Rattle.watch_lists.specs.Watching.{Fits, IsAttached, no_literal}
use Rattle.watch_lists.proofs.EventLaws.{fits_arena, fits_pushed, watched_pushed}
use Rattle.cdcl_core.proofs.AddedClauses.{added_is_live, added_literals}
use Rattle.cdcl_core.proofs.jumping.enter_clause.Goals.{After-imply}
use Rattle.cdcl_core.proofs.jumping.enter_clause.Goals as goal
use Rattle.cdcl_core.proofs.JumpLaws.{first_any}

-- the first literal is at the end of the trail
put : (c : After-imply) → c.imply.new.self ≡ pushed c.args.state.now.trail c.args.state.now.trail.level (literal_at c.args.lits.now 0) (reason.Clause c.in_ok-reference.reference)
put c =
    let t = c.args.state.now.trail in
    c.imply.ensures.pushed ∙ ap (λ l. pushed t t.level l (reason.Clause c.in_ok-reference.reference)) (c.index-lits-0.is ∙ first_any c.args.lits.now c.index-lits-0.result no_literal (let long = c.requires.watched.long in omega (arith, long)))

pub attach-requires-clause-fits : goal.attach-requires-clause-fits
attach-requires-clause-fits c =
    let t = c.args.state.now.trail in
    subst (Fits c.args.state.now.watches c.add.new.self) (sym (put (goal.at.attach-requires-clause-fits c).After-imply))
    (fits_pushed c.args.state.now.watches c.add.new.self t t.level (literal_at c.args.lits.now 0) (reason.Clause c.in_ok-reference.reference) (omega arith)
    (fits_arena c.args.state.now.watches c.args.state.now.arena c.add.new.self t _ c.in_ok-reference.ensures.added c.requires.fits))

pub returns : goal.returns
returns c =
    let t = c.args.state.now.trail in
    record {
      put = record {
        trail = put (goal.at.returns c).After-imply ∙ ap (λ r. pushed t t.level (literal_at c.args.lits.now 0) (reason.Clause r)) c.in_ok-reference.ensures.ok;
        sound = c.imply.ensures.sound;
        order = refl;
        phases = refl;
        given = refl;
        next = refl;
        conflicts = refl;
        learned = refl;
        reductions = refl;
        tidies = refl;
        tidy_below = refl;
      };
      added = c.in_ok-reference.ensures.added;
      attached = subst (IsAttached c.attach.new.self.attached) c.in_ok-reference.ensures.ok c.in_ok-attach.ensures.attached;
      others = λ r apart. c.attach.ensures.others r (λ same. apart (same ∙ c.in_ok-reference.ensures.ok));
      fits = c.attach.ensures.fits;
      units = refl;
    }

pub attach-requires-clause-live : goal.attach-requires-clause-live
attach-requires-clause-live c =
    let k : Stored = record { literals = c.args.lits.now; id = c.args.id; lbd = c.args.lbd; learned = true } in
    added_is_live c.args.state.now.arena c.add.new.self k c.in_ok-reference.reference c.in_ok-reference.ensures.added c.in_ok-reference.ensures.ok

pub attach-requires-clause-watched : goal.attach-requires-clause-watched
attach-requires-clause-watched c =
    let k : Stored = record { literals = c.args.lits.now; id = c.args.id; lbd = c.args.lbd; learned = true } in
    let vars = c.args.state.now.watches.variables in
    let is = put (goal.at.attach-requires-clause-watched c).After-imply in
    subst (CanBeWatched vars c.imply.new.self)
    (sym (added_literals c.args.state.now.arena c.add.new.self k c.in_ok-reference.reference c.in_ok-reference.ensures.added c.in_ok-reference.ensures.ok))
    (subst (λ (t : TrailState). CanBeWatched vars t c.args.lits.now) (sym is)
    (watched_pushed vars c.args.state.now.trail c.args.lits.now (reason.Clause c.in_ok-reference.reference) (subst IsTrail is c.imply.ensures.sound) c.requires.watched))

pub imply-requires-clause-high : goal.imply-requires-clause-high
imply-requires-clause-high c =
    let first = c.index-lits-0.is ∙ first_any c.args.lits.now c.index-lits-0.result no_literal (let long = c.requires.watched.long in omega (arith, long)) in
    subst (λ (l : Literal). l.variable ≤ c.args.state.now.trail.variables) (sym first) c.requires.put.high

pub imply-requires-clause-open : goal.imply-requires-clause-open
imply-requires-clause-open c =
    let first = c.index-lits-0.is ∙ first_any c.args.lits.now c.index-lits-0.result no_literal (let long = c.requires.watched.long in omega (arith, long)) in
    subst (λ (l : Literal). IsOpenIn c.args.state.now.trail.entries l.variable) (sym first) c.requires.put.free

pub imply-requires-clause-reason : goal.imply-requires-clause-reason
imply-requires-clause-reason c = λ above is. cc

pub returns-in_err-reference : goal.returns-in_err-reference
returns-in_err-reference c =
    let fault = err_from_is_err_and c.from_residual.result c.from_residual.ensures.1 in
    rw fault.1 tt

pub returns-in_err-attach : goal.returns-in_err-attach
returns-in_err-attach c =
    let fault = err_from_is_err_and c.from_residual-in_err-attach.result c.from_residual-in_err-attach.ensures.1 in
    rw fault.1 tt
