-- Moves: judged in the log, the proof gains nothing, and the tables stay tied.
use Rattle.std.proofs.Common.{◌≡◌, refl, sym, ap, ◌∙◌, subst, List, None, Ok}
use Rattle.cx_base.specs.Problem.{Problem}
use Rattle.cx_base.specs.declared.id_moves.IdMove.{IdMove}
use Rattle.cx_base.specs.declared.steps.LogStep.TheVariants as log
use Rattle.cx_semantics.specs.Chain.{HaveSame}
use Rattle.cx_semantics.specs.Judging.{AllHold}
use Rattle.cx_semantics.specs.LogRules.{moving}
use Rattle.cx_semantics.specs.Tables.{Tables, move_clauses, move_parities}
use Rattle.fratx_elab.specs.Names.{Naming, Names, move_names}
use Rattle.fratx_elab.specs.Ties.{AreTied, HaveSameForm}
use Rattle.fratx_elab.specs.Takes.{TakesLogStep, names_of}
use Rattle.fratx_elab.specs.declared.state.State.{State}
use Rattle.fratx_elab.proofs.MovedTies.{tied_moved}

module _ (formula : Problem) (old new : State) where
  tied_there : (tables proof : Tables) (names : Names) → new.live ≡ tables → names_of new ≡ names → AreTied formula tables proof names → AreTied formula new.live proof (names_of new)
  tied_there tables proof names e f h = subst (λ (t : Tables). AreTied formula t proof (names_of new)) (sym e) (subst (λ (m : Names). AreTied formula tables proof m) (sym f) h)

  named : (clauses parities : Naming) → new.clauses ≡ clauses → new.parities ≡ parities → names_of new ≡ record { clauses = clauses; parities = parities }
  named clauses parities e f = λ i. record { clauses = e i; parities = f i }

  pub takes_clause_moves : (moves : List IdMove) → AllHold (moving old.live.clauses moves) → new.live ≡ move_clauses old.live moves → new.clauses ≡ move_names old.clauses moves → new.parities ≡ old.parities
      → TakesLogStep formula old (log.MoveClauses moves) (Ok None) new
  takes_clause_moves moves right e f g = (
    right,
    e,
    λ tables (tied : AreTied formula old.live tables (names_of old)). (
      (refl, named _ _ f g),
      (
        refl,
        tied_there (move_clauses old.live moves) tables (record { clauses = move_names old.clauses moves; parities = old.parities }) e (named _ _ f g) (record {
          clauses = tied_moved HaveSame _ _ old.live.clauses tables.clauses old.clauses tied.clauses moves right;
          parities = tied.parities;
        }),
      ),
    ),
  )

  pub takes_parity_moves : (moves : List IdMove) → AllHold (moving old.live.parities moves) → new.live ≡ move_parities old.live moves → new.clauses ≡ old.clauses → new.parities ≡ move_names old.parities moves
      → TakesLogStep formula old (log.MoveParities moves) (Ok None) new
  takes_parity_moves moves right e f g = (
    right,
    e,
    λ tables (tied : AreTied formula old.live tables (names_of old)). (
      (refl, named _ _ f g),
      (
        refl,
        tied_there (move_parities old.live moves) tables (record { clauses = old.clauses; parities = move_names old.parities moves }) e (named _ _ f g) (record {
          clauses = tied.clauses;
          parities = tied_moved HaveSameForm _ _ old.live.parities tables.parities old.parities tied.parities moves right;
        }),
      ),
    ),
  )

  -- moves that were lent
  pub takes_lent_clause_moves : (moves lent again : List IdMove) → lent ≡ moves → again ≡ moves → AllHold (moving old.live.clauses lent) → new.live ≡ move_clauses old.live lent → new.clauses ≡ move_names old.clauses again → new.parities ≡ old.parities
      → TakesLogStep formula old (log.MoveClauses moves) (Ok None) new
  takes_lent_clause_moves moves lent again a b right e f g =
      takes_clause_moves moves (subst (λ ms. AllHold (moving old.live.clauses ms)) a right) (e ∙ ap (move_clauses old.live) a) (f ∙ ap (move_names old.clauses) b) g

  pub takes_lent_parity_moves : (moves lent again : List IdMove) → lent ≡ moves → again ≡ moves → AllHold (moving old.live.parities lent) → new.live ≡ move_parities old.live lent → new.clauses ≡ old.clauses → new.parities ≡ move_names old.parities again
      → TakesLogStep formula old (log.MoveParities moves) (Ok None) new
  takes_lent_parity_moves moves lent again a b right e f g =
      takes_parity_moves moves (subst (λ ms. AllHold (moving old.live.parities ms)) a right) (e ∙ ap (move_parities old.live) a) f (g ∙ ap (move_names old.parities) b)
