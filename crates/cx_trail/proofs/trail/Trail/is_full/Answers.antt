use Rattle.std.proofs.Common.{◌≡◌, ◌≢◌, ℕ, true, false, MatchBool, eqb, ⊎_elim, sym, subst}
use Rattle.std.proofs.lemmas.Bool.Decides.{eqb_tells}
use Rattle.cx_trail.specs.Sequence.{TrailState, IsFull, HasOpen}
use Rattle.cx_trail.proofs.FrontLaws.{sound_shown, front_full, front_open}
use Rattle.cx_trail.proofs.trail.Trail.is_full.Goals as goal

by_test : (a b : ℕ) (t : TrailState) → (a ≡ b → IsFull t) → (a ≢ b → HasOpen t) → MatchBool (eqb a b) (IsFull t) (HasOpen t)
by_test a b t p q = ⊎_elim
    (λ (w : (eqb a b ≡ true) × (a ≡ b)). subst (λ r. MatchBool r (IsFull t) (HasOpen t)) (sym w.0) (p w.1))
    (λ (w : (eqb a b ≡ false) × (a ≢ b)). subst (λ r. MatchBool r (IsFull t) (HasOpen t)) (sym w.0) (q w.1)) (eqb_tells a b)

pub returns-clause-full : goal.returns-clause-full
returns-clause-full c =
    let k = c.self.invariant in
    by_test c.self.inside.count c.self.inside.vars c.args.self.now
    (λ e. subst (λ (t : TrailState). IsFull t) c.self.view_is (front_full _ _ _ _ _ _ k e))
    (λ ne. subst (λ (t : TrailState). HasOpen t) c.self.view_is (front_open _ _ _ _ _ _ k ne))

pub returns-clause-sound : goal.returns-clause-sound
returns-clause-sound c = sound_shown _ _ _ _ _ _ c.self.invariant _ c.self.view_is
