-- Watches that fit a trail fit it after a literal that was put on it.
use Rattle.std.proofs.Common.{◌≡◌, ℕ, ◌+◌, ◌≤◌, Bool, true, false, MatchBool, sym, subst, arith}
use Rattle.cx_base.specs.Literals.{Literal}
use Rattle.cx_trail.specs.Sequence.{TrailState, pushed}
use Rattle.cx_trail.specs.declared.entry.Reason.{Reason}
use Rattle.cx_trail.specs.declared.entry.Reason.TheVariants.{Clause, Decision}
use Rattle.clause_arena.specs.Clauses.{ArenaState}
use Rattle.watch_lists.specs.Watching.{WatchState, Fits}

-- watches that fit a trail fit every longer one
abbrev pub LongerFits : Type 0
LongerFits = (w : WatchState) (a : ArenaState) (t : TrailState) (level : ℕ) (l : Literal) (reason : Reason) → t.level ≤ level → Fits w a t → Fits w a (pushed t level l reason)

-- whether the literal was put there or not
put_fits : LongerFits → (w : WatchState) (a : ArenaState) (t u : TrailState) (level : ℕ) (l : Literal) (reason : Reason) (put : Bool) → t.level ≤ level → MatchBool put (u ≡ pushed t level l reason) (u ≡ t) → Fits w a t → Fits w a u
put_fits longer w a t u level l reason true low is fits = subst (λ (x : TrailState). Fits w a x) (sym is) (longer w a t level l reason low fits)
put_fits longer w a t u level l reason false low is fits = subst (λ (x : TrailState). Fits w a x) (sym is) fits

pub fits_decided : (w : WatchState) (a : ArenaState) (t u : TrailState) (l : Literal) (decided : Bool) → LongerFits → MatchBool decided (u ≡ pushed t (t.level + 1) l Decision) (u ≡ t) → Fits w a t → Fits w a u
fits_decided w a t u l decided longer is fits = put_fits longer w a t u (t.level + 1) l Decision decided (omega arith) is fits

pub fits_implied : (w : WatchState) (a : ArenaState) (t u : TrailState) (l : Literal) (r : ℕ) (implied : Bool) → LongerFits → MatchBool implied (u ≡ pushed t t.level l (Clause r)) (u ≡ t) → Fits w a t → Fits w a u
fits_implied w a t u l r implied longer is fits = put_fits longer w a t u t.level l (Clause r) implied (omega arith) is fits
