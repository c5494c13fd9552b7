-- A trail at level 0 whose reasons are forgotten.
use Rattle.std.proofs.Common.{◌≡◌, ℕ, zero, suc, ◌≤◌, List, map, sym, refl, subst, arith}
use Rattle.std.specs.List.{All}
use Rattle.std.proofs.lemmas.List.Elements.{All-map, All-from_get_or}
use Rattle.cx_trail.specs.declared.entry.Entry.{Entry}
use Rattle.cx_trail.specs.declared.entry.Reason.{Reason}
use Rattle.cx_trail.specs.declared.entry.Reason.TheVariants.{Decision}
use Rattle.cx_trail.specs.Sequence.{TrailState, IsTrail, entry_at, no_entry}
use Rattle.cx_trail.specs.Forgetting.{forgotten, forgotten_reason}

forgotten_at_0 : (level : ℕ) (r : Reason) → level ≤ 0 → forgotten_reason level r ≡ Decision
forgotten_at_0 zero r h = refl
forgotten_at_0 (suc level) r h = absurd (omega (arith, h))

-- at level 0 no reason is left
pub all_forgotten : (old : TrailState) (new : List Entry) → IsTrail old → old.level ≡ 0 → new ≡ map forgotten old.entries → All (λ e. e.reason ≡ Decision) new
all_forgotten old new t at_0 e =
    subst (λ (es : List Entry). All (λ x. x.reason ≡ Decision) es) (sym e)
    (All-map (λ (x : Entry). x.reason ≡ Decision) forgotten old.entries
    (All-from_get_or (λ (x : Entry). (forgotten x).reason ≡ Decision) old.entries no_entry
    (λ i h. forgotten_at_0 (entry_at old.entries i).level (entry_at old.entries i).reason (omega (arith, t.levels i h, at_0)))))
