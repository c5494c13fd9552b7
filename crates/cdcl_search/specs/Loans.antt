-- What a source was lent.
use Rattle.std.specs.Prelude.{◌≡◌, refl}
use Rattle.std.proofs.Common.{◌∙◌}
use Rattle.cdcl_search.specs.declared.source.Source.{Source}

-- both have these values under these references
pub record HasSameLoans {P L : Type 0} (a b : Source P L) : Type 0 where
  pub state : b.state.now ≡ a.state.now
  pub engine : b.engine.now ≡ a.engine.now
  pub log : b.log.ghost_name ≡ a.log.ghost_name
  pub rows : b.rows.ghost_name ≡ a.rows.ghost_name
  pub below : b.below ≡ a.below

pub loans_rest : {P L : Type 0} (a : Source P L) → HasSameLoans a a
loans_rest a = record { state = refl; engine = refl; log = refl; rows = refl; below = refl }

pub loans_then : {P L : Type 0} (a b c : Source P L) → HasSameLoans a b → HasSameLoans b c → HasSameLoans a c
loans_then a b c h k = record { state = k.state ∙ h.state; engine = k.engine ∙ h.engine; log = k.log ∙ h.log; rows = k.rows ∙ h.rows; below = k.below ∙ h.below }
