-- Literals that are added to a trail.
use Rattle.std.proofs.Common.{◌≡◌, refl, sym, ap, ◌∙◌, subst, [], ◌∷◌, ◌++◌, append_assoc, append-nil, length}
use Rattle.cx_base.specs.Literals.{Literal}
use Rattle.cx_trail.specs.declared.entry.Reason.{Reason}
use Rattle.cx_trail.specs.Sequence.{TrailState, pushed}
use Rattle.search_policy.specs.Assuming.{IsLonger}
use Rattle.cdcl_search.specs.declared.state.SearchState.{SearchState}
use Rattle.cdcl_search.specs.Finds.{HasSameCounts}

pub longer_rest : (t : TrailState) → IsLonger t t
longer_rest t = record { more = []; parts = sym (append-nil t.entries); level = refl; variables = refl }

pub longer_then : (a b c : TrailState) → IsLonger a b → IsLonger b c → IsLonger a c
longer_then a b c h k = record {
  more = h.more ++ k.more;
  parts = k.parts ∙ ap (λ xs. xs ++ k.more) h.parts ∙ append_assoc a.entries h.more k.more;
  level = k.level ∙ h.level;
  variables = k.variables ∙ h.variables;
}

pub longer_by_one : (t : TrailState) (l : Literal) (reason : Reason) → IsLonger t (pushed t t.level l reason)
longer_by_one t l reason = record { more = record { literal = l; level = t.level; reason = reason } ∷ []; parts = refl; level = refl; variables = refl }

pub longer_same : (t u : TrailState) → u ≡ t → IsLonger t u
longer_same t u is = subst (IsLonger t) (sym is) (longer_rest t)

-- what neither the rows change nor the values that the engine is given
pub same_by_rows : (start before fed now : SearchState) → HasSameCounts start before → fed ≡ record before { given = length before.trail.entries } → HasSameCounts fed now → HasSameCounts start now
same_by_rows start before fed now so_far given rows = (
  rows.0 ∙ ap (λ (k : SearchState). k.trail.level) given ∙ so_far.0,
  rows.1 ∙ ap (λ (k : SearchState). k.units.items) given ∙ so_far.1,
  rows.2 ∙ ap (λ (k : SearchState). k.conflicts) given ∙ so_far.2,
  rows.3 ∙ ap (λ (k : SearchState). k.next) given ∙ so_far.3,
  longer_then start.trail before.trail now.trail so_far.4 (subst (λ (k : SearchState). IsLonger k.trail now.trail) given rows.4),
  rows.5 ∙ ap (λ (k : SearchState). k.tidies) given ∙ so_far.5,
)

pub same_then : (a b k : SearchState) → HasSameCounts a b → HasSameCounts b k → HasSameCounts a k
same_then a b k h i = (i.0 ∙ h.0, i.1 ∙ h.1, i.2 ∙ h.2, i.3 ∙ h.3, longer_then a.trail b.trail k.trail h.4 i.4, i.5 ∙ h.5)

pub same_by_all : (start before followed fed now : SearchState) → HasSameCounts start before → HasSameCounts before followed → fed ≡ record followed { given = length followed.trail.entries } → HasSameCounts fed now → HasSameCounts start now
same_by_all start before followed fed now so_far clauses given rows = same_by_rows start followed fed now (same_then start before followed so_far clauses) given rows

pub same_rests : (a : SearchState) → HasSameCounts a a
same_rests a = (refl, refl, refl, refl, longer_rest a.trail, refl)
