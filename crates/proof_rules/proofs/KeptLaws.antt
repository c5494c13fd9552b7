-- Lists of literals that are kept in one.
use Rattle.std.proofs.Common.{◌≡◌, refl, sym, ap, ◌∙◌, subst, ℕ, ◌+◌, ◌-◌, ◌≤◌, Bool, true, false, cond, ◌||◌, List, [], ◌∷◌, ◌++◌, map, length, take, drop, Option, Some, None, MatchOption, Result, nat_cmp, is_eq, is_some, eqb-true, length-append, length-drop, take_all, drop_at, arith}
use Rattle.std.specs.Cmp.{nat_cmp_total, unsigned_tied}
use Rattle.std.specs.FinMap as map_
use Rattle.std.specs.List.{list_any}
use Rattle.std.specs.Option.{option_map}
use Rattle.std.specs.Ordering.{eq_by_cmp}
use Rattle.std.proofs.lemmas.List.{take-append-le, drop-append-le}
use Rattle.std.proofs.lemmas.Option.{same_Some, none-some}
use Rattle.cx_base.specs.Literals.{Literal}
use Rattle.cx_base.specs.declared.id_moves.IdMove.{IdMove}
use Rattle.cx_semantics.specs.LogRules.{moving}
use Rattle.cx_semantics.specs.Moves.{old_ids, without_ids, put_if, put_moved, moved}
use Rattle.cx_semantics.specs.Tables.{Table}
use Rattle.proof_rules.specs.Judges.{JudgesBy}
use Rattle.proof_rules.specs.Moving.{moving_in}
use Rattle.proof_rules.specs.declared.refusal.JudgeRefusal.{JudgeRefusal}
use Rattle.proof_rules.specs.declared.kept.Span.{Span}
use Rattle.proof_rules.specs.KeptLists.{literals_at, kept_in, AreWithin}
use Rattle.proof_rules.specs.Places.{HasKeys}
use Rattle.proof_rules.proofs.MovingLaws.{AllFit, moved_seen, judged_seen}

abbrev pub Spans : Type 0
Spans = map_.FinMap nat_cmp Span

-- the span of literals that are put after others
abbrev pub span_behind : List Literal → List Literal → Span
span_behind lits more = record { start = length lits; len = length more }

same_by : (a b : Table) → ((q : ℕ) → map_.get a q ≡ map_.get b q) → a ≡ b
same_by = map_.same_map nat_cmp_total map_.nat_cmp-IsAntisymmetric

find-mapped : {V W : Type 0} (f : V → W) (q : ℕ) (es : List (ℕ × V)) → map_.find nat_cmp q (map (λ e. (e.0, f e.1)) es) ≡ option_map f (map_.find nat_cmp q es)
find-mapped f q [] = refl
find-mapped f q (e ∷ es) =
    elim (is_eq (nat_cmp q e.0)) as (λ b. cond b (Some (f e.1)) (map_.find nat_cmp q (map (λ d. (d.0, f d.1)) es)) ≡ option_map f (cond b (Some e.1) (map_.find nat_cmp q es))) [
      | true ↦ refl
      | false ↦ find-mapped f q es
    ]

pub get-kept_in : (lits : List Literal) (spans : Spans) (q : ℕ) → map_.get (kept_in lits spans) q ≡ option_map (literals_at lits) (map_.get spans q)
get-kept_in lits spans q =
    map_.get-from_entries nat_cmp_total (map (λ e. (e.0, literals_at lits e.1)) (map_.entries spans)) q
    ∙ find-mapped (literals_at lits) q (map_.entries spans)
    ∙ ap (option_map (literals_at lits)) (sym (map_.get-entries spans q))

-- ---- literals put after others

literals_at-append : (lits more : List Literal) (span : Span) → span.start + span.len ≤ length lits → literals_at (lits ++ more) span ≡ literals_at lits span
literals_at-append lits more span h =
    let n = span.start + span.len - span.start in
    let left : n ≤ length (drop span.start lits) = omega (arith, length-drop span.start lits) in
    ap (take n) (drop-append-le span.start lits more (omega arith)) ∙ take-append-le n (drop span.start lits) more left

literals_at-behind : (lits more : List Literal) → literals_at (lits ++ more) (span_behind lits more) ≡ more
literals_at-behind lits more =
    let n = length lits + length more - length lits in
    ap (take n) (drop_at lits more (length lits) refl) ∙ take_all n more (omega arith)

module _ (lits more : List Literal) (spans : Spans) (within : AreWithin lits spans) where
  pub AreWithin-append : AreWithin (lits ++ more) spans
  AreWithin-append n span g = omega (arith, length-append lits more, within n span g)

  -- those that are left after the others belong to none
  pub kept_in-append : kept_in (lits ++ more) spans ≡ kept_in lits spans
  kept_in-append = same_by _ _ (λ q. get-kept_in (lits ++ more) spans q ∙ by q (map_.get spans q) refl ∙ sym (get-kept_in lits spans q))
    where
      by : (q : ℕ) (o : Option Span) → map_.get spans q ≡ o → option_map (literals_at (lits ++ more)) o ≡ option_map (literals_at lits) o
      by q None g = refl
      by q (Some span) g = ap Some (literals_at-append lits more span (within q span g))

  pub kept_in-insert : (n : ℕ) → kept_in (lits ++ more) (map_.insert spans n (span_behind lits more)) ≡ map_.insert (kept_in lits spans) n more
  kept_in-insert n = same_by _ _ (λ q.
      get-kept_in (lits ++ more) (map_.insert spans n (span_behind lits more)) q
      ∙ ap (option_map (literals_at (lits ++ more))) (map_.get-insert nat_cmp_total spans n (span_behind lits more) q)
      ∙ by q (eq_by_cmp nat_cmp q n) ∙ sym (map_.get-insert nat_cmp_total (kept_in lits spans) n more q))
    where
      by : (q : ℕ) (b : Bool) → option_map (literals_at (lits ++ more)) (cond b (Some (span_behind lits more)) (map_.get spans q)) ≡ cond b (Some more) (map_.get (kept_in lits spans) q)
      by q true = ap Some (literals_at-behind lits more)
      by q false = sym (get-kept_in (lits ++ more) spans q) ∙ ap (λ t. map_.get t q) kept_in-append

  pub AreWithin-insert : (n : ℕ) → AreWithin (lits ++ more) (map_.insert spans n (span_behind lits more))
  AreWithin-insert n q span g = by (eq_by_cmp nat_cmp q n) (sym (map_.get-insert nat_cmp_total spans n (span_behind lits more) q) ∙ g)
    where
      by : (b : Bool) → cond b (Some (span_behind lits more)) (map_.get spans q) ≡ Some span → span.start + span.len ≤ length (lits ++ more)
      by true e = subst (λ (s : Span). s.start + s.len ≤ length (lits ++ more)) (same_Some (span_behind lits more) span e) (omega (arith, length-append lits more))
      by false e = AreWithin-append q span e

-- ---- lists that go

pub AreWithin-remove : (lits : List Literal) (spans : Spans) (n : ℕ) → AreWithin lits spans → AreWithin lits (map_.remove spans n)
AreWithin-remove lits spans n within q span g = by (eq_by_cmp nat_cmp q n) (sym (map_.get-remove nat_cmp_total spans n q) ∙ g)
  where
    by : (b : Bool) → cond b None (map_.get spans q) ≡ Some span → span.start + span.len ≤ length lits
    by true e = absurd (none-some span e)
    by false e = within q span e

pub kept_in-remove : (lits : List Literal) (spans : Spans) (n : ℕ) → kept_in lits (map_.remove spans n) ≡ map_.remove (kept_in lits spans) n
kept_in-remove lits spans n = same_by _ _ (λ q.
    get-kept_in lits (map_.remove spans n) q ∙ ap (option_map (literals_at lits)) (map_.get-remove nat_cmp_total spans n q)
    ∙ by q (eq_by_cmp nat_cmp q n) ∙ sym (map_.get-remove nat_cmp_total (kept_in lits spans) n q))
  where
    by : (q : ℕ) (b : Bool) → option_map (literals_at lits) (cond b None (map_.get spans q)) ≡ cond b None (map_.get (kept_in lits spans) q)
    by q true = refl
    by q false = sym (get-kept_in lits spans q)

-- ---- no lists

pub AreWithin-empty : (lits : List Literal) → AreWithin lits map_.empty
AreWithin-empty lits n span g = absurd (none-some span (sym (map_.get-empty nat_cmp n) ∙ g))

pub kept_in-empty : (lits : List Literal) → kept_in lits map_.empty ≡ map_.empty
kept_in-empty lits = same_by _ _ (λ q. get-kept_in lits map_.empty q ∙ ap (option_map (literals_at lits)) (map_.get-empty nat_cmp q) ∙ sym (map_.get-empty nat_cmp q))

-- ---- the ids of lists

pub has-kept_in : (lits : List Literal) (spans : Spans) (n : ℕ) → map_.contains_key (kept_in lits spans) n ≡ map_.contains_key spans n
has-kept_in lits spans n = ap is_some (get-kept_in lits spans n) ∙ by (map_.get spans n)
  where
    by : (o : Option Span) → is_some (option_map (literals_at lits) o) ≡ is_some o
    by None = refl
    by (Some span) = refl

-- ---- lists that are copied one by one

-- the lists of these ids, and no others
abbrev pub AreCopied : Table → Table → List ℕ → Type 0
AreCopied old new ids = (q : ℕ) → map_.get new q ≡ cond (list_any (eq_by_cmp nat_cmp q) ids) (map_.get old q) None

pub one_copied : (old new more : Table) (n q : ℕ) (b : Bool)
    → MatchOption (map_.get old n) (more ≡ new) (λ lits. more ≡ map_.insert new n lits)
    → map_.get new q ≡ cond b (map_.get old q) None
    → map_.get more q ≡ cond (b || eq_by_cmp nat_cmp q n) (map_.get old q) None
one_copied old new more n q b copied before = by (map_.get old n) copied refl (eq_by_cmp nat_cmp q n) refl b before
  where
    here : (o : Option (List Literal)) → map_.get old n ≡ o → eq_by_cmp nat_cmp q n ≡ true → map_.get old q ≡ o
    here o g e = ap (map_.get old) (eqb-true q n (sym (unsigned_tied q n) ∙ e)) ∙ g

    whichever : (c : Bool) (o : Option (List Literal)) → cond (c || true) o None ≡ o
    whichever true o = refl
    whichever false o = refl

    neither : (c : Bool) → ◌≡◌ {A = Option (List Literal)} (cond c None None) None
    neither true = refl
    neither false = refl

    as_before : (c : Bool) (o : Option (List Literal)) → cond (c || false) o None ≡ cond c o None
    as_before true o = refl
    as_before false o = refl

    by : (o : Option (List Literal)) → MatchOption o (more ≡ new) (λ lits. more ≡ map_.insert new n lits) → map_.get old n ≡ o
        → (at : Bool) → eq_by_cmp nat_cmp q n ≡ at
        → (c : Bool) → map_.get new q ≡ cond c (map_.get old q) None
        → map_.get more q ≡ cond (c || at) (map_.get old q) None
    by None same g true e c h =
        ap (λ t. map_.get t q) same ∙ h ∙ ap (λ o. cond c o None) (here None g e) ∙ neither c ∙ sym (here None g e) ∙ sym (whichever c (map_.get old q))
    by None same g false e c h = ap (λ t. map_.get t q) same ∙ h ∙ sym (as_before c (map_.get old q))
    by (Some lits) put g true e c h =
        ap (λ t. map_.get t q) put ∙ map_.get-insert nat_cmp_total new n lits q ∙ ap (λ t. cond t (Some lits) (map_.get new q)) e
        ∙ sym (here (Some lits) g e) ∙ sym (whichever c (map_.get old q))
    by (Some lits) put g false e c h =
        ap (λ t. map_.get t q) put ∙ map_.get-insert nat_cmp_total new n lits q ∙ ap (λ t. cond t (Some lits) (map_.get new q)) e
        ∙ h ∙ sym (as_before c (map_.get old q))

pub all_copied : (old new : Table) (ids : List ℕ) → HasKeys old ids → AreCopied old new ids → new ≡ old
all_copied old new ids keys are = same_by new old (λ q. are q ∙ ap (λ b. cond b (map_.get old q) None) (keys q) ∙ by (map_.get old q))
  where
    by : (o : Option (List Literal)) → cond (is_some o) o None ≡ o
    by None = refl
    by (Some lits) = refl

-- ---- lists that come under other ids

module _ (lits : List Literal) where
  put_span : (spans : Spans) (k : ℕ) (span : Span) → Unit {0} → kept_in lits (map_.insert spans k span) ≡ map_.insert (kept_in lits spans) k (literals_at lits span)
  put_span spans k span fits = same_by _ _ (λ q.
      get-kept_in lits (map_.insert spans k span) q ∙ ap (option_map (literals_at lits)) (map_.get-insert nat_cmp_total spans k span q)
      ∙ by q (eq_by_cmp nat_cmp q k) ∙ sym (map_.get-insert nat_cmp_total (kept_in lits spans) k (literals_at lits span) q))
    where
      by : (q : ℕ) (b : Bool) → option_map (literals_at lits) (cond b (Some span) (map_.get spans q)) ≡ cond b (Some (literals_at lits span)) (map_.get (kept_in lits spans) q)
      by q true = refl
      by q false = sym (get-kept_in lits spans q)

  fits_all : (moves : List IdMove) → AllFit (kept_in lits) (literals_at lits) (λ _. Unit {0}) (λ spans k _. get-kept_in lits spans k) put_span (λ spans k _. kept_in-remove lits spans k) moves
  fits_all [] = tt
  fits_all (m ∷ moves) = ((tt, tt), fits_all moves)

  pub kept_in-moved : (spans : Spans) (moves : List IdMove) → kept_in lits (moved spans moves) ≡ moved (kept_in lits spans) moves
  kept_in-moved spans moves = moved_seen (kept_in lits) (literals_at lits) (λ _. Unit {0}) (λ contents k _. get-kept_in lits contents k) put_span (λ contents k _. kept_in-remove lits contents k) spans moves (fits_all moves)

  pub judged-kept_in : {T : Type 0} (spans : Spans) (moves : List IdMove) (r : Result T JudgeRefusal) → JudgesBy (moving_in spans moves) r → JudgesBy (moving (kept_in lits spans) moves) r
  judged-kept_in spans moves r judged = judged_seen (kept_in lits) (literals_at lits) (λ _. Unit {0}) (λ contents k _. get-kept_in lits contents k) put_span (λ contents k _. kept_in-remove lits contents k) spans moves (fits_all moves) r judged

  within_without : (ids : List ℕ) (spans : Spans) → AreWithin lits spans → AreWithin lits (without_ids spans ids)
  within_without [] spans within = within
  within_without (n ∷ ids) spans within = within_without ids (map_.remove spans n) (AreWithin-remove lits spans n within)

  within_put : (spans : Spans) (k : ℕ) (o : Option Span) → ((span : Span) → o ≡ Some span → span.start + span.len ≤ length lits) → AreWithin lits spans → AreWithin lits (put_if spans k o)
  within_put spans k None fits within n span g = within n span g
  within_put spans k (Some s) fits within n span g = by (eq_by_cmp nat_cmp n k) (sym (map_.get-insert nat_cmp_total spans k s n) ∙ g)
    where
      by : (b : Bool) → cond b (Some s) (map_.get spans n) ≡ Some span → span.start + span.len ≤ length lits
      by true e = subst (λ (x : Span). x.start + x.len ≤ length lits) (same_Some s span e) (fits s refl)
      by false e = within n span e

  within_put_moved : (first : Spans) (moves : List IdMove) (spans : Spans) → AreWithin lits first → AreWithin lits spans → AreWithin lits (put_moved first spans moves)
  within_put_moved first [] spans given within = within
  within_put_moved first (m ∷ moves) spans given within = within_put_moved first moves (put_if spans m.to (map_.get first m.from)) given (within_put spans m.to (map_.get first m.from) (given m.from) within)

  pub AreWithin-moved : (spans : Spans) (moves : List IdMove) → AreWithin lits spans → AreWithin lits (moved spans moves)
  AreWithin-moved spans moves within = within_put_moved spans moves (without_ids spans (old_ids moves)) within (within_without (old_ids moves) spans within)
