-- One more hint at the start of a list.
use Rattle.std.proofs.Common.{◌≡◌, refl, sym, ap, ◌∙◌, subst, ℕ, zero, suc, ◌+◌, ◌<◌, ◌≤◌, ℤ, nat_abs, List, [], ◌∷◌, ◌++◌, length, take, get_or, append_assoc, append-nil, Option, is_some, Some, None, true, false, ◌||◌, true≢false, inl, inr, arith}
use Rattle.std.proofs.lemmas.List.{take_more, map-append}
use Rattle.std.proofs.lemmas.List.Folds.{list_any-append}
use Rattle.std.specs.List.{list_any, cons_option}
use Rattle.std.proofs.lemmas.Bool.{cases_lt, or_parts}
use Rattle.std.proofs.lemmas.List.Elements.{filter_map-append}
use Rattle.cx_base.specs.Integers.{is_negative, sizes}
use Rattle.cx_base.specs.Literals.{Literal}
use Rattle.cx_semantics.specs.Chain.{negations, left, none, one, more, count_left, HaveSame, right, not_unit, hints_end, chain, go_on}
use Rattle.cx_semantics.specs.Tables.{Table, get, is_live, named}
use Rattle.cx_semantics.specs.LogRules.{AreLive}
use Rattle.proof_rules.proofs.ChainSteps.{chain-one, chain-same}
use Rattle.rup_finder.specs.Front.{HasReached, IsLiveChain, IsFrontChain, NoneNegative, NamesClause}
use Rattle.rup_finder.proofs.Propagation.{live_push, named_push}

pub reached_first : (table : Table) (target assumed : List Literal) → HaveSame assumed (negations target) → HasReached table target [] assumed
reached_first table target assumed same = record {
  live = tt;
  chains = λ behind. chain-same (negations target) assumed behind (λ l. sym (same l));
}

module _ (table : Table) (target : List Literal) (ids : List ℕ) (old : List Literal) (id : ℕ) (clause : List Literal) (live : get table id ≡ Some clause) (reached : HasReached table target ids old) where
  one_more : (behind : List (List Literal)) → chain (negations target) (named table (ids ++ id ∷ []) ++ behind) ≡ chain old (clause ∷ behind)
  one_more behind =
      ap (λ cs. chain (negations target) (cs ++ behind)) (named_push table ids id clause live)
      ∙ ap (chain (negations target)) (append_assoc (named table ids) (clause ∷ []) behind)
      ∙ reached.chains (clause ∷ behind)

  all_live : AreLive table (ids ++ id ∷ [])
  all_live = live_push table ids id reached.live (ap is_some live)

  -- nothing is left of its clause
  pub reached_end : none ≡ count_left (left old clause) → IsLiveChain table target (ids ++ id ∷ [])
  reached_end nothing = (
    all_live,
    ap (chain (negations target)) (sym (append-nil (named table (ids ++ id ∷ [])))) ∙ one_more [] ∙ ap (λ c. go_on c (λ m. chain (m ∷ old) [])) (sym nothing),
  )

  -- one literal is left of it
  pub reached_next : (new : List Literal) (l : Literal) → one l ≡ count_left (left old clause) → HaveSame new (l ∷ old) → HasReached table target (ids ++ id ∷ []) new
  reached_next new l left_is same = record {
    live = all_live;
    chains = λ behind. one_more behind ∙ sym (chain-one old new clause behind l left_is same);
  }

-- one more hint is one more id
pub sizes_more : (hints : List ℤ) (place : ℕ) (d : ℤ) → place < length hints → sizes (take (place + 1) hints) ≡ sizes (take place hints) ++ nat_abs (get_or hints place d) ∷ []
sizes_more hints place d less = ap sizes (take_more hints place d less) ∙ sizes_push (take place hints) (get_or hints place d)
  where
    sizes_push : (zs : List ℤ) (z : ℤ) → sizes (zs ++ z ∷ []) ≡ sizes zs ++ nat_abs z ∷ []
    sizes_push [] z = refl
    sizes_push (x ∷ zs) z = ap (λ ns. nat_abs x ∷ ns) (sizes_push zs z)

-- and where it is not negative, none of them is
pub none_more : (hints : List ℤ) (place : ℕ) (d : ℤ) → place < length hints → NoneNegative (take place hints) → is_negative (get_or hints place d) ≡ false → NoneNegative (take (place + 1) hints)
none_more hints place d less before this =
    ap (list_any is_negative) (take_more hints place d less)
    ∙ list_any-append is_negative (take place hints) (get_or hints place d ∷ [])
    ∙ ap (λ b. b || (is_negative (get_or hints place d) || false)) before
    ∙ ap (λ b. b || false) this

-- ---- lists

take_past : (hints : List ℤ) (place k : ℕ) (d : ℤ) → place < length hints → place < k → (later : List ℤ) × (take k hints ≡ take place hints ++ get_or hints place d ∷ later)
take_past [] place k d less past = absurd (omega (arith, less))
take_past (z ∷ hints) place zero d less past = absurd (omega (arith, past))
take_past (z ∷ hints) zero (suc k) d less past = (take k hints, refl)
take_past (z ∷ hints) (suc place) (suc k) d less past =
    let r = take_past hints place k d (omega (arith, less)) (omega (arith, past)) in (r.0, ap (λ zs. z ∷ zs) r.1)

not_negative : (before : List ℤ) (z : ℤ) (later : List ℤ) → NoneNegative (before ++ z ∷ later) → is_negative z ≡ false
not_negative before z later h = (or_parts _ _ (or_parts _ _ (sym (list_any-append is_negative before (z ∷ later)) ∙ h)).1).0

live_within : (table : Table) (ids : List ℕ) (id : ℕ) (later : List ℕ) → AreLive table (ids ++ id ∷ later) → is_live table id ≡ true
live_within table [] id later h = h.0
live_within table (n ∷ ids) id later h = live_within table ids id later h.1

clause_of : (table : Table) (id : ℕ) → is_live table id ≡ true → (clause : List Literal) × (get table id ≡ Some clause)
clause_of table id live = go (get table id) refl live
  where
    go : (o : Option (List Literal)) → get table id ≡ o → is_some o ≡ true → (clause : List Literal) × (get table id ≡ Some clause)
    go (Some clause) is h = (clause, is)
    go None is h = absurd (true≢false (sym h))

-- ---- which first hints are a chain

module _ (P : ℕ → Type 0) (place : ℕ) (before : (k : ℕ) → k ≤ place → ¬ P k) where
  -- the first number of which it holds is a later one
  pub least_next : (k : ℕ) → P k → place + 1 ≤ k
  least_next k h = elim (cases_lt place k) [ inl less ↦ omega (arith, less) | inr within ↦ absurd (before k within h) ]

  pub none_next : ¬ P (place + 1) → (k : ℕ) → k ≤ place + 1 → ¬ P k
  none_next next k within h = elim (cases_lt place k) [
    | inl less ↦ let is : k ≡ place + 1 = omega (arith, less, within) in next (subst P is h)
    | inr low ↦ before k low h
  ]

  pub none_at_all : ((k : ℕ) → place < k → ¬ P k) → (k : ℕ) → ¬ P k
  none_at_all later k h = elim (cases_lt place k) [ inl less ↦ later k less h | inr low ↦ before k low h ]

module _ (table : Table) (target : List Literal) (hints : List ℤ) (place : ℕ) (old : List Literal) (reached : HasReached table target (sizes (take place hints)) old) where
  -- where literals were reached, the hints so far are no whole chain
  pub not_yet : ¬ IsFrontChain table target hints place
  not_yet front =
      let ids = sizes (take place hints) in
      let ended : hints_end ≡ right = sym (reached.chains []) ∙ ap (chain (negations target)) (append-nil (named table ids)) ∙ front.chain in
      cc

  module _ (d : ℤ) (less : place < length hints) (stops : (clause : List Literal) → NamesClause table (get_or hints place d) clause → more ≡ count_left (left old clause)) where
    -- and after a hint that stops them they never are one
    pub never : (k : ℕ) → place < k → ¬ IsFrontChain table target hints k
    never k past front =
        let split = take_past hints place k d less past in
        let hint = get_or hints place d in
        let ids = sizes (take place hints) in
        let later = sizes split.0 in
        let are : sizes (take k hints) ≡ ids ++ nat_abs hint ∷ later = ap sizes split.1 ∙ map-append nat_abs (take place hints) (hint ∷ split.0) in
        let plain = not_negative (take place hints) hint split.0 (sym (ap (list_any is_negative) split.1) ∙ front.plain) in
        let live = clause_of table (nat_abs hint) (live_within table ids (nat_abs hint) later (subst (AreLive table) are front.live)) in
        let clause : List Literal = live.0 in
        let behind = named table later in
        let names : named table (sizes (take k hints)) ≡ named table ids ++ clause ∷ behind =
        ap (named table) are ∙ filter_map-append (get table) ids (nat_abs hint ∷ later) ∙ ap (λ o. named table ids ++ cons_option o behind) live.1 in
        let stuck : not_unit ≡ right =
        ap (λ c. go_on c (λ m. chain (m ∷ old) behind)) (stops clause (plain, live.1)) ∙ sym (reached.chains (clause ∷ behind)) ∙ ap (chain (negations target)) (sym names) ∙ front.chain in
        cc
