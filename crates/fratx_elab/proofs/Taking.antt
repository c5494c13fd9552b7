-- Each kind of step: judged in the log, it is right in the proof, and the tables stay tied.
use Rattle.std.proofs.Common.{◌≡◌, refl, sym, ap, ◌∙◌, subst, ℕ, ◌+◌, ◌<◌, ◌≤◌, ℤ, pos, nat_abs, Bool, true, false, not, ◌||◌, cond, nat_lt, List, [], ◌∷◌, ◌++◌, length, Option, Some, None, Result, Ok, Err, arith}
use Rattle.std.specs.List.{list_any}
use Rattle.std.proofs.lemmas.Option.{same_Some}
use Rattle.cx_base.specs.Literals.{Literal}
use Rattle.cx_base.specs.Parity.{normal_form}
use Rattle.cx_base.specs.Problem.{Problem, clauses_of, parities_of}
use Rattle.cx_semantics.specs.Chain.{same_literals, IsChain, HaveSame}
use Rattle.cx_base.specs.Integers.{literals}
use Rattle.cx_semantics.specs.Judging.{AllHold}
use Rattle.cx_semantics.specs.LogRules.{AreLive, naming}
use Rattle.cx_semantics.specs.ProofRules.{adding, chaining, summing, clause_of_parity, parity_of_clauses}
use Rattle.cx_semantics.specs.Tables.{Table, Tables, is_live, named, put_clause, put_parity, drop_clauses, drop_parities}
use Rattle.cx_base.specs.declared.steps.LogStep.TheVariants as log
use Rattle.cx_base.specs.declared.steps.ProofStep.{ProofStep}
use Rattle.cx_base.specs.declared.steps.ProofStep.TheVariants as proof
use Rattle.cx_semantics.proofs.SameSets.{HaveSame-by_test}
use Rattle.proof_rules.specs.declared.refusal.JudgeRefusal.{JudgeRefusal}
use Rattle.proof_rules.proofs.ChainSteps.{right_holds}
use Rattle.fratx_elab.specs.Names.{Naming, Names, stands_for, hints_for, name_original, name_next, drop_name}
use Rattle.fratx_elab.specs.Elaborates.{KeepsHints, IsClauseNumber, IsParityNumber, number_of_clauses, number_of_parities, deleted_id, clause_deletion, parity_deletion}
use Rattle.fratx_elab.specs.Ties.{AreTied, HaveSameForm}
use Rattle.fratx_elab.specs.Takes.{TakesLogStep, names_of}
use Rattle.fratx_elab.specs.declared.state.State.{State}
use Rattle.fratx_elab.proofs.TieLaws.{tied_original, tied_next, tied_kept, tied_deleted, next_is_free, named_below}
use Rattle.fratx_elab.proofs.Transfers.{numbers, named_alike, hints_hold, named_hints, chain_alike, sum_alike, clause_alike, parity_alike}
use Rattle.fratx_elab.proofs.Numbers.{least_within, least_gets, least_passes, least_any}

not_any : (p : ℕ → Bool) (ids : List ℕ) → list_any (λ n. not (p n)) ids ≡ false → Rattle.std.specs.List.AllByRecursion (λ n. p n ≡ true) ids
not_any p [] h = tt
not_any p (n ∷ ids) h = go (p n) refl (not_any p ids)
  where
    go : (b : Bool) → p n ≡ b → (list_any (λ n. not (p n)) ids ≡ false → Rattle.std.specs.List.AllByRecursion (λ n. p n ≡ true) ids) → (p n ≡ true) × Rattle.std.specs.List.AllByRecursion (λ n. p n ≡ true) ids
    go true e rest = (e, rest (sym (ap (λ b. not b || list_any (λ n. not (p n)) ids) e) ∙ h))
    go false e rest = absurd (Rattle.std.proofs.Common.true≢false (sym (ap (λ b. not b || list_any (λ n. not (p n)) ids) e) ∙ h))

pub names_live : (table : Table) (ids : List ℕ) → AllHold (naming table ids) → AreLive table ids
names_live table ids h = not_any (is_live table) ids h.0

module _ (formula : Problem) (old new : State) where
  abbrev Tied_ : Tables → Type 0
  Tied_ tables = AreTied formula old.live tables (names_of old)

  abbrev after_ : Tables → Names → Tables → Type 0
  after_ log names tables = AreTied formula log tables names

  -- the new state has these tables and names
  moved : (log tables : Tables) (names : Names) → new.live ≡ log → names_of new ≡ names → AreTied formula log tables names → AreTied formula new.live tables (names_of new)
  moved log tables names e f h = subst (λ (t : Tables). AreTied formula t tables (names_of new)) (sym e) (subst (λ (m : Names). AreTied formula log tables m) (sym f) h)

  abbrev both : Naming → Naming → Names
  both clauses parities = record { clauses = clauses; parities = parities }

  named_both : (clauses parities : Naming) → new.clauses ≡ clauses → new.parities ≡ parities → names_of new ≡ both clauses parities
  named_both clauses parities e f = λ i. record { clauses = e i; parities = f i }

  -- ---- originals

  pub takes_original : (n k : ℕ) (lits : List ℤ) → AllHold (adding formula old.live.clauses n lits) → IsClauseNumber formula (literals lits) k
      → new.live ≡ put_clause old.live n (literals lits) → new.clauses ≡ name_original old.clauses n k → new.parities ≡ old.parities → TakesLogStep formula old (log.Original n lits) (Ok None) new
  takes_original n k lits added least e f g =
      let cs = clauses_of formula.constraints in
      let names = named_both (name_original old.clauses n k) old.parities f g in
      let has = least_passes (same_literals (literals lits)) cs k least in (
        (added.0, (added.1.0, (ap not has, tt))),
        e,
        λ tables (tied : Tied_ tables). (
          (refl, (k, least, names)),
          (
            refl,
            moved (put_clause old.live n (literals lits)) tables (both (name_original old.clauses n k) old.parities) e names (record {
              clauses = tied_original HaveSame cs old.live.clauses tables.clauses old.clauses tied.clauses n k (literals lits) least.it (least_within _ cs k least) (least_gets _ cs k least) (HaveSame-by_test (literals lits) least.it least.has_it);
              parities = tied.parities;
            }),
          ),
        ),
      )

  pub takes_original_parity : (n k : ℕ) (lits : List ℤ) → AllHold (adding formula old.live.parities n lits) → IsParityNumber formula (literals lits) k
      → new.live ≡ put_parity old.live n (literals lits) → new.clauses ≡ old.clauses → new.parities ≡ name_original old.parities n k → TakesLogStep formula old (log.OriginalParity n lits) (Ok None) new
  takes_original_parity n k lits added least e f g =
      let ps = parities_of formula.constraints in
      let names = named_both old.clauses (name_original old.parities n k) f g in (
        (added.0, (added.1.0, (least_any (λ parity. normal_form parity ≡ normal_form (literals lits)) ps k least, tt))),
        e,
        λ tables (tied : Tied_ tables). (
          (refl, (k, least, names)),
          (
            refl,
            moved (put_parity old.live n (literals lits)) tables (both old.clauses (name_original old.parities n k)) e names (record {
              clauses = tied.clauses;
              parities = tied_original HaveSameForm ps old.live.parities tables.parities old.parities tied.parities n k (literals lits) least.it (least_within _ ps k least) (least_gets _ ps k least) (sym least.has_it);
            }),
          ),
        ),
      )

  -- ---- what is added

  next_clause : (tables : Tables) (n : ℕ) (target : List Literal) → Tied_ tables → new.live ≡ put_clause old.live n target → new.clauses ≡ name_next old.clauses n → new.parities ≡ old.parities
      → AreTied formula new.live (put_clause tables (old.clauses.last + 1) target) (names_of new)
  next_clause tables n target tied e f g =
      moved (put_clause old.live n target) (put_clause tables (old.clauses.last + 1) target) (both (name_next old.clauses n) old.parities) e (named_both _ _ f g)
      (record { clauses = tied_next HaveSame _ old.live.clauses tables.clauses old.clauses tied.clauses n target target (λ l. refl); parities = tied.parities })

  next_parity : (tables : Tables) (n : ℕ) (target : List Literal) → Tied_ tables → new.live ≡ put_parity old.live n target → new.clauses ≡ old.clauses → new.parities ≡ name_next old.parities n
      → AreTied formula new.live (put_parity tables (old.parities.last + 1) target) (names_of new)
  next_parity tables n target tied e f g =
      moved (put_parity old.live n target) (put_parity tables (old.parities.last + 1) target) (both old.clauses (name_next old.parities n)) e (named_both _ _ f g)
      (record { clauses = tied.clauses; parities = tied_next HaveSameForm _ old.live.parities tables.parities old.parities tied.parities n target target refl })

  free_clause : (tables : Tables) (lits : List ℤ) (n : ℕ) → Tied_ tables → AllHold (adding formula old.live.clauses n lits) → AllHold (adding formula tables.clauses (old.clauses.last + 1) lits)
  free_clause tables lits n tied added = (added.0, (next_is_free HaveSame _ old.live.clauses tables.clauses old.clauses tied.clauses, tt))

  free_parity : (tables : Tables) (lits : List ℤ) (n : ℕ) → Tied_ tables → AllHold (adding formula old.live.parities n lits) → AllHold (adding formula tables.parities (old.parities.last + 1) lits)
  free_parity tables lits n tied added = (added.0, (next_is_free HaveSameForm _ old.live.parities tables.parities old.parities tied.parities, tt))

  pub takes_clause : (n : ℕ) (lits given : List ℤ) (ids : List ℕ) (s : ProofStep) → AllHold (adding formula old.live.clauses n lits) → AreLive old.live.clauses ids → IsChain (literals lits) (named old.live.clauses ids)
      → KeepsHints old.clauses old.live.clauses (literals lits) given (hints_for old.clauses ids)
      → new.live ≡ put_clause old.live n (literals lits) → new.clauses ≡ name_next old.clauses n → new.parities ≡ old.parities
      → s ≡ proof.Clause (old.clauses.last + 1) lits (hints_for old.clauses ids) → TakesLogStep formula old (log.ClauseWithHints n lits given) (Ok (Some s)) new
  takes_clause n lits given ids s added live chain kept e f g is = subst (λ (w : ProofStep). TakesLogStep formula old (log.ClauseWithHints n lits given) (Ok (Some w)) new) (sym is) (
    (added.0, (added.1.0, ((ids, live, chain), tt))),
    e,
    λ tables (tied : Tied_ tables).
        let a = named_alike HaveSame _ old.live.clauses tables.clauses old.clauses tied.clauses ids live in
        let ns = numbers old.clauses ids in
        let right = chain_alike (literals lits) (named old.live.clauses ids) (named tables.clauses ns) a.0 chain in
        let chained = subst (λ cs. AllHold (chaining (literals lits) cs)) (sym (named_hints tables.clauses ns)) (right_holds (literals lits) (named tables.clauses ns) (sym right)) in (
          ((hints_for old.clauses ids, refl, kept), named_both _ _ f g),
          (
            (let f = free_clause tables lits n tied added in let h = hints_hold tables.clauses ns a.1 in (f.0, (f.1.0, (h.0, (h.1.0, chained))))),
            refl,
            next_clause tables n (literals lits) tied e f g,
          ),
        ),
  )

  pub takes_parity : (n : ℕ) (lits : List ℤ) (ids : List ℕ) (s : ProofStep) → AllHold (adding formula old.live.parities n lits)
      → AllHold (naming old.live.parities ids ++ summing (literals lits) (named old.live.parities ids))
      → new.live ≡ put_parity old.live n (literals lits) → new.clauses ≡ old.clauses → new.parities ≡ name_next old.parities n
      → s ≡ proof.Parity (old.parities.last + 1) lits (hints_for old.parities ids) → TakesLogStep formula old (log.Parity n lits ids) (Ok (Some s)) new
  takes_parity n lits ids s added judged e f g is = subst (λ (w : ProofStep). TakesLogStep formula old (log.Parity n lits ids) (Ok (Some w)) new) (sym is) (
    (added.0, (added.1.0, judged)),
    e,
    λ tables (tied : Tied_ tables).
        let parts : AllHold (naming old.live.parities ids) × AllHold (summing (literals lits) (named old.live.parities ids)) = ((judged.0, tt), judged.1) in
        let a = named_alike HaveSameForm _ old.live.parities tables.parities old.parities tied.parities ids (names_live old.live.parities ids parts.0) in
        let ns = numbers old.parities ids in
        let summed = subst (λ ps. AllHold (summing (literals lits) ps)) (sym (named_hints tables.parities ns)) (sum_alike (literals lits) (named old.live.parities ids) (named tables.parities ns) a.0 parts.1) in (
          (refl, named_both _ _ f g),
          (
            (let f = free_parity tables lits n tied added in let h = hints_hold tables.parities ns a.1 in (f.0, (f.1.0, (h.0, (h.1.0, summed))))),
            refl,
            next_parity tables n (literals lits) tied e f g,
          ),
        ),
  )

  pub takes_parity_of_clauses : (n : ℕ) (lits : List ℤ) (ids : List ℕ) (s : ProofStep) → AllHold (adding formula old.live.parities n lits)
      → AllHold (naming old.live.clauses ids ++ parity_of_clauses (literals lits) (named old.live.clauses ids))
      → new.live ≡ put_parity old.live n (literals lits) → new.clauses ≡ old.clauses → new.parities ≡ name_next old.parities n
      → s ≡ proof.ParityOfClauses (old.parities.last + 1) lits (hints_for old.clauses ids) → TakesLogStep formula old (log.ParityOfClauses n lits ids) (Ok (Some s)) new
  takes_parity_of_clauses n lits ids s added judged e f g is = subst (λ (w : ProofStep). TakesLogStep formula old (log.ParityOfClauses n lits ids) (Ok (Some w)) new) (sym is) (
    (added.0, (added.1.0, judged)),
    e,
    λ tables (tied : Tied_ tables).
        let parts : AllHold (naming old.live.clauses ids) × AllHold (parity_of_clauses (literals lits) (named old.live.clauses ids)) = ((judged.0, tt), judged.1) in
        let a = named_alike HaveSame _ old.live.clauses tables.clauses old.clauses tied.clauses ids (names_live old.live.clauses ids parts.0) in
        let ns = numbers old.clauses ids in
        let implied = subst (λ cs. AllHold (parity_of_clauses (literals lits) cs)) (sym (named_hints tables.clauses ns)) (parity_alike (literals lits) (named old.live.clauses ids) (named tables.clauses ns) a.0 parts.1) in (
          (refl, named_both _ _ f g),
          (
            (let f = free_parity tables lits n tied added in let h = hints_hold tables.clauses ns a.1 in (f.0, (f.1.0, (h.0, (h.1.0, implied))))),
            refl,
            next_parity tables n (literals lits) tied e f g,
          ),
        ),
  )

  pub takes_clause_of_parity : (n : ℕ) (lits : List ℤ) (id p : ℕ) (s : ProofStep) → AllHold (adding formula old.live.clauses n lits)
      → AllHold (naming old.live.parities (id ∷ []) ++ clause_of_parity (literals lits) (named old.live.parities (id ∷ [])))
      → stands_for old.parities id ≡ Some p
      → new.live ≡ put_clause old.live n (literals lits) → new.clauses ≡ name_next old.clauses n → new.parities ≡ old.parities
      → s ≡ proof.ClauseOfParity (old.clauses.last + 1) lits (pos p) → TakesLogStep formula old (log.ClauseOfParity n lits id) (Ok (Some s)) new
  takes_clause_of_parity n lits id p s added judged stands e f g is = subst (λ (w : ProofStep). TakesLogStep formula old (log.ClauseOfParity n lits id) (Ok (Some w)) new) (sym is) (
    (added.0, (added.1.0, judged)),
    e,
    λ tables (tied : Tied_ tables).
        let parts : AllHold (naming old.live.parities (id ∷ [])) × AllHold (clause_of_parity (literals lits) (named old.live.parities (id ∷ []))) = ((judged.0, tt), judged.1) in
        let a = named_alike HaveSameForm _ old.live.parities tables.parities old.parities tied.parities (id ∷ []) (names_live old.live.parities (id ∷ []) parts.0) in
        let one : numbers old.parities (id ∷ []) ≡ p ∷ [] = ap (λ o. Rattle.std.specs.List.cons_option o []) stands in
        let alike = subst (λ ns. AreLive tables.parities ns) one a.1 in
        let implied = subst (λ ns. AllHold (clause_of_parity (literals lits) (named tables.parities ns))) one (clause_alike (literals lits) (named old.live.parities (id ∷ [])) (named tables.parities (numbers old.parities (id ∷ []))) a.0 parts.1) in (
          ((p, stands, refl), named_both _ _ f g),
          (
            (let f = free_clause tables lits n tied added in let h = hints_hold tables.parities (p ∷ []) alike in (f.0, (f.1.0, (h.0, (h.1.0, implied))))),
            refl,
            next_clause tables n (literals lits) tied e f g,
          ),
        ),
  )

  -- ---- deletions

  pub keeps_clause : (n : ℕ) (lits : List ℤ) → deleted_id (number_of_clauses formula) (stands_for old.clauses n) ≡ None → new.live ≡ drop_clauses old.live (n ∷ []) → new.clauses ≡ drop_name old.clauses n → new.parities ≡ old.parities
      → TakesLogStep formula old (log.Delete n lits) (Ok None) new
  keeps_clause n lits none e f g = (
    tt,
    e,
    λ tables (tied : Tied_ tables). (
      (ap (clause_deletion old.clauses.last) (sym none), named_both _ _ f g),
      (
        refl,
        moved (drop_clauses old.live (n ∷ [])) tables (both (drop_name old.clauses n) old.parities) e (named_both _ _ f g) (record {
          clauses = tied_kept HaveSame _ old.live.clauses tables.clauses old.clauses tied.clauses n;
          parities = tied.parities;
        }),
      ),
    ),
  )

  pub keeps_parity : (n : ℕ) (lits : List ℤ) → deleted_id (number_of_parities formula) (stands_for old.parities n) ≡ None → new.live ≡ drop_parities old.live (n ∷ []) → new.clauses ≡ old.clauses → new.parities ≡ drop_name old.parities n
      → TakesLogStep formula old (log.DeleteParity n lits) (Ok None) new
  keeps_parity n lits none e f g = (
    tt,
    e,
    λ tables (tied : Tied_ tables). (
      (ap parity_deletion (sym none), named_both _ _ f g),
      (
        refl,
        moved (drop_parities old.live (n ∷ [])) tables (both old.clauses (drop_name old.parities n)) e (named_both _ _ f g) (record {
          clauses = tied.clauses;
          parities = tied_kept HaveSameForm _ old.live.parities tables.parities old.parities tied.parities n;
        }),
      ),
    ),
  )

  -- the id that is deleted is that of an added one
  deleted_is : (count p : ℕ) (o : Option ℕ) → deleted_id count o ≡ Some p → (o ≡ Some p) × (count < p)
  deleted_is count p None h = cc
  deleted_is count p (Some q) h = elim (nat_lt count q) as (λ b. nat_lt count q ≡ b → cond b (Some q) None ≡ Some p → (Some q ≡ Some p) × (count < p)) [
    | true ↦ λ e k. (k, subst (λ x. count < x) (same_Some q p k) (Rattle.std.proofs.Common.ltb-true count q e))
    | false ↦ λ e k. cc
  ] refl h

  pub deletes_clause : (n p front : ℕ) (lits : List ℤ) (s : ProofStep) → deleted_id (number_of_clauses formula) (stands_for old.clauses n) ≡ Some p → (p ≤ old.clauses.last → front ≡ old.clauses.last)
      → new.live ≡ drop_clauses old.live (n ∷ []) → new.clauses ≡ drop_name old.clauses n → new.parities ≡ old.parities
      → s ≡ proof.DeleteClauses front (p ∷ []) → TakesLogStep formula old (log.Delete n lits) (Ok (Some s)) new
  deletes_clause n p front lits s some at e f g is = subst (λ (w : ProofStep). TakesLogStep formula old (log.Delete n lits) (Ok (Some w)) new) (sym is) (
    tt,
    e,
    λ tables (tied : Tied_ tables).
        let d = deleted_is (number_of_clauses formula) p (stands_for old.clauses n) some in
        let below = named_below HaveSame _ old.live.clauses tables.clauses old.clauses tied.clauses n p d.0 in (
          ((λ i. proof.DeleteClauses (at below i) (p ∷ []) ∷ []) ∙ ap (clause_deletion old.clauses.last) (sym some), named_both _ _ f g),
          (
            tt,
            refl,
            moved (drop_clauses old.live (n ∷ [])) (drop_clauses tables (p ∷ [])) (both (drop_name old.clauses n) old.parities) e (named_both _ _ f g) (record {
              clauses = tied_deleted HaveSame _ old.live.clauses tables.clauses old.clauses tied.clauses n p d.0 d.1;
              parities = tied.parities;
            }),
          ),
        ),
  )

  pub deletes_parity : (n p : ℕ) (lits : List ℤ) (s : ProofStep) → deleted_id (number_of_parities formula) (stands_for old.parities n) ≡ Some p
      → new.live ≡ drop_parities old.live (n ∷ []) → new.clauses ≡ old.clauses → new.parities ≡ drop_name old.parities n
      → s ≡ proof.DeleteParities (p ∷ []) → TakesLogStep formula old (log.DeleteParity n lits) (Ok (Some s)) new
  deletes_parity n p lits s some e f g is = subst (λ (w : ProofStep). TakesLogStep formula old (log.DeleteParity n lits) (Ok (Some w)) new) (sym is) (
    tt,
    e,
    λ tables (tied : Tied_ tables).
        let d = deleted_is (number_of_parities formula) p (stands_for old.parities n) some in (
          (ap parity_deletion (sym some), named_both _ _ f g),
          (
            tt,
            refl,
            moved (drop_parities old.live (n ∷ [])) (drop_parities tables (p ∷ [])) (both old.clauses (drop_name old.parities n)) e (named_both _ _ f g) (record {
              clauses = tied.clauses;
              parities = tied_deleted HaveSameForm _ old.live.parities tables.parities old.parities tied.parities n p d.0 d.1;
            }),
          ),
        ),
  )

-- a clause without hints is one with none
pub taken_without_hints : (formula : Problem) (old new : State) (n : ℕ) (lits : List ℤ) (r : Result (Option ProofStep) JudgeRefusal)
    → TakesLogStep formula old (log.ClauseWithHints n lits []) r new → TakesLogStep formula old (log.Clause n lits) r new
taken_without_hints formula old new n lits (Ok None) h = h
taken_without_hints formula old new n lits (Ok (Some s)) h = h
taken_without_hints formula old new n lits (Err why) h = h
