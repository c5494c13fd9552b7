-- A name put into a set or taken out of it.
use Rattle.std.proofs.Common.{◌≡◌, refl, sym, subst, ℕ, nat_eq, false, not, ◌&&◌, ◌||◌, Result, Ok, Err, OnOk}
use Rattle.proof_rules.specs.declared.live.Kind.{Kind}
use Rattle.proof_rules.specs.declared.live.Kind.TheVariants.{Clauses, Parities}
use Rattle.proof_trim.specs.declared.ids.IdSet.{IdSet}
use Rattle.proof_trim.specs.declared.names.NameSet.{NameSet}
use Rattle.proof_trim.specs.IdSets.{HasIds, has_id}
use Rattle.proof_trim.specs.Names.{clause, parity, same_name}
use Rattle.proof_trim.specs.NameSets.{Has, has_name, name_of}

abbrev pub set_of : IdSet → IdSet → NameSet
set_of clauses parities = record { clauses = clauses; parities = parities }

pub when_ok : {T E : Type 0} (r : Result T E) (P Q : Type 0) → (P → Q) → OnOk r P → OnOk r Q
when_ok (Ok x) P Q f p = f p
when_ok (Err e) P Q f p = tt

pub has_none : (a b : IdSet) → HasIds a (λ n. false) → HasIds b (λ n. false) → Has (set_of a b) (λ name. false)
has_none a b e f (clause n) = e n
has_none a b e f (parity n) = f n

module _ (old : NameSet) (n : ℕ) (new : IdSet) where
  clause_in : HasIds new (λ k. nat_eq k n || has_id old.clauses k) → Has (set_of new old.parities) (λ name. same_name name (clause n) || has_name old name)
  clause_in e (clause k) = e k
  clause_in e (parity k) = refl

  parity_in : HasIds new (λ k. nat_eq k n || has_id old.parities k) → Has (set_of old.clauses new) (λ name. same_name name (parity n) || has_name old name)
  parity_in e (clause k) = refl
  parity_in e (parity k) = e k

  clause_out : HasIds new (λ k. not (nat_eq k n) && has_id old.clauses k) → Has (set_of new old.parities) (λ name. not (same_name name (clause n)) && has_name old name)
  clause_out e (clause k) = e k
  clause_out e (parity k) = refl

  parity_out : HasIds new (λ k. not (nat_eq k n) && has_id old.parities k) → Has (set_of old.clauses new) (λ name. not (same_name name (parity n)) && has_name old name)
  parity_out e (clause k) = refl
  parity_out e (parity k) = e k

  module _ (kind : Kind) where
    pub insert_clause : kind ≡ Clauses → HasIds new (λ k. nat_eq k n || has_id old.clauses k) → Has (set_of new old.parities) (λ name. same_name name (name_of kind n) || has_name old name)
    insert_clause is e = subst (λ (k : Kind). Has (set_of new old.parities) (λ name. same_name name (name_of k n) || has_name old name)) (sym is) (clause_in e)

    pub insert_parity : kind ≡ Parities → HasIds new (λ k. nat_eq k n || has_id old.parities k) → Has (set_of old.clauses new) (λ name. same_name name (name_of kind n) || has_name old name)
    insert_parity is e = subst (λ (k : Kind). Has (set_of old.clauses new) (λ name. same_name name (name_of k n) || has_name old name)) (sym is) (parity_in e)

    pub remove_clause : kind ≡ Clauses → HasIds new (λ k. not (nat_eq k n) && has_id old.clauses k) → Has (set_of new old.parities) (λ name. not (same_name name (name_of kind n)) && has_name old name)
    remove_clause is e = subst (λ (k : Kind). Has (set_of new old.parities) (λ name. not (same_name name (name_of k n)) && has_name old name)) (sym is) (clause_out e)

    pub remove_parity : kind ≡ Parities → HasIds new (λ k. not (nat_eq k n) && has_id old.parities k) → Has (set_of old.clauses new) (λ name. not (same_name name (name_of kind n)) && has_name old name)
    remove_parity is e = subst (λ (k : Kind). Has (set_of old.clauses new) (λ name. not (same_name name (name_of k n)) && has_name old name)) (sym is) (parity_out e)
