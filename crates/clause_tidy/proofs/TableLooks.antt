-- What a table answers once a clause is put or taken out.
use Rattle.std.proofs.Common.{◌≡◌, ◌≢◌, refl, ap, ◌∙◌, ℕ, false, cond, nat_eq, eqb-true, eq-eqb, List, Option, Some, None}
use Rattle.std.specs.FinMap as map_
use Rattle.cx_base.specs.Literals.{Literal}
use Rattle.cx_semantics.specs.Tables.{Table, get}
use Rattle.cx_semantics.proofs.Lookups.{Looks-insert, Looks-remove}
use Rattle.tidy_rules.specs.Runs.{KeepsFree}
use Rattle.clause_tidy.proofs.Literals.{by_cases}

apart : (m n : ℕ) → m ≢ n → nat_eq m n ≡ false
apart m n h = by_cases (nat_eq m n) (λ e. absurd (h (eqb-true m n e))) (λ e. e)

pub put_same : (table : Table) (n : ℕ) (lits : List Literal) → get (map_.insert table n lits) n ≡ Some lits
put_same table n lits = Looks-insert table (get table) n lits (λ _. refl) n ∙ ap (λ b. cond b (Some lits) (get table n)) (eq-eqb n n refl)

pub put_other : (table : Table) (n m : ℕ) (lits : List Literal) → m ≢ n → get (map_.insert table n lits) m ≡ get table m
put_other table n m lits h = Looks-insert table (get table) n lits (λ _. refl) m ∙ ap (λ b. cond b (Some lits) (get table m)) (apart m n h)

pub drop_other : (table : Table) (n m : ℕ) → m ≢ n → get (map_.remove table n) m ≡ get table m
drop_other table n m h = Looks-remove table (get table) n (λ _. refl) m ∙ ap (λ b. cond b None (get table m)) (apart m n h)

pub drop_same : (table : Table) (n : ℕ) → get (map_.remove table n) n ≡ None
drop_same table n = Looks-remove table (get table) n (λ _. refl) n ∙ ap (λ b. cond b None (get table n)) (eq-eqb n n refl)

pub drop_keeps_free : (table : Table) (n : ℕ) → KeepsFree table (map_.remove table n)
drop_keeps_free table n m free = by_cases (nat_eq m n)
    (λ e. Looks-remove table (get table) n (λ _. refl) m ∙ ap (λ b. cond b None (get table m)) e)
    (λ e. Looks-remove table (get table) n (λ _. refl) m ∙ ap (λ b. cond b None (get table m)) e ∙ free)

pub no_clause : (x : List Literal) → ◌≡◌ {A = Option (List Literal)} (Some x) None → ⊥
no_clause x q = cc
