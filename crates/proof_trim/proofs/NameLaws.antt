-- What sets of names have.
use Rattle.std.proofs.Common.{◌≡◌, refl, sym, ap, ◌∙◌, ℕ, ℤ, nat_abs, nat_eq, eqb-true, true≢false, Bool, true, false, cond, not, ◌&&◌, ◌||◌, List, ◌∷◌, Option, Some, None, is_some}
use Rattle.std.specs.Ordering.{nat_cmp}
use Rattle.std.specs.Cmp.{nat_cmp_total, unsigned_tied}
use Rattle.std.specs.FinMap as map_
use Rattle.proof_rules.specs.declared.live.Kind.{Kind}
use Rattle.proof_rules.specs.declared.live.Kind.TheVariants.{Clauses, Parities}
use Rattle.proof_trim.specs.Names.{Name, clause, parity, same_name}
use Rattle.proof_trim.specs.NameSets.{name_of, hinted_as}

some_cond : {V : Type 0} (b : Bool) (v : V) (o : Option V) → is_some (cond b (Some v) o) ≡ b || is_some o
some_cond true v o = refl
some_cond false v o = refl

none_cond : {V : Type 0} (b : Bool) (o : Option V) → is_some (cond b None o) ≡ not b && is_some o
none_cond true o = refl
none_cond false o = refl

pub contains-inserted : {V : Type 0} (m : map_.FinMap nat_cmp V) (n : ℕ) (v : V) (k : ℕ) → map_.contains_key (map_.insert m n v) k ≡ nat_eq k n || map_.contains_key m k
contains-inserted m n v k =
    ap is_some (map_.get-insert nat_cmp_total m n v k ∙ ap (λ b. cond b (Some v) (map_.get m k)) (unsigned_tied k n)) ∙ some_cond (nat_eq k n) v (map_.get m k)

pub contains-removed : {V : Type 0} (m : map_.FinMap nat_cmp V) (n k : ℕ) → map_.contains_key (map_.remove m n) k ≡ not (nat_eq k n) && map_.contains_key m k
contains-removed m n k =
    ap is_some (map_.get-remove nat_cmp_total m n k ∙ ap (λ b. cond b None (map_.get m k)) (unsigned_tied k n)) ∙ none_cond (nat_eq k n) (map_.get m k)

pub hinted_more : (kind : Kind) (z : ℤ) (hints : List ℤ) (name : Name) → hinted_as kind (z ∷ hints) name ≡ same_name name (name_of kind (nat_abs z)) || hinted_as kind hints name
hinted_more Clauses z hints name = refl
hinted_more Parities z hints name = refl

-- one hint less to come, and one name more
pub or_moved : (a b c : Bool) → ((a || b) || c) ≡ (b || (a || c))
or_moved true true c = refl
or_moved true false c = refl
or_moved false b c = refl

-- one id less to come, and one name less
pub and_moved : (a b c : Bool) → (not (a || b) && c) ≡ (not b && (not a && c))
and_moved true true c = refl
and_moved true false c = refl
and_moved false b c = refl

pub or_joined : (a b c : Bool) → (a || (b || c)) ≡ ((a || b) || c)
or_joined true b c = refl
or_joined false b c = refl

pub both_ways : (a b : Bool) → (a ≡ true → b ≡ true) → (b ≡ true → a ≡ true) → a ≡ b
both_ways true b f g = sym (f refl)
both_ways false true f g = g refl
both_ways false false f g = refl

same_is : (a b : Name) → same_name a b ≡ true → a ≡ b
same_is (clause n) (clause m) e = ap clause (eqb-true n m e)
same_is (clause n) (parity m) e = absurd (true≢false (sym e))
same_is (parity n) (clause m) e = absurd (true≢false (sym e))
same_is (parity n) (parity m) e = ap parity (eqb-true n m e)

out_by : (test : Name → Bool) (n name : Name) (b : Bool) → same_name name n ≡ b → test n ≡ false → test name ≡ (not b && test name)
out_by test n name true is gone = ap test (same_is name n is) ∙ gone
out_by test n name false is gone = refl

-- a name that is not in a set is taken out by doing nothing
pub out_already : (test : Name → Bool) (n name : Name) → test n ≡ false → test name ≡ (not (same_name name n) && test name)
out_already test n name gone = out_by test n name (same_name name n) refl gone
