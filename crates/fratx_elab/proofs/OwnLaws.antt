-- Ids that stand for themselves, and one for which another number may stand.
use Rattle.std.proofs.Common.{◌≡◌, ◌≢◌, refl, sym, ap, ◌∙◌, subst, ℕ, Bool, cond, ◌||◌, List, [], ◌∷◌, map, Option, Some, None, is_some, is_eq, nat_cmp, rules, eqb-true, eq-eqb, ◌<◌, length, get_or, true, false}
use Rattle.std.specs.Cmp.{nat_cmp_total, unsigned_tied}
use Rattle.std.specs.Ordering.{eq_by_cmp}
use Rattle.std.proofs.lemmas.List.Folds.{list_any_at}
use Rattle.std.proofs.lemmas.Option.{same_Some, none-some}
use Rattle.std.specs.List.{list_any}
use Rattle.std.specs.FinMap as map_
use Rattle.fratx_elab.specs.Names.{IsProofId}
use Rattle.fratx_elab.specs.OwnIds.{each_itself, AreProofIds}
use Rattle.proof_rules.specs.Places.{HasKeys}
use Rattle.fratx_elab.proofs.TieLaws.{At, at_it, elsewhere, at_put}

-- ---- sets of ids that stand for themselves

find-each_itself : (q : ℕ) (ns : List ℕ) → map_.find nat_cmp q (map (λ n. (n, n)) ns) ≡ cond (list_any (eq_by_cmp nat_cmp q) ns) (Some q) None
find-each_itself q [] = refl
find-each_itself q (n ∷ ns) = elim (is_eq (nat_cmp q n)) as (λ b. is_eq (nat_cmp q n) ≡ b → cond b (Some n) (map_.find nat_cmp q (map (λ n. (n, n)) ns)) ≡ cond (b || list_any (eq_by_cmp nat_cmp q) ns) (Some q) None) [
  | true ↦ λ e. ap Some (sym (eqb-true q n (sym (unsigned_tied q n) ∙ e)))
  | false ↦ λ e. find-each_itself q ns
] refl

pub get-each_itself : {V : Type 0} (ids : map_.FinMap nat_cmp V) (q : ℕ) → map_.get (each_itself ids) q ≡ cond (map_.contains_key ids q) (Some q) None
get-each_itself ids q = map_.get-from_entries nat_cmp_total (map (λ n. (n, n)) (map_.keys ids)) q ∙ find-each_itself q (map_.keys ids) ∙ ap (λ b. cond b (Some q) None) (sym (map_.contains_key-keys ids q))

-- one more id that stands for itself
pub get-insert_itself : (numbers : map_.FinMap nat_cmp ℕ) (n q : ℕ) (b : Bool) → map_.get numbers q ≡ cond b (Some q) None → map_.get (map_.insert numbers n n) q ≡ cond (eq_by_cmp nat_cmp q n || b) (Some q) None
get-insert_itself numbers n q b h =
    map_.get-insert nat_cmp_total numbers n n q ∙ ap (cond (eq_by_cmp nat_cmp q n) (Some n)) h ∙ by (eq_by_cmp nat_cmp q n) (λ e. eqb-true q n (sym (unsigned_tied q n) ∙ e))
  where
    by : (here : Bool) → (here ≡ true → q ≡ n) → cond here (Some n) (cond b (Some q) None) ≡ cond (here || b) (Some q) None
    by true same = ap Some (sym (same refl))
    by false same = refl

pub each_itself-empty : (V : Type 0) → each_itself (map_.empty {X = V}) ≡ map_.empty
each_itself-empty V = map_.same_map nat_cmp_total map_.nat_cmp-IsAntisymmetric _ _ (λ q. grind (map_.gets, rules, get-each_itself {V = V}))

module _ {V : Type 0} (ids : map_.FinMap nat_cmp V) where
  pub stand_themselves : (n p : ℕ) → map_.get (each_itself ids) n ≡ Some p → p ≡ n
  stand_themselves n p g = grind (rules, get-each_itself)

  pub stand_within : AreProofIds ids → (n p : ℕ) → map_.get (each_itself ids) n ≡ Some p → IsProofId p
  stand_within are n p g = go (map_.contains_key ids n) refl (sym (get-each_itself ids n) ∙ g)
    where
      go : (b : Bool) → map_.contains_key ids n ≡ b → cond b (Some n) None ≡ Some p → IsProofId p
      go true has same = subst IsProofId (same_Some n p same) (are n has)
      go false has same = absurd (none-some p same)

  -- the numbers that stand for the listed ids of the set
  pub all_themselves : (listed : List ℕ) (numbers : map_.FinMap nat_cmp ℕ) → HasKeys ids listed → ((q : ℕ) → map_.get numbers q ≡ cond (list_any (eq_by_cmp nat_cmp q) listed) (Some q) None) → numbers ≡ each_itself ids
  all_themselves listed numbers h are = map_.same_map nat_cmp_total map_.nat_cmp-IsAntisymmetric _ _ (λ q. are q ∙ ap (λ b. cond b (Some q) None) (h q) ∙ sym (get-each_itself ids q))

  -- a listed id is one that a proof may have
  pub listed_id : (listed : List ℕ) (i : ℕ) → HasKeys ids listed → AreProofIds ids → i < length listed → IsProofId (get_or listed i 0)
  listed_id listed i h are less = let n = get_or listed i 0 in are n (sym (h n) ∙ list_any_at (eq_by_cmp nat_cmp n) listed i 0 less (unsigned_tied n n ∙ eq-eqb n n refl))

  pub each_itself-insert : (n : ℕ) (v : V) → each_itself (map_.insert ids n v) ≡ map_.insert (each_itself ids) n n
  each_itself-insert n v = map_.same_map nat_cmp_total map_.nat_cmp-IsAntisymmetric _ _ (λ q.
      get-each_itself (map_.insert ids n v) q ∙ ap (λ o. cond (is_some o) (Some q) None) (map_.get-insert nat_cmp_total ids n v q)
      ∙ ap (λ b. cond b (Some q) None) (has (eq_by_cmp nat_cmp q n) (map_.get ids q))
      ∙ sym (get-insert_itself (each_itself ids) n q (map_.contains_key ids q) (get-each_itself ids q)))
    where
      has : (b : Bool) (o : Option V) → is_some (cond b (Some v) o) ≡ (b || is_some o)
      has true o = refl
      has false o = refl

  pub each_itself-remove : (n : ℕ) → each_itself (map_.remove ids n) ≡ map_.remove (each_itself ids) n
  each_itself-remove n = map_.same_map nat_cmp_total map_.nat_cmp-IsAntisymmetric _ _ (λ q. grind (map_.gets, rules, get-each_itself))

  pub one_more_id : (n : ℕ) (v : V) → AreProofIds ids → IsProofId n → AreProofIds (map_.insert ids n v)
  one_more_id n v h is m g = go (at_put ids n v m)
    where
      go : At m n (Some v) (map_.get ids m) (map_.get (map_.insert ids n v) m) → IsProofId m
      go (at_it e f) = subst IsProofId (sym e) is
      go (elsewhere e f) = h m (sym (ap is_some f) ∙ g)

  pub one_less_id : (n : ℕ) → AreProofIds ids → AreProofIds (map_.remove ids n)
  one_less_id n h m g = grind (map_.gets, rules, h m)

-- ---- one id more

module _ (m : map_.FinMap nat_cmp ℕ) (k v : ℕ) where
  same_by : (a b : map_.FinMap nat_cmp ℕ) → ((q : ℕ) → map_.get a q ≡ map_.get b q) → a ≡ b
  same_by = map_.same_map nat_cmp_total map_.nat_cmp-IsAntisymmetric

  pub put_twice : (w : ℕ) → map_.insert (map_.insert m k v) k w ≡ map_.insert m k w
  put_twice w = same_by _ _ (λ q. grind (map_.gets, rules))

  pub put_apart : (n w : ℕ) → n ≢ k → map_.insert (map_.insert m k v) n w ≡ map_.insert (map_.insert m n w) k v
  put_apart n w h = same_by _ _ (λ q. grind (map_.gets, rules))

  pub dropped : map_.remove (map_.insert m k v) k ≡ map_.remove m k
  dropped = same_by _ _ (λ q. grind (map_.gets, rules))

  pub dropped_apart : (n : ℕ) → n ≢ k → map_.remove (map_.insert m k v) n ≡ map_.insert (map_.remove m n) k v
  dropped_apart n h = same_by _ _ (λ q. grind (map_.gets, rules))

  pub got : map_.get (map_.insert m k v) k ≡ Some v
  got = grind (map_.gets, rules)

  pub got_apart : (n : ℕ) → n ≢ k → map_.get (map_.insert m k v) n ≡ map_.get m n
  got_apart n h = grind (map_.gets, rules)
