-- An ordered map with keys that are numbers, by its entries.
use Rattle.std.proofs.Common.{◌≡◌, refl, sym, ap, ◌∙◌, ℕ, cond, List, [], ◌∷◌, Option, Some, None, nat_cmp, is_eq}
use Rattle.std.specs.Map.{lookup}
use Rattle.std.specs.Cmp.{nat_cmp_total, unsigned_tied, nat_eq_equiv}
use Rattle.std.specs.FinMap as map

abbrev pub look : {V : Type 0} → ℕ → List (ℕ × V) → Option V
look q es = lookup (λ k. is_eq (nat_cmp q k)) es

find-lookup : {V : Type 0} (q : ℕ) (es : List (ℕ × V)) → map.find nat_cmp q es ≡ look q es
find-lookup q [] = refl
find-lookup q (e ∷ es) = ap (cond (is_eq (nat_cmp q e.0)) (Some e.1)) (find-lookup q es)

-- the map of the entries answers as the first entry with the key does
pub get-from_entries : {V : Type 0} (es : List (ℕ × V)) (q : ℕ) → map.get {R = nat_cmp} (map.from_entries es) q ≡ look q es
get-from_entries es q = map.get-from_entries nat_cmp_total es q ∙ find-lookup q es

turned : (k q : ℕ) → is_eq (nat_cmp k q) ≡ is_eq (nat_cmp q k)
turned k q = unsigned_tied k q ∙ nat_eq_equiv.symm k q ∙ sym (unsigned_tied q k)

pub from_entries-insert : {V : Type 0} (es fs : List (ℕ × V)) (k : ℕ) (v : V) → ((q : ℕ) → look q fs ≡ cond (is_eq (nat_cmp k q)) (Some v) (look q es)) → ◌≡◌ {A = map.FinMap nat_cmp V} (map.from_entries fs) (map.insert (map.from_entries es) k v)
from_entries-insert es fs k v h = map.same_map nat_cmp_total map.nat_cmp-IsAntisymmetric _ _ (λ q.
    get-from_entries fs q ∙ h q ∙ (λ i. cond (turned k q i) (Some v) (sym (get-from_entries es q) i)) ∙ sym (map.get-insert nat_cmp_total (map.from_entries es) k v q))

pub from_entries-remove : {V : Type 0} (es fs : List (ℕ × V)) (k : ℕ) → ((q : ℕ) → look q fs ≡ cond (is_eq (nat_cmp k q)) None (look q es)) → ◌≡◌ {A = map.FinMap nat_cmp V} (map.from_entries fs) (map.remove (map.from_entries es) k)
from_entries-remove es fs k h = map.same_map nat_cmp_total map.nat_cmp-IsAntisymmetric _ _ (λ q.
    get-from_entries fs q ∙ h q ∙ (λ i. cond (turned k q i) None (sym (get-from_entries es q) i)) ∙ sym (map.get-remove nat_cmp_total (map.from_entries es) k q))
