-- The links of nodes and what they keep of clauses.
use Rattle.std.proofs.Common.{◌≡◌, ℕ, zero, suc, ◌-◌, ◌<◌, ◌≤◌, List, ◌∷◌, ◌++◌, length, get_or, set, take, replicate, sym, ap, ◌∙◌, subst, refl, ⊎_elim, arith}
use Rattle.std.proofs.lemmas.Bool.{cases_lt}
use Rattle.std.proofs.lemmas.List.{length-map, get_or-map, map-set, map-append, take_all, get_or-append_right, get_or-replicate, get_or_past, length-replicate}
use Rattle.std.proofs.Math.Seq.{map-set_same}
use Rattle.watch_lists.specs.declared.lists.Node.{Node}
use Rattle.watch_lists.specs.declared.lists.Side.{Side}
use Rattle.watch_lists.specs.Watching.{held_at, side_at, no_side}
use Rattle.watch_lists.specs.Links.{links_of, held_of}

pub links_count : (nodes : List Node) → length (links_of nodes) ≡ length nodes
links_count nodes = length-map nodes (λ (n : Node). n.next)

pub held_count : (nodes : List Node) → length (held_of nodes) ≡ length nodes
held_count nodes = length-map nodes (λ (n : Node). n.side)

pub link_read : (nodes : List Node) (i : ℕ) (n : Node) → i < length nodes → n ≡ get_or nodes i n → n.next ≡ get_or (links_of nodes) i n.next
link_read nodes i n b e = ap (λ (x : Node). x.next) e ∙ sym (get_or-map (λ (x : Node). x.next) nodes i n n.next b)

pub held_read : (nodes : List Node) (i : ℕ) (n : Node) → i < length nodes → n ≡ get_or nodes i n → n.side ≡ side_at (held_of nodes) i
held_read nodes i n b e = ap (λ (x : Node). x.side) e ∙ sym (get_or-map (λ (x : Node). x.side) nodes i n no_side b)

-- a node gets another link
pub linked_links : (nodes : List Node) (i x : ℕ) (n : Node) → links_of (set nodes i (record { side = n.side; next = x })) ≡ set (links_of nodes) i x
linked_links nodes i x n = map-set (λ (m : Node). m.next) nodes i (record { side = n.side; next = x })

pub linked_held : (nodes : List Node) (i x : ℕ) (n : Node) → n ≡ get_or nodes i n → held_of (set nodes i (record { side = n.side; next = x })) ≡ held_of nodes
linked_held nodes i x n e = map-set_same (λ (m : Node). m.side) nodes i (record { side = n.side; next = x }) n (ap (λ (m : Node). m.side) e)

-- a node gets another side
pub watched_held : (nodes : List Node) (i : ℕ) (l : Side) (n : Node) → held_of (set nodes i (record { side = l; next = n.next })) ≡ set (held_of nodes) i l
watched_held nodes i l n = map-set (λ (m : Node). m.side) nodes i (record { side = l; next = n.next })

pub watched_links : (nodes : List Node) (i : ℕ) (l : Side) (n : Node) → n ≡ get_or nodes i n → links_of (set nodes i (record { side = l; next = n.next })) ≡ links_of nodes
watched_links nodes i l n e = map-set_same (λ (m : Node). m.next) nodes i (record { side = l; next = n.next }) n (ap (λ (m : Node). m.next) e)

links_replicate : (k : ℕ) (n : Node) → links_of (replicate k n) ≡ replicate k n.next
links_replicate zero n = refl
links_replicate (suc k) n = ap (λ (xs : List ℕ). n.next ∷ xs) (links_replicate k n)

held_replicate : (k : ℕ) (n : Node) → held_of (replicate k n) ≡ replicate k n.side
held_replicate zero n = refl
held_replicate (suc k) n = ap (λ (xs : List Side). n.side ∷ xs) (held_replicate k n)

-- new nodes, all alike
pub grown_links : (n m : ℕ) (nodes more : List Node) (it : Node) → length nodes ≤ n → more ≡ take n nodes ++ replicate (n - m) it → links_of more ≡ links_of nodes ++ replicate (n - m) it.next
grown_links n m nodes more it h e =
    let whole : more ≡ nodes ++ replicate (n - m) it = e ∙ ap (λ (xs : List Node). xs ++ replicate (n - m) it) (take_all n nodes h) in
    ap links_of whole ∙ map-append (λ (x : Node). x.next) nodes (replicate (n - m) it) ∙ ap (λ (xs : List ℕ). links_of nodes ++ xs) (links_replicate (n - m) it)

pub grown_held : (n m : ℕ) (nodes more : List Node) (it : Node) → length nodes ≤ n → more ≡ take n nodes ++ replicate (n - m) it → held_of more ≡ held_of nodes ++ replicate (n - m) it.side
grown_held n m nodes more it h e =
    let whole : more ≡ nodes ++ replicate (n - m) it = e ∙ ap (λ (xs : List Node). xs ++ replicate (n - m) it) (take_all n nodes h) in
    ap held_of whole ∙ map-append (λ (x : Node). x.side) nodes (replicate (n - m) it) ∙ ap (λ (xs : List Side). held_of nodes ++ xs) (held_replicate (n - m) it)

pub grown_low : (held more : List Side) (k : ℕ) (it : Side) → more ≡ held ++ replicate k it → it.watched.variable ≤ 1 → (i : ℕ) → length held ≤ i → (held_at more i).variable ≤ 1
grown_low held more k it e low i h =
    let at : side_at more i ≡ side_at (replicate k it) (i - length held) = ap (λ (xs : List Side). side_at xs i) e ∙ get_or-append_right held (replicate k it) (length held) i no_side refl h in
    subst (λ (s : Side). s.watched.variable ≤ 1) (sym at) (⊎_elim
    (λ (b : i - length held < k). subst (λ (s : Side). s.watched.variable ≤ 1) (sym (get_or-replicate k (i - length held) it no_side b)) low)
    (λ (b : k ≤ i - length held). subst (λ (s : Side). s.watched.variable ≤ 1) (sym (get_or_past (replicate k it) (i - length held) no_side (omega (arith, length-replicate k it)))) (omega arith))
    (cases_lt (i - length held) k))
