-- Watches of clauses that have new references.
use Rattle.std.proofs.Common.{◌≡◌, ◌≢◌, ℕ, zero, suc, ◌<◌, ◌+◌, ◌*◌, ◌%◌, ◌≤◌, Bool, false, List, [], ◌∷◌, length, get_or, set, map, Option, Some, None, is_some, sym, ap, ◌∙◌, subst, refl, ⊎_elim, arith}
use Rattle.std.specs.List.{Contains, All}
use Rattle.std.proofs.lemmas.Bool.{cases_eq, cases_lt, false≢true}
use Rattle.std.proofs.lemmas.List.{get_or-set_same, get_or-set_other, length-set, length-map}
use Rattle.cx_base.specs.Literals.{code_of, Literal, negate}
use Rattle.cx_base.specs.declared.moved.Move.{Move}
use Rattle.cx_base.specs.Moved.{moved_to}
use Rattle.cx_trail.specs.declared.entry.Entry.{Entry}
use Rattle.cx_trail.specs.Sequence.{TrailState, entry_at, IsTrueBy}
use Rattle.cx_trail.specs.Renaming.{renamed}
use Rattle.clause_arena.specs.Clauses.{ArenaState, clause_at, literals_at, literals_in, IsLive}
use Rattle.clause_arena.specs.Compact.{IsRenamed}
use Rattle.clause_arena.proofs.PackingLaws.{live_within}
use Rattle.watch_lists.specs.declared.lists.Side.{Side}
use Rattle.watch_lists.specs.Watching.{clause_of, partner, side_at, held_at, no_side, IsAttached, IsThird, IsBehind, Fits, WatchState}
use Rattle.watch_lists.specs.Detaching.{HaveLists}
use Rattle.watch_lists.specs.Renaming.{AreLowered, AreRenamed, AreRenamedBelow, HasWatchesOf}
use Rattle.watch_lists.proofs.AttachLaws.{partner_first, partner_second}
use Rattle.watch_lists.proofs.NodeLaws.{clause_in}

-- ---- one clause more
pub renamed_none : (moves : List Move) (held : List Side) (attached : List Bool) → AreRenamedBelow moves 0 held attached held attached
renamed_none moves held attached = record {
  held_count = refl;
  count = refl;
  kept = λ r s h. absurd (omega arith);
  only = λ s h. absurd (omega arith);
  flags = λ r h. refl;
  sides = λ n h. refl;
}

-- one literal of a clause and another one of another clause are at different nodes
other_node : (r s a b : ℕ) → r ≢ s → a < 2 → b < 2 → 2 * r + a ≢ 2 * s + b
other_node r s a b ne fa fb e = ne (omega arith)

pub some_same : (a b : ℕ) → ◌≡◌ {A = Option ℕ} (Some a) (Some b) → a ≡ b
some_same a b e = cc

-- it has no new reference
pub renamed_past : (moves : List Move) (place : ℕ) (held : List Side) (attached : List Bool) (h1 : List Side) (b1 b2 : List Bool)
    → AreLowered moves → moved_to moves place ≡ None → place < length b1 → b2 ≡ set b1 place false → AreRenamedBelow moves place held attached h1 b1 → AreRenamedBelow moves (place + 1) held attached h1 b2
renamed_past moves place held attached h1 b1 b2 low gone inside eb p =
    let here : get_or b2 place false ≡ false = ap (λ (xs : List Bool). get_or xs place false) eb ∙ get_or-set_same b1 place false false inside in
    let elsewhere : (r : ℕ) → r ≢ place → get_or b2 r false ≡ get_or b1 r false = λ r ne. ap (λ (xs : List Bool). get_or xs r false) eb ∙ get_or-set_other b1 place r false false ne in
    let not_here : (r : ℕ) → IsAttached b2 r → r ≢ place = λ r h e. false≢true (sym here ∙ ap (λ x. get_or b2 x false) (sym e) ∙ h) in
    let stays : (r s : ℕ) → moved_to moves r ≡ Some s → r ≢ place = λ r s e same. no_reference s (sym gone ∙ ap (moved_to moves) (sym same) ∙ e) in
    record {
      held_count = p.held_count;
      count = ap length eb ∙ length-set b1 place false ∙ p.count;
      kept = λ r s h e at.
          let ne = stays r s e in
          let less : r < place = omega (arith, ne) in
          let below = low.lower r s e in
          let w = p.kept r s less e at in
          (elsewhere s (λ q. omega (arith, less, below)) ∙ w.0, w.1);
      only = λ s h at. let ne = not_here s at in let w = p.only s (omega (arith, ne)) (sym (elsewhere s ne) ∙ at) in (w.0, omega (arith, w.1), w.2, w.3);
      flags = λ r h. elsewhere r (λ e. omega arith) ∙ p.flags r (omega arith);
      sides = λ n h. p.sides n (omega arith);
    }
  where
    no_reference : (s : ℕ) → ◌≡◌ {A = Option ℕ} None (Some s) → ⊥
    no_reference s e = cc

-- it has one
module _ (moves : List Move) (place to : ℕ) (held : List Side) (attached : List Bool) (h1 h2 : List Side) (b1 b2 : List Bool) (flag : Bool) (first second : Side)
    (low : AreLowered moves) (goes : moved_to moves place ≡ Some to) (pairs : length h1 ≡ 2 * length b1) (inside : place < length b1)
    (was : get_or b1 place false ≡ flag) (was_first : side_at h1 (2 * place) ≡ first) (was_second : side_at h1 (2 * place + 1) ≡ second)
    (eh : h2 ≡ set (set h1 (2 * to) first) (2 * to + 1) second) (eb : b2 ≡ set (set b1 place false) to flag) (p : AreRenamedBelow moves place held attached h1 b1) where
  down : to ≤ place
  down = low.lower place to goes

  flag_there : get_or b2 to false ≡ flag
  flag_there =
      let d = down in
      ap (λ (xs : List Bool). get_or xs to false) eb ∙ get_or-set_same (set b1 place false) to flag false (omega (arith, d, inside, length-set b1 place false))

  flag_here : place ≢ to → get_or b2 place false ≡ false
  flag_here ne = ap (λ (xs : List Bool). get_or xs place false) eb ∙ get_or-set_other (set b1 place false) to place flag false ne ∙ get_or-set_same b1 place false false inside

  flag_elsewhere : (r : ℕ) → r ≢ to → r ≢ place → get_or b2 r false ≡ get_or b1 r false
  flag_elsewhere r ne ne' = ap (λ (xs : List Bool). get_or xs r false) eb ∙ get_or-set_other (set b1 place false) to r flag false ne ∙ get_or-set_other b1 place r false false ne'

  first_there : side_at h2 (2 * to) ≡ first
  first_there =
      let d = down in
      ap (λ (xs : List Side). side_at xs (2 * to)) eh ∙ get_or-set_other (set h1 (2 * to) first) (2 * to + 1) (2 * to) second no_side (λ e. omega arith)
      ∙ get_or-set_same h1 (2 * to) first no_side (omega (arith, d, inside, pairs))

  second_there : side_at h2 (2 * to + 1) ≡ second
  second_there =
      let d = down in
      ap (λ (xs : List Side). side_at xs (2 * to + 1)) eh ∙ get_or-set_same (set h1 (2 * to) first) (2 * to + 1) second no_side (omega (arith, d, inside, pairs, length-set h1 (2 * to) first))

  held_elsewhere : (n : ℕ) → n ≢ 2 * to → n ≢ 2 * to + 1 → side_at h2 n ≡ side_at h1 n
  held_elsewhere n ne ne' = ap (λ (xs : List Side). side_at xs n) eh ∙ get_or-set_other (set h1 (2 * to) first) (2 * to + 1) n second no_side ne' ∙ get_or-set_other h1 (2 * to) n first no_side ne

  both : HasWatchesOf held h2 place to
  both zero less =
      let at : 2 * to + 0 ≡ 2 * to = omega arith in
      let from : 2 * place + 0 ≡ 2 * place = omega arith in
      ap (side_at h2) at ∙ first_there ∙ sym was_first ∙ p.sides (2 * place) (omega arith) ∙ ap (side_at held) (sym from)
  both (suc zero) less = second_there ∙ sym was_second ∙ p.sides (2 * place + 1) (omega arith)
  both (suc (suc n)) less = absurd (omega (arith, less))

  kept_then : (r s : ℕ) → r < place + 1 → moved_to moves r ≡ Some s → IsAttached attached r → IsAttached b2 s × HasWatchesOf held h2 r s
  kept_then r s h e at = ⊎_elim
      (λ (q : r ≡ place).
      let same : to ≡ s = some_same to s (sym goes ∙ ap (moved_to moves) (sym q) ∙ e) in
      let set_then : IsAttached b2 to = flag_there ∙ sym was ∙ p.flags place (omega arith) ∙ subst (IsAttached attached) q at in
      (subst (IsAttached b2) same set_then, subst (λ x. HasWatchesOf held h2 x s) (sym q) (subst (HasWatchesOf held h2 place) same both)))
      (λ (ne : r ≢ place).
      let less : r < place = omega (arith, ne) in
      let below = low.lower r s e in
      let before = low.order r place s to e goes less in
      let w = p.kept r s less e at in (
        flag_elsewhere s (λ q. omega (arith, before)) (λ q. omega (arith, below, less)) ∙ w.0,
        λ side few. held_elsewhere (2 * s + side) (λ q. omega (arith, before, few)) (λ q. omega (arith, before, few)) ∙ w.1 side few,
      )) (cases_eq r place)

  only_then : (s : ℕ) → s < place + 1 → IsAttached b2 s → (r : ℕ) × (r < place + 1) × (moved_to moves r ≡ Some s) × IsAttached attached r
  only_then s h at = ⊎_elim
      (λ (q : s ≡ to).
      let set_before : IsAttached attached place = sym (p.flags place (omega arith)) ∙ was ∙ sym flag_there ∙ subst (IsAttached b2) q at in
      (place, omega arith, goes ∙ ap (λ (x : ℕ). Some x) (sym q), set_before))
      (λ (ne : s ≢ to). ⊎_elim
      (λ (q : s ≡ place). absurd (false≢true (sym (flag_here (λ e. ne (q ∙ e))) ∙ subst (IsAttached b2) q at)))
      (λ (ne' : s ≢ place). let w = p.only s (omega (arith, ne')) (sym (flag_elsewhere s ne ne') ∙ at) in (w.0, omega (arith, w.1), w.2, w.3)) (cases_eq s place)) (cases_eq s to)

  pub renamed_more : AreRenamedBelow moves (place + 1) held attached h2 b2
  renamed_more =
      let d = down in
      record {
        held_count = ap length eh ∙ length-set (set h1 (2 * to) first) (2 * to + 1) second ∙ length-set h1 (2 * to) first ∙ p.held_count;
        count = ap length eb ∙ length-set (set b1 place false) to flag ∙ length-set b1 place false ∙ p.count;
        kept = kept_then;
        only = only_then;
        flags = λ r h. flag_elsewhere r (λ e. omega (arith, d)) (λ e. omega arith) ∙ p.flags r (omega arith);
        sides = λ n h. held_elsewhere n (λ e. omega (arith, d)) (λ e. omega (arith, d)) ∙ p.sides n (omega arith);
      }

-- ---- all clauses
pub are_renamed : (moves : List Move) (w v : WatchState) → v.variables ≡ w.variables → v.looked ≡ w.looked → AreRenamedBelow moves (length w.attached) w.held w.attached v.held v.attached → AreRenamed moves w v
are_renamed moves w v e f p = record {
  variables = e;
  looked = f;
  held_count = p.held_count;
  count = p.count;
  kept = λ r s goes at. p.kept r s (clause_in r w.attached at) goes at;
  only = λ s at. let h = clause_in s v.attached at in let o = p.only s (omega (arith, h, p.count)) at in (o.0, o.2, o.3);
}

-- the node that a node was
record WasNode (moves : List Move) (held : List Side) (attached : List Bool) (new_held : List Side) (n : ℕ) : Type 0 where
  node : ℕ
  goes : moved_to moves (clause_of node) ≡ Some (clause_of n)
  at : IsAttached attached (clause_of node)
  mine : side_at new_held n ≡ side_at held node
  other : side_at new_held (partner n) ≡ side_at held (partner node)

was_node : (moves : List Move) (held : List Side) (attached : List Bool) (new_held : List Side) (n r : ℕ) → moved_to moves r ≡ Some (clause_of n) → IsAttached attached r → HasWatchesOf held new_held r (clause_of n) → WasNode moves held attached new_held n
was_node moves held attached new_held n r goes at both = ⊎_elim
    (λ (z : n % 2 ≡ 0).
    let now : n ≡ 2 * s = omega arith in
    record {
      node = 2 * r;
      goes = ap (moved_to moves) mine_first ∙ goes;
      at = subst (IsAttached attached) (sym mine_first) at;
      mine = ap (side_at new_held) now ∙ first;
      other = ap (λ x. side_at new_held (partner x)) now ∙ ap (side_at new_held) (partner_first s) ∙ second ∙ ap (side_at held) (sym (partner_first r));
    })
    (λ (z : n % 2 ≢ 0).
    let now : n ≡ 2 * s + 1 = omega arith in
    record {
      node = 2 * r + 1;
      goes = ap (moved_to moves) mine_second ∙ goes;
      at = subst (IsAttached attached) (sym mine_second) at;
      mine = ap (side_at new_held) now ∙ second;
      other = ap (λ x. side_at new_held (partner x)) now ∙ ap (side_at new_held) (partner_second s) ∙ first ∙ ap (side_at held) (sym (partner_second r));
    }) (cases_eq (n % 2) 0)
  where
    s : ℕ
    s = clause_of n

    mine_first : clause_of (2 * r) ≡ r
    mine_first = omega arith

    mine_second : clause_of (2 * r + 1) ≡ r
    mine_second = omega arith

    first : side_at new_held (2 * s) ≡ side_at held (2 * r)
    first = let x : 2 * s ≡ 2 * s + 0 = omega arith in let y : 2 * r + 0 ≡ 2 * r = omega arith in ap (side_at new_held) x ∙ both 0 (omega arith) ∙ ap (side_at held) y

    second : side_at new_held (2 * s + 1) ≡ side_at held (2 * r + 1)
    second = both 1 (omega arith)

pub lists_renamed : (moves : List Move) (held : List Side) (attached : List Bool) (new_held : List Side) (new_attached : List Bool) (count : ℕ) → AreRenamedBelow moves (length attached) held attached new_held new_attached → HaveLists held attached count → HaveLists new_held new_attached count
lists_renamed moves held attached new_held new_attached count p k n h =
    let inside = clause_in (clause_of n) new_attached h in
    let o = p.only (clause_of n) (omega (arith, inside, p.count)) h in
    let was = was_node moves held attached new_held n o.0 o.2 o.3 (p.kept o.0 (clause_of n) o.1 o.2 o.3).1 in
    subst (λ (x : Side). code_of x.watched < count) (sym was.mine) (k was.node was.at)

-- ---- a compacted arena
pub lowered : (a b : ArenaState) (moves : List Move) → IsRenamed a b moves → AreLowered moves
lowered a b moves f = record { lower = λ r s e. below s r e; order = f.order }
  where
    has : (r s : ℕ) → moved_to moves r ≡ Some s → s < length b.clauses
    has r s e =
        let live : IsLive a r = f.only r (ap is_some e) in
        let w = f.kept r live in
        let same : w.0 ≡ s = some_same w.0 s (sym w.1 ∙ e) in
        live_within b s (ap is_some (ap (clause_at b) (sym same) ∙ w.2) ∙ live)

    below : (s r : ℕ) → moved_to moves r ≡ Some s → s ≤ r
    below zero r e = omega arith
    below (suc s) r e =
        let inside = has r (suc s) e in
        let w = f.whole s (omega (arith, inside)) in
        let rec = below s w.0 w.1 in
        ⊎_elim (λ (less : w.0 < r). omega (arith, rec))
        (λ (far : r ≤ w.0). ⊎_elim
        (λ (same : r ≡ w.0). let q = some_same (suc s) s (sym e ∙ ap (moved_to moves) same ∙ w.1) in absurd (omega (arith, q)))
        (λ (ne : r ≢ w.0). let q = f.order r w.0 (suc s) s e w.1 (omega (arith, ne)) in absurd (omega (arith, q))) (cases_eq r w.0)) (cases_lt w.0 r)

-- the clause under its new reference
pub clause_moved : (a b : ArenaState) (moves : List Move) (r s : ℕ) → IsRenamed a b moves → moved_to moves r ≡ Some s → IsLive a r × (clause_at b s ≡ clause_at a r)
clause_moved a b moves r s f e =
    let live : IsLive a r = f.only r (ap is_some e) in
    let w = f.kept r live in
    let same : w.0 ≡ s = some_same w.0 s (sym w.1 ∙ e) in
    (live, ap (clause_at b) (sym same) ∙ w.2)

-- ---- a renamed trail
pub entry_renamed : (moves : List Move) (entries : List Entry) (i : ℕ) → entry_at (map (renamed moves) entries) i ≡ renamed moves (entry_at entries i)
entry_renamed moves [] i = refl
entry_renamed moves (e ∷ entries) zero = refl
entry_renamed moves (e ∷ entries) (suc i) = entry_renamed moves entries i

pub literal_stays : (moves : List Move) (entries : List Entry) (i : ℕ) → (entry_at (map (renamed moves) entries) i).literal ≡ (entry_at entries i).literal
literal_stays moves entries i = ap (λ (e : Entry). e.literal) (entry_renamed moves entries i)

pub level_stays : (moves : List Move) (entries : List Entry) (i : ℕ) → (entry_at (map (renamed moves) entries) i).level ≡ (entry_at entries i).level
level_stays moves entries i = ap (λ (e : Entry). e.level) (entry_renamed moves entries i)

true_stays : (moves : List Move) (k : ℕ) (entries : List Entry) (l : Literal) → IsTrueBy k entries l → IsTrueBy k (map (renamed moves) entries) l
true_stays moves k entries l (i, inside, is, low) =
    (i, omega (arith, inside, length-map entries (renamed moves)), literal_stays moves entries i ∙ is, omega (arith, low, level_stays moves entries i))

behind_renamed : (moves : List Move) (looked : List ℕ) (t : TrailState) → IsBehind looked t → IsBehind looked (record t { entries = map (renamed moves) t.entries })
behind_renamed moves looked t b = record {
  some = b.some;
  reach = b.reach;
  few = λ k h. omega (arith, b.few k h, length-map t.entries (renamed moves));
  low = λ k i h less. omega (arith, b.low k i h less, level_stays moves t.entries i);
}

-- ---- what ties them
pub renamed_fits : (w v : WatchState) (a b : ArenaState) (t : TrailState) (moves : List Move) → IsRenamed a b moves → AreRenamed moves w v → Fits w a t → Fits v b (record t { entries = map (renamed moves) t.entries })
renamed_fits w v a b t moves f d fits = record {
  variables = d.variables ∙ fits.variables;
  nodes = record {
    pairs = omega (arith, d.held_count, d.count, fits.nodes.pairs);
    live = λ s h. let o = d.only s h in let c = clause_moved a b moves o.0 s f o.1 in ap is_some c.1 ∙ fits.nodes.live o.0 o.2;
    within = λ s h.
        let o = d.only s h in
        subst (λ (xs : List Literal). All (λ l. (1 ≤ l.variable) × (l.variable ≤ v.variables)) xs) (sym (same_literals o.0 s o.1))
        (subst (λ n. All (λ l. (1 ≤ l.variable) × (l.variable ≤ n)) (literals_at a o.0)) (sym d.variables) (fits.nodes.within o.0 o.2));
    inside = λ n h.
        let was = node n h in
        subst (λ (xs : List Literal). Contains xs (held_at v.held n)) (sym (same_literals (clause_of was.node) (clause_of n) was.goes))
        (subst (λ (x : Side). Contains (literals_at a (clause_of was.node)) x.watched) (sym was.mine) (fits.nodes.inside was.node was.at));
    apart = λ n h q. let was = node n h in fits.nodes.apart was.node was.at (sym (ap (λ (x : Side). x.watched) was.mine) ∙ q ∙ ap (λ (x : Side). x.watched) was.other);
    thirds = λ n h.
        let was = node n h in
        subst (λ (xs : List Literal). IsThird xs (side_at v.held n) (side_at v.held (partner n))) (sym (same_literals (clause_of was.node) (clause_of n) was.goes))
        (subst (λ (x : Side). IsThird (literals_at a (clause_of was.node)) x (side_at v.held (partner n))) (sym was.mine)
        (subst (λ (x : Side). IsThird (literals_at a (clause_of was.node)) (side_at w.held was.node) x) (sym was.other) (fits.nodes.thirds was.node was.at)));
  };
  guarded = λ n k i h hk hi e.
      let was = node n h in
      let hk' : k < length w.looked = omega (arith, hk, ap length d.looked) in
      let hi' = subst (λ (xs : List ℕ). i < get_or xs k 0) d.looked hi in
      subst (λ (x : Side). IsTrueBy k (map (renamed moves) t.entries) x.watched) (sym was.other)
      (true_stays moves k t.entries (held_at w.held (partner was.node)) (fits.guarded was.node k i was.at hk' hi' (sym (literal_stays moves t.entries i) ∙ e ∙ ap (λ (x : Side). negate x.watched) was.mine)));
  behind = subst (λ (xs : List ℕ). IsBehind xs (record t { entries = map (renamed moves) t.entries })) (sym d.looked) (behind_renamed moves w.looked t fits.behind);
}
  where
    same_literals : (r s : ℕ) → moved_to moves r ≡ Some s → literals_at b s ≡ literals_at a r
    same_literals r s e = ap literals_in (clause_moved a b moves r s f e).1

    node : (n : ℕ) → IsAttached v.attached (clause_of n) → WasNode moves w.held w.attached v.held n
    node n h = let o = d.only (clause_of n) h in was_node moves w.held w.attached v.held n o.0 o.1 o.2 (d.kept o.0 (clause_of n) o.1 o.2).1
