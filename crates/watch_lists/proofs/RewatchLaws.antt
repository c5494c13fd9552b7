-- A node that watches another literal of its clause.
use Rattle.std.proofs.Common.{◌≡◌, ◌≢◌, ℕ, ◌<◌, List, length, set, ap, sym, ◌∙◌, ⊎_elim, arith}
use Rattle.std.proofs.lemmas.Bool.{cases_eq}
use Rattle.std.proofs.lemmas.List.{length-set, get_or-set_same, get_or-set_other}
use Rattle.cx_base.specs.Literals.{Literal}
use Rattle.watch_lists.specs.declared.lists.Side.{Side}
use Rattle.watch_lists.specs.Watching.{partner, side_at, held_at, third_at, no_side}
use Rattle.watch_lists.specs.Visits.{IsRewatched}
use Rattle.watch_lists.proofs.NodeLaws.{partner_apart}

abbrev side : Literal → Literal → Side
side watched third = record { watched = watched; third = third }

pub rewatched_long : (held : List Side) (n : ℕ) (l t : Literal) → n < length held → t ≡ third_at held n → third_at held n ≢ third_at held (partner n) → IsRewatched held n l (set held n (record { watched = l; third = t }))
rewatched_long held n l t in_n et ne =
    let now : side_at (set held n (side l t)) n ≡ side l t = get_or-set_same held n (side l t) no_side in_n in
    let elsewhere : (m : ℕ) → m ≢ n → side_at (set held n (side l t)) m ≡ side_at held m = λ m o. get_or-set_other held n m (side l t) no_side o in
    record {
      count = length-set held n (side l t);
      now = ap (λ (s : Side). s.watched) now;
      others = λ m o. ap (λ (s : Side). s.watched) (elsewhere m o);
      apart = λ m o p. elsewhere m o;
      short = λ q. absurd (ne q);
      long = λ q. (ap (λ (s : Side). s.third) now ∙ et, ap (λ (s : Side). s.third) (elsewhere (partner n) (partner_apart n)));
    }

pub rewatched_short : (held : List Side) (n : ℕ) (l w f : Literal) → n < length held → partner n < length held → w ≡ held_at held (partner n) → f ≡ held_at held n → third_at held n ≡ third_at held (partner n)
    → IsRewatched held n l (set (set held (partner n) (record { watched = w; third = f })) n (record { watched = l; third = f }))
rewatched_short held n l w f in_n in_p ew ef q =
    let h1 = set held (partner n) (side w f) in
    let more : length (set held (partner n) (side w f)) ≡ length held = length-set held (partner n) (side w f) in
    let now : side_at (set h1 n (side l f)) n ≡ side l f = get_or-set_same h1 n (side l f) no_side (omega (arith, more, in_n)) in
    let other : side_at (set h1 n (side l f)) (partner n) ≡ side w f = get_or-set_other h1 n (partner n) (side l f) no_side (partner_apart n) ∙ get_or-set_same held (partner n) (side w f) no_side in_p in
    let elsewhere : (m : ℕ) → m ≢ n → m ≢ partner n → side_at (set h1 n (side l f)) m ≡ side_at held m = λ m o p. get_or-set_other h1 n m (side l f) no_side o ∙ get_or-set_other held (partner n) m (side w f) no_side p in
    record {
      count = length-set h1 n (side l f) ∙ more;
      now = ap (λ (s : Side). s.watched) now;
      others = λ m o. ⊎_elim
          (λ (e : m ≡ partner n). ap (held_at (set h1 n (side l f))) e ∙ ap (λ (s : Side). s.watched) other ∙ ew ∙ ap (held_at held) (sym e))
          (λ (ne : m ≢ partner n). ap (λ (s : Side). s.watched) (elsewhere m o ne)) (cases_eq m (partner n));
      apart = elsewhere;
      short = λ z. (ap (λ (s : Side). s.third) now ∙ ef, ap (λ (s : Side). s.third) other ∙ ef);
      long = λ ne. absurd (ne q);
    }
