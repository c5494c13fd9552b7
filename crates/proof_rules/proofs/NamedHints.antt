-- Hints that are not negative and name live constraints: the two rules of hints at once.
use Rattle.std.proofs.Common.{◌≡◌, refl, sym, ◌∙◌, ◌&&◌, ◌||◌, Bool, true, false, true≢false, not, ℤ, nat_abs, Result, Ok, Err, List, [], ◌∷◌, ◌++◌, inl, inr}
use Rattle.std.specs.List.{list_any}
use Rattle.cx_base.specs.Integers.{is_negative}
use Rattle.cx_semantics.specs.declared.cause.Cause.{Cause}
use Rattle.cx_semantics.specs.Judging.{Rule, AllHold, FirstFailure}
use Rattle.cx_semantics.specs.ProofRules.{hinting}
use Rattle.cx_semantics.specs.Tables.{Table, is_live}
use Rattle.proof_rules.specs.declared.refusal.JudgeRefusal.{JudgeRefusal}
use Rattle.proof_rules.specs.declared.refusal.JudgeRefusal.TheVariants.{Wrong, Memory}
use Rattle.proof_rules.specs.Judges.{JudgesBy}
use Rattle.proof_rules.specs.Kinds.{names_live, all_named}

and_left : (a b : Bool) → (a && b) ≡ true → a ≡ true
and_left true b h = refl
and_left false b h = h

and_right : (a b : Bool) → (a && b) ≡ true → b ≡ true
and_right true b h = h
and_right false b h = absurd (true≢false (sym h))

or_left : (a b : Bool) → (a || b) ≡ false → a ≡ false
or_left true b h = h
or_left false b h = refl

or_right : (a b : Bool) → (a || b) ≡ false → b ≡ false
or_right true b h = absurd (true≢false h)
or_right false b h = h

not_or : (a b : Bool) → not a ≡ true → b ≡ false → (a || b) ≡ false
not_or true b h k = sym h
not_or false b h k = k

or_not : (a b : Bool) → a ≡ true → b ≡ false → (not a || b) ≡ false
or_not true b h k = k
or_not false b h k = sym h

both : (negative live rest : Bool) → negative ≡ false → not live ≡ false → rest ≡ true → ((not negative && live) && rest) ≡ true
both true live rest n l r = sym n
both false false rest n l r = sym l
both false true rest n l r = r

module _ (table : Table) where
  is_not_live : ℤ → Bool
  is_not_live z = not (is_live table (nat_abs z))

  none_negative : (zs : List ℤ) → all_named table zs ≡ true → list_any is_negative zs ≡ false
  none_negative [] h = refl
  none_negative (z ∷ zs) h =
      not_or (is_negative z) _ (and_left _ (is_live table (nat_abs z)) (and_left _ (all_named table zs) h)) (none_negative zs (and_right (names_live table z) _ h))

  none_gone : (zs : List ℤ) → all_named table zs ≡ true → list_any (λ z. not (is_live table (nat_abs z))) zs ≡ false
  none_gone [] h = refl
  none_gone (z ∷ zs) h =
      or_not (is_live table (nat_abs z)) _ (and_right (not (is_negative z)) _ (and_left _ (all_named table zs) h)) (none_gone zs (and_right (names_live table z) _ h))

  named_from : (zs : List ℤ) → list_any is_negative zs ≡ false → list_any (λ z. not (is_live table (nat_abs z))) zs ≡ false → all_named table zs ≡ true
  named_from [] n l = refl
  named_from (z ∷ zs) n l =
      both (is_negative z) (is_live table (nat_abs z)) _ (or_left _ (list_any is_negative zs) n) (or_left _ (list_any (λ y. not (is_live table (nat_abs y))) zs) l)
      (named_from zs (or_right (is_negative z) _ n) (or_right (not (is_live table (nat_abs z))) _ l))

  -- the rules of hints hold, and so what the others answer counts
  pub named_holds : (hints : List ℤ) (rules : List Rule) → all_named table hints ≡ true → AllHold rules → AllHold (hinting table hints ++ rules)
  named_holds hints rules h hold = (none_negative hints h, (none_gone hints h, hold))

  pub named_fails : (hints : List ℤ) (rules : List Rule) (cause : Cause) → all_named table hints ≡ true → FirstFailure rules cause → FirstFailure (hinting table hints ++ rules) cause
  named_fails hints rules cause h fails = inr (none_negative hints h, inr (none_gone hints h, fails))

  -- where some hint fails them, they answer
  pub not_named_fails : (hints : List ℤ) (rules : List Rule) (result : Result Unit JudgeRefusal) → all_named table hints ≡ false → JudgesBy (hinting table hints) result → JudgesBy (hinting table hints ++ rules) result
  not_named_fails hints rules (Ok u) f h = absurd (true≢false (sym (named_from hints h.0 h.1.0) ∙ f))
  not_named_fails hints rules (Err (Wrong cause)) f (inl h) = inl h
  not_named_fails hints rules (Err (Wrong cause)) f (inr (n, inl h)) = inr (n, inl h)
  not_named_fails hints rules (Err (Wrong cause)) f (inr (n, inr (l, h))) = absurd h
  not_named_fails hints rules (Err Memory) f h = h
