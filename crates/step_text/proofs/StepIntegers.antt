-- Integers that were taken as fields are those of a step: none is zero, and each is within the limit.
use Rattle.std.proofs.Common.{◌≡◌, sym, subst, ℤ, List, [], ◌∷◌, map, flat_map}
use Rattle.std.specs.List.{AllByRecursion}
use Rattle.cx_base.specs.Numbers.{AreStepIntegers}
use Rattle.cx_texts.specs.Words.{number, Placed, words, IsWithin}
use Rattle.cx_texts.specs.Grammar.{integer, spelled, IsProper}
use Rattle.step_text.specs.Seen.{limit}
use Rattle.step_text.specs.Taking.{AreSmall, Takes}

proper : (zs : List ℤ) (front : List Placed) → AllByRecursion IsProper (map integer zs) → flat_map spelled (map integer zs) ≡ words front → AreSmall front → AreStepIntegers zs
proper [] front a e w = tt
proper (z ∷ zs) [] a e w = cc
proper (z ∷ zs) (p ∷ front) a e w =
    let head : number z ≡ p.word = cc in
    let tail : flat_map spelled (map integer zs) ≡ words front = cc in
    ((a.0, subst (IsWithin limit) (sym head) w.0), proper zs front a.1 tail w.1)

pub step_integers : (zs : List ℤ) (placed rest : List Placed) → Takes (map integer zs) placed rest → AreStepIntegers zs
step_integers zs placed rest t = proper zs t.front t.proper t.spells t.within
