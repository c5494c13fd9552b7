-- A step that a text gives can be printed.
use Rattle.std.proofs.Common.{sym, subst, List, [], ◌∷◌, Option, Some, None, Ok}
use Rattle.std.specs.List.{AllByRecursion}
use Rattle.cx_texts.specs.Words.{Placed, words, IsWithin}
use Rattle.cx_texts.specs.Grammar.{Grammar, spelling, IsProper, AreInLimit, Spells}
use Rattle.cx_base.specs.Endings.{Ending}
use Rattle.cx_texts.proofs.Forms.{Forms}
use Rattle.step_text.specs.declared.source.TextRefusal.{TextRefusal}
use Rattle.step_text.specs.Left.{text_is_left}
use Rattle.step_text.specs.Sources.{Gives}
use Rattle.step_text.specs.Texts.{TextState, LeftOf, Leaves}

module _ {S : Type 0} (g : Grammar S) where
  -- proper fields, and numbers within the limit
  abbrev pub IsPrintable : S → Type 0
  IsPrintable s = AllByRecursion IsProper (g.fields s) × AllByRecursion (IsWithin g.limit) (spelling g s)

  words_within : (placed : List Placed) → AreInLimit g placed → AllByRecursion (IsWithin g.limit) (words placed)
  words_within [] h = tt
  words_within (p ∷ placed) h = (h.0, words_within placed h.1)

  spelled_is_printable : (s : S) (old new : List Placed) → Spells g s old new → IsPrintable s
  spelled_is_printable s old new sp = (sp.step.0, subst (AllByRecursion (IsWithin g.limit)) (sym sp.step.1) (words_within sp.front sp.within))

  left_is_printable : (old : TextState) (refused : Option TextRefusal) (s : S) (steps : List S) (ending : Ending) → LeftOf g old.tokens old.size refused (s ∷ steps) ending → IsPrintable s
  left_is_printable old None s steps ending (rest, sp, more) = spelled_is_printable s _ rest sp
  left_is_printable old (Some refusal) s steps ending (e, h) = cc

  pub given_is_printable : Forms g → (old new : TextState) (s : S) → Gives (Leaves g) old (Ok (Some s)) new → IsPrintable s
  given_is_printable all old new s gives =
      let left = text_is_left g all new in
      left_is_printable old old.refused s left.0 left.1 (gives left.0 left.1 left.2)
