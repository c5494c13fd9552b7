-- What clap's answer tells of the words: their faults, and the values of their command.
use Rattle.std.proofs.Common.{◌≡◌, List, [], ◌∷◌, true, inl, inr, refl, subst}
use Rattle.clap.specs.declared.error.ErrorKind.{ErrorKind}
use Rattle.clap.specs.declared.error.ErrorKind.TheVariants as kind
use Rattle.clap.specs.declared.error.Error.{Error}
use Rattle.clap.specs.declared.parser.matches.ArgMatches.{ArgMatches}
use Rattle.clap.specs.Words.{App, HasMatchesOf, fault_of, is_simple, is_simple_and_free, kind_of, subcommand_of, subcommand_rows_of, HasKind, IsAmong, Kinds}
use Rattle.clap.proofs.OnLiterals.{clap_on_literals}
use Rattle.cx_desk.specs.Outside.{Bytes}
use Rattle.cx_words.specs.CommandLine.{cxsat}

pub simple : is_simple_and_free cxsat ≡ true
unfolding clap_on_literals
simple = refl

none_among : (k : ErrorKind) (kinds : Kinds) → kinds ≡ [] → IsAmong k kinds → ⊥
none_among k [] e among = among
none_among k (x ∷ xs) e among = cc

pub refused : (a : App) (words : List Bytes) (e : Error) → a ≡ cxsat
    → (is_simple_and_free a ≡ true → HasKind (fault_of a words) e)
    → (kind_of e ≡ kind.OutOfMemory → ⊥) → fault_of cxsat words ≡ [] → ⊥
refused a words e is_cxsat by not_memory none =
    elim (subst (λ (b : App). is_simple_and_free b ≡ true → HasKind (fault_of b words) e) is_cxsat by simple) as (λ _. ⊥) [
      | inl memory ↦ not_memory memory
      | inr among ↦ none_among (kind_of e) (fault_of cxsat words) none among
    ]

pub taken : (a : App) (words : List Bytes) → a ≡ cxsat → (is_simple_and_free a ≡ true → fault_of a words ≡ []) → fault_of cxsat words ≡ []
taken a words is_cxsat by = subst (λ (b : App). is_simple_and_free b ≡ true → fault_of b words ≡ []) is_cxsat by simple

plain : is_simple cxsat ≡ true
unfolding clap_on_literals
plain = refl

pub found : (a : App) (words : List Bytes) (m : ArgMatches) → a ≡ cxsat → HasMatchesOf a words m → subcommand_rows_of m ≡ subcommand_of cxsat words
found a words m is_cxsat by = let both = subst (λ (b : App). HasMatchesOf b words m) is_cxsat by plain in both.1
