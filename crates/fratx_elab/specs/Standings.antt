-- What stands for the ids of a log, as it is kept.
use Rattle.std.specs.Prelude.{ℕ}
use Rattle.std.specs.Ordering.{nat_cmp}
use Rattle.std.specs.FinMap as map
use Rattle.fratx_elab.specs.declared.naming.Standing.{Standing}
use Rattle.fratx_elab.specs.declared.naming.Standing.TheVariants.{Themselves, Numbered}
use Rattle.fratx_elab.specs.Names.{Naming}

-- the number that stands for each id
abbrev pub numbers_of : Standing → map.FinMap nat_cmp ℕ
numbers_of (Themselves numbers) = numbers
numbers_of (Numbered numbers) = numbers

abbrev pub naming_of : Standing → ℕ → Naming
naming_of standing last = record { ids = numbers_of standing; last = last }
