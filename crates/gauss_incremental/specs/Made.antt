-- What an engine is made of.
use Rattle.std.specs.Prelude.{◌≡◌, ℕ, ◌<◌, ◌^◌, false, true, List, Option, None, length, replicate}
use Rattle.cx_base.specs.Literals.{Literal}
use Rattle.parity_engine.specs.declared.state.Held.{Held}
use Rattle.parity_engine.specs.declared.state.Naming.{Naming}
use Rattle.gf2_rows.specs.Bits.{bit_of}
use Rattle.gf2_matrix.specs.Content.{Content, IsOfGiven}
use Rattle.gf2_matrix.specs.Enough.{IsOver}
use Rattle.gf2_matrix.specs.Views.{words_for}
use Rattle.gauss_incremental.specs.Basics.{AreBasic}
use Rattle.gauss_incremental.specs.Idle.{is_waiting}
use Rattle.gauss_incremental.specs.Line.{Queue}
use Rattle.gauss_incremental.specs.Lists.{IsFit, Listing}

-- the rows say what the parities say, and each that has a column has one that no other row has
pub record IsReduced (vars : ℕ) (parities : List (List Literal)) (c : Content) (basics : List (Option ℕ)) : Type 0 where
  pub over : IsOver vars parities c
  pub few_rows : length c.rows < 2 ^ 32
  pub of_given : IsOfGiven c
  pub basic : AreBasic c basics

-- no variable has a value, and no column is marked as assigned or as true
pub record AreBlank (vars columns : ℕ) (values : List (Option Held)) (mask bits order : List ℕ) : Type 0 where
  pub held : values ≡ replicate vars None
  pub assigned_long : length mask ≡ words_for columns
  pub assigned_clear : (k : ℕ) → bit_of mask k ≡ false
  pub truths_long : length bits ≡ words_for columns
  pub truths_clear : (k : ℕ) → bit_of bits k ≡ false
  pub trail : length order ≡ vars

-- no row watches a column, each waits, and none is named
pub record AreUnseen (columns rows : ℕ) (watches : List (Option ℕ)) (line : Queue) (names : List (Option Naming)) (listing : Listing) : Type 0 where
  pub watched : watches ≡ replicate rows None
  pub long : length line.flags ≡ rows
  pub all : (r : ℕ) → r < rows → is_waiting line.flags r ≡ true
  pub named : names ≡ replicate rows None
  pub lists : IsFit listing columns
