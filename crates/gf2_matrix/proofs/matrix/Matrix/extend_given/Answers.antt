use Rattle.std.proofs.Common.{◌≡◌, ◌∙◌, ℕ, ◌<◌, ◌≤◌, sym, ap, subst, refl, length, get_or, map, List, arith}
use Rattle.std.proofs.lemmas.List.{with_items_is, length-map}
use Rattle.std.specs.List.{AllByRecursion}
use Rattle.std.specs.Vec.{with_items}
use Rattle.cx_base.specs.Literals.{Literal}
use Rattle.cx_base.specs.Problem.{AreWithin}
use Rattle.parity_engine.specs.Equations.{parity_number, numbered}
use Rattle.parity_engine.proofs.Rising.{column-low, column-high}
use Rattle.gf2_matrix.specs.declared.packed.Part.{Part}
use Rattle.gf2_matrix.specs.Content.{Content, IsOfGiven}
use Rattle.gf2_matrix.specs.Packed.{Window, window, window_at, content, unpacked, IsMatrix}
use Rattle.gf2_matrix.specs.ByColumn.{AreByColumn}
use Rattle.gf2_matrix.specs.Enough.{AreRenamed, SayFirst}
use Rattle.gf2_matrix.proofs.Rows.{part_read}
use Rattle.gf2_matrix.proofs.Renaming.{renamed, renamed_matrix, windows_renamed, by_columns_renamed}
use Rattle.gf2_matrix.proofs.matrix.Matrix.extend_given.Goals as goal
use Rattle.gf2_matrix.proofs.matrix.Matrix.extend_given.Goals.{After-deref_mut, After-rename_sources}

-- the parities given until now
named : (c : After-deref_mut) → c.self.inside.given ≡ numbered c.args.given c.args.numbers.now
named c = ap (λ (s : Content). s.given) c.self.view_is ∙ c.requires.given

vars_are : (c : After-deref_mut) → c.self.inside.vars ≡ c.args.self.now.vars
vars_are c = ap (λ (s : Content). s.vars) c.self.view_is

matrix_named : (c : After-deref_mut)
    → IsMatrix c.self.inside.vars (numbered c.args.given c.args.numbers.now) c.self.inside.columns.items c.self.inside.places.items (map window c.self.inside.parts.items) c.self.inside.rows c.self.inside.spares.items c.self.inside.no_columns.items
matrix_named c =
    let m = c.self.inside in
    subst (λ (g : List (List Literal)). IsMatrix m.vars g m.columns.items m.places.items (map window m.parts.items) m.rows m.spares.items m.no_columns.items) (named c) c.self.invariant.matrix

source_at : (c : After-deref_mut) (p : ℕ) (d : Part) → p < length c.self.inside.parts.items → (i : ℕ) → i < length (get_or c.self.inside.parts.items p d).sources.items
    → (1 ≤ get_or (get_or c.self.inside.parts.items p d).sources.items i 0) × (get_or (get_or c.self.inside.parts.items p d).sources.items i 0 ≤ length c.args.numbers.now)
source_at c p d p_in i i_in =
    let m = c.self.inside in
    let count = length-map c.args.numbers.now (parity_number c.args.given) in
    let long = length-map m.parts.items window in
    let rise = (matrix_named c).windows_are.sources_rise p (omega arith) in
    subst (λ (w : Window). i < length w.sources → (1 ≤ get_or w.sources i 0) × (get_or w.sources i 0 ≤ length c.args.numbers.now)) (part_read m.parts.items p d p_in)
    (λ lt. (
      column-low 1 (length (numbered c.args.given c.args.numbers.now)) (window_at (map window m.parts.items) p).sources i rise lt,
      let h = column-high 1 (length (numbered c.args.given c.args.numbers.now)) (window_at (map window m.parts.items) p).sources i rise lt in omega arith,
    )) i_in

pub rename_sources-requires-clause-low : goal.rename_sources-requires-clause-low
rename_sources-requires-clause-low c =
    let s = (goal.at.rename_sources-requires-clause-low c).After-deref_mut in
    rw c.deref_mut.ensures.value (λ p i d p_in i_in. (source_at s p d p_in i i_in).0)

pub rename_sources-requires-clause-high : goal.rename_sources-requires-clause-high
rename_sources-requires-clause-high c =
    let s = (goal.at.rename_sources-requires-clause-high c).After-deref_mut in
    rw c.deref_mut.ensures.value (λ p i d p_in i_in. (source_at s p d p_in i i_in).1)

renamed_parts : (c : After-rename_sources) → AreRenamed c.args.numbers.now c.self.inside.parts.items c.rename_sources.new.parts (length c.self.inside.parts.items)
renamed_parts c = rw c.deref_mut.ensures.value at c.rename_sources.ensures

windows_are : (c : After-rename_sources) → map window c.rename_sources.new.parts ≡ map (renamed c.args.numbers.now) (map window c.self.inside.parts.items)
windows_are c = windows_renamed c.args.numbers.now c.self.inside.parts.items c.rename_sources.new.parts (renamed_parts c)

matrix_new : (c : After-deref_mut) (parts : List Part) → map window parts ≡ map (renamed c.args.numbers.now) (map window c.self.inside.parts.items)
    → IsMatrix c.self.inside.vars c.args.given c.self.inside.columns.items c.self.inside.places.items (map window parts) c.self.inside.rows c.self.inside.spares.items c.self.inside.no_columns.items
matrix_new c parts are =
    let m = c.self.inside in
    subst (λ (ws : List Window). IsMatrix m.vars c.args.given m.columns.items m.places.items ws m.rows m.spares.items m.no_columns.items) (sym are)
    (renamed_matrix c.args.numbers.now m.vars c.args.given m.columns.items m.places.items (map window m.parts.items) m.rows m.spares.items m.no_columns.items (matrix_named c) c.requires.few_given
    (subst (λ n. AllByRecursion (AreWithin n) c.args.given) (sym (vars_are c)) c.requires.within)
    (subst (λ n. SayFirst n c.args.given c.args.numbers.now (length c.args.given)) (sym (vars_are c)) c.requires.enough))

pub invariant_of-self : goal.invariant_of-self
invariant_of-self c =
    let m = c.self.inside in
    let s = (goal.at.invariant_of-self c).After-deref_mut in
    let t = (goal.at.invariant_of-self c).After-rename_sources in
    let new = c.rename_sources.new.parts in
    let told = renamed_parts t in
    let are = windows_are t in
    rw (with_items_is m.parts new (told.long ∙ sym m.parts.ok.0))
    (record {
      matrix = matrix_new s new are;
      by_column = subst (λ (ws : List Window). AreByColumn ws m.rows m.by_columns.items (length ws)) (sym are)
          (by_columns_renamed c.args.numbers.now (map window m.parts.items) m.rows m.by_columns.items c.self.invariant.by_column);
    })

pub returns-clause-over : goal.returns-clause-over
returns-clause-over c = (vars_are (goal.at.returns-clause-over c).After-deref_mut, refl)

pub returns-clause-rows : goal.returns-clause-rows
returns-clause-rows c =
    let m = c.self.inside in
    let new = map window (with_items m.parts c.rename_sources.new.parts).items in
    length-map m.rows (unpacked m.vars (length c.args.given) new) ∙ sym (length-map m.rows (unpacked m.vars (length m.given) (map window m.parts.items)))
    ∙ ap (λ (s : Content). length s.rows) c.self.view_is

pub returns-clause-of_given : goal.returns-clause-of_given
returns-clause-of_given c =
    let m = c.self.inside in
    let s = (goal.at.returns-clause-of_given c).After-deref_mut in
    let t = (goal.at.returns-clause-of_given c).After-rename_sources in
    let new = c.rename_sources.new.parts in
    subst (λ (ps : List Part). IsOfGiven (content m.vars c.args.given m.columns.items (map window ps) m.rows)) (sym (with_items_is m.parts new ((renamed_parts t).long ∙ sym m.parts.ok.0)))
    (matrix_new s new (windows_are t)).of_given
