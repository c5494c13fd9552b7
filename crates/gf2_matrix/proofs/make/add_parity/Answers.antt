use Rattle.std.proofs.Common.{◌≡◌, ◌∙◌, ◌+◌, ap, subst, get_or, length, arith}
use Rattle.cx_base.specs.declared.literal.TheConstants.{MAX_VARIABLE}
use Rattle.parity_engine.proofs.Rising.{columns_rise}
use Rattle.gf2_matrix.specs.Columns.{place}
use Rattle.gf2_matrix.specs.Packed.{window}
use Rattle.gf2_matrix.specs.Rows.{IsSourcedRow}
use Rattle.gf2_matrix.proofs.Made.{few_columns, row_made}
use Rattle.gf2_matrix.proofs.RowTables.{changes}
use Rattle.gf2_matrix.proofs.make.add_parity.Goals as goal

pub add_literals-requires-clause-few : goal.add_literals-requires-clause-few
add_literals-requires-clause-few c = rw c.deref.ensures.value (few_columns MAX_VARIABLE c.args.at.now.columns.items c.requires.part.columns)

pub add_literals-requires-clause-rise : goal.add_literals-requires-clause-rise
add_literals-requires-clause-rise c = rw c.deref.ensures.value (columns_rise 1 MAX_VARIABLE c.args.at.now.columns.items c.requires.part.columns)

pub place_of-requires : goal.place_of-requires
place_of-requires c = rw c.deref-2.ensures.value (columns_rise 1 4294967295 c.args.at.now.numbers.items c.requires.part.numbers)

pub add_literals-requires-clause-room : goal.add_literals-requires-clause-room
add_literals-requires-clause-room c = λ d. let size = (c.requires.empty d).sized.0 in rw (c.deref.ensures.value, c.start.ensures) (omega arith)

pub put_source-requires-clause-within : goal.put_source-requires-clause-within
put_source-requires-clause-within c = λ d.
    let made = c.add_literals.ensures.made d in
    let size = (c.requires.empty d).sized.1 in
    let kept = ap length made.sources in
    let listed = c.requires.listed in
    let at : c.place_of.result ≡ place c.args.at.now.numbers.items (c.args.row + 1) = c.place_of.ensures ∙ ap (λ ns. place ns (c.args.row + 1)) c.deref-2.ensures.value in
    omega arith

pub returns-clause-others : goal.returns-clause-others
returns-clause-others c = changes c.args.row c.args.rows.now c.add_literals.new.rows c.put_source.new.self c.add_literals.ensures.others c.put_source.ensures.others

pub returns-clause-made : goal.returns-clause-made
returns-clause-made c = λ d.
    let old = get_or c.args.rows.now c.args.row d in
    let mid = get_or c.add_literals.new.rows c.args.row d in
    let new = get_or c.put_source.new.self c.args.row d in
    let at : c.place_of.result ≡ place c.args.at.now.numbers.items (c.args.row + 1) = c.place_of.ensures ∙ ap (λ ns. place ns (c.args.row + 1)) c.deref-2.ensures.value in
    let made = rw (c.deref.ensures.value, c.start.ensures) at (c.add_literals.ensures.made d) in
    row_made (window c.args.at.now) old.part (c.args.row + 1) c.args.lits.now old mid new (c.requires.empty d) made (subst (λ p. IsSourcedRow p mid new) at (c.put_source.ensures.row d))
