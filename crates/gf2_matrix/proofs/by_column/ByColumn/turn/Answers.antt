use Rattle.std.proofs.Common.{◌≡◌, ◌&&◌, not, eqb, length, sym, ap, ◌∙◌}
use Rattle.std.specs.Vec.{with_items}
use Rattle.std.proofs.lemmas.List.{with_items_is}
use Rattle.gf2_rows.specs.Bits.{bit_of}
use Rattle.gf2_matrix.proofs.by_column.ByColumn.turn.Goals as goal
use Rattle.gf2_matrix.proofs.by_column.ByColumn.turn.Goals.{After-row, After-choose}

-- the set of the column has the words of the chosen rows
set_long : (c : After-row) → length c.row.result ≡ length c.args.self.now.chosen.items
set_long c = ap length c.row.ensures ∙ c.requires.sized c.args.column c.requires.column_in

room : (c : After-choose) → length c.choose.new.chosen ≡ length c.args.self.now.chosen.items
room c = c.choose.auto.chosen ∙ ap length c.deref_mut.ensures.value

chosen_is : (c : After-choose) → (with_items c.args.self.now.chosen c.choose.new.chosen).items ≡ c.choose.new.chosen
chosen_is c = with_items_is c.args.self.now.chosen c.choose.new.chosen (room c ∙ sym c.args.self.now.chosen.ok.0)

pub choose-requires-clause-same : goal.choose-requires-clause-same
choose-requires-clause-same c = ap length c.deref_mut.ensures.value ∙ sym (set_long (goal.at.choose-requires-clause-same c).After-row)

pub choose-requires-clause-within : goal.choose-requires-clause-within
choose-requires-clause-within c = rw (set_long (goal.at.choose-requires-clause-within c).After-row) c.requires.place_in

pub turn_sets-requires-clause-few : goal.turn_sets-requires-clause-few
turn_sets-requires-clause-few c = c.requires.few

pub turn_sets-requires-clause-within : goal.turn_sets-requires-clause-within
turn_sets-requires-clause-within c = c.requires.within

pub turn_sets-requires-clause-sized : goal.turn_sets-requires-clause-sized
turn_sets-requires-clause-sized c =
    let s = (goal.at.turn_sets-requires-clause-sized c).After-choose in
    rw (ap length (c.deref.ensures.value ∙ chosen_is s) ∙ room s) c.requires.sized

pub returns-clause-room : goal.returns-clause-room
returns-clause-room c = let s = (goal.at.returns-clause-room c).After-choose in ap length (chosen_is s) ∙ room s

pub returns-clause-chosen : goal.returns-clause-chosen
returns-clause-chosen c = λ m.
    ap (λ ws. bit_of ws m) (chosen_is (goal.at.returns-clause-chosen c).After-choose) ∙ c.choose.ensures m ∙ ap (λ ws. not (eqb m c.args.place) && bit_of ws m) c.row.ensures

pub returns-clause-turned : goal.returns-clause-turned
returns-clause-turned c =
    let is = chosen_is (goal.at.returns-clause-turned c).After-choose in
    rw is (rw (c.deref.ensures.value ∙ is) at c.turn_sets.ensures)
