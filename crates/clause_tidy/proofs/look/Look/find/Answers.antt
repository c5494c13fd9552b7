use Rattle.std.proofs.Common.{◌∙◌, ap, sym, subst, ℕ, List, length, ◌<◌, Bool}
use Rattle.std.specs.List.{Contains}
use Rattle.std.proofs.lemmas.List.Elements.{All-contains}
use Rattle.cx_base.specs.Literals.{Literal}
use Rattle.clause_tidy.specs.Listing.{list_of}
use Rattle.clause_tidy.specs.Looks.{HasWholesOf, IsChosenIn}
use Rattle.clause_arena.specs.Clauses.{literals_at}
use Rattle.clause_tidy.proofs.LookLaws.{known_clause, listed_wholes, among_all}
use Rattle.clause_tidy.proofs.Shrinkings.{on_ok}
use Rattle.clause_tidy.proofs.look.Look.find.Goals as goal

pub of-requires : goal.of-requires
of-requires c =
    let a = c.args.arena.now in
    let p = c.args.self.now.part in
    let index = c.args.index.now in
    let is = subst (λ (lits : List Literal). IsChosenIn index.chosen.items lits c.in-Some.lit) c.lits.ensures (subst (λ (bs : List Bool). IsChosenIn bs c.lits.result.now c.in-Some.lit) c.deref.ensures.value c.in-Some.ensures) in
    subst (λ (v : ℕ). v < length index.lists) (sym c.var.ensures)
    (All-contains (λ l. l.variable < length index.lists) (literals_at a p) c.in-Some.lit (known_clause a index.first index.lists index.chosen.items index.signatures.items p c.requires.indexed c.requires.live) is.0)

pub returns-in-Some : goal.returns-in-Some
returns-in-Some c =
    let a = c.args.arena.now in
    let p = c.args.self.now.part in
    let index = c.args.index.now in
    let l = c.in-Some.lit in
    let found = c.find_in.new.found.items in
    on_ok c.find_in.result _ _
    (λ has. listed_wholes a p index.first index.lists index.chosen.items index.signatures.items l found c.requires.indexed (subst (λ (lits : List Literal). IsChosenIn index.chosen.items lits l) c.lits.ensures (subst (λ (bs : List Bool). IsChosenIn bs c.lits.result.now c.in-Some.lit) c.deref.ensures.value c.in-Some.ensures))
    (subst (λ (list : List ℕ). HasWholesOf a p (Contains list) found) (c.of.ensures ∙ ap (list_of index.lists) c.var.ensures) has)) c.find_in.ensures

pub returns-in-None : goal.returns-in-None
returns-in-None c = on_ok c.find_all.result _ _ (among_all c.args.arena.now c.args.self.now.part c.args.index.now.first c.find_all.new.found.items) c.find_all.ensures
