use Rattle.std.proofs.Common.{◌≡◌, ◌+◌, ◌<◌, ◌^◌, ◌++◌, ◌∷◌, [], ◌-◌, ℕ, List, length, Some, true, ap, ◌∙◌, arith}
use Rattle.std.proofs.lemmas.List.{length-append}
use Rattle.cx_base.specs.Literals.{Literal}
use Rattle.clause_arena.specs.declared.head.Head.{Head}
use Rattle.clause_arena.specs.Clauses.{ArenaState}
use Rattle.clause_arena.proofs.HeadLaws.{added, added_head, clauses_count}
use Rattle.clause_arena.proofs.arena.Arena.add.Goals as goal

abbrev head_of : goal.After-new → Head
head_of c = record { id = c.args.id; lbd = c.args.lbd; learned = c.args.learned; live = true }

lits_are : (c : goal.After-new) → c.append.new.into.items ≡ c.self.inside.lits.items ++ c.args.lits.now
lits_are c = c.append.ensures.items ∙ ap (λ (xs : List Literal). xs ++ c.args.lits.now) c.in_ok-make_room-3.ensures.items

ends_are : (c : goal.After-new) → c.push_reserved.new.self.items ≡ c.self.inside.ends.items ++ c.len.result ∷ []
ends_are c = c.push_reserved.ensures.items ∙ ap (λ (es : List ℕ). es ++ c.len.result ∷ []) c.in_ok-make_room.ensures.items

heads_are : (c : goal.After-new) → c.push_reserved-2.new.self.items ≡ c.self.inside.heads.items ++ head_of c ∷ []
heads_are c = c.push_reserved-2.ensures.items ∙ ap (λ (hs : List Head). hs ++ head_of c ∷ []) c.in_ok-make_room-2.ensures.items

-- the literals end after those before them
end_is : (c : goal.After-new) → c.len.result ≡ length c.self.inside.lits.items + length c.args.lits.now
end_is c = omega (arith, c.len.ensures, c.append.new.into.ok.0, ap (λ (xs : List Literal). length xs) (lits_are c), length-append c.self.inside.lits.items c.args.lits.now)

pub invariant_of-self-2 : goal.invariant_of-self-2
invariant_of-self-2 c =
    let few : length c.self.inside.heads.items < 2 ^ 31 - 1 = omega (arith, c.if-place-ge-MAX_CLAUSES.false, c.len-place.ensures, c.self.inside.heads.ok.0) in
    added_head c.self.inside.lits.items c.args.lits.now _ c.self.inside.ends.items _ c.self.inside.heads.items _ c.len.result (head_of c) c.self.invariant (lits_are c) (ends_are c) (heads_are c) (end_is c) few

pub returns-clause-ok : goal.returns-clause-ok
returns-clause-ok c =
    let count = clauses_count 0 c.self.inside.lits.items c.self.inside.ends.items c.self.inside.heads.items c.self.invariant.each in
    omega (arith, c.new.ensures, c.len-place.ensures, c.self.inside.heads.ok.0, count, ap (λ (t : ArenaState). length t.clauses) c.self.view_is)

pub returns-clause-added : goal.returns-clause-added
returns-clause-added c =
    added c.self.inside.lits.items c.args.lits.now _ c.self.inside.ends.items _ c.self.inside.heads.items _ c.len.result (head_of c) c.self.invariant (lits_are c) (ends_are c) (heads_are c) (end_is c)
    ∙ ap (λ (t : ArenaState). t.clauses ++ (Some (record { literals = c.args.lits.now; id = c.args.id; lbd = c.args.lbd; learned = c.args.learned })) ∷ []) c.self.view_is

pub returns-clause-few : goal.returns-clause-few
returns-clause-few c ok =
    let count = clauses_count 0 c.self.inside.lits.items c.self.inside.ends.items c.self.inside.heads.items c.self.invariant.each in
    omega (arith, c.if-place-ge-MAX_CLAUSES.false, c.len-place.ensures, c.self.inside.heads.ok.0, count, ap (λ (t : ArenaState). length t.clauses) c.self.view_is)
