use Rattle.std.proofs.Common.{◌≤◌, sym, ap, subst, ℕ, List, length}
use Rattle.clause_tidy.proofs.index.Index.complete.Goals as goal

pub loop-self-init : goal.loop-self-init
loop-self-init c =
    let a = c.args.arena.now in
    record {
      within = subst (λ (n : ℕ). n ≤ length a.clauses) (sym c.choose.ensures.first) c.requires.within;
      indexed = c.choose.ensures.indexed a (length a.clauses) c.requires.indexed;
      lists = ap (λ (ls : List (List ℕ)). length ls) c.choose.ensures.lists;
    }
