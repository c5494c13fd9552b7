-- What forced an entry in the calculus implied its literal on the code's trail.
use Rattle.std.proofs.Common.{◌≡◌, refl, sym, ap, ◌∙◌, suc, ◌+◌, ◌<◌, List, [], ◌∷◌, ◌++◌, length, arith, length-append, append_assoc}
use Rattle.std.proofs.lemmas.Bool.{and_from}
use Rattle.cx_base.specs.Literals.{Literal, negate, same_literal}
use Rattle.cx_semantics.specs.Chain.{has_literal}
use Rattle.cx_semantics.specs.Fresh.{IsLive}
use Rattle.cx_semantics.specs.Tables.{Table}
use Rattle.cx_semantics.proofs.Closure.{inside_itself}
use Rattle.cx_trail.specs.declared.entry.Entry.{Entry as TrailEntry}
use Rattle.cx_trail.specs.Sequence.{TrailState, entry_at}
use Rattle.cx_trail.proofs.ValueLaws.{entry_kept}
use Rattle.conflict_learn.specs.Learning.{IsAntecedent}
use Rattle.search_steps.specs.Trail.{Entry, all_held, Forces}
use Rattle.search_steps.specs.Tied.{IsTied, IsLiveSet, Mirrors}
use Rattle.search_steps.proofs.Bridge.{held_is_true}

pub live_is_live_set : (table : Table) (clause : List Literal) → IsLive table clause → IsLiveSet table clause
live_is_live_set table clause live = (clause, live, and_from _ _ (inside_itself clause) (inside_itself clause))

at_middle : (before after : List TrailEntry) (i : TrailEntry) → entry_at (before ++ i ∷ after) (length before) ≡ i
at_middle [] after i = refl
at_middle (x ∷ before) after i = at_middle before after i

-- the code's entry for an entry of the trail, with those before it
pub record StandsBehind (older : List Entry) (e : Entry) (entries : List TrailEntry) : Type 0 where
  pub before : List TrailEntry
  pub entry : TrailEntry
  pub after : List TrailEntry
  pub parts : entries ≡ before ++ entry ∷ after
  pub literal : entry.literal ≡ e.literal
  pub tied : IsTied older before

pub tied_split : (newer older : List Entry) (e : Entry) (entries : List TrailEntry) → IsTied (newer ++ e ∷ older) entries → StandsBehind older e entries
tied_split [] older e entries (before, i, same, lit, lev, t) = record { before = before; entry = i; after = []; parts = same; literal = lit; tied = t }
tied_split (x ∷ newer) older e entries (before, i, same, lit, lev, t) =
    let r = tied_split newer older e before t in
    record {
      before = r.before;
      entry = r.entry;
      after = r.after ++ i ∷ [];
      parts = same ∙ ap (λ xs. xs ++ i ∷ []) r.parts ∙ append_assoc r.before (r.entry ∷ r.after) (i ∷ []);
      literal = r.literal;
      tied = r.tied;
    }

pub forced_is_implied : (t : TrailState) (newer older : List Entry) (e : Entry) → Mirrors (newer ++ e ∷ older) t → (clause : List Literal) → Forces clause (all_held older) e.literal → IsAntecedent t e.literal clause
forced_is_implied t newer older e m clause f place within at = record {
  has_it = ap (has_literal clause) at ∙ f.has_it;
  others_false = λ x h n.
      let g = held_is_true older r.before r.tied (negate x) (f.others_false x h (ap (λ l. same_literal l x) (sym at) ∙ n)) in
      let less = g.1.0 in (
        g.0,
        omega (arith, less, here),
        ap (λ xs. (entry_at xs g.0).literal) r.parts ∙ ap (λ y. y.literal) (entry_kept r.before (r.entry ∷ r.after) g.0 less) ∙ g.1.1,
      );
}
  where
    r : StandsBehind older e t.entries
    r = tied_split newer older e t.entries m.tied

    long : length t.entries ≡ length r.before + length (r.entry ∷ r.after)
    long = ap length r.parts ∙ length-append r.before (r.entry ∷ r.after)

    middle : (entry_at t.entries (length r.before)).literal ≡ e.literal
    middle = ap (λ xs. (entry_at xs (length r.before)).literal) r.parts ∙ ap (λ y. y.literal) (at_middle r.before r.after r.entry) ∙ r.literal

    here : place ≡ length r.before
    here = m.sound.distinct place (length r.before) within (let l = long in let more : length (r.entry ∷ r.after) ≡ suc (length r.after) = refl in omega (arith, l, more)) (ap (λ l. l.variable) (at ∙ sym middle))
