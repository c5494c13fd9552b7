-- After a command's name all words are the command's.
use Rattle.std.proofs.Common.{◌≡◌, ◌∙◌, ℕ, List, [], ◌∷◌, ◌++◌, refl, Some, false, true, fold, find, ap, sym, append-nil, append_assoc}
use Rattle.clap.specs.Walk.{Held, Names, Rule, Walk, Waiting, walk, settled, walked, walk_from, idle, nothing_held, rows_after, stop_after, answers_to, finished}
use Rattle.clap.specs.Simple.{App, Shape, names_of, label_of, entered}
use Rattle.std.specs.Prelude.{is_some}
use Rattle.clap.specs.Kinds.{Kinds, or_else}
use Rattle.clap.specs.Faults.{entered_fault, settle_fault, level_fault, walk_fault, turn_fault, defaults_fault, check_fault, built_fault}
use Rattle.cx_desk.specs.Outside.{Bytes}

abbrev stopped_at : Held → Waiting → ℕ → Bytes → List Bytes → Walk
stopped_at h w k name rest = record { held = h; waiting = w; position = k; is_trailing = false; stopped = Some (name, rest) }

goes_on : (c : List Rule) (names : Names) (h : Held) (w : Waiting) (k : ℕ) (name : Bytes) (before rest : List Bytes)
    → fold (walked c names) (stopped_at h w k name before) rest ≡ stopped_at h w k name (before ++ rest)
unfolding walked
goes_on c names h w k name before [] = ap (stopped_at h w k name) (sym (append-nil before))
goes_on c names h w k name before (x ∷ rest) =
    goes_on c names h w k name (before ++ x ∷ []) rest ∙ ap (stopped_at h w k name) (append_assoc before (x ∷ []) rest)

goes_on_fine : (s : Shape) (names : Names) (h : Held) (w : Waiting) (k : ℕ) (name : Bytes) (before rest : List Bytes)
    → walk_fault s names (stopped_at h w k name before) rest ≡ []
unfolding walk_fault walked
goes_on_fine s names h w k name before [] = refl
goes_on_fine s names h w k name before (x ∷ rest) = goes_on_fine s names h w k name (before ++ x ∷ []) rest

-- the name is that of a command of this program, which wants nothing else
pub record Enters (b : App) (name : Bytes) (leaf : Shape) : Type 0 where
  pub met : walked b.top.rules (names_of b) (walk_from nothing_held) name ≡ stopped_at nothing_held idle 1 name []
  pub fine : turn_fault b.top (names_of b) (walk_from nothing_held) name ≡ []
  pub command : find (λ s. answers_to name (label_of s)) b.subs ≡ Some leaf
  pub defaults : defaults_fault [] b.top.rules ≡ []
  pub complete : check_fault b.top (finished b.top.rules nothing_held) true ≡ []

stops : (b : App) (name : Bytes) (leaf : Shape) → Enters b name leaf → (rest : List Bytes)
    → fold (walked b.top.rules (names_of b)) (walk_from nothing_held) (name ∷ rest) ≡ stopped_at nothing_held idle 1 name rest
stops b name leaf e rest =
    ap (λ (w : Walk). fold (walked b.top.rules (names_of b)) w rest) e.met ∙ goes_on b.top.rules (names_of b) nothing_held idle 1 name [] rest

pub enters_command : (b : App) (name : Bytes) (leaf : Shape) → Enters b name leaf → (rest : List Bytes)
    → entered b (stop_after b.top.rules (names_of b) (name ∷ rest)) ≡ Some (leaf.name, rows_after leaf.rules [] rest)
enters_command b name leaf e rest = ap (λ (w : Walk). entered b w.stopped) (stops b name leaf e rest) ∙ rw e.command refl

walks_fine : (b : App) (name : Bytes) (leaf : Shape) → Enters b name leaf → (rest : List Bytes)
    → walk_fault b.top (names_of b) (walk_from nothing_held) (name ∷ rest) ≡ []
unfolding walk_fault
walks_fine b name leaf e rest = rw (e.fine, e.met, goes_on_fine b.top (names_of b) nothing_held idle 1 name [] rest) refl

-- what is checked after the walk
abbrev after : App → Walk → Kinds
after b end = or_else (entered_fault b end.stopped) (or_else (settle_fault b.top.rules b.top.args_override_self end.held)
    (or_else (defaults_fault (settled b.top.rules end.held).rows b.top.rules)
    (check_fault b.top (finished b.top.rules end.held) (is_some (entered b end.stopped)))))

pub enters_fine : (b : App) (name : Bytes) (leaf : Shape) → Enters b name leaf → (rest : List Bytes)
    → level_fault leaf [] nothing_held rest false [] ≡ [] → built_fault b nothing_held (name ∷ rest) ≡ []
enters_fine b name leaf e rest fine =
    ap (λ (k : Kinds). or_else k (after b (walk b.top.rules (names_of b) nothing_held (name ∷ rest)))) (walks_fine b name leaf e rest)
    ∙ ap (after b) (stops b name leaf e rest)
    ∙ rw (e.command, fine, e.defaults, e.complete) refl
