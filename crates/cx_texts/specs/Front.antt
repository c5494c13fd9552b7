-- The first token of a text.
use Rattle.std.specs.Prelude.{◌≡◌, ℕ, ◌<◌, ◌≤◌, true, IsTrue, List, length, take, drop, slice_index}
use Rattle.cx_texts.specs.Tokens.{is_blank, NoBlank, EndsRun}
use Rattle.cx_texts.specs.declared.front.Front.{Front}

-- the run of non-blank bytes at the beginning, and what is said of it
pub record IsFront {T : Type 0} (said : T → List ℕ → Type 0) (text : List ℕ) (t : Front T) : Type 0 where
  pub some : 0 < t.len
  pub high : t.len ≤ length text
  pub run : NoBlank (take t.len text)
  pub ends : EndsRun (drop t.len text)
  pub follows : IsTrue t.blank_follows → (t.len < length text) × (is_blank (slice_index text t.len) ≡ true)
  pub says : said t.token (take t.len text)
