-- Text put behind what a Text holds.
use Rattle.std.specs.Prelude.{◌≡◌, List, ℕ, ◌+◌, ◌≤◌, length}
use Rattle.text.specs.declared.Text.{Text}
use Rattle.text.specs.Text.{Put}

-- so many bytes go behind what it holds
abbrev pub Room : Text → ℕ → Type 0
Room t most = t.len + most ≤ length t.out.now

-- the text stands behind what it held, in the same buffer, of which nothing else is changed, and is no longer than `most`
pub record Puts (t : Text) (text : List ℕ) (most : ℕ) (u : Text) : Type 0 where
  pub put : Put t.out.now t.len text most u.out.now u.len
  pub same : u.out.ghost_name ≡ t.out.ghost_name
  pub long : length u.out.now ≡ length t.out.now
