-- The planning program's text: numbers in decimal digits, the first line, and a line for each task.
use Rattle.std.specs.Prelude.{◌≡◌, List, [], ◌∷◌, ◌++◌, ℕ, zero, suc, ◌+◌, ◌*◌, ◌/◌, ◌%◌, ◌≤◌, ℤ, pos, negsuc, ltb, length}
use Rattle.std.proofs.lemmas.List.Edits.{sets}
use Rattle.integers.specs.Hull.{Range}
use Rattle.integers.specs.Tests.{if}
use Rattle.plan.specs.declared.Task.{Task}
use Rattle.plan.specs.declared.Refusal.{Refusal}
use Rattle.plan.specs.Days.{days_of}
use Rattle.plan.specs.Powers.{powers_of}
use Rattle.plan.specs.Refusals.{number, place}
use Rattle.plan.specs.Tasks.{most_tasks}

-- ---- numbers in ASCII
abbrev pub digit_of : ℕ → ℕ
digit_of n = 48 + n

abbrev pub minus : List ℕ
minus = 45 ∷ []

-- the last digits of a number, no more than so many of them
unfoldable pub last_digits : ℕ → ℕ → List ℕ
last_digits zero n = []
last_digits (suc most) n = if (ltb n 10) (digit_of n ∷ []) (last_digits most (n / 10) ++ (digit_of (n % 10) ∷ []))

-- every number of 64 bits has at most so many: the constant `MOST_DIGITS`
abbrev pub most_digits : ℕ
most_digits = 20

abbrev pub digits : ℕ → List ℕ
digits n = last_digits most_digits n

unfoldable pub signed : ℤ → List ℕ
signed (pos n) = digits n
signed (negsuc n) = minus ++ digits (n + 1)

-- ---- lines
abbrev pub space : List ℕ
space = 32 ∷ []

abbrev pub line_feed : List ℕ
line_feed = 10 ∷ []

-- low and high, a space before each
unfoldable pub range_text : Range → List ℕ
range_text s = (space ++ signed s.low) ++ (space ++ signed s.high)

-- "Each task line: place, set as a number, then low and high of origin, duration, end, height."
unfoldable pub task_line : ℕ → Task → List ℕ
task_line i t =
    digits i ++ (space ++ (digits t.set
    ++ (range_text (days_of t.origin)
    ++ (range_text (days_of t.duration)
    ++ (range_text (days_of t.end)
    ++ (range_text (powers_of t.height)
    ++ line_feed))))))

-- a line for each task, the first at this place
unfoldable pub task_lines : ℕ → List Task → List ℕ
task_lines i [] = []
task_lines i (t ∷ ts) = task_line i t ++ task_lines (suc i) ts

-- "settled " and "refused "
abbrev pub settled_word : List ℕ
settled_word = 115 ∷ 101 ∷ 116 ∷ 116 ∷ 108 ∷ 101 ∷ 100 ∷ 32 ∷ []

abbrev pub refused_word : List ℕ
refused_word = 114 ∷ 101 ∷ 102 ∷ 117 ∷ 115 ∷ 101 ∷ 100 ∷ 32 ∷ []

-- "Line one: the word and the pass count."
unfoldable pub settled_line : ℕ → List ℕ
settled_line n = settled_word ++ (digits n ++ line_feed)

-- "A refusal prints one line instead: `refused`, number, place, with single spaces"
unfoldable pub refused_line : Refusal → List ℕ
refused_line f = refused_word ++ (digits (number f) ++ (space ++ (digits (place f) ++ line_feed)))

-- ---- how long each of them is at the most
abbrev pub most_signed : ℕ
most_signed = 1 + most_digits

abbrev pub most_range : ℕ
most_range = 2 * (1 + most_signed)

abbrev pub most_task_line : ℕ
most_task_line = 2 * (most_digits + 1) + 4 * most_range

abbrev pub most_settled_line : ℕ
most_settled_line = length settled_word + (most_digits + 1)

abbrev pub most_refused_line : ℕ
most_refused_line = length refused_word + 2 * (most_digits + 1)

-- the first line and a line for each task; a refusal's one line is shorter
abbrev pub most_text : ℕ
most_text = most_settled_line + most_tasks * most_task_line

-- ---- text put into a list
-- the text stands from the place `at` on and nothing else is changed; `past` is the place after it, and it is no longer than `most`
pub record Put (out : List ℕ) (at : ℕ) (text : List ℕ) (most : ℕ) (later : List ℕ) (past : ℕ) : Type 0 where
  pub stored : later ≡ sets out at text
  pub ends : past ≡ at + length text
  pub short : length text ≤ most
