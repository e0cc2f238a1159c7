-- Case 9 of the page, whole: the bytes of its plan file, and the lines that the planning program prints for it.
use Rattle.std.specs.Prelude.{List, [], ◌∷◌, ℕ}

-- "at least; resources 7 (limit 4), 9 (limit 3). Task 0: set 1, origin 1..2, duration 2, end 3..4, height 0..1. Task 1: set 3, origin 0..6,
-- duration 2, end 2..8, height 0..4."
abbrev pub case9_file : List ℕ
case9_file =
    -- PL: sense 1, 2 resources, 2 tasks
    80 ∷ 76 ∷ 1 ∷ 2 ∷ 2 ∷ 0
    -- RS: identifier 7, limit 4
    ∷ 82 ∷ 83 ∷ 7 ∷ 0 ∷ 0 ∷ 0 ∷ 4 ∷ 0 ∷ 0 ∷ 0
    -- RS: identifier 9, limit 3
    ∷ 82 ∷ 83 ∷ 9 ∷ 0 ∷ 0 ∷ 0 ∷ 3 ∷ 0 ∷ 0 ∷ 0
    -- TK: set 1, origin 1..2, duration 2, end 3..4, height 0..1
    ∷ 84 ∷ 75 ∷ 1 ∷ 0 ∷ 1 ∷ 0 ∷ 0 ∷ 0 ∷ 2 ∷ 0 ∷ 0 ∷ 0 ∷ 2 ∷ 0 ∷ 0 ∷ 0 ∷ 2 ∷ 0 ∷ 0 ∷ 0 ∷ 3 ∷ 0 ∷ 0 ∷ 0 ∷ 4 ∷ 0 ∷ 0 ∷ 0 ∷ 0 ∷ 0 ∷ 0 ∷ 0 ∷ 1 ∷ 0 ∷ 0 ∷ 0
    -- TK: set 3, origin 0..6, duration 2, end 2..8, height 0..4
    ∷ 84 ∷ 75 ∷ 3 ∷ 0 ∷ 0 ∷ 0 ∷ 0 ∷ 0 ∷ 6 ∷ 0 ∷ 0 ∷ 0 ∷ 2 ∷ 0 ∷ 0 ∷ 0 ∷ 2 ∷ 0 ∷ 0 ∷ 0 ∷ 2 ∷ 0 ∷ 0 ∷ 0 ∷ 8 ∷ 0 ∷ 0 ∷ 0 ∷ 0 ∷ 0 ∷ 0 ∷ 0 ∷ 4 ∷ 0 ∷ 0 ∷ 0
    ∷ []

-- "for case 9, prints exactly these lines, each ended by a line feed"
abbrev pub case9_text : List ℕ
case9_text =
    -- settled 3
    115 ∷ 101 ∷ 116 ∷ 116 ∷ 108 ∷ 101 ∷ 100 ∷ 32 ∷ 51 ∷ 10
    -- 0 1 1 2 2 2 3 4 0 1
    ∷ 48 ∷ 32 ∷ 49 ∷ 32 ∷ 49 ∷ 32 ∷ 50 ∷ 32 ∷ 50 ∷ 32 ∷ 50 ∷ 32 ∷ 51 ∷ 32 ∷ 52 ∷ 32 ∷ 48 ∷ 32 ∷ 49 ∷ 10
    -- 1 1 1 2 2 2 3 4 3 4
    ∷ 49 ∷ 32 ∷ 49 ∷ 32 ∷ 49 ∷ 32 ∷ 50 ∷ 32 ∷ 50 ∷ 32 ∷ 50 ∷ 32 ∷ 51 ∷ 32 ∷ 52 ∷ 32 ∷ 51 ∷ 32 ∷ 52 ∷ 10
    ∷ []
