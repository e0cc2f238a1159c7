-- Numbers in bytes: "Numbers are little-endian, signed ones in two's complement."
use Rattle.std.specs.Prelude.{List, [], ◌∷◌, ℕ, zero, suc, ◌+◌, ◌*◌, ◌/◌, ◌%◌, ◌<◌, ℤ, take, drop}
use Rattle.std.specs.Int.{w32}
use Rattle.std.proofs.Common.{to_z, of_z}
use Rattle.integers.specs.Lists.{Each}

-- what a lent file holds: bytes
abbrev pub Byte : ℕ → Type 0
Byte b = b < 256

abbrev pub AllBytes : List ℕ → Type 0
AllBytes bs = Each Byte bs

-- a number in so many bytes, the lowest first
unfoldable pub bytes_of : ℕ → ℕ → List ℕ
bytes_of zero n = []
bytes_of (suc w) n = n % 256 ∷ bytes_of w (n / 256)

-- and the number that bytes make
unfoldable pub number_of : List ℕ → ℕ
number_of [] = 0
number_of (b ∷ bs) = b + 256 * number_of bs

-- the number in w bytes from a place on
abbrev pub number_at : List ℕ → ℕ → ℕ → ℕ
number_at bs w at = number_of (take w (drop at bs))

-- a signed number of four bytes: from 2 ^ 31 on it stands for itself less 2 ^ 32
abbrev pub signed_of : ℕ → ℤ
signed_of n = to_z w32 n

abbrev pub unsigned_of : ℤ → ℕ
unsigned_of z = of_z w32 z
