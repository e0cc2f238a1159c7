-- What is said of a reader fixes it: the bytes it holds and its place in them.
use mathlib.Core.Path.{◌≡◌, sym, ap₂, ◌∙◌}
use mathlib.Core.List.{List}
use Prim.Native.Nat.{ℕ}
use denote.Ref.{Bor}
use Rattle.reader.specs.declared.Reader.{Reader}

abbrev reader : Bor (List ℕ) → ℕ → Reader
reader file at = record { file = file; at = at }

pub one_reader : {file : Bor (List ℕ)} {at : ℕ} {x y : Reader} → (x.file ≡ file) × (x.at ≡ at) → (y.file ≡ file) × (y.at ≡ at) → x ≡ y
one_reader e f = ap₂ reader e.0 e.1 ∙ sym (ap₂ reader f.0 f.1)
