-- The PL record at a file's start, taken or refused, then its checks.
use Rattle.std.specs.Prelude.{Ok, Err}
use mathlib.Core.Path.{◌≡◌, refl, sym}
use mathlib.Core.List.{List}
use Prim.Native.Nat.{ℕ}
use Rattle.plan.specs.declared.Refusal.{Refusal}
use Rattle.plan.specs.Refusals.{Checked}
use Rattle.format.specs.declared.Mark.TheVariants.{PL}
use Rattle.format.specs.declared.Header.{Header}
use Rattle.format.specs.Reading.{header_in, header_due, header_unless, read_header}
use Rattle.format.proofs.Records.{due_alone}
use Rattle.reader.specs.Taking.{headers, taken_at}
use Rattle.reader.proofs.Handing.{one_taken, none_taken}

module _ (file : List ℕ) where
  pub header_refused : {f : Refusal} → taken_at headers file 0 ≡ Err f → Err f ≡ read_header file
  unfolding read_header
  header_refused e = let d = rw (due_alone PL file refl) at (none_taken headers file 0 e) in rw d

  pub header_taken : {h : Header} (c : Checked) → taken_at headers file 0 ≡ Ok h → header_due h ≡ c → header_unless c h ≡ read_header file
  unfolding read_header header_in
  header_taken c e g =
      let w = one_taken headers file 0 e in
      let d = rw (due_alone PL file refl) at w.0 in
      rw (d, sym w.1, g)
