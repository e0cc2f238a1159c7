-- What a look at a file answers, made one number: 0 where it is only asked whether the file is accepted.
use Rattle.std.specs.Prelude.{Ok}
use Rattle.std.specs.Result.{result_and}
use Rattle.std.proofs.Common.{◌≡◌, ℕ, List, refl}
use Rattle.rules.specs.Settle.{most_passes}
use Rattle.format.specs.Reading.{Read, read_plan}
use Rattle.answers.specs.Files.{answer_number, read_number, checked, check_file, most_file}
use Rattle.answers.specs.Outcomes.{entry_outcome, most_outcome, entry_checked, file_checked}

pub most_number : (file : List ℕ) → answer_number (most_outcome file) ≡ most_file file
unfolding most_file
most_number file = by_read (read_plan file)
  where
    by_read : (x : Read) → answer_number (entry_outcome most_passes x) ≡ read_number most_passes x
    by_read (Read.Plan f ts) = refl
    by_read (Read.Refuse e) = refl

pub check_number : (file : List ℕ) → answer_number (result_and (file_checked file) (Ok 0)) ≡ check_file file
unfolding check_file
check_number file = by_read (read_plan file)
  where
    by_read : (x : Read) → answer_number (result_and (entry_checked x) (Ok 0)) ≡ read_number checked x
    by_read (Read.Plan f ts) = refl
    by_read (Read.Refuse e) = refl
