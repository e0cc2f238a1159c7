-- 0, the lowest day and the largest number of 64 bits, and a task line of the page's case 9.
use mathlib.Core.Path.{◌≡◌, refl}
use mathlib.Core.List.{[], ◌∷◌}
use lib.IntN.{pos, negsuc}
use Rattle.plan.specs.declared.Task.{Task}
use Rattle.plan.specs.Days.{day}
use Rattle.plan.specs.Powers.{power}
use Rattle.text.specs.Text.{last_digits, digits, signed, range_text, task_line}

-- "0", "-100000" and "18446744073709551615"
zero_is : digits 0 ≡ 48 ∷ []
unfolding last_digits
zero_is = refl

lowest_day_is : signed (negsuc 99999) ≡ 45 ∷ 49 ∷ 48 ∷ 48 ∷ 48 ∷ 48 ∷ 48 ∷ []
unfolding signed last_digits
lowest_day_is = refl

largest_is : digits 18446744073709551615 ≡ 49 ∷ 56 ∷ 52 ∷ 52 ∷ 54 ∷ 55 ∷ 52 ∷ 52 ∷ 48 ∷ 55 ∷ 51 ∷ 55 ∷ 48 ∷ 57 ∷ 53 ∷ 53 ∷ 49 ∷ 54 ∷ 49 ∷ 53 ∷ []
unfolding last_digits
largest_is = refl

unfoldable settled : Task
settled =
    record {
      set = 1;
      origin = record { low = day (pos 1); high = day (pos 2) };
      duration = record { low = day (pos 2); high = day (pos 2) };
      end = record { low = day (pos 3); high = day (pos 4) };
      height = record { low = power (pos 3); high = power (pos 4) };
    }

-- "1 1 1 2 2 2 3 4 3 4"
line_is : task_line 1 settled ≡ 49 ∷ 32 ∷ 49 ∷ 32 ∷ 49 ∷ 32 ∷ 50 ∷ 32 ∷ 50 ∷ 32 ∷ 50 ∷ 32 ∷ 51 ∷ 32 ∷ 52 ∷ 32 ∷ 51 ∷ 32 ∷ 52 ∷ 10 ∷ []
unfolding task_line range_text signed last_digits settled
line_is = refl
