-- So many digits are left.
use Rattle.text.proofs.Text.+last_digits.Given as goal

abbrev pub decreases-last_digits : goal.decreases-last_digits
decreases-last_digits l = l.most
