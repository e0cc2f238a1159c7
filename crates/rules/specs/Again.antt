-- "The host cuts off long calls": settling in several calls, each of so many passes at most, on what the one before left, until one reports a
-- count or is refused.
use Rattle.std.specs.Prelude.{ℕ, ◌+◌, List, [], ◌∷◌, Bool, eqb, get_or}
use Rattle.integers.specs.Tests.{if, and}
use Rattle.plan.specs.declared.Task.{Task}
use Rattle.plan.specs.declared.Call.TheVariants.{Within}
use Rattle.plan.specs.Refusals.{Told, told}
use Rattle.rules.specs.Frame.{Frame}
use Rattle.rules.specs.Calls.{ListResult, list_result, list_call}

-- how many passes such calls make at most, all together
unfoldable pub in_all : List ℕ → ℕ
in_all [] = 0
in_all (most ∷ mosts) = most + in_all mosts

-- what a call answers whose passes were too few: nothing is refused, and no count is reported
abbrev pub no_count : Told
no_count = told 0 (0 ∷ [])

abbrev pub goes_on : Told → Bool
goes_on a = and (eqb a.number 0) (eqb (get_or a.values 0 0) 0)

-- the host adds up: the passes of the calls before, and those that the last one counts; a refusal stays as it is
abbrev pub with_before : ℕ → Told → Told
with_before before a = if (eqb a.number 0) (told 0 ((before + get_or a.values 0 0) ∷ [])) a

-- with so many passes made before
unfoldable pub settle_again : ℕ → List ℕ → Frame → List Task → ListResult
settle_again before [] f ts = list_result no_count ts
settle_again before (most ∷ mosts) f ts =
    let r = list_call (Within most) f ts in
    if (goes_on r.answer) (settle_again (before + most) mosts f r.tasks) (list_result (with_before before r.answer) r.tasks)
