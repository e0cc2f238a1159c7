-- The cases, computed: every call of the list gives the answer written beside it.
use mathlib.Core.Path.{◌≡◌, refl}
use mathlib.Core.List.{List, map}
use Rattle.integers.specs.Tests.{filter, all, any}
use Rattle.integers.specs.Sums.{sum_of}
use Rattle.integers.specs.Least.{least_of, greatest_of}
use Rattle.integers.specs.Hull.{within, same_range, fits, width, up_from, count_of, values, last, hull, left}
use Rattle.plan.specs.Days.{cut_below, cut_above, cut_to}
use Rattle.plan.specs.Powers.{negated_powers}
use Rattle.plan.specs.Tasks.{no_resource}
use Rattle.plan.specs.Sets.{has, only, without, size}
use Rattle.rules.specs.Frame.{places, places_from, limit_from, limit_on}
use Rattle.rules.specs.Allowed.{inside, inside_all, joined, covers, covered_days, adds, level, meets, meets_on, holds_covered, placed_on, held_days, holds, allowed}
use Rattle.rules.specs.Listing.{cross, choices, listing, plans, count}
use Rattle.rules.specs.Balance.{each, cuts, unless_empty, balanced, balance}
use Rattle.rules.specs.Step.{possible, running, sure, hope, total, others, begun, unended, counts, shortfall, needed, barred, shut, keeps_origin, keeps_duration, keeps_end, keeps_height, needed_set, kept_set, narrowed, listed_days, at_least_step, negated, sense_step, resource_step}
use Rattle.rules.specs.Settle.{steps, pass, same_ranges, same_task, same_tasks, settle_within, room, rooms, settle}
use Rattle.rules.specs.Calls.{Result, repeats, limits, band_ends, band_fits, bands_after, bands_fit, ranges_fit, set_fits, tasks_fit, check, call_of}
use Rattle.rules.specs.BandCases.{band_cases, need_frame, need_before, need_after}
use Rattle.rules.specs.HeldCases.{held_cases, held_frame, held_before, held_after, short_frame, short_tasks}
use Rattle.rules.specs.PassCases.{pass_cases}
use Rattle.rules.specs.Cases.{Case, page_cases, own_cases, case9_calls, case9_frame, case9_before, case9_after}

abbrev answers : List Case → List Result
answers cases = map (λ k. call_of k.call k.frame k.tasks) cases

abbrev printed : List Case → List Result
printed cases = map (λ k. k.result) cases

-- the page's cases; more, each worked out by hand; those with bands, with held resources; case 9; and how many passes at most, and within so many
every_case :
    (answers page_cases ≡ printed page_cases) × (answers own_cases ≡ printed own_cases) × (answers band_cases ≡ printed band_cases)
    × (answers held_cases ≡ printed held_cases) × (answers case9_calls ≡ printed case9_calls) × (answers pass_cases ≡ printed pass_cases)
unfolding call_of check tasks_fit set_fits ranges_fit bands_fit bands_after band_fits band_ends limits repeats settle rooms room settle_within same_tasks same_task same_ranges pass steps resource_step sense_step negated at_least_step listed_days least_of greatest_of narrowed kept_set needed_set keeps_height keeps_end keeps_duration keeps_origin shut barred needed shortfall counts begun unended others total hope sure running possible balance balanced unless_empty cuts each limit_on limit_from places places_from no_resource size without only has negated_powers cut_to cut_above cut_below left hull last values count_of up_from fits width same_range within sum_of any all filter
every_case = (refl, refl, refl, refl, refl, refl)

pub page_cases_lem : answers page_cases ≡ printed page_cases
page_cases_lem = every_case.0

pub own_cases_lem : answers own_cases ≡ printed own_cases
own_cases_lem = every_case.1

pub band_cases_lem : answers band_cases ≡ printed band_cases
band_cases_lem = every_case.2

pub held_cases_lem : answers held_cases ≡ printed held_cases
held_cases_lem = every_case.3

pub case9_calls_lem : answers case9_calls ≡ printed case9_calls
case9_calls_lem = every_case.4

pub pass_cases_lem : answers pass_cases ≡ printed pass_cases
pass_cases_lem = every_case.5

-- ---- allowed plans counted by plain listing, before and after
every_count :
    (count case9_frame case9_before ≡ 6) × (count case9_frame case9_after ≡ 6) × (count need_frame need_before ≡ 1) × (count need_frame need_after ≡ 1)
    × (count held_frame held_before ≡ 2) × (count held_frame held_after ≡ 2) × (count short_frame short_tasks ≡ 0)
unfolding count plans listing choices places places_from no_resource cross allowed holds holds_covered meets_on placed_on held_days least_of greatest_of limit_on limit_from meets level adds covered_days covers joined inside_all inside has values count_of up_from within sum_of any all filter
every_count = (refl, refl, refl, refl, refl, refl, refl)

-- case 9: "Six allowed plans before and after."
pub six_before : count case9_frame case9_before ≡ 6
six_before = every_count.0

pub six_after : count case9_frame case9_after ≡ 6
six_after = every_count.1

-- one allowed plan where a band causes a need
pub need_before_lem : count need_frame need_before ≡ 1
need_before_lem = every_count.2

pub need_after_lem : count need_frame need_after ≡ 1
need_after_lem = every_count.3

-- two where a bare day between the tasks does
pub held_before_lem : count held_frame held_before ≡ 2
held_before_lem = every_count.4

pub held_after_lem : count held_frame held_after ≡ 2
held_after_lem = every_count.5

-- none where days between two tasks of duration 0 fall short
pub short_none : count short_frame short_tasks ≡ 0
short_none = every_count.6
