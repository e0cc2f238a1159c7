-- Files, with bands and held resources and without, each with its answer as worked out by hand: read, or refused with 1, 2, 8, 9, 11 or 13, computed.
use mathlib.Core.Path.{◌≡◌, refl}
use mathlib.Core.List.{List, [], ◌∷◌, ◌++◌}
use Prim.Native.Nat.{ℕ, zero, suc}
use lib.IntN.{ℤ, pos, negsuc}
use lib.ListN.{take}
use Rattle.integers.specs.Tests.{any, all}
use Rattle.integers.specs.Hull.{within, fits}
use Rattle.plan.specs.declared.Band.{Band}
use Rattle.plan.specs.declared.Resource.{Resource}
use Rattle.plan.specs.declared.Kind.{Kind}
use Rattle.plan.specs.declared.Kind.TheVariants.{Plain, Held}
use Rattle.plan.specs.declared.Task.{Task}
use Rattle.plan.specs.declared.Sense.TheVariants.{AtLeast}
use Rattle.plan.specs.declared.Refusal.TheVariants.{CutShort, ListShort, BandOutside, TooManyTasks, ResourceCount, WrongMark}
use Rattle.plan.specs.Days.{day}
use Rattle.plan.specs.Powers.{power}
use Rattle.plan.specs.Tasks.{no_task}
use Rattle.rules.specs.Frame.{framed, unbanded}
use Rattle.rules.specs.Calls.{repeats, limits, band_ends, band_fits, bands_after, bands_fit, ranges_fit, set_fits, tasks_fit, check}
use Rattle.format.specs.Numbers.{bytes_of, number_of}
use Rattle.format.specs.Format.{marked, due_in, field_bytes, record_bytes, fields_in, numbers_in, header_numbers, header_from, resource_numbers, resource_from, band_numbers, band_from, task_numbers, task_from, bands}
use Rattle.format.specs.Writing.{records_bytes, header_of, written}
use Rattle.format.specs.Reading.{due, each_due, records_in, band_run, band_due, each_band_due, bands_due, band_count, header_in, header_due, lists_due, read_header, bands_in, frame_in, tasks_in, body_due, Read, read_body, read_after, read_lent}

abbrev band : ℕ → ℤ → ℤ → Band
band p d l = record { place = p; from = day d; limit = power l }

abbrev resource : ℤ → ℤ → Kind → Resource
resource i l x = record { id = i; limit = power l; kind = x }

abbrev one : List Resource
one = resource (pos 7) (pos 0) Plain ∷ []

-- so many bands of limit 0, on one day after another
abbrev daily : ℕ → ℕ → List Band
daily d zero = []
daily d (suc n) = band 0 (pos d) (pos 0) ∷ daily (suc d) n

abbrev placed : Task
placed = record { set = 1; origin = no_task.origin; duration = no_task.duration; end = no_task.end; height = no_task.height }

abbrev file : List Band → List ℕ
file bs = written (framed AtLeast one bs) []

-- what reading gives, for lists of so many resources, bands and tasks
abbrev answers : List Read
answers =
    -- room 0 and no band; room 0 and one band; that band cut short
    read_lent 1 0 0 (file [])
    ∷ read_lent 1 0 0 (file (daily 0 1))
    ∷ read_lent 1 0 0 (take 27 (file (daily 0 1)))
    -- one byte of a mark; two bytes of it
    ∷ read_lent 1 0 0 (take 17 (file (daily 0 1)))
    ∷ read_lent 1 0 0 (take 18 (file (daily 0 1)))
    -- 65: room 64, room 70, room 3, the 65th cut short
    ∷ read_lent 1 64 0 (file (daily 0 65))
    ∷ read_lent 1 70 0 (file (daily 0 65))
    ∷ read_lent 1 3 0 (file (daily 0 65))
    ∷ read_lent 1 64 0 (take 795 (file (daily 0 65)))
    -- of 65, one out of order
    ∷ read_lent 1 64 0 (file (daily 0 3 ++ daily 2 62))
    -- of 66 the 65th is met whole; the rest does not count
    ∷ read_lent 1 64 0 (take 797 (file (daily 0 66)))
    -- place 65535; with a byte left over
    ∷ read_lent 1 64 0 (file (band 65535 (pos 0) (pos 0) ∷ []))
    ∷ read_lent 1 64 0 (file (band 65535 (pos 0) (pos 0) ∷ []) ++ 76 ∷ [])
    -- a band's day and limit at their ends
    ∷ read_lent 1 2 0 (file (band 0 (negsuc 99999) (negsuc 999999) ∷ band 0 (pos 100000) (pos 1000000) ∷ []))
    -- a day below every day: 32 bits
    ∷ read_lent 1 2 0 (file (band 0 (negsuc 2147483647) (pos 0) ∷ []))
    -- a band behind the tasks is left over
    ∷ read_lent 1 2 1 (written (unbanded AtLeast one) (placed ∷ []) ++ records_bytes bands (daily 0 1))
    -- nothing; one byte; another mark, cut short; a PL cut short whose sense is 2
    ∷ read_lent 9 0 0 []
    ∷ read_lent 9 0 0 (80 ∷ [])
    ∷ read_lent 9 0 0 (80 ∷ 75 ∷ [])
    ∷ read_lent 9 0 0 (80 ∷ 76 ∷ 2 ∷ 0 ∷ 1 ∷ [])
    -- sense 2, no resource, 257 tasks; the same of sense 1; no resource; 17; more resources than the list has places; more tasks
    ∷ read_lent 0 0 0 (80 ∷ 76 ∷ 2 ∷ 0 ∷ 1 ∷ 1 ∷ [])
    ∷ read_lent 0 0 0 (80 ∷ 76 ∷ 1 ∷ 0 ∷ 1 ∷ 1 ∷ [])
    ∷ read_lent 0 0 0 (80 ∷ 76 ∷ 1 ∷ 0 ∷ 0 ∷ 0 ∷ [])
    ∷ read_lent 0 0 0 (80 ∷ 76 ∷ 1 ∷ 17 ∷ 0 ∷ 0 ∷ [])
    ∷ read_lent 0 0 0 (80 ∷ 76 ∷ 1 ∷ 1 ∷ 0 ∷ 0 ∷ [])
    ∷ read_lent 1 0 0 (80 ∷ 76 ∷ 1 ∷ 1 ∷ 1 ∷ 0 ∷ [])
    -- the resource is not there; its mark is another; it is cut short
    ∷ read_lent 1 0 0 (80 ∷ 76 ∷ 1 ∷ 1 ∷ 0 ∷ 0 ∷ [])
    ∷ read_lent 1 0 0 (80 ∷ 76 ∷ 1 ∷ 1 ∷ 0 ∷ 0 ∷ 84 ∷ 75 ∷ [])
    ∷ read_lent 1 0 0 (80 ∷ 76 ∷ 1 ∷ 1 ∷ 0 ∷ 0 ∷ 82 ∷ 83 ∷ [])
    -- a band byte by byte: place 0, from day 3 on, limit 5
    ∷ read_lent 1 1 0 (80 ∷ 76 ∷ 1 ∷ 1 ∷ 0 ∷ 0 ∷ 82 ∷ 83 ∷ 7 ∷ 0 ∷ 0 ∷ 0 ∷ 0 ∷ 0 ∷ 0 ∷ 0 ∷ 76 ∷ 66 ∷ 0 ∷ 0 ∷ 3 ∷ 0 ∷ 0 ∷ 0 ∷ 5 ∷ 0 ∷ 0 ∷ 0 ∷ [])
    -- a held resource byte by byte; plain after held, held after plain
    ∷ read_lent 1 0 0 (80 ∷ 76 ∷ 1 ∷ 1 ∷ 0 ∷ 0 ∷ 82 ∷ 72 ∷ 7 ∷ 0 ∷ 0 ∷ 0 ∷ 5 ∷ 0 ∷ 0 ∷ 0 ∷ [])
    ∷ read_lent 2 0 0 (80 ∷ 76 ∷ 1 ∷ 2 ∷ 0 ∷ 0 ∷ 82 ∷ 72 ∷ 7 ∷ 0 ∷ 0 ∷ 0 ∷ 5 ∷ 0 ∷ 0 ∷ 0 ∷ 82 ∷ 83 ∷ 8 ∷ 0 ∷ 0 ∷ 0 ∷ 4 ∷ 0 ∷ 0 ∷ 0 ∷ [])
    ∷ read_lent 2 0 0 (80 ∷ 76 ∷ 1 ∷ 2 ∷ 0 ∷ 0 ∷ 82 ∷ 83 ∷ 7 ∷ 0 ∷ 0 ∷ 0 ∷ 5 ∷ 0 ∷ 0 ∷ 0 ∷ 82 ∷ 72 ∷ 8 ∷ 0 ∷ 0 ∷ 0 ∷ 4 ∷ 0 ∷ 0 ∷ 0 ∷ [])
    -- cut short by a byte; after its mark; within it; a mark that shares the first byte, whole and cut short
    ∷ read_lent 1 0 0 (80 ∷ 76 ∷ 1 ∷ 1 ∷ 0 ∷ 0 ∷ 82 ∷ 72 ∷ 7 ∷ 0 ∷ 0 ∷ 0 ∷ 5 ∷ 0 ∷ 0 ∷ [])
    ∷ read_lent 1 0 0 (80 ∷ 76 ∷ 1 ∷ 1 ∷ 0 ∷ 0 ∷ 82 ∷ 72 ∷ [])
    ∷ read_lent 1 0 0 (80 ∷ 76 ∷ 1 ∷ 1 ∷ 0 ∷ 0 ∷ 82 ∷ [])
    ∷ read_lent 1 0 0 (80 ∷ 76 ∷ 1 ∷ 1 ∷ 0 ∷ 0 ∷ 82 ∷ 88 ∷ 7 ∷ 0 ∷ 0 ∷ 0 ∷ 5 ∷ 0 ∷ 0 ∷ 0 ∷ [])
    ∷ read_lent 1 0 0 (80 ∷ 76 ∷ 1 ∷ 1 ∷ 0 ∷ 0 ∷ 82 ∷ 88 ∷ [])
    -- RH where PL is due; where TK is due, whole and cut short; behind the last record
    ∷ read_lent 1 0 0 (82 ∷ 72 ∷ [])
    ∷ read_lent 1 0 1 (80 ∷ 76 ∷ 1 ∷ 1 ∷ 1 ∷ 0 ∷ 82 ∷ 83 ∷ 7 ∷ 0 ∷ 0 ∷ 0 ∷ 5 ∷ 0 ∷ 0 ∷ 0 ∷ 82 ∷ 72 ∷ 8 ∷ 0 ∷ 0 ∷ 0 ∷ 4 ∷ 0 ∷ 0 ∷ 0 ∷ [])
    ∷ read_lent 1 0 1 (80 ∷ 76 ∷ 1 ∷ 1 ∷ 1 ∷ 0 ∷ 82 ∷ 83 ∷ 7 ∷ 0 ∷ 0 ∷ 0 ∷ 5 ∷ 0 ∷ 0 ∷ 0 ∷ 82 ∷ 72 ∷ [])
    ∷ read_lent 1 0 0 (80 ∷ 76 ∷ 1 ∷ 1 ∷ 0 ∷ 0 ∷ 82 ∷ 83 ∷ 7 ∷ 0 ∷ 0 ∷ 0 ∷ 5 ∷ 0 ∷ 0 ∷ 0 ∷ 82 ∷ 72 ∷ 8 ∷ 0 ∷ 0 ∷ 0 ∷ 4 ∷ 0 ∷ 0 ∷ 0 ∷ [])
    ∷ []

abbrev printed : List Read
printed =
    Read.Plan (framed AtLeast one []) []
    ∷ Read.Refuse ListShort
    ∷ Read.Refuse (CutShort 16)
    ∷ Read.Refuse (CutShort 16)
    ∷ Read.Refuse (CutShort 16)
    ∷ Read.Refuse (BandOutside 64)
    ∷ Read.Refuse (BandOutside 64)
    ∷ Read.Refuse ListShort
    ∷ Read.Refuse (CutShort 784)
    ∷ Read.Refuse (BandOutside 64)
    ∷ Read.Refuse (BandOutside 64)
    ∷ Read.Refuse (BandOutside 0)
    ∷ Read.Refuse (CutShort 28)
    ∷ Read.Plan (framed AtLeast one (band 0 (negsuc 99999) (negsuc 999999) ∷ band 0 (pos 100000) (pos 1000000) ∷ [])) []
    ∷ Read.Refuse (BandOutside 0)
    ∷ Read.Refuse (CutShort 52)
    ∷ Read.Refuse (CutShort 0)
    ∷ Read.Refuse (CutShort 0)
    ∷ Read.Refuse (WrongMark 0)
    ∷ Read.Refuse (CutShort 0)
    ∷ Read.Refuse (WrongMark 0)
    ∷ Read.Refuse TooManyTasks
    ∷ Read.Refuse ResourceCount
    ∷ Read.Refuse ResourceCount
    ∷ Read.Refuse ListShort
    ∷ Read.Refuse ListShort
    ∷ Read.Refuse (CutShort 6)
    ∷ Read.Refuse (WrongMark 6)
    ∷ Read.Refuse (CutShort 6)
    ∷ Read.Plan (framed AtLeast one (band 0 (pos 3) (pos 5) ∷ [])) []
    ∷ Read.Plan (unbanded AtLeast (resource (pos 7) (pos 5) Held ∷ [])) []
    ∷ Read.Plan (unbanded AtLeast (resource (pos 7) (pos 5) Held ∷ resource (pos 8) (pos 4) Plain ∷ [])) []
    ∷ Read.Plan (unbanded AtLeast (resource (pos 7) (pos 5) Plain ∷ resource (pos 8) (pos 4) Held ∷ [])) []
    ∷ Read.Refuse (CutShort 6)
    ∷ Read.Refuse (CutShort 6)
    ∷ Read.Refuse (CutShort 6)
    ∷ Read.Refuse (WrongMark 6)
    ∷ Read.Refuse (WrongMark 6)
    ∷ Read.Refuse (WrongMark 0)
    ∷ Read.Refuse (WrongMark 16)
    ∷ Read.Refuse (WrongMark 16)
    ∷ Read.Refuse (CutShort 16)
    ∷ []

pub band_files : answers ≡ printed
unfolding no_task any all within fits repeats limits band_ends band_fits bands_after bands_fit ranges_fit set_fits tasks_fit check bytes_of number_of marked due_in field_bytes record_bytes fields_in numbers_in header_numbers header_from resource_numbers resource_from band_numbers band_from task_numbers task_from records_bytes header_of written due each_due records_in band_run band_due each_band_due bands_due band_count header_in header_due lists_due read_header bands_in frame_in tasks_in body_due read_body read_after read_lent
band_files = refl
