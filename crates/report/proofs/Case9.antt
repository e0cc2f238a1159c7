-- Case 9, whole output: for these bytes exactly these lines are printed.
use mathlib.Core.Path.{◌≡◌, refl}
use Rattle.integers.specs.Tests.{any, all}
use Rattle.integers.specs.Hull.{within, fits}
use Rattle.rules.specs.Calls.{repeats, limits, band_ends, band_fits, bands_after, bands_fit, ranges_fit, set_fits, tasks_fit, check}
use Rattle.rules.specs.Cases.{case9_frame, case9_before}
use Rattle.rules.proofs.Wrong.{case9_settles}
use Rattle.format.specs.Numbers.{number_of}
use Rattle.format.specs.Format.{marked, due_in, fields_in, numbers_in, header_from, resource_from, band_from, task_from}
use Rattle.format.specs.Reading.{Read, due, each_due, records_in, band_run, band_due, each_band_due, bands_due, band_count, header_in, header_due, read_header, bands_in, frame_in, tasks_in, body_due, read_body, read_after, read_plan}
use Rattle.text.specs.Text.{last_digits, signed, range_text, task_line, task_lines, settled_line}
use Rattle.report.specs.Report.{report_of}
use Rattle.report.specs.Case9.{case9_file, case9_text}

-- the bytes are those of the case
case9_read : read_plan case9_file ≡ Read.Plan case9_frame case9_before
unfolding any all within fits repeats limits band_ends band_fits bands_after bands_fit ranges_fit set_fits tasks_fit check number_of marked due_in fields_in numbers_in header_from resource_from band_from task_from due each_due records_in band_run band_due each_band_due bands_due band_count header_in header_due read_header bands_in frame_in tasks_in body_due read_body read_after read_plan
case9_read = refl

pub case9_report : report_of case9_file ≡ case9_text
unfolding report_of settled_line task_lines task_line range_text signed last_digits
case9_report = rw (case9_read, case9_settles) refl
