-- Each run where the reader stands, then the length.
use native.Mathlib.Omega.{arith}
use mathlib.Core.Path.{◌≡◌}
use lib.ListN.{length, drop}
use lib.Seq.{length-take-le}
use Rattle.std.proofs.lemmas.Result.{err_from_is_err_and}
use Rattle.format.specs.Format.{bands_from, tasks_from, file_length}
use Rattle.file.proofs.Body.{unlisted, unbanded, unlasted, left_over, all_read}
use Rattle.file.proofs.read_body.Goals as goal

pub returns-in_err-read_run-clause-read : goal.returns-in_err-read_run-clause-read
returns-in_err-read_run-clause-read c =
    let a = c.args in
    let n = length-take-le a.h.resources a.resources.now c.requires.0 in
    let p = err_from_is_err_and c.from_residual.result c.from_residual.ensures.1 in
    rw (p.1, p.2) (unlisted a.h a.file.now n c.read_run.ensures.read (length a.bands.now) c.in_err-read_run.was)

pub returns-in_err-k-clause-read : goal.returns-in_err-k-clause-read
returns-in_err-k-clause-read c =
    let a = c.args in
    let n = length-take-le a.h.resources a.resources.now c.requires.0 in
    let p = err_from_is_err_and c.from_residual-in_err-k.result c.from_residual-in_err-k.ensures.1 in
    let behind : c.read_run.new.reader.at ≡ bands_from a.h.resources = rw n at c.in_ok-read_run.ensures.past in
    let banded = rw c.read_run.ensures.same_file at c.read_bands.ensures.read_bands in
    rw (p.1, p.2) (unbanded a.h a.file.now n c.read_run.ensures.read c.in_ok-read_run.was behind banded c.in_err-k.was)

pub returns-in_err-read_run-2-clause-read : goal.returns-in_err-read_run-2-clause-read
returns-in_err-read_run-2-clause-read c =
    let a = c.args in
    let n = length-take-le a.h.resources a.resources.now c.requires.0 in
    let m = length-take-le a.h.tasks a.tasks.now c.requires.1 in
    let p = err_from_is_err_and c.from_residual-in_err-read_run-2.result c.from_residual-in_err-read_run-2.ensures.1 in
    let behind : c.read_run.new.reader.at ≡ bands_from a.h.resources = rw n at c.in_ok-read_run.ensures.past in
    let banded = rw c.read_run.ensures.same_file at c.read_bands.ensures.read_bands in
    let next : c.read_bands.new.reader.at ≡ tasks_from a.h.resources c.in_ok-k.k = rw behind at c.in_ok-k.ensures.past in
    let rest = rw (c.read_bands.ensures.same_file, c.read_run.ensures.same_file) at c.read_run-2.ensures.read in
    rw (p.1, p.2)
    (unlasted a.h a.file.now n c.read_run.ensures.read c.in_ok-read_run.was behind banded c.in_ok-k.was m next rest c.in_err-read_run-2.was)

pub returns-then-reader-file-clause-read : goal.returns-then-reader-file-clause-read
returns-then-reader-file-clause-read c =
    let a = c.args in
    let n = length-take-le a.h.resources a.resources.now c.requires.0 in
    let m = length-take-le a.h.tasks a.tasks.now c.requires.1 in
    let behind : c.read_run.new.reader.at ≡ bands_from a.h.resources = rw n at c.in_ok-read_run.ensures.past in
    let banded = rw c.read_run.ensures.same_file at c.read_bands.ensures.read_bands in
    let next : c.read_bands.new.reader.at ≡ tasks_from a.h.resources c.in_ok-k.k = rw behind at c.in_ok-k.ensures.past in
    let rest = rw (c.read_bands.ensures.same_file, c.read_run.ensures.same_file) at c.read_run-2.ensures.read in
    let there : c.read_run-2.new.reader.at ≡ file_length a.h.resources c.in_ok-k.k a.h.tasks = rw (next, m) at c.in_ok-read_run-2.ensures.past in
    left_over a.h a.file.now n c.read_run.ensures.read c.in_ok-read_run.was behind banded c.in_ok-k.was m next rest c.in_ok-read_run-2.was there c.if-reader-file.true

pub returns-clause-read : goal.returns-clause-read
returns-clause-read c =
    let a = c.args in
    let n = length-take-le a.h.resources a.resources.now c.requires.0 in
    let m = length-take-le a.h.tasks a.tasks.now c.requires.1 in
    let behind : c.read_run.new.reader.at ≡ bands_from a.h.resources = rw n at c.in_ok-read_run.ensures.past in
    let banded = rw c.read_run.ensures.same_file at c.read_bands.ensures.read_bands in
    let next : c.read_bands.new.reader.at ≡ tasks_from a.h.resources c.in_ok-k.k = rw behind at c.in_ok-k.ensures.past in
    let rest = rw (c.read_bands.ensures.same_file, c.read_run.ensures.same_file) at c.read_run-2.ensures.read in
    let there : c.read_run-2.new.reader.at ≡ file_length a.h.resources c.in_ok-k.k a.h.tasks = rw (next, m) at c.in_ok-read_run-2.ensures.past in
    all_read a.h a.file.now n c.read_run.ensures.read c.in_ok-read_run.was behind banded c.in_ok-k.was m next rest c.in_ok-read_run-2.was there c.if-reader-file.false
    (omega (arith, n)) (omega (arith, m)) (drop a.h.resources a.resources.now) (drop a.h.tasks a.tasks.now)
