-- The tasks that were read of a file are those of its plan, which passed the checks.
use Rattle.std.specs.Prelude.{Ok}
use Rattle.std.proofs.Common.{◌≡◌, ℕ, ◌≤◌, List, length, take, refl, sym}
use lib.Seq.{length-take-le}
use Rattle.plan.specs.declared.Task.{Task}
use Rattle.rules.specs.Frame.{Frame}
use Rattle.bound.specs.Entered.{Entered}
use Rattle.format.specs.declared.Header.{Header}
use Rattle.format.specs.Reading.{HeaderAnswer, Read, plan_after, read_header, read_plan}
use Rattle.format.proofs.Files.{whole}
use Rattle.looks.specs.Looked.{TasksRead}

module _ (file : List ℕ) (us : List Task) where
  -- what stands in the first places of the list
  pub tasks_are : (h : Header) (f : Frame) → ◌≡◌ {A = HeaderAnswer} (Ok h) (read_header file) → Read.Plan f (take h.tasks us) ≡ plan_after file (Ok h) → h.tasks ≤ length us → TasksRead (read_plan file) (Ok h.tasks) us
  unfolding read_plan
  tasks_are h f e g l = let n = length-take-le h.tasks us l in rw (sym e, sym g, n) (refl, refl)

  pub tasks_entered : (n : ℕ) → TasksRead (read_plan file) (Ok n) us → Entered (take n us)
  tasks_entered n = go (read_plan file) refl
    where
      go : (x : Read) → read_plan file ≡ x → TasksRead x (Ok n) us → Entered (take n us)
      go (Read.Plan f ts) e h =
          let same : n ≡ length ts = cc (h.0) in
          (f, rw (same, h.1) (whole e).accepted)
      go (Read.Refuse r) e h = cc (h)
