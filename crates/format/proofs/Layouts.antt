-- The three lists of a plan are laid out lawfully: an accepted plan's resources, bands and tasks are held by their records, and each is read
-- back.
use Rattle.plan.specs.Refusals.{accepted}
use mathlib.Core.Path.{◌≡◌, refl, sym}
use mathlib.Core.Bool.{true}
use mathlib.Core.List.{List, [], ◌∷◌, ◌++◌}
use Prim.Native.Nat.{ℕ, suc, ◌≤◌, ◌<◌, ◌^◌}
use native.Mathlib.Omega.{arith}
use native.Mathlib.Nat.{pow-le-pow_right}
use lib.IntN.{ℤ}
use lib.ListN.{length, get_or}
use mir.Syntax.{w32}
use mir.Val.{SFits, to_z, of_z}
use mir.Facts.{Fits-of_z, to_z-of_z, of_z-to_z, sfits_to_z}
use Rattle.integers.specs.Ends.{Within}
use Rattle.integers.specs.Lists.{Each}
use Rattle.integers.specs.Lists.Each.{nothing, also}
use Rattle.integers.proofs.Z.{z}
use Rattle.integers.specs.Tests.{all}
use Rattle.integers.proofs.Tests.{by_cases, and_first, and_second}
use Rattle.integers.proofs.Lists.{each_so}
use Rattle.plan.specs.declared.Task.{Task}
use Rattle.plan.specs.declared.Resource.{Resource}
use Rattle.plan.specs.declared.Kind.{Kind}
use Rattle.plan.specs.declared.Band.{Band}
use Rattle.plan.specs.Powers.{power_ends}
use Rattle.plan.specs.Tasks.{most_resources, no_resource, TaskFits}
use Rattle.rules.specs.Frame.{Frame, resource_count}
use Rattle.rules.specs.Calls.{band_fits, check}
use Rattle.rules.proofs.Checks.{accepts}
use Rattle.rules.proofs.Bands.{fits_ends, fits_place, ends_in}
use Rattle.format.specs.declared.Mark.{Mark}
use Rattle.format.specs.declared.Mark.TheVariants.{RS, RH, LB, TK}
use Rattle.format.specs.Format.{resources, bands, tasks, marked, due_in, kind_mark, kind_from, widths, record_bytes, resource_numbers, resource_from, band_numbers, band_from, task_numbers, task_from}
use Rattle.format.specs.Writing.{Identified, Limited, ResourceSmall, two_bytes, BandSmall, TaskSmall}
use Rattle.format.proofs.Numbers.{beyond}
use Rattle.format.proofs.Records.{Held, none, more, due_alone, Lawful}

-- ---- signed numbers of four bytes
word : {x : ℤ} → SFits w32 x → of_z w32 x < beyond 4
unfolding beyond
word f = (Fits-of_z f).fits

bits : {n : ℕ} → n < beyond 4 → of_z w32 (to_z w32 n) ≡ n
unfolding beyond
bits h = of_z-to_z {w = w32} (record { fits = h })

-- ---- resources
-- a kind's mark stands where a resource is due, and tells the kind
kind_stands : (x : Kind) (ns rest : List ℕ) → due_in RS (record_bytes (kind_mark x) ns ++ rest) ≡ kind_mark x
unfolding due_in marked record_bytes
kind_stands Kind.Plain ns rest = refl
kind_stands Kind.Held ns rest = refl

kind_back : (x : Kind) → kind_from (kind_mark x) ≡ x
kind_back Kind.Plain = refl
kind_back Kind.Held = refl

kind_again : (bs : List ℕ) → kind_mark (kind_from (due_in RS bs)) ≡ due_in RS bs
unfolding due_in
kind_again bs = by_cases (marked RH bs) (λ e. rw e) (λ e. rw e)

pub resources_lawful : Lawful resources ResourceSmall
unfolding resource_numbers resource_from
resources_lawful =
    record {
      stands = λ q ns rest. kind_stands q.kind ns rest;
      again = λ bs ns. kind_again bs;
      long = λ q. refl;
      held = λ q f. more (word f.id) (more (word f.limit) none);
      back = λ q f. simp (to_z-of_z f.id, to_z-of_z f.limit, kind_back q.kind);
      forth = forth;
    }
  where
    forth : (k : Mark) (ns : List ℕ) → Held (widths RS) ns → resource_numbers (resource_from k ns) ≡ ns
    forth k _ (more a (more b none)) = simp (bits a, bits b)

pub resource_identified : (k : Mark) (ns : List ℕ) → Held (widths RS) ns → Identified (resource_from k ns)
unfolding resource_from beyond
resource_identified k _ (more a r) = sfits_to_z (record { fits = a })

-- ---- bands
pub bands_lawful : Lawful bands BandSmall
unfolding band_numbers band_from beyond
bands_lawful =
    record {
      stands = λ b ns rest. due_alone LB (record_bytes LB ns ++ rest) refl;
      again = λ bs ns. sym (due_alone LB bs refl);
      long = λ b. refl;
      held = λ b f. more f.place (more (word f.from) (more (word f.limit) none));
      back = λ b f. simp (to_z-of_z f.from, to_z-of_z f.limit);
      forth = forth;
    }
  where
    forth : (k : Mark) (ns : List ℕ) → Held (widths LB) ns → band_numbers (band_from ns) ≡ ns
    forth k _ (more _ (more a (more b none))) = simp (bits a, bits b)

-- ---- tasks
pub tasks_lawful : (n : ℕ) → Lawful (tasks n) TaskSmall
unfolding task_numbers task_from beyond
tasks_lawful n =
    record {
      stands = λ t ns rest. due_alone TK (record_bytes TK ns ++ rest) refl;
      again = λ bs ns. sym (due_alone TK bs refl);
      long = λ t. refl;
      held = held;
      back = back;
      forth = forth;
    }
  where
    held : (t : Task) → TaskSmall t → Held (widths TK) (task_numbers t)
    held t s =
        more s.set
        (more (word s.origin.low) (more (word s.origin.high)
        (more (word s.duration.low) (more (word s.duration.high)
        (more (word s.end.low) (more (word s.end.high) (more (word s.height.low) (more (word s.height.high) none))))))))

    back : (t : Task) → TaskSmall t → task_from (task_numbers t) ≡ t
    back t s =
        simp (
          to_z-of_z s.origin.low,
          to_z-of_z s.origin.high,
          to_z-of_z s.duration.low,
          to_z-of_z s.duration.high,
          to_z-of_z s.end.low,
          to_z-of_z s.end.high,
          to_z-of_z s.height.low,
          to_z-of_z s.height.high,
        )

    forth : (k : Mark) (ns : List ℕ) → Held (widths TK) ns → task_numbers (task_from ns) ≡ ns
    forth k _ (more _ (more a (more b (more c (more d (more e (more f (more g (more h none))))))))) =
        simp (bits a, bits b, bits c, bits d, bits e, bits f, bits g, bits h)

-- ---- numbers within the ends of days, durations and powers are numbers of four bytes
limits_fit : {qs : List Resource} → ((r : ℕ) → r < length qs → Within power_ends (get_or qs r no_resource).limit.0) → Each Limited qs
limits_fit {qs = []} g = nothing
limits_fit {qs = q ∷ qs} g =
    let l = g 0 (omega arith) in
    let small : SFits w32 q.limit.0 = omega z in
    also small (limits_fit (λ r h. g (suc r) (omega arith)))

limits_small : {qs : List Resource} → Each Identified qs → Each Limited qs → Each ResourceSmall qs
limits_small nothing nothing = nothing
limits_small (also i is) (also l ls) = also (record { id = i; limit = l }) (limits_small is ls)

fitting_small : (n : ℕ) → n ≤ most_resources → (bs : List Band) → all (band_fits n) bs ≡ true → Each BandSmall bs
unfolding all
fitting_small n few [] h = nothing
fitting_small n few (b ∷ bs) h =
    let fits = and_first (band_fits n b) (all (band_fits n) bs) h in
    let ends = ends_in b (fits_ends n b fits) in
    let placed = fits_place n b fits in
    let place : b.place < two_bytes = omega arith in
    let from : SFits w32 b.from.0 = omega z in
    let limit : SFits w32 b.limit.0 = omega z in
    also (record { place = place; from = from; limit = limit }) (fitting_small n few bs (and_second (band_fits n b) (all (band_fits n) bs) h))

module _ (f : Frame) (ts : List Task) (ok : check f ts ≡ accepted) where
  pub resources_limited : Each Limited f.resources
  resources_limited = limits_fit (accepts f ts ok).limits

  pub resources_small : Each Identified f.resources → Each ResourceSmall f.resources
  resources_small ids = limits_small ids resources_limited

  pub bands_small : Each BandSmall f.bands
  bands_small = fitting_small (resource_count f) (accepts f ts ok).most f.bands (accepts f ts ok).placed

  pub tasks_small : Each TaskSmall ts
  tasks_small =
      let n = resource_count f in
      let b : 2 ^ n ≤ 2 ^ most_resources = pow-le-pow_right {n = 2} (omega arith) {i = n} {j = most_resources} (accepts f ts ok).most in
      each_so {P = TaskFits n} {Q = TaskSmall} (λ t k. let p = k.places in let r = k.ranges in omega z) (accepts f ts ok).tasks
