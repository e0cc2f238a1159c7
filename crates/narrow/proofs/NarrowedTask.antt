-- The page's task from the searches' results: one that is only here, one that may stand elsewhere too, one that no rule touches.
use mathlib.Core.Path.{◌≡◌, refl, sym, ap, ◌∙◌}
use mathlib.Core.Bool.{Bool, true, false}
use mathlib.Core.List.{List}
use Prim.Native.Nat.{ℕ}
use lib.Dec.{eqb}
use lib.IntN.{ℤ, pos, ◌+ℤ◌, ◌-ℤ◌}
use lib.Signed.{lt_z}
use Rattle.std.specs.Prelude.{Ok, Err}
use Rattle.integers.specs.Tests.{if}
use Rattle.integers.specs.Ends.{Within}
use Rattle.integers.specs.Hull.{range, Left, left}
use Rattle.integers.specs.Hull.Left.{Some}
use Rattle.integers.proofs.Z.{z, +z, -z, lt_z_out}
use Rattle.integers.proofs.Tests.{clash, by_cases, if-case, and_first, and_second}
use Rattle.plan.specs.declared.Task.{Task}
use Rattle.plan.specs.declared.Day.{Day}
use Rattle.plan.specs.declared.Span.{Span}
use Rattle.plan.specs.declared.Value.TheVariants.{Origin, Duration, End, Height, Set}
use Rattle.plan.specs.Refusals.{Narrowed}
use Rattle.plan.specs.Days.{days_of, span_of, empty_span}
use Rattle.plan.specs.Powers.{powers_of, power_span_of}
use Rattle.plan.specs.Tasks.{Bounded}
use Rattle.plan.proofs.Sets.{only_has}
use Rattle.plan.specs.Sets.{has, only, without}
use Rattle.rules.specs.Frame.{Floor}
use Rattle.rules.specs.Step.{possible, sure, needed, barred, shut, listed_days}
use Rattle.rules.specs.Step.{or_ran_out, keeps_origin, keeps_duration, keeps_end, keeps_height, kept_set, narrowed}
use Rattle.rules.proofs.Live.{Live}
use Rattle.rules.proofs.Untouched.{untouched_unbarred, narrowed_untouched}
use Rattle.rules.proofs.TaskDay.{Possible, possible_is, running_in, sure_in, no_sure, no_need, no_bar, needed_possible}
use Rattle.stretches.specs.declared.Stretch.{Stretch}
use Rattle.stretches.specs.Asks.{bar_of}
use Rattle.stretches.specs.Tells.{Quiet}
use Rattle.stretches.proofs.Asks.{barred_possible}
use Rattle.searches.specs.declared.Days.{Days}
use Rattle.searches.specs.Searches.{Freed, FreedEnds, Longest, Needed, Least, earlier}
use Rattle.searches.proofs.Durations.{longest_none}
use Rattle.searches.proofs.FreeSpan.{freed_none}
use Rattle.narrow.specs.Ready.{Known, possible_days, running_days, with_needs, without_here, NeedsFound, Lifted, Still, left_of, finished}
use Rattle.narrow.proofs.ToldDays.{here_live, needs_told, unsure}
use Rattle.narrow.proofs.Ranges.{Cut, needs_origin, needs_end, left_origin, left_duration, left_end}
use Rattle.narrow.proofs.Heights.{height_flat, height_same, height_left}
use Rattle.narrow.proofs.Sets.{set_needed, set_alone, set_kept, set_same}

-- ---- the page's task, put together from its five values
abbrev pieces : Left → Left → Left → Left → ℕ → Narrowed
pieces lo ld le lh s =
    or_ran_out Origin lo λ o.
    or_ran_out Duration ld λ d.
    or_ran_out End le λ e.
    or_ran_out Height lh λ h.
    if (eqb s 0) (Err Set)
    (Ok (record { set = s; origin = span_of o; duration = span_of d; end = span_of e; height = power_span_of h }))

together : (u : Task) → pieces (left_of u.origin) (left_of u.duration) (left_of u.end) (Some (powers_of u.height)) u.set ≡ finished u
unfolding finished
together u =
    by_cases (empty_span u.origin) (λ a. rw a)
    (λ a.
    by_cases (empty_span u.duration) (λ b. rw (a, b))
    (λ b. by_cases (empty_span u.end) (λ c. rw (a, b, c)) (λ c. rw (a, b, c))))

module _ (r : ℕ) (limit : Floor) (ts : List Task) (t : Task) where
  -- what each of its values leaves
  record Leaves (u : Task) : Type 0 where
    origin : left (keeps_origin r limit ts (listed_days ts) t) (days_of t.origin) ≡ left_of u.origin
    duration : left (keeps_duration r limit ts (listed_days ts) t) (days_of t.duration) ≡ left_of u.duration
    end : left (keeps_end r limit ts (listed_days ts) t) (days_of t.end) ≡ left_of u.end
    height : left (keeps_height r limit ts (listed_days ts) t) (powers_of t.height) ≡ Some (powers_of u.height)
    set : kept_set r limit ts (listed_days ts) t ≡ u.set

  narrowed_is : (u : Task) → Leaves u → finished u ≡ narrowed r limit ts (listed_days ts) t
  unfolding narrowed
  narrowed_is u l = sym (rw (l.origin, l.duration, l.end, l.height, l.set) (together u))

-- ---- needs change neither durations nor heights
pub needs_duration : (r : ℕ) (s : Days) (t : Task) → (with_needs r s t).duration ≡ t.duration
unfolding with_needs
needs_duration r s t = if-case (λ (u : Task). u.duration ≡ t.duration) (lt_z s.from.0 t.end.high.0) _ t (λ e. refl) (λ e. refl)

needs_height : (r : ℕ) (s : Days) (t : Task) → (with_needs r s t).height ≡ t.height
unfolding with_needs
needs_height r s t = if-case (λ (u : Task). u.height ≡ t.height) (lt_z s.from.0 t.end.high.0) _ t (λ e. refl) (λ e. refl)

module _ (r : ℕ) (limit : Floor) (ts : List Task) (t : Task) (ss : List Stretch) (b : Bounded t) (known : Known r limit ts t ss) where
  abbrev dl : ℤ
  dl = t.duration.low.0

  abbrev du : ℤ
  du = t.duration.high.0

  abbrev n : ℤ → Bool
  n = needed r limit ts t

  abbrev q : ℤ → Bool
  q = shut r limit ts t

  among : (i : ℤ) → n i ≡ true → Possible r i t
  among i e = possible_is r i t (needed_possible r i t limit ts e)

  -- ---- what needs leave of it
  module _ (s : Days) (found : NeedsFound t ss s) where
    abbrev u : Task
    u = with_needs r s t

    needs : has t.set r ≡ true → Needed n (possible_days t) s
    needs has = found n (needs_told r limit ts t ss b known has)

    origin_is : has t.set r ≡ true → (o : Span Day) → Freed q dl u.origin o → left (keeps_origin r limit ts (listed_days ts) t) (days_of t.origin) ≡ left_of o
    origin_is has o = left_origin r limit ts t known.among u.origin o (needs_origin r n t s (needs has) (λ i e. let p = among i e in (p.late, p.early)))

    end_is : has t.set r ≡ true → (e : Span Day) → FreedEnds q dl u.end e → left (keeps_end r limit ts (listed_days ts) t) (days_of t.end) ≡ left_of e
    end_is has e = left_end r limit ts t known.among u.end e (needs_end r n t s (needs has) (λ i e. let p = among i e in (p.late, p.early)))

    -- ---- only here: what the searches leave
    pub record Searched (out : Task) : Type 0 where
      pub set : out.set ≡ u.set
      pub origin : Freed q dl u.origin out.origin
      pub end : FreedEnds q dl u.end out.end
      pub least : out.duration.low.0 ≡ dl
      pub longest : Longest q (possible_days t) du out.duration.high.0
      pub height : Lifted t ss out.height

    pub only_page : only t.set r ≡ true → (out : Task) → Searched out → finished out ≡ narrowed r limit ts (listed_days ts) t
    only_page alone out f =
        let has = only_has t.set r alone in
        narrowed_is r limit ts t out
        (record {
          origin = origin_is has out.origin f.origin;
          duration = left_duration r limit ts t known.among out.duration f.least f.longest;
          end = end_is has out.end f.end;
          height = height_left r limit ts t ss known (here_live r limit ts t ss b known has) alone out.height f.height;
          set = set_same r limit ts t ss b known alone ∙ set_needed r limit ts t ss b known s (needs has) ∙ sym f.set;
        })

    -- ---- here and elsewhere: nothing is shut, and only the set hears of bars
    module _ (beside : only t.set r ≡ false) (has : has t.set r ≡ true) where
      open_days : (i : ℤ) → q i ≡ true → ⊥
      unfolding shut
      open_days i e = clash (only t.set r) (and_first _ _ e) beside

      leaves : (m : ℕ) → kept_set r limit ts (listed_days ts) t ≡ m
          → Leaves r limit ts t (record { set = m; origin = u.origin; duration = u.duration; end = u.end; height = u.height })
      leaves m e =
          record {
            origin = origin_is has u.origin (freed_none q dl u.origin open_days);
            duration = rw (needs_duration r s t) (left_duration r limit ts t known.among t.duration refl (longest_none q (possible_days t) du open_days));
            end = end_is has u.end (freed_none q dl (earlier dl u.end) open_days);
            height = rw (needs_height r s t) (height_same r limit ts t ss known (here_live r limit ts t ss b known has) beside);
            set = e;
          }

      pub shared_page : (x : ℤ) → Least ss (running_days t) (bar_of t) x → finished (if (lt_z x (bar_of t)) (without_here r u) u) ≡ narrowed r limit ts (listed_days ts) t
      shared_page x l =
          let low = lt_z x (bar_of t) in
          let kept = set_kept r limit ts t ss b known beside has x l ∙ ap (λ (m : ℕ). if low (without m r) m) (set_needed r limit ts t ss b known s (needs has)) in
          narrowed_is r limit ts t (if low (without_here r u) u)
          (if-case (Leaves r limit ts t) low (without_here r u) u (λ e. leaves (without u.set r) (rw e at kept)) (λ e. leaves u.set (rw e at kept)))

  -- ---- a task that nothing can change: each of its possible days is a sure one, so none is barred
  module _ (still : Still r t) where
    never_shut : (i : ℤ) → q i ≡ true → ⊥
    unfolding shut
    never_shut i e =
        let f = and_second (only t.set r) (barred r limit ts t i) e in
        let p = possible_is r i t (barred_possible r limit ts t i f) in
        let s = sure_in r i t still.alone (running_in r i t (omega z) (omega z)) in
        clash (sure r i t) s (unsure r limit ts t ss b known still.alone i f)

    still_cut : (s : Span Day) → ((v : ℤ) → Within (days_of s) v → (i : ℤ) → Possible r i t → Within (range ((i -ℤ du) +ℤ pos 1) i) v) → Cut n du s s
    still_cut s f = record { least = omega z; most = omega z; meets = λ v a i e. f v a i (among i e); whole = λ v a m. a }

    finished_live : Live t → finished t ≡ Ok t
    unfolding finished
    finished_live l =
        rw (
          lt_z_out t.origin.high.0 t.origin.low.0 l.origin,
          lt_z_out t.duration.high.0 t.duration.low.0 l.duration,
          lt_z_out t.end.high.0 t.end.low.0 l.end,
          l.set,
        )

    pub still_page : Ok t ≡ narrowed r limit ts (listed_days ts) t
    still_page =
        let live = here_live r limit ts t ss b known (only_has t.set r still.alone) in
        let f₁ = +z t.origin.low.0 du in
        let f₂ = -z t.end.low.0 du in
        let f₃ = -z t.end.high.0 du in
        sym (finished_live live)
        ∙ narrowed_is r limit ts t t
        (record {
          origin =
              left_origin r limit ts t known.among t.origin t.origin
              (still_cut t.origin (λ v a i p. omega (z, still, a, p, -z i du, +z (i -ℤ du) (pos 1)))) (freed_none q dl t.origin never_shut);
          duration = left_duration r limit ts t known.among t.duration refl (longest_none q (possible_days t) du never_shut);
          end =
              left_end r limit ts t known.among t.end t.end
              (still_cut (earlier du t.end) (λ v a i p. omega (z, still, a, p, -z i du, +z (i -ℤ du) (pos 1)))) (freed_none q dl (earlier dl t.end) never_shut);
          height = height_flat r limit ts t ss known live still.height;
          set = set_same r limit ts t ss b known still.alone ∙ set_alone r limit ts t ss b known still.alone;
        })

-- ---- no rule touches it
module _ (r : ℕ) (limit : Floor) (ts : List Task) (t : Task) (live : Live t) where
  pub quiet_page : ((i : ℤ) → Quiet r limit ts t i) → Ok t ≡ narrowed r limit ts (listed_days ts) t
  quiet_page f =
      sym (narrowed_untouched r limit ts (listed_days ts) t (λ i. let q = f i in untouched_unbarred r limit ts t i q.unneeded q.unbarred q.unlifted) live)

  -- on a day on which it is not possible
  pub quiet_off : (i : ℤ) → possible r i t ≡ false → Quiet r limit ts t i
  quiet_off i e =
      record { unneeded = no_need r i t limit ts e; unbarred = no_bar r i t limit ts e; unlifted = λ s. clash (sure r i t) s (no_sure r i t live e) }
