-- The step under way: the first tasks are narrowed, the others as they entered; whatever the stretches tell of, what is left to do gives the answer.
use Rattle.std.specs.Prelude.{Some, None, Ok, Err}
use Rattle.std.specs.Result.{result_ok}
use native.Mathlib.Omega.{arith}
use mathlib.Core.Path.{◌≡◌, sym, ap, ◌∙◌, subst}
use mathlib.Core.Bool.{false}
use mathlib.Core.List.{List}
use Prim.Native.Nat.{ℕ, ◌+◌, ◌≤◌, ◌<◌}
use lib.Dec.{eqb}
use lib.ListN.{length, get_or, set}
use Rattle.std.proofs.lemmas.List.{set-get_or}
use Rattle.integers.specs.Tests.{if}
use Rattle.integers.specs.Lists.{Each, In}
use Rattle.integers.proofs.Lists.{in_at, each_in}
use Rattle.plan.specs.declared.Task.{Task}
use Rattle.plan.specs.Refusals.{Narrowed}
use Rattle.plan.specs.Sets.{union}
use Rattle.plan.specs.Tasks.{no_task, Bounded, TaskFits}
use Rattle.rules.specs.Frame.{Floor}
use Rattle.rules.specs.Balance.{each}
use Rattle.rules.specs.Balance.Outcome.{NoPlan, Plan}
use Rattle.rules.specs.Step.{narrowed, listed_days}
use Rattle.rules.specs.Settle.{same_task}
use Rattle.rules.proofs.Walk.{each_left, each_start, each_kept, each_same, each_out, each_end}
use Rattle.changes.specs.Changes.{seen_by}
use Rattle.changes.proofs.Walk.{Begun, begun_start, begun_next, begun_more, begun_same}
use Rattle.stretches.specs.declared.Stretch.{Stretch}
use Rattle.narrow.specs.Ready.{ByPage}
use Rattle.step.specs.declared.Least.{Least}
use Rattle.step.specs.Told.{TellsAll, EachByPage}
use Rattle.step.specs.Least.{Under, asks_more}
use Rattle.step.proofs.Listed.{by_page, calm_kept}

module _ (r : ℕ) (ss : List Stretch) (ts : List Task) where
  abbrev page : Floor → Task → Narrowed
  page limit = narrowed r limit ts (listed_days ts)

  pub record Narrowing (i : ℕ) (us : List Task) (touched : ℕ) : Type 0 where
    pub begun : Begun ts i us touched
    pub left : (limit : Floor) → TellsAll r limit ts ss → each_left (page limit) i us ≡ each (page limit) ts

  pub narrowing_start : Narrowing 0 ts 0
  narrowing_start = record { begun = begun_start ts; left = λ limit told. each_start (page limit) ts }

  module _ (fit : Each (TaskFits 64) ts) (i : ℕ) (us : List Task) (touched : ℕ) (w : Narrowing i us touched) (h : i < length us) where
    abbrev next : Task
    next = get_or us i no_task

    next_among : In next ts
    next_among =
        let size = w.begun.size in
        subst (λ (t : Task). In t ts) (sym (begun_next ts i us touched w.begun)) (in_at no_task i ts (omega arith))

    pub next_fits : Bounded next
    next_fits = (each_in fit next_among).ranges

    -- put back as what is left of it
    pub narrowing_kept : (out : Narrowed) → (eqb next.set 0 ≡ false → ByPage r next ss out) → (u : Task) → result_ok out ≡ Some u
        → Narrowing (i + 1) (set us i u) (if (same_task next u) touched (union touched (seen_by next u)))
    narrowing_kept (Err v) p u e = absurd (cc)
    narrowing_kept (Ok v) p u e =
        let same : v ≡ u = cc in
        record {
          begun = begun_more ts i us touched u h w.begun;
          left =
              λ limit told.
              each_kept (page limit) no_task u i us h (by_page r limit ss ts fit next_among told (Ok v) p ∙ ap Ok same) ∙ w.left limit told;
        }

    -- passed over, where it asks for no more than any stretch leaves
    pub narrowing_same : (l : Least) → Under l ss → asks_more r next l ≡ false → Narrowing (i + 1) (set us i next) touched
    narrowing_same l under e =
        rw (set-get_or us i no_task)
        record {
          begun = begun_same ts i us touched w.begun;
          left = λ limit told. each_same (page limit) no_task i us h (calm_kept r limit ss ts fit next_among told l under e) ∙ w.left limit told;
        }

    -- a value of it ran out
    pub narrowing_out : (out : Narrowed) → (eqb next.set 0 ≡ false → ByPage r next ss out) → result_ok out ≡ None → EachByPage r ts ss NoPlan
    narrowing_out (Ok v) p e = absurd (cc)
    narrowing_out (Err v) p e =
        λ limit told. sym (each_out (page limit) no_task v i us h (by_page r limit ss ts fit next_among told (Err v) p)) ∙ w.left limit told

  pub narrowing_end : (i : ℕ) (us : List Task) (touched : ℕ) → Narrowing i us touched → length us ≤ i → EachByPage r ts ss (Plan us)
  narrowing_end i us touched w h limit told = sym (each_end (page limit) i us h) ∙ w.left limit told
