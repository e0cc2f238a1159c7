-- A step that takes each task by itself, in place from the front, and notes the places that it touched: how far it has come.
use Rattle.std.specs.Prelude.{Ok, Err, Some, None}
use Rattle.std.specs.Result.{result_ok}
use Rattle.plan.specs.Refusals.{Narrowed}
use mathlib.Core.Path.{◌≡◌, refl, sym, ap, ◌∙◌, subst}
use mathlib.Core.List.{List, ◌∷◌}
use Prim.Native.Nat.{ℕ, ◌+◌, ◌≤◌, ◌<◌}
use native.Mathlib.Omega.{arith}
use lib.ListN.{length, drop, get_or, set, length-set}
use lib.Seq.{drop-set-lt, get_or-drop, drop-drop, set-get_or}
use Rattle.integers.specs.Tests.{if}
use Rattle.plan.specs.declared.Task.{Task}
use Rattle.plan.specs.declared.Value.{Value}
use Rattle.rules.specs.Balance.{Outcome, and_then, each}
use Rattle.rules.specs.Balance.Outcome.{NoPlan, Plan}
use Rattle.rules.specs.Settle.{same_task}
use Rattle.rules.proofs.Walk.{each_left, each_start, each_kept, each_same, each_out, each_end}
use Rattle.plan.specs.Sets.{union}
use Rattle.plan.specs.Tasks.{no_task}
use Rattle.changes.specs.Changes.{seen_by, touched_by}
use Rattle.changes.proofs.Changes.{touched_self, touched_put}

no_plan : {X : Type 0} (us : List Task) → NoPlan ≡ Plan us → X
no_plan us h = let q : ◌≡◌ {A = ℕ} 0 1 = cc in absurd (omega arith)

-- of the tasks ts, the first i are done, which made them us
pub record Begun (ts : List Task) (i : ℕ) (us : List Task) (touched : ℕ) : Type 0 where
  pub size : length us ≡ length ts
  -- the others are as they were
  pub rest : drop i us ≡ drop i ts
  pub noted : touched ≡ touched_by ts us

pub begun_start : (ts : List Task) → Begun ts 0 ts 0
begun_start ts = record { size = refl; rest = refl; noted = sym (touched_self ts) }

-- the next task is still as it entered
pub begun_next : (ts : List Task) (i : ℕ) (us : List Task) (touched : ℕ) → Begun ts i us touched → get_or us i no_task ≡ get_or ts i no_task
begun_next ts i us touched w =
    let e : i + 0 ≡ i = omega arith in
    let a : get_or (drop i us) 0 no_task ≡ get_or us (i + 0) no_task = get_or-drop i us 0 no_task in
    let b : get_or (drop i ts) 0 no_task ≡ get_or ts (i + 0) no_task = get_or-drop i ts 0 no_task in
    let c : get_or us (i + 0) no_task ≡ get_or ts (i + 0) no_task = sym a ∙ ap (λ (l : List Task). get_or l 0 no_task) w.rest ∙ b in
    rw e at c

-- one task more is put back
pub begun_more : (ts : List Task) (i : ℕ) (us : List Task) (touched : ℕ) (u : Task) → i < length us → Begun ts i us touched
    → Begun ts (i + 1) (set us i u) (if (same_task (get_or us i no_task) u) touched (union touched (seen_by (get_or us i no_task) u)))
begun_more ts i us touched u l w =
    record {
      size = length-set us i u ∙ w.size;
      rest = drop-set-lt (i + 1) us i u (omega arith) ∙ sym (drop-drop 1 i us) ∙ ap (drop 1) w.rest ∙ drop-drop 1 i ts;
      noted = rw w.noted (sym (touched_put no_task u i ts us l w.rest));
    }

-- one that stays as it is needs no store
pub begun_same : (ts : List Task) (i : ℕ) (us : List Task) (touched : ℕ) → Begun ts i us touched → Begun ts (i + 1) us touched
begun_same ts i us touched w =
    record { size = w.size; rest = sym (drop-drop 1 i us) ∙ ap (drop 1) w.rest ∙ drop-drop 1 i ts; noted = w.noted }

ok_is : (n : Narrowed) (u : Task) → Some u ≡ result_ok n → n ≡ Ok u
ok_is (Ok t) u e = cc
ok_is (Err v) u e = cc

none_is : (n : Narrowed) → None ≡ result_ok n → (v : Value) × (n ≡ Err v)
none_is (Ok t) e = cc
none_is (Err v) e = (v, refl)

module _ (f : Task → Narrowed) (ts : List Task) where
  -- and what is left to do gives the answer
  pub record Walk (i : ℕ) (us : List Task) (touched : ℕ) : Type 0 where
    pub begun : Begun ts i us touched
    pub left : each_left f i us ≡ each f ts

  pub walk_start : Walk 0 ts 0
  walk_start = record { begun = begun_start ts; left = each_start f ts }

  pub walk_next : (i : ℕ) (us : List Task) (touched : ℕ) → Walk i us touched → get_or us i no_task ≡ get_or ts i no_task
  walk_next i us touched w = begun_next ts i us touched w.begun

  pub walk_kept : (i : ℕ) (us : List Task) (touched : ℕ) (u : Task) → i < length us → Some u ≡ result_ok (f (get_or us i no_task)) → Walk i us touched
      → Walk (i + 1) (set us i u) (if (same_task (get_or us i no_task) u) touched (union touched (seen_by (get_or us i no_task) u)))
  walk_kept i us touched u l e w =
      record { begun = begun_more ts i us touched u l w.begun; left = each_kept f no_task u i us l (ok_is (f (get_or us i no_task)) u e) ∙ w.left }

  -- one put back as it is
  pub walk_same : (i : ℕ) (us : List Task) (touched : ℕ) → i < length us → f (get_or us i no_task) ≡ Ok (get_or us i no_task) → Walk i us touched
      → Walk (i + 1) (set us i (get_or us i no_task)) touched
  walk_same i us touched l e w =
      subst (λ (vs : List Task). Walk (i + 1) vs touched) (sym (set-get_or us i no_task))
      (record { begun = begun_same ts i us touched w.begun; left = each_same f no_task i us l e ∙ w.left })

  pub walk_out : (i : ℕ) (us : List Task) (touched : ℕ) → i < length us → None ≡ result_ok (f (get_or us i no_task)) → Walk i us touched → NoPlan ≡ each f ts
  walk_out i us touched l e w = let o = none_is (f (get_or us i no_task)) e in sym (sym w.left ∙ each_out f no_task o.0 i us l o.1)

  pub walk_end : (i : ℕ) (us : List Task) (touched : ℕ) → length us ≤ i → Walk i us touched → Plan us ≡ each f ts
  walk_end i us touched l w = sym (sym w.left ∙ each_end f i us l)

pub first_kept : (n : Narrowed) (o : Outcome) (u : Task) (us : List Task) → and_then n o ≡ Plan (u ∷ us) → (n ≡ Ok u) × (o ≡ Plan us)
first_kept (Err v) o u us h = no_plan (u ∷ us) h
first_kept (Ok v) NoPlan u us h = no_plan (u ∷ us) h
first_kept (Ok v) (Plan vs) u us h = (cc, cc)
