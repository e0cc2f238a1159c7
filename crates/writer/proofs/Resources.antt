-- Under either mark a resource's fields stand alike.
use mathlib.Core.Path.{◌≡◌, ap, ◌∙◌}
use mathlib.Core.List.{List}
use Prim.Native.Nat.{ℕ}
use lib.Seq.{sets}
use Rattle.plan.specs.declared.Resource.{Resource}
use Rattle.format.specs.declared.Mark.TheVariants.{RS}
use Rattle.format.specs.Format.{mark, mark_size, widths, resource_mark, record_bytes, resource_numbers}
use Rattle.format.proofs.Stores.{stored, record_stored}
use Rattle.format.proofs.Records.{mark_widths}
use Rattle.format.proofs.Layouts.{resources_lawful}

pub either_stored : (q : Resource) (l : List ℕ) (at : ℕ) → sets l at (record_bytes (resource_mark q) (resource_numbers q)) ≡ stored (sets l at (mark (resource_mark q))) at mark_size (widths RS) (resource_numbers q)
either_stored q l at =
    let k = resource_mark q in
    record_stored k l at (resource_numbers q)
    ∙ ap (λ (ws : List ℕ). stored (sets l at (mark k)) at mark_size ws (resource_numbers q)) (mark_widths resources_lawful q)
