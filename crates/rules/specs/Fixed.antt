-- A plan that leaves one choice: every range has one value and every set one resource.
use Rattle.std.specs.Prelude.{◌^◌, Bool, eqb}
use Rattle.integers.specs.Whole.{eq_z}
use Rattle.integers.specs.Tests.{and}
use Rattle.integers.specs.Hull.{range}
use Rattle.plan.specs.declared.Task.{Task}
use Rattle.plan.specs.Days.{span_of}
use Rattle.plan.specs.Powers.{power_span_of}
use Rattle.plan.specs.Sets.{set_bits, size}
use Rattle.rules.specs.Allowed.{Choice}

-- the task that leaves this choice alone
abbrev pub fixed : Choice → Task
fixed c =
    record {
      set = 2 ^ c.resource;
      origin = span_of (range c.origin c.origin);
      duration = span_of (range c.duration c.duration);
      end = span_of (range c.end c.end);
      height = power_span_of (range c.height c.height);
    }

unfoldable pub one_value : Task → Bool
one_value t =
    and (eq_z t.origin.low.0 t.origin.high.0)
    (and (eq_z t.duration.low.0 t.duration.high.0)
    (and (eq_z t.end.low.0 t.end.high.0) (eq_z t.height.low.0 t.height.high.0)))

unfoldable pub one_resource : Task → Bool
one_resource t = eqb (size set_bits t.set) 1
