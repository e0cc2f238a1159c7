-- What a step does to what it is lent to work in: it may hold anything after, and is as long as it was.
use Rattle.std.specs.Prelude.{◌≡◌, length}
use Rattle.profile.specs.declared.Work.{Work}

pub record Kept (before after : Work) : Type 0 where
  pub keys : length after.keys.now ≡ length before.keys.now
  pub stretches : length after.stretches.now ≡ length before.stretches.now
