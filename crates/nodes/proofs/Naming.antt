-- The kind that has a number, read from the answer that a number has.
use Rattle.std.proofs.Common.{◌≡◌, ℕ, Some, None, Option, refl}
use Rattle.std.specs.Result.{result_ok}
use Rattle.nodes.specs.Kinds.{named}
use Rattle.nodes.specs.declared.kind.Kind.{Kind}

pub ok_named : (n : ℕ) (o : Option Kind) → result_ok (named n o) ≡ o
ok_named n None = refl
ok_named n (Some k) = refl
