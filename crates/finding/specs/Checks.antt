-- Checks: what one answers by what it finds.
use Rattle.std.specs.Prelude.{ℕ, Some, None, Ok, Err, Option, Result}
use Rattle.finding.specs.declared.Finding.{Finding}

-- A cause at the place where it was found, if it was.
abbrev pub found : {C : Type 0} → C → Option ℕ → Option (Finding C)
found cause None = None
found cause (Some p) = Some (record { place = p; cause = cause })

-- A check passes where nothing was found, and else fails with what was found.
abbrev pub passes_unless : {F : Type 0} → Option F → Result Unit F
passes_unless None = Ok tt
passes_unless (Some f) = Err f
