-- Bytes of a file: windows, and numbers with their lowest byte first.
--
-- Every definition is total: what lies past the end of the file reads as 0, and a window is cut at the end. So a file
-- of any bytes has a meaning, and a damaged one can be shown as far as it goes.
use Rattle.std.specs.Prelude.{ℕ, ◌+◌, ◌*◌, List, take, drop, ℤ, slice_index}
use Rattle.std.specs.Int.{w64}
use Rattle.std.proofs.Common.{to_z}

abbrev pub byte : List ℕ → ℕ → ℕ
byte bs at = slice_index bs at

-- `size` bytes from `at` on.
abbrev pub window : List ℕ → ℕ → ℕ → List ℕ
window bs at size = take size (drop at bs)

abbrev pub le16 : List ℕ → ℕ → ℕ
le16 bs at = byte bs at + byte bs (at + 1) * 256

abbrev pub le32 : List ℕ → ℕ → ℕ
le32 bs at =
    byte bs at + byte bs (at + 1) * 256 + byte bs (at + 2) * 65536 + byte bs (at + 3) * 16777216

-- signed, by two's complement
abbrev pub le64 : List ℕ → ℕ → ℤ
le64 bs at =
    to_z w64
    (byte bs at + byte bs (at + 1) * 256 + byte bs (at + 2) * 65536 + byte bs (at + 3) * 16777216 + byte bs (at + 4) * 4294967296 + byte bs (at + 5) * 1099511627776 + byte bs (at + 6) * 281474976710656 + byte bs (at + 7) * 72057594037927936)
